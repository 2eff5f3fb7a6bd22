-- A trial authority has the shapes that a policy asks for.
use Rattle.std.proofs.Common.{◌≡◌, ◌<◌, ℕ, true, IsTrue, is_none, List, [], ◌∷◌, ◌++◌, length, length-take-le, take, sym, ap, subst, ◌∙◌, arith, append-nil, inl, refl}
use Rattle.std.specs.Prelude.{slice_index}
use Rattle.std.proofs.lemmas.Bool.{and_from, eq-eqb, le-leb}
use Rattle.civil_moment.specs.declared.moment.Moment.{Moment}
use Rattle.der_values.specs.Value.{value, length_octets}
use Rattle.der_values.specs.Next.{next_of}
use Rattle.der_values.proofs.Again.{next_again}
use Rattle.hash_kit.specs.declared.algorithm.HashAlg.TheVariants.{Sha256}
use Rattle.hash_kit.proofs.Sizes.{length-digest_of}
use Rattle.lms_sign.specs.Inside.{IsKey}
use Rattle.lms_sign.proofs.Levels.{no_fault}
use Rattle.algorithm_policy.specs.Words.{is_name, is_sid, is_key, is_named_alone}
use Rattle.algorithm_policy.specs.Content.{IsSigner}
use Rattle.trial_authority.specs.Key.{trial_key, public_of, certificate_of, sid_of}
use Rattle.trial_authority.specs.Signer.{signer_of_seed}

key_known : (seed : List ℕ) → IsKey (trial_key seed)
key_known seed = record { height = inl refl; ots_some = omega arith; ots_most = omega arith; some = omega arith; most = omega arith }

sound_key : (seed : List ℕ) → is_key (public_of seed) ≡ true
unfolding is_key
sound_key seed = ap is_none (no_fault (trial_key seed) (key_known seed))

value_of_20 : (content : List ℕ) → length content ≡ 20 → value 128 content ≡ 128 ∷ 20 ∷ content
unfolding value length_octets
value_of_20 content h = ap (λ n. 128 ∷ length_octets n ++ content) h

-- a subjectKeyIdentifier of 20 bytes
sound_sid : (content : List ℕ) → length content ≡ 20 → is_sid (128 ∷ 20 ∷ content) ≡ true
unfolding is_sid
sound_sid content h =
    let whole = sym (value_of_20 content h) ∙ sym (append-nil (value 128 content)) in
    and_from _ _ (le-leb (length (128 ∷ 20 ∷ content)) 1024 (omega (arith, h)))
    (ap (λ l. is_named_alone (next_of (record { place = 0; left = l }))) whole
    ∙ ap is_named_alone (next_again 0 128 content [] (λ e. cc e) (omega (arith, h))))

is_signer : (seed name : List ℕ) (end : Moment) → IsTrue (is_name name) → ((i : ℕ) → slice_index (sid_of seed) i < 256) → ((i : ℕ) → slice_index (public_of seed) i < 256)
    → ((i : ℕ) → slice_index (certificate_of seed) i < 256) → IsSigner (signer_of_seed seed name end)
is_signer seed name end named sid key cert =
    let long = length-digest_of Sha256 (public_of seed) in
    record {
      name = named;
      sid = sound_sid (take 20 (certificate_of seed)) (length-take-le 20 (certificate_of seed) (omega (arith, long)));
      key = sound_key seed;
      cert = eq-eqb (length (certificate_of seed)) 32 long;
      sid_bytes = sid;
      key_bytes = key;
      cert_bytes = cert;
    }

-- each byte is below 256
abbrev pub Octets : List ℕ → Type 0
Octets bytes = (i : ℕ) → slice_index bytes i < 256

-- the authority made of these parts
pub valid : (seed named name sid key cert sid_read key_read cert_read : List ℕ) (end : Moment) → IsTrue (is_name named) → name ≡ named → sid ≡ sid_of seed → key ≡ public_of seed → cert ≡ certificate_of seed
    → sid_read ≡ sid → key_read ≡ key → cert_read ≡ cert → Octets sid_read → Octets key_read → Octets cert_read
    → IsSigner (record { name = name; sid = sid; key = key; cert = cert; end = end })
valid seed named name sid key cert sid_read key_read cert_read end is a b c d e f g h k l =
    let same : signer_of_seed seed named end ≡ record { name = name; sid = sid; key = key; cert = cert; end = end } = λ i. record { name = sym a i; sid = sym b i; key = sym c i; cert = sym d i; end = end } in
    subst IsSigner same
    (is_signer seed named end is (subst Octets (e ∙ b) h) (subst Octets (f ∙ c) k) (subst Octets (g ∙ d) l))
