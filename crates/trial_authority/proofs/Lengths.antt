-- How long the parts of a reply are.
use Rattle.std.proofs.Common.{◌≡◌, ℕ, ◌+◌, ◌≤◌, List, [], ◌∷◌, ◌++◌, length, take, Option, Some, None, inl, refl, arith, length-append, length-take-le}
use Rattle.std.proofs.lemmas.Bool.{cond_both}
use Rattle.std.specs.Prelude.{nat_lt, ◌/◌, ◌%◌}
use Rattle.std.specs.Int.{w32, to_be_bytes}
use Rattle.civil_moment.specs.declared.moment.Moment.{Moment}
use Rattle.civil_moment.specs.Moment.{Text}
use Rattle.hash_kit.specs.declared.algorithm.HashAlg.TheVariants.{Sha256}
use Rattle.hash_kit.proofs.Sizes.{length-digest_of}
use Rattle.der_values.specs.Value.{value, bytes_or_none}
use Rattle.der_values.proofs.Values.{value_length}
use Rattle.lms_sign.specs.declared.secret.HssSecret.{HssSecret}
use Rattle.lms_sign.specs.Lms.{lms_public, lms_signature}
use Rattle.lms_sign.specs.Hss.{tree_numbered, tree_at, leaf_at, number_at, signed_key, hss_signature}
use Rattle.lms_sign.specs.Inside.{IsKey}
use Rattle.lms_sign.proofs.Trees.{length-lms_public, length-lms_signature}
use Rattle.lms_sign.proofs.Levels.{known_tree}
use Rattle.tst_info.specs.Request.{ToStamp}
use Rattle.tst_info.specs.Info.{tst_contents, with_text}
use Rattle.tst_info.specs.Imprint.{imprint_text}
use Rattle.der_values.specs.Algorithm.{name_contents}
use Rattle.tst_info.specs.Spelling.{nonce_text}
use Rattle.tst_info.proofs.Small.{sizes, time_length}
use Rattle.trial_authority.specs.Key.{trial_key, certificate_of, public_of}
use Rattle.trial_authority.specs.Reply.{trial_policy, positive, info_with}

-- ---- the signature

pub known_key : (seed : List ℕ) → IsKey (trial_key seed)
known_key seed = record { height = inl refl; ots_some = omega arith; ots_most = omega arith; some = omega arith; most = omega arith }

-- a signature of one tree of height 5 with digits of 4 bits
lms_size : (seed : List ℕ) (level number leaf : ℕ) (message : List ℕ) → length (lms_signature (tree_numbered (trial_key seed) level number) leaf message) ≡ 2348
unfolding tree_numbered
lms_size seed level number leaf message = length-lms_signature (tree_numbered (trial_key seed) level number) leaf message

pub length-signature : (seed : List ℕ) (index : ℕ) (message : List ℕ) → length (hss_signature (trial_key seed) index message) ≡ 4756
unfolding hss_signature signed_key
length-signature seed index message =
    let key : HssSecret = trial_key seed in
    let next : List ℕ = lms_public (tree_at key index 1) in
    let upper : List ℕ = lms_signature (tree_at key index 0) (leaf_at key index 0) next in
    let lower : List ℕ = lms_signature (tree_at key index 1) (leaf_at key index 1) message in
    let one : length upper ≡ 2348 = lms_size seed 0 (number_at key index 0) (leaf_at key index 0) next in
    let two : length lower ≡ 2348 = lms_size seed 1 (number_at key index 1) (leaf_at key index 1) message in
    let size : length next ≡ 56 = length-lms_public (tree_at key index 1) (known_tree key 1 (number_at key index 1) (known_key seed)) in
    omega (arith, one, two, size, length-append upper next, length-append (to_be_bytes w32 1) (upper ++ next), length-append (to_be_bytes w32 1 ++ (upper ++ next)) lower)

pub length-certificate : (seed : List ℕ) → length (certificate_of seed) ≡ 32
length-certificate seed = length-digest_of Sha256 (public_of seed)

pub length-identifier : (seed : List ℕ) → length (take 20 (certificate_of seed)) ≡ 20
length-identifier seed = length-take-le 20 (certificate_of seed) (omega (arith, length-certificate seed))

-- ---- the TSTInfo

pub positive_length : (n : ℕ) → length (positive n) ≤ 2
positive_length n = cond_both (nat_lt n 128) (n ∷ []) (n / 256 ∷ n % 256 ∷ []) (λ (l : List ℕ). length l ≤ 2) (λ e. omega arith) (λ e. omega arith)

nonce_length : (nonce : Option (List ℕ)) → length (nonce_text nonce) ≤ length (bytes_or_none nonce) + 6
nonce_length None = omega arith
nonce_length (Some n) = value_length 2 n

name_short : (oid : List ℕ) → length (name_contents (record { oid = oid; params = None })) ≤ length oid + 6
name_short oid = omega (arith, length-append (value 6 oid) [], value_length 6 oid)

imprint_short : (oid imprint : List ℕ) → length (imprint_text (record { oid = oid; params = None }) imprint) ≤ length oid + length imprint + 18
imprint_short oid imprint =
    let name : List ℕ = name_contents (record { oid = oid; params = None }) in
    omega (arith, name_short oid, value_length 48 name, value_length 4 imprint, length-append (value 48 name) (value 4 imprint))

pub info_short : (asked : ToStamp) (serial : List ℕ) (now : Moment) (text : List ℕ) → length serial ≤ 2 → Text text now
    → length (tst_contents (with_text text (info_with asked serial now))) ≤ sizes asked.hash asked.imprint asked.nonce + 100
info_short asked serial now text few said =
    let version = value 2 (1 ∷ []) in
    let a = value 6 trial_policy in
    let whole : List ℕ = imprint_text (record { oid = asked.hash.oid; params = None }) asked.imprint in
    let b = value 48 whole in
    let c = value 2 serial in
    let d = value 24 text in
    omega (
      arith,
      few,
      time_length text now said,
      length-append (version ++ a ++ b ++ c ++ d ++ []) (nonce_text asked.nonce),
      length-append (version ++ a ++ b ++ c ++ d) [],
      length-append (version ++ a ++ b ++ c) d,
      length-append (version ++ a ++ b) c,
      length-append (version ++ a) b,
      length-append version a,
      value_length 2 (1 ∷ []),
      value_length 6 trial_policy,
      value_length 48 whole,
      imprint_short asked.hash.oid asked.imprint,
      value_length 2 serial,
      value_length 24 text,
      nonce_length asked.nonce,
    )
