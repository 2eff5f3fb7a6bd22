-- The values of documents in a chain, by the contents of the sequence of the older ones.
use Rattle.std.proofs.Common.{◌≡◌, true, false, ℕ, ◌+◌, ◌<◌, ◌≤◌, List, [], ◌∷◌, ◌++◌, ◌-◌, length, take, drop, map, refl, ap, subst, ◌∙◌, arith}
use Rattle.std.specs.Prelude.{◌==◌}
use Rattle.std.specs.Int.{w32, to_be_bytes}
use Rattle.std.specs.List.{flat_map}
use Rattle.std.proofs.lemmas.Bool.{false≢true}
use Rattle.std.proofs.lemmas.Bool.Decides.{nat_tests}
use Rattle.hash_kit.specs.declared.algorithm.HashAlg.{HashAlg}
use Rattle.hash_kit.specs.Digest.{digest_of}
use Rattle.der_values.specs.Value.{extra, length_octets, value}
use Rattle.der_values.proofs.Octets.{be_octets}
use Rattle.der_values.proofs.Values.{long_is_octets}
use Rattle.evidence_syntax.specs.Stamps.{Stamp}
use Rattle.evidence_syntax.specs.Text.{chain_text}
use Rattle.evidence_syntax.specs.DocumentValue.{values_after}

-- a header whose length has the long form
pub long_header : (octets first new : List ℕ) (n k : ℕ) → 128 ≤ n → k ≡ extra n → k ≤ 4 → octets ≡ to_be_bytes w32 n → first ≡ 48 ∷ (128 + k) ∷ []
    → new ≡ first ++ take (4 - (4 - k)) (drop (4 - k) octets) → new ≡ 48 ∷ length_octets n
long_header octets first new n k le e few b f d = d ∙ rw (b, be_octets k n few, f, e, long_is_octets n le) refl

-- a chain has a spelling of some bytes
pub some_chains : (chain : List Stamp) (rest : List (List Stamp)) → 0 < length (flat_map chain_text (chain ∷ rest))
unfolding value
some_chains chain rest = omega arith

-- behind none
pub first_values : (alg : HashAlg) (bytes contents : List ℕ) (chains : List (List Stamp)) (documents : List (List ℕ)) → true ≡ (length bytes == 0) → bytes ≡ contents → contents ≡ flat_map chain_text chains
    → map (digest_of alg) documents ≡ values_after alg chains documents
first_values alg bytes contents [] documents none same are = refl
first_values alg bytes contents (c ∷ cs) documents none same are =
    let zero : length bytes ≡ 0 = grind (arith, nat_tests) in
    absurd (omega (arith, zero, ap length same, ap length are, some_chains c cs))

-- behind some
pub later_values : (alg : HashAlg) (bytes contents : List ℕ) (chains : List (List Stamp)) (hash : List ℕ) (documents : List (List ℕ)) → false ≡ (length bytes == 0) → bytes ≡ contents → contents ≡ flat_map chain_text chains
    → hash ≡ digest_of alg (value 48 bytes)
    → map (λ (d : List ℕ). digest_of alg (digest_of alg d ++ hash)) documents ≡ values_after alg chains documents
later_values alg bytes contents [] hash documents some same are is =
    absurd (false≢true (subst (λ (l : List ℕ). false ≡ (length l == 0)) (same ∙ are) some))
later_values alg bytes contents (c ∷ cs) hash documents some same are is =
    let whole = is ∙ ap (λ (t : List ℕ). digest_of alg (value 48 t)) (same ∙ are) in
    ap (λ (h : List ℕ). map (λ (d : List ℕ). digest_of alg (digest_of alg d ++ h)) documents) whole
