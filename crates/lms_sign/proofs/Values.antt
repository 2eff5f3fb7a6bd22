-- The values of a one-time signature lead to the one-time public key.
use Rattle.std.proofs.Common.{◌≡◌, ℕ, zero, suc, ◌+◌, ◌-◌, ◌*◌, ◌^◌, ◌<◌, ◌≤◌, List, ◌∷◌, ◌++◌, length, refl, sym, ap, ◌∙◌, arith}
use Rattle.std.proofs.lemmas.Nat.{and_le_l}
use Rattle.hash_kit.proofs.Sizes.{length-digest_of}
use Rattle.hash_kit.specs.declared.algorithm.HashAlg.TheVariants.{Sha256}
use Rattle.lms_verify.specs.declared.ots.OtsSet.{OtsSet}
use Rattle.lms_verify.specs.Ots.{set_of, hash_of, coef, with_checksum, after_steps, end_of, joined, ots_candidate}
use Rattle.lms_verify.proofs.Chains.{more_steps, length-joined, taken}
use Rattle.lms_sign.specs.declared.secret.TreeSecret.{TreeSecret}
use Rattle.lms_sign.specs.Ots.{secret_value, value_after, ots_key, signed_values}

pub length-hash_of : (identifier : List ℕ) (number mark : ℕ) (rest : List ℕ) → length (hash_of identifier number mark rest) ≡ 32
unfolding hash_of
length-hash_of identifier number mark rest = length-digest_of Sha256 _

length-after_steps : (count : ℕ) (identifier : List ℕ) (leaf i j : ℕ) (value : List ℕ) → length value ≡ 32 → length (after_steps count identifier leaf i j value) ≡ 32
unfolding after_steps
length-after_steps zero identifier leaf i j value h = h
length-after_steps (suc count) identifier leaf i j value h =
    length-after_steps count identifier leaf i (j + 1) (hash_of identifier leaf i (j ∷ value)) (length-hash_of identifier leaf i (j ∷ value))

pub length-value_after : (tree : TreeSecret) (leaf i steps : ℕ) → length (value_after tree leaf i steps) ≡ 32
unfolding value_after secret_value
length-value_after tree leaf i steps =
    length-after_steps steps tree.identifier leaf i 0 (secret_value tree leaf i) (length-hash_of tree.identifier leaf i (0xff ∷ tree.seed))

pub length-signed_values : (tree : TreeSecret) (leaf : ℕ) (hash : List ℕ) → length (signed_values tree leaf hash) ≡ 32 * (set_of tree.ots_type).digits
unfolding signed_values
length-signed_values tree leaf hash = length-joined _ (λ i. length-value_after tree leaf i _) (set_of tree.ots_type).digits

coef-le : (bytes : List ℕ) (i w : ℕ) → coef bytes i w ≤ 2 ^ w - 1
unfolding coef
coef-le bytes i w = and_le_l (2 ^ w - 1) _

same_joined : (f g : ℕ → List ℕ) (count : ℕ) → ((i : ℕ) → i < count → f i ≡ g i) → joined f count ≡ joined g count
same_joined f g zero h = refl
same_joined f g (suc count) h =
    let first : joined f count ≡ joined g count = same_joined f g count (λ i low. h i (omega arith)) in
    let last : f count ≡ g count = h count (omega arith) in
    λ k. first k ++ last k

-- the steps of the signer and those of the verifier are all steps of a chain
all_steps : (tree : TreeSecret) (leaf i c top : ℕ) → c ≤ top → after_steps (top - c) tree.identifier leaf i c (value_after tree leaf i c) ≡ value_after tree leaf i top
unfolding value_after
all_steps tree leaf i c top h =
    let at : c ≡ 0 + c = omega arith in
    let whole : c + (top - c) ≡ top = omega arith in
    let secret = secret_value tree leaf i in
    ap (λ j. after_steps (top - c) tree.identifier leaf i j (after_steps c tree.identifier leaf i 0 secret)) at
    ∙ sym (more_steps c (top - c) tree.identifier leaf i 0 secret)
    ∙ ap (λ n. after_steps n tree.identifier leaf i 0 secret) whole

end_is : (tree : TreeSecret) (leaf : ℕ) (hash : List ℕ) (i : ℕ) → i < (set_of tree.ots_type).digits → end_of (set_of tree.ots_type) tree.identifier leaf (with_checksum (set_of tree.ots_type) hash) (signed_values tree leaf hash) i ≡ value_after tree leaf i (2 ^ (set_of tree.ots_type).width - 1)
unfolding end_of signed_values
end_is tree leaf hash i h =
    let set : OtsSet = set_of tree.ots_type in
    let digits : List ℕ = with_checksum set hash in
    let value : ℕ → List ℕ = (λ k. value_after tree leaf k (coef digits k set.width)) in
    let c : ℕ = coef digits i set.width in
    ap (after_steps (2 ^ set.width - 1 - c) tree.identifier leaf i c) (taken value (λ k. length-value_after tree leaf k _) set.digits i h)
    ∙ all_steps tree leaf i c (2 ^ set.width - 1) (coef-le digits i set.width)

-- K is what a verifier finds (RFC 8554, 4.6)
pub candidate_is : (tree : TreeSecret) (leaf : ℕ) (hash : List ℕ) → ots_candidate (set_of tree.ots_type) tree.identifier leaf hash (signed_values tree leaf hash) ≡ ots_key tree leaf
unfolding ots_candidate ots_key
candidate_is tree leaf hash =
    ap (hash_of tree.identifier leaf 0x8080) (same_joined _ _ (set_of tree.ots_type).digits (end_is tree leaf hash))
