-- One-time signing, LM-OTS (RFC 8554, section 4), with values that come from a SEED (appendix A).
use Rattle.std.specs.Prelude.{ℕ, ◌-◌, ◌^◌, List, ◌∷◌, ◌++◌}
use Rattle.std.specs.Int.{w32, to_be_bytes}
use Rattle.lms_verify.specs.declared.ots.OtsSet.{OtsSet}
use Rattle.lms_verify.specs.Ots.{set_of, hash_of, coef, with_checksum, after_steps, joined, message_hash}
use Rattle.lms_sign.specs.declared.secret.TreeSecret.{TreeSecret}

-- x[i] = H(I || u32str(q) || u16str(i) || u8str(0xff) || SEED) (appendix A)
unfoldable pub secret_value : TreeSecret → ℕ → ℕ → List ℕ
secret_value tree leaf i = hash_of tree.identifier leaf i (0xff ∷ tree.seed)

-- the randomizer of a leaf, C = H(I || u32str(q) || u16str(0xfffd) || u8str(0xff) || SEED): 4.5 leaves it to the signer
unfoldable pub randomizer_of : TreeSecret → ℕ → List ℕ
randomizer_of tree leaf = hash_of tree.identifier leaf 0xfffd (0xff ∷ tree.seed)

-- x[i] after so many steps (4.3, 4.5)
unfoldable pub value_after : TreeSecret → ℕ → ℕ → ℕ → List ℕ
value_after tree leaf i steps = after_steps steps tree.identifier leaf i 0 (secret_value tree leaf i)

-- K, over the ends of all chains (4.3, algorithm 1)
unfoldable pub ots_key : TreeSecret → ℕ → List ℕ
ots_key tree leaf =
    let set : OtsSet = set_of tree.ots_type in
    hash_of tree.identifier leaf 0x8080 (joined (λ i. value_after tree leaf i (2 ^ set.width - 1)) set.digits)

-- y[0] || .. || y[p-1], each value after as many steps as its digit of the hash and its checksum (4.5, algorithm 3)
unfoldable pub signed_values : TreeSecret → ℕ → List ℕ → List ℕ
signed_values tree leaf hash =
    let set : OtsSet = set_of tree.ots_type in
    joined (λ i. value_after tree leaf i (coef (with_checksum set hash) i set.width)) set.digits

-- a one-time signature: the type, C and y (4.5, algorithm 3)
unfoldable pub ots_signature : TreeSecret → ℕ → List ℕ → List ℕ
ots_signature tree leaf message =
    let randomizer : List ℕ = randomizer_of tree leaf in
    to_be_bytes w32 tree.ots_type ++ randomizer
    ++ signed_values tree leaf (message_hash tree.identifier leaf randomizer message)
