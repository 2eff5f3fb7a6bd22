-- One-time signatures, LM-OTS (RFC 8554, section 4), with SHA-256 and values of 32 bytes.
use Rattle.std.specs.Prelude.{◌≡◌, ◌⊎◌, ℕ, zero, suc, ◌+◌, ◌-◌, ◌*◌, ◌/◌, ◌%◌, ◌^◌, ◌==◌, List, [], ◌∷◌, ◌++◌, take, drop, slice_index, bit_and, if◌then◌else◌}
use Rattle.std.specs.Int.{w16, w32, to_be_bytes}
use Rattle.hash_kit.specs.Digest.{digest_of}
use Rattle.hash_kit.specs.declared.algorithm.HashAlg.TheVariants.{Sha256}
use Rattle.lms_verify.specs.declared.ots.OtsSet.{OtsSet}

-- lmots_sha256_n32_w1 to lmots_sha256_n32_w8: w bits a digit, p digits, and the shift ls of the checksum (4.1, table 1)
abbrev pub set_of : ℕ → OtsSet
set_of ots_type =
    if ots_type == 1 then record { width = 1; digits = 265; shift = 7 }
    else (if ots_type == 2 then record { width = 2; digits = 133; shift = 6 }
    else (if ots_type == 3 then record { width = 4; digits = 67; shift = 4 }
    else record { width = 8; digits = 34; shift = 0 }))

-- a parameter set is that of a type from 1 to 4
abbrev pub IsSet : OtsSet → Type 0
IsSet set = (set ≡ set_of 1) ⊎ (set ≡ set_of 2) ⊎ (set ≡ set_of 3) ⊎ (set ≡ set_of 4)

-- H(I || u32str(number) || u16str(mark) || rest): the mark says what is hashed (7.1)
unfoldable pub hash_of : List ℕ → ℕ → ℕ → List ℕ → List ℕ
hash_of identifier number mark rest =
    digest_of Sha256 (identifier ++ to_be_bytes w32 number ++ to_be_bytes w16 mark ++ rest)

-- digit i of w bits, coef(S, i, w) (3.1.3)
unfoldable pub coef : List ℕ → ℕ → ℕ → ℕ
coef bytes i w = bit_and (2 ^ w - 1) (slice_index bytes (i * w / 8) / 2 ^ (8 - (w * (i % (8 / w)) + w)))

-- f(0) + .. + f(count - 1)
abbrev pub total : (ℕ → ℕ) → ℕ → ℕ
total f zero = 0
total f (suc count) = total f count + f count

-- what the digits of a hash lack to their greatest value, in all, shifted to the left: Cksm(S) (4.4, algorithm 2)
unfoldable pub checksum : OtsSet → List ℕ → ℕ
checksum set hash =
    total (λ i. 2 ^ set.width - 1 - coef hash i set.width) (256 / set.width) * 2 ^ set.shift

-- the hash and its checksum, Q || Cksm(Q), of which the digits are taken (4.5, 4.6)
unfoldable pub with_checksum : OtsSet → List ℕ → List ℕ
with_checksum set hash = hash ++ to_be_bytes w16 (checksum set hash)

-- the value of digit i after so many steps, of which the first is step j: a step hashes u8str(j) and the value (4.6)
unfoldable pub after_steps : ℕ → List ℕ → ℕ → ℕ → ℕ → List ℕ → List ℕ
after_steps zero identifier leaf i j value = value
after_steps (suc count) identifier leaf i j value =
    after_steps count identifier leaf i (j + 1) (hash_of identifier leaf i (j ∷ value))

-- z[i]: the value y[i] after the steps from the digit to 2^w - 2 (4.6, algorithm 4b)
unfoldable pub end_of : OtsSet → List ℕ → ℕ → List ℕ → List ℕ → ℕ → List ℕ
end_of set identifier leaf digits values i =
    after_steps (2 ^ set.width - 1 - coef digits i set.width) identifier leaf i (coef digits i set.width)
    (take 32 (drop (32 * i) values))

-- f(0) || .. || f(count - 1)
abbrev pub joined : (ℕ → List ℕ) → ℕ → List ℕ
joined f zero = []
joined f (suc count) = joined f count ++ f count

-- Q = H(I || u32str(q) || u16str(D_MESG) || C || message) (4.6)
unfoldable pub message_hash : List ℕ → ℕ → List ℕ → List ℕ → List ℕ
message_hash identifier leaf randomizer message = hash_of identifier leaf 0x8181 (randomizer ++ message)

-- Kc = H(I || u32str(q) || u16str(D_PBLC) || z[0] || .. || z[p-1]) (4.6)
unfoldable pub ots_candidate : OtsSet → List ℕ → ℕ → List ℕ → List ℕ → List ℕ
ots_candidate set identifier leaf hash values =
    hash_of identifier leaf 0x8080 (joined (end_of set identifier leaf (with_checksum set hash) values) set.digits)
