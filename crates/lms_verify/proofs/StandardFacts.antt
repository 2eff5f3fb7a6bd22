-- Worked values of the definitions, from the standard, so that a wrong rule in the specs does not check.
use Rattle.std.proofs.Common.{◌≡◌, ◌+◌, ◌*◌, [], ◌∷◌, refl}
use Rattle.std.specs.Prelude.{replicate}
use Rattle.lms_verify.specs.Ots.{set_of, coef, checksum}
use Rattle.lms_verify.specs.Lms.{height_of, signature_size}

-- digits of the bytes 12 34 (RFC 8554, 3.1.3)
digit_of_one_bit : coef (0x12 ∷ 0x34 ∷ []) 7 1 ≡ 0
unfolding coef
digit_of_one_bit = refl

digit_of_four_bits : coef (0x12 ∷ 0x34 ∷ []) 0 4 ≡ 1
unfolding coef
digit_of_four_bits = refl

-- the checksums of 32 zero bytes, for digits of 1, 2, 4 and 8 bits: each digit lacks all (4.4)
lacks_all : (checksum (set_of 1) (replicate 32 0) ≡ 0x8000) × (checksum (set_of 2) (replicate 32 0) ≡ 0x6000) × (checksum (set_of 3) (replicate 32 0) ≡ 0x3c00) × (checksum (set_of 4) (replicate 32 0) ≡ 0x1fe0)
unfolding coef checksum
lacks_all = (refl, refl, refl, refl)

-- of 32 bytes ff: no digit lacks anything
lacks_nothing : (checksum (set_of 1) (replicate 32 255) ≡ 0) × (checksum (set_of 4) (replicate 32 255) ≡ 0)
unfolding coef checksum
lacks_nothing = (refl, refl)

-- the sizes of LMS signatures of height 5, with digits of 4 and of 8 bits (5.4)
size_w4 : signature_size (set_of 3) (height_of 5) ≡ 2348
size_w4 = refl

size_w8 : signature_size (set_of 4) (height_of 5) ≡ 1292
size_w8 = refl

-- of an HSS signature of two levels, with digits of 4 bits: two LMS signatures and a signed public key (6.2)
size_two_levels : 4 + 2 * signature_size (set_of 3) (height_of 5) + 56 ≡ 4756
size_two_levels = refl

-- the sizes of one-time signatures, 4 + 32 (p + 1) (4.5; table 1 has sig_len 8516, 4292, 2180, 1124)
one_time_sizes : (36 + 32 * (set_of 1).digits ≡ 8516) × (36 + 32 * (set_of 2).digits ≡ 4292) × (36 + 32 * (set_of 3).digits ≡ 2180) × (36 + 32 * (set_of 4).digits ≡ 1124)
one_time_sizes = (refl, refl, refl, refl)
