-- The definitions at values from outside, so that a wrong rule in the specs does not check.
use Rattle.std.proofs.Common.{◌≡◌, [], ◌∷◌, true, false, Some, None, refl}
use Rattle.hash_kit.specs.declared.algorithm.HashAlg.TheVariants.{Sha256, Sha384, Sha512}
use Rattle.cms_signed.specs.Names.{known_hash}
use Rattle.token_check.specs.Fault.{is_certificate}

-- 2.16.840.1.101.3.4.2.1 to 3 with absent or NULL parameters (RFC 5754, 2), and no others
pub known_hashes : (known_hash (record { oid = 0x60 ∷ 0x86 ∷ 0x48 ∷ 1 ∷ 0x65 ∷ 3 ∷ 4 ∷ 2 ∷ 1 ∷ []; params = None }) ≡ Some Sha256)
    × (known_hash (record { oid = 0x60 ∷ 0x86 ∷ 0x48 ∷ 1 ∷ 0x65 ∷ 3 ∷ 4 ∷ 2 ∷ 2 ∷ []; params = Some (5 ∷ 0 ∷ []) }) ≡ Some Sha384)
    × (known_hash (record { oid = 0x60 ∷ 0x86 ∷ 0x48 ∷ 1 ∷ 0x65 ∷ 3 ∷ 4 ∷ 2 ∷ 3 ∷ []; params = None }) ≡ Some Sha512)
    × (known_hash (record { oid = 0x60 ∷ 0x86 ∷ 0x48 ∷ 1 ∷ 0x65 ∷ 3 ∷ 4 ∷ 2 ∷ 1 ∷ []; params = Some (5 ∷ 1 ∷ 0 ∷ []) }) ≡ None)
    -- SHA-224, and SHA-1, 1.3.14.3.2.26
    × (known_hash (record { oid = 0x60 ∷ 0x86 ∷ 0x48 ∷ 1 ∷ 0x65 ∷ 3 ∷ 4 ∷ 2 ∷ 4 ∷ []; params = None }) ≡ None)
    × (known_hash (record { oid = 0x2b ∷ 14 ∷ 3 ∷ 2 ∷ 26 ∷ []; params = None }) ≡ None)
known_hashes = (refl, refl, refl, refl, refl, refl)

-- A certificate is named by all of its hash, or not at all.
pub known_certificates : (is_certificate None (1 ∷ 2 ∷ []) ≡ false)
    × (is_certificate (Some (1 ∷ 2 ∷ [])) (1 ∷ 2 ∷ []) ≡ true)
    × (is_certificate (Some (1 ∷ [])) (1 ∷ 2 ∷ []) ≡ false)
known_certificates = (refl, refl, refl)
