-- Worked values of the definitions, so that a wrong rule in the specs does not check.
use Rattle.std.proofs.Common.{◌≡◌, true, false, List, [], ◌∷◌, Some, None, map, refl}
use Rattle.algorithm_policy.specs.Content.{epoch}
use Rattle.hash_kit.specs.declared.algorithm.HashAlg.TheVariants.{Sha384, Sha512}
use Rattle.evidence_syntax.specs.Stamps.{Stamp}
use Rattle.evidence_verify.specs.declared.verdict.Cause.TheVariants.{Key, Hash}
use Rattle.evidence_verify.specs.declared.verdict.Mode.TheVariants.{Member}
use Rattle.evidence_verify.specs.Stamps.{Place, places_of}
use Rattle.evidence_verify.specs.Hashes.{is_named}
use Rattle.evidence_verify.specs.Values.{Owed}
use Rattle.evidence_verify.specs.Covers.{whole_fault}
use Rattle.evidence_verify.specs.Marks.{Mark, key_lapse, hash_lapse, lapse_by}

-- two chains, of two time-stamps and of one: their chains, their numbers in these, and the chains before
numbers : (a b c : Stamp) → map (λ (p : Place). p.chain) (places_of ((a ∷ b ∷ []) ∷ (c ∷ []) ∷ [])) ≡ 0 ∷ 0 ∷ 1 ∷ []
numbers a b c = refl

numbers_in_chain : (a b c : Stamp) → map (λ (p : Place). p.stamp) (places_of ((a ∷ b ∷ []) ∷ (c ∷ []) ∷ [])) ≡ 0 ∷ 1 ∷ 0 ∷ []
numbers_in_chain a b c = refl

chains_before : (a b c : Stamp) → map (λ (p : Place). p.older) (places_of ((a ∷ b ∷ []) ∷ (c ∷ []) ∷ [])) ≡ [] ∷ [] ∷ ((a ∷ b ∷ []) ∷ []) ∷ []
chains_before a b c = refl

-- SHA-384 by its identifier (RFC 5754, 2.3) with NULL, and with other parameters; SHA-256 in its place; none named
by_null : is_named Sha384 (Some (record { oid = 0x60 ∷ 0x86 ∷ 0x48 ∷ 0x01 ∷ 0x65 ∷ 0x03 ∷ 0x04 ∷ 0x02 ∷ 0x02 ∷ []; params = Some (5 ∷ 0 ∷ []) })) ≡ true
by_null = refl

by_other : is_named Sha384 (Some (record { oid = 0x60 ∷ 0x86 ∷ 0x48 ∷ 0x01 ∷ 0x65 ∷ 0x03 ∷ 0x04 ∷ 0x02 ∷ 0x02 ∷ []; params = Some (5 ∷ 1 ∷ 0 ∷ []) })) ≡ false
by_other = refl

by_sha256 : is_named Sha384 (Some (record { oid = 0x60 ∷ 0x86 ∷ 0x48 ∷ 0x01 ∷ 0x65 ∷ 0x03 ∷ 0x04 ∷ 0x02 ∷ 0x01 ∷ []; params = None })) ≡ false
by_sha256 = refl

by_none : is_named Sha512 None ≡ true
by_none = refl

-- an end is exclusive, and only the last of a chain is judged by its hash
at_the_end : (m : Mark) → key_lapse m epoch (Some epoch) ≡ Some (lapse_by m Key epoch)
at_the_end m = refl

of_the_hash : (m : Mark) → hash_lapse m epoch true epoch ≡ Some (lapse_by m Hash epoch)
of_the_hash m = refl

not_the_last : (m : Mark) → hash_lapse m epoch false epoch ≡ None
not_the_last m = refl

-- for members nothing is asked of the whole
for_members : (all_owed : List Owed) → whole_fault Member all_owed ≡ None
for_members all_owed = refl
