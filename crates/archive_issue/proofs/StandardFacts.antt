-- Worked values of the definitions, so that a wrong rule in the specs does not check.
use Rattle.std.proofs.Common.{◌≡◌, true, false, [], ◌∷◌, map, Some, None, pos, lit<, refl}
use Rattle.civil_moment.specs.declared.moment.Moment.{Moment}
use Rattle.hash_kit.specs.declared.algorithm.HashAlg.TheVariants.{Sha256, Sha384, Sha512}
use Rattle.algorithm_policy.specs.Content.{Content, epoch}
use Rattle.evidence_syntax.specs.Stamps.{Stamp}
use Rattle.evidence_verify.specs.Marks.{Mark, lapse_by}
use Rattle.evidence_verify.specs.declared.verdict.Cause.TheVariants.{Hash}
use Rattle.entry_codec.specs.declared.entry.Entry.TheVariants.{Deposit, Seal, RenewStamps, RenewTrees, SetPolicy}
use Rattle.archive_chain.specs.Kept.{Kept}
use Rattle.archive_chain.specs.Steps.{cover_at}
use Rattle.archive_issue.specs.declared.fault.IssueFault.TheVariants.{Unknown, Pending, Early, Lapsed}
use Rattle.archive_issue.specs.Record.{each_once, documents_of, record_after}
use Rattle.archive_issue.specs.Reason.{reason_of}
use Rattle.archive_issue.specs.Plans.{touches}

-- ---- hashes

used : each_once [] (Sha384 ∷ Sha256 ∷ Sha384 ∷ Sha384 ∷ Sha256 ∷ Sha512 ∷ []) ≡ Sha384 ∷ Sha256 ∷ Sha512 ∷ []
used = refl

-- ---- reasons

-- the first second of 1970, and the one after it
abbrev later : Moment
later = record { seconds = pos 1; nanos = 0; from_1970 = record { le = tt }; until_9999 = record { le = tt }; below_second = lit< tt }

abbrev mark : Moment → Mark
mark time = record { chain = 0; stamp = 0; alg = Sha256; time = time; sid = [] }

-- one group that was sealed, and two that are pending
abbrev three_groups : Kept
three_groups = record { entries = 2; documents = 3; bytes = 0; sealed = (cover_at 1 true Sha256 [] 0 ∷ []) ∷ []; pending = 2 }

-- SHA-256 is good before the second one, and no key ends
abbrev until_later : Content
until_later = record { sha256 = Some later; sha384 = None; sha512 = None; signers = [] }

no_group : reason_of three_groups until_later 3 epoch [] ≡ Some (Unknown 3 3)
no_group = refl

not_sealed : map (λ id. reason_of three_groups until_later id epoch []) (1 ∷ 2 ∷ []) ≡ Some (Pending 1) ∷ Some (Pending 2) ∷ []
not_sealed = refl

-- at the time of the last time-stamp, before it, and at the end of the hash
at_its_time : reason_of three_groups until_later 0 epoch (mark epoch ∷ []) ≡ None
at_its_time = refl

before_its_time : reason_of three_groups until_later 0 epoch (mark epoch ∷ mark later ∷ []) ≡ Some (Early epoch later)
before_its_time = refl

at_the_end : reason_of three_groups until_later 0 later (mark epoch ∷ []) ≡ Some (Lapsed (lapse_by (mark epoch) Hash later))
at_the_end = refl

-- ---- records

-- a group before its seal and after it
sealed : (documents_of (Deposit (((97 ∷ []) ∷ []) ∷ []) ∷ Seal Sha256 1 (1 ∷ []) ∷ []) 0 ≡ (97 ∷ []) ∷ [])
    × (map (map (λ (s : Stamp). s.token)) (record_after (Deposit (((97 ∷ []) ∷ []) ∷ []) ∷ Seal Sha256 1 (1 ∷ []) ∷ []) 0).chains ≡ ((1 ∷ []) ∷ []) ∷ [])
    × ((record_after (Deposit (((97 ∷ []) ∷ []) ∷ []) ∷ []) 0).chains ≡ [])
sealed = (refl, refl, refl)

-- ---- plans

met : (touches (Seal Sha256 1 []) (Seal Sha512 2 []) ≡ true) × (touches (RenewStamps Sha256 (1 ∷ 2 ∷ []) []) (RenewTrees Sha512 (2 ∷ 3 ∷ []) []) ≡ true)
    × (touches (RenewTrees Sha256 (1 ∷ 2 ∷ []) []) (RenewStamps Sha256 (3 ∷ []) []) ≡ false) × (touches (Seal Sha256 1 []) (RenewTrees Sha256 (1 ∷ []) []) ≡ false)
    × (touches (Deposit []) (Deposit []) ≡ false) × (touches (RenewStamps Sha256 (1 ∷ []) []) (SetPolicy []) ≡ false)
met = (refl, refl, refl, refl, refl, refl)
