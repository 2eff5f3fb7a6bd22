-- When a time-stamp lapses, by what is marked of it and of the one after it (RFC 4998, 5.3): where its successor did not
-- come before the end of its key or, for the last of a chain, before the end of the chain's hash. For the last of all the
-- moment stands in the successor's place.
use Rattle.std.specs.Prelude.{◌≡◌, ◌⊎◌, ℕ, ◌==◌, ⊤, Bool, true, false, not, ◌&&◌, IsTrue, List, [], ◌∷◌, ◌++◌, Option, Some, None, IfSome, option_map, if◌then◌else◌}
use Rattle.std.specs.Option.{option_or}
use Rattle.civil_moment.specs.declared.moment.Moment.{Moment}
use Rattle.hash_kit.specs.declared.algorithm.HashAlg.{HashAlg}
use Rattle.algorithm_policy.specs.Content.{Content, hash_end, signer_of}
use Rattle.evidence_verify.specs.declared.verdict.Cause.{Cause}
use Rattle.evidence_verify.specs.declared.verdict.Cause.TheVariants.{Key, Hash}
use Rattle.evidence_verify.specs.declared.verdict.Lapse.{Lapse}
use Rattle.civil_moment.specs.Moment.{is_before}

-- The mark of a time-stamp: the number of its chain, its own in the chain, its hash, its time, and its signer's identifier.
pub record Mark : Type 0 where
  pub chain : ℕ
  pub stamp : ℕ
  pub alg : HashAlg
  pub time : Moment
  pub sid : List ℕ

-- the end of the key, which each sound token has
abbrev pub key_end : Content → List ℕ → Option Moment
key_end policy sid = option_map (λ signer. signer.end) (signer_of policy sid)

-- the time of the successor, or the moment
abbrev pub until : Moment → List Mark → Moment
until moment [] = moment
until moment (m ∷ later) = m.time

-- no later time-stamp is of the same chain
abbrev pub ends_chain : List Mark → Bool
ends_chain [] = true
ends_chain (m ∷ later) = m.stamp == 0

-- ---- in words

-- At this time its key had not ended, nor, where it is the last of its chain, its hash.
pub record IsInTime (policy : Content) (m : Mark) (time : Moment) (last : Bool) : Type 0 where
  pub key : IfSome (key_end policy m.sid) (λ (end : Moment). is_before time end ≡ true)
  pub hash : IsTrue last → is_before time (hash_end policy m.alg) ≡ true

-- The successor of each of these came in time, where those stand behind them.
abbrev pub AreInTimeBefore : Content → Moment → List Mark → List Mark → Type 0
AreInTimeBefore policy moment [] behind = ⊤
AreInTimeBefore policy moment (m ∷ later) behind =
    IsInTime policy m (until moment (later ++ behind)) (ends_chain (later ++ behind)) × AreInTimeBefore policy moment later behind

-- Each successor came in time.
abbrev pub AreInTime : Content → Moment → List Mark → Type 0
AreInTime policy moment [] = ⊤
AreInTime policy moment (m ∷ later) = IsInTime policy m (until moment later) (ends_chain later) × AreInTime policy moment later

-- At this time its key had ended.
pub record LapsesByKey (policy : Content) (m : Mark) (time : Moment) (lapse : Lapse) : Type 0 where
  pub end : Moment
  pub key_is : key_end policy m.sid ≡ Some end
  pub ended : is_before time end ≡ false
  pub is : lapse ≡ record { chain = m.chain; stamp = m.stamp; cause = Key; end = end }

-- At this time its key had not ended, but its hash, and it is the last of its chain.
pub record LapsesByHash (policy : Content) (m : Mark) (time : Moment) (last : Bool) (lapse : Lapse) : Type 0 where
  pub key : IfSome (key_end policy m.sid) (λ (end : Moment). is_before time end ≡ true)
  pub is_last : IsTrue last
  pub ended : is_before time (hash_end policy m.alg) ≡ false
  pub is : lapse ≡ record { chain = m.chain; stamp = m.stamp; cause = Hash; end = hash_end policy m.alg }

-- This is the lapse of the first whose successor did not come in time.
pub record IsFirstLapse (policy : Content) (moment : Moment) (marks : List Mark) (lapse : Lapse) : Type 0 where
  pub before : List Mark
  pub m : Mark
  pub later : List Mark
  pub are : before ++ m ∷ later ≡ marks
  pub in_time : AreInTimeBefore policy moment before (m ∷ later)
  pub lapses : LapsesByKey policy m (until moment later) lapse ⊎ LapsesByHash policy m (until moment later) (ends_chain later) lapse

-- ---- the same, as a function

-- the lapse of this time-stamp
abbrev pub lapse_by : Mark → Cause → Moment → Lapse
lapse_by m cause end = record { chain = m.chain; stamp = m.stamp; cause = cause; end = end }

-- the key had ended at this time
abbrev pub key_lapse : Mark → Moment → Option Moment → Option Lapse
key_lapse m time None = None
key_lapse m time (Some end) = if is_before time end then None else Some (lapse_by m Key end)

-- the hash of a chain that ends here had
abbrev pub hash_lapse : Mark → Moment → Bool → Moment → Option Lapse
hash_lapse m time last end = if last && not (is_before time end) then Some (lapse_by m Hash end) else None

-- the lapse of a time-stamp before these; the hash of its chain is its own
abbrev pub lapse_at : Content → Moment → Mark → List Mark → Option Lapse
lapse_at policy moment m later =
    option_or (key_lapse m (until moment later) (key_end policy m.sid))
    (hash_lapse m (until moment later) (ends_chain later) (hash_end policy m.alg))

-- the first lapse
abbrev pub first_lapse : Content → Moment → List Mark → Option Lapse
first_lapse policy moment [] = None
first_lapse policy moment (m ∷ later) = option_or (lapse_at policy moment m later) (first_lapse policy moment later)
