-- What private functions say of each other.
use Rattle.std.specs.Prelude.{◌≡◌, ℕ, ◌+◌, ◌≤◌, List, ◌∷◌, ◌++◌, Result, Ok, IsOk, OnOk, Vec, vec_len, vec_capacity}
use Rattle.std.specs.declared.alloc.AllocError.{AllocError}
use Rattle.std.specs.declared.alloc.Global.{Global}
use Rattle.civil_moment.specs.declared.moment.Moment.{Moment}
use Rattle.civil_moment.specs.Moment.{Text}
use Rattle.session_text.specs.declared.verify_input.VerifyInput.{VerifyInput}
use Rattle.session_text.specs.Unread.{Unread}
use Rattle.session_text.specs.Words.{time_at}
use Rattle.session_text.specs.VerifyInput.{verify_at, all_documents_at, from_start}
use Rattle.evidence_verify.specs.declared.verdict.Verdict.{Verdict}
use Rattle.session_text.specs.Verdicts.{verdict_words, SaysMoments}

-- a text was read as a time, and says this moment
pub record ReadsTime (separator : ℕ) (before after : Unread) (moment : Moment) : Type 0 where
  pub text : List ℕ
  pub is : time_at separator before ≡ Ok (text, after)
  pub says : Text text moment

-- documents were read: a first one and further ones
pub record ReadsDocuments (before after : Unread) (documents : List (List ℕ)) : Type 0 where
  pub first : List ℕ
  pub further : List (List ℕ)
  pub is : all_documents_at before ≡ Ok ((first, further), after)
  pub all : documents ≡ first ∷ further

-- a verification was read
pub record ReadsVerify (bytes : List ℕ) (v : VerifyInput) : Type 0 where
  pub text : List ℕ
  pub first : List ℕ
  pub further : List (List ℕ)
  pub after : Unread
  pub is : verify_at (from_start bytes) ≡ Ok ((tt, (v.mode, (text, (v.policy.now, (v.evidence.now, (first, further)))))), after)
  pub says : Text text v.moment
  pub all : v.documents ≡ first ∷ further

-- the words of a verdict were added, without the line feed behind them
pub record HasVerdictWords (before after : List ℕ) (verdict : Verdict) : Type 0 where
  pub first : List ℕ
  pub second : List ℕ
  pub say : SaysMoments verdict first second
  pub added : after ≡ before ++ verdict_words verdict first second

-- the words of a verdict were added; where there was room for 120 bytes, they were not refused
pub record AddsVerdictWords (verdict : Verdict) (old new : Vec ℕ Global) (result : Result (Unit {0}) AllocError) : Type 0 where
  pub ok : OnOk result (HasVerdictWords old.items new.items verdict)
  pub short : OnOk result (vec_len new ≤ vec_len old + 120)
  pub capacity : vec_capacity old ≤ vec_capacity new
  pub room : vec_len old + 120 ≤ vec_capacity old → IsOk result
