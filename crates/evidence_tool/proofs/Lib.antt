pub mod AnsweringLemmas
pub mod DepositLemmas
pub mod DocumentsLemmas
pub mod InputLemmas
pub mod JournalLineLemmas
pub mod LineLemmas
pub mod OneWord
pub mod Outcomes
pub mod OutputLemmas
pub mod ReplyLemmas
pub mod RequestLemmas
pub mod ServingLemmas
pub mod SessionLemmas
pub mod StopLemmas
pub mod TrialLemmas
mod StandardFacts
mod VerifyingLemmas
