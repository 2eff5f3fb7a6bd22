pub mod CrashLemmas
pub mod DiskCalls
mod SourceLemmas
mod StandardFacts
pub mod WriteLemmas
