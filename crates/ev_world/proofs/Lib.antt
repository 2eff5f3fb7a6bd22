pub mod Moments
pub mod Writes
pub mod QuietCalls
pub mod PassedOn
mod Unanswered
mod StandardFacts
