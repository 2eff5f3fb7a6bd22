pub mod LimitLemmas
mod StandardFacts
