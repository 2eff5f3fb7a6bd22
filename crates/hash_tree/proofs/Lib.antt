pub mod FoldLemmas
pub mod LevelLemmas
pub mod PathLemmas
pub mod PowerLemmas
pub mod RootLemmas
mod StandardFacts
