mod Alike
pub mod Appending
mod Crashes
mod EmptyJournal
pub mod Exclusive
pub mod FrameBytes
mod GateField
mod Parts
mod Placing
mod Reading
mod SoFar
mod StandardFacts
