pub mod Sound
pub mod Fault
pub mod Inside
