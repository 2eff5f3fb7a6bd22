pub mod Hss
pub mod Lms
pub mod Ots
