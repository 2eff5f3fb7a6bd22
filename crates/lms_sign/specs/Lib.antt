pub mod Hss
pub mod Inside
pub mod Lms
pub mod Ots
