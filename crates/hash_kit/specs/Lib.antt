pub mod Algorithm
pub mod Digest
pub mod Hashing
pub mod HssKey
pub mod Inside
pub mod Node
