pub mod Inside
pub mod Key
pub mod Pair
pub mod Reply
pub mod Signer
pub mod Stamping
