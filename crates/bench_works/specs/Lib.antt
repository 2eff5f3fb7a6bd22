pub mod Chained
pub mod Faults
pub mod Leaves
pub mod Repeated
pub mod Signature
