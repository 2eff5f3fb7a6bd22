pub mod Record
pub mod Reason
pub mod Stands
pub mod Law
pub mod Plans
pub mod InsideMarks
