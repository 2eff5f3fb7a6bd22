pub mod Agreeing
mod OneRule
mod StandardFacts
mod Legality
mod RowsStamping
mod RowsRenewing
mod RowsMembers
mod RowsSealing
mod Walking
mod Growing
mod Changing
mod Named
mod Naming
mod Indexing
mod Cohorts
mod Treed
mod Sealing
mod Renewing
mod Places
mod Reading
pub mod Paths
pub mod Sizes
mod Peaks
mod Tops
pub mod Saying
mod Passing
mod Committing
mod Listing
mod Membering
mod Meeting
mod Copying
mod Ending
mod Live
mod Moments
mod Renaming
mod Covered
mod Fullest
pub mod Chosen
mod Times
mod Tokens
mod Finding
mod Sharing
mod Gathering
mod Making
mod Registering
