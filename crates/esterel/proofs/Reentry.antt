-- No unmarked reentry (document 02, F-6).
pub mod Trails
pub mod Contexts
pub mod Places
pub mod Kept
pub mod Invariant
pub mod Results
pub mod Went
pub mod Seen
pub mod Start
pub mod Resume
pub mod Splits
pub mod Tracks
pub mod Words
pub mod Passing
pub mod Suspended
pub mod Theorem
pub mod Examples
