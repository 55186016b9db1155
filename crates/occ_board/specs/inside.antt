-- what no contract of a public call rests on
pub mod Flagged
pub mod Verified
pub mod Holding
pub mod Ready
pub mod Revisions
pub mod Touched
pub mod Untouched
pub mod Likeness
pub mod Following
