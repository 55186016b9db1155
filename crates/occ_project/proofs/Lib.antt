pub mod Made
pub mod Inclusions
pub mod Members
pub mod Expansions
pub mod Rising
