-- what no contract of a public call rests on
pub mod Kept
pub mod Places
pub mod Folded
pub mod NumberedNames
pub mod SoughtNames
pub mod Begun
pub mod Alike
pub mod Taking
