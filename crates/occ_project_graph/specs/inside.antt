-- what no contract of a public call rests on
pub mod Searching
pub mod Components
pub mod Numbering
pub mod Linking
pub mod Leading
