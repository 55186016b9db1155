-- what no contract of a public call rests on
pub mod Told
pub mod Unread
pub mod Written
