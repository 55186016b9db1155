-- that no diagnostic of shape is reported exactly where some trees list the lines
pub mod Exclusive
pub mod Arranged
pub mod Context
pub mod Grown
pub mod Judged
pub mod Listed
pub mod Lawful
