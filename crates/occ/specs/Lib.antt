pub mod Failing
pub mod Printing
pub mod Reading
