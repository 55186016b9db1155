-- no faults, then what was found is whole
pub mod Made
pub mod Roots
