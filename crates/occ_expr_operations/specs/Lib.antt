pub mod Operations
pub mod Literals
pub mod Written
pub mod Parts
pub mod OpenExprs
pub mod Elements
pub mod Views
pub mod Sides
