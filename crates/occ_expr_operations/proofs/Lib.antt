pub mod Views
pub mod Fields
pub mod OpenTypes
pub mod Layers
pub mod Referring
pub mod Pairs
