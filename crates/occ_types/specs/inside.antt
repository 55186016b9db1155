-- what no contract of a public call rests on
pub mod KnownTypes
pub mod MaybeValues
pub mod Digests
pub mod PartNames
pub mod SoughtParts
