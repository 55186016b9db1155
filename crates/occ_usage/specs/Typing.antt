-- What names and types report of a unit, and its typed tree, passed on to those who check it whole.
pub use Rattle.occ_typing.specs.Forms.{Import}
pub use Rattle.occ_typing.specs.TypedLines.{typed_unit}
pub use Rattle.occ_typing.specs.Units.{type_faults}
pub use Rattle.occ_typing.specs.declared.tree.TypedLine.{TypedLine}
