-- What a typed line is, and what a `#USE` brings, passed on to those who read typed trees.
pub use Rattle.occ_typing_lines.specs.Using.{entries_of}
pub use Rattle.occ_typing_lines.specs.declared.tree.BlockKind.{BlockKind}
pub use Rattle.occ_typing_lines.specs.declared.tree.TypedForm.{TypedForm}
pub use Rattle.occ_typing_lines.specs.declared.using.Import.{Import}
