-- The kinds of blocks one by one, passed on.
pub use Rattle.occ_typing_lines.specs.declared.tree.BlockKind.TheVariants.{Sequence, Parallel, Conditional, Alternation}
