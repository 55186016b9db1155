pub mod Forms
pub mod Effects
pub mod Entering
pub mod Naming
pub mod Concern
-- what no contract of a public call rests on
pub mod inside
pub use Rattle.occ_typing_lines.specs.declared.tree.TypedForm
pub use Rattle.occ_typing_lines.specs.declared.tree.TypedGuard
