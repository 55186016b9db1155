pub mod Journal
pub mod Same
pub mod Done
pub mod Edits
pub mod Verdicts
pub mod Machine
pub mod Samples
pub mod inside
-- what is passed on
pub mod Rules
pub use Rattle.occ_check.specs.Input
pub use Rattle.occ_check.specs.contracts.used.Used as UsedContract
pub use Rattle.occ_check.specs.contracts.used.UsedUnit as UsedUnitContract
pub use Rattle.occ_check.specs.contracts.job.Job as JobContract
pub use Rattle.occ_check.specs.contracts.outcome.Outcome as OutcomeContract
