pub mod Memory
pub mod Runs
pub mod Scopes
pub mod Exports
pub mod Works
pub mod Running
pub mod Executions
