pub mod Directive
pub mod Lexeme
pub mod Lines
pub mod Listing
pub mod Quoted
pub mod inside
