-- Laws of the definitions, by subject.
pub mod Same
pub mod Judged
pub mod First
pub mod Theorem
pub mod Filled
pub mod Examples
pub mod Proved
