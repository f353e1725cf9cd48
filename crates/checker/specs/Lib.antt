pub mod Verdicts
pub mod Records
pub mod Check
pub mod Examples
pub mod Statement
pub mod Parts
