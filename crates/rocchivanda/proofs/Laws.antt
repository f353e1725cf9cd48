-- Laws of the definitions, by subject.
pub mod Ends
pub mod Calls
pub mod Beyond
