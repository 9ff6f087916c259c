pub mod Grammar
pub mod Reader
pub mod Outcome
pub mod Columns
pub mod Clauses
pub mod Samples
