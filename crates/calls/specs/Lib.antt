pub mod Calls
pub mod Answers
pub mod Series
pub mod Claim
pub mod Sum
pub mod Samples
pub mod Borders
pub mod LeastInputs
