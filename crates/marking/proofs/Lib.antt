pub mod Sweeps
pub mod Spreading
pub mod Stepping
