pub mod Arguments
pub mod Passing
pub mod Sweeping
pub mod Blocking
pub mod Fixpoints
pub mod Rising
