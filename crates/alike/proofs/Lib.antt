pub mod NodeNames
pub mod FrameNames
pub mod Criterion
pub mod Carried
pub mod FrameSlots
