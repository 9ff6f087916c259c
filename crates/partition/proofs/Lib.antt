pub mod Regrouping
pub mod Splitting
pub mod Slotted
pub mod Congruence
pub mod Classes
pub mod Moving
pub mod Filling
