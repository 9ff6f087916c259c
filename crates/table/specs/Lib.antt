pub mod Layout
pub mod Intake
