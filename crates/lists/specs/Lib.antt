pub mod Tests
pub mod Positions
pub mod Closure
pub mod Conditions
pub mod Decimal
