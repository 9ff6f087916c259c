pub mod Limited
pub mod Numbers
