pub mod Lines
pub mod Pictures
