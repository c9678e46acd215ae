pub mod Ready
pub mod Boxes
pub mod Words
