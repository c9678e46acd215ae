pub mod Boxes
pub mod Shows
pub mod Whole
pub mod Laws
pub mod Made
pub mod Admitted
pub mod Dots
pub mod Changes
