pub mod Blank
pub mod Rising
pub mod Stored
pub mod Whole
pub mod Widths
