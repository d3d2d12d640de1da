pub mod Cursor
pub mod Lists
pub mod Rising
