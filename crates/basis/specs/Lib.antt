pub mod Bytes
pub mod Choice
pub mod Lists
pub mod Numbers
