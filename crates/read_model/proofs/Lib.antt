pub mod Finding
mod Ends
mod Reading
