pub mod Places
pub mod Histories
pub mod States
pub mod Turning
pub mod Taking
pub mod Answering
