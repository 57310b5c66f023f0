pub mod Mailbox
pub mod Peeks
