pub mod Sessions
pub mod SoundWorlds
pub mod Entries
pub mod Growing
pub mod Running
pub mod Worlds
