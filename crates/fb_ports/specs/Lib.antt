pub mod Faults
pub mod HostSpec
pub mod HostCalls
