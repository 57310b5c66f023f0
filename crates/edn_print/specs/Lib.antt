pub mod Printable
pub mod Printed
