pub mod Code
pub mod Inside
pub mod Order
pub mod FormCodes
