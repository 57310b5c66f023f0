pub mod DateParts
pub mod FractionBounds
pub mod FrontDigits
pub mod InstantParts
pub mod TimeParts
