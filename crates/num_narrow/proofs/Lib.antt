pub mod Ties
pub mod Patterns
pub mod Rounding
pub mod Cases
pub mod Sign
