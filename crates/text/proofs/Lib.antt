pub mod Decimals
pub mod Splits
pub mod Beginnings
pub mod CommaLists
pub mod Pasting
