pub mod Widths
pub mod Blanks
pub mod BlanksRead
pub mod FieldsRead
pub mod LinesRead
pub mod LinesOnce
