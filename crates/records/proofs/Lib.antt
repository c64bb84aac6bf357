pub mod Tables
pub mod Codecs
pub mod Zeros
