pub mod LabelLaws
pub mod Working
