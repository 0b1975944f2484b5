pub mod Parts
pub mod SameTexts
pub mod TemplateObjects
