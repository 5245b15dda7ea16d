pub mod Forms
pub mod SameForms
