pub mod Records
pub mod Emitting
pub mod Translations
pub mod Length
