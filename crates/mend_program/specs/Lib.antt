pub mod ProgramWords
pub mod Mended
pub mod MendForm
