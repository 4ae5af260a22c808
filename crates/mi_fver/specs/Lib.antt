pub mod LetterTests
pub mod Letters
pub mod Rules
