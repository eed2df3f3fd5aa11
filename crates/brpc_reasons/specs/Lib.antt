pub mod CommandForms
pub mod SentencePieces
pub mod WrongWords
pub mod WrongWordsMeaning
