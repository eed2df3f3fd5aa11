pub mod FurtherAnswers
