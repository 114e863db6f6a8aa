pub mod Judgement
pub mod Answers
