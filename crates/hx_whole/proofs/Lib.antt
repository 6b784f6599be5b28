pub mod AnswerLemmas
pub mod FramingLemmas
pub mod FrontLemmas
pub mod InterimLemmas
pub mod RequestLemmas
