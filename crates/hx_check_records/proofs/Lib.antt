pub mod OwnLemmas
pub mod PrefixLemmas
pub mod BodyLemmas
pub mod LookLemmas
pub mod RequestLemmas
pub mod AnswerLemmas
