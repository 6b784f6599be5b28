pub mod CauseLemmas
pub mod HeadLemmas
pub mod StayingLemmas
pub mod OptionLemmas
pub mod WriteLemmas
