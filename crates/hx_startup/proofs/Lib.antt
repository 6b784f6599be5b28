pub mod ListenLemmas
pub mod OptionLemmas
pub mod FileLemmas
pub mod TextLemmas
pub mod StartLemmas
