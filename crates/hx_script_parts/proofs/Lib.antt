pub mod ByteTextLemmas
pub mod Endings
pub mod Naming
pub mod QuotedLemmas
pub mod ReadLines
pub mod Sizes
pub mod Soundness
