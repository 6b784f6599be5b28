pub mod PlaceWordLemmas
