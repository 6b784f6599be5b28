pub mod ConnLemmas
