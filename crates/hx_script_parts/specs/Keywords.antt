-- The words that lines begin with behind the configuration.
use Rattle.std.specs.Prelude.{ℕ, List, [], ◌∷◌, codes}
use Rattle.hx_script_parts.specs.declared.keywords.FirstWord.{FirstWord}
use Rattle.hx_script_parts.specs.declared.keywords.FirstWord.TheVariants as first

-- the words that lines begin with
abbrev pub first_words : List (List ℕ × FirstWord)
first_words =
    (codes "client", first.Client) ∷ (codes "server", first.Server) ∷ (codes "piece", first.Piece)
    ∷ (codes "end", first.End) ∷ (codes "room", first.Room) ∷ (codes "fail", first.Fail)
    ∷ (codes "drain", first.Drain) ∷ (codes "ready", first.Ready) ∷ (codes "tick", first.Tick) ∷ []
