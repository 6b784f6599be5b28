-- A server by its names, one after the other.
use Rattle.std.proofs.Common.{◌≡◌, ℕ, ◌+◌, ◌<◌, ◌≤◌, true, false, List, ◌∷◌, length, drop, get_or, Option, Some, None, sym, ap, ◌∙◌}
use Rattle.std.proofs.lemmas.Bool.{cond-true, cond-false}
use Rattle.std.proofs.lemmas.List.{drop_more, drop_all}
use Rattle.hx_script.specs.declared.transcript.ServerPart.{ServerPart}
use Rattle.hx_transcripts_parts.specs.Pieces.{has_names, server_from}

pub server_here : (back server : List ℕ) (servers : List ServerPart) (i : ℕ) (p : ServerPart) (total : Option ℕ) → i < length servers → p ≡ get_or servers i p
    → has_names back server p ≡ true → server_from i back server (drop i servers) ≡ total → total ≡ Some i
unfolding server_from
server_here back server servers i p total lt is same so_far =
    let at : drop i servers ≡ p ∷ drop (i + 1) servers = drop_more servers i p lt ∙ ap (λ (x : ServerPart). x ∷ drop (i + 1) servers) (sym is) in
    sym so_far ∙ ap (server_from i back server) at ∙ cond-true _ _ _ same

pub server_later : (back server : List ℕ) (servers : List ServerPart) (i : ℕ) (p : ServerPart) (total : Option ℕ) → i < length servers → p ≡ get_or servers i p
    → has_names back server p ≡ false → server_from i back server (drop i servers) ≡ total → server_from (i + 1) back server (drop (i + 1) servers) ≡ total
unfolding server_from
server_later back server servers i p total lt is other so_far =
    let at : drop i servers ≡ p ∷ drop (i + 1) servers = drop_more servers i p lt ∙ ap (λ (x : ServerPart). x ∷ drop (i + 1) servers) (sym is) in
    sym (ap (server_from i back server) at ∙ cond-false _ _ _ other) ∙ so_far

pub server_nowhere : (back server : List ℕ) (servers : List ServerPart) (i : ℕ) (total : Option ℕ) → length servers ≤ i
    → server_from i back server (drop i servers) ≡ total → total ≡ None
unfolding server_from
server_nowhere back server servers i total past so_far = sym so_far ∙ ap (server_from i back server) (drop_all i servers past)
