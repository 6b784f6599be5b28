-- A server of a configuration by its number.
use Rattle.std.proofs.Common.{◌≡◌, ℕ, zero, suc, ◌+◌, ◌-◌, ◌<◌, ◌≤◌, List, [], ◌∷◌, ◌++◌, length, drop, get_or, Option, Some, None, refl, sym, ap, ◌∙◌, arith}
use Rattle.std.specs.Prelude.{slice_get}
use Rattle.std.proofs.lemmas.List.{drop_more, drop_all}
use Rattle.std.proofs.lemmas.Option.{slice_get-get_or}
use Rattle.hx_config.specs.declared.parts.Back.{Back}
use Rattle.hx_config.specs.declared.parts.Server.{Server}
use Rattle.hx_config.specs.Limits.{all_servers}

in_first : {A : Type 0} (xs ys : List A) (n : ℕ) → n < length xs → slice_get (xs ++ ys) n ≡ slice_get xs n
in_first [] ys n lt = absurd (omega arith)
in_first (x ∷ xs) ys zero lt = refl
in_first (x ∷ xs) ys (suc n) lt = in_first xs ys n (omega arith)

past_first : {A : Type 0} (xs ys : List A) (n : ℕ) → length xs ≤ n → slice_get (xs ++ ys) n ≡ slice_get ys (n - length xs)
past_first [] ys n le = ap (slice_get ys) (omega arith)
past_first (x ∷ xs) ys zero le = absurd (omega arith)
past_first (x ∷ xs) ys (suc n) le =
    let same : n - length xs ≡ suc n - length (x ∷ xs) = omega arith in
    past_first xs ys n (omega arith) ∙ ap (slice_get ys) same

at_back : (backs : List Back) (i : ℕ) (b : Back) → i < length backs → b ≡ get_or backs i b
    → all_servers (drop i backs) ≡ b.servers ++ all_servers (drop (i + 1) backs)
at_back backs i b lt is =
    ap all_servers (drop_more backs i b lt ∙ ap (λ (x : Back). x ∷ drop (i + 1) backs) (sym is))

-- the server is one of this backend's
pub server_here : (backs : List Back) (i n : ℕ) (b : Back) (servers : List Server) (s : Server) (total : Option Server) → i < length backs
    → b ≡ get_or backs i b → servers ≡ b.servers → n < length servers → s ≡ get_or servers n s
    → slice_get (all_servers (drop i backs)) n ≡ total → Some s ≡ total
server_here backs i n b servers s total lt is same few at so_far =
    let here : get_or servers n s ≡ s = sym at in
    let in_it : slice_get b.servers n ≡ Some s = ap (λ (ss : List Server). slice_get ss n) (sym same) ∙ slice_get-get_or servers n s few ∙ ap (λ (x : Server). Some x) here in
    let lens : length servers ≡ length b.servers = ap (λ (ss : List Server). length ss) same in
    sym in_it ∙ sym (in_first b.servers (all_servers (drop (i + 1) backs)) n (omega arith))
    ∙ sym (ap (λ (ss : List Server). slice_get ss n) (at_back backs i b lt is)) ∙ so_far

-- it is one of a later backend's
pub server_later : (backs : List Back) (i n : ℕ) (b : Back) (servers : List Server) (total : Option Server) → i < length backs
    → b ≡ get_or backs i b → servers ≡ b.servers → length servers ≤ n
    → slice_get (all_servers (drop i backs)) n ≡ total → slice_get (all_servers (drop (i + 1) backs)) (n - length servers) ≡ total
server_later backs i n b servers total lt is same past so_far =
    let lens : length servers ≡ length b.servers = ap (λ (ss : List Server). length ss) same in
    ap (λ (k : ℕ). slice_get (all_servers (drop (i + 1) backs)) (n - k)) lens
    ∙ sym (past_first b.servers (all_servers (drop (i + 1) backs)) n (omega arith))
    ∙ sym (ap (λ (ss : List Server). slice_get ss n) (at_back backs i b lt is)) ∙ so_far

-- there is no later backend
pub no_server : (backs : List Back) (i n : ℕ) (total : Option Server) → length backs ≤ i → slice_get (all_servers (drop i backs)) n ≡ total → None ≡ total
no_server backs i n total past so_far = ap (λ (bs : List Back). slice_get (all_servers bs) n) (sym (drop_all i backs past)) ∙ so_far
