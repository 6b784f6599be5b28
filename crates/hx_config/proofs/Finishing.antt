-- Frontends, one after the other.
use Rattle.std.proofs.Common.{◌≡◌, ◌≢◌, ℕ, ◌+◌, ◌<◌, ◌≤◌, true, false, List, [], ◌∷◌, ◌++◌, length, map, take, drop, set, get_or, Option, Some, None, Result, Ok, Err, refl, sym, ap, ◌∙◌, append_assoc, arith}
use Rattle.std.specs.Prelude.{⊤, bytes_eq}
use Rattle.std.specs.List.{remove}
use Rattle.std.proofs.lemmas.Bool.{cond-true, cond-false}
use Rattle.std.proofs.lemmas.List.{append-nil, drop_more, drop_all, take_more, map-append, length-map, length-take-le, set_at, get_or_at}
use Rattle.hx_config_parts.specs.declared.fault.Rule.TheVariants.{NoServer}
use Rattle.hx_config_parts.specs.declared.fault.Flaw.{Flaw}
use Rattle.hx_config_parts.specs.declared.fault.Stop.{Stop}
use Rattle.hx_config_parts.specs.declared.fault.Stop.TheVariants as stop
use Rattle.hx_base.specs.declared.rules.Mode.{Mode}
use Rattle.hx_config.specs.declared.parts.Front.{Front}
use Rattle.hx_config.specs.declared.parts.Server.{Server}
use Rattle.hx_config.specs.Sections.{with_mode}
use Rattle.hx_config.specs.declared.sections.Frontend.{Frontend}
use Rattle.hx_config.specs.declared.sections.Backend.{Backend}
use Rattle.hx_config_parts.specs.Faults.{◌>>=◌, Halts}
use Rattle.hx_config.specs.Meaning.{placed, all_placed, place_from, is_idle, all_served}

-- what was placed before
abbrev pub behind : List Front → Result (List Front) Flaw → Result (List Front) Flaw
behind front read = read >>= λ (xs : List Front). Ok (front ++ xs)

regroup : (front : List Front) (x : Front) (read : Result (List Front) Flaw) → behind front (read >>= λ (xs : List Front). Ok (x ∷ xs)) ≡ behind (front ++ x ∷ []) read
regroup front x (Ok xs) = ap (λ (ys : List Front). Ok ys) (sym (append_assoc front (x ∷ []) xs))
regroup front x (Err e) = refl

pub one_more : (backs : List Backend) (f : Frontend) (fs : List Frontend) (front : List Front) (x : Front) (total : Result (List Front) Flaw)
    → placed backs f ≡ Ok x → behind front (all_placed backs (f ∷ fs)) ≡ total → behind (front ++ x ∷ []) (all_placed backs fs) ≡ total
unfolding all_placed
one_more backs f fs front x total is so_far =
    let one : behind front (all_placed backs (f ∷ fs)) ≡ behind (front ++ x ∷ []) (all_placed backs fs) =
    ap (λ (r : Result Front Flaw). behind front (r >>= λ (y : Front). all_placed backs fs >>= λ (xs : List Front). Ok (y ∷ xs))) is ∙ regroup front x (all_placed backs fs) in
    sym one ∙ so_far

pub stops : (e : Stop) (backs : List Backend) (f : Frontend) (fs : List Frontend) (front : List Front) (total : Result (List Front) Flaw)
    → Halts e (placed backs f) → behind front (all_placed backs (f ∷ fs)) ≡ total → Halts e total
unfolding all_placed
stops stop.Memory backs f fs front total is so_far = tt
stops (stop.At flaw) backs f fs front total is so_far =
    sym so_far ∙ ap (λ (r : Result Front Flaw). behind front (r >>= λ (y : Front). all_placed backs fs >>= λ (xs : List Front). Ok (y ∷ xs))) is

pub is_over : (backs : List Backend) (fs : List Frontend) (front : List Front) (total : Result (List Front) Flaw)
    → fs ≡ [] → behind front (all_placed backs fs) ≡ total → total ≡ Ok front
unfolding all_placed
is_over backs fs front total none so_far =
    sym so_far ∙ ap (λ (xs : List Frontend). behind front (all_placed backs xs)) none ∙ ap (λ (ys : List Front). Ok ys) (append-nil front)

-- the backend stands here
pub found_here : (name : List ℕ) (backs : List Backend) (i : ℕ) (b : Backend) (total : Option ℕ) → i < length backs → b ≡ get_or backs i b
    → bytes_eq b.back.name name ≡ true → place_from i name (drop i backs) ≡ total → total ≡ Some i
unfolding place_from
found_here name backs i b total lt is same so_far =
    let at : drop i backs ≡ b ∷ drop (i + 1) backs = drop_more backs i b lt ∙ ap (λ (x : Backend). x ∷ drop (i + 1) backs) (sym is) in
    sym so_far ∙ ap (place_from i name) at ∙ cond-true _ _ _ same

pub found_later : (name : List ℕ) (backs : List Backend) (i : ℕ) (b : Backend) (total : Option ℕ) → i < length backs → b ≡ get_or backs i b
    → bytes_eq b.back.name name ≡ false → place_from i name (drop i backs) ≡ total → place_from (i + 1) name (drop (i + 1) backs) ≡ total
unfolding place_from
found_later name backs i b total lt is other so_far =
    let at : drop i backs ≡ b ∷ drop (i + 1) backs = drop_more backs i b lt ∙ ap (λ (x : Backend). x ∷ drop (i + 1) backs) (sym is) in
    sym (ap (place_from i name) at ∙ cond-false _ _ _ other) ∙ so_far

pub found_nowhere : (name : List ℕ) (backs : List Backend) (i : ℕ) (total : Option ℕ) → length backs ≤ i
    → place_from i name (drop i backs) ≡ total → total ≡ None
unfolding place_from
found_nowhere name backs i total past so_far = sym so_far ∙ ap (place_from i name) (drop_all i backs past)

-- a backend is idle, or not
pub idle_here : (fronts : List Front) (backs : List Backend) (i : ℕ) (b : Backend) (total : Result ⊤ Flaw) → i < length backs → b ≡ get_or backs i b
    → is_idle i fronts b ≡ true → all_served i fronts (drop i backs) ≡ total → total ≡ Err (record { line = b.line; rule = NoServer })
unfolding all_served
idle_here fronts backs i b total lt is idle so_far =
    let at : drop i backs ≡ b ∷ drop (i + 1) backs = drop_more backs i b lt ∙ ap (λ (x : Backend). x ∷ drop (i + 1) backs) (sym is) in
    sym so_far ∙ ap (all_served i fronts) at ∙ cond-true _ _ _ idle

pub busy_here : (fronts : List Front) (backs : List Backend) (i : ℕ) (b : Backend) (total : Result ⊤ Flaw) → i < length backs → b ≡ get_or backs i b
    → is_idle i fronts b ≡ false → all_served i fronts (drop i backs) ≡ total → all_served (i + 1) fronts (drop (i + 1) backs) ≡ total
unfolding all_served
busy_here fronts backs i b total lt is busy so_far =
    let at : drop i backs ≡ b ∷ drop (i + 1) backs = drop_more backs i b lt ∙ ap (λ (x : Backend). x ∷ drop (i + 1) backs) (sym is) in
    sym (ap (all_served i fronts) at ∙ cond-false _ _ _ busy) ∙ so_far

pub none_idle : (fronts : List Front) (backs : List Backend) (i : ℕ) (total : Result ⊤ Flaw) → length backs ≤ i
    → all_served i fronts (drop i backs) ≡ total → total ≡ Ok tt
unfolding all_served
none_idle fronts backs i total past so_far = sym so_far ∙ ap (all_served i fronts) (drop_all i backs past)

-- modes are set one after the other
pub one_mode : (m : Mode) (now before : List Server) (i : ℕ) (d : Server) → i < length before
    → now ≡ map (with_mode m) (take i before) ++ drop i before
    → set now i (with_mode m (get_or now i d)) ≡ map (with_mode m) (take (i + 1) before) ++ drop (i + 1) before
one_mode m now before i d lt so_far =
    let x = get_or before i d in
    let p = map (with_mode m) (take i before) in
    let ys = drop (i + 1) before in
    let len : length p ≡ i = length-map (take i before) (with_mode m) ∙ length-take-le i before (omega arith) in
    let split : now ≡ p ++ x ∷ ys = so_far ∙ ap (λ (zs : List Server). p ++ zs) (drop_more before i d lt) in
    let here : get_or now i d ≡ x = ap (λ (zs : List Server). get_or zs i d) split ∙ get_or_at p x ys d i len in
    let wrote : set now i (with_mode m (get_or now i d)) ≡ p ++ with_mode m x ∷ ys =
    ap (λ (z : Server). set now i (with_mode m z)) here ∙ ap (λ (zs : List Server). set zs i (with_mode m x)) split ∙ set_at p x ys (with_mode m x) i len in
    let more : map (with_mode m) (take (i + 1) before) ≡ p ++ with_mode m x ∷ [] =
    ap (map (with_mode m)) (take_more before i d lt) ∙ map-append (with_mode m) (take i before) (x ∷ []) in
    wrote ∙ sym (ap (λ (zs : List Server). zs ++ ys) more ∙ append_assoc p (with_mode m x ∷ []) ys)

-- the first item was removed
pub first_removed : (xs ys : List Frontend) (x : Frontend) → length xs ≢ 0 → x ≡ get_or xs 0 x → ys ≡ remove xs 0 → xs ≡ x ∷ ys
first_removed [] ys x some is rest = absurd (some refl)
first_removed (f ∷ fs) ys x some is rest =
    let tail : remove (f ∷ fs) 0 ≡ fs = refl in
    ap (λ (g : Frontend). g ∷ fs) (sym is) ∙ ap (λ (gs : List Frontend). x ∷ gs) (sym (rest ∙ tail))
