-- The servers in turn.
use Rattle.std.proofs.Common.{◌≡◌, ◌≤◌, ◌<◌, ◌+◌, ◌-◌, ℕ, suc, Bool, true, false, List, [], ◌∷◌, ◌++◌, length, take, drop, get_or, refl, sym, ap, subst, ◌∙◌, append_assoc, arith, Some, ◌⊎◌, inl, inr, add-one}
use Rattle.std.specs.Prelude.{nat_lt, if◌then◌else◌}
use Rattle.std.proofs.lemmas.List.{take-append-drop, length-append, length-take, length-drop, take_all}
use Rattle.std.proofs.Math.Seq.{take-suc}
use Rattle.std.proofs.lemmas.List.{get_or-drop, get_or-take, get_or_append_left, get_or-append_right}
use Rattle.std.proofs.lemmas.Option.{slice_get-get_or}
use Rattle.std.proofs.lemmas.Bool.{ltb-true, ltb-false}
use Rattle.hx_config.specs.declared.parts.Server.{Server}
use Rattle.hx_pool.specs.SeatView.{History}
use Rattle.hx_connecting.specs.Choice.{in_turn, next_turn, at_of, AskedAll, ChoosesReady, ChoosesNone}

-- one seat more was asked
pub asked_more : (xs : List Server) (s : Server) (ready : Bool) (olds mids news : List History) → AskedAll xs ready olds mids → AskedAll (s ∷ []) ready mids news → AskedAll (xs ++ s ∷ []) ready olds news
asked_more [] s ready olds mids news same one = subst (λ (hs : List History). AskedAll (s ∷ []) ready hs news) same one
asked_more (x ∷ xs) s ready olds mids news (old, new, next, was, reads, is, rest) one = (old, new, next, was, reads, is, asked_more xs s ready next mids news rest one)

pub length_in_turn : (servers : List Server) (turn : ℕ) → turn ≤ length servers → length (in_turn servers turn) ≡ length servers
length_in_turn servers turn le = omega (arith, length-append (drop turn servers) (take turn servers), length-drop turn servers, length-take turn servers, le)

-- so many servers in turn were asked, and each drains
pub record IsAsking (servers : List Server) (turn now : ℕ) (olds news : List History) (at k : ℕ) : Type 0 where
  pub same : now ≡ turn
  pub size : length news ≡ length olds
  pub asked : AskedAll (take k (in_turn servers turn)) false olds news
  pub at_is : at ≡ at_of (length servers) turn k

-- the order of the servers, by their places
abbrev Below : ℕ → ℕ → Bool → Type 0
Below a b true = a < b
Below a b false = b ≤ a

below : (a b : ℕ) → Below a b (nat_lt a b)
below a b = by_test (nat_lt a b) refl
  where
    by_test : (x : Bool) → nat_lt a b ≡ x → Below a b x
    by_test true e = ltb-true a b e
    by_test false e = ltb-false a b e

pick : (a n x y r : ℕ) → (a < n → x ≡ r) → (n ≤ a → y ≡ r) → (if nat_lt a n then x else y) ≡ r
pick a n x y r p q = by_test (nat_lt a n) (below a n)
  where
    by_test : (b : Bool) → Below a n b → (if b then x else y) ≡ r
    by_test true low = p low
    by_test false high = q high

-- the place is in front of the wrap or behind it
at_cases : (n turn k at : ℕ) → at ≡ at_of n turn k → ((turn + k < n) × (at ≡ turn + k)) ⊎ ((n ≤ turn + k) × (at ≡ (turn + k) - n))
at_cases n turn k at is = by_test (nat_lt (turn + k) n) (below (turn + k) n) is
  where
    by_test : (b : Bool) → Below (turn + k) n b → at ≡ (if b then turn + k else (turn + k) - n) → ((turn + k < n) × (at ≡ turn + k)) ⊎ ((n ≤ turn + k) × (at ≡ (turn + k) - n))
    by_test true low e = inl (low, e)
    by_test false high e = inr (high, e)

in_turn_front : (servers : List Server) (turn k : ℕ) (d : Server) → turn + k < length servers → get_or (in_turn servers turn) k d ≡ get_or servers (turn + k) d
in_turn_front servers turn k d low = get_or_append_left (drop turn servers) (take turn servers) d k (omega (arith, length-drop turn servers, low)) ∙ get_or-drop turn servers k d

in_turn_back : (servers : List Server) (turn k : ℕ) (d : Server) → turn < length servers → k < length servers → length servers ≤ turn + k → get_or (in_turn servers turn) k d ≡ get_or servers ((turn + k) - length servers) d
in_turn_back servers turn k d low less high =
    let rest : k - (length servers - turn) ≡ (turn + k) - length servers = omega (arith, low, high) in
    get_or-append_right (drop turn servers) (take turn servers) (length servers - turn) k d (length-drop turn servers) (omega (arith, high)) ∙ get_or-take turn servers (k - (length servers - turn)) d (omega (arith, less, low, high)) ∙ ap (λ (i : ℕ). get_or servers i d) rest

pub in_turn_at : (servers : List Server) (turn k at : ℕ) (d : Server) → turn < length servers → k < length servers → at ≡ at_of (length servers) turn k → get_or (in_turn servers turn) k d ≡ get_or servers at d
in_turn_at servers turn k at d low less is = by_cases (at_cases (length servers) turn k at is)
  where
    by_cases : ((turn + k < length servers) × (at ≡ turn + k)) ⊎ ((length servers ≤ turn + k) × (at ≡ (turn + k) - length servers)) → get_or (in_turn servers turn) k d ≡ get_or servers at d
    by_cases (inl (front, e)) = in_turn_front servers turn k d front ∙ ap (λ (i : ℕ). get_or servers i d) (sym e)
    by_cases (inr (back, e)) = in_turn_back servers turn k d low less back ∙ ap (λ (i : ℕ). get_or servers i d) (sym e)

pub at_next : (n turn k at : ℕ) → turn < n → k < n → at ≡ at_of n turn k → (if nat_lt (at + 1) n then at + 1 else 0) ≡ at_of n turn (k + 1)
at_next n turn k at low less is = by_cases (at_cases n turn k at is)
  where
    by_cases : ((turn + k < n) × (at ≡ turn + k)) ⊎ ((n ≤ turn + k) × (at ≡ (turn + k) - n)) → (if nat_lt (at + 1) n then at + 1 else 0) ≡ at_of n turn (k + 1)
    by_cases (inl (front, e)) = pick (at + 1) n (at + 1) 0 (at_of n turn (k + 1))
        (λ i. sym (pick (turn + (k + 1)) n (turn + (k + 1)) ((turn + (k + 1)) - n) (at + 1) (λ j. omega (arith, e)) (λ j. omega (arith, e, i, j))))
        (λ i. sym (pick (turn + (k + 1)) n (turn + (k + 1)) ((turn + (k + 1)) - n) 0 (λ j. omega (arith, e, i, j)) (λ j. omega (arith, e, i, j, front))))
    by_cases (inr (back, e)) = pick (at + 1) n (at + 1) 0 (at_of n turn (k + 1))
        (λ i. sym (pick (turn + (k + 1)) n (turn + (k + 1)) ((turn + (k + 1)) - n) (at + 1) (λ j. omega (arith, e, back, j)) (λ j. omega (arith, e, back))))
        (λ i. absurd (omega (arith, e, back, low, less, i)))

first_more : (servers : List Server) (turn k at : ℕ) (s : Server) → turn < length servers → k < length servers → at ≡ at_of (length servers) turn k → s ≡ get_or servers at s
    → take (suc k) (in_turn servers turn) ≡ take k (in_turn servers turn) ++ s ∷ []
first_more servers turn k at s low less at_is is =
    let size = length_in_turn servers turn (omega (arith, low)) in
    take-suc (in_turn servers turn) k s (omega (arith, size, less)) ∙ ap (λ (x : Server). take k (in_turn servers turn) ++ x ∷ []) (in_turn_at servers turn k at s low less at_is ∙ sym is)

length_front : (xs : List Server) (k : ℕ) → k ≤ length xs → length (take k xs) ≡ k
length_front xs k le = omega (arith, length-take k xs, le)

-- one server more was asked and drains
pub asks_on : (servers : List Server) (turn now : ℕ) (olds mids news : List History) (at k : ℕ) (s : Server) → turn < length servers → k < length servers → s ≡ get_or servers at s
    → IsAsking servers turn now olds mids at k → AskedAll (s ∷ []) false mids news → length news ≡ length mids → IsAsking servers turn now olds news (next_turn servers at) (k + 1)
asks_on servers turn now olds mids news at k s low less is i asked size = record {
  same = i.same;
  size = size ∙ i.size;
  asked = subst (λ (xs : List Server). AskedAll xs false olds news) (sym (first_more servers turn k at s low less i.at_is is) ∙ ap (λ (j : ℕ). take j (in_turn servers turn)) (sym (add-one k)))
      (asked_more (take k (in_turn servers turn)) s false olds mids news i.asked asked);
  at_is = at_next (length servers) turn k at low less i.at_is;
}

pub chooses_now : (servers : List Server) (turn now : ℕ) (olds mids news : List History) (at k : ℕ) (s : Server) → turn < length servers → k < length servers → at < length servers → s ≡ get_or servers at s
    → IsAsking servers turn now olds mids at k → AskedAll (s ∷ []) true mids news → ChoosesReady servers turn (next_turn servers at) olds news s.no
chooses_now servers turn now olds mids news at k s low less inside is i asked =
    let order = in_turn servers turn in record {
      passed = take k order;
      chosen = s;
      later = drop (suc k) order;
      order = sym (take-append-drop (suc k) order) ∙ ap (λ (xs : List Server). xs ++ drop (suc k) order) (first_more servers turn k at s low less i.at_is is) ∙ append_assoc (take k order) (s ∷ []) (drop (suc k) order);
      is = refl;
      mids = mids;
      drained = i.asked;
      ready = asked;
      place = at;
      at = i.at_is ∙ ap (at_of (length servers) turn) (sym (length_front order k (omega (arith, length_in_turn servers turn (omega (arith, low)), less))));
      there = slice_get-get_or servers at s inside ∙ ap Some (sym is);
      turn_after = refl;
    }

pub chooses_none : (servers : List Server) (turn now : ℕ) (olds news : List History) (at : ℕ) → turn < length servers → IsAsking servers turn now olds news at (length servers) → ChoosesNone servers turn now olds news
chooses_none servers turn now olds news at low i = record {
  drained = subst (λ (xs : List Server). AskedAll xs false olds news) (take_all (length servers) (in_turn servers turn) (omega (arith, length_in_turn servers turn (omega (arith, low))))) i.asked;
  turn_same = i.same;
}

pub at_inside : (n turn k at : ℕ) → turn < n → k < n → at ≡ at_of n turn k → at < n
at_inside n turn k at low less is = by_cases (at_cases n turn k at is)
  where
    by_cases : ((turn + k < n) × (at ≡ turn + k)) ⊎ ((n ≤ turn + k) × (at ≡ (turn + k) - n)) → at < n
    by_cases (inl (front, e)) = omega (arith, e, front)
    by_cases (inr (back, e)) = omega (arith, e, back, low, less)
