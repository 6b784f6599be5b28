-- What records tell of a session, with one record more.
use Rattle.std.proofs.Common.{◌≡◌, ℕ, ◌+◌, ◌-◌, ◌<◌, ◌≤◌, ◌==◌, ◌&&◌, cond, Bool, true, false, List, [], ◌∷◌, ◌++◌, Option, None, Some, length, take, drop, get_or, refl, sym, ap, ◌∙◌, subst, arith}
use Rattle.std.specs.Prelude.{◌≢◌, ◌↔◌, IsTrue, MatchOption, slice_get}
use Rattle.std.proofs.lemmas.List.{append-nil, length-append, nil_from_length, drop-append-le, drop-drop, drop_more, take_more, take-append-drop}
use Rattle.std.proofs.lemmas.Grind.{flat_map-append}
use Rattle.hx_base.specs.declared.numbers.Span.{Span}
use Rattle.hx_base.specs.declared.numbers.ThreadNo.{ThreadNo}
use Rattle.hx_base.specs.declared.numbers.SessionNo.{SessionNo}
use Rattle.hx_record.specs.Tiles.{is_line_of}
use Rattle.hx_record.specs.declared.served.Told.{Told}
use Rattle.hx_record.specs.declared.served.Told.TheVariants as told
use Rattle.hx_check_parts.specs.Ranges.{range_of, ranges_of}
use Rattle.hx_record.specs.Tiles.{is_of}
use Rattle.hx_check_parts.specs.Sessions.{reached, session_in, covered_in, IsLastAt, IsCovered}
use Rattle.hx_check_parts.specs.declared.ranges.Side.{Side}
use Rattle.hx_check_parts.specs.declared.ranges.Side.TheVariants.{Ask, Gave, Leaves}
use Rattle.hx_check_parts.specs.declared.sessions.Covered.{Covered}

-- the last part of what is nothing
pub none_behind : {A : Type 0} (xs ys : List A) → xs ++ ys ≡ [] → ys ≡ []
none_behind xs ys e = nil_from_length ys (omega (arith, ap length e, length-append xs ys))

pub none_before : {A : Type 0} (xs ys : List A) → xs ++ ys ≡ [] → xs ≡ []
none_before xs ys e = nil_from_length xs (omega (arith, ap length e, length-append xs ys))

pub not_none : {A : Type 0} (xs : List A) (x : A) → xs ++ x ∷ [] ≢ []
not_none xs x e = omega (arith, ap length e, length-append xs (x ∷ []))

-- a record of another session tells no range
pub no_range : (t : ThreadNo) (n : SessionNo) (r : Told) (side : Side) → is_line_of t n r ≡ false → range_of side t n r ≡ []
no_range t n (told.Served s) Ask off = rw off refl
no_range t n (told.Served s) Gave off = rw off refl
no_range t n (told.Served s) Leaves off = refl
no_range t n (told.Left l) Ask off = rw off refl
no_range t n (told.Left l) Gave off = refl
no_range t n (told.Left l) Leaves off = rw off refl

module _ (t : ThreadNo) (n : SessionNo) where
  pub more : (side : Side) (rs : List Told) (r : Told)
      → ranges_of side t n (rs ++ r ∷ []) ≡ ranges_of side t n rs ++ range_of side t n r
  more side rs r =
      flat_map-append (range_of side t n) rs (r ∷ [])
      ∙ ap (λ (x : List Span). ranges_of side t n rs ++ x) (append-nil (range_of side t n r))

  pub same : (side : Side) (rs : List Told) (r : Told) → is_line_of t n r ≡ false
      → ranges_of side t n (rs ++ r ∷ []) ≡ ranges_of side t n rs
  same side rs r off =
      more side rs r ∙ ap (λ (x : List Span). ranges_of side t n rs ++ x) (no_range t n r side off)
      ∙ append-nil (ranges_of side t n rs)

  last_kept : (rs : List Told) (r : Told) (k : ℕ) → is_line_of t n r ≡ false → IsLastAt t n rs k → IsLastAt t n (rs ++ r ∷ []) k
  last_kept rs r k off x = record {
    within = omega (arith, length-append rs (r ∷ []), x.within);
    here = λ e. x.here
        (sym (ap (ranges_of Ask t n) (drop-append-le k rs (r ∷ []) (omega (arith, x.within))) ∙ same Ask (drop k rs) r off) ∙ e);
    behind =
        ap (ranges_of Ask t n) (drop-append-le (k + 1) rs (r ∷ []) (omega (arith, x.within)))
        ∙ same Ask (drop (k + 1) rs) r off ∙ x.behind;
  }

  lasts_kept : (o : Option ℕ) (rs : List Told) (r : Told) → is_line_of t n r ≡ false
      → MatchOption o (ranges_of Ask t n rs ≡ []) (IsLastAt t n rs)
      → MatchOption o (ranges_of Ask t n (rs ++ r ∷ []) ≡ []) (IsLastAt t n (rs ++ r ∷ []))
  lasts_kept None rs r off none = same Ask rs r off ∙ none
  lasts_kept (Some k) rs r off x = last_kept rs r k off x

  -- of another session nothing changes
  pub other_covered : (rs : List Told) (r : Told) (c : Covered) → is_line_of t n r ≡ false → IsCovered t n rs c
      → IsCovered t n (rs ++ r ∷ []) c
  other_covered rs r c off x = record {
    last = lasts_kept c.last rs r off x.last;
    left = subst (λ (xs : List Span). IsTrue c.left ↔ (xs ≢ [])) (sym (same Leaves rs r off)) x.left;
    asks = x.asks ∙ ap reached (sym (same Ask rs r off));
    gaves = x.gaves ∙ ap reached (sym (same Gave rs r off));
  }

  -- what is nothing from an index on, is nothing from a later one on
  pub later : (side : Side) (rs : List Told) (a b : ℕ) → a ≤ b → ranges_of side t n (drop a rs) ≡ [] → ranges_of side t n (drop b rs) ≡ []
  later side rs a b le none =
      let m = b - a in
      let whole = drop a rs in
      let is : b ≡ a + m = omega (arith, le) in
      ap (λ (k : ℕ). ranges_of side t n (drop k rs)) is
      ∙ sym (ap (ranges_of side t n) (drop-drop m a rs))
      ∙ none_behind (ranges_of side t n (take m whole)) (ranges_of side t n (drop m whole))
      (sym (flat_map-append (range_of side t n) (take m whole) (drop m whole)) ∙ ap (ranges_of side t n) (take-append-drop m whole) ∙ none)

and_zero : (b : Bool) → (b && 0 == 0) ≡ b
and_zero true = refl
and_zero false = refl

-- a line of a session, by its numbers
pub line_is : (t : ThreadNo) (n : SessionNo) (r : Told)
    → is_line_of t n r ≡ ((t.0 == (session_in r).0.0 && n.0 == (session_in r).1.0) && 0 == 0)
line_is t n (told.Served s) = sym (and_zero (is_of t n s.worker s.session))
line_is t n (told.Left l) = sym (and_zero (is_of t n l.worker l.session))

pub numbers_are : (x y a b : ℕ) → ((x == a && y == b) && 0 == 0) ≡ true → (x ≡ a) × (y ≡ b)
numbers_are x y a b same_key = (grind (arith, same_key), grind (arith, same_key))

-- a session's entry with one record more
pub noted : (t : ThreadNo) (n : SessionNo) (rs : List Told) (r : Told) (before next : Covered) (o new : Option Covered) (line : Bool)
    → is_line_of t n r ≡ line → new ≡ cond line (Some next) o → (line ≡ true → covered_in o ≡ before)
    → IsCovered t n rs (covered_in o) → (is_line_of t n r ≡ true → IsCovered t n rs before → IsCovered t n (rs ++ r ∷ []) next)
    → IsCovered t n (rs ++ r ∷ []) (covered_in new)
noted t n rs r before next o new true is put was x step =
    subst (λ (q : Option Covered). IsCovered t n (rs ++ r ∷ []) (covered_in q)) (sym put)
    (step is (subst (IsCovered t n rs) (was refl) x))
noted t n rs r before next o new false is put was x step =
    subst (λ (q : Option Covered). IsCovered t n (rs ++ r ∷ []) (covered_in q)) (sym put)
    (other_covered t n rs r (covered_in o) is x)
