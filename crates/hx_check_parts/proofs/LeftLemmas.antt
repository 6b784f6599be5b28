-- A left line, judged by what all records tell of its session.
use Rattle.std.proofs.Common.{◌≡◌, ℕ, ◌+◌, ◌<◌, ◌≤◌, Bool, true, false, List, [], ◌∷◌, ◌++◌, Option, None, Some, length, take, drop, get_or, refl, sym, ap, ◌∙◌, subst, arith}
use Rattle.std.specs.Prelude.{◌≢◌, ◌↔◌, MatchOption, if◌then◌else◌, nat_lt, slice_get}
use Rattle.std.proofs.lemmas.List.{append-nil, drop_more, take_more, take-append-drop}
use Rattle.std.proofs.lemmas.Option.{slice_get_within, slice_get-get_or}
use Rattle.std.specs.Option.{unwrap_or}
use Rattle.std.proofs.lemmas.Grind.{flat_map-append}
use Rattle.hx_base.specs.declared.numbers.Span.{Span}
use Rattle.hx_base.specs.declared.numbers.ThreadNo.{ThreadNo}
use Rattle.hx_base.specs.declared.numbers.SessionNo.{SessionNo}
use Rattle.hx_record.specs.Tiles.{is_of}
use Rattle.hx_record.specs.declared.bytes.ClientBytes.{ClientBytes}
use Rattle.hx_record.specs.declared.served.Left.{Left}
use Rattle.hx_record.specs.declared.served.Told.{Told}
use Rattle.hx_record.specs.declared.served.Told.TheVariants as told
use Rattle.hx_check_parts.specs.Links.{client_took, client_gave}
use Rattle.hx_check_parts.specs.Tiling.{LeftHolds}
use Rattle.hx_check_parts.specs.Ranges.{range_of, ranges_of}
use Rattle.hx_check_parts.specs.Sessions.{reached, IsLastAt, IsCovered, EndsAt}
use Rattle.hx_check_parts.specs.declared.ranges.Side.{Side}
use Rattle.hx_check_parts.specs.declared.ranges.Side.TheVariants.{Ask, Gave}
use Rattle.hx_check_parts.specs.declared.sessions.Covered.{Covered}
use Rattle.hx_check_parts.proofs.ReachLemmas.{contiguous}
use Rattle.hx_check_parts.proofs.SessionLemmas.{none_behind, none_before, not_none, more, later}

-- a record that tells nothing that was read tells nothing that was given
if_none : (b : Bool) (a g : Span) → (if b then a ∷ [] else []) ≡ [] → (if b then g ∷ [] else []) ≡ []
if_none true a g e = absurd (not_none [] a e)
if_none false a g e = refl

gave_none : (t : ThreadNo) (n : SessionNo) (r : Told) → range_of Ask t n r ≡ [] → range_of Gave t n r ≡ []
gave_none t n (told.Served s) e = if_none (is_of t n s.worker s.session) s.ask s.gave e
gave_none t n (told.Left l) e = refl

quiet_gave : (t : ThreadNo) (n : SessionNo) (rs : List Told) → ranges_of Ask t n rs ≡ [] → ranges_of Gave t n rs ≡ []
quiet_gave t n [] e = refl
quiet_gave t n (r ∷ rs) e =
    ap (λ (x : List Span). x ++ ranges_of Gave t n rs) (gave_none t n r (none_before (range_of Ask t n r) (ranges_of Ask t n rs) e))
    ∙ quiet_gave t n rs (none_behind (range_of Ask t n r) (ranges_of Ask t n rs) e)

if_yes : (b : Bool) (a : Span) → b ≡ true → (if b then a ∷ [] else []) ≡ a ∷ []
if_yes true a e = refl
if_yes false a e = grind (arith, e)

is_self : (t : ThreadNo) (n : SessionNo) → is_of t n t n ≡ true
is_self t n = grind arith

below : (a b : ℕ) → nat_lt a b ≡ true → a < b
below a b less = grind (arith, less)

not_below : (a b : ℕ) → nat_lt a b ≡ false → b ≤ a
not_below a b off = grind (arith, off)

module _ (x : Left) (records : List Told) (k : ℕ) (there : slice_get records k ≡ Some (told.Left x)) where
  within : k < length records
  within = slice_get_within records k (told.Left x) there

  here : get_or records k (told.Left x) ≡ told.Left x
  here = ap (λ (o : Option Told). unwrap_or o (told.Left x)) (sym (slice_get-get_or records k (told.Left x) within) ∙ there)

  ask_here : range_of Ask x.worker x.session (told.Left x) ≡ x.ask ∷ []
  ask_here = if_yes (is_of x.worker x.session x.worker x.session) x.ask (is_self x.worker x.session)

  not_quiet : ranges_of Ask x.worker x.session (drop k records) ≢ []
  not_quiet e =
      let rest = drop (k + 1) records in
      let front = drop_more records k (told.Left x) within ∙ ap (λ (r : Told). r ∷ rest) here in
      let none = none_before (range_of Ask x.worker x.session (told.Left x)) (ranges_of Ask x.worker x.session rest)
      (sym (ap (ranges_of Ask x.worker x.session) front) ∙ e) in
      not_none [] x.ask (sym ask_here ∙ none)

  same_last : (j : ℕ) (b c : Bool) → nat_lt j k ≡ b → nat_lt k j ≡ c → IsLastAt x.worker x.session records j
      → ranges_of Ask x.worker x.session (drop (k + 1) records) ≡ [] → j ≡ k
  same_last j true c lt gt last quiet =
      absurd (not_quiet (later x.worker x.session Ask records (j + 1) k (omega (arith, below j k lt)) last.behind))
  same_last j false true lt gt last quiet =
      absurd (last.here (later x.worker x.session Ask records (k + 1) j (omega (arith, below k j gt)) quiet))
  same_last j false false lt gt last quiet = omega (arith, not_below j k lt, not_below k j gt)

  last_is : (o : Option ℕ)
      → MatchOption o (ranges_of Ask x.worker x.session records ≡ []) (IsLastAt x.worker x.session records)
      → ranges_of Ask x.worker x.session (drop (k + 1) records) ≡ [] → o ≡ Some k
  last_is None none quiet = absurd (not_quiet (later x.worker x.session Ask records 0 k (omega arith) none))
  last_is (Some j) last quiet = ap Some (same_last j (nat_lt j k) (nat_lt k j) refl refl last quiet)

  whole : (side : Side) → ranges_of side x.worker x.session (drop (k + 1) records) ≡ []
      → ranges_of side x.worker x.session (take (k + 1) records) ≡ ranges_of side x.worker x.session records
  whole side quiet =
      let front = ranges_of side x.worker x.session (take (k + 1) records) in
      sym
      (ap (ranges_of side x.worker x.session) (sym (take-append-drop (k + 1) records))
      ∙ flat_map-append (range_of side x.worker x.session) (take (k + 1) records) (drop (k + 1) records)
      ∙ ap (λ (y : List Span). front ++ y) quiet ∙ append-nil front)

  gave_whole : ranges_of Ask x.worker x.session (drop (k + 1) records) ≡ []
      → ranges_of Gave x.worker x.session (take k records) ≡ ranges_of Gave x.worker x.session records
  gave_whole quiet =
      let front = ranges_of Gave x.worker x.session (take k records) in
      sym (append-nil front) ∙ sym (more x.worker x.session Gave (take k records) (told.Left x))
      ∙ ap (ranges_of Gave x.worker x.session)
      (ap (λ (r : Told). take k records ++ r ∷ []) (sym here) ∙ sym (take_more records k (told.Left x) within))
      ∙ whole Gave (quiet_gave x.worker x.session (drop (k + 1) records) quiet)

  module _ (clients : List ClientBytes) (c : Covered) (took gave : ℕ)
      (took_is : took ≡ length (client_took clients x.worker x.session))
      (gave_is : gave ≡ length (client_gave clients x.worker x.session))
      (covered : IsCovered x.worker x.session records c) where
    pub holds : EndsAt c k took gave → LeftHolds clients records k x
    holds (last, asks, gaves) =
        let at : IsLastAt x.worker x.session records k =
        subst (λ (o : Option ℕ). MatchOption o (ranges_of Ask x.worker x.session records ≡ []) (IsLastAt x.worker x.session records)) last
        covered.last in
        record {
          last = at.behind;
          asks = (contiguous (ranges_of Ask x.worker x.session (take (k + 1) records)) 0 (length (client_took clients x.worker x.session))).1
              (ap reached (whole Ask at.behind) ∙ sym covered.asks ∙ asks ∙ ap Some took_is);
          gaves = (contiguous (ranges_of Gave x.worker x.session (take k records)) 0 (length (client_gave clients x.worker x.session))).1
              (ap reached (gave_whole at.behind) ∙ sym covered.gaves ∙ gaves ∙ ap Some gave_is);
        }

    pub ends : LeftHolds clients records k x → EndsAt c k took gave
    ends left = (
      last_is c.last covered.last left.last,
      covered.asks ∙ ap reached (sym (whole Ask left.last))
          ∙ (contiguous (ranges_of Ask x.worker x.session (take (k + 1) records)) 0 (length (client_took clients x.worker x.session))).0 left.asks
          ∙ ap Some (sym took_is),
      covered.gaves ∙ ap reached (sym (gave_whole left.last))
          ∙ (contiguous (ranges_of Gave x.worker x.session (take k records)) 0 (length (client_gave clients x.worker x.session))).0 left.gaves
          ∙ ap Some (sym gave_is),
    )
