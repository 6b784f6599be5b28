-- The exits of a park.
use Rattle.std.proofs.Common.{◌≡◌, ◌≢◌, ℕ, ◌+◌, ◌-◌, ◌<◌, ◌≤◌, eqb, cond, Bool, true, false, List, [], ◌∷◌, ◌++◌, length, refl, sym, ap, ◌∙◌, subst, arith, Option, Some, IfSome, inl, ⊎_elim, append_assoc, map}
use Rattle.std.proofs.lemmas.List.{length-append, length-map, map-append}
use Rattle.std.proofs.lemmas.Bool.{eqb-true, or_cases}
use Rattle.std.proofs.lemmas.Map.Steps.{length-le_from_distinct_below}
use Rattle.std.specs.List.{IsDistinct, AllByRecursion, list_any}
use Rattle.hx_base.specs.declared.numbers.ThreadNo.{ThreadNo}
use Rattle.hx_base.specs.declared.numbers.SessionNo.{SessionNo}
use Rattle.hx_base.specs.declared.numbers.Face.{Face}
use Rattle.hx_base.specs.declared.rules.Mode.TheVariants as mode
use Rattle.hx_base.specs.declared.totals.Totals.{Totals}
use Rattle.hx_base.specs.Shown.{Shown}
use Rattle.hx_pool.specs.declared.entries.Entry.TheVariants.{Park, Gate, Up, Down, Look}
use Rattle.hx_pool.specs.declared.entries.Note.{Note}
use Rattle.hx_pool.specs.declared.refusals.NoPark.{NoPark}
use Rattle.hx_pool.specs.declared.refusals.NoPark.TheVariants.{Never, NoneKept, RowFull, Draining, PoolFull}
use Rattle.hx_pool.specs.Table.{Vacant, Holds, found_of}
use Rattle.hx_pool.specs.History.{plain}
use Rattle.hx_pool.specs.SeatView.{About, Grows}
use Rattle.hx_pool.specs.Causes.{place_of, Among, ShowsTaken}
use Rattle.hx_pool.specs.Parking.{CanPark, KeepsSome, FindsVacant, Parks, RefusesPark, gated, parked}
use Rattle.hx_pool.specs.Totals.{totals_after}
use Rattle.hx_pool.proofs.Histories.{even-append}
use Rattle.hx_pool.proofs.Calls.{has_kept, looks_marks, looks_even, marks_parked}
use Rattle.hx_plain.specs.declared.rest.Rest.{Rest}
use Rattle.hx_plain.specs.Book.{Book, add_note, add_notes}
use Rattle.hx_resting.specs.Row.{RefusedByRules}
use Rattle.hx_plain.specs.Row.{Rested, rests_of, spot_in, looks_run, Scanned, IsFirstVacant, Admits, Refuses}
use Rattle.hx_plain.specs.Plain.{AreApart, alone, Known, known, Stands, KeepsAll}
use Rattle.hx_plain.proofs.Looks.{run_looks, length-looks_run, empty_vacant}
use Rattle.hx_plain.proofs.Steps.{made, gate_stands, up_stands, down_stands}
use Rattle.hx_plain.proofs.Moves.{park_stands}
use Rattle.hx_plain.proofs.Keeping.{run_stands, keeps_on, calls_by, calls_none, grows_by, shown_at, looks_no_drain, no_drain-append, totals_from-looks, looks_totals, marks_after_looks}

shows_taken : (t : ThreadNo) (rests : List Rested) (c q : ℕ) → q < c → spot_in rests q ≢ Vacant → ShowsTaken t (looks_run t rests 0 c) (place_of t.0 q)
shows_taken t rests c q h ne = (found_of (spot_in rests q), (λ e. ne (empty_vacant rests q e)), shown_at t rests 0 c q (omega arith) (omega arith))

finds_vacant : (t : ThreadNo) (rests : List Rested) (p : ℕ) → IsFirstVacant rests p → FindsVacant t (looks_run t rests 0 (p + 1)) (place_of t.0 p)
finds_vacant t rests p f = record {
  row = refl;
  inside = f.inside;
  below = λ q h. shows_taken t rests (p + 1) q (omega arith) (f.below q h);
  vacant = subst (λ s. Among (λ e. e ≡ Look t (place_of t.0 p) (found_of s)) (looks_run t rests 0 (p + 1))) f.vacant (shown_at t rests 0 (p + 1) p (omega arith) (omega arith));
}

-- no more values than places
places : List Rested → List ℕ
places xs = map (λ (x : Rested). x.place) xs

not_among : (xs : List Rested) (p : ℕ) → spot_in xs p ≡ Vacant → AllByRecursion (λ y. eqb p y ≡ false) (places xs)
unfolding places
not_among [] p v = tt
not_among (x ∷ xs) p v =
    let P : Bool → Type 0 = λ b. cond b (Holds x.shown.face) (spot_in xs p) ≡ Vacant → (b ≡ false) × (spot_in xs p ≡ Vacant) in
    let all : (b : Bool) → P b = λ b. elim b as P [ true ↦ λ h. cc | false ↦ λ h. (refl, h) ] in
    let r = all (eqb p x.place) v in
    (r.0, not_among xs p r.1)

distinct_places : (xs : List Rested) → AreApart xs → IsDistinct eqb (places xs)
unfolding places IsDistinct
distinct_places [] a = tt
distinct_places (x ∷ xs) a = (not_among xs x.place a.1, distinct_places xs a.2)

low_places : (xs : List Rested) (q : ℕ) → AreApart xs → list_any (eqb q) (places xs) ≡ true → q < 64
unfolding places
low_places [] q a h = cc
low_places (x ∷ xs) q a h = ⊎_elim
    (λ (e : eqb q x.place ≡ true). subst (λ (j : ℕ). j < 64) (sym (eqb-true q x.place e)) a.0)
    (λ e. low_places xs q a.2 e)
    (or_cases (eqb q x.place) (list_any (eqb q) (places xs)) h)

room_left : (xs : List Rested) (p : ℕ) → AreApart xs → p < 64 → spot_in xs p ≡ Vacant → length xs < 64
unfolding places IsDistinct
room_left xs p a low v =
    let all : List ℕ = p ∷ places xs in
    let d : IsDistinct eqb all = (not_among xs p v, distinct_places xs a) in
    let l = length-le_from_distinct_below all 64 d (λ q h. ⊎_elim
    (λ (e : eqb q p ≡ true). subst (λ (j : ℕ). j < 64) (sym (eqb-true q p e)) low)
    (λ e. low_places xs q a e)
    (or_cases (eqb q p) (list_any (eqb q) (places xs)) h)) in
    let m = length-map xs (λ (x : Rested). x.place) in omega arith

-- where a place is vacant the vector has room for one more value
pub has_place : {V : Type 0} (shows : V → Shown) (xs : List (Rest V)) (p : ℕ) → AreApart (rests_of shows xs) → IsFirstVacant (rests_of shows xs) p → length xs < 64
has_place {V} shows xs p a f =
    let g : Rest V → Rested = λ y. record { place = y.place; shown = shows y.v } in
    let l = room_left (rests_of shows xs) p a f.inside f.vacant in
    let m = length-map xs g in omega arith

-- one more note in a book
pub book_more : (old a b : Book) (ms ys : List Note) → a ≡ add_notes old ms → b ≡ add_notes a ys → b ≡ add_notes old (ms ++ ys)
book_more old a b ms ys e f = f ∙ (ap (λ (z : Book). add_notes z ys) e ∙ ap (λ (l : List Note). let z : Book = record { board = old.board; notes = l } in z) (append_assoc old.notes ms ys))

module _ (a : About) (notes : List Note) (n : ℕ) (o : ℕ) (rests : List Rested) where
  -- looks, and a gate
  gate_after : (d : Bool) → Stands a notes (known n d o rests) rests → (j : ℕ) → j ≤ 64 → Stands a (notes ++ (looks_run a.thread rests 0 j ++ plain (Gate a.thread d) ∷ [])) (known n d o rests) rests
  gate_after d s j low = subst (λ hs. Stands a hs (known n d o rests) rests) (append_assoc notes (looks_run a.thread rests 0 j) (plain (Gate a.thread d) ∷ [])) (gate_stands a _ (known n d o rests) rests (run_stands a notes (known n d o rests) rests s 0 j (omega arith)))

  -- looks, a gate that shows ready, and more
  snoc : (j : ℕ) (es : List Note) (x : Note) → (notes ++ gated a.thread (looks_run a.thread rests 0 j) es) ++ x ∷ [] ≡ notes ++ gated a.thread (looks_run a.thread rests 0 j) (es ++ x ∷ [])
  snoc j es x = append_assoc notes (gated a.thread (looks_run a.thread rests 0 j) es) (x ∷ []) ∙ ap (λ l. notes ++ l) (append_assoc (looks_run a.thread rests 0 j) (plain (Gate a.thread false) ∷ es) (x ∷ []))

  up_after : Stands a notes (known n false o rests) rests → (j : ℕ) → j ≤ 64 → Stands a (notes ++ gated a.thread (looks_run a.thread rests 0 j) (plain (Up a.thread (length rests)) ∷ [])) (record { next = n; draining = false; count = length rests + 1; round = o }) rests
  up_after s j low = subst (λ hs. Stands a hs (record { next = n; draining = false; count = length rests + 1; round = o }) rests) (snoc j [] (plain (Up a.thread (length rests)))) (up_stands a _ (known n false o rests) rests (gate_after false s j low))

  full_after : Stands a notes (known n false o rests) rests → (j : ℕ) → j ≤ 64 → Stands a (notes ++ gated a.thread (looks_run a.thread rests 0 j) (plain (Up a.thread (length rests)) ∷ plain (Down a.thread (length rests + 1)) ∷ [])) (known n false o rests) rests
  full_after s j low =
      let k : Known = record { next = n; draining = false; count = length rests + 1; round = o } in
      let c : (length rests + 1) - 1 ≡ length rests = omega arith in
      subst (λ hs. Stands a hs (known n false o rests) rests) (snoc j (plain (Up a.thread (length rests)) ∷ []) (plain (Down a.thread (length rests + 1))))
      (subst (λ (i : ℕ). Stands a ((notes ++ gated a.thread (looks_run a.thread rests 0 j) (plain (Up a.thread (length rests)) ∷ [])) ++ plain (Down a.thread (length rests + 1)) ∷ []) (record { next = n; draining = false; count = i; round = o }) rests) c (down_stands a _ k rests (up_after s j low) (omega arith)))

-- the rules refuse, and nothing was done
pub by_rules : (a : About) (p : Option ℕ) (notes : List Note) (k : Known) (rests : List Rested) → Stands a notes k rests → (m : SessionNo) (v : Shown) (why : NoPark) → RefusedByRules a.rules why → RefusesPark (alone a p notes) (alone a p notes) m v why
by_rules a p notes k rests s m v Never r = (r, calls_none a p notes s.one)
by_rules a p notes k rests s m v NoneKept r = (r.0, r.1, calls_none a p notes s.one)
by_rules a p notes k rests s m v RowFull r = absurd r
by_rules a p notes k rests s m v Draining r = absurd r
by_rules a p notes k rests s m v (PoolFull c) r = absurd r

-- what a refused park keeps and says: the new notes, the seat, the cause and the marks
abbrev pub Refused : About → Option ℕ → Totals → ℕ → Book → Book → ℕ → Bool → ℕ → List Rested → SessionNo → Shown → NoPark → Type 0
Refused a p t room old new n d o rests m v why = KeepsAll a new.notes (known n d o rests) rests p t room × RefusesPark (alone a p old.notes) (alone a p new.notes) m v why × Grows (alone a p old.notes) (alone a p new.notes) [] × (new.board ≡ old.board)

module _ (a : About) (p : Option ℕ) (t : Totals) (room : ℕ) (old : Book) (n : ℕ) (o : ℕ) (rests : List Rested) (m : SessionNo) (v : Shown) (shares : a.rules.mode ≢ mode.Never) (keeps : KeepsSome a.rules) where
  -- the notes of a refused park are these
  same_notes : (d : Bool) (new : Book) (why : NoPark) (ys : List Note) → new ≡ add_notes old ys → Refused a p t room old (add_notes old ys) n d o rests m v why → Refused a p t room old new n d o rests m v why
  same_notes d new why ys e r = subst (λ (b : Book). Refused a p t room old b n d o rests m v why) (sym e) r

  pub row_full : (d : Bool) → KeepsAll a old.notes (known n d o rests) rests p t room → (new : Book) → Scanned old new a.thread rests 64 64 → Refused a p t room old new n d o rests m v RowFull
  row_full d s new scan =
      let L : List Note = looks_run a.thread rests 0 64 in
      let looked = run_looks a.thread rests 0 64 in
      let st = run_stands a old.notes (known n d o rests) rests s.stands 0 64 (omega arith) in
      same_notes d new RowFull L scan.book (
        keeps_on a old.notes (known n d o rests) rests p t room s L (known n d o rests) rests t room st (looks_no_drain a.thread L looked) (sym (looks_totals a.thread L t looked)) s.roomy,
        (
          shares,
          keeps,
          record {
            looks = record { looks = L; looked = looked; makes = made a p p old.notes L s.stands.one st.one (looks_even a.thread L looked) };
            passed = refl;
            taken = λ q h. shows_taken a.thread rests 64 q h (scan.taken q h);
          },
        ),
        grows_by a p p old.notes L [] s.stands.one st.one (looks_even a.thread L looked) (sym (looks_marks a.thread L looked)) (let e = length-looks_run a.thread rests 0 64 in omega arith),
        refl,
      )

  pub shut_out : KeepsAll a old.notes (known n true o rests) rests p t room → (new : Book) (q : ℕ) → IsFirstVacant rests q → new ≡ add_notes old (looks_run a.thread rests 0 (q + 1) ++ plain (Gate a.thread true) ∷ []) → Refused a p t room old new n true o rests m v Draining
  shut_out s new q first book =
      let L : List Note = looks_run a.thread rests 0 (q + 1) in
      let ys : List Note = L ++ plain (Gate a.thread true) ∷ [] in
      let looked = run_looks a.thread rests 0 (q + 1) in
      let low = first.inside in
      let st = gate_after a old.notes n o rests true s.stands (q + 1) (omega arith) in
      same_notes true new Draining ys book (
        keeps_on a old.notes (known n true o rests) rests p t room s ys (known n true o rests) rests t room st (no_drain-append L _ (looks_no_drain a.thread L looked) (tt, tt)) (sym (totals_from-looks a.thread L _ t looked)) s.roomy,
        (
          shares,
          keeps,
          inl (record { looks = L; place = place_of a.thread.0 q; looked = looked; found = finds_vacant a.thread rests q first; makes = calls_by a p old.notes ys s.stands.one st.one (even-append L _ (looks_even a.thread L looked) refl) }),
        ),
        grows_by a p p old.notes ys [] s.stands.one st.one (even-append L _ (looks_even a.thread L looked) refl) (sym (marks_after_looks a.thread L _ looked)) (let e = length-looks_run a.thread rests 0 (q + 1) in omega (arith, length-append L (plain (Gate a.thread true) ∷ []))),
        refl,
      )

  pub pool_full : KeepsAll a old.notes (known n false o rests) rests p t room → (new : Book) (q c : ℕ) → IsFirstVacant rests q → c ≡ length rests → ((x : ℕ) × (a.rules.max ≡ Some x) × (x ≤ length rests)) → new ≡ add_notes old (gated a.thread (looks_run a.thread rests 0 (q + 1)) (plain (Up a.thread (length rests)) ∷ plain (Down a.thread (length rests + 1)) ∷ [])) → Refused a p t room old new n false o rests m v (PoolFull c)
  pool_full s new q c first counted limit book =
      let L : List Note = looks_run a.thread rests 0 (q + 1) in
      let es : List Note = plain (Up a.thread (length rests)) ∷ plain (Down a.thread (length rests + 1)) ∷ [] in
      let ys : List Note = gated a.thread L es in
      let looked = run_looks a.thread rests 0 (q + 1) in
      let low = first.inside in
      let st = full_after a old.notes n o rests s.stands (q + 1) (omega arith) in
      let P : ℕ → Type 0 = λ i. Refused a p t room old new n false o rests m v (PoolFull i) in
      subst P (sym counted) (same_notes false new (PoolFull (length rests)) ys book (
        keeps_on a old.notes (known n false o rests) rests p t room s ys (known n false o rests) rests t room st (no_drain-append L _ (looks_no_drain a.thread L looked) (tt, (tt, (tt, tt)))) (sym (totals_from-looks a.thread L _ t looked)) s.roomy,
        (
          shares,
          keeps,
          record { looks = L; place = place_of a.thread.0 q; down = length rests + 1; looked = looked; found = finds_vacant a.thread rests q first; limit = limit; makes = calls_by a p old.notes ys s.stands.one st.one (even-append L _ (looks_even a.thread L looked) refl) },
        ),
        grows_by a p p old.notes ys [] s.stands.one st.one (even-append L _ (looks_even a.thread L looked) refl) (sym (marks_after_looks a.thread L _ looked)) (let e = length-looks_run a.thread rests 0 (q + 1) in omega (arith, length-append L (plain (Gate a.thread false) ∷ es))),
        refl,
      ))

  -- every refusal after the rules
  pub refused : (d : Bool) → KeepsAll a old.notes (known n d o rests) rests p t room → (new : Book) (why : NoPark) → Refuses old new a.thread rests d a.rules.max why → Refused a p t room old new n d o rests m v why
  refused d s new Never r = absurd r
  refused d s new NoneKept r = absurd r
  refused d s new RowFull r = row_full d s new r
  refused d s new Draining r =
      let P : Bool → Type 0 = λ b. KeepsAll a old.notes (known n b o rests) rests p t room → Refused a p t room old new n b o rests m v Draining in
      let at : P true = λ z. shut_out z new r.1.p r.1.first r.1.book in
      subst P (sym r.0) at s
  refused d s new (PoolFull c) r =
      let P : Bool → Type 0 = λ b. KeepsAll a old.notes (known n b o rests) rests p t room → Refused a p t room old new n b o rests m v (PoolFull c) in
      let at : P false = λ z. pool_full z new r.1.p c r.1.first r.1.count r.1.limit r.1.book in
      subst P (sym r.0) at s

-- the entries of a park that is Ok
abbrev pub park_entries : About → List Rested → SessionNo → ℕ → Shown → List Note
park_entries a rests m q v = gated a.thread (looks_run a.thread rests 0 (q + 1)) (plain (Up a.thread (length rests)) ∷ parked a.thread m (place_of a.thread.0 q) v ∷ plain (Gate a.thread false) ∷ [])

-- the notes of a park, as the code writes them
pub park_book : (a : About) (old mid put new : Book) (rests : List Rested) (d : Bool) (m : SessionNo) (q : ℕ) (v : Shown) → Admits old mid a.thread rests d a.rules.max q → put ≡ add_note mid (parked a.thread m (place_of a.thread.0 q) v) → new ≡ add_note put (plain (Gate a.thread d)) → new ≡ add_notes old (park_entries a rests m q v)
park_book a old mid put new rests d m q v ad wrote gate =
    let L : List Note = looks_run a.thread rests 0 (q + 1) in
    let up : Note = plain (Up a.thread (length rests)) in
    let x : Note = parked a.thread m (place_of a.thread.0 q) v in
    let g : Bool → Note = λ b. plain (Gate a.thread b) in
    let one = book_more old mid put (L ++ g false ∷ up ∷ []) (x ∷ []) ad.book wrote in
    let two = book_more old put new ((L ++ g false ∷ up ∷ []) ++ x ∷ []) (g d ∷ []) one gate in
    two ∙ (ap (λ (b : Bool). add_notes old (((L ++ g false ∷ up ∷ []) ++ x ∷ []) ++ g b ∷ [])) ad.ready
    ∙ ap (λ (l : List Note). add_notes old l) (ap (λ l. l ++ g false ∷ []) (append_assoc L (g false ∷ up ∷ []) (x ∷ [])) ∙ append_assoc L (g false ∷ up ∷ x ∷ []) (g false ∷ [])))

module _ (a : About) (notes : List Note) (n : ℕ) (o : ℕ) (rests : List Rested) (s : Stands a notes (known n false o rests) rests)
    (m : SessionNo) (q : ℕ) (v : Shown) (p : Option ℕ) (can : CanPark (alone a p notes) m v) (most : v.face.uses ≤ 65535) (shares : a.rules.mode ≢ mode.Never) (first : IsFirstVacant rests q) (limit : IfSome a.rules.max (λ x. length rests < x)) where
  put_stands : Stands a (notes ++ park_entries a rests m q v) (known n false o (rests ++ record { place = q; shown = v } ∷ [])) (rests ++ record { place = q; shown = v } ∷ [])
  put_stands =
      let j : ℕ = q + 1 in
      let low = first.inside in
      let L : List Note = looks_run a.thread rests 0 j in
      let r : Rested = record { place = q; shown = v } in
      let rests' : List Rested = rests ++ r ∷ [] in
      let x : Note = parked a.thread m (place_of a.thread.0 q) v in
      let up : Note = plain (Up a.thread (length rests)) in
      let k : ℕ → Known = λ c. record { next = n; draining = false; count = c; round = o } in
      let after_up = up_after a notes n o rests s j (omega arith) in
      let has = has_kept notes L (plain (Gate a.thread false) ∷ up ∷ []) a.thread m v.face.id.0 (v.face.uses - 1) (run_looks a.thread rests 0 j) refl can.has in
      let put = park_stands a _ (k (length rests + 1)) rests after_up m q v can.session first.inside first.vacant can.server has can.used most shares limit in
      let gate = gate_stands a _ (k (length rests + 1)) rests' put in
      let e : ((notes ++ gated a.thread L (up ∷ [])) ++ x ∷ []) ++ plain (Gate a.thread false) ∷ [] ≡ notes ++ park_entries a rests m q v
      = ap (λ l. l ++ plain (Gate a.thread false) ∷ []) (snoc a notes n o rests j (up ∷ []) x) ∙ snoc a notes n o rests j (up ∷ x ∷ []) (plain (Gate a.thread false)) in
      let c : length rests + 1 ≡ length rests' = omega (arith, length-append rests (r ∷ [])) in
      subst (λ hs. Stands a hs (k (length rests')) rests') e (subst (λ (i : ℕ). Stands a (((notes ++ gated a.thread L (up ∷ [])) ++ x ∷ []) ++ plain (Gate a.thread false) ∷ []) (k i) rests') c gate)

  pub put_all : (t : Totals) (room : ℕ) → KeepsAll a notes (known n false o rests) rests p t room → KeepsSome a.rules
      → KeepsAll a (notes ++ park_entries a rests m q v) (known n false o (rests ++ record { place = q; shown = v } ∷ [])) (rests ++ record { place = q; shown = v } ∷ []) p (totals_after t (Park a.thread m v.face.id (place_of a.thread.0 q) v.face.uses)) room
      × Parks (alone a p notes) (alone a p (notes ++ park_entries a rests m q v)) m (place_of a.thread.0 q) v
      × Grows (alone a p notes) (alone a p (notes ++ park_entries a rests m q v)) (Park a.thread m v.face.id (place_of a.thread.0 q) v.face.uses ∷ [])
  put_all t room all keeps =
      let L : List Note = looks_run a.thread rests 0 (q + 1) in
      let low = first.inside in
      let looked = run_looks a.thread rests 0 (q + 1) in
      let es : List Note = plain (Up a.thread (length rests)) ∷ parked a.thread m (place_of a.thread.0 q) v ∷ plain (Gate a.thread false) ∷ [] in
      let ys : List Note = park_entries a rests m q v in
      let rests' : List Rested = rests ++ record { place = q; shown = v } ∷ [] in (
        keeps_on a notes (known n false o rests) rests p t room all ys (known n false o rests') rests' (totals_after t (Park a.thread m v.face.id (place_of a.thread.0 q) v.face.uses)) room put_stands (no_drain-append L _ (looks_no_drain a.thread L looked) (tt, (tt, (tt, (tt, tt))))) (sym (totals_from-looks a.thread L _ t looked)) all.roomy,
        record {
          mode = shares;
          keeps = keeps;
          looks = L;
          count = length rests;
          tail = plain (Gate a.thread false) ∷ [];
          looked = looked;
          found = finds_vacant a.thread rests q first;
          limit = limit;
          settles = inl refl;
          makes = calls_by a p notes ys s.one put_stands.one (even-append L _ (looks_even a.thread L looked) refl);
        },
        grows_by a p p notes ys _ s.one put_stands.one (even-append L _ (looks_even a.thread L looked) refl) (sym (marks_parked L a.thread m (place_of a.thread.0 q) v (length rests) (plain (Gate a.thread false) ∷ []) looked (inl refl))) (let e = length-looks_run a.thread rests 0 (q + 1) in omega (arith, length-append L (plain (Gate a.thread false) ∷ es))),
      )

pub parked_note : (t : ThreadNo) (m : SessionNo) (q : ℕ) (v : Shown) (f : Face) → f ≡ v.face → let y : Note = record { entry = Park t m f.id (place_of t.0 q) f.uses; what = Some v.what } in y ≡ parked t m (place_of t.0 q) v
parked_note t m q v f e = ap (λ (g : Face). let y : Note = record { entry = Park t m g.id (place_of t.0 q) g.uses; what = Some v.what } in y) e

pub pushed : {V : Type 0} (shows : V → Shown) (xs ys : List (Rest V)) (r : Rest V) → ys ≡ xs ++ r ∷ [] → rests_of shows ys ≡ rests_of shows xs ++ record { place = r.place; shown = shows r.v } ∷ []
pushed {V} shows xs ys r e = let g : Rest V → Rested = λ y. record { place = y.place; shown = shows y.v } in ap (rests_of shows) e ∙ map-append g xs (r ∷ [])
