-- Which entries show that a park was refused, tried on a small history.
use Rattle.std.proofs.Common.{◌≡◌, ◌+◌, ◌≤◌, true, false, List, [], ◌∷◌, ◌++◌, length, refl, sym, ap, ◌∙◌, subst, arith, lit<, lit≤, inl, ⊎_elim, Some, None, length-append}
use Rattle.std.proofs.lemmas.List.{append_cancel_left}
use Rattle.hx_base.specs.declared.numbers.ThreadNo.{ThreadNo}
use Rattle.hx_base.specs.declared.numbers.SessionNo.{SessionNo}
use Rattle.hx_base.specs.declared.numbers.ConnId.{ConnId}
use Rattle.hx_base.specs.declared.rules.Mode.TheVariants as mode
use Rattle.hx_base.specs.Shown.{Shown}
use Rattle.atomic_table.specs.Seated.{TableId}
use Rattle.hx_pool.specs.declared.entries.Entry.{Entry}
use Rattle.hx_pool.specs.declared.entries.Entry.TheVariants.{Look, Up, Down, Gate, SetGate}
use Rattle.hx_pool.specs.declared.entries.Found.TheVariants.{Empty}
use Rattle.hx_pool.specs.declared.entries.Note.{Note}
use Rattle.hx_pool.specs.declared.refusals.NoPark.{NoPark}
use Rattle.hx_pool.specs.declared.refusals.NoPark.TheVariants as no
use Rattle.hx_pool.specs.Causes.{Among, AllLooks, place_of}
use Rattle.hx_pool.specs.History.{plain}
use Rattle.hx_pool.specs.Parking.{parked, FindsDraining, TakesBack, RefusesPark}
use Rattle.hx_pool.specs.SeatView.{About, History, IsOneHistory, Makes}
use Rattle.hx_pool.specs.Taking.{taking}
use Rattle.hx_pool.specs.Wants.{EndsRefused}

abbrev by : ThreadNo
by = record { 0 = 0 }

abbrev session : SessionNo
session = record { 0 = 1 }

abbrev conn : ConnId
conn = record { 0 = 1 }

abbrev drains : Note
drains = plain (SetGate by true)

abbrev look : Note
look = plain (Look by (place_of 0 0) Empty)

abbrev gate : Note
gate = plain (Gate by true)

abbrev about : TableId → About
about b = record { thread = by; rules = record { mode = mode.Always; max = None; low = 0; delay = record { 0 = 1 } }; board = b; threads = 1; start = record { 0 = 0 }; server = record { 0 = 0 } }

abbrev history : TableId → List Note → History
history b seen = record { about = about b; seen = seen; mine = seen; passed = Some 0 }

one_before : (b : TableId) → IsOneHistory (about b) (drains ∷ []) (drains ∷ [])
one_before b = record { legal = (tt, tt); mode = (tt, tt); limit = (tt, tt); own_part = refl; threads = (lit< tt, tt); inside = (lit< tt, lit≤ tt) }

one_after : (b : TableId) → IsOneHistory (about b) (drains ∷ look ∷ gate ∷ []) (drains ∷ look ∷ gate ∷ [])
one_after b = record {
  legal = (tt, ((lit< tt, refl), (refl, tt)));
  mode = (tt, (tt, (tt, tt)));
  limit = (tt, (tt, (tt, tt)));
  own_part = refl;
  threads = (lit< tt, (lit< tt, (lit< tt, tt)));
  inside = (lit< tt, lit≤ tt);
}

-- a park that found a vacant place and then the server draining
by_park : (b : TableId) (v : Shown) → v.face.id ≡ conn → EndsRefused (history b (drains ∷ look ∷ gate ∷ [])) session conn (look ∷ gate ∷ [])
by_park b v is =
    let makes : Makes (history b (drains ∷ [])) (history b (drains ∷ look ∷ gate ∷ [])) (look ∷ gate ∷ []) =
    record { about = refl; mine = refl; seen = (look ∷ gate ∷ [], refl); was = one_before b; one = one_after b; even = refl } in
    record {
      old = history b (drains ∷ []);
      new = history b (drains ∷ look ∷ gate ∷ []);
      v = v;
      why = no.Draining;
      added = look ∷ gate ∷ [];
      about = refl;
      is = is;
      refuses = (
        (λ e. cc),
        record { some = λ e. cc; while_ = λ e. omega arith },
        inl (record {
          looks = look ∷ [];
          place = place_of 0 0;
          looked = ((place_of 0 0, Empty, refl), tt);
          found = record { row = refl; inside = lit< tt; below = λ p low. absurd (omega arith); vacant = inl refl };
          makes = record { makes = makes; passed = refl };
        }),
      );
      makes = makes;
      ends = ([], refl);
      own = ([], refl);
    }

some_among : (P : Entry → Type 0) (xs : List Note) → Among P xs → 1 ≤ length xs
some_among P [] a = absurd a
some_among P (x ∷ xs) a = omega arith

-- one entry is all of a list that is not empty and ends it
whole_end : (x : Note) (front xs : List Note) → x ∷ [] ≡ front ++ xs → 1 ≤ length xs → xs ≡ x ∷ []
whole_end x [] xs e some = sym e
whole_end x (y ∷ front) xs e some = let all = ap length e in let sum = length-append front xs in absurd (omega arith)

no_refusal : (b : TableId) (old new : History) (v : Shown) (why : NoPark) (front added : List Note) → old.about ≡ about b → Makes old new added → gate ∷ [] ≡ front ++ added
    → RefusesPark old new session v why → ⊥
no_refusal b old new v no.Never front added is m e r = let same : mode.Always ≡ mode.Never = sym (ap (λ (a : About). a.rules.mode) is) ∙ r.0 in cc
no_refusal b old new v no.NoneKept front added is m e r = ⊎_elim
    (λ none. let same = sym (ap (λ (a : About). a.rules.max) is) ∙ none in cc)
    (λ never. let same = sym (ap (λ (a : About). a.rules.delay.0) is) ∙ never in omega (arith, same))
    r.1
no_refusal b old new v no.RowFull front added is m e r =
    let l = r.2.looks in
    let same : added ≡ l.looks = append_cancel_left old.mine added l.looks (sym m.mine ∙ l.makes.mine) in
    let some = some_among (λ x. x ≡ Look old.about.thread (place_of old.about.thread.0 0) (r.2.taken 0 (lit< tt)).0) l.looks (r.2.taken 0 (lit< tt)).2 in
    let one = whole_end gate front l.looks (e ∙ ap (λ ys. front ++ ys) same) some in
    let looked : AllLooks old.about.thread (gate ∷ []) = subst (AllLooks old.about.thread) one l.looked in
    let entry = ap (λ (x : Note). x.entry) looked.0.2 in cc
no_refusal b old new v no.Draining front added is m e r =
    let t = old.about.thread in ⊎_elim
    (λ (f : FindsDraining old new).
    let own = f.looks ++ plain (Gate t true) ∷ [] in
    let same : added ≡ own = append_cancel_left old.mine added own (sym m.mine ∙ f.makes.makes.mine) in
    let some = some_among (λ x. x ≡ Look t f.place Empty) f.looks f.found.vacant in
    let sum = length-append f.looks (plain (Gate t true) ∷ []) in
    let all = ap length e ∙ length-append front added in
    let size = ap length same in omega arith)
    (λ (k : TakesBack old new session v).
    let tail = plain (Gate t false) ∷ plain (Up t k.count) ∷ parked t session k.place v ∷ plain (Gate t true) ∷ taking t session false k.place v.face k.down in
    let same : added ≡ k.looks ++ tail = append_cancel_left old.mine added (k.looks ++ tail) (sym m.mine ∙ k.makes.makes.mine) in
    let sum = length-append k.looks tail in
    let all = ap length e ∙ length-append front added in
    let size = ap length same in omega arith)
    r.2
no_refusal b old new v (no.PoolFull c) front added is m e r =
    let t = old.about.thread in
    let f = r.2 in
    let tail = plain (Gate t false) ∷ plain (Up t c) ∷ plain (Down t f.down) ∷ [] in
    let same : added ≡ f.looks ++ tail = append_cancel_left old.mine added (f.looks ++ tail) (sym m.mine ∙ f.makes.makes.mine) in
    let sum = length-append f.looks tail in
    let all = ap length e ∙ length-append front added in
    let size = ap length same in omega arith

-- a Gate that shows draining is no refused park, so that one who read it in choosing a server may not close for it
not_by_gate : (b : TableId) → ¬ EndsRefused (history b (drains ∷ gate ∷ [])) session conn (gate ∷ [])
not_by_gate b r = no_refusal b r.old r.new r.v r.why r.ends.0 r.added r.about r.makes r.ends.1 r.refuses
