-- Behind a drain nothing rests at its server, and what the caretaker does brings nothing to rest.
use Rattle.std.proofs.Common.{◌≡◌, ◌≢◌, ⊎_elim, ℕ, ◌+◌, ◌<◌, Bool, true, false, cond, List, [], ◌∷◌, ◌++◌, refl, sym, ap, ◌∙◌, subst, arith, Option}
use mathlib.Core.Logic.{dite}
use native.Mathlib.Decide.{ℕ_discrete}
use Rattle.hx_base.specs.declared.numbers.ConnId.{ConnId}
use Rattle.hx_base.specs.declared.numbers.Face.{Face}
use Rattle.hx_base.specs.declared.numbers.PlaceNo.{PlaceNo}
use Rattle.hx_base.specs.declared.numbers.ServerNo.{ServerNo}
use Rattle.hx_base.specs.declared.what.What.{What}
use Rattle.hx_pool.specs.declared.entries.Entry.{Entry}
use Rattle.hx_pool.specs.declared.entries.Entry.TheVariants.{Open, Park, Take, Free, Close, Look, Up, Down, Count, Gate, SetGate, Round}
use Rattle.hx_pool.specs.declared.entries.Note.{Note}
use Rattle.hx_pool.specs.Table.{Conn, Spot, Vacant, Holds, Leaves, put, Table, HeldBy, IdleAt, Closed, IsInRow, spot_no, spot_at, with_spot, face_of, Needs, after_entry, after, empty_table}
use Rattle.hx_pool.specs.History.{what_of, is_mark, plain, own_of, thread_of, marks_of, table_from, table_after, EachStep, MeetsNeeds, IsLegal}
use Rattle.hx_pool.specs.SeatView.{About, AllBelow, History, Makes}
use Rattle.hx_pool.specs.Causes.{IsCovered}
use Rattle.hx_pool.proofs.Counting.{all_own, below-second}
use Rattle.hx_pool.proofs.Emptied.{covered_empty}
use Rattle.hx_pool.proofs.Histories.{table_from-append, EachStep-second}
use Rattle.hx_pool.proofs.Rows.{ParksElsewhere, AllElsewhere}
use Rattle.hx_pool.proofs.Tables.{put_same, put_other, spot_cases}
use Rattle.hx_base.specs.declared.numbers.Millis.{Millis}
use Rattle.hx_base.specs.declared.order.Order.{Order}
use Rattle.hx_base.specs.declared.order.Order.TheVariants.{Drain}
use Rattle.hx_link.specs.Nets.{NetState}
use Rattle.hx_caretaker.specs.Orders.{Drains, Obeys, OrdersAt}
use Rattle.hx_caretaker.specs.Caring.{EachSweep}
use Rattle.hx_caretaker.specs.Rounds.{TicksAt}
use Rattle.hx_caretaker.specs.Sweeps.{Sweep, sweep_marks, Swept, Sweeps, no_sweep}
use Rattle.hx_worker.specs.Cares.{Cares}
use Rattle.hx_worker.specs.Workers.{WorkerNow}
use Rattle.hx_course.specs.Calls.{AreAlone}
use Rattle.hx_course.specs.Places.{IsAtRest}
use Rattle.hx_course.proofs.CareLemmas.{NoParks, IsSwept, CaredAt, ticks_cared, orders_cared, parks_both, what_along, idle_before, sweep_parks, sweep_back}
use Rattle.hx_course.proofs.TableLemmas.{seen_alone, table_alone}

-- a connection that rests is at its place, which is one of the board's
record RestsThere (threads : ℕ) (T : Table) (i : ℕ) (q : PlaceNo) : Type 0 where
  low : IsInRow q
  row : q.row < threads
  face : Face
  its : face.id.0 ≡ i
  spot : spot_at T q ≡ Holds face

abbrev AllRestThere : ℕ → Table → Type 0
AllRestThere threads T = (i : ℕ) (q : PlaceNo) → T.conns i ≡ IdleAt q → RestsThere threads T i q

-- another connection's state is as it was
conn_put : (f : ℕ → Conn) (k i : ℕ) (c : Conn) (q : PlaceNo) → (c ≡ IdleAt q → ⊥) → put f k c i ≡ IdleAt q → (i ≢ k) × (f i ≡ IdleAt q)
conn_put f k i c q other e = dite (ℕ_discrete i k)
    (λ (is : i ≡ k). absurd (other (sym (put_same f k c i is) ∙ e)))
    (λ ne. (ne, sym (put_other f k c i ne) ∙ e))

-- and stays at its place, where something else came to another place
spot_stays : (threads : ℕ) (T S : Table) (i : ℕ) (q place : PlaceNo) (s : Spot) → S.spots ≡ with_spot T place s → IsInRow place → RestsThere threads T i q
    → ((f : Face) → f.id.0 ≡ i → spot_at T place ≡ Holds f → ⊥) → RestsThere threads S i q
spot_stays threads T S i q place s is low r none = record {
  low = r.low;
  row = r.row;
  face = r.face;
  its = r.its;
  spot = ap (λ (f : ℕ → Spot). f (spot_no q)) is ∙ ⊎_elim
      (λ (c : (q ≡ place) × (with_spot T place s (spot_no q) ≡ s)). absurd (none r.face r.its (ap (spot_at T) (sym c.0) ∙ r.spot)))
      (λ (c : (q ≢ place) × (with_spot T place s (spot_no q) ≡ spot_at T q)). c.1 ∙ r.spot)
      (spot_cases T place s q low r.low);
}

same_spots : (threads : ℕ) (T S : Table) (i : ℕ) (q : PlaceNo) → S.spots ≡ T.spots → RestsThere threads T i q → RestsThere threads S i q
same_spots threads T S i q is r = record { low = r.low; row = r.row; face = r.face; its = r.its; spot = ap (λ (f : ℕ → Spot). f (spot_no q)) is ∙ r.spot }

-- each entry keeps that
rest_entry : (threads : ℕ) (T : Table) (w : Option What) (e : Entry) → (thread_of e).0 < threads → Needs T e → AllRestThere threads T → AllRestThere threads (after_entry T w e)
rest_entry threads T w (Open t n id) low need all i q h =
    let c = conn_put T.conns id.0 i (HeldBy t n) q (λ k. cc) h in same_spots threads T (after_entry T w (Open t n id)) i q refl (all i q c.1)
rest_entry threads T w (Park t n id place uses) low need all i q h = dite (ℕ_discrete i id.0)
    (λ (e : i ≡ id.0).
    let at : IdleAt place ≡ IdleAt q = sym (put_same T.conns id.0 (IdleAt place) i e) ∙ h in
    let is : place ≡ q = cc in
    record {
      low = subst IsInRow is need.inside;
      row = subst (λ (p : PlaceNo). p.row < threads) is (omega (arith, need.row, low));
      face = face_of id uses;
      its = sym e;
      spot = put_same T.spots (spot_no place) (Holds (face_of id uses)) (spot_no q) (ap spot_no (sym is));
    })
    (λ ne.
    let was : T.conns i ≡ IdleAt q = sym (put_other T.conns id.0 (IdleAt place) i ne) ∙ h in
    spot_stays threads T (after_entry T w (Park t n id place uses)) i q place (Holds (face_of id uses)) refl need.inside (all i q was)
    (λ f its at. let e : Vacant ≡ Holds f = sym need.vacant ∙ at in cc))
rest_entry threads T w (Take t n first place id uses) low need all i q h =
    let c = conn_put T.conns id.0 i (HeldBy t n) q (λ k. cc) h in
    spot_stays threads T (after_entry T w (Take t n first place id uses)) i q place (Leaves t) refl need.0 (all i q c.1)
    (λ f its at.
    let e : Holds (face_of id uses) ≡ Holds f = sym need.1 ∙ at in
    let same : face_of id uses ≡ f = cc in
    c.0 (sym its ∙ ap (λ (g : Face). g.id.0) (sym same)))
rest_entry threads T w (Close t n id) low need all i q h =
    let c = conn_put T.conns id.0 i Closed q (λ k. cc) h in same_spots threads T (after_entry T w (Close t n id)) i q refl (all i q c.1)
rest_entry threads T w (Free t place) low need all i q h =
    spot_stays threads T (after_entry T w (Free t place)) i q place Vacant refl need.0 (all i q h) (λ f its at. let e : Leaves t ≡ Holds f = sym need.1 ∙ at in cc)
rest_entry threads T w (Look t place found) low need all i q h = all i q h
rest_entry threads T w (Up t old) low need all i q h = same_spots threads T (after_entry T w (Up t old)) i q refl (all i q h)
rest_entry threads T w (Down t old) low need all i q h = same_spots threads T (after_entry T w (Down t old)) i q refl (all i q h)
rest_entry threads T w (Count t c) low need all i q h = all i q h
rest_entry threads T w (Gate t draining) low need all i q h = all i q h
rest_entry threads T w (SetGate t draining) low need all i q h = same_spots threads T (after_entry T w (SetGate t draining)) i q refl (all i q h)
rest_entry threads T w (Round t k old) low need all i q h = same_spots threads T (after_entry T w (Round t k old)) i q refl (all i q h)

rest_along : (threads : ℕ) (T : Table) (xs : List Note) → AllBelow threads xs → EachStep MeetsNeeds T xs → AllRestThere threads T → AllRestThere threads (table_from T xs)
rest_along threads T [] low l all = all
rest_along threads T (x ∷ xs) low l all = rest_along threads (after T x) xs low.1 l.1 (rest_entry threads T x.what x.entry low.0 l.0 all)

none_rests : (threads : ℕ) → AllRestThere threads empty_table
none_rests threads i q h = cc

-- a connection of a history that rests stands at its place
rests_there : (threads : ℕ) (H : List Note) → AllBelow threads H → IsLegal H → AllRestThere threads (table_after H)
rests_there threads H low legal = rest_along threads empty_table H low legal (none_rests threads)

-- ---- a drain

elsewhere_entry : (row : ℕ) (e : Entry) (more : List Entry) → NoParks (cond (is_mark e) (e ∷ more) more) → ParksElsewhere row e × NoParks more
elsewhere_entry row (Open t n id) more a = (tt, a.1)
elsewhere_entry row (Park t n id place uses) more a = absurd a.0
elsewhere_entry row (Take t n first place id uses) more a = (tt, a.1)
elsewhere_entry row (Close t n id) more a = (tt, a.1)
elsewhere_entry row (Free t place) more a = (tt, a)
elsewhere_entry row (Look t place found) more a = (tt, a)
elsewhere_entry row (Up t old) more a = (tt, a)
elsewhere_entry row (Down t old) more a = (tt, a)
elsewhere_entry row (Count t c) more a = (tt, a)
elsewhere_entry row (Gate t draining) more a = (tt, a)
elsewhere_entry row (SetGate t draining) more a = (tt, a.1)
elsewhere_entry row (Round t k old) more a = (tt, rest (is_mark (Round t k old)) a)
  where
    rest : (b : Bool) → NoParks (cond b (Round t k old ∷ more) more) → NoParks more
    rest true p = p.1
    rest false p = p

-- where nothing is parked, nothing is parked in any row
elsewhere : (row : ℕ) (xs : List Note) → NoParks (marks_of xs) → AllElsewhere row xs
elsewhere row [] a = tt
elsewhere row (x ∷ xs) a = let r = elsewhere_entry row x.entry (marks_of xs) a in (r.0, elsewhere row xs r.1)

-- behind a drain nothing rests
drained : (old new : History) (es : List Note) (swept : List Swept) (m : Makes old new es) → old.about.threads ≡ 1 → Drains old es swept → (id : ConnId) (q : PlaceNo) → (table_after new.seen).conns id.0 ≡ IdleAt q → ⊥
drained old new es swept m one d id q idle =
    let t = old.about.thread in
    let z : Note = plain (SetGate t true) in
    let T : Table = table_after old.seen in
    let same : new.about.threads ≡ 1 = ap (λ (a : About). a.threads) m.about ∙ one in
    let low : AllBelow 1 new.seen = subst (λ k. AllBelow k new.seen) same m.one.threads in
    let seen : new.seen ≡ old.seen ++ (z ∷ d.more) = seen_alone old new es m one ∙ ap (λ l. old.seen ++ l) d.sets in
    let low_es : AllBelow 1 (z ∷ d.more) = below-second 1 old.seen (z ∷ d.more) (subst (AllBelow 1) seen low) in
    let legal : EachStep MeetsNeeds T (z ∷ d.more) = EachStep-second MeetsNeeds empty_table old.seen (z ∷ d.more) (subst IsLegal seen m.one.legal) in
    let r = rests_there 1 new.seen low m.one.legal id.0 q idle in
    let table : table_after new.seen ≡ table_from (after T z) d.more = ap table_after seen ∙ table_from-append empty_table old.seen (z ∷ d.more) in
    let zero_is : t.0 < 1 = subst (λ k. t.0 < k) one m.was.inside.0 in
    let own : own_of t d.more ≡ d.more = all_own t d.more zero_is low_es.1 in
    let covered : IsCovered t (own_of t d.more) q = subst (λ (l : List Note). IsCovered t l q) (sym own) (d.all q.row q.place (subst (λ k. q.row < k) (sym one) r.row) r.low) in
    let parks : NoParks (marks_of d.more) = subst NoParks (sym d.closes.marks) (sweep_parks t swept) in
    covered_empty (after T z) d.more q r.face t r.low (elsewhere q.row d.more parks) legal.1 covered (ap (λ (S : Table). spot_at S q) (sym table) ∙ r.spot)

-- at its server nothing rests behind an order to drain
pub drain_empties : (w w' : WorkerNow) (net net' : NetState) (server : ServerNo) (count : ℕ) → Cares (OrdersAt (Drain server)) w w' net net' count → AreAlone w.seats → (id : ConnId) (v : What) → IsAtRest w'.seats server id v → ⊥
drain_empties w w' net net' server count k alone id v r =
    let b = sweep_back (OrdersAt (Drain server)) 0 w.seats w'.seats k.cares.sweeps server.0 r.seat k.cares.each r.at in
    ⊎_elim
    (λ (s : (0 + server.0 ≡ server.0) × Sweeps (Obeys (Drain server)) b.seat r.seat b.sweep). drained b.seat r.seat b.sweep.added b.sweep.swept s.1.makes (alone server.0 b.seat b.at) s.1.does id r.place r.rests)
    (λ (o : (0 + server.0 ≢ server.0) × (r.seat ≡ b.seat) × (b.sweep ≡ no_sweep)). absurd (o.0 (omega arith)))
    b.does

-- ---- what the caretaker leaves

-- what rests behind its call rested before it
pub rested : (P : ℕ → History → History → Sweep → Type 0) (old new : List History) (sweeps : List Sweep) → ((k : ℕ) (f h : History) (x : Sweep) → P k f h x → CaredAt f h x) → EachSweep P 0 old new sweeps
    → AreAlone old → (server : ServerNo) (id : ConnId) (v : What) → IsAtRest new server id v → IsAtRest old server id v
rested P old new sweeps cared each alone server id v r =
    let b = sweep_back P 0 old new sweeps server.0 r.seat each r.at in
    let g = b.seat in
    ⊎_elim
    (λ (q : (r.seat ≡ g) × (b.sweep ≡ no_sweep)). record {
      seat = g;
      at = b.at;
      place = r.place;
      rests = ap (λ (h : History). (table_after h.seen).conns id.0) (sym q.0) ∙ r.rests;
      beside = ap (λ (h : History). what_of h.seen id.0) (sym q.0) ∙ r.beside;
    })
    (λ (s : IsSwept g r.seat b.sweep).
    let one = alone server.0 g b.at in
    let parks : NoParks (marks_of b.sweep.added) = subst NoParks (sym s.marks.marks) (parks_both s.marks.lead (sweep_marks g.about.thread b.sweep.swept) s.marks.parks (sweep_parks g.about.thread b.sweep.swept)) in
    let table = table_alone g r.seat b.sweep.added s.makes one in
    record {
      seat = g;
      at = b.at;
      place = r.place;
      rests = idle_before id.0 r.place (table_after g.seen) b.sweep.added parks (ap (λ (S : Table). S.conns id.0) (sym table) ∙ r.rests);
      beside = sym (what_along id.0 (table_after g.seen) b.sweep.added parks) ∙ (ap (λ (S : Table). S.whats id.0) (sym table) ∙ r.beside);
    })
    (cared (0 + server.0) g r.seat b.sweep b.does)

pub orders_rested : (w w' : WorkerNow) (net net' : NetState) (what : Order) (count : ℕ) → Cares (OrdersAt what) w w' net net' count → AreAlone w.seats → (server : ServerNo) (id : ConnId) (v : What)
    → IsAtRest w'.seats server id v → IsAtRest w.seats server id v
orders_rested w w' net net' what count k alone server id v r = rested (OrdersAt what) w.seats w'.seats k.cares.sweeps (orders_cared what) k.cares.each alone server id v r

pub ticks_rested : (w w' : WorkerNow) (net net' : NetState) (now : Millis) (count : ℕ) → Cares (TicksAt now) w w' net net' count → AreAlone w.seats → (server : ServerNo) (id : ConnId) (v : What)
    → IsAtRest w'.seats server id v → IsAtRest w.seats server id v
ticks_rested w w' net net' now count k alone server id v r = rested (TicksAt now) w.seats w'.seats k.cares.sweeps (ticks_cared now) k.cares.each alone server id v r
