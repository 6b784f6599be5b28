-- At the beginning of a replay nothing was told, and at its end nothing is left.
use Rattle.std.proofs.Common.{◌≡◌, ℕ, zero, suc, ◌+◌, ◌<◌, ◌≤◌, List, [], ◌∷◌, length, refl, sym, ap, ◌∙◌, subst, arith, inl, ⊎_elim, Option, Some, None, Result, Err}
use Rattle.std.specs.Prelude.{All, Contains, slice_get, true, ◌==◌, reverse}
use Rattle.std.proofs.lemmas.Bool.{eqb-true, and_parts}
use Rattle.std.proofs.lemmas.List.{append-nil}
use Rattle.hx_base.specs.declared.numbers.Millis.{Millis}
use Rattle.hx_base.specs.declared.numbers.PlaceNo.{PlaceNo}
use Rattle.hx_base.specs.declared.plan.Plan.{Plan}
use Rattle.hx_base.specs.declared.what.What.{What}
use Rattle.hx_config.specs.Limits.{all_servers, are_numbered}
use Rattle.hx_config.specs.Meaning.{Meaning}
use Rattle.hx_config.specs.declared.parts.Server.{Server}
use Rattle.hx_connecting.specs.Journals.{JournalRoom}
use Rattle.hx_course.proofs.CallLemmas.{course_begin}
use Rattle.hx_course.specs.Endings.{IsEmptied}
use Rattle.hx_link.specs.MemoryNets.{MemoryNetNow, new_net}
use Rattle.hx_link.specs.Nets.{NetState}
use Rattle.hx_plain.specs.PlainSeat.{first_thread}
use Rattle.hx_pool.proofs.Purges.{le_cases}
use Rattle.hx_pool.proofs.Tables.{Sound, sound_empty, sound_after, sound_at, put_other}
use Rattle.hx_pool.specs.History.{table_from, table_after, EachStep, MeetsNeeds, IsLegal}
use Rattle.hx_pool.specs.SeatView.{About, History, StandsInOneHistory}
use Rattle.hx_pool.specs.Table.{Table, Unopened, HeldBy, IdleAt, Closed, Needs, after_entry, after, empty_table, face_of}
use Rattle.hx_pool.specs.declared.entries.Entry.{Entry}
use Rattle.hx_pool.specs.declared.entries.Entry.TheVariants.{Open, Park, Take, Free, Close, Look, Up, Down, Count, Gate, SetGate, Round}
use Rattle.hx_pool.specs.declared.entries.Note.{Note}
use Rattle.hx_record.specs.declared.served.Told.{Told}
use Rattle.hx_worker.specs.Workers.{WorkerNow, Each, new_worker}
use Rattle.hx_run.specs.Begins.{BeginsFor, BeginFor}
use Rattle.hx_planned.proofs.BeginPlans.{plans_begin}
use Rattle.hx_script_parts.specs.Meaning.{Meaning as Script}
use Rattle.hx_script_parts.specs.declared.script.ClientLine.{ClientLine}
use Rattle.hx_script_parts.specs.Limits.{are_rising}
use Rattle.hx_run.proofs.Coursing.{Has}
use Rattle.hx_run.proofs.Orders.{all_to_come}
use Rattle.hx_run.specs.Cares.{Care, DueOrder, StandInOrder, all_cares}
use Rattle.hx_run.specs.declared.due.Due.{Due}
use Rattle.hx_run.specs.Courses.{ComesUpTo, EndsCourse, EndsPlanned, HasCourse, MakesAll, MakesFewer}
use Rattle.hx_run.specs.Dues.{ComeInOrder}
use Rattle.hx_run.specs.Overs.{AllClosed, ClosedBelow}
use Rattle.hx_run.specs.Runs.{IsWorking, RunNow}
use Rattle.hx_run.specs.Turns.{Makes, is_new}

-- ---- the beginning

some_is : {A : Type 0} (a b : A) → Some a ≡ Some b → a ≡ b
some_is a b e = cc

-- the server of a seat
record BegunAt (ss : List Server) (i : ℕ) (h : History) : Type 0 where
  pub server : Server
  pub at : slice_get ss i ≡ Some server
  pub begins : BeginsFor server h

begun_at : (ss : List Server) (hs : List History) (i : ℕ) (h : History) → BeginFor ss hs → slice_get hs i ≡ Some h → BegunAt ss i h
begun_at [] [] i h b e = cc
begun_at [] (k ∷ hs) i h b e = elim b [ ]
begun_at (s ∷ ss) [] i h b e = elim b [ ]
begun_at (s ∷ ss) (k ∷ hs) zero h b e = record { server = s; at = refl; begins = subst (λ (x : History). BeginsFor s x) (some_is k h e) b.0 }
begun_at (s ∷ ss) (k ∷ hs) (suc i) h b e = let r = begun_at ss hs i h b.1 e in record { server = r.server; at = r.at; begins = r.begins }

-- the servers have their numbers in order
number_at : (k : ℕ) (ss : List Server) (i : ℕ) (s : Server) → are_numbered k ss ≡ true → slice_get ss i ≡ Some s → s.no.0 ≡ k + i
unfolding are_numbered
number_at k [] i s n e = cc
number_at k (x ∷ ss) zero s n e =
    let is : x ≡ s = some_is x s e in
    let at : x.no.0 ≡ k = eqb-true x.no.0 k (and_parts (x.no.0 == k) (are_numbered (k + 1) ss) n).0 in
    omega (arith, at, ap (λ (y : Server). y.no.0) is)
number_at k (x ∷ ss) (suc i) s n e =
    let r = number_at (k + 1) ss i s (and_parts (x.no.0 == k) (are_numbered (k + 1) ss) n).1 e in
    omega (arith, r)

pub begins_course : (config : Meaning) (hs : List History) (js : List JournalRoom) (plans : List Plan) (moments : List Millis) (room : ℕ) (net : MemoryNetNow) → are_numbered 0 (all_servers config.backs) ≡ true
    → BeginFor (all_servers config.backs) hs → net ≡ new_net plans room → Has plans moments [] [] (new_worker first_thread config hs js) net.state [] 0
begins_course config hs js plans moments room net numbered b is =
    let state : net.state ≡ (new_net plans room).state = ap (λ (n : MemoryNetNow). n.state) is in
    let unused : (i : ℕ) (h : History) → slice_get hs i ≡ Some h → h.seen ≡ [] = λ i h e. (begun_at (all_servers config.backs) hs i h b e).begins.unused.seen in (
      [],
      course_begin first_thread config hs js net.state
          (λ i h e. let k = begun_at (all_servers config.backs) hs i h b e in ap (λ (a : About). a.threads) k.begins.about)
          (λ i h e. let k = begun_at (all_servers config.backs) hs i h b e in
          let no : h.about.server.0 ≡ k.server.no.0 = ap (λ (a : About). a.server.0) k.begins.about in
          omega (arith, no, number_at 0 (all_servers config.backs) i k.server numbered k.at))
          unused
          (inl (ap (λ (n : NetState). n.buried) state)) (inl (ap (λ (n : NetState). n.dials) state)),
      plans_begin first_thread config hs js net.state (record { plans = plans; failing = None }) unused (ap (λ (n : NetState). n.course) state) (inl (ap (λ (n : NetState). n.dials) state)),
      subst (λ (n : NetState). Makes plans moments [] [] (new_worker first_thread config hs js) n [] [] 0) (sym state) (is_new config hs js room b),
    )

-- ---- the end

-- the number 0 is no connection's
record HasNoZero (T : Table) : Type 0 where
  pub next : 1 ≤ T.next
  pub fresh : T.conns 0 ≡ Unopened

no_zero_entry : (T : Table) (w : Option What) (e : Entry) → Sound T → Needs T e → HasNoZero T → HasNoZero (after_entry T w e)
no_zero_entry T w (Open t n id) s need z = record {
  next = omega (arith, z.next);
  fresh = let at = need.1 in let low = z.next in put_other T.conns id.0 (HeldBy t n) 0 (λ e. absurd (omega (arith, e, at, low))) ∙ z.fresh;
}
no_zero_entry T w (Park t n id place uses) s need z = record {
  next = z.next;
  fresh = put_other T.conns id.0 (IdleAt place) 0 (λ e. let m = need.held in let v = ap T.conns e in let f = z.fresh in cc) ∙ z.fresh;
}
no_zero_entry T w (Take t n first place id uses) s need z = record {
  next = z.next;
  fresh = put_other T.conns id.0 (HeldBy t n) 0 (λ e. let m = (s.rests place (face_of id uses) need.0 need.1).0 in let v = ap T.conns e in let f = z.fresh in cc) ∙ z.fresh;
}
no_zero_entry T w (Close t n id) s need z = record {
  next = z.next;
  fresh = put_other T.conns id.0 Closed 0 (λ e. let v = ap T.conns e in let f = z.fresh in cc) ∙ z.fresh;
}
no_zero_entry T w (Free t place) s need z = record { next = z.next; fresh = z.fresh }
no_zero_entry T w (Look t place found) s need z = z
no_zero_entry T w (Up t old) s need z = record { next = z.next; fresh = z.fresh }
no_zero_entry T w (Down t old) s need z = record { next = z.next; fresh = z.fresh }
no_zero_entry T w (Count t c) s need z = z
no_zero_entry T w (Gate t draining) s need z = z
no_zero_entry T w (SetGate t draining) s need z = record { next = z.next; fresh = z.fresh }
no_zero_entry T w (Round t k old) s need z = record { next = z.next; fresh = z.fresh }

no_zero_along : (T : Table) (H : List Note) → Sound T → EachStep MeetsNeeds T H → HasNoZero T → HasNoZero (table_from T H)
no_zero_along T [] s l z = z
no_zero_along T (x ∷ xs) s l z = no_zero_along (after T x) xs (sound_after T x s l.0) l.1 (no_zero_entry T x.what x.entry s l.0 z)

no_zero_at : (H : List Note) → IsLegal H → HasNoZero (table_after H)
no_zero_at H l = no_zero_along empty_table H sound_empty l (record { next = omega arith; fresh = refl })

-- where each connection that was opened is closed, none rests
none_rests : (h : History) → StandsInOneHistory h → AllClosed h → (i : ℕ) (place : PlaceNo) → (table_after h.seen).conns i ≡ IdleAt place → ⊥
none_rests h one closed zero place e = let z = (no_zero_at h.seen one.legal).fresh in cc
none_rests h one closed (suc i) place e =
    ⊎_elim
    (λ (far : (table_after h.seen).next ≤ suc i). let f = (sound_at h.seen one.legal).fresh (suc i) far in cc)
    (λ (low : suc i < (table_after h.seen).next). let c = closed (suc i) (omega arith) low in cc)
    (le_cases (table_after h.seen).next (suc i))

there_below : {A : Type 0} (xs : List A) (i : ℕ) (x : A) → slice_get xs i ≡ Some x → i < length xs
there_below [] i x e = cc
there_below (y ∷ xs) zero x e = omega arith
there_below (y ∷ xs) (suc i) x e = omega (arith, there_below xs i x e)

each_at : (P : History → Type 0) (seats : List History) (i : ℕ) (h : History) → Each P seats → slice_get seats i ≡ Some h → P h
each_at P [] i h a e = cc
each_at P (k ∷ seats) zero h a e = subst P (some_is k h e) a.0
each_at P (k ∷ seats) (suc i) h a e = each_at P seats i h a.1 e

nothing_left : (w : WorkerNow) → IsWorking w → w.sessions ≡ [] → ClosedBelow (length w.seats) w.seats → IsEmptied w
nothing_left w k none c = record {
  sessions = none;
  rests = λ server id v r.
      none_rests r.seat (each_at StandsInOneHistory w.seats server.0 r.seat k.seats.one r.at)
      (c server.0 r.seat (there_below w.seats server.0 r.seat r.at) r.at) id.0 r.place r.rests;
}

pub ends_course : (plans : List Plan) (moments : List Millis) (came : List ClientLine) (cares : List Care) (w : WorkerNow) (net : NetState) (records : List Told) (turns : ℕ) → IsWorking w → w.sessions ≡ [] → ClosedBelow (length w.seats) w.seats
    → Has plans moments came cares w net records turns → EndsCourse records net
ends_course plans moments came cares w net records turns k none c h = record { worker = w; graves = h.0; course = h.1; empty = nothing_left w k none c }

-- and each client came
pub ends_planned : (clients ordered : List ClientLine) (plans : List Plan) (moments : List Millis) (cares : List Care) (w : WorkerNow) (net : NetState) (records : List Told) (turns : ℕ) → IsWorking w → w.sessions ≡ [] → ClosedBelow (length w.seats) w.seats
    → ComeInOrder clients ordered → Has plans moments ordered cares w net records turns → EndsPlanned clients plans records net
ends_planned clients ordered plans moments cares w net records turns k none c order h = record { ordered = ordered; in_order = order; worker = w; one = k.thread; graves = h.0; course = h.1; empty = nothing_left w k none c; follows = h.2 }

-- each client came, the caretaker was asked for all, and fewer turns were made than may be
pub makes_fewer : (script : Script) (ordered : List ClientLine) (most : ℕ) (records : List Told) (net : NetState) (seats : List History) (r : RunNow) → r.worker.config ≡ script.config → ComeInOrder script.clients ordered
    → HasCourse script.plans script.moments ordered (all_cares script) r → r.worker.sessions ≡ [] → records ≡ r.records → net ≡ r.net.state → seats ≡ r.worker.seats → r.turns < most → MakesFewer script most records net seats
makes_fewer script ordered most records net seats r is order h none told left sits few = record {
  run = r;
  replays = record { config_is = is; ordered = ordered; in_order = order; due = []; come = (ordered, sym (append-nil ordered), h) };
  whole = refl;
  over = none;
  told = sym told;
  left = sym left;
  seats_are = sym sits;
  fewer = few;
}

-- an error is the same one, whatever else might have been answered
pub same_error : {A B E : Type 0} (e f : E) → ◌≡◌ {A = Result A E} (Err e) (Err f) → ◌≡◌ {A = Result B E} (Err e) (Err f)
same_error {E = E} e f is =
    let same : e ≡ f = cc in
    ap (λ (x : E). Err x) same

-- all turns were made that may be, before or behind the last client
pub makes_all : (script : Script) (due left : Due) (most : ℕ) (a b : RunNow) → are_rising script.moments ≡ true → StandInOrder script.orders (reverse due.orders.items) → All (λ (x : DueOrder). Contains script.moments x.0) due.orders.items
    → HasCourse script.plans script.moments [] [] a → ComeInOrder script.clients (reverse due.clients.items) → ComesUpTo script.moments a due b left → b.worker.config ≡ script.config → b.turns ≡ most → MakesAll script most
makes_all script due left most a b rise stand timely begun order comes config_is all = record {
  run = b;
  passed = comes.passed;
  later = comes.later;
  parts = comes.parts;
  replays = record {
    config_is = config_is;
    ordered = reverse due.clients.items;
    in_order = order;
    due = left.clients.items;
    come = (comes.comes script.plans (reverse due.clients.items) script.orders rise (all_to_come script.orders due.orders.items script.moments stand timely) ([], refl, begun)).1;
  };
  all = all;
}
