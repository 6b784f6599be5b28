-- A park, in the words of the trait of all seats.
use Rattle.std.proofs.Common.{◌≡◌, ◌≢◌, inl, inr, ℕ, ◌-◌, ◌≤◌, true, false, List, [], ◌∷◌, ◌++◌, length, refl, sym, ap, ◌∙◌, subst, arith, append_assoc}
use Rattle.std.proofs.lemmas.List.{append-nil, length-append}
use Rattle.std.specs.Prelude.{Option}
use Rattle.hx_base.specs.declared.numbers.ThreadNo.{ThreadNo}
use Rattle.hx_base.specs.declared.numbers.SessionNo.{SessionNo}
use Rattle.hx_base.specs.declared.numbers.PlaceNo.{PlaceNo}
use Rattle.hx_base.specs.declared.rules.Mode.TheVariants as mode
use Rattle.hx_base.specs.Shown.{Shown}
use Rattle.hx_pool.specs.declared.board.BoardTerms.{BoardTerms}
use Rattle.hx_pool.specs.declared.entries.Found.{Found}
use Rattle.hx_pool.specs.declared.entries.Entry.TheVariants.{Park, Take, Look, Gate, Up, Down}
use Rattle.hx_pool.specs.declared.entries.Note.{Note}
use Rattle.hx_pool.specs.declared.refusals.NoPark.{NoPark}
use Rattle.hx_pool.specs.declared.refusals.NoPark.TheVariants.{Never, NoneKept, RowFull, Draining, PoolFull}
use Rattle.hx_pool.specs.Table.{empty_table}
use Rattle.hx_pool.specs.History.{plain, marks_of, IsLegal, IsEven, MeetsNeeds}
use Rattle.hx_pool.specs.Held.{hold}
use Rattle.hx_pool.specs.Causes.{AllLooks, place_of}
use Rattle.hx_pool.specs.SeatView.{Grows, Calls}
use Rattle.hx_pool.specs.Taking.{taking}
use Rattle.hx_pool.specs.Parking.{KeepsSome, CanPark, Parks, RefusesPark, parked, gated}
use Rattle.hx_pool.proofs.Histories.{even-append, marks_of-append, hold_from-append, EachStep-first}
use Rattle.hx_pool.proofs.Calls.{looks_hold, looks_even, looks_marks}
use Rattle.hx_places.specs.Turns.{first_turn, turn_from}
use Rattle.hx_places.specs.Seats.{PlaceView, Stands, history_of}
use Rattle.hx_resting.specs.Row.{RefusedByRules}
use Rattle.hx_rows.specs.declared.stays.Stay.{Stay}
use Rattle.hx_rows.specs.Stays.{stay_at, others_at, Follows}
use Rattle.hx_rows.specs.Steps.{Steps, IsAtRest, Admits, Refuses, ParksAt, StaysAt, IsTakenAt, ComesBack, IsGone}
use Rattle.hx_rows.specs.Row.{IsRowOf}
use Rattle.hx_rows.proofs.Resting.{NoParks, no_parks_both, elsewhere}
use Rattle.hx_rows.proofs.Following.{follows_more, follows_less, follows_parked}
use Rattle.hx_rows.proofs.Stepping.{steps_none, steps_both, makes_of, calls_of, hold_steps, looks_rest, looks_turn, turn_steps, turn_from-append}
use Rattle.hx_rows.proofs.Taking.{row_then}
use Rattle.hx_rows.proofs.Trying.{looks_no_parks}

-- the row's stays after a Park at a place
row_parked : (s1 s2 : PlaceView) (stays : List Stay) (n : SessionNo) (place : PlaceNo) (v : Shown) (tail : List Note) → IsRowOf stays s1 → ParksAt s1 s2 n place v tail → NoParks tail
    → IsRowOf (others_at place.place stays ++ stay_at place.place v.face ∷ []) s2
row_parked s1 s2 stays n place v tail f k none =
    let t = s1.view.thread in
    let e : Note = parked t n place v in
    let H : List Note = s1.view.seen ++ k.between in
    let rest : List Stay = others_at place.place stays ++ stay_at place.place v.face ∷ [] in
    let join : (H ++ e ∷ []) ++ k.behind ≡ H ++ e ∷ k.behind = append_assoc H (e ∷ []) k.behind in
    let whole : IsLegal (H ++ e ∷ k.behind) = subst IsLegal k.seen k.steps.one.right.legal in
    let whole' : IsLegal ((H ++ e ∷ []) ++ k.behind) = subst IsLegal (sym join) whole in
    let A = follows_more t.0 s1.view.seen k.between (EachStep-first MeetsNeeds empty_table H (e ∷ k.behind) whole) (elsewhere t k.between (subst NoParks (sym k.before) tt)) stays f in
    let B = follows_parked t n place v H (EachStep-first MeetsNeeds empty_table (H ++ e ∷ []) k.behind whole') stays A in
    let C = follows_more t.0 (H ++ e ∷ []) k.behind whole' (elsewhere t k.behind (subst NoParks (sym k.after) none)) rest B in
    subst (λ (z : ThreadNo × List Note). Follows rest z.0.0 z.1) (λ i. (sym k.steps.thread i, (join ∙ sym k.seen) i)) C

-- the same where the value is gone again
row_gone : (s1 s2 : PlaceView) (stays : List Stay) (n : SessionNo) (place : PlaceNo) (v : Shown) (tail : List Note) → place.row ≡ s1.view.thread.0 → IsRowOf stays s1 → ParksAt s1 s2 n place v tail → NoParks tail
    → IsGone s2 place v.face → IsRowOf (others_at place.place stays) s2
row_gone s1 s2 stays n place v tail row f k none gone =
    let own : place.row ≡ s2.view.thread.0 = row ∙ ap (λ (u : ThreadNo). u.0) (sym k.steps.thread) in
    let gone' : IsGone s2 (place_of s2.view.thread.0 place.place) v.face = subst (λ r. IsGone s2 (place_of r place.place) v.face) own gone in
    subst (λ zs. IsRowOf zs s2) (append-nil (others_at place.place stays))
    (follows_less s2.view.thread.0 s2.view.seen (others_at place.place stays) (stay_at place.place v.face) [] (λ r. gone' r.1) (row_parked s1 s2 stays n place v tail f k none))

gated_no_parks : (t : ThreadNo) (looks : List Note) (count : ℕ) → AllLooks t looks → NoParks (gated t looks (plain (Up t count) ∷ []))
gated_no_parks t looks count l = no_parks_both looks (plain (Gate t false) ∷ plain (Up t count) ∷ []) (looks_no_parks t looks l) (tt, (tt, tt))

pub row_admits : (s0 s1 : PlaceView) (stays : List Stay) (place : PlaceNo) → IsRowOf stays s0 → Admits s0 s1 place → IsRowOf stays s1
row_admits s0 s1 stays place f a = row_then s0 s1 (gated s0.view.thread a.looks (plain (Up s0.view.thread a.count) ∷ [])) stays a.steps (gated_no_parks s0.view.thread a.looks a.count a.looked) f

own_row : (s0 s1 : PlaceView) (place : PlaceNo) → Admits s0 s1 place → place.row ≡ s1.view.thread.0
own_row s0 s1 place a = a.found.row ∙ ap (λ (u : ThreadNo). u.0) (sym a.steps.thread)

pub row_stays : (s0 s1 s2 : PlaceView) (stays : List Stay) (n : SessionNo) (place : PlaceNo) (v : Shown) → IsRowOf stays s0 → Admits s0 s1 place → StaysAt s1 s2 n place v
    → IsRowOf (others_at place.place stays ++ stay_at place.place v.face ∷ []) s2
row_stays s0 s1 s2 stays n place v f a k = row_parked s1 s2 stays n place v _ (row_admits s0 s1 stays place f a) k (tt, tt)

pub row_taken : (s0 s1 s2 : PlaceView) (stays : List Stay) (n : SessionNo) (place : PlaceNo) (v : Shown) → IsRowOf stays s0 → Admits s0 s1 place → IsTakenAt s1 s2 n place v
    → IsRowOf (others_at place.place stays) s2
row_taken s0 s1 s2 stays n place v f a k = row_gone s1 s2 stays n place v _ (own_row s0 s1 place a) (row_admits s0 s1 stays place f a) k.parks (tt, (tt, tt)) k.gone

pub row_back : (s0 s1 s2 : PlaceView) (stays : List Stay) (n : SessionNo) (place : PlaceNo) (v w : Shown) → IsRowOf stays s0 → Admits s0 s1 place → ComesBack s1 s2 n place v w
    → IsRowOf (others_at place.place stays) s2
row_back s0 s1 s2 stays n place v w f a k = row_gone s1 s2 stays n place v _ (own_row s0 s1 place a) (row_admits s0 s1 stays place f a) k.parks (tt, (tt, (tt, (tt, tt)))) k.gone

-- the whole park, from its first look on
all_steps : (s0 s1 s2 : PlaceView) (n : SessionNo) (place : PlaceNo) (v : Shown) (f : ThreadNo → List Note) → (a : Admits s0 s1 place) → ParksAt s1 s2 n place v (f s1.view.thread)
    → Steps s0 s2 (gated s0.view.thread a.looks (plain (Up s0.view.thread a.count) ∷ parked s0.view.thread n place v ∷ f s0.view.thread))
all_steps s0 s1 s2 n place v f a k =
    let t = s0.view.thread in
    let first : List Note = plain (Gate t false) ∷ plain (Up t a.count) ∷ [] in
    let more : List Note = parked t n place v ∷ f t in
    subst (Steps s0 s2) (append_assoc a.looks first more)
    (steps_both s0 s1 s2 (a.looks ++ first) more a.steps (subst (λ u. Steps s1 s2 (parked u n place v ∷ f u)) a.steps.thread k.steps))

even_behind : (t : ThreadNo) (looks ys : List Note) → AllLooks t looks → IsEven ys → IsEven (looks ++ ys)
even_behind t looks ys l e = even-append looks ys (looks_even t looks l) e

marks_behind : (t : ThreadNo) (looks ys : List Note) → AllLooks t looks → marks_of (looks ++ ys) ≡ marks_of ys
marks_behind t looks ys l = marks_of-append looks ys ∙ ap (λ m. m ++ marks_of ys) (looks_marks t looks l)

few_behind : (looks ys : List Note) → length looks ≤ 64 → length ys ≤ 64 → length (looks ++ ys) ≤ 4096
few_behind looks ys a b = let l = length-append looks ys in omega arith

grows_of : (s0 s2 : PlaceView) (looks ys : List Note) (q : Option ℕ) → Steps s0 s2 (looks ++ ys) → AllLooks s0.view.thread looks → IsEven ys → length looks ≤ 64 → length ys ≤ 64
    → Grows (history_of s0 q) (history_of s2 q) (marks_of ys)
grows_of s0 s2 looks ys q s l e a b = record {
  added = looks ++ ys;
  makes = makes_of s0 s2 (looks ++ ys) q q s (even_behind s0.view.thread looks ys l e);
  marks = sym (marks_behind s0.view.thread looks ys l);
  few = few_behind looks ys a b;
}

calls_behind : (s0 s2 : PlaceView) (looks ys : List Note) (q : Option ℕ) → Steps s0 s2 (looks ++ ys) → AllLooks s0.view.thread looks → IsEven ys → Calls (history_of s0 q) (history_of s2 q) (looks ++ ys)
calls_behind s0 s2 looks ys q s l e = calls_of s0 s2 (looks ++ ys) q s (even_behind s0.view.thread looks ys l e)

-- it rests
module _ (s0 s1 s2 : PlaceView) (n : SessionNo) (place : PlaceNo) (v : Shown) (q : Option ℕ) (a : Admits s0 s1 place) where
  abbrev t : ThreadNo
  t = s0.view.thread

  abbrev gate_false : List Note
  gate_false = plain (Gate t false) ∷ plain (Up t a.count) ∷ parked t n place v ∷ plain (Gate t false) ∷ []

  abbrev gate_true : Found → List Note
  gate_true found = plain (Gate t false) ∷ plain (Up t a.count) ∷ parked t n place v ∷ plain (Gate t true) ∷ plain (Look t place found) ∷ []

  abbrev back : ℕ → List Note
  back down = plain (Gate t false) ∷ plain (Up t a.count) ∷ parked t n place v ∷ plain (Gate t true) ∷ taking t n false place v.face down

  steps_false : StaysAt s1 s2 n place v → Steps s0 s2 (a.looks ++ gate_false)
  steps_false k = all_steps s0 s1 s2 n place v (λ u. plain (Gate u false) ∷ []) a k

  steps_true : (k : IsTakenAt s1 s2 n place v) → Steps s0 s2 (a.looks ++ gate_true k.found)
  steps_true k = all_steps s0 s1 s2 n place v (λ u. plain (Gate u true) ∷ plain (Look u place k.found) ∷ []) a k.parks

  steps_back : (w : Shown) → (k : ComesBack s1 s2 n place v w) → Steps s0 s2 (a.looks ++ back k.down)
  steps_back w k = all_steps s0 s1 s2 n place v (λ u. plain (Gate u true) ∷ taking u n false place v.face k.down) a k.parks

  pub parks_stays : s0.view.terms.rules.mode ≢ mode.Never → KeepsSome s0.view.terms.rules → StaysAt s1 s2 n place v → Parks (history_of s0 q) (history_of s2 q) n place v
  parks_stays shares keeps k = record {
    mode = shares;
    keeps = keeps;
    looks = a.looks;
    count = a.count;
    tail = plain (Gate t false) ∷ [];
    looked = a.looked;
    found = a.found;
    limit = a.limit;
    settles = inl refl;
    makes = calls_behind s0 s2 a.looks gate_false q (steps_false k) a.looked refl;
  }

  pub parks_taken : s0.view.terms.rules.mode ≢ mode.Never → KeepsSome s0.view.terms.rules → IsTakenAt s1 s2 n place v → Parks (history_of s0 q) (history_of s2 q) n place v
  parks_taken shares keeps k = record {
    mode = shares;
    keeps = keeps;
    looks = a.looks;
    count = a.count;
    tail = plain (Gate t true) ∷ plain (Look t place k.found) ∷ [];
    looked = a.looked;
    found = a.found;
    limit = a.limit;
    settles = inr (k.found, k.other, refl);
    makes = calls_behind s0 s2 a.looks (gate_true k.found) q (steps_true k) a.looked refl;
  }

  pub refuses_back : (w : Shown) → s0.view.terms.rules.mode ≢ mode.Never → KeepsSome s0.view.terms.rules → ComesBack s1 s2 n place v w → RefusesPark (history_of s0 q) (history_of s2 q) n v Draining
  refuses_back w shares keeps k = (
    shares,
    keeps,
    inr (record {
      looks = a.looks;
      place = place;
      count = a.count;
      down = k.down;
      looked = a.looked;
      found = a.found;
      limit = a.limit;
      makes = calls_behind s0 s2 a.looks (back k.down) q (steps_back w k) a.looked refl;
    }),
  )

  pub grows_stays : StaysAt s1 s2 n place v → Grows (history_of s0 q) (history_of s2 q) (Park t n v.face.id place v.face.uses ∷ [])
  grows_stays k = grows_of s0 s2 a.looks gate_false q (steps_false k) a.looked refl a.few (omega arith)

  pub grows_taken : IsTakenAt s1 s2 n place v → Grows (history_of s0 q) (history_of s2 q) (Park t n v.face.id place v.face.uses ∷ [])
  grows_taken k = grows_of s0 s2 a.looks (gate_true k.found) q (steps_true k) a.looked refl a.few (omega arith)

  pub grows_back : (w : Shown) → ComesBack s1 s2 n place v w → Grows (history_of s0 q) (history_of s2 q) (Park t n v.face.id place v.face.uses ∷ Take t n false place v.face.id v.face.uses ∷ [])
  grows_back w k = grows_of s0 s2 a.looks (back k.down) q (steps_back w k) a.looked refl a.few (omega arith)

  -- the session may park what it has, after looks and the count
  pub can_still : CanPark (history_of s0 q) n v → CanPark (history_of s1 q) n v
  can_still c = record {
    session = c.session;
    server = c.server ∙ ap (λ (b : BoardTerms). b.server) (sym a.steps.terms);
    has = hold_steps s0 s1 (a.looks ++ plain (Gate t false) ∷ plain (Up t a.count) ∷ []) v.face.id.0 (hold n (v.face.uses - 1)) a.steps c.has
        ∙ (hold_from-append v.face.id.0 (hold n (v.face.uses - 1)) a.looks (plain (Gate t false) ∷ plain (Up t a.count) ∷ [])
        ∙ looks_hold t a.looks v.face.id.0 (hold n (v.face.uses - 1)) a.looked);
    used = c.used;
  }

-- it was refused before a Park
pub refuses : (s0 s1 : PlaceView) (n : SessionNo) (v : Shown) (why : NoPark) (q : Option ℕ) → s0.view.terms.rules.mode ≢ mode.Never → KeepsSome s0.view.terms.rules → Refuses s0 s1 why
    → RefusesPark (history_of s0 q) (history_of s1 q) n v why
refuses s0 s1 n v Never q shares keeps r = absurd r
refuses s0 s1 n v NoneKept q shares keeps r = absurd r
refuses s0 s1 n v RowFull q shares keeps r = (
  shares,
  keeps,
  record {
    looks = record { looks = r.looks; looked = r.looked; makes = makes_of s0 s1 r.looks q q r.steps (looks_even s0.view.thread r.looks r.looked) };
    passed = refl;
    taken = r.taken;
  },
)
refuses s0 s1 n v Draining q shares keeps r = (
  shares,
  keeps,
  inl (record {
    looks = r.looks;
    place = r.place;
    looked = r.looked;
    found = r.found;
    makes = calls_behind s0 s1 r.looks (plain (Gate s0.view.thread true) ∷ []) q r.steps r.looked refl;
  }),
)
refuses s0 s1 n v (PoolFull c) q shares keeps r = (
  shares,
  keeps,
  record {
    looks = r.looks;
    place = r.place;
    down = r.down;
    looked = r.looked;
    found = r.found;
    limit = r.limit;
    makes = calls_behind s0 s1 r.looks (plain (Gate s0.view.thread false) ∷ plain (Up s0.view.thread c) ∷ plain (Down s0.view.thread r.down) ∷ []) q r.steps r.looked refl;
  },
)

pub grows_refused : (s0 s1 : PlaceView) (why : NoPark) (q : Option ℕ) → Refuses s0 s1 why → Grows (history_of s0 q) (history_of s1 q) []
grows_refused s0 s1 Never q r = absurd r
grows_refused s0 s1 NoneKept q r = absurd r
grows_refused s0 s1 RowFull q r = record {
  added = r.looks;
  makes = makes_of s0 s1 r.looks q q r.steps (looks_even s0.view.thread r.looks r.looked);
  marks = sym (looks_marks s0.view.thread r.looks r.looked);
  few = let l = r.few in omega arith;
}
grows_refused s0 s1 Draining q r = grows_of s0 s1 r.looks (plain (Gate s0.view.thread true) ∷ []) q r.steps r.looked refl r.few (omega arith)
grows_refused s0 s1 (PoolFull c) q r = grows_of s0 s1 r.looks (plain (Gate s0.view.thread false) ∷ plain (Up s0.view.thread c) ∷ plain (Down s0.view.thread r.down) ∷ []) q r.steps r.looked refl r.few (omega arith)

pub row_refused : (s0 s1 : PlaceView) (stays : List Stay) (why : NoPark) → Refuses s0 s1 why → IsRowOf stays s0 → IsRowOf stays s1
row_refused s0 s1 stays Never r f = absurd r
row_refused s0 s1 stays NoneKept r f = absurd r
row_refused s0 s1 stays RowFull r f = row_then s0 s1 r.looks stays r.steps (looks_no_parks s0.view.thread r.looks r.looked) f
row_refused s0 s1 stays Draining r f = row_then s0 s1 (r.looks ++ plain (Gate s0.view.thread true) ∷ []) stays r.steps
    (no_parks_both r.looks (plain (Gate s0.view.thread true) ∷ []) (looks_no_parks s0.view.thread r.looks r.looked) (tt, tt)) f
row_refused s0 s1 stays (PoolFull c) r f =
    let ys : List Note = plain (Gate s0.view.thread false) ∷ plain (Up s0.view.thread c) ∷ plain (Down s0.view.thread r.down) ∷ [] in
    row_then s0 s1 (r.looks ++ ys) stays r.steps (no_parks_both r.looks ys (looks_no_parks s0.view.thread r.looks r.looked) (tt, (tt, (tt, tt)))) f

-- the rules refuse it
pub refused_rules : (s : PlaceView) (n : SessionNo) (v : Shown) (why : NoPark) (q : Option ℕ) → Stands s.view → RefusedByRules s.view.terms.rules why → RefusesPark (history_of s q) (history_of s q) n v why
refused_rules s n v Never q k r = (r, calls_of s s [] q (steps_none s k) refl)
refused_rules s n v NoneKept q k r = (r.0, r.1, calls_of s s [] q (steps_none s k) refl)
refused_rules s n v RowFull q k r = absurd r
refused_rules s n v Draining q k r = absurd r
refused_rules s n v (PoolFull c) q k r = absurd r

pub grows_same : (s : PlaceView) (q : Option ℕ) → Stands s.view → Grows (history_of s q) (history_of s q) []
grows_same s q k = record { added = []; makes = makes_of s s [] q q (steps_none s k) refl; marks = refl; few = omega arith }

-- entries behind looks that leave nothing due
behind_rest : (s0 s1 : PlaceView) (looks ys : List Note) → Steps s0 s1 (looks ++ ys) → AllLooks s0.view.thread looks → IsAtRest s0 → turn_from first_turn ys ≡ first_turn → IsAtRest s1
behind_rest s0 s1 looks ys s l a even = record {
  turn_is = turn_steps s0 s1 (looks ++ ys) first_turn s a.turn_is
      ∙ (turn_from-append first_turn looks ys ∙ (ap (λ z. turn_from z ys) (looks_turn s0.view.thread looks l) ∙ even));
  idle = s.hand ∙ a.idle;
}

-- a refused park leaves the seat at rest
pub rest_refused : (s0 s1 : PlaceView) (why : NoPark) → Refuses s0 s1 why → IsAtRest s0 → IsAtRest s1
rest_refused s0 s1 Never r a = absurd r
rest_refused s0 s1 NoneKept r a = absurd r
rest_refused s0 s1 RowFull r a = looks_rest s0 s1 r.looks r.steps r.looked a
rest_refused s0 s1 Draining r a = behind_rest s0 s1 r.looks (plain (Gate s0.view.thread true) ∷ []) r.steps r.looked a refl
rest_refused s0 s1 (PoolFull c) r a = behind_rest s0 s1 r.looks (plain (Gate s0.view.thread false) ∷ plain (Up s0.view.thread c) ∷ plain (Down s0.view.thread r.down) ∷ []) r.steps r.looked a refl
