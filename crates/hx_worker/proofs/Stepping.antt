-- A worker's step and stop from those of its session: from the lists that are lent to it to those that the worker has.
use Rattle.std.proofs.Common.{◌≡◌, ◌⊎◌, ⊎_elim, ℕ, Bool, true, false, List, [], ◌∷◌, length, map, refl, sym, ap, ◌∙◌, subst, Option, Some, None}
use Rattle.std.proofs.lemmas.List.{length-map}
use Rattle.hx_base.specs.declared.numbers.SessionNo.{SessionNo}
use Rattle.hx_base.specs.declared.numbers.ThreadNo.{ThreadNo}
use Rattle.hx_config.specs.Limits.{all_servers}
use Rattle.hx_config.specs.Meaning.{Meaning}
use Rattle.hx_link.specs.Told.{LinkState}
use Rattle.hx_link.specs.Nets.{NetState, NetBuries}
use Rattle.hx_pool.specs.SeatView.{About, History}
use Rattle.hx_caretaker.specs.Sweeps.{BuriesAll}
use Rattle.hx_connecting.specs.Around.{abouts}
use Rattle.hx_connecting.specs.Holds.{HoldsAt}
use Rattle.hx_connecting.specs.Journals.{JournalRoom, JournalsStay}
use Rattle.hx_connecting.specs.Sessions.{SessionNow, Around, around_with, is_first}
use Rattle.hx_connecting.specs.Touches.{most_marks}
use Rattle.hx_numbered.specs.Numbers.{value_of, with_value, removed}
use Rattle.hx_record.specs.declared.served.Served.{Served}
use Rattle.hx_session.specs.Deciding.{KeepsOwn, LacksIn, OwnsAs}
use Rattle.hx_session.specs.Fits.{IsGoing, TurnsFit, SeatsServe, limits_of}
use Rattle.hx_session.specs.Kept.{IsSameStep, IsStopped}
use Rattle.hx_session.specs.Linking.{StepLinks, StopLinks}
use Rattle.hx_session.specs.Marking.{AddsMarks}
use Rattle.hx_session.specs.Picked.{StepPicks}
use Rattle.hx_session.specs.Telling.{StepTold, StopTold}
use Rattle.hx_session.specs.declared.step.Step.{Step}
use Rattle.hx_session.specs.declared.step.Waits.{Waits}
use Rattle.hx_session.specs.declared.step.Waits.TheVariants as waits
use Rattle.hx_worker.specs.declared.answers.Stopped.{Stopped}
use Rattle.hx_worker.specs.Workers.{WorkerNow, worker_now, session_of, IsOurs, HasSessions, HasSeats}
use Rattle.hx_worker.specs.Steps.{Steps, BuriesClient, placed}
use Rattle.hx_worker.specs.Stops.{SessionStop, StopsOne, TakesLeast}
use Rattle.hx_worker.specs.Listed.{sessions_of, AreUnderTheirs}
use Rattle.hx_worker.proofs.ByNumber.{each_found, session_here}
use Rattle.hx_worker.proofs.Items.{value_is, with_under, removed_under, with_placed, removed_placed, with_found}
use Rattle.hx_worker.proofs.Keeping.{MayCall, may_call, Stepped, step_sessions, step_seats, stepped, stepped_so, after_number, stop_sessions, stop_seats, stopped_one}
use Rattle.hx_worker.proofs.Linked.{chose_for}
use Rattle.hx_worker.proofs.Owners.{few_marks}

some_is : {A : Type 0} (a b : A) → Some a ≡ Some b → a ≡ b
some_is a b e = cc

some_same : {A : Type 0} (o : Option A) (a b : A) → o ≡ Some a → o ≡ Some b → a ≡ b
some_same o a b e k = some_is a b (sym e ∙ k)

not_over : (b : Bool) → (b ≡ true → ⊥) → b ≡ false
not_over true never = absurd (never refl)
not_over false never = refl

pub not_ended : (w : Waits) → (w ≡ waits.Nothing) ⊎ ((w ≡ waits.Client) ⊎ (w ≡ waits.Server)) → w ≡ waits.Ended → ⊥
not_ended w k e = ⊎_elim (λ (a : w ≡ waits.Nothing). cc) (λ s. ⊎_elim (λ (b : w ≡ waits.Client). cc) (λ (d : w ≡ waits.Server). cc) s) k

-- ---- what a session's step ensures, of the lists that are lent to it

pub record StepEnsures (config : Meaning) (s a : SessionNow) (before after : Around) (r : Step) : Type 0 where
  pub same : IsSameStep s a before.seats after.seats before.net after.net
  pub adds : AddsMarks s before.seats after.seats
  pub links : s.over ≡ false → StepLinks s a before after r
  pub chooses : s.over ≡ false → StepPicks config s a before after r
  pub tells : s.over ≡ false → StepTold s a r.left r.served
  pub keeps : s.over ≡ false → KeepsOwn s a r.served
  pub ended : (r.waits ≡ waits.Ended → a.over ≡ true) × (a.over ≡ true → r.waits ≡ waits.Ended)
  pub turns : TurnsFit config after.turns
  pub going : a.over ≡ false → IsGoing config a
  pub left : a.over ≡ true → a.client.on_loop ≡ None
  pub holds : HoldsAt a 0 after.seats
  pub serve : SeatsServe s.worker after.seats (all_servers config.backs)

-- so it makes the worker's session step
step_made : (config : Meaning) (n : ℕ) (ss : List SessionNow) (s a : SessionNow) (before after : Around) (r : Step) → session_of ss n ≡ Some s → IsGoing config s → StepEnsures config s a before after r
    → Stepped config n ss s a before after r
step_made config n ss s a before after r there going e = record {
  there = there;
  step = record {
    same = e.same;
    adds = e.adds;
    few = few_marks s.worker s.number (is_first s) e.adds.touch 0 before.seats after.seats e.adds.added e.adds.adds;
    links = e.links going.going;
    chooses = chose_for config s a before after r (e.links going.going) (e.chooses going.going);
    tells = e.tells going.going;
    keeps = e.keeps going.going;
    ended = e.ended;
  };
  turns = e.turns;
  going = e.going;
  left = e.left;
  holds = e.holds;
  serve = e.serve;
}

-- the same, of the lists that the worker has
settled : {S : Type 0} (h : S → History) (xs ys xs' ys' : List S) (ts us ts' us' : List ℕ) (config : Meaning) (s a : SessionNow) (net mid : NetState) (r : Step)
    → xs ≡ ys → ts ≡ us → xs' ≡ ys' → ts' ≡ us' → StepEnsures config s a (around_with (map h xs) ts net) (around_with (map h xs') ts' mid) r
    → StepEnsures config s a (around_with (map h ys) us net) (around_with (map h ys') us' mid) r
settled {S} h xs ys xs' ys' ts us ts' us' config s a net mid r e f g k x =
    subst (λ (l : List S). StepEnsures config s a (around_with (map h l) us net) (around_with (map h ys') us' mid) r) e
    (subst (λ l. StepEnsures config s a (around_with (map h xs) l net) (around_with (map h ys') us' mid) r) f
    (subst (λ (l : List S). StepEnsures config s a (around_with (map h xs) ts net) (around_with (map h l) us' mid) r) g
    (subst (λ l. StepEnsures config s a (around_with (map h xs) ts net) (around_with (map h xs') l mid) r) k x)))

pub settled_rooms : {S : Type 0} (f : S → JournalRoom) (k : ℕ) (xs ys xs' ys' : List S) → xs ≡ ys → xs' ≡ ys' → JournalsStay k (map f xs) (map f xs') → JournalsStay k (map f ys) (map f ys')
settled_rooms {S} f k xs ys xs' ys' a b j =
    subst (λ (l : List S). JournalsStay k (map f l) (map f ys')) a (subst (λ (l : List S). JournalsStay k (map f xs) (map f l)) b j)

-- the causes of a step's own answers, told of the seats where they stand
pub settled_owns : (config : Meaning) (s a : SessionNow) (hs ks hs' ks' : List History) (net m : NetState) (now : ℕ) (served : Option Served) → hs ≡ ks → hs' ≡ ks'
    → OwnsAs (limits_of config s.front) (LacksIn config s.front hs hs' net m) s a net m now served
    → OwnsAs (limits_of config s.front) (LacksIn config s.front ks ks' net m) s a net m now served
settled_owns config s a hs ks hs' ks' net m now served e f o =
    subst (λ (l : List History). OwnsAs (limits_of config s.front) (LacksIn config s.front ks l net m) s a net m now served) f
    (subst (λ (l : List History). OwnsAs (limits_of config s.front) (LacksIn config s.front l hs' net m) s a net m now served) e o)

-- a session of the worker goes on
pub going_there : (items : List (ℕ × SessionNow)) (n : ℕ) (s : SessionNow) (t : ThreadNo) (config : Meaning) {hs : List History} {js : List JournalRoom} {ts : List ℕ} {last : ℕ} → AreUnderTheirs items
    → HasSessions (worker_now t config hs js ts last (sessions_of items)) → Some s ≡ value_of items n → s.over ≡ false
going_there items n s t config under has value =
    (each_found (IsOurs t config) (sessions_of items) n s (sym (value_is items n under) ∙ sym value) has.ours).1.going.going

-- ---- what the worker's step owes

-- one burial
buries_one : (a b : NetState) (l : LinkState) → NetBuries a b l → BuriesAll (l ∷ []) a b
buries_one a b l n = record {
  buried = n.3;
  dials = n.2;
  loop = ap (λ (s : NetState). s.loop_no) n.0;
  course = ap (λ (s : NetState). s.course) n.0;
  faults = n.1;
}

-- the sessions are sound, the seats are those that it asks for, and what a caller learns
pub record StepDone (P : SessionNow → SessionNow → NetState → Type 0) (w w' : WorkerNow) (items' : List (ℕ × SessionNow)) (net net' : NetState) (n : SessionNo) (r : Step) : Type 0 where
  pub under : AreUnderTheirs items'
  pub sound : HasSessions w'
  pub seats : HasSeats w → HasSeats w'
  pub steps : Steps w w' net net' n r
  pub timely : P steps.session steps.after steps.mid

module _ (P : SessionNow → SessionNow → NetState → Type 0) (t : ThreadNo) (config : Meaning) (hs hs' : List History) (js js' : List JournalRoom) (ts ts' : List ℕ) (last : ℕ) (items : List (ℕ × SessionNow)) (net mid : NetState) (n : SessionNo) (r : Step) (s a : SessionNow)
    (x : Stepped config n.0 (sessions_of items) s a (around_with hs ts net) (around_with hs' ts' mid) r) (under : AreUnderTheirs items) (has : HasSessions (worker_now t config hs js ts last (sessions_of items)))
    (journals : JournalsStay most_marks js js') (p : P s a mid) where
  number : a.number.0 ≡ n.0
  number = after_number t config hs hs' js js' ts ts' last (sessions_of items) net mid n.0 r s a x has

  -- with these sessions behind it
  done : (items' : List (ℕ × SessionNow)) (net' : NetState) → AreUnderTheirs items' → sessions_of items' ≡ placed (sessions_of items) a → BuriesClient a.over a.client mid net'
      → StepDone P (worker_now t config hs js ts last (sessions_of items)) (worker_now t config hs' js' ts' last (sessions_of items')) items' net net' n r
  done items' net' under' is buries = record {
    under = under';
    sound = subst (λ l. HasSessions (worker_now t config hs' js' ts' last l)) (sym is) (step_sessions t config hs hs' js js' ts ts' last (sessions_of items) net mid n.0 r s a x has);
    seats = λ seats. subst (λ l. HasSeats (worker_now t config hs' js' ts' last l)) (sym is) (step_seats t config hs hs' js js' ts ts' last (sessions_of items) net mid n.0 r s a x has seats);
    steps = stepped t config hs hs' js js' ts ts' last (sessions_of items) (sessions_of items') net mid net' n r s a x is buries journals;
    timely = stepped_so t config hs hs' js js' ts ts' last (sessions_of items) (sessions_of items') net mid net' n r s a x is buries journals P p;
  }

  -- a session that goes on
  goes_on : (r.waits ≡ waits.Ended → ⊥)
      → StepDone P (worker_now t config hs js ts last (sessions_of items)) (worker_now t config hs' js' ts' last (sessions_of (with_value items n.0 a))) (with_value items n.0 a) net mid n r
  goes_on never =
      let on : a.over ≡ false = not_over a.over (λ over. never (x.step.ended.1 over)) in
      done (with_value items n.0 a) mid (with_under items n.0 a number under) (with_placed items n.0 a number on under) (subst (λ b. BuriesClient b a.client mid mid) (sym on) refl)

  -- and one that ended, whose client's link l is buried
  is_gone : (gone : List (ℕ × SessionNow)) (net' : NetState) (l : LinkState) → r.waits ≡ waits.Ended → gone ≡ removed (with_value items n.0 a) n.0 → l ≡ a.client → NetBuries mid net' l
      → StepDone P (worker_now t config hs js ts last (sessions_of items)) (worker_now t config hs' js' ts' last (sessions_of gone)) gone net net' n r
  is_gone gone net' l ended rest is buries =
      let over : a.over ≡ true = x.step.ended.0 ended in
      done gone net' (subst AreUnderTheirs (sym rest) (removed_under (with_value items n.0 a) n.0 (with_under items n.0 a number under)))
      (ap sessions_of rest ∙ removed_placed items n.0 a number over under)
      (subst (λ b. BuriesClient b a.client mid net') (sym over) (x.left over, buries_one mid net' a.client (subst (NetBuries mid net') is buries)))

-- the same from what the session's call ensures, of the lists that are lent to it
module _ {S : Type 0} (P : SessionNow → SessionNow → NetState → Type 0) (h : S → History) (f : S → JournalRoom) (t : ThreadNo) (config : Meaning) (last : ℕ) (items : List (ℕ × SessionNow)) (xs ys xs' ys' : List S) (ts us ts' us' : List ℕ)
    (net mid : NetState) (n : SessionNo) (r : Step) (s a : SessionNow) (before : xs ≡ ys) (turns : ts ≡ us) (behind : xs' ≡ ys') (turns' : ts' ≡ us') (value : Some s ≡ value_of items n.0)
    (ensures : StepEnsures config s a (around_with (map h xs) ts net) (around_with (map h xs') ts' mid) r) (rooms : JournalsStay most_marks (map f xs) (map f xs'))
    (under : AreUnderTheirs items) (has : HasSessions (worker_now t config (map h ys) (map f ys) us last (sessions_of items))) (p : P s a mid) where
  made : Stepped config n.0 (sessions_of items) s a (around_with (map h ys) us net) (around_with (map h ys') us' mid) r
  made =
      let there : session_of (sessions_of items) n.0 ≡ Some s = sym (value_is items n.0 under) ∙ sym value in
      let found = each_found (IsOurs t config) (sessions_of items) n.0 s there has.ours in
      step_made config n.0 (sessions_of items) s a (around_with (map h ys) us net) (around_with (map h ys') us' mid) r there found.1.going
      (settled h xs ys xs' ys' ts us ts' us' config s a net mid r before turns behind turns' ensures)

  pub stays_here : (r.waits ≡ waits.Ended → ⊥)
      → StepDone P (worker_now t config (map h ys) (map f ys) us last (sessions_of items)) (worker_now t config (map h ys') (map f ys') us' last (sessions_of (with_value items n.0 a)))
      (with_value items n.0 a) net mid n r
  stays_here never =
      goes_on P t config (map h ys) (map h ys') (map f ys) (map f ys') us us' last items net mid n r s a made under has
      (settled_rooms f most_marks xs ys xs' ys' before behind rooms) p never

  pub gone_here : (gone : List (ℕ × SessionNow)) (net' : NetState) (l : LinkState) → r.waits ≡ waits.Ended → gone ≡ removed (with_value items n.0 a) n.0 → l ≡ a.client → NetBuries mid net' l
      → StepDone P (worker_now t config (map h ys) (map f ys) us last (sessions_of items)) (worker_now t config (map h ys') (map f ys') us' last (sessions_of gone)) gone net net' n r
  gone_here gone net' l ended rest is buries =
      is_gone P t config (map h ys) (map h ys') (map f ys) (map f ys') us us' last items net mid n r s a made under has
      (settled_rooms f most_marks xs ys xs' ys' before behind rooms) p gone net' l ended rest is buries

-- what is taken out behind a step is the session behind it
pub taken_out : (items : List (ℕ × SessionNow)) (n : ℕ) (s a taken : SessionNow) → Some s ≡ value_of items n → Some taken ≡ value_of (with_value items n a) n → taken ≡ a
taken_out items n s a taken value out = some_same (value_of (with_value items n a) n) taken a (sym out) (with_found items n s a (sym value))

-- ---- a stop

-- a stop leaves as many seats
pub stop_size : {S : Type 0} (h : S → History) (xs ys : List S) → abouts (map h ys) ≡ abouts (map h xs) → length ys ≡ length xs
stop_size h xs ys e =
    let about : History → About = λ (k : History). k.about in
    sym (length-map ys h)
    ∙ (sym (length-map (map h ys) about) ∙ (ap (λ (l : List About). length l) e ∙ (length-map (map h xs) about ∙ length-map xs h)))

-- the session of the least number is the first
pub least_first : (items items' : List (ℕ × SessionNow)) (s : SessionNow) → TakesLeast items items' (Some s) → (n : ℕ) × (items ≡ (n, s) ∷ items')
least_first [] items' s t = cc
least_first (x ∷ items) items' s t =
    let is : s ≡ x.1 = some_is s x.1 t.1 in
    (x.0, ap (λ (l : List (ℕ × SessionNow)). x ∷ l) (sym t.0) ∙ ap (λ (y : SessionNow). (x.0, y) ∷ items') (sym is))

-- what is asked of it
pub least_may : (w : WorkerNow) (s : SessionNow) (others : List SessionNow) (loop_no : ℕ) → w.sessions ≡ s ∷ others → HasSeats w → HasSessions w → loop_no ≡ w.thread.0 → MayCall w s.number.0 loop_no s
least_may w s others loop_no e seats has net =
    may_call w s.number.0 loop_no s seats has (ap (λ l. session_of l s.number.0) e ∙ session_here s others s.number.0 refl) net

pub record StopDone (w w' : WorkerNow) (items' : List (ℕ × SessionNow)) (net net' : NetState) (x : Stopped) : Type 0 where
  pub under : AreUnderTheirs items'
  pub sound : HasSessions w'
  pub seats : HasSeats w → HasSeats w'
  pub stops : StopsOne w w' net net' x

-- what a session's stop ensures, of the lists that are lent to it
pub record StopEnsures (s : SessionNow) (client : LinkState) (seats seats' : List History) (net net' : NetState) (x : Stopped) : Type 0 where
  pub stops : IsStopped s client seats seats' net net' x.left
  pub tells : StopTold s client x.left x.served
  pub adds : AddsMarks s seats seats'
  pub links : (turns : List ℕ) → StopLinks s client (around_with seats turns net) (around_with seats' turns net') x.served x.left

pub settled_stop : {S : Type 0} (h : S → History) (xs ys xs' ys' : List S) (s : SessionNow) (client : LinkState) (net mid : NetState) (x : Stopped) → xs ≡ ys → xs' ≡ ys'
    → StopEnsures s client (map h xs) (map h xs') net mid x → StopEnsures s client (map h ys) (map h ys') net mid x
settled_stop {S} h xs ys xs' ys' s client net mid x e f k =
    subst (λ (l : List S). StopEnsures s client (map h l) (map h ys') net mid x) e (subst (λ (l : List S). StopEnsures s client (map h xs) (map h l) net mid x) f k)

pub stop_done : (t : ThreadNo) (config : Meaning) (hs hs' : List History) (js js' : List JournalRoom) (ts : List ℕ) (last : ℕ) (items items' : List (ℕ × SessionNow)) (s : SessionNow) (client : LinkState) (net mid net' : NetState) (x : Stopped)
    → TakesLeast items items' (Some s) → AreUnderTheirs items → HasSessions (worker_now t config hs js ts last (sessions_of items)) → StopEnsures s client hs hs' net mid x → NetBuries mid net' client → JournalsStay most_marks js js'
    → StopDone (worker_now t config hs js ts last (sessions_of items)) (worker_now t config hs' js' ts last (sessions_of items')) items' net net' x
stop_done t config hs hs' js js' ts last items items' s client net mid net' x least under has k buries journals =
    let first = least_first items items' s least in
    let e : sessions_of items ≡ s ∷ sessions_of items' = ap sessions_of first.1 in
    let rest = subst AreUnderTheirs first.1 under in
    let had = subst (λ l. HasSessions (worker_now t config hs js ts last l)) e has in
    let stop : SessionStop s client hs hs' net mid x = record {
      stops = k.stops;
      adds = k.adds;
      few = few_marks s.worker s.number (is_first s) k.adds.touch 0 hs hs' k.adds.added k.adds.adds;
      links = k.links;
      tells = k.tells;
    } in
    let no_loop : client.on_loop ≡ None = ap (λ (l : LinkState). l.on_loop) k.stops.link in record {
      under = rest.1;
      sound = stop_sessions t config hs hs' js js' ts last s (sessions_of items') client net mid x had stop;
      seats = λ seats. stop_seats t config hs hs' js js' ts last s (sessions_of items') client net mid x had stop (subst (λ l. HasSeats (worker_now t config hs js ts last l)) e seats);
      stops = subst (λ l. StopsOne (worker_now t config hs js ts last l) (worker_now t config hs' js' ts last (sessions_of items')) net net' x) (sym e)
          (stopped_one t config hs hs' js js' ts last s (sessions_of items') client net mid x had stop net' (no_loop, buries_one mid net' client buries) journals);
    }
