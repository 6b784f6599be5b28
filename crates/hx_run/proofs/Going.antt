-- What the worker's calls leave of the net's loop, and which sessions are there.
use Rattle.std.proofs.Common.{◌≡◌, ◌<◌, ℕ, List, [], ◌∷◌, refl, sym, ap, ◌∙◌, subst, Bool, true, false, Option, Some, eq-eqb, ne_eqb}
use Rattle.std.specs.Prelude.{IsSome, if◌then◌else◌, nat_lt}
use mathlib.Core.Logic.{dite}
use native.Mathlib.Decide.{ℕ_discrete}
use Rattle.std.proofs.lemmas.Bool.{ltb-true}
use Rattle.hx_base.specs.declared.numbers.SessionNo.{SessionNo}
use Rattle.hx_link.specs.Told.{LinkState}
use Rattle.hx_link.specs.Nets.{NetState}
use Rattle.hx_connecting.specs.Sessions.{SessionNow}
use Rattle.hx_session.specs.declared.step.Step.{Step}
use Rattle.hx_worker.specs.declared.answers.Stopped.{Stopped}
use Rattle.hx_worker.specs.Admitting.{next_above}
use Rattle.hx_session.specs.declared.step.Waits.TheVariants.{Ended}
use Rattle.hx_worker.proofs.ByNumber.{session_here, session_past}
use Rattle.hx_worker.specs.Steps.{Steps, BuriesClient, placed}
use Rattle.hx_worker.specs.Stops.{StopsOne}
use Rattle.hx_worker.specs.Workers.{WorkerNow, session_of}

buries_loop : (over : Bool) (client : LinkState) (mid net : NetState) → BuriesClient over client mid net → net.loop_no ≡ mid.loop_no
buries_loop false client mid net b = ap (λ (s : NetState). s.loop_no) b
buries_loop true client mid net b = b.1.loop

pub steps_loop : (w w' : WorkerNow) (net net' : NetState) (n : SessionNo) (r : Step) → Steps w w' net net' n r → net'.loop_no ≡ net.loop_no
steps_loop w w' net net' n r s = buries_loop s.after.over s.after.client s.mid net' s.buries ∙ s.step.same.loop_no

pub stops_loop : (w w' : WorkerNow) (net net' : NetState) (x : Stopped) → StopsOne w w' net net' x → net'.loop_no ≡ net.loop_no
stops_loop w w' net net' x s = buries_loop true s.client s.mid net' s.buries ∙ s.stop.stops.loop_no

-- ---- which sessions are there

some_is : {A : Type 0} (a b : A) → Some a ≡ Some b → a ≡ b
some_is a b e = cc

found_number : (ss : List SessionNow) (n : ℕ) (s : SessionNow) → session_of ss n ≡ Some s → s.number.0 ≡ n
found_number [] n s e = cc
found_number (x ∷ rest) n s e = dite (ℕ_discrete x.number.0 n)
    (λ (is : x.number.0 ≡ n). ap (λ (y : SessionNow). y.number.0) (sym (some_is x s (sym (session_here x rest n is) ∙ e))) ∙ is)
    (λ ne. found_number rest n s (sym (session_past x rest n ne) ∙ e))

placed_here : (s : SessionNow) (rest : List SessionNow) (a : SessionNow) → s.number.0 ≡ a.number.0 → a.over ≡ false → placed (s ∷ rest) a ≡ a ∷ rest
placed_here s rest a e go =
    ap (λ (c : Bool). if c then (if a.over then rest else a ∷ rest) else s ∷ placed rest a) (eq-eqb s.number.0 a.number.0 e)
    ∙ ap (λ (c : Bool). if c then rest else a ∷ rest) go

placed_past : (s : SessionNow) (rest : List SessionNow) (a : SessionNow) → (s.number.0 ≡ a.number.0 → ⊥) → placed (s ∷ rest) a ≡ s ∷ placed rest a
placed_past s rest a ne = ap (λ (c : Bool). if c then (if a.over then rest else a ∷ rest) else s ∷ placed rest a) (ne_eqb s.number.0 a.number.0 ne)

some_there : (o : Option SessionNow) (s : SessionNow) → o ≡ Some s → IsSome o
some_there o s e = subst (λ (x : Option SessionNow). IsSome x) (sym e) refl

still : (ss : List SessionNow) (a : SessionNow) (n : ℕ) → a.number.0 ≡ n → a.over ≡ false → (s : SessionNow) → session_of ss n ≡ Some s → IsSome (session_of (placed ss a) n)
still [] a n e go s h = cc
still (x ∷ rest) a n e go s h = dite (ℕ_discrete x.number.0 a.number.0)
    (λ (is : x.number.0 ≡ a.number.0). some_there (session_of (placed (x ∷ rest) a) n) a
    (ap (λ l. session_of l n) (placed_here x rest a is go) ∙ session_here a rest n e))
    (λ ne. subst (λ (o : Option SessionNow). IsSome o)
    (sym (ap (λ l. session_of l n) (placed_past x rest a ne) ∙ session_past x (placed rest a) n (λ k. ne (k ∙ sym e))))
    (still rest a n e go s (sym (session_past x rest n (λ k. ne (k ∙ sym e))) ∙ h)))

not_over : (b : Bool) → (b ≡ true → ⊥) → b ≡ false
not_over true f = absurd (f refl)
not_over false f = refl

-- a session whose step didn't end it is there
pub steps_there : (w w' : WorkerNow) (net net' : NetState) (n : SessionNo) (r : Step) → Steps w w' net net' n r → (r.waits ≡ Ended → ⊥) → IsSome (session_of w'.sessions n.0)
steps_there w w' net net' n r s on =
    subst (λ (l : List SessionNow). IsSome (session_of l n.0)) (sym s.sessions)
    (still w.sessions s.after n.0
    (ap (λ (k : SessionNo). k.0) s.step.same.session.number ∙ found_number w.sessions n.0 s.session s.there)
    (not_over s.after.over (λ over. on (s.step.ended.1 over))) s.session s.there)

-- the next session is there
pub next_there : (ss : List SessionNow) (n : ℕ) (m : SessionNo) → next_above ss n ≡ Some m → IsSome (session_of ss m.0)
next_there [] n m e = cc
next_there (s ∷ rest) n m e = dite (ℕ_discrete s.number.0 m.0)
    (λ (is : s.number.0 ≡ m.0). some_there (session_of (s ∷ rest) m.0) s (session_here s rest m.0 is))
    (λ ne.
    let go : (b : Bool) → (if b then Some s.number else next_above rest n) ≡ Some m → next_above rest n ≡ Some m =
    λ b. elim b as (λ b. (if b then Some s.number else next_above rest n) ≡ Some m → next_above rest n ≡ Some m) [
      | true ↦ λ q. absurd (ne (ap (λ (k : SessionNo). k.0) (some_is s.number m q)))
      | false ↦ λ q. q
    ] in
    subst (λ (o : Option SessionNow). IsSome o) (sym (session_past s rest m.0 ne)) (next_there rest n m (go (nat_lt n s.number.0) e)))

-- and has a greater number
pub next_over : (ss : List SessionNow) (n : ℕ) (m : SessionNo) → next_above ss n ≡ Some m → n < m.0
next_over [] n m e = cc
next_over (s ∷ rest) n m e =
    let go : (b : Bool) → nat_lt n s.number.0 ≡ b → (if b then Some s.number else next_above rest n) ≡ Some m → n < m.0 =
    λ b. elim b as (λ b. nat_lt n s.number.0 ≡ b → (if b then Some s.number else next_above rest n) ≡ Some m → n < m.0) [
      | true ↦ λ l q. subst (λ (k : SessionNo). n < k.0) (some_is s.number m q) (ltb-true n s.number.0 l)
      | false ↦ λ l q. next_over rest n m q
    ] in go (nat_lt n s.number.0) refl e
