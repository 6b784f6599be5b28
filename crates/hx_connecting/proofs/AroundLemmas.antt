-- What stands around a session after a call at one seat.
use Rattle.std.proofs.Common.{◌≡◌, ℕ, zero, suc, ◌+◌, ◌≤◌, Bool, List, [], ◌∷◌, refl, sym, ap, subst, ◌∙◌, arith, Option, Some, None, eq-eqb, ne_eqb}
use Rattle.std.specs.Prelude.{if◌then◌else◌, ⊤}
use Rattle.std.specs.List.{slice_get, slice_set}
use Rattle.hx_base.specs.declared.numbers.ThreadNo.{ThreadNo}
use Rattle.hx_base.specs.declared.numbers.SessionNo.{SessionNo}
use Rattle.hx_base.specs.declared.rules.Mode.TheVariants.{Never}
use Rattle.hx_pool.specs.SeatView.{About, History, StandsInOneHistory}
use Rattle.hx_connecting.specs.Holds.{HasJust, conn_at, HoldsConn}
use Rattle.hx_connecting.specs.Sessions.{Holding, Resting, Exchanging, conn_server}
use Rattle.hx_connecting.specs.Around.{ConnOnLoop, AreNumbered, RestsAtNever, HasAround, abouts}

-- no connection, or one to that server
abbrev pub IsAt : ℕ → Option Holding → Type 0
IsAt j None = ⊤
IsAt j (Some c) = (conn_server c).0 ≡ j

some_same : {A : Type 0} (x y : A) → Some x ≡ Some y → x ≡ y
some_same x y e = cc

pub conn_here : (j : ℕ) (c : Option Holding) → IsAt j c → conn_at c j ≡ c
conn_here j None at = refl
conn_here j (Some c) at = ap (λ (b : Bool). if b then Some c else None) (eq-eqb (conn_server c).0 j at)

pub conn_elsewhere : (j k : ℕ) (c : Option Holding) → IsAt j c → (k ≡ j → ⊥) → conn_at c k ≡ None
conn_elsewhere j k None at ne = refl
conn_elsewhere j k (Some c) at ne = ap (λ (b : Bool). if b then Some c else None) (ne_eqb (conn_server c).0 k (λ e. ne (sym e ∙ at)))

holds_ext : (t : ThreadNo) (n : SessionNo) (c d : Option Holding) (i : ℕ) (seats : List History)
    → ((k : ℕ) → i ≤ k → conn_at d k ≡ conn_at c k) → HoldsConn t n c i seats → HoldsConn t n d i seats
holds_ext t n c d i [] same holds = tt
holds_ext t n c d i (h ∷ seats) same holds = (
  holds.0,
  holds.1,
  subst (HasJust h n) (sym (same i (omega arith))) holds.2,
  holds_ext t n c d (i + 1) seats (λ k le. same k (omega (arith, le))) holds.3,
)

-- the seat with number j changed, and the others hold what they held
pub holds_set : (t : ThreadNo) (n : SessionNo) (c d : Option Holding) (i j : ℕ) (seats : List History) (old new : History)
    → slice_get seats j ≡ Some old → new.about ≡ old.about → StandsInOneHistory new → HasJust new n (conn_at d (i + j))
    → ((k : ℕ) → i ≤ k → (k ≡ i + j → ⊥) → conn_at d k ≡ conn_at c k) → HoldsConn t n c i seats → HoldsConn t n d i (slice_set seats j new)
holds_set t n c d i j [] old new there about one just same holds = cc
holds_set t n c d i zero (h ∷ seats) old new there about one just same holds = (
  ap (λ (a : About). a.thread) about ∙ (ap (λ (q : History). q.about.thread) (sym (some_same h old there)) ∙ holds.0),
  one,
  subst (λ (k : ℕ). HasJust new n (conn_at d k)) (omega arith) just,
  holds_ext t n c d (i + 1) seats (λ k le. same k (omega (arith, le)) (λ e. omega (arith, le, e))) holds.3,
)
holds_set t n c d i (suc j) (h ∷ seats) old new there about one just same holds = (
  holds.0,
  holds.1,
  subst (HasJust h n) (sym (same i (omega arith) (λ e. omega (arith, e)))) holds.2,
  holds_set t n c d (i + 1) j seats old new there about one (subst (λ (k : ℕ). HasJust new n (conn_at d k)) (omega arith) just)
      (λ k le ne. same k (omega (arith, le)) (λ e. ne (omega (arith, e)))) holds.3,
)

-- what the seats hold at one of them
pub holds_here : (t : ThreadNo) (n : SessionNo) (c : Option Holding) (i j : ℕ) (seats : List History) (h : History)
    → slice_get seats j ≡ Some h → HoldsConn t n c i seats → (h.about.thread ≡ t) × StandsInOneHistory h × HasJust h n (conn_at c (i + j))
holds_here t n c i j [] h there holds = cc
holds_here t n c i zero (x ∷ seats) h there holds =
    let e = some_same x h there in (
      ap (λ (q : History). q.about.thread) (sym e) ∙ holds.0,
      subst StandsInOneHistory e holds.1,
      subst (λ (k : ℕ). HasJust h n (conn_at c k)) (omega arith) (subst (λ (q : History). HasJust q n (conn_at c i)) e holds.2),
    )
holds_here t n c i (suc j) (x ∷ seats) h there holds =
    let r = holds_here t n c (i + 1) j seats h there holds.3 in
    (r.0, r.1, subst (λ (k : ℕ). HasJust h n (conn_at c k)) (omega arith) r.2)

pub numbered_set : (i j : ℕ) (seats : List History) (old new : History) → slice_get seats j ≡ Some old → new.about ≡ old.about
    → AreNumbered i seats → AreNumbered i (slice_set seats j new)
numbered_set i j [] old new there about are = cc
numbered_set i zero (h ∷ seats) old new there about are =
    (ap (λ (a : About). a.server.0) about ∙ (ap (λ (q : History). q.about.server.0) (sym (some_same h old there)) ∙ are.0), are.1)
numbered_set i (suc j) (h ∷ seats) old new there about are = (are.0, numbered_set (i + 1) j seats old new there about are.1)

pub numbered_here : (i j : ℕ) (seats : List History) (h : History) → slice_get seats j ≡ Some h → AreNumbered i seats → h.about.server.0 ≡ i + j
numbered_here i j [] h there are = cc
numbered_here i zero (x ∷ seats) h there are = omega (arith, ap (λ (q : History). q.about.server.0) (some_same x h there), are.0)
numbered_here i (suc j) (x ∷ seats) h there are = omega (arith, numbered_here (i + 1) j seats h there are.1)

pub seat_set : (j : ℕ) (seats : List History) (old new : History) → slice_get seats j ≡ Some old → slice_get (slice_set seats j new) j ≡ Some new
seat_set j [] old new there = cc
seat_set zero (h ∷ seats) old new there = refl
seat_set (suc j) (h ∷ seats) old new there = seat_set j seats old new there

pub abouts_set : (j : ℕ) (seats : List History) (old new : History) → slice_get seats j ≡ Some old → new.about ≡ old.about
    → abouts (slice_set seats j new) ≡ abouts seats
abouts_set j [] old new there about = cc
abouts_set zero (h ∷ seats) old new there about =
    ap (λ (a : About). a ∷ abouts seats) (about ∙ ap (λ (q : History). q.about) (sym (some_same h old there)))
abouts_set (suc j) (h ∷ seats) old new there about = ap (λ (l : List About). h.about ∷ l) (abouts_set j seats old new there about)

-- where the connection rests, its server's are never shared
abbrev pub RestsNever : Option Holding → History → Type 0
RestsNever None h = ⊤
RestsNever (Some (Exchanging b)) h = ⊤
RestsNever (Some (Resting r)) h = h.about.rules.mode ≡ Never

never_set : (j : ℕ) (seats : List History) (old new : History) (d : Option Holding) → slice_get seats j ≡ Some old → IsAt j d → RestsNever d new
    → RestsAtNever (slice_set seats j new) d
never_set j seats old new None there at never = tt
never_set j seats old new (Some (Exchanging b)) there at never = tt
never_set j seats old new (Some (Resting r)) there at never =
    (new, subst (λ (k : ℕ). slice_get (slice_set seats j new) k ≡ Some new) (sym at) (seat_set j seats old new there), never)

-- one seat changed, and the session has another connection to its server, or none
pub around_set : (t : ThreadNo) (n : SessionNo) (c d : Option Holding) (j : ℕ) (seats : List History) (old new : History)
    → slice_get seats j ≡ Some old → new.about ≡ old.about → StandsInOneHistory new → IsAt j c → IsAt j d → HasJust new n d
    → ConnOnLoop t d → RestsNever d new → HasAround t n c seats → HasAround t n d (slice_set seats j new)
around_set t n c d j seats old new there about one at at' just loop never a = record {
  loop = loop;
  never = never_set j seats old new d there at' never;
  servers = numbered_set 0 j seats old new there about a.servers;
  holds = holds_set t n c d 0 j seats old new there about one
      (subst (λ (k : ℕ). HasJust new n (conn_at d k)) (omega arith) (subst (HasJust new n) (sym (conn_here j d at')) just))
      (λ k le ne. let off : k ≡ j → ⊥ = λ e. ne (omega (arith, e)) in conn_elsewhere j k d at' off ∙ sym (conn_elsewhere j k c at off))
      a.holds;
}

-- what the seat of a session's connection holds
pub just_here : (t : ThreadNo) (n : SessionNo) (c : Option Holding) (j : ℕ) (seats : List History) (h : History)
    → HasAround t n c seats → slice_get seats j ≡ Some h → IsAt j c → HasJust h n c
just_here t n c j seats h a there at =
    subst (HasJust h n) (conn_here j c at) (subst (λ (k : ℕ). HasJust h n (conn_at c k)) (omega arith) (holds_here t n c 0 j seats h there a.holds).2)

pub one_here : (t : ThreadNo) (n : SessionNo) (c : Option Holding) (j : ℕ) (seats : List History) (h : History)
    → HasAround t n c seats → slice_get seats j ≡ Some h → StandsInOneHistory h
one_here t n c j seats h a there = (holds_here t n c 0 j seats h there a.holds).1
