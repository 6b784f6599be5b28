-- The number of resting connections in a table is that of the places which hold one.
use Rattle.std.proofs.Common.{◌≡◌, ℕ, zero, suc, ◌+◌, ◌*◌, ◌<◌, ◌≤◌, List, [], ◌∷◌, sym, refl, ap, ◌∙◌, arith, Option}
use native.Mathlib.Decide.{ℕ_discrete, dec_lt}
use mathlib.Core.Logic.{dite}
use Rattle.hx_base.specs.declared.numbers.Face.{Face}
use Rattle.hx_base.specs.declared.what.What.{What}
use Rattle.hx_pool.specs.declared.entries.Entry.{Entry}
use Rattle.hx_pool.specs.declared.entries.Entry.TheVariants.{Open, Park, Take, Free, Close, Look, Up, Down, Count, Gate, SetGate, Round}
use Rattle.hx_pool.specs.declared.entries.Note.{Note}
use Rattle.hx_pool.specs.Table.{Table, Spot, Vacant, Holds, Leaves, put, spot_no, face_of, Needs, after_entry, after, empty_table}
use Rattle.hx_pool.specs.History.{thread_of, table_from, table_after, EachStep, MeetsNeeds, IsLegal}
use Rattle.hx_pool.specs.SeatView.{AllBelow}
use Rattle.hx_pool.proofs.Tables.{put_same, put_other}

abbrev pub holds_one : Spot → ℕ
holds_one Vacant = 0
holds_one (Holds f) = 1
holds_one (Leaves t) = 0

-- how many of the first places hold a connection
abbrev pub resting_in : (ℕ → Spot) → ℕ → ℕ
resting_in spots zero = 0
resting_in spots (suc k) = resting_in spots k + holds_one (spots k)

in_same : (k : ℕ) (f g : ℕ → Spot) → ((j : ℕ) → j < k → f j ≡ g j) → resting_in f k ≡ resting_in g k
in_same zero f g e = refl
in_same (suc k) f g e = let more = in_same k f g (λ j l. e j (omega arith)) in let here = ap holds_one (e k (omega arith)) in omega arith

in_put : (k : ℕ) (S : ℕ → Spot) (u : ℕ) (d : Spot) → u < k → resting_in (put S u d) k + holds_one (S u) ≡ resting_in S k + holds_one d
in_put zero S u d l = absurd (omega arith)
in_put (suc k) S u d l = dite (ℕ_discrete u k)
    (λ e. let same = in_same k (put S u d) S (λ j low. put_other S u d j (λ z. omega arith)) in
    let here : holds_one (put S u d k) ≡ holds_one d = ap holds_one (put_same S u d k (sym e)) in
    let is : holds_one (S u) ≡ holds_one (S k) = ap (λ z. holds_one (S z)) e in omega arith)
    (λ n. let more = in_put k S u d (omega arith) in
    let here : holds_one (put S u d k) ≡ holds_one (S k) = ap holds_one (put_other S u d k (λ z. n (sym z))) in omega arith)

in_far : (k : ℕ) (S : ℕ → Spot) (u : ℕ) (d : Spot) → k ≤ u → resting_in (put S u d) k ≡ resting_in S k
in_far k S u d l = in_same k (put S u d) S (λ j low. put_other S u d j (λ z. omega arith))

pub some_in : (k : ℕ) (S : ℕ → Spot) (u : ℕ) → u < k → holds_one (S u) ≤ resting_in S k
some_in zero S u l = absurd (omega arith)
some_in (suc k) S u l = dite (ℕ_discrete u k)
    (λ e. let is : holds_one (S u) ≡ holds_one (S k) = ap (λ z. holds_one (S z)) e in omega arith)
    (λ n. let more = some_in k S u (omega arith) in omega arith)

-- what rests is in the rows of these threads, and is counted
pub record IsCounted (threads : ℕ) (T : Table) : Type 0 where
  pub inside : (k : ℕ) (f : Face) → T.spots k ≡ Holds f → k < 64 * threads
  pub resting_is : T.resting ≡ resting_in T.spots (64 * threads)

put_inside : (threads : ℕ) (S : ℕ → Spot) (u : ℕ) (d : Spot) → ((f : Face) → d ≡ Holds f → u < 64 * threads) → ((k : ℕ) (f : Face) → S k ≡ Holds f → k < 64 * threads)
    → (k : ℕ) (f : Face) → put S u d k ≡ Holds f → k < 64 * threads
put_inside threads S u d new old k f h = dite (ℕ_discrete k u)
    (λ e. let low = new f (sym (put_same S u d k e) ∙ h) in omega arith)
    (λ n. old k f (sym (put_other S u d k n) ∙ h))

pub counted_entry : (threads : ℕ) (T : Table) (w : Option What) (e : Entry) → (thread_of e).0 < threads → Needs T e → IsCounted threads T → IsCounted threads (after_entry T w e)
counted_entry threads T w (Open t n id) low need c = record { inside = c.inside; resting_is = c.resting_is }
counted_entry threads T w (Park t n id place uses) low need c =
    let row = need.row in let inside = need.inside in
    let u : ℕ = spot_no place in
    let here : u < 64 * threads = omega arith in
    let was : holds_one (T.spots u) ≡ 0 = ap holds_one need.vacant in
    let sum = in_put (64 * threads) T.spots u (Holds (face_of id uses)) here in record {
      inside = put_inside threads T.spots u (Holds (face_of id uses)) (λ f _. here) c.inside;
      resting_is = let is = c.resting_is in omega arith;
    }
counted_entry threads T w (Take t n first place id uses) low need c =
    let u : ℕ = spot_no place in
    let here : u < 64 * threads = c.inside u (face_of id uses) need.1 in
    let was : holds_one (T.spots u) ≡ 1 = ap holds_one need.1 in
    let some = some_in (64 * threads) T.spots u here in
    let sum = in_put (64 * threads) T.spots u (Leaves t) here in record {
      inside = put_inside threads T.spots u (Leaves t) (λ f e. absurd (cc)) c.inside;
      resting_is = let is = c.resting_is in omega arith;
    }
counted_entry threads T w (Free t place) low need c =
    let u : ℕ = spot_no place in
    let was : holds_one (T.spots u) ≡ 0 = ap holds_one need.1 in
    let same : resting_in (put T.spots u Vacant) (64 * threads) ≡ resting_in T.spots (64 * threads) = dite (dec_lt u (64 * threads))
    (λ l. let sum = in_put (64 * threads) T.spots u Vacant l in omega arith)
    (λ n. in_far (64 * threads) T.spots u Vacant (omega arith)) in record {
      inside = put_inside threads T.spots u Vacant (λ f e. absurd (cc)) c.inside;
      resting_is = let is = c.resting_is in omega arith;
    }
counted_entry threads T w (Close t n id) low need c = record { inside = c.inside; resting_is = c.resting_is }
counted_entry threads T w (Look t place found) low need c = c
counted_entry threads T w (Up t old) low need c = record { inside = c.inside; resting_is = c.resting_is }
counted_entry threads T w (Down t old) low need c = record { inside = c.inside; resting_is = c.resting_is }
counted_entry threads T w (Count t k) low need c = c
counted_entry threads T w (Gate t draining) low need c = c
counted_entry threads T w (SetGate t draining) low need c = record { inside = c.inside; resting_is = c.resting_is }
counted_entry threads T w (Round t k old) low need c = record { inside = c.inside; resting_is = c.resting_is }

counted_along : (threads : ℕ) (T : Table) (H : List Note) → AllBelow threads H → EachStep MeetsNeeds T H → IsCounted threads T → IsCounted threads (table_from T H)
counted_along threads T [] low l c = c
counted_along threads T (x ∷ xs) low l c = counted_along threads (after T x) xs low.1 l.1 (counted_entry threads T x.what x.entry low.0 l.0 c)

all_vacant : (k : ℕ) → resting_in (λ _. Vacant) k ≡ 0
all_vacant zero = refl
all_vacant (suc k) = let more = all_vacant k in omega arith

-- so a history's limit is one on the places that hold a connection
pub resting_counts : (threads : ℕ) (H : List Note) → AllBelow threads H → IsLegal H → IsCounted threads (table_after H)
resting_counts threads H low l = counted_along threads empty_table H low l (record { inside = λ k f h. absurd (cc); resting_is = sym (all_vacant (64 * threads)) })
