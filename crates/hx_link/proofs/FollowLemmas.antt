-- What a link in memory has given of its plan where it waits, where it told its end and where it failed, at any moment.
use Rattle.std.proofs.Common.{◌≡◌, ℕ, suc, ◌+◌, ◌-◌, ◌<◌, ◌≤◌, true, false, Bool, List, [], ◌∷◌, ◌++◌, length, take, drop, Option, Some, None, sym, ap, ◌∙◌, arith, length-append, ⊎_elim, inl, inr, le-leb, le-ltb, lt-ltb, refl}
use Rattle.std.specs.Prelude.{◌⊎◌, ◌&&◌, nat_le, All, IsSome}
use Rattle.std.proofs.lemmas.Bool.{cases_lt}
use Rattle.std.proofs.lemmas.List.{take_all, take-append-drop}
use Rattle.hx_base.specs.declared.numbers.Millis.{Millis}
use Rattle.hx_base.specs.declared.plan.Piece.{Piece}
use Rattle.hx_link.specs.Told.{most_bytes}
use Rattle.hx_link.specs.Planned.{planned, next_piece, is_ready_with, end_has_come, has_come}
use Rattle.hx_link.specs.MemoryLinks.{MemoryLinkNow, KeepsPlan}
use Rattle.hx_link.specs.Followed.{HasNothingDue, HasGivenAll, HasNoEndDue, IsPieceDue}

-- a piece that is due has come
piece_comes : (now sent : ℕ) (p : Piece) → IsPieceDue now sent p → has_come p.at p.after now sent ≡ true
piece_comes now sent p (at, after) =
    ap (λ (b : Bool). b && nat_le p.after sent) (le-leb p.at.0 now at) ∙ le-leb p.after sent after

-- one with a byte left would be ready
not_here : (p : Piece) (pieces : List Piece) (now sent n : ℕ) (end : Option (Millis × ℕ)) → IsPieceDue now sent p
    → is_ready_with (next_piece (p ∷ pieces) n) end now sent ≡ false → n < length p.bytes → ⊥
not_here p pieces now sent n end here none lt =
    let next : next_piece (p ∷ pieces) n ≡ Some p = rw (lt-ltb n (length p.bytes) lt) in
    let comes : is_ready_with (next_piece (p ∷ pieces) n) end now sent ≡ true =
    ap (λ (o : Option Piece). is_ready_with o end now sent) next ∙ piece_comes now sent p here in
    cc

-- where each piece is due and a read finds nothing, all bytes were taken, and the end isn't due
pub all_taken : (pieces : List Piece) (now sent n : ℕ) (end : Option (Millis × ℕ)) → All (IsPieceDue now sent) pieces
    → n ≤ length (planned pieces) → is_ready_with (next_piece pieces n) end now sent ≡ false
    → (n ≡ length (planned pieces)) × (end_has_come end now sent ≡ false)
all_taken [] now sent n end all within none = (omega (arith, within), none)
all_taken (p ∷ pieces) now sent n end all within none =
    let here : IsPieceDue now sent p = all 0 p (omega arith) in
    let others : All (IsPieceDue now sent) pieces = λ k d lt. all (suc k) d (omega (arith, lt)) in
    let len : length (planned (p ∷ pieces)) ≡ length p.bytes + length (planned pieces) = length-append p.bytes (planned pieces) in
    ⊎_elim (λ lt. absurd (not_here p pieces now sent n end here none lt))
    (λ ge.
    let next : next_piece (p ∷ pieces) n ≡ next_piece pieces (n - length p.bytes) = rw (le-ltb n (length p.bytes) ge) in
    let there = all_taken pieces now sent (n - length p.bytes) end others (omega (arith, within, len, ge))
    (ap (λ (o : Option Piece). is_ready_with o end now sent) (sym next) ∙ none) in
    (omega (arith, there.0, len, ge), there.1))
    (cases_lt n (length p.bytes))

-- as many bytes as the plan has are its bytes
given_all : (m : MemoryLinkNow) → KeepsPlan m → m.state.taken_count ≡ length (planned m.plan.pieces) → HasGivenAll m
given_all m keeps all = record {
  count = all;
  bytes = keeps.taken ∙ ap Some (take_all m.state.taken_count (planned m.plan.pieces) (omega (arith, all)));
}

-- what was taken is the front of the plan's bytes
pub taken_front : (m : MemoryLinkNow) → KeepsPlan m
    → (rest : List ℕ) × (planned m.plan.pieces ≡ take m.state.taken_count (planned m.plan.pieces) ++ rest)
taken_front m keeps =
    (drop m.state.taken_count (planned m.plan.pieces), sym (take-append-drop m.state.taken_count (planned m.plan.pieces)))

-- where its last read had to wait, nothing was due at that moment
pub waits_undue : (m : MemoryLinkNow) → KeepsPlan m → m.state.read_waited ≡ true → HasNothingDue m m.state.read_wait_at
waits_undue m keeps waited = (keeps.waits waited).0

-- and where each piece was due by then, it gave all, and its end isn't due
pub waits_given : (m : MemoryLinkNow) → KeepsPlan m → m.state.read_waited ≡ true
    → All (IsPieceDue m.state.read_wait_at m.state.sent_count) m.plan.pieces
    → HasGivenAll m × HasNoEndDue m m.state.read_wait_at
waits_given m keeps waited due =
    let all = all_taken m.plan.pieces m.state.read_wait_at m.state.sent_count m.state.taken_count m.plan.end due keeps.within
    (waits_undue m keeps waited) in
    (given_all m keeps all.0, all.1)

-- where it told its end, it gave all, and its plan has an end
pub ended_given : (m : MemoryLinkNow) → KeepsPlan m → m.state.told_end ≡ true → HasGivenAll m × IsSome m.plan.end
ended_given m keeps told = (given_all m keeps (keeps.ended told).0, (keeps.ended told).1)

-- a test is true or false
either : (b : Bool) → (b ≡ true) ⊎ (b ≡ false)
either true = inl refl
either false = inr refl

-- where it failed, though its plan fails no call and neither limit of bytes is reached, a write found no memory
pub fails_starved : (m : MemoryLinkNow) → KeepsPlan m → 1 ≤ m.state.faults → m.plan.fail ≡ None → m.state.taken_count < most_bytes
    → m.state.sent_count < most_bytes → m.starved ≡ true
fails_starved m keeps failed plan taken sent =
    ⊎_elim (λ yes. yes)
    (λ memory. absurd (omega (arith, failed, keeps.faults (record { plan = plan; memory = memory; taken = taken; sent = sent }))))
    (either m.starved)
