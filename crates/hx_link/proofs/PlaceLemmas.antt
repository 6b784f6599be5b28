-- Where the reads of a link in memory stand in its pieces.
use Rattle.std.proofs.Common.{◌≡◌, ℕ, ◌+◌, ◌-◌, ◌<◌, ◌≤◌, List, [], ◌∷◌, ◌++◌, length, take, drop, get_or, Option, Some, None, refl, sym, ap, ◌∙◌, arith, rules, length-append}
use Rattle.std.specs.Prelude.{IsSome, true}
use Rattle.std.proofs.lemmas.Bool.{le-ltb, lt-ltb}
use Rattle.std.proofs.lemmas.Grind.{flat_map-append}
use Rattle.std.proofs.lemmas.List.{take_all, take_more, drop_more, drop_all, take-append-drop, take-append-le, drop_at, drop-drop, drop-append-le, append-nil, length-drop}
use Rattle.hx_base.specs.declared.numbers.Millis.{Millis}
use Rattle.hx_base.specs.declared.plan.Piece.{Piece}
use Rattle.hx_base.specs.declared.plan.Plan.{Plan}
use Rattle.hx_link.specs.declared.place.Place.{Place}
use Rattle.hx_link.specs.Planned.{planned, next_piece, left_of_piece, is_ready, is_ready_with, end_has_come, has_come}
use Rattle.hx_link.specs.Places.{first_bytes, IsPlace, IsNext}
use Rattle.hx_link.proofs.WholeLemmas.{take_add}

-- a piece that was taken whole is passed
next_past : (p : Piece) (pieces : List Piece) (taken : ℕ) → length p.bytes ≤ taken → next_piece (p ∷ pieces) taken ≡ next_piece pieces (taken - length p.bytes)
next_past p pieces taken le = rw (le-ltb taken (length p.bytes) le)

left_past : (p : Piece) (pieces : List Piece) (taken : ℕ) → length p.bytes ≤ taken → left_of_piece (p ∷ pieces) taken ≡ left_of_piece pieces (taken - length p.bytes)
left_past p pieces taken le = rw (le-ltb taken (length p.bytes) le)

-- one that has a byte left is the next
next_here : (p : Piece) (pieces : List Piece) (taken : ℕ) → taken < length p.bytes → next_piece (p ∷ pieces) taken ≡ Some p
next_here p pieces taken lt = rw (lt-ltb taken (length p.bytes) lt)

left_here : (p : Piece) (pieces : List Piece) (taken : ℕ) → taken < length p.bytes → left_of_piece (p ∷ pieces) taken ≡ length p.bytes - taken
left_here p pieces taken lt = rw (lt-ltb taken (length p.bytes) lt)

-- pieces that were taken whole are passed
next_skips : (front rest : List Piece) (offset : ℕ) → next_piece (front ++ rest) (length (planned front) + offset) ≡ next_piece rest offset
next_skips [] rest offset = ap (next_piece rest) (omega arith)
next_skips (p ∷ front) rest offset =
    let len : length (planned (p ∷ front)) ≡ length p.bytes + length (planned front) = length-append p.bytes (planned front) in
    next_past p (front ++ rest) (length (planned (p ∷ front)) + offset) (omega (arith, len))
    ∙ ap (next_piece (front ++ rest)) (omega (arith, len)) ∙ next_skips front rest offset

left_skips : (front rest : List Piece) (offset : ℕ) → left_of_piece (front ++ rest) (length (planned front) + offset) ≡ left_of_piece rest offset
left_skips [] rest offset = ap (left_of_piece rest) (omega arith)
left_skips (p ∷ front) rest offset =
    let len : length (planned (p ∷ front)) ≡ length p.bytes + length (planned front) = length-append p.bytes (planned front) in
    left_past p (front ++ rest) (length (planned (p ∷ front)) + offset) (omega (arith, len))
    ∙ ap (left_of_piece (front ++ rest)) (omega (arith, len)) ∙ left_skips front rest offset

next_at : (pieces : List Piece) (at : Place) → IsPlace pieces at → next_piece pieces at.taken ≡ next_piece (drop at.piece pieces) at.offset
next_at pieces at place =
    ap (λ (ps : List Piece). next_piece ps at.taken) (sym (take-append-drop at.piece pieces))
    ∙ ap (next_piece (take at.piece pieces ++ drop at.piece pieces)) place.count
    ∙ next_skips (take at.piece pieces) (drop at.piece pieces) at.offset

left_at : (pieces : List Piece) (at : Place) → IsPlace pieces at → left_of_piece pieces at.taken ≡ left_of_piece (drop at.piece pieces) at.offset
left_at pieces at place =
    ap (λ (ps : List Piece). left_of_piece ps at.taken) (sym (take-append-drop at.piece pieces))
    ∙ ap (left_of_piece (take at.piece pieces ++ drop at.piece pieces)) place.count
    ∙ left_skips (take at.piece pieces) (drop at.piece pieces) at.offset

-- past the last piece the end is due, or nothing
pub ready_past : (plan : Plan) (at : Place) (sent now : ℕ) → IsPlace plan.pieces at → length plan.pieces ≤ at.piece
    → is_ready plan at.taken sent now ≡ end_has_come plan.end now sent
ready_past plan at sent now place past =
    ap (λ (o : Option Piece). is_ready_with o plan.end now sent)
    (next_at plan.pieces at place ∙ ap (λ (ps : List Piece). next_piece ps at.offset) (drop_all at.piece plan.pieces past))

pub left_none : (pieces : List Piece) (at : Place) → IsPlace pieces at → length pieces ≤ at.piece → left_of_piece pieces at.taken ≡ 0
left_none pieces at place past =
    left_at pieces at place ∙ ap (λ (ps : List Piece). left_of_piece ps at.offset) (drop_all at.piece pieces past)

-- else the next piece is due, or nothing
pub ready_there : (plan : Plan) (at : Place) (p : Piece) (sent now : ℕ) → IsPlace plan.pieces at → IsNext plan.pieces at
    → at.piece < length plan.pieces → p ≡ get_or plan.pieces at.piece p → is_ready plan at.taken sent now ≡ has_come p.at p.after now sent
ready_there plan at p sent now place next lt is =
    let more : drop at.piece plan.pieces ≡ p ∷ drop (at.piece + 1) plan.pieces =
    drop_more plan.pieces at.piece p lt ∙ ap (λ (q : Piece). q ∷ drop (at.piece + 1) plan.pieces) (sym is) in
    let inside : at.offset < length p.bytes = rw more at (next lt) in
    ap (λ (o : Option Piece). is_ready_with o plan.end now sent)
    (next_at plan.pieces at place ∙ ap (λ (ps : List Piece). next_piece ps at.offset) more ∙ next_here p (drop (at.piece + 1) plan.pieces) at.offset inside)

left_first : (pieces : List Piece) (offset : ℕ) → offset < length (first_bytes pieces) → left_of_piece pieces offset ≡ length (first_bytes pieces) - offset
left_first [] offset lt = omega arith
left_first (p ∷ pieces) offset lt = left_here p pieces offset lt

pub left_there : (pieces : List Piece) (at : Place) → IsPlace pieces at → IsNext pieces at → at.piece < length pieces
    → left_of_piece pieces at.taken ≡ length (first_bytes (drop at.piece pieces)) - at.offset
left_there pieces at place next lt = left_at pieces at place ∙ left_first (drop at.piece pieces) at.offset (next lt)

pub first_is : (pieces : List Piece) (piece : ℕ) (p : Piece) (bytes : List ℕ) → piece < length pieces → p ≡ get_or pieces piece p → bytes ≡ p.bytes
    → bytes ≡ first_bytes (drop piece pieces)
first_is pieces piece p bytes lt is same =
    same ∙ ap (λ (q : Piece). q.bytes) is ∙ sym (ap first_bytes (drop_more pieces piece p lt))

-- one more piece was taken whole
pub skips_one : (pieces : List Piece) (at : Place) (p : Piece) → at.piece < length pieces → length (get_or pieces at.piece p).bytes ≤ at.offset
    → IsPlace pieces at → IsPlace pieces (record { piece = at.piece + 1; offset = 0; taken = at.taken })
skips_one pieces at p lt past place =
    let more = drop_more pieces at.piece p lt in
    let inside : at.offset ≤ length (get_or pieces at.piece p).bytes = rw more at place.inside in
    let whole : planned (take (at.piece + 1) pieces) ≡ planned (take at.piece pieces) ++ (get_or pieces at.piece p).bytes =
    ap planned (take_more pieces at.piece p lt) ∙ flat_map-append (λ (q : Piece). q.bytes) (take at.piece pieces) (get_or pieces at.piece p ∷ [])
    ∙ ap (λ (xs : List ℕ). planned (take at.piece pieces) ++ xs) (append-nil (get_or pieces at.piece p).bytes) in
    record {
      ordered = omega arith;
      count = omega (arith, place.count, ap length whole, length-append (planned (take at.piece pieces)) (get_or pieces at.piece p).bytes, inside, past);
      inside = omega arith;
    }

planned_from : (pieces : List Piece) (offset : ℕ) → offset ≤ length (first_bytes pieces) → drop offset (planned pieces) ≡ drop offset (first_bytes pieces) ++ planned (drop 1 pieces)
planned_from [] offset le = sym (append-nil (drop offset []))
planned_from (p ∷ pieces) offset le = drop-append-le offset p.bytes (planned pieces) le

first_within : (pieces : List Piece) → length (first_bytes pieces) ≤ length (planned pieces)
first_within [] = omega arith
first_within (p ∷ pieces) = omega (arith, length-append p.bytes (planned pieces))

-- no more were taken than are planned
pub taken_within : (pieces : List Piece) (at : Place) → IsPlace pieces at → at.taken ≤ length (planned pieces)
taken_within pieces at place =
    let parts : planned pieces ≡ planned (take at.piece pieces) ++ planned (drop at.piece pieces) =
    ap planned (sym (take-append-drop at.piece pieces)) ∙ flat_map-append (λ (q : Piece). q.bytes) (take at.piece pieces) (drop at.piece pieces) in
    omega (arith, ap length parts, length-append (planned (take at.piece pieces)) (planned (drop at.piece pieces)), place.count, place.inside, first_within (drop at.piece pieces))

-- what comes next
at_place : (pieces : List Piece) (at : Place) → IsPlace pieces at
    → drop at.taken (planned pieces) ≡ drop at.offset (first_bytes (drop at.piece pieces)) ++ planned (drop 1 (drop at.piece pieces))
at_place pieces at place =
    let parts : planned pieces ≡ planned (take at.piece pieces) ++ planned (drop at.piece pieces) =
    ap planned (sym (take-append-drop at.piece pieces)) ∙ flat_map-append (λ (q : Piece). q.bytes) (take at.piece pieces) (drop at.piece pieces) in
    let there : drop (length (planned (take at.piece pieces))) (planned pieces) ≡ planned (drop at.piece pieces) =
    ap (drop (length (planned (take at.piece pieces)))) parts ∙ drop_at (planned (take at.piece pieces)) (planned (drop at.piece pieces)) _ refl in
    ap (λ (n : ℕ). drop n (planned pieces)) place.count ∙ sym (drop-drop at.offset (length (planned (take at.piece pieces))) (planned pieces))
    ∙ ap (drop at.offset) there ∙ planned_from (drop at.piece pieces) at.offset place.inside

-- n more bytes of the piece are given
pub gives_more : (pieces : List Piece) (at : Place) (n : ℕ) (into : List ℕ) → IsPlace pieces at
    → n ≤ length (first_bytes (drop at.piece pieces)) - at.offset → take n into ≡ take n (drop at.offset (first_bytes (drop at.piece pieces)))
    → take (at.taken + n) (planned pieces) ≡ take at.taken (planned pieces) ++ take n into
gives_more pieces at n into place le is =
    let next = at_place pieces at place in
    let fits : n ≤ length (drop at.offset (first_bytes (drop at.piece pieces))) = omega (arith, length-drop at.offset (first_bytes (drop at.piece pieces))) in
    let same : take n (drop at.taken (planned pieces)) ≡ take n (drop at.offset (first_bytes (drop at.piece pieces))) =
    ap (take n) next ∙ take-append-le n (drop at.offset (first_bytes (drop at.piece pieces))) (planned (drop 1 (drop at.piece pieces))) fits in
    sym (ap (λ (xs : List ℕ). take at.taken (planned pieces) ++ xs) (is ∙ sym same) ∙ take_add (planned pieces) at.taken n)

pub still_within : (pieces : List Piece) (at : Place) (n : ℕ) → IsPlace pieces at
    → n ≤ length (first_bytes (drop at.piece pieces)) - at.offset → at.taken + n ≤ length (planned pieces)
still_within pieces at n place le =
    omega (arith, taken_within pieces at place, ap length (at_place pieces at place), length-drop at.taken (planned pieces), length-append (drop at.offset (first_bytes (drop at.piece pieces))) (planned (drop 1 (drop at.piece pieces))), length-drop at.offset (first_bytes (drop at.piece pieces)), place.inside)

-- past the last piece all was taken
pub all_taken : (pieces : List Piece) (at : Place) → IsPlace pieces at → length pieces ≤ at.piece → at.taken ≡ length (planned pieces)
all_taken pieces at place past =
    let none : at.offset ≤ 0 = rw (drop_all at.piece pieces past) at place.inside in
    omega (arith, place.count, none, ap (λ (ps : List Piece). length (planned ps)) (take_all at.piece pieces past))

-- an end that is due is there
pub has_end : (end : Option (Millis × ℕ)) (sent now : ℕ) → end_has_come end now sent ≡ true → IsSome end
has_end None sent now due = cc
has_end (Some end) sent now due = search rules
