-- What a plan lets a link in memory give, and when.
use Rattle.std.specs.Prelude.{ℕ, ◌-◌, Bool, false, ◌&&◌, List, [], ◌∷◌, length, Option, Some, None, nat_le, nat_lt, if◌then◌else◌, min}
use Rattle.std.specs.List.{flat_map}
use Rattle.hx_base.specs.declared.numbers.Millis.{Millis}
use Rattle.hx_base.specs.declared.plan.Piece.{Piece}
use Rattle.hx_base.specs.declared.plan.Plan.{Plan}

-- all the bytes of the pieces, in order
abbrev pub planned : List Piece → List ℕ
planned pieces = flat_map (λ p. p.bytes) pieces

-- the piece from which the next byte comes, where so many bytes of all were taken; one without bytes counts as taken
abbrev pub next_piece : List Piece → ℕ → Option Piece
next_piece [] taken = None
next_piece (p ∷ pieces) taken =
    if nat_lt taken (length p.bytes) then Some p else next_piece pieces (taken - length p.bytes)

-- how many bytes that piece has left
abbrev pub left_of_piece : List Piece → ℕ → ℕ
left_of_piece [] taken = 0
left_of_piece (p ∷ pieces) taken =
    if nat_lt taken (length p.bytes) then length p.bytes - taken else left_of_piece pieces (taken - length p.bytes)

-- the moment has come, and enough was sent
abbrev pub has_come : Millis → ℕ → ℕ → ℕ → Bool
has_come at after now sent = nat_le at.0 now && nat_le after sent

-- the plan has an end, and it is due
abbrev pub end_has_come : Option (Millis × ℕ) → ℕ → ℕ → Bool
end_has_come None now sent = false
end_has_come (Some end) now sent = has_come end.0 end.1 now sent

-- the next piece has come, or there is none and the end has come
abbrev pub is_ready_with : Option Piece → Option (Millis × ℕ) → ℕ → ℕ → Bool
is_ready_with None end now sent = end_has_come end now sent
is_ready_with (Some p) end now sent = has_come p.at p.after now sent

-- a read at the moment has something to give or an end to tell, where so many bytes were taken and sent
abbrev pub is_ready : Plan → ℕ → ℕ → ℕ → Bool
is_ready plan taken sent now = is_ready_with (next_piece plan.pieces taken) plan.end now sent

-- the call of this number, counted from 1, fails
abbrev pub fails_at : Option ℕ → ℕ → Bool
fails_at None call = false
fails_at (Some first) call = nat_le first call

-- how many of so many bytes a write takes
abbrev pub room_in : Option ℕ → ℕ → ℕ
room_in None count = count
room_in (Some room) count = min room count
