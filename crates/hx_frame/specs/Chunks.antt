-- Private: a body in chunks as a machine that reads one byte at a time (RFC 9112, section 7.1).
use Rattle.std.specs.Prelude.{ℕ, ◌+◌, ◌-◌, ◌*◌, ◌^◌, Bool, true, false, ◌&&◌, ◌||◌, List, [], ◌∷◌, if◌then◌else◌, ◌==◌, nat_lt, nat_le}
use Rattle.std.specs.Char.{is_ascii_hexdigit, digit_value}
use Rattle.httparse.specs.Ascii.{tab, line_feed, carriage_return, space, semicolon}
use Rattle.hx_message.specs.Chunked as message
use Rattle.hx_frame.specs.declared.state.ChunkState.{ChunkState}
use Rattle.hx_frame.specs.declared.state.ChunksRead.{ChunksRead}
use Rattle.hx_frame.specs.declared.state.ChunkState.TheVariants.{Start, Size, Extension, SizeEnd, Data, DataEnd, TrailerStart, Trailer, TrailerEnd, LastEnd, Done, Bad}

-- the byte wanted leads on
abbrev pub expect : ℕ → ℕ → ChunkState → ChunkState
expect b wanted next = if b == wanted then next else Bad

-- a size line begins with a digit
abbrev pub first_digit : ℕ → ChunkState
first_digit b = if is_ascii_hexdigit b then Size (digit_value b) 15 else Bad

-- an extension begins with a semicolon or white space
abbrev pub is_extension_front : ℕ → Bool
is_extension_front b = b == semicolon || b == space || b == tab

-- behind the digits comes an extension or the line's end
abbrev pub after_digits : ℕ → ℕ → ℕ → ChunkState
after_digits size room b =
    if b == carriage_return then SizeEnd size
    else if is_extension_front b then Extension size (4077 + room) else Bad

-- among the digits of a size, with room for so many more
abbrev pub in_size : ℕ → ℕ → ℕ → ChunkState
in_size size room b =
    if is_ascii_hexdigit b
    then if room == 0 then Bad else Size (size * 16 + digit_value b) (room - 1)
    else after_digits size room b

-- in the extension behind a size, with room for so many more bytes
abbrev pub in_extension : ℕ → ℕ → ℕ → ChunkState
in_extension size room b =
    if b == carriage_return then SizeEnd size
    else if message.is_extension_byte b && nat_lt 0 room then Extension size (room - 1) else Bad

-- a size of nothing ends the chunks
abbrev pub after_line : ℕ → ChunkState
after_line size = if size == 0 then TrailerStart 16382 else Data size

-- in data of which so many bytes are left, and then behind it
abbrev pub in_data : ℕ → ℕ → ChunkState
in_data left b = if nat_lt 0 left then Data (left - 1) else expect b carriage_return DataEnd

-- at the front of a trailer line or of the empty line
abbrev pub at_trailer : ℕ → ℕ → ChunkState
at_trailer room b =
    if b == carriage_return then LastEnd
    else if message.is_trailer_byte b && nat_le 3 room then Trailer (room - 3) else Bad

-- in a trailer line, with room for so many more bytes
abbrev pub in_trailer : ℕ → ℕ → ChunkState
in_trailer room b =
    if b == carriage_return then TrailerEnd room
    else if message.is_trailer_byte b && nat_lt 0 room then Trailer (room - 1) else Bad

-- the state after one more byte
abbrev pub step : ChunkState → ℕ → ChunkState
step Start b = first_digit b
step (Size size room) b = in_size size room b
step (Extension size room) b = in_extension size room b
step (SizeEnd size) b = expect b line_feed (after_line size)
step (Data left) b = in_data left b
step DataEnd b = expect b line_feed Start
step (TrailerStart room) b = at_trailer room b
step (Trailer room) b = in_trailer room b
step (TrailerEnd room) b = expect b line_feed (TrailerStart room)
step LastEnd b = expect b line_feed Done
step Done b = Bad
step Bad b = Bad

-- the value of the digits fits, with the room left to sixteen
abbrev pub is_small : ChunkState → Bool
is_small Start = true
is_small (Size size room) = nat_le room 15 && nat_lt size (16 ^ (16 - room))
is_small (Extension size room) = true
is_small (SizeEnd size) = true
is_small (Data left) = true
is_small DataEnd = true
is_small (TrailerStart room) = true
is_small (Trailer room) = true
is_small (TrailerEnd room) = true
is_small LastEnd = true
is_small Done = true
is_small Bad = true

-- the body ended, or no body can follow
abbrev pub is_over : ChunkState → Bool
is_over Start = false
is_over (Size size room) = false
is_over (Extension size room) = false
is_over (SizeEnd size) = false
is_over (Data left) = false
is_over DataEnd = false
is_over (TrailerStart room) = false
is_over (Trailer room) = false
is_over (TrailerEnd room) = false
is_over LastEnd = false
is_over Done = true
is_over Bad = true

-- no body can follow
abbrev pub is_bad : ChunkState → Bool
is_bad Start = false
is_bad (Size size room) = false
is_bad (Extension size room) = false
is_bad (SizeEnd size) = false
is_bad (Data left) = false
is_bad DataEnd = false
is_bad (TrailerStart room) = false
is_bad (Trailer room) = false
is_bad (TrailerEnd room) = false
is_bad LastEnd = false
is_bad Done = false
is_bad Bad = true

-- so many bytes were used, and that state reached
abbrev pub chunks_read : ℕ → ChunkState → ChunksRead
chunks_read used s = record { used = used; state = s }

-- where reading ends, by whether it was over before, whether the next byte is bad, and where it ends behind that byte
abbrev pub read_on : Bool → Bool → ChunkState → ChunksRead → ChunksRead
read_on true bad s later = chunks_read 0 s
read_on false true s later = chunks_read 0 Bad
read_on false false s later = chunks_read (later.used + 1) later.state

-- reading of bytes, up to the end of the body or to the first bad byte
unfoldable pub read_chunks : ChunkState → List ℕ → ChunksRead
read_chunks s [] = chunks_read 0 s
read_chunks s (b ∷ bs) = read_on (is_over s) (is_bad (step s b)) s (read_chunks (step s b) bs)

-- the same with bytes used before
abbrev pub used_before : ℕ → ChunksRead → ChunksRead
used_before n r = chunks_read (n + r.used) r.state
