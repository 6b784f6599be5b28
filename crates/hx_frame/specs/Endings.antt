-- Private: which bytes end a body in chunks from where a reader of it stands (RFC 9112, section 7.1).
use Rattle.std.specs.Prelude.{◌≡◌, ◌⊎◌, ℕ, ◌+◌, ◌<◌, ◌≤◌, List, [], ◌∷◌, ◌++◌, length, All}
use Rattle.std.specs.Char.{is_ascii_hexdigit}
use Rattle.std.specs.Str.Parse.{digits_value_after}
use Rattle.httparse.specs.Ascii.{line_feed, crlf_bytes}
use Rattle.httparse.specs.Grammar.{AllPass}
use Rattle.hx_message.specs.Chunked.{is_extension_byte, IsExtension, is_trailer_byte, IsTrailer, print_trailers, ChunkedBody, IsChunkedBody, print_chunked}
use Rattle.hx_frame.specs.declared.state.ChunkState.{ChunkState}
use Rattle.hx_frame.specs.declared.state.ChunkState.TheVariants.{Start, Size, Extension, SizeEnd, Data, DataEnd, TrailerStart, Trailer, TrailerEnd, LastEnd, Done, Bad}

-- a whole body
abbrev pub IsWhole : List ℕ → Type 0
IsWhole bytes = (b : ChunkedBody) × IsChunkedBody b × (bytes ≡ print_chunked b)

-- trailer lines and the empty line, where the lines have room
pub record AreTrailers (room : ℕ) (bytes : List ℕ) : Type 0 where
  pub lines : List (List ℕ)
  pub trailers : All IsTrailer lines
  pub short : length (print_trailers lines) ≤ room + 2
  pub text : bytes ≡ print_trailers lines

-- the rest of a trailer line, and what follows it
pub record EndsTrailer (room : ℕ) (bytes : List ℕ) : Type 0 where
  pub line : List ℕ
  pub passes : AllPass is_trailer_byte line
  pub lines : List (List ℕ)
  pub trailers : All IsTrailer lines
  pub short : length line + length (print_trailers lines) ≤ room + 2
  pub text : bytes ≡ line ++ crlf_bytes ++ print_trailers lines

-- so many bytes of data, and what follows them
pub record EndsData (left : ℕ) (bytes : List ℕ) : Type 0 where
  pub content : List ℕ
  pub rest : List ℕ
  pub sized : length content ≡ left
  pub text : bytes ≡ content ++ crlf_bytes ++ rest
  pub whole : IsWhole rest

-- what follows a size line
abbrev pub FollowsLine : ℕ → List ℕ → Type 0
FollowsLine size bytes = ((size ≡ 0) × AreTrailers 16382 bytes) ⊎ ((0 < size) × EndsData size bytes)

-- the rest of an extension, and what follows its line
pub record EndsExtension (size room : ℕ) (bytes : List ℕ) : Type 0 where
  pub extension : List ℕ
  pub passes : AllPass is_extension_byte extension
  pub short : length extension ≤ room
  pub rest : List ℕ
  pub text : bytes ≡ extension ++ crlf_bytes ++ rest
  pub follows : FollowsLine size rest

-- the rest of a size's digits, an extension, and what follows their line
pub record EndsDigits (size room : ℕ) (bytes : List ℕ) : Type 0 where
  pub digits : List ℕ
  pub extension : List ℕ
  pub hexadecimal : AllPass is_ascii_hexdigit digits
  pub few : length digits ≤ room
  pub is_extension : IsExtension extension
  pub short : length digits + length extension ≤ 4078 + room
  pub rest : List ℕ
  pub text : bytes ≡ digits ++ extension ++ crlf_bytes ++ rest
  pub follows : FollowsLine (digits_value_after 16 size digits) rest

-- the bytes end the body
abbrev pub EndsChunks : ChunkState → List ℕ → Type 0
EndsChunks Start bytes = IsWhole bytes
EndsChunks (Size size room) bytes = EndsDigits size room bytes
EndsChunks (Extension size room) bytes = EndsExtension size room bytes
EndsChunks (SizeEnd size) bytes = (rest : List ℕ) × (bytes ≡ line_feed ∷ rest) × FollowsLine size rest
EndsChunks (Data left) bytes = EndsData left bytes
EndsChunks DataEnd bytes = (rest : List ℕ) × (bytes ≡ line_feed ∷ rest) × IsWhole rest
EndsChunks (TrailerStart room) bytes = AreTrailers room bytes
EndsChunks (Trailer room) bytes = EndsTrailer room bytes
EndsChunks (TrailerEnd room) bytes = (rest : List ℕ) × (bytes ≡ line_feed ∷ rest) × AreTrailers room rest
EndsChunks LastEnd bytes = bytes ≡ line_feed ∷ []
EndsChunks Done bytes = bytes ≡ []
EndsChunks Bad bytes = ⊥
