-- A body in chunks (RFC 9112, section 7.1), with at most sixteen digits in a size, an extension of any
-- printable text, trailer lines of any text, and bounds on the size lines and on the trailer section.
use Rattle.std.specs.Prelude.{◌≡◌, ℕ, ◌+◌, ◌<◌, ◌≤◌, ◌⊎◌, Bool, ◌&&◌, ◌||◌, not, List, [], ◌∷◌, ◌++◌, length, ◌==◌, nat_le, All, ⊤}
use Rattle.std.specs.List.{flat_map}
use Rattle.std.specs.Char.{is_ascii_hexdigit}
use Rattle.std.specs.Str.Parse.{digits_value}
use Rattle.httparse.specs.Ascii.{tab, line_feed, carriage_return, space, semicolon, digit_zero, crlf_bytes}
use Rattle.httparse.specs.Grammar.{AllPass}

-- the most digits of a size, bytes of a size line with its end, and bytes of a trailer section
abbrev pub most_digits : ℕ
most_digits = 16

-- the most bytes of a size line
abbrev pub most_size_line : ℕ
most_size_line = 4096

-- the most bytes of a trailer section
abbrev pub most_trailers : ℕ
most_trailers = 16384

-- a tab, a visible byte or a blank, or a byte past ASCII
abbrev pub is_extension_byte : ℕ → Bool
is_extension_byte b = b == tab || (nat_le 32 b && nat_le b 126) || (nat_le 128 b && nat_le b 255)

-- nothing, or a semicolon, a blank or a tab and then text
abbrev pub IsExtension : List ℕ → Type 0
IsExtension [] = ⊤
IsExtension (b ∷ bytes) = ((b ≡ semicolon) ⊎ (b ≡ space) ⊎ (b ≡ tab)) × AllPass is_extension_byte bytes

-- digits and an extension that make a size line, which ends in CR LF
abbrev pub IsSizeLine : List ℕ → List ℕ → Type 0
IsSizeLine digits extension =
    (0 < length digits) × (length digits ≤ most_digits) × IsExtension extension
    × (length digits + length extension + 2 ≤ most_size_line)

-- one chunk with its size line
pub record Chunk : Type 0 where
  pub digits : List ℕ
  pub extension : List ℕ
  pub content : List ℕ

-- a chunk has as many bytes as its size says, and at least one
pub record IsChunk (c : Chunk) : Type 0 where
  pub line : IsSizeLine c.digits c.extension
  pub digits : AllPass is_ascii_hexdigit c.digits
  pub some : 0 < digits_value 16 c.digits
  pub content : length c.content ≡ digits_value 16 c.digits

-- the bytes of a chunk
abbrev pub print_chunk : Chunk → List ℕ
print_chunk c = c.digits ++ c.extension ++ crlf_bytes ++ c.content ++ crlf_bytes

-- a byte that may stand in a trailer line
abbrev pub is_trailer_byte : ℕ → Bool
is_trailer_byte b = not (b == carriage_return || b == line_feed || b == 0)

-- a trailer line
abbrev pub IsTrailer : List ℕ → Type 0
IsTrailer line = (0 < length line) × AllPass is_trailer_byte line

-- the trailer lines and the empty line that ends the body
abbrev pub print_trailers : List (List ℕ) → List ℕ
print_trailers lines = flat_map (λ line. line ++ crlf_bytes) lines ++ crlf_bytes

-- the chunks, the size line of the last chunk, and the trailer lines
pub record ChunkedBody : Type 0 where
  pub chunks : List Chunk
  pub zeros : List ℕ
  pub extension : List ℕ
  pub trailers : List (List ℕ)

-- each part of the body is of its form, and the limits are kept
pub record IsChunkedBody (b : ChunkedBody) : Type 0 where
  pub chunks : All IsChunk b.chunks
  pub last : IsSizeLine b.zeros b.extension
  pub zeros : AllPass (λ d. d == digit_zero) b.zeros
  pub trailers : All IsTrailer b.trailers
  pub short : length (print_trailers b.trailers) ≤ most_trailers

-- the bytes of a body in chunks
unfoldable pub print_chunked : ChunkedBody → List ℕ
print_chunked b =
    flat_map print_chunk b.chunks ++ b.zeros ++ b.extension ++ crlf_bytes ++ print_trailers b.trailers
