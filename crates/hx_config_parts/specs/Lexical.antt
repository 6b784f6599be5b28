-- The lines of a text, and the words of a line (HAProxy 2.4 Configuration Manual, section 2.1).
use Rattle.std.specs.Prelude.{ℕ, Bool, true, false, ◌&&◌, ◌||◌, not, List, [], ◌∷◌, Result, Ok, Err, if◌then◌else◌, ◌==◌, nat_le, ⊤}
use Rattle.std.specs.List.{list_all}
use Rattle.hx_config_parts.specs.Faults.{◌>>=◌}
use Rattle.hx_config_parts.specs.declared.fault.Rule.{Rule}
use Rattle.hx_config_parts.specs.declared.fault.Rule.TheVariants.{NotAscii, UnknownWord, MissingValue}

-- x at the front of the first list
abbrev pub on_first : ℕ → List (List ℕ) → List (List ℕ)
on_first x [] = (x ∷ []) ∷ []
on_first x (l ∷ ls) = (x ∷ l) ∷ ls

-- a line feed stands at the front
abbrev pub ends_line : List ℕ → Bool
ends_line [] = false
ends_line (b ∷ bs) = b == 10

-- a byte that does not end a line
abbrev pub is_kept : ℕ → Bool
is_kept b = not (b == 10)

-- a line without a carriage return at its end
abbrev pub without_return : List ℕ → List ℕ
without_return [] = []
without_return (b ∷ []) = if b == 13 then [] else b ∷ []
without_return (b ∷ c ∷ bs) = b ∷ without_return (c ∷ bs)

-- the lines of a text: each line feed ends one, with a carriage return before it; the last may lack its line feed
unfoldable pub lines_of : List ℕ → List (List ℕ)
lines_of [] = []
lines_of (b ∷ bs) =
    if b == 10 then [] ∷ lines_of bs else if b == 13 && ends_line bs then lines_of bs else on_first b (lines_of bs)

-- a blank or a tab
abbrev pub is_blank : ℕ → Bool
is_blank b = b == 32 || b == 9

-- a blank or a tab stands at the front
abbrev pub begins_blank : List ℕ → Bool
begins_blank [] = false
begins_blank (b ∷ bs) = is_blank b

-- a byte of a word: no blank, no tab, and not the beginning of a comment
abbrev pub is_inside : ℕ → Bool
is_inside b = not (is_blank b) && not (b == 35)

-- a byte of a word stands at the front
abbrev pub goes_on : List ℕ → Bool
goes_on [] = false
goes_on (b ∷ bs) = is_inside b

-- the words of a line: the longest parts without blanks and tabs before its first `#`
unfoldable pub words_of : List ℕ → List (List ℕ)
words_of [] = []
words_of (b ∷ bs) =
    if b == 35 then [] else if is_blank b then words_of bs else if goes_on bs then on_first b (words_of bs) else (b ∷ []) ∷ words_of bs

-- printable ASCII
abbrev pub is_printable : ℕ → Bool
is_printable b = nat_le 33 b && nat_le b 126

-- a word of printable ASCII alone
abbrev pub is_ascii : List ℕ → Bool
is_ascii word = list_all is_printable word

-- the line has no words
abbrev pub no_words : List (List ℕ) → Bool
no_words [] = true
no_words (w ∷ ws) = false

-- a word of printable ASCII
abbrev pub ascii_word : List ℕ → Result (List ℕ) Rule
ascii_word w = if is_ascii w then Ok w else Err NotAscii

-- what was read, and the words after it
abbrev pub with_rest : {A : Type 0} → List (List ℕ) → Result A Rule → Result (A × List (List ℕ)) Rule
with_rest ws (Ok x) = Ok (x, ws)
with_rest ws (Err e) = Err e

-- the next word, and the words after it
abbrev pub word_at : List (List ℕ) → Result (List ℕ × List (List ℕ)) Rule
word_at [] = Err MissingValue
word_at (w ∷ ws) = with_rest ws (ascii_word w)

-- no word is left
abbrev pub at_end : List (List ℕ) → Result ⊤ Rule
at_end [] = Ok tt
at_end (w ∷ ws) = do
  x ← ascii_word w
  Err UnknownWord
