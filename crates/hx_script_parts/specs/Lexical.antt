-- The lines of a text, and the words of a line.
use Rattle.std.specs.Prelude.{ℕ, zero, suc, ◌+◌, ◌-◌, Bool, not, List, [], ◌∷◌, length, take, drop, Option, Some, None, Result, Ok, Err, ⊤, if◌then◌else◌, ◌==◌}
use Rattle.std.specs.List.{prefix_len}
pub use Rattle.hx_config_parts.specs.Lexical.{on_first, is_kept}
use Rattle.hx_script_parts.specs.declared.fault.Rule.{Rule}
use Rattle.hx_script_parts.specs.declared.fault.Rule.TheVariants.{BadLine, BadText}
use Rattle.hx_script_parts.specs.QuotedReading.{quoted_at}

-- the lines of a text: each line feed ends one; the last may lack it
unfoldable pub lines_of : List ℕ → List (List ℕ)
lines_of [] = []
lines_of (b ∷ bs) = if b == 10 then [] ∷ lines_of bs else on_first b (lines_of bs)

-- the first line, and what stands behind its line feed
abbrev pub first_line : List ℕ → Option (List ℕ × List ℕ)
first_line [] = None
first_line (b ∷ bs) = let n = prefix_len is_kept (b ∷ bs) in Some (take n (b ∷ bs), drop (n + 1) (b ∷ bs))

-- what comes behind the first line, where there is one
abbrev pub past_line : Option (List ℕ × List ℕ) → (List ℕ → Option (List ℕ)) → Option (List ℕ)
past_line None go = None
past_line (Some x) go = go x.1

-- what stands behind the first n lines, where there are so many
unfoldable pub behind : ℕ → List ℕ → Option (List ℕ)
behind zero text = Some text
behind (suc n) text = past_line (first_line text) (λ rest. behind n rest)

-- what stands before the rest of a text
abbrev pub in_front : List ℕ → List ℕ → List ℕ
in_front rest text = take (length text - length rest) text

-- what is left of a line: nothing at its end, or all from the next word on
abbrev pub Rest : Type 0
Rest = Option (List ℕ)

-- a byte of a word
abbrev pub is_inside : ℕ → Bool
is_inside b = not (b == 32)

-- behind a word: the end of the line, or one blank and the next word
abbrev pub behind_word : List ℕ → Rest
behind_word [] = None
behind_word (b ∷ bs) = Some bs

-- the next word, which may be empty, and what is left behind it
abbrev pub word_at : Rest → Result (List ℕ × Rest) Rule
word_at None = Err BadLine
word_at (Some bs) = let n = prefix_len is_inside bs in Ok (take n bs, behind_word (drop n bs))

-- behind the closing quote: the end of the line, or one blank and the next word
abbrev pub behind_text : List ℕ → List ℕ → Result (List ℕ × Rest) Rule
behind_text bytes [] = Ok (bytes, None)
behind_text bytes (b ∷ bs) = if b == 32 then Ok (bytes, Some bs) else Err BadText

-- the byte text that was read, and what is left behind it
abbrev pub read_text : Option (List ℕ × List ℕ) → Result (List ℕ × Rest) Rule
read_text None = Err BadText
read_text (Some x) = behind_text x.0 x.1

-- the bytes of the byte text that stands next, and what is left behind it
abbrev pub text_at : Rest → Result (List ℕ × Rest) Rule
text_at None = Err BadLine
text_at (Some bs) = read_text (quoted_at bs)

-- no word is left
abbrev pub at_end : Rest → Result ⊤ Rule
at_end None = Ok tt
at_end (Some bs) = Err BadLine
