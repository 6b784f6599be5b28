-- The words of a line.
use Rattle.std.specs.Prelude.{ℕ, not, List, [], ◌∷◌, take, drop, Some, None, Result, Ok, Err, ⊤, if◌then◌else◌, ◌==◌, bytes_eq}
use Rattle.std.specs.List.{prefix_len}
pub use Rattle.hx_script_parts.specs.Lexical.{Rest, is_inside, behind_word}
use Rattle.hx_transcripts_parts.specs.declared.fault.Rule.{Rule}
use Rattle.hx_transcripts_parts.specs.declared.fault.Rule.TheVariants.{BadLine, BadText}
use Rattle.hx_transcripts_parts.specs.Faults.{◌>>=◌, unless}
use Rattle.hx_transcripts_parts.specs.Spelling.{spelled_at}

-- the text of what is left of a line: a blank stands before the next word
abbrev pub rest_text : Rest → List ℕ
rest_text None = []
rest_text (Some bs) = 32 ∷ bs

-- the next word, which may be empty, and what is left behind it
abbrev pub word_at : Rest → Result (List ℕ × Rest) Rule
word_at None = Err BadLine
word_at (Some bs) = let n = prefix_len is_inside bs in Ok (take n bs, behind_word (drop n bs))

-- what the next word is read as, and what is left behind it
abbrev pub read_word : {X : Type 0} → (List ℕ → Result X Rule) → Rest → Result (X × Rest) Rule
read_word read ws = do
  w ← word_at ws
  x ← read w.0
  Ok (x, w.1)

-- the one word that may stand here
abbrev pub is_word : List ℕ → List ℕ → Result ⊤ Rule
is_word expected w = unless (not (bytes_eq w expected)) BadLine

-- behind the closing quote: the end of the line, or one blank and the next word
abbrev pub behind_text : List ℕ → List ℕ → Result (List ℕ × Rest) Rule
behind_text bytes [] = Ok (bytes, None)
behind_text bytes (b ∷ bs) = if b == 32 then Ok (bytes, Some bs) else Err BadText

-- the bytes of the byte text that stands next, in its one spelling, and what is left behind it
abbrev pub text_at : Rest → Result (List ℕ × Rest) Rule
text_at None = Err BadLine
text_at (Some bs) = do
  x ← spelled_at bs
  behind_text x.0 x.1

-- no word is left
abbrev pub at_end : Rest → Result ⊤ Rule
at_end None = Ok tt
at_end (Some bs) = Err BadLine
