-- What a text means: the configuration, links, orders and moments that its lines say; or its first fault.
use Rattle.std.specs.Prelude.{ℕ, ◌+◌, not, List, [], ◌∷◌, length, Option, Some, None, Result, Ok, Err, if◌then◌else◌, nat_lt, bytes_eq, codes}
use Rattle.hx_base.specs.declared.numbers.Millis.{Millis}
use Rattle.hx_base.specs.declared.order.Order.{Order}
use Rattle.hx_config_parts.specs.Faults.{code_of}
use Rattle.hx_config.specs.Meaning as config
use Rattle.hx_config_parts.specs.declared.fault.Flaw as config_fault
use Rattle.hx_base.specs.declared.plan.Plan.{Plan}
use Rattle.hx_script_parts.specs.declared.fault.Rule.{Rule}
use Rattle.hx_script_parts.specs.declared.fault.Rule.TheVariants.{BadFirstLine, BadLine, TooLong}
use Rattle.hx_script_parts.specs.declared.fault.Flaw.{Flaw}
use Rattle.hx_script_parts.specs.declared.fault.Flaw.TheVariants as flaw
use Rattle.hx_script_parts.specs.declared.reading.Reading.{Reading}
use Rattle.hx_script_parts.specs.declared.script.ClientLine.{ClientLine}
use Rattle.hx_script_parts.specs.Faults.{◌>>=◌, unless, located}
use Rattle.hx_script_parts.specs.Lexical.{Rest, lines_of, first_line, behind, in_front, word_at, at_end}
pub use Rattle.hx_script_parts.specs.Limits.{longest_text}
use Rattle.hx_script_parts.specs.Numbers.{greatest, number_at}
use Rattle.hx_script_parts.specs.Reading.{nothing_read, closed, with_moment, as_moments}
use Rattle.hx_script_parts.specs.Statements.{line_read}

-- what a script says
pub record Meaning : Type 0 where
  pub config : config.Meaning
  pub clients : List ClientLine
  pub plans : List Plan
  pub orders : List (Millis × Order)
  pub moments : List Millis

-- what stands behind a first line of this format and version
abbrev pub begun : Option (List ℕ × List ℕ) → Result (List ℕ) Flaw
begun None = Err (flaw.Line 1 BadFirstLine)
begun (Some x) = if bytes_eq x.0 (codes "hx-script 1") then Ok x.1 else Err (flaw.Line 1 BadFirstLine)

-- what stands behind the first line, which is `hx-script 1`
abbrev pub behind_first : List ℕ → Result (List ℕ) Flaw
behind_first text = begun (first_line text)

-- `config <n>`
abbrev pub config_line : Rest → Result ℕ Rule
config_line ws = do
  x ← word_at ws
  same ← unless (not (bytes_eq x.0 (codes "config"))) BadLine
  n ← number_at 0 greatest x.1
  e ← at_end n.1
  Ok n.0

-- the number that the second line says, and what stands behind that line
abbrev pub counted : Option (List ℕ × List ℕ) → Result (ℕ × List ℕ) Flaw
counted None = Err (flaw.Line 2 BadLine)
counted (Some x) = do
  n ← located 2 (config_line (Some x.0))
  Ok (n, x.1)

-- how many lines the configuration has, and what stands behind the second line, which says it
abbrev pub behind_second : List ℕ → Result (ℕ × List ℕ) Flaw
behind_second text = counted (first_line text)

-- the meaning of a configuration, or its own fault
abbrev pub configured : Result config.Meaning config_fault.Flaw → Result config.Meaning Flaw
configured (Ok c) = Ok c
configured (Err f) = Err (flaw.Config f.line (code_of f.rule))

-- the configuration that the text is up to its rest, and the rest
abbrev pub cut : List ℕ → Option (List ℕ) → Result (config.Meaning × List ℕ) Flaw
cut text None = Err (flaw.Line 2 BadLine)
cut text (Some rest) = do
  c ← configured (config.meaning_of (in_front rest text))
  Ok (c, rest)

-- the configuration, which the first n lines are, and what stands behind it
abbrev pub behind_config : ℕ → List ℕ → Result (config.Meaning × List ℕ) Flaw
behind_config n text = cut text (behind n text)

-- what is read behind the lines, the first of which has this number
unfoldable pub lines_read : config.Meaning → ℕ → Reading → List (List ℕ) → Result Reading Flaw
lines_read c line r [] = Ok r
lines_read c line r (l ∷ ls) = located line (line_read c line r l) >>= λ s. lines_read c (line + 1) s ls

-- the meaning of what was read, where the last link is over
abbrev pub meaning_with : config.Meaning → Reading → Meaning
meaning_with c r = record {
  config = c;
  clients = r.clients;
  plans = r.plans;
  orders = r.orders;
  moments = as_moments (with_moment (record { 0 = 0 }) r.moments);
}

-- what the lines behind the configuration mean: n is how many lines it has
abbrev pub lines_meant : ℕ → config.Meaning × List ℕ → Result Meaning Flaw
lines_meant n x = do
  r ← lines_read x.0 (n + 3) nothing_read (lines_of x.1)
  Ok (meaning_with x.0 (closed r))

-- the meaning of a text, or its first fault
unfoldable pub meaning_of : List ℕ → Result Meaning Flaw
meaning_of text =
    if nat_lt longest_text (length text) then Err (flaw.Line 1 TooLong) else do
      rest ← behind_first text
      n ← behind_second rest
      c ← behind_config n.0 n.1
      lines_meant n.0 c
