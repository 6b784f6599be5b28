-- What reading back means for the lines of marks and of servers.
use Rattle.std.specs.Prelude.{◌≡◌, ℕ, ◌≤◌, List, ◌++◌, Option, Some, None, Ok, codes, ⊤}
use Rattle.hx_base.specs.declared.rules.PoolRules.{PoolRules}
use Rattle.hx_pool.specs.declared.entries.Entry.{Entry}
use Rattle.hx_pool.specs.declared.entries.Entry.TheVariants as entry
use Rattle.hx_script.specs.MarkLines.{mark_line, mode_text, max_text}
use Rattle.hx_script.specs.PrintedForm.{IsToldMark}
use Rattle.std.specs.Prelude.{decimal}
use Rattle.hx_transcripts_parts.specs.declared.keywords.MarkWord.{MarkWord}
use Rattle.hx_transcripts_parts.specs.declared.keywords.MarkWord.TheVariants as mark
use Rattle.hx_transcripts_parts.specs.Lexical.{Rest, rest_text}
use Rattle.hx_transcripts_parts.specs.Marks.{mark_at}
use Rattle.hx_transcripts_parts.specs.Numbers.{most_8, most_16, most_32, most_64}
use Rattle.hx_transcripts_parts.specs.ReadBack.{FitsWho, FitsPlace}

-- the word of a kind of mark
abbrev pub mark_text : MarkWord → List ℕ
mark_text mark.Open = codes "open"
mark_text mark.Park = codes "park"
mark_text mark.Take = codes "take"
mark_text mark.Close = codes "close"
mark_text mark.Gate = codes "gate"
mark_text mark.Round = codes "round"

-- the numbers of a mark are as large as their types hold
abbrev pub FitsMark : Entry → Type 0
FitsMark (entry.Open t n id) = FitsWho (t, n) × (id.0 ≤ most_64)
FitsMark (entry.Park t n id place uses) = FitsWho (t, n) × (id.0 ≤ most_64) × FitsPlace place × (uses ≤ most_16)
FitsMark (entry.Take t n first place id uses) = FitsWho (t, n) × (id.0 ≤ most_64) × FitsPlace place × (uses ≤ most_16)
FitsMark (entry.Close t n id) = FitsWho (t, n) × (id.0 ≤ most_64)
FitsMark (entry.SetGate t draining) = t.0 ≤ most_8
FitsMark (entry.Round t k old) = (t.0 ≤ most_8) × (k ≤ most_64) × (old ≤ most_64)
FitsMark _ = ⊤

-- what is left of a line behind its first word, and that word, are the line of the mark
pub record IsMarkLine (first : MarkWord) (ws : Rest) (m : Entry) : Type 0 where
  pub told : IsToldMark m
  pub fits : FitsMark m
  pub line : mark_line m ≡ mark_text first ++ rest_text ws ++ codes "\n"

-- the mark is read from its line
pub record IsMarkRead (m : Entry) : Type 0 where
  pub first : MarkWord
  pub ws : Rest
  pub line : mark_line m ≡ mark_text first ++ rest_text ws ++ codes "\n"
  pub read : mark_at first ws ≡ Ok m

-- what is left of a server's line behind its name
abbrev pub rules_text : PoolRules → List ℕ
rules_text r =
    codes " " ++ mode_text r.mode ++ codes " " ++ max_text r.max ++ codes " " ++ decimal r.low
    ++ codes " " ++ decimal r.delay.0

-- no limit fits, and a limit of 32 bits
abbrev pub FitsMax : Option ℕ → Type 0
FitsMax None = ⊤
FitsMax (Some n) = n ≤ most_32

-- the numbers of the rules are as large as their types hold
abbrev pub FitsRules : PoolRules → Type 0
FitsRules r = FitsMax r.max × (r.low ≤ most_32) × (r.delay.0 ≤ most_64)
