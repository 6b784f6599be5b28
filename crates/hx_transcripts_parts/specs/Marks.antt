-- The line of a server, behind its name, and the lines of marks, behind their first word.
use Rattle.std.specs.Prelude.{ℕ, Bool, ◌&&◌, List, Result, Ok, ◌==◌}
use Rattle.hx_base.specs.declared.numbers.ThreadNo.{ThreadNo}
use Rattle.hx_base.specs.declared.numbers.SessionNo.{SessionNo}
use Rattle.hx_base.specs.declared.numbers.ConnId.{ConnId}
use Rattle.hx_base.specs.declared.numbers.PlaceNo.{PlaceNo}
use Rattle.hx_base.specs.declared.rules.PoolRules.{PoolRules}
use Rattle.hx_config_parts.specs.Tables.{found}
use Rattle.hx_pool.specs.declared.entries.Entry.{Entry}
use Rattle.hx_pool.specs.declared.entries.Entry.TheVariants as entry
use Rattle.hx_transcripts_parts.specs.declared.fault.Rule.{Rule}
use Rattle.hx_transcripts_parts.specs.declared.fault.Rule.TheVariants.{BadLine}
use Rattle.hx_transcripts_parts.specs.declared.keywords.MarkWord.{MarkWord}
use Rattle.hx_transcripts_parts.specs.declared.keywords.MarkWord.TheVariants as mark
use Rattle.hx_transcripts_parts.specs.Faults.{◌>>=◌, unless, or_broken}
use Rattle.hx_transcripts_parts.specs.Keywords.{mode_words, take_words, gate_words}
use Rattle.hx_transcripts_parts.specs.Lexical.{Rest, read_word, at_end}
use Rattle.hx_transcripts_parts.specs.Numbers.{number_in, limit_in, most_8, most_16, most_32, most_64}
use Rattle.hx_transcripts_parts.specs.Pieces.{who_in, place_in}

-- a word of a table
abbrev pub one_of : {A : Type 0} → List (List ℕ × A) → List ℕ → Result A Rule
one_of table w = or_broken BadLine (found table w)

-- `<mode> <max> <low> <delay>`
abbrev pub rules_at : Rest → Result PoolRules Rule
rules_at ws = do
  mode ← read_word (one_of mode_words) ws
  max ← read_word limit_in mode.1
  low ← read_word (number_in most_32) max.1
  delay ← read_word (number_in most_64) low.1
  e ← at_end delay.1
  Ok (record { mode = mode.0; max = max.0; low = low.0; delay = record { 0 = delay.0 } })

-- `<who> <id>`
abbrev pub who_conn_at : Rest → Result ((ThreadNo × SessionNo × ConnId) × Rest) Rule
who_conn_at ws = do
  who ← read_word who_in ws
  id ← read_word (number_in most_64) who.1
  Ok ((who.0.0, who.0.1, record { 0 = id.0 }), id.1)

-- `<place> <uses>`
abbrev pub rest_at : Rest → Result ((PlaceNo × ℕ) × Rest) Rule
rest_at ws = do
  place ← read_word place_in ws
  uses ← read_word (number_in most_16) place.1
  Ok ((place.0, uses.0), uses.1)

-- `open <who> <id>`
abbrev pub open_at : Rest → Result Entry Rule
open_at ws = do
  c ← who_conn_at ws
  e ← at_end c.1
  Ok (entry.Open c.0.0 c.0.1 c.0.2)

-- `park <who> <id> <place> <uses>`
abbrev pub park_at : Rest → Result Entry Rule
park_at ws = do
  c ← who_conn_at ws
  r ← rest_at c.1
  e ← at_end r.1
  Ok (entry.Park c.0.0 c.0.1 c.0.2 r.0.0 r.0.1)

-- `first` or `later`; the caretaker takes later
abbrev pub first_in : SessionNo → List ℕ → Result Bool Rule
first_in n w = do
  first ← one_of take_words w
  e ← unless (first && (n.0 == 0)) BadLine
  Ok first

-- `take <who> <id> <place> <uses> first`, or `later`
abbrev pub take_at : Rest → Result Entry Rule
take_at ws = do
  c ← who_conn_at ws
  r ← rest_at c.1
  first ← read_word (first_in c.0.1) r.1
  e ← at_end first.1
  Ok (entry.Take c.0.0 c.0.1 first.0 r.0.0 c.0.2 r.0.1)

-- `close <who> <id>`
abbrev pub close_at : Rest → Result Entry Rule
close_at ws = do
  c ← who_conn_at ws
  e ← at_end c.1
  Ok (entry.Close c.0.0 c.0.1 c.0.2)

-- `gate <thread> drain`, or `ready`
abbrev pub gate_at : Rest → Result Entry Rule
gate_at ws = do
  t ← read_word (number_in most_8) ws
  draining ← read_word (one_of gate_words) t.1
  e ← at_end draining.1
  Ok (entry.SetGate (record { 0 = t.0 }) draining.0)

-- `round <thread> <k> <old>`
abbrev pub round_at : Rest → Result Entry Rule
round_at ws = do
  t ← read_word (number_in most_8) ws
  k ← read_word (number_in most_64) t.1
  old ← read_word (number_in most_64) k.1
  e ← at_end old.1
  Ok (entry.Round (record { 0 = t.0 }) k.0 old.0)

-- what stands behind the first word of a mark's line
unfoldable pub mark_at : MarkWord → Rest → Result Entry Rule
mark_at mark.Open ws = open_at ws
mark_at mark.Park ws = park_at ws
mark_at mark.Take ws = take_at ws
mark_at mark.Close ws = close_at ws
mark_at mark.Gate ws = gate_at ws
mark_at mark.Round ws = round_at ws
