-- The lines that a run of the program writes.
use Rattle.std.specs.Prelude.{ℕ, List, ◌++◌, codes, decimal}

-- the line for words that are no command
unfoldable pub usage_text : List ℕ
usage_text = codes "usage: hx_replay replay | check | drill <start> <threads> <sessions>\n"

-- the line for what isn't built yet
abbrev pub unbuilt_text : List ℕ
unbuilt_text = codes "unbuilt\n"

-- a line of two numbers behind a word
abbrev pub numbers_text : List ℕ → ℕ → ℕ → List ℕ
numbers_text word first second = word ++ decimal first ++ codes " " ++ decimal second ++ codes "\n"

-- the line of a configuration's first fault: its line, counted from 1, and the number of its rule
abbrev pub config_text : ℕ → ℕ → List ℕ
config_text line rule = numbers_text (codes "config ") line rule

-- the line of a script's first fault
abbrev pub script_text : ℕ → ℕ → List ℕ
script_text line rule = numbers_text (codes "script ") line rule

-- the line of a replay that made so many turns, as many as may be
abbrev pub overrun_text : ℕ → List ℕ
overrun_text turns = codes "overrun " ++ decimal turns ++ codes "\n"

-- the line of a transcript's first fault
abbrev pub transcript_text : ℕ → ℕ → List ℕ
transcript_text line rule = numbers_text (codes "transcript ") line rule

-- the line for a transcript that breaks no rule
abbrev pub holds_text : List ℕ
holds_text = codes "holds\n"

-- the line of the first rule that a transcript breaks, and of the first line that breaks it
abbrev pub broken_text : ℕ → ℕ → List ℕ
broken_text rule line = numbers_text (codes "broken ") rule line
