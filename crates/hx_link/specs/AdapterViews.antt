-- Private: how the fields of the adapters of std stand for what they tell.
use Rattle.std.specs.Prelude.{ℕ, Bool, List, Option, None}
use Rattle.hx_link.specs.Adapters.{ReadingNow, WritingNow}

-- the value of a reader as a source
abbrev pub reading_now : ℕ → Bool → Option (List ℕ) → ReadingNow
reading_now faults ended left = record { state = record { faults = faults; left = None; told_end = ended }; left = left }

-- the value of a writer as a sink
abbrev pub writing_now : ℕ → Option (List ℕ) → WritingNow
writing_now faults held = record { state = record { faults = faults; taken = None }; held = held }
