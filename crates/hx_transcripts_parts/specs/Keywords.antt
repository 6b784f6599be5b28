-- The words of transcripts.
use Rattle.std.specs.Prelude.{ℕ, Bool, true, false, List, [], ◌∷◌, codes}
use Rattle.hx_base.specs.declared.rules.Mode.{Mode}
use Rattle.hx_base.specs.declared.rules.Mode.TheVariants as mode
use Rattle.hx_record.specs.declared.served.CutCause.{CutCause}
use Rattle.hx_record.specs.declared.served.CutCause.TheVariants as cut
use Rattle.hx_record.specs.declared.served.LeftCause.{LeftCause}
use Rattle.hx_record.specs.declared.served.LeftCause.TheVariants as cause
use Rattle.hx_transcripts_parts.specs.declared.keywords.MarkWord.{MarkWord}
use Rattle.hx_transcripts_parts.specs.declared.keywords.MarkWord.TheVariants as mark
use Rattle.hx_transcripts_parts.specs.declared.keywords.RecordWord.{RecordWord}
use Rattle.hx_transcripts_parts.specs.declared.keywords.RecordWord.TheVariants as told

-- the words that the lines of marks begin with
abbrev pub mark_words : List (List ℕ × MarkWord)
mark_words =
    (codes "open", mark.Open) ∷ (codes "park", mark.Park) ∷ (codes "take", mark.Take)
    ∷ (codes "close", mark.Close) ∷ (codes "gate", mark.Gate) ∷ (codes "round", mark.Round) ∷ []

-- the words that the lines of records begin with
abbrev pub record_words : List (List ℕ × RecordWord)
record_words =
    (codes "pass", told.Pass) ∷ (codes "cut", told.Cut) ∷ (codes "own", told.Own) ∷ (codes "left", told.Left) ∷ []

-- the modes
abbrev pub mode_words : List (List ℕ × Mode)
mode_words =
    (codes "never", mode.Never) ∷ (codes "safe", mode.Safe) ∷ (codes "aggressive", mode.Aggressive)
    ∷ (codes "always", mode.Always) ∷ []

-- whether a take was made for the first request of its session
abbrev pub take_words : List (List ℕ × Bool)
take_words = (codes "first", true) ∷ (codes "later", false) ∷ []

-- whether the gate drains
abbrev pub gate_words : List (List ℕ × Bool)
gate_words = (codes "drain", true) ∷ (codes "ready", false) ∷ []

-- whether the client's link closes after a passed exchange
abbrev pub closing_words : List (List ℕ × Bool)
closing_words = (codes "close", true) ∷ (codes "keep", false) ∷ []

-- of a cut: whether a final head went out with closing
abbrev pub cut_closing_words : List (List ℕ × Bool)
cut_closing_words = (codes "close-yes", true) ∷ (codes "close-no", false) ∷ []

-- the causes of a cut
abbrev pub cut_words : List (List ℕ × CutCause)
cut_words =
    (codes "early", cut.Early) ∷ (codes "ended", cut.Ended) ∷ (codes "fault", cut.Fault)
    ∷ (codes "broken", cut.Broken) ∷ (codes "late", cut.Late) ∷ (codes "client", cut.Client)
    ∷ (codes "stop", cut.Stop) ∷ (codes "silent", cut.Silent) ∷ []

-- the causes of a session's end
abbrev pub left_words : List (List ℕ × LeftCause)
left_words =
    (codes "end", cause.End) ∷ (codes "closing", cause.Closing) ∷ (codes "own", cause.Own)
    ∷ (codes "cut", cause.Cut) ∷ (codes "idle", cause.Idle) ∷ (codes "fault", cause.Fault)
    ∷ (codes "stop", cause.Stop) ∷ []
