-- How a run of the program ends, why, and what is written then.
use Rattle.std.specs.Prelude.{◌≡◌, ◌⊎◌, ℕ, ◌≤◌, true, List, [], length, IfSome}
use Rattle.hx_base.specs.Counts.{Rose}
use Rattle.hx_link.specs.Told.{SourceState, SinkState}
use Rattle.hx_link.specs.Whole.{WritesAll, WritesPart}
use Rattle.hx_check_text.specs.Checked.{IsFault, SpellsJudged}
use Rattle.hx_check_text.specs.declared.check.Checked.TheVariants as checked
use Rattle.hx_plays.specs.Plays.{Plays, HasConfigFault, HasScriptFault, Overruns, most_script}
use Rattle.hx_replay.specs.Checks.{Judged, BreaksReading}
use Rattle.hx_replay.specs.Commands.{Means, NoCommand}
use Rattle.hx_replay.specs.Reads.{IsReadOut}
use Rattle.hx_replay.specs.Texts.{usage_text, unbuilt_text, config_text, script_text, overrun_text, transcript_text, holds_text, broken_text}
use Rattle.hx_replay.specs.declared.command.Command.TheVariants.{Replay, Check, Drill}
use Rattle.hx_replay.specs.declared.ending.Ending.{Ending}
use Rattle.hx_replay.specs.declared.ending.Ending.TheVariants as ending

-- the source was read to its end without a fault, what it gave is a script of one thread, and the text is that of its replay
pub record Replayed (words : List (List ℕ)) (old new : SourceState) (text : List ℕ) : Type 0 where
  pub command : Means words Replay
  pub ended : new.told_end ≡ true
  pub same : new.faults ≡ old.faults
  pub bytes : List ℕ
  pub read : IfSome old.left (λ left. bytes ≡ left)
  pub short : length bytes ≤ most_script
  pub plays : Plays bytes text

-- the source was read to its end without a fault, and what it gave is a script whose configuration has this first fault
pub record HasFault (words : List (List ℕ)) (old new : SourceState) (line rule : ℕ) : Type 0 where
  pub command : Means words Replay
  pub ended : new.told_end ≡ true
  pub same : new.faults ≡ old.faults
  pub bytes : List ℕ
  pub read : IfSome old.left (λ left. bytes ≡ left)
  pub fault : HasConfigFault bytes line rule

-- the source was read to its end without a fault, or past the most bytes of a script; and what it gives, where that is told,
-- has this first fault of a script
pub record BreaksRule (words : List (List ℕ)) (old new : SourceState) (line rule : ℕ) : Type 0 where
  pub command : Means words Replay
  pub out : IsReadOut most_script old new
  pub fault : IfSome old.left (λ text. HasScriptFault text line rule)

-- the source was read to its end without a fault, and as many turns were made as end the replay of what it gave
pub record MadeAllTurns (words : List (List ℕ)) (old new : SourceState) (turns : ℕ) : Type 0 where
  pub command : Means words Replay
  pub ended : new.told_end ≡ true
  pub same : new.faults ≡ old.faults
  pub bytes : List ℕ
  pub read : IfSome old.left (λ left. bytes ≡ left)
  pub overruns : Overruns bytes turns

-- what isn't built yet: one command, for which nothing is read
abbrev pub IsUnbuilt : List (List ℕ) → SourceState → SourceState → Type 0
IsUnbuilt words old new = Means words Drill × (new ≡ old)

-- the commands that read the source
abbrev pub Reads : List (List ℕ) → Type 0
Reads words = Means words Replay ⊎ Means words Check

-- the cause of each ending; want of memory alone has none
abbrev pub HasCause : List (List ℕ) → SourceState → SourceState → Ending → Type 0
HasCause words old new ending.Usage = NoCommand words × (new ≡ old)
HasCause words old new ending.SourceFault = Reads words × Rose old.faults new.faults
HasCause words old new ending.Unbuilt = IsUnbuilt words old new
HasCause words old new (ending.Done text) = Replayed words old new text.items
HasCause words old new (ending.ConfigFault text) =
    (line : ℕ) × (rule : ℕ) × HasFault words old new line rule × (text.items ≡ config_text line rule)
HasCause words old new (ending.ScriptFault text) =
    (line : ℕ) × (rule : ℕ) × BreaksRule words old new line rule × (text.items ≡ script_text line rule)
HasCause words old new (ending.Overrun text) =
    (turns : ℕ) × MadeAllTurns words old new turns × (text.items ≡ overrun_text turns)
HasCause words old new ending.Holds = Judged words old new checked.Holds
HasCause words old new (ending.TranscriptFault text) =
    (line : ℕ) × (rule : ℕ) × BreaksReading words old new line rule × (text.items ≡ transcript_text line rule)
HasCause words old new (ending.Broken text) =
    (rule : ℕ) × (line : ℕ) × Judged words old new (checked.Broken rule line) × (text.items ≡ broken_text rule line)
HasCause words old new ending.NoMemory = Unit {0}

-- what is written at an ending
abbrev pub text_of : Ending → List ℕ
text_of ending.Usage = usage_text
text_of ending.SourceFault = []
text_of ending.Unbuilt = unbuilt_text
text_of (ending.Done text) = text.items
text_of (ending.ConfigFault text) = text.items
text_of (ending.ScriptFault text) = text.items
text_of (ending.Overrun text) = text.items
text_of ending.Holds = holds_text
text_of (ending.TranscriptFault text) = text.items
text_of (ending.Broken text) = text.items
text_of ending.NoMemory = []

-- the status of an ending
abbrev pub status_of : Ending → ℕ
status_of ending.Usage = 1
status_of ending.SourceFault = 2
status_of ending.Unbuilt = 8
status_of (ending.Done text) = 0
status_of (ending.ConfigFault text) = 4
status_of (ending.ScriptFault text) = 5
status_of (ending.Overrun text) = 6
status_of ending.Holds = 0
status_of (ending.TranscriptFault text) = 5
status_of (ending.Broken text) = 7
status_of ending.NoMemory = 9

-- a run came to an ending with its cause and wrote its text; or the sink failed, and took a beginning of it
abbrev pub IsRun : List (List ℕ) → SourceState → SourceState → SinkState → SinkState → ℕ → Type 0
IsRun words old new sink_old sink_new status =
    (e : Ending) × HasCause words old new e
    × ((status ≡ status_of e) × WritesAll sink_old sink_new (text_of e)
    ⊎ (status ≡ 3) × Rose sink_old.faults sink_new.faults × WritesPart sink_old sink_new (text_of e))

-- what a replay of these bytes may come to
abbrev pub IsEndingOf : List ℕ → Ending → Type 0
IsEndingOf bytes (ending.Done text) = Plays bytes text.items
IsEndingOf bytes (ending.ConfigFault text) =
    (line : ℕ) × (rule : ℕ) × HasConfigFault bytes line rule × (text.items ≡ config_text line rule)
IsEndingOf bytes (ending.ScriptFault text) =
    (line : ℕ) × (rule : ℕ) × HasScriptFault bytes line rule × (text.items ≡ script_text line rule)
IsEndingOf bytes (ending.Overrun text) =
    (turns : ℕ) × Overruns bytes turns × (text.items ≡ overrun_text turns)
IsEndingOf bytes ending.NoMemory = Unit {0}
IsEndingOf bytes _ = ⊥

-- what a check of these bytes may come to
abbrev pub IsCheckOf : List ℕ → Ending → Type 0
IsCheckOf bytes ending.Holds = SpellsJudged bytes checked.Holds
IsCheckOf bytes (ending.TranscriptFault text) =
    (line : ℕ) × (rule : ℕ) × IsFault bytes line rule × (text.items ≡ transcript_text line rule)
IsCheckOf bytes (ending.Broken text) =
    (rule : ℕ) × (line : ℕ) × SpellsJudged bytes (checked.Broken rule line) × (text.items ≡ broken_text rule line)
IsCheckOf bytes ending.NoMemory = Unit {0}
IsCheckOf bytes _ = ⊥

-- the line of this fault, or want of memory
abbrev pub TellsFault : ℕ → ℕ → Ending → Type 0
TellsFault line rule (ending.ConfigFault text) = text.items ≡ config_text line rule
TellsFault line rule ending.NoMemory = Unit {0}
TellsFault line rule _ = ⊥

-- the line of this fault of a script, or want of memory
abbrev pub TellsScriptFault : ℕ → ℕ → Ending → Type 0
TellsScriptFault line rule (ending.ScriptFault text) = text.items ≡ script_text line rule
TellsScriptFault line rule ending.NoMemory = Unit {0}
TellsScriptFault line rule _ = ⊥

-- the line of this fault of a transcript, or want of memory
abbrev pub TellsTranscriptFault : ℕ → ℕ → Ending → Type 0
TellsTranscriptFault line rule (ending.TranscriptFault text) = text.items ≡ transcript_text line rule
TellsTranscriptFault line rule ending.NoMemory = Unit {0}
TellsTranscriptFault line rule _ = ⊥

-- the line of this rule and this line of a transcript, or want of memory
abbrev pub TellsBroken : ℕ → ℕ → Ending → Type 0
TellsBroken rule line (ending.Broken text) = text.items ≡ broken_text rule line
TellsBroken rule line ending.NoMemory = Unit {0}
TellsBroken rule line _ = ⊥

-- the line of so many turns, or want of memory
abbrev pub TellsTurns : ℕ → Ending → Type 0
TellsTurns turns (ending.Overrun text) = text.items ≡ overrun_text turns
TellsTurns turns ending.NoMemory = Unit {0}
TellsTurns turns _ = ⊥

-- the replay was done, and its whole text was written
abbrev pub WritesReplay : List (List ℕ) → SourceState → SourceState → SinkState → SinkState → Type 0
WritesReplay words old new sink_old sink_new =
    (text : List ℕ) × Replayed words old new text × WritesAll sink_old sink_new text

-- the transcript breaks no rule, and the line that says so was written
abbrev pub WritesHolds : List (List ℕ) → SourceState → SourceState → SinkState → SinkState → Type 0
WritesHolds words old new sink_old sink_new = Judged words old new checked.Holds × WritesAll sink_old sink_new holds_text

-- all was done and written
abbrev pub IsDone : List (List ℕ) → SourceState → SourceState → SinkState → SinkState → Type 0
IsDone words old new sink_old sink_new =
    WritesReplay words old new sink_old sink_new ⊎ WritesHolds words old new sink_old sink_new

-- the configuration has a first fault, and the line that says so was written
abbrev pub IsRefused : List (List ℕ) → SourceState → SourceState → SinkState → SinkState → Type 0
IsRefused words old new sink_old sink_new =
    (line : ℕ) × (rule : ℕ) × HasFault words old new line rule × WritesAll sink_old sink_new (config_text line rule)

-- the script has a first fault, and the line that says so was written
abbrev pub RefusesScript : List (List ℕ) → SourceState → SourceState → SinkState → SinkState → Type 0
RefusesScript words old new sink_old sink_new =
    (line : ℕ) × (rule : ℕ) × BreaksRule words old new line rule × WritesAll sink_old sink_new (script_text line rule)

-- the transcript has a first fault, and the line that says so was written
abbrev pub RefusesTranscript : List (List ℕ) → SourceState → SourceState → SinkState → SinkState → Type 0
RefusesTranscript words old new sink_old sink_new =
    (line : ℕ) × (rule : ℕ) × BreaksReading words old new line rule × WritesAll sink_old sink_new (transcript_text line rule)

-- the text that was read has a first fault, and the line that says so was written
abbrev pub IsFaulty : List (List ℕ) → SourceState → SourceState → SinkState → SinkState → Type 0
IsFaulty words old new sink_old sink_new =
    RefusesScript words old new sink_old sink_new ⊎ RefusesTranscript words old new sink_old sink_new

-- the transcript breaks a rule, and the line that says which one first and where was written
abbrev pub IsBroken : List (List ℕ) → SourceState → SourceState → SinkState → SinkState → Type 0
IsBroken words old new sink_old sink_new =
    (rule : ℕ) × (line : ℕ) × Judged words old new (checked.Broken rule line)
    × WritesAll sink_old sink_new (broken_text rule line)

-- as many turns were made as end the replay, and the line that says so was written
abbrev pub IsOverrun : List (List ℕ) → SourceState → SourceState → SinkState → SinkState → Type 0
IsOverrun words old new sink_old sink_new =
    (turns : ℕ) × MadeAllTurns words old new turns × WritesAll sink_old sink_new (overrun_text turns)
