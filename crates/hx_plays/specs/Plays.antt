-- What any script of one thread is replayed to.
use Rattle.std.specs.Prelude.{◌≡◌, ℕ, ◌+◌, ◌*◌, ◌<◌, ◌⊎◌, List, length, Ok, Err}
use Rattle.hx_config.specs.Limits.{all_servers}
use Rattle.hx_link.specs.Nets.{NetState}
use Rattle.hx_pool.specs.Journal.{Journal}
use Rattle.hx_record.specs.declared.served.Told.{Told}
use Rattle.hx_run.specs.Cares.{all_cares}
use Rattle.hx_run.specs.Courses.{MakesAll, MakesFewer}
use Rattle.hx_run.specs.Overs.{histories}
use Rattle.hx_script.specs.TrueTranscript.{Ends, IsTrueTranscript}
use Rattle.hx_script.specs.Printed.{Spells}
use Rattle.hx_script.specs.declared.transcript.Transcript.{Transcript}
use Rattle.hx_script_parts.specs.Faults.{code_of}
use Rattle.hx_script_parts.specs.Meaning.{Meaning, longest_text, meaning_of}
use Rattle.hx_script_parts.specs.declared.fault.Flaw.TheVariants as flaw
use Rattle.hx_script_parts.specs.declared.fault.Rule.{Rule}
use Rattle.hx_script_parts.specs.declared.fault.Rule.TheVariants.{BadWorker}
use Rattle.hx_told.specs.CaredFor.{AreCaredFor}
use Rattle.hx_told.specs.Caused.{CausedByScript}
use Rattle.hx_told.specs.Follows.{FollowsScript}
use Rattle.hx_told.specs.Quiet.{QuietByScript}
use Rattle.hx_told.specs.Servers.{named_servers, parts_of}
use Rattle.hx_plays.specs.declared.plays.Replay.{Replay}
use Rattle.hx_plays.specs.declared.plays.Replay.TheVariants as replay

-- of the transcript some connections count as ended: all that it tells is true, and its clients are those of the script's lines,
-- one to one by moment and line, its connections followed the script's plans, only one whose plan has an end counts as ended, and each
-- record has its cause by the script; nothing was left to do for a session that was stopped; and the marks of each server show its orders, a drain at the end and its rounds: by moment and by line,
-- each with what the caretaker closed behind it
pub record TellsScript (script : Meaning) (t : Transcript) : Type 0 where
  pub ends : Ends
  pub is_true : IsTrueTranscript t ends
  pub follows : FollowsScript script.clients script.plans ends t.clients t.conns
  pub causes : CausedByScript script ends t
  pub quiet : QuietByScript script t
  pub cared : AreCaredFor (all_cares script) 0 t.servers

-- the text spells a transcript whose servers are those of the configuration, in order, by name and rules, each with the marks
-- of one journal; and all that it tells is true and of the script's lines: each record, each range, each client and connection,
-- and each server's marks and totals, in whose history every connection that was opened is closed at the end.
pub record TellsServers (script : Meaning) (text : List ℕ) : Type 0 where
  pub transcript : Transcript
  pub spells : Spells text transcript
  pub seats : List Journal
  pub each : length seats ≡ length (all_servers script.config.backs)
  pub servers : transcript.servers ≡ parts_of (named_servers script.config.backs) seats
  pub script_told : TellsScript script transcript

-- how many turns end a replay of so many bytes and clients
abbrev pub most_turns : ℕ → ℕ → ℕ
most_turns bytes clients = 16 * bytes + 64 * clients

-- a whole replay of the script told these records, left the histories of these seats, and made fewer turns
abbrev pub EndsWithin : Meaning → ℕ → List Told → List Journal → Type 0
EndsWithin script most records seats = (net : NetState) × MakesFewer script most records net (histories seats)

-- a replay of the script made so many turns, and went on no further
abbrev pub RunsOut : Meaning → ℕ → Type 0
RunsOut script most = MakesAll script most

-- the bytes are a script of one thread, and the text is that of a true transcript of its servers, whose records a whole replay of it
-- told, by calls at the script's moments; that made fewer turns than end it
pub record Plays (bytes text : List ℕ) : Type 0 where
  pub script : Meaning
  pub reads : meaning_of bytes ≡ Ok script
  pub one : script.config.threads ≡ 1
  pub tells : TellsServers script text
  pub within : EndsWithin script (most_turns (length bytes) (length script.clients)) tells.transcript.records tells.seats

-- the most bytes of a script
abbrev pub most_script : ℕ
most_script = longest_text

-- the first fault of a script's configuration: its line there, counted from 1, and the number of its rule
abbrev pub HasConfigFault : List ℕ → ℕ → ℕ → Type 0
HasConfigFault bytes line rule = meaning_of bytes ≡ Err (flaw.Config line rule)

-- the line of a script that says how long its configuration is
abbrev pub config_line : ℕ
config_line = 2

-- a configuration has several threads, and no worker but the first is there
pub record HasThreads (bytes : List ℕ) (line rule : ℕ) : Type 0 where
  pub script : Meaning
  pub reads : meaning_of bytes ≡ Ok script
  pub several : 1 < script.config.threads
  pub line_is : line ≡ config_line
  pub rule_is : rule ≡ code_of BadWorker

-- the first fault of a line of the script, or else several threads: the line, counted from 1, and the number of its rule
abbrev pub HasScriptFault : List ℕ → ℕ → ℕ → Type 0
HasScriptFault bytes line rule =
    ((broken : Rule) × (meaning_of bytes ≡ Err (flaw.Line line broken)) × (rule ≡ code_of broken))
    ⊎ HasThreads bytes line rule

-- the bytes are a script of one thread, so many turns are as many as end its replay, and it made them
pub record Overruns (bytes : List ℕ) (turns : ℕ) : Type 0 where
  pub script : Meaning
  pub reads : meaning_of bytes ≡ Ok script
  pub one : script.config.threads ≡ 1
  pub most : turns ≡ most_turns (length bytes) (length script.clients)
  pub made : RunsOut script turns

-- what any script is replayed to
abbrev pub IsPlayOf : List ℕ → Replay → Type 0
IsPlayOf bytes (replay.Text text) = Plays bytes text.items
IsPlayOf bytes (replay.ConfigFault line rule) = HasConfigFault bytes line rule
IsPlayOf bytes (replay.ScriptFault line rule) = HasScriptFault bytes line rule
IsPlayOf bytes (replay.Overrun turns) = Overruns bytes turns

-- what a script is replayed to, where so many turns end it
abbrev pub IsRunOf : Meaning → ℕ → Replay → Type 0
IsRunOf script most (replay.Text text) = (tells : TellsServers script text.items) × EndsWithin script most tells.transcript.records tells.seats
IsRunOf script most (replay.Overrun turns) = (turns ≡ most) × RunsOut script turns
IsRunOf script most _ = ⊥
