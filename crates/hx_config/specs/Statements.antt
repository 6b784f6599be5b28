-- What each line does to what was read before it, or the first rule that it breaks from left to right.
use Rattle.std.specs.Prelude.{ℕ, ◌+◌, Bool, true, false, List, [], ◌∷◌, ◌++◌, length, Option, Some, None, Result, Ok, Err, ⊤, if◌then◌else◌, nat_le, bytes_eq, codes}
use Rattle.hx_base.specs.declared.numbers.Millis.{Millis}
use Rattle.hx_base.specs.declared.rules.Mode.{Mode}
use Rattle.hx_base.specs.declared.rules.Mode.TheVariants as mode
use Rattle.hx_base.specs.declared.rules.PoolRules.{PoolRules}
use Rattle.hx_config_parts.specs.declared.fault.Rule.{Rule}
use Rattle.hx_config_parts.specs.declared.fault.Rule.TheVariants.{UnknownWord, WrongPlace, DoubleName, TooMany}
use Rattle.hx_config.specs.declared.keywords.FirstWord.{FirstWord}
use Rattle.hx_config.specs.declared.keywords.FirstWord.TheVariants as first
use Rattle.hx_config.specs.declared.keywords.TimeoutWord.{TimeoutWord}
use Rattle.hx_config.specs.declared.keywords.TimeoutWord.TheVariants as timeout
use Rattle.hx_config.specs.declared.keywords.Treatment.{Treatment}
use Rattle.hx_config.specs.declared.keywords.Treatment.TheVariants as treatment
use Rattle.hx_config.specs.declared.options.Chosen.{Chosen}
use Rattle.hx_config.specs.declared.sections.Kind.{Kind}
use Rattle.hx_config.specs.declared.sections.Kind.TheVariants as kind
use Rattle.hx_config.specs.declared.sections.Values.{Values}
use Rattle.hx_config.specs.declared.sections.Section.{Section}
use Rattle.hx_config.specs.declared.reading.Reading.{Reading}
use Rattle.hx_config_parts.specs.Addresses.{server_address, bind_address, name_of}
use Rattle.hx_config_parts.specs.Faults.{◌>>=◌}
use Rattle.hx_config.specs.Keywords.{first_word}
use Rattle.hx_config_parts.specs.Tables.{found, is_one_of}
use Rattle.hx_config_parts.specs.Lexical.{no_words, word_at, at_end}
use Rattle.hx_config_parts.specs.Numbers.{number_in, time_of}
use Rattle.hx_config.specs.Options.{chosen_by}
use Rattle.hx_config.specs.Places.{stands_in, timeout_words, treatment_of, option_lines}
use Rattle.hx_config.specs.Sections.{usual_values, empty_section, first_values, closed, has_server_named, is_double, is_full, passing, with_values}

-- what a table has for a word
abbrev pub known : {A : Type 0} → Option A → Result A Rule
known None = Err UnknownWord
known (Some x) = Ok x

-- the open section has ended, and this one begins
abbrev pub opened : Section → Reading → Reading
opened s r = record (closed r) { current = s }

-- `global`
abbrev pub global_line : ℕ → Reading → List (List ℕ) → Result Reading Rule
global_line line r ws = do
  e ← at_end ws
  Ok (opened (empty_section kind.Global line [] usual_values) r)

-- no word, or one that is a name
abbrev pub optional_name : List (List ℕ) → Result ⊤ Rule
optional_name [] = Ok tt
optional_name (w ∷ ws) = do
  x ← word_at (w ∷ ws)
  name ← name_of x.0
  at_end x.1

-- `defaults` or `defaults <name>`
abbrev pub defaults_line : ℕ → Reading → List (List ℕ) → Result Reading Rule
defaults_line line r ws = do
  e ← optional_name ws
  Ok (opened (empty_section kind.Defaults line [] usual_values) r)

-- the rule, where it is broken
abbrev pub unless : Bool → Rule → Result ⊤ Rule
unless broken rule = if broken then Err rule else Ok tt

-- `frontend <name>`, `backend <name>`, `listen <name>`
abbrev pub named_line : Kind → ℕ → Reading → List (List ℕ) → Result Reading Rule
named_line k line r ws = do
  x ← word_at ws
  name ← name_of x.0
  once ← unless (is_double k name (closed r)) DoubleName
  e ← at_end x.1
  room ← unless (is_full k (closed r)) TooMany
  Ok (opened (empty_section k line name (first_values k name (closed r).defaults)) r)

-- one word, which must be this one
abbrev pub only_word : List ℕ → List (List ℕ) → Result ⊤ Rule
only_word text ws = do
  x ← word_at ws
  same ← unless (if bytes_eq x.0 text then false else true) UnknownWord
  at_end x.1

-- `nbthread <n>`
abbrev pub nbthread_line : Reading → List (List ℕ) → Result Reading Rule
nbthread_line r ws = do
  x ← word_at ws
  n ← number_in 1 16 x.0
  e ← at_end x.1
  Ok (record r { threads = n })

-- `bind <address>`
abbrev pub bind_line : Reading → List (List ℕ) → Result Reading Rule
bind_line r ws = do
  x ← word_at ws
  a ← bind_address x.0
  e ← at_end x.1
  room ← unless (nat_le 16 (length r.current.binds)) TooMany
  Ok (record r { current = record r.current { binds = r.current.binds ++ a ∷ [] } })

-- `default_backend <name>`
abbrev pub default_backend_line : Reading → List (List ℕ) → Result Reading Rule
default_backend_line r ws = do
  x ← word_at ws
  name ← name_of x.0
  e ← at_end x.1
  Ok (with_values (record r.current.values { back = Some name }) r)

-- the words behind `http-reuse`
abbrev pub mode_words : List (List ℕ × Mode)
mode_words =
    (codes "never", mode.Never) ∷ (codes "safe", mode.Safe) ∷ (codes "aggressive", mode.Aggressive)
    ∷ (codes "always", mode.Always) ∷ []

-- the open section with these pool settings
abbrev pub with_rules : PoolRules → Reading → Reading
with_rules rules r = with_values (record r.current.values { rules = rules }) r

-- `http-reuse <mode>`
abbrev pub http_reuse_line : Reading → List (List ℕ) → Result Reading Rule
http_reuse_line r ws = do
  x ← word_at ws
  m ← known (found mode_words x.0)
  e ← at_end x.1
  Ok (with_rules (record r.current.values.rules { mode = m }) r)

-- the values after a `timeout` line
abbrev pub with_time : TimeoutWord → Millis → Values → Values
with_time timeout.Connect t v = record v { connect = Some t }
with_time timeout.Server t v = record v { server = Some t }
with_time timeout.Client t v = record v { client = Some t }
with_time timeout.KeepAlive t v = record v { keep_alive = Some t }
with_time timeout.Other t v = v

-- what a `timeout` line does that is treated so
abbrev pub treated : Treatment → TimeoutWord → ℕ → Reading → List (List ℕ) → Result Reading Rule
treated treatment.Unknown which line r ws = Err UnknownWord
treated treatment.Passed which line r ws = Ok (passing line r)
treated treatment.Read which line r ws = do
  x ← word_at ws
  t ← time_of x.0
  e ← at_end x.1
  Ok (with_values (with_time which t r.current.values) r)

-- `timeout <which> <time>`
abbrev pub timeout_line : ℕ → Reading → List (List ℕ) → Result Reading Rule
timeout_line line r ws = do
  x ← word_at ws
  which ← known (found timeout_words x.0)
  treated (treatment_of which r.current.kind) which line r x.1

-- a line with an option that is passed over has a part without effect
abbrev pub passing_if : Bool → ℕ → Reading → Reading
passing_if passed line r = if passed then passing line r else r

-- what is chosen before any option: the settings of the open section
abbrev pub usual_choice : Reading → Chosen
usual_choice r = record { rules = r.current.values.rules; passed = false }

-- `default-server <options>`: the options for the server lines after it
abbrev pub default_server_line : ℕ → Reading → List (List ℕ) → Result Reading Rule
default_server_line line r ws = do
  c ← chosen_by (usual_choice r) ws
  Ok (passing_if c.passed line (with_rules c.rules r))

-- `server <name> <address> <options>`
abbrev pub server_line : ℕ → Reading → List (List ℕ) → Result Reading Rule
server_line line r ws = do
  x ← word_at ws
  name ← name_of x.0
  once ← unless (has_server_named name r.current.servers) DoubleName
  y ← word_at x.1
  a ← server_address y.0
  c ← chosen_by (usual_choice r) y.1
  room ← unless (nat_le 32 r.servers) TooMany
  Ok (passing_if c.passed line (record r {
    servers = r.servers + 1;
    current = record r.current {
      servers = r.current.servers ++ (record { name = name; no = record { 0 = r.servers }; address = a; rules = c.rules }) ∷ [];
    };
  }))

-- `option <word>`
abbrev pub option_line : ℕ → Reading → List (List ℕ) → Result Reading Rule
option_line line r ws = do
  x ← word_at ws
  same ← unless (if is_one_of option_lines x.0 then false else true) UnknownWord
  Ok (passing line r)

-- a line without effect: one word that must stand there
abbrev pub idle_line : List ℕ → Reading → List (List ℕ) → Result Reading Rule
idle_line text r ws = do
  e ← only_word text ws
  Ok r

-- what a line with this first word does, where it stands in its section
unfoldable pub said : FirstWord → ℕ → Reading → List (List ℕ) → Result Reading Rule
said first.Global line r ws = global_line line r ws
said first.Defaults line r ws = defaults_line line r ws
said first.Frontend line r ws = named_line kind.Frontend line r ws
said first.Backend line r ws = named_line kind.Backend line r ws
said first.Listen line r ws = named_line kind.Listen line r ws
said first.Nbthread line r ws = nbthread_line r ws
said first.ModeHttp line r ws = idle_line (codes "http") r ws
said first.Bind line r ws = bind_line r ws
said first.DefaultBackend line r ws = default_backend_line r ws
said first.Balance line r ws = idle_line (codes "roundrobin") r ws
said first.HttpReuse line r ws = http_reuse_line r ws
said first.Timeout line r ws = timeout_line line r ws
said first.DefaultServer line r ws = default_server_line line r ws
said first.ServerLine line r ws = server_line line r ws
said first.OptionLine line r ws = option_line line r ws
said first.PassedOver line r ws = Ok (passing line r)
said first.PassedInGlobal line r ws = Ok (passing line r)
said first.PassedInOthers line r ws = Ok (passing line r)

-- what is read behind a line, or the rule that it breaks; a line without words says nothing
abbrev pub words_read : ℕ → Reading → List (List ℕ) → Result Reading Rule
words_read line r ws = do
  x ← word_at ws
  f ← known (first_word x.0)
  here ← unless (if stands_in f r.current.kind then false else true) WrongPlace
  said f line r x.1

-- what is read behind a line of these words
unfoldable pub line_read : ℕ → Reading → List (List ℕ) → Result Reading Rule
line_read line r ws = if no_words ws then Ok r else words_read line r ws
