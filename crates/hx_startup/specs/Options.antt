-- The words of the command line, as clap reads them.
use Rattle.std.specs.Prelude.{◌≡◌, ◌↔◌, ℕ, true, IsTrue, List, [], Option, Some, None, pos, map, codes, string_bytes, String, IfSome}
use Rattle.std.specs.Global.{Global}
use Rattle.std.specs.Str.Parse.{digits_value, without_leading_plus}
use Rattle.clap.specs.Words.{App, Row, Rule, fault_of, first_of, matches_of, new_app, new_rule, with_rule}
use Rattle.clap.specs.Walk.{one_of}
use Rattle.clap.specs.declared.builder.action.ArgAction.TheVariants.{Set, SetTrue}
use Rattle.clap.specs.declared.builder.value_parser.ValueParser.TheVariants as parser
use Rattle.clap.specs.declared.error.kind.ErrorKind.{ErrorKind}
use Rattle.clap.specs.declared.error.kind.ErrorKind.TheVariants.{OutOfMemory}
use Rattle.hx_startup.specs.declared.options.Options.{Options}
use Rattle.hx_startup.specs.declared.options.Refusal.{Refusal}
use Rattle.hx_startup.specs.declared.options.Refusal.TheVariants as refusal

-- the words as bytes
abbrev pub words_of : List (String Global) → List (List ℕ)
words_of words = map string_bytes words

-- --config NAME, required
abbrev pub config_rule : Rule
config_rule = record (new_rule (codes "config")) { long = Some (codes "config"); required = true; action = Some Set }

-- --threads N, a number from 1 to 16
abbrev pub threads_rule : Rule
threads_rule = record (new_rule (codes "threads")) {
  long = Some (codes "threads");
  action = Some Set;
  parser = Some (parser.Signed (pos 1) (pos 16));
}

-- --check
abbrev pub check_rule : Rule
check_rule = record (new_rule (codes "check")) { long = Some (codes "check"); action = Some SetTrue }

-- a command whose words don't begin with the program's name
abbrev pub without_name : App → App
without_name a = record a { top = record a.top { no_binary_name = true } }

-- the program's command
abbrev pub proxy_app : App
proxy_app = with_rule (with_rule (with_rule (without_name (new_app (codes "hx_proxy"))) config_rule) threads_rule) check_rule

-- clap's rule takes the words
abbrev pub TakesWords : List (List ℕ) → Type 0
TakesWords words = fault_of proxy_app words ≡ []

-- what clap finds in them
abbrev pub rows : List (List ℕ) → List Row
rows words = matches_of proxy_app words

-- the file's name
abbrev pub NamesFile : List (List ℕ) → List ℕ → Type 0
NamesFile words name = first_of (codes "config") (rows words) ≡ Some name

-- a check is asked for
abbrev pub AsksCheck : List (List ℕ) → Type 0
AsksCheck words = first_of (codes "check") (rows words) ≡ Some (codes "true")

-- the number that a text of the words says in decimal digits, or none where there is no text
abbrev pub SaysThreads : Option (List ℕ) → Option ℕ → Type 0
SaysThreads None n = n ≡ None
SaysThreads (Some text) n = IfSome n (λ k. k ≡ digits_value 10 (without_leading_plus text))

-- the words are taken, and say these options
pub record IsTaken (words : List (List ℕ)) (o : Options) : Type 0 where
  pub takes : TakesWords words
  pub config : NamesFile words o.config.now
  pub threads : SaysThreads (one_of (codes "threads") (rows words)) o.threads
  pub check : IsTrue o.check ↔ AsksCheck words

-- words are refused where clap's rule doesn't take them; want of memory has no cause
abbrev pub IsRefusedFor : List (List ℕ) → Refusal → Type 0
IsRefusedFor words (refusal.Words text) = TakesWords words → ⊥
IsRefusedFor words refusal.NoMemory = Unit {0}

-- the words are refused for another cause than memory, or memory ran out
abbrev pub RefusesBy : ErrorKind → Refusal → Type 0
RefusesBy kind (refusal.Words text) = kind ≡ OutOfMemory → ⊥
RefusesBy kind refusal.NoMemory = Unit {0}
