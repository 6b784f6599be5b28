-- The words of the command line.
use Rattle.std.specs.Prelude.{◌≡◌, ℕ, ◌≤◌, List, [], ◌∷◌, map, codes, decimal, string_bytes, String}
use Rattle.std.specs.Global.{Global}
use Rattle.hx_replay.specs.declared.command.Command.{Command}
use Rattle.hx_replay.specs.declared.command.Command.TheVariants.{Replay, Check, Drill}

-- the words as bytes
abbrev pub words_of : List (String Global) → List (List ℕ)
words_of words = map string_bytes words

-- a number of that range in decimal digits, without a leading zero
abbrev pub IsNumberIn : ℕ → ℕ → List ℕ → Type 0
IsNumberIn low high text = (n : ℕ) × (low ≤ n) × (n ≤ high) × (text ≡ decimal n)

-- drill start threads sessions
pub record IsDrill (words : List (List ℕ)) : Type 0 where
  pub start : List ℕ
  pub threads : List ℕ
  pub sessions : List ℕ
  pub are : words ≡ codes "drill" ∷ start ∷ threads ∷ sessions ∷ []
  pub start_in : IsNumberIn 0 1000000 start
  pub threads_in : IsNumberIn 1 16 threads
  pub sessions_in : IsNumberIn 1 100000 sessions

-- the words are that command
abbrev pub Means : List (List ℕ) → Command → Type 0
Means words Replay = words ≡ codes "replay" ∷ []
Means words Check = words ≡ codes "check" ∷ []
Means words Drill = IsDrill words

-- the words are no command
abbrev pub NoCommand : List (List ℕ) → Type 0
NoCommand words = (command : Command) → Means words command → ⊥
