-- The frontends, the servers and the workers that a script names, in its configuration.
use Rattle.std.specs.Prelude.{ℕ, ◌+◌, Bool, List, [], ◌∷◌, ◌++◌, Option, Some, None, Result, Ok, Err, if◌then◌else◌, nat_lt, bytes_eq}
use Rattle.hx_base.specs.declared.numbers.ServerNo.{ServerNo}
use Rattle.hx_base.specs.declared.numbers.ThreadNo.{ThreadNo}
use Rattle.hx_config_parts.specs.Tables.{or_else}
use Rattle.hx_config.specs.Meaning as config
use Rattle.hx_config.specs.declared.parts.Back.{Back}
use Rattle.hx_config.specs.declared.parts.Front.{Front}
use Rattle.hx_config.specs.declared.parts.Server.{Server}
use Rattle.hx_script_parts.specs.declared.fault.Rule.{Rule}
use Rattle.hx_script_parts.specs.declared.fault.Rule.TheVariants.{NoSuchFrontend, NoSuchServer, BadWorker}
use Rattle.hx_script_parts.specs.Faults.{◌>>=◌}
use Rattle.hx_script_parts.specs.Lexical.{Rest, word_at}
use Rattle.hx_script_parts.specs.Numbers.{greatest, number_at}

-- what was found, or the rule that a missing one breaks
abbrev pub found_or : {A : Type 0} → Rule → Option A → Result A Rule
found_or rule None = Err rule
found_or rule (Some x) = Ok x

-- the place of the frontend of this name, counted on from i
unfoldable pub front_from : ℕ → List ℕ → List Front → Option ℕ
front_from i name [] = None
front_from i name (f ∷ fs) = if bytes_eq f.name name then Some i else front_from (i + 1) name fs

-- the word is the name of the backend, a stroke and the name of the server
abbrev pub is_named : List ℕ → List ℕ → List ℕ → Bool
is_named word back server = bytes_eq word (back ++ 47 ∷ server)

-- the server of this word among those of a backend of this name
unfoldable pub server_in : List ℕ → List ℕ → List Server → Option ServerNo
server_in word back [] = None
server_in word back (s ∷ ss) = if is_named word back s.name then Some s.no else server_in word back ss

-- the server of this word among those of all backends
unfoldable pub server_among : List ℕ → List Back → Option ServerNo
server_among word [] = None
server_among word (b ∷ bs) = or_else (server_in word b.name b.servers) (server_among word bs)

-- the next word, which names a frontend, and what is left behind it
abbrev pub front_at : config.Meaning → Rest → Result (ℕ × Rest) Rule
front_at c ws = do
  x ← word_at ws
  front ← found_or NoSuchFrontend (front_from 0 x.0 c.fronts)
  Ok (front, x.1)

-- the next word, which names a server
abbrev pub server_at : config.Meaning → Rest → Result (ServerNo × Rest) Rule
server_at c ws = do
  x ← word_at ws
  server ← found_or NoSuchServer (server_among x.0 c.backs)
  Ok (server, x.1)

-- the number of a worker, which is below the threads
abbrev pub worker_below : ℕ → ℕ → Result ThreadNo Rule
worker_below threads n = if nat_lt n threads then Ok (record { 0 = n }) else Err BadWorker

-- the next word, which is the number of a worker
abbrev pub worker_at : config.Meaning → Rest → Result (ThreadNo × Rest) Rule
worker_at c ws = do
  x ← number_at 0 greatest ws
  worker ← worker_below c.threads x.0
  Ok (worker, x.1)
