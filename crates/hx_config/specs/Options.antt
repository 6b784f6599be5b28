-- The options of `server` and `default-server` lines (HAProxy 2.4 Configuration Manual, section 5.2).
use Rattle.std.specs.Prelude.{ℕ, true, List, [], ◌∷◌, Option, Some, None, Result, Ok, Err, if◌then◌else◌, bytes_eq, codes, ⊤}
use Rattle.hx_config_parts.specs.declared.fault.Rule.{Rule}
use Rattle.hx_config_parts.specs.declared.fault.Rule.TheVariants.{UnknownWord, BadNumber}
use Rattle.hx_config.specs.declared.options.ServerOption.{ServerOption}
use Rattle.hx_config.specs.declared.options.ServerOption.TheVariants as option
use Rattle.hx_config.specs.declared.options.Chosen.{Chosen}
use Rattle.hx_config_parts.specs.Faults.{◌>>=◌}
use Rattle.hx_config_parts.specs.Tables.{found}
use Rattle.hx_config_parts.specs.Lexical.{with_rest, word_at}
use Rattle.hx_config_parts.specs.Numbers.{is_number, number_in, time_of}

-- the words that name an option
abbrev pub option_words : List (List ℕ × ServerOption)
option_words =
    (codes "pool-max-conn", option.MaxConn) ∷ (codes "pool-low-conn", option.LowConn)
    ∷ (codes "pool-purge-delay", option.PurgeDelay) ∷ (codes "check", option.Check) ∷ (codes "inter", option.Inter)
    ∷ (codes "rise", option.Count) ∷ (codes "fall", option.Count) ∷ (codes "maxconn", option.Count) ∷ []

-- what a table has for a word
abbrev pub known : Option ServerOption → Result ServerOption Rule
known None = Err UnknownWord
known (Some o) = Ok o

-- the option that the next word names, and the words after it
abbrev pub option_at : List (List ℕ) → Result (ServerOption × List (List ℕ)) Rule
option_at ws = do
  x ← word_at ws
  with_rest x.1 (known (found option_words x.0))

-- how many connections may rest: -1 is no limit
abbrev pub max_of : List ℕ → Result (Option ℕ) Rule
max_of w = if bytes_eq w (codes "-1") then Ok None else number_in 0 1000000 w >>= λ n. Ok (Some n)

-- any digits
abbrev pub count_of : List ℕ → Result ⊤ Rule
count_of w = if is_number w then Ok tt else Err BadNumber

-- what is chosen after an option with its value
abbrev pub with_value : ServerOption → Chosen → List ℕ → Result Chosen Rule
with_value option.MaxConn c v = max_of v >>= λ m. Ok (record c { rules = record c.rules { max = m } })
with_value option.LowConn c v = number_in 0 1000000 v >>= λ n. Ok (record c { rules = record c.rules { low = n } })
with_value option.PurgeDelay c v = time_of v >>= λ t. Ok (record c { rules = record c.rules { delay = t } })
with_value option.Inter c v = time_of v >>= λ t. Ok (record c { passed = true })
with_value option.Count c v = count_of v >>= λ n. Ok (record c { passed = true })
with_value option.Check c v = Ok (record c { passed = true })

-- one option: what is chosen then, and the words after it
abbrev pub after_option : ServerOption → Chosen → List (List ℕ) → Result (Chosen × List (List ℕ)) Rule
after_option option.Check c ws = Ok (record c { passed = true }, ws)
after_option o c ws = do
  x ← word_at ws
  with_rest x.1 (with_value o c x.0)

-- the next option: what is chosen then, and the words after it
abbrev pub one_option : Chosen → List (List ℕ) → Result (Chosen × List (List ℕ)) Rule
one_option c ws = do
  o ← option_at ws
  after_option o.0 c o.1

-- a choice that goes on behind an option, which takes the word v or does not
abbrev pub going_on : ServerOption → Chosen → List ℕ → (Chosen → Result Chosen Rule) → (Chosen → Result Chosen Rule) → Result Chosen Rule
going_on option.Check c v at_v behind_v = at_v (record c { passed = true })
going_on o c v at_v behind_v = do
  x ← word_at (v ∷ [])
  d ← with_value o c x.0
  behind_v d

-- what the options choose, from left to right: a later one replaces an earlier one
unfoldable pub chosen_by : Chosen → List (List ℕ) → Result Chosen Rule
chosen_by c [] = Ok c
chosen_by c (w ∷ []) = one_option c (w ∷ []) >>= λ d. Ok d.0
chosen_by c (w ∷ v ∷ ws) =
    option_at (w ∷ []) >>= λ o. going_on o.0 c v (λ d. chosen_by d (v ∷ ws)) (λ d. chosen_by d ws)
