-- What a text means: the sections that its lines make, and the backend of each frontend; or its first fault.
use Rattle.std.specs.Prelude.{ℕ, ◌+◌, Bool, ◌&&◌, List, [], ◌∷◌, length, map, Option, Some, None, Result, Ok, Err, ⊤, if◌then◌else◌, ◌==◌, nat_lt, bytes_eq}
use Rattle.std.specs.List.{list_any}
use Rattle.hx_config_parts.specs.declared.fault.Rule.{Rule}
use Rattle.hx_config_parts.specs.declared.fault.Rule.TheVariants.{NoSuchBackend, TooMany, NoServer}
use Rattle.hx_config_parts.specs.declared.fault.Flaw.{Flaw}
use Rattle.hx_config.specs.declared.parts.Front.{Front}
use Rattle.hx_config.specs.declared.parts.Back.{Back}
use Rattle.hx_config.specs.declared.sections.Frontend.{Frontend}
use Rattle.hx_config.specs.declared.sections.Backend.{Backend}
use Rattle.hx_config.specs.declared.reading.Reading.{Reading}
use Rattle.hx_config_parts.specs.Faults.{◌>>=◌}
use Rattle.hx_config_parts.specs.Lexical.{lines_of, words_of}
use Rattle.hx_config.specs.Sections.{nothing_read, closed}
use Rattle.hx_config.specs.Statements.{line_read}

-- what a configuration says
pub record Meaning : Type 0 where
  pub threads : ℕ
  pub fronts : List Front
  pub backs : List Back
  pub passed_over : List ℕ

-- a rule that is broken, with the number of the line
abbrev pub located : {A : Type 0} → ℕ → Result A Rule → Result A Flaw
located line (Ok x) = Ok x
located line (Err rule) = Err (record { line = line; rule = rule })

-- what is read behind the lines, the first of which has this number
unfoldable pub lines_read : ℕ → Reading → List (List ℕ) → Result Reading Flaw
lines_read line r [] = Ok r
lines_read line r (l ∷ ls) = located line (line_read line r (words_of l)) >>= λ s. lines_read (line + 1) s ls

-- the place of the backend of this name, counted on from i
unfoldable pub place_from : ℕ → List ℕ → List Backend → Option ℕ
place_from i name [] = None
place_from i name (b ∷ bs) = if bytes_eq b.back.name name then Some i else place_from (i + 1) name bs

-- the place of the backend of this name, where there is a name
abbrev pub place_of : Option (List ℕ) → List Backend → Option ℕ
place_of None backs = None
place_of (Some name) backs = place_from 0 name backs

-- a frontend with the place of its backend
abbrev pub at_place : Frontend → Option ℕ → Result Front Flaw
at_place f None = Err (record { line = f.line; rule = NoSuchBackend })
at_place f (Some i) =
    Ok (record { name = f.name; binds = f.binds; back = i; client = f.client; keep_alive = f.keep_alive })

-- a frontend with the place of the backend that it wants
abbrev pub placed : List Backend → Frontend → Result Front Flaw
placed backs f = at_place f (place_of f.wants backs)

-- the frontends with the places of their backends, or the first without one
unfoldable pub all_placed : List Backend → List Frontend → Result (List Front) Flaw
all_placed backs [] = Ok []
all_placed backs (f ∷ fs) = placed backs f >>= λ x. all_placed backs fs >>= λ xs. Ok (x ∷ xs)

-- a backend without a server that is that of a frontend
abbrev pub is_idle : ℕ → List Front → Backend → Bool
is_idle i fronts b = length b.back.servers == 0 && list_any (λ f. f.back == i) fronts

-- each frontend's backend has a server
unfoldable pub all_served : ℕ → List Front → List Backend → Result ⊤ Flaw
all_served i fronts [] = Ok tt
all_served i fronts (b ∷ bs) =
    if is_idle i fronts b then Err (record { line = b.line; rule = NoServer }) else all_served (i + 1) fronts bs

-- the meaning of what was read
unfoldable pub finished : Reading → Result Meaning Flaw
finished r = do
  fronts ← all_placed r.backs r.fronts
  served ← all_served 0 fronts r.backs
  Ok (record {
    threads = r.threads;
    fronts = fronts;
    backs = map (λ b. b.back) r.backs;
    passed_over = r.passed_over;
  })

-- the greatest length of a text
abbrev pub longest_text : ℕ
longest_text = 262144

-- the meaning of a text, or its first fault
unfoldable pub meaning_of : List ℕ → Result Meaning Flaw
meaning_of text =
    if nat_lt longest_text (length text) then Err (record { line = 1; rule = TooMany })
    else lines_read 1 nothing_read (lines_of text) >>= λ r. finished (closed r)
