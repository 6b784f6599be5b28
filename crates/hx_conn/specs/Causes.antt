-- Why a connection is dead, and why a busy one may not rest.
use Rattle.std.specs.Prelude.{ℕ, ◌+◌, Bool, false, not, List, [], ◌∷◌, Option, Some, None, is_none, if◌then◌else◌, nat_lt, ◌==◌}
use Rattle.hx_link.specs.declared.answers.Got.{Got}
use Rattle.hx_link.specs.declared.answers.Got.TheVariants as got
use Rattle.hx_conn.specs.declared.causes.Death.{Death}
use Rattle.hx_conn.specs.declared.causes.Death.TheVariants.{Ended, Spoke, LinkFault, AttachFault}
use Rattle.hx_conn.specs.declared.causes.RestCause.{RestCause}
use Rattle.hx_conn.specs.declared.causes.RestCause.TheVariants.{AskOpen, AnswerOpen, Leftover, NoPersistence, UsesSpent, Faulted}
use Rattle.hx_conn.specs.declared.exchange.AnswerEnd.{AnswerEnd}
use Rattle.hx_conn.specs.declared.exchange.Exchange.{Exchange}

-- the number that stands for a death
abbrev pub death_code : Death → ℕ
death_code Ended = 1
death_code Spoke = 2
death_code LinkFault = 3
death_code AttachFault = 4

-- why a connection that rests is dead after this answer of a read
abbrev pub death_of : Got → Option Death
death_of (got.Bytes n) = Some Spoke
death_of got.NotYet = None
death_of got.End = Some Ended
death_of got.Failed = Some LinkFault

-- the number that stands for a cause
abbrev pub rest_code : RestCause → ℕ
rest_code AskOpen = 1
rest_code AnswerOpen = 2
rest_code Leftover = 3
rest_code NoPersistence = 4
rest_code UsesSpent = 5
rest_code Faulted = 6

-- of so many bytes taken since the exchange began, some lie past the answer
abbrev pub has_leftover : Exchange → ℕ → Option AnswerEnd → Bool
has_leftover e taken None = false
has_leftover e taken (Some a) = nat_lt (e.taken_from + a.len) taken

-- the connection persists after the answer
abbrev pub is_persistent : Option AnswerEnd → Bool
is_persistent None = false
is_persistent (Some a) = a.persistent

-- the causes in their order, each beside whether it holds, where so many bytes were taken in all
-- and there were so many uses before
abbrev pub causes : Exchange → ℕ → ℕ → List (Bool × RestCause)
causes e taken uses =
    (not e.asked, AskOpen) ∷ (is_none e.answer, AnswerOpen) ∷ (has_leftover e taken e.answer, Leftover)
    ∷ (not (is_persistent e.answer), NoPersistence) ∷ (uses == 65535, UsesSpent) ∷ (e.failed, Faulted) ∷ []

-- the first that holds
abbrev pub first_of : List (Bool × RestCause) → Option RestCause
first_of [] = None
first_of (c ∷ cs) = if c.0 then Some c.1 else first_of cs

-- the first cause for which the connection may not rest
abbrev pub rest_cause : Exchange → ℕ → ℕ → Option RestCause
rest_cause e taken uses = first_of (causes e taken uses)
