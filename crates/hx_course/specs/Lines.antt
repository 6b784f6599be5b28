-- The lines that the calls of a course tell.
use Rattle.std.specs.Prelude.{◌≡◌, false, List, [], ◌∷◌, ◌++◌, Option, Some, None, ⊤}
use Rattle.std.specs.List.{flat_map}
use Rattle.hx_base.specs.declared.numbers.SessionNo.{SessionNo}
use Rattle.hx_base.specs.declared.numbers.ThreadNo.{ThreadNo}
use Rattle.hx_record.specs.Tiles.{is_line_of}
use Rattle.hx_record.specs.declared.served.Left.{Left}
use Rattle.hx_record.specs.declared.served.Served.{Served}
use Rattle.hx_record.specs.declared.served.Told.{Told}
use Rattle.hx_record.specs.declared.served.Told.TheVariants as told

-- the record of an exchange, if there is one
abbrev pub served_line : Option Served → List Told
served_line None = []
served_line (Some r) = told.Served r ∷ []

-- the end of a session, if it is told
abbrev pub left_line : Option Left → List Told
left_line None = []
left_line (Some l) = told.Left l ∷ []

-- what a step or a stop tells, in order
abbrev pub lines_of : Option Served → Option Left → List Told
lines_of served left = served_line served ++ left_line left

-- each line is one of another session
abbrev pub AreApart : ThreadNo → SessionNo → List Told → Type 0
AreApart t n [] = ⊤
AreApart t n (x ∷ lines) = (is_line_of t n x ≡ false) × AreApart t n lines

-- the session that a Left ends
abbrev pub ended_by : Told → List (ThreadNo × SessionNo)
ended_by (told.Served r) = []
ended_by (told.Left l) = (l.worker, l.session) ∷ []

-- the sessions that ended, in order
abbrev pub lefts_of : List Told → List (ThreadNo × SessionNo)
lefts_of records = flat_map ended_by records
