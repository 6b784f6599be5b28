use Rattle.std.proofs.Common.{◌≡◌, ℕ, ◌<◌, List, replicate, get_or, refl, arith}
use Rattle.std.proofs.lemmas.List.{get_or-replicate}
use Rattle.hx_check_parts.specs.Marks.{no_marks}
use Rattle.hx_check_parts.specs.Last.{CountsRests, AreFew}
use Rattle.hx_check_parts.proofs.limit.no_rests.Goals as goal

abbrev zeros : List ℕ
zeros = replicate 256 0

zero_at : (row : ℕ) → row < 256 → get_or zeros row 0 ≡ 0
zero_at row h = get_or-replicate 256 row 0 0 h

none : CountsRests no_marks zeros 0
none = record { each = zero_at; all = refl }

few : AreFew 1 zeros 0
few = record { size = refl; each = λ row h. omega (arith, zero_at row h); all = omega arith }

pub returns-clause-none : goal.returns-clause-none
returns-clause-none c = none

pub returns-clause-few : goal.returns-clause-few
returns-clause-few c = few
