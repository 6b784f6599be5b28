use Rattle.std.proofs.Common.{◌≡◌, ℕ, Option, subst}
use Rattle.std.specs.Prelude.{MatchOption}
use Rattle.hx_check.specs.Lines.{told_line}
use Rattle.hx_check.specs.Rules.{MarksHold, LegalMark}
use Rattle.hx_check.specs.Broken.{MarkBreaks}
use Rattle.hx_check.specs.Broken.BreaksAt.{legal}
use Rattle.hx_check.proofs.check.check_by_tables.Goals as goal

pub returns-in-Some : goal.returns-in-Some
returns-in-Some c =
    let servers = c.args.t.now.servers in
    let e = subst
    (λ (o : Option ℕ). MatchOption o (MarksHold LegalMark servers)
    (λ told. (line : ℕ) × MarkBreaks LegalMark servers line × (told ≡ told_line line)))
    c.in-Some.is c.in_ok-legal_break.ensures in (e.0, legal e.1, e.2)
