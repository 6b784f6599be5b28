use Rattle.std.proofs.Common.{◌≡◌, ℕ, ◌==◌, ◌&&◌, Bool, sym, ap, ◌∙◌}
use Rattle.hx_base.specs.declared.numbers.ThreadNo.{ThreadNo}
use Rattle.hx_base.specs.declared.numbers.SessionNo.{SessionNo}
use Rattle.hx_check_table.specs.Tables.{value_at}
use Rattle.hx_check_parts.specs.Sessions.{covered_in}
use Rattle.hx_check_parts.proofs.SessionLemmas.{line_is, numbers_are, noted}
use Rattle.hx_check_parts.proofs.sessions.note_session.Goals as goal

pub returns : goal.returns
returns c records size keeps t n =
    let table = c.args.table.now in
    let at = c.session_in.result in
    let a = at.0.0 in
    let b = at.1.0 in
    noted t n records c.args.told c.covered_at-covered.result c.covered_more-more.result (value_at table t.0 n.0 0)
    (value_at c.put.new.self t.0 n.0 0) ((t.0 == a && n.0 == b) && 0 == 0)
    (line_is t n c.args.told
    ∙ ap (λ (x : ThreadNo × SessionNo). (t.0 == x.0.0 && n.0 == x.1.0) && 0 == 0) (sym c.session_in.ensures))
    (c.in_ok-put.ensures t.0 n.0 0)
    (λ same.
    let e = numbers_are t.0 n.0 a b same in
    ap (λ (x : ℕ). covered_in (value_at table x n.0 0)) e.0 ∙ ap (λ (y : ℕ). covered_in (value_at table a y 0)) e.1
    ∙ sym c.covered_at-covered.ensures)
    (keeps t n)
    (λ is x. c.covered_more-more.ensures t n records is size x)
