use Rattle.std.proofs.Common.{◌≡◌, ◌+◌, ◌∷◌, [], ◌++◌, List, take, length, sym, ap, ◌∙◌, subst, arith}
use Rattle.std.proofs.lemmas.List.{take_more, length-take-le}
use Rattle.hx_record.specs.declared.served.Told.{Told}
use Rattle.hx_check_parts.specs.Sessions.{KeepsSessions}
use Rattle.hx_check_parts.specs.Numbers.{KeepsExchanges}
use Rattle.hx_check_parts.proofs.records.tables_of.Goals as goal

pub loop-k-preserved : goal.loop-k-preserved
loop-k-preserved c =
    let list = c.args.list.now in
    let k = c.loop-k.k in
    let before = take k list in
    record {
      sessions = subst (λ (rs : List Told). KeepsSessions rs c.note_session.new.table) (sym (take_more list k _ c.loop-k-test.true))
          (c.in_ok-note_session.ensures before (length-take-le k list (omega (arith, c.loop-k-test.true))) c.loop-k.invariant.sessions);
      exchanges = subst (λ (rs : List Told). KeepsExchanges rs c.note.new.self) (sym (take_more list k _ c.loop-k-test.true))
          (c.in_ok-note.ensures.keeps before c.loop-k.invariant.exchanges);
      few = c.in_ok-note.ensures.few (k + 1) c.loop-k.invariant.few;
    }
