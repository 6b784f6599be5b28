use Rattle.std.proofs.Common.{◌≡◌, ℕ, ◌+◌, Bool, cond, None, Some, get_or, sym, ap, ◌∙◌, subst}
use Rattle.std.specs.Option.{option_or}
use Rattle.hx_record.specs.declared.bytes.ConnBytes.{ConnBytes}
use Rattle.hx_check_parts.specs.Links.{is_conn}
use Rattle.hx_check_table.specs.Tables.{value_at}
use Rattle.hx_check_parts.specs.Found.{IsFoundIn}
use Rattle.hx_check_parts.proofs.FoundLemmas.{more_found, swapped}
use Rattle.hx_check_parts.proofs.links.conns_table.Goals as goal

pub loop-k-preserved : goal.loop-k-preserved
loop-k-preserved c t n =
    let xs = c.args.list.now in
    let k = c.loop-k.k in
    let x = c.index-list-k.result in
    let p : ConnBytes → Bool = is_conn t n in
    let o = value_at c.loop-k.table t.0 n.0 0 in
    subst (IsFoundIn p xs (k + 1))
    (sym
    (c.in_ok-note_place.ensures t.0 n.0
    ∙ ap (λ (b : Bool). option_or o (cond b (Some k) None))
    (swapped x.server.0 x.id.0 t.0 n.0 ∙ ap p c.index-list-k.is)))
    (more_found p xs k x c.loop-k-test.true o (c.loop-k.invariant t n))
