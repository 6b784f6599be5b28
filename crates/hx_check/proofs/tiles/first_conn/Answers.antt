use Rattle.hx_check_parts.proofs.EachLemmas.{is_not_true}
use Rattle.hx_check.specs.Rules.{ConnIn}
use Rattle.hx_check.proofs.ItemLemmas.{more_at, sent_first, took_first}
use Rattle.hx_check.proofs.tiles.first_conn.Goals as goal

pub returns-then-not-sent_holds : goal.returns-then-not-sent_holds
returns-then-not-sent_holds c =
    sent_first c.args.records.now c.args.conns.now c.loop-k.k c.index-conns-k.result c.loop-k-test.true c.index-conns-k.is c.loop-k.invariant
    (λ sent. is_not_true c.sent_holds.result c.if-not-sent_holds.true (c.sent_holds.ensures.1 sent))

pub returns-then-not-took_holds : goal.returns-then-not-took_holds
returns-then-not-took_holds c =
    took_first c.args.records.now c.args.conns.now c.loop-k.k c.index-conns-k.result c.loop-k-test.true c.index-conns-k.is c.loop-k.invariant
    (c.sent_holds.ensures.0 c.if-not-sent_holds.false)
    (λ took. is_not_true c.took_holds.result c.if-not-took_holds.true (c.took_holds.ensures.1 took))

pub loop-k-preserved : goal.loop-k-preserved
loop-k-preserved c =
    more_at (ConnIn c.args.records.now) c.args.conns.now c.loop-k.k c.index-conns-k.result c.loop-k-test.true c.index-conns-k.is c.loop-k.invariant
    (c.sent_holds.ensures.0 c.if-not-sent_holds.false, c.took_holds.ensures.0 c.if-not-took_holds.false)
