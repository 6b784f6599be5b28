use Rattle.std.proofs.Common.{refl, sym, subst, arith}
use Rattle.hx_base.specs.declared.order.Order.{Order}
use Rattle.hx_connecting.specs.Journals.{room_of}
use Rattle.hx_caretaker.specs.Orders.{Obeys}
use Rattle.hx_caretaker.specs.Sites.{Site, site}
use Rattle.hx_caretaker.proofs.DrainLemmas.{drain_begun}
use Rattle.hx_caretaker.proofs.SeatLemmas.{Tends, drain_tends, ready_tends}
use Rattle.hx_caretaker.proofs.SweepLemmas.{journal_by}
use Rattle.hx_caretaker.proofs.orders.order_seat.Goals as goal

pub drain_all-requires : goal.drain_all-requires
drain_all-requires g c = drain_begun _ _ c.set_drain.ensures.answer

pub returns-in-Drain : goal.returns-in-Drain
returns-in-Drain g c =
    let S = g.S.HasHistory in let e = c.set_drain.ensures in
    let a : Site = site S.history (room_of S.kept_from S.spare) g.N.Net.state c.args.seat.now c.args.net.now in
    let m : Site = site S.history (room_of S.kept_from S.spare) g.N.Net.state c.set_drain.new.self c.args.net.now in
    let b : Site = site S.history (room_of S.kept_from S.spare) g.N.Net.state c.drain_all.new.seat c.drain_all.new.net in
    let t = subst (λ (w : Order). Tends (Obeys w) a b c.drain_all.result) (sym c.in-Drain.is)
    (drain_tends a m b c.in-Drain.field-0 c.drain_all.result e.answer refl (journal_by _ _ _ _ _ _ _ _ 1 e.answer.makes e.grows e.kept (omega arith)) c.drain_all.ensures) in
    record { cares = t.cares; holds = t.holds; journal = t.journal }

pub returns-in-Ready : goal.returns-in-Ready
returns-in-Ready g c =
    let S = g.S.HasHistory in let e = c.set_ready.ensures in
    let a : Site = site S.history (room_of S.kept_from S.spare) g.N.Net.state c.args.seat.now c.args.net.now in
    let b : Site = site S.history (room_of S.kept_from S.spare) g.N.Net.state c.set_ready.new.self c.args.net.now in
    let t = subst (λ (w : Order). Tends (Obeys w) a b 0) (sym c.in-Ready.is)
    (ready_tends a b c.in-Ready.field-0 e.answer refl (journal_by _ _ _ _ _ _ _ _ 1 e.answer.makes e.grows e.kept (omega arith))) in
    record { cares = t.cares; holds = t.holds; journal = t.journal }
