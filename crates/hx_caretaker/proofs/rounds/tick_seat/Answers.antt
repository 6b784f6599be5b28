use Rattle.std.proofs.Common.{refl}
use Rattle.hx_connecting.specs.Journals.{room_of}
use Rattle.hx_pool.proofs.Caretaking.{fresh_stands}
use Rattle.hx_caretaker.specs.Sites.{site}
use Rattle.hx_caretaker.proofs.SeatLemmas.{tick_none, tick_some}
use Rattle.hx_caretaker.proofs.SweepLemmas.{journal_by}
use Rattle.hx_caretaker.proofs.rounds.tick_seat.Goals as goal

pub purge_all-requires : goal.purge_all-requires
purge_all-requires g c = record {
  one = c.in-Some.ensures.answer.makes.makes.one;
  stands = fresh_stands _ _ c.args.now c.in-Some.quota c.in-Some.ensures.answer;
}

pub returns-in-Some : goal.returns-in-Some
returns-in-Some g c =
    let S = g.S.HasHistory in
    let t = tick_some
    (site S.history (room_of S.kept_from S.spare) g.N.Net.state c.args.seat.now c.args.net.now)
    (site S.history (room_of S.kept_from S.spare) g.N.Net.state c.due.new.self c.args.net.now)
    (site S.history (room_of S.kept_from S.spare) g.N.Net.state c.purge_all.new.seat c.purge_all.new.net)
    c.args.now c.in-Some.quota _ c.in-Some.ensures.answer refl
    (λ es m few. journal_by _ _ _ _ _ _ _ es 1 m c.in-Some.ensures.grows c.in-Some.ensures.kept few)
    c.purge_all.ensures in
    record { cares = t.cares; holds = t.holds; journal = t.journal }

pub returns-in-None : goal.returns-in-None
returns-in-None g c =
    let S = g.S.HasHistory in
    let t = tick_none
    (site S.history (room_of S.kept_from S.spare) g.N.Net.state c.args.seat.now c.args.net.now)
    (site S.history (room_of S.kept_from S.spare) g.N.Net.state c.due.new.self c.args.net.now)
    c.args.now c.in-None.ensures.answer refl
    (λ es m few. journal_by _ _ _ _ _ _ _ es 1 m c.in-None.ensures.grows c.in-None.ensures.kept few) in
    record { cares = t.cares; holds = t.holds; journal = t.journal }
