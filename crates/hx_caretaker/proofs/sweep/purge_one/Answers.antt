use Rattle.std.proofs.Common.{arith, refl}
use Rattle.hx_conn.specs.WhatTold.{shown}
use Rattle.hx_connecting.specs.Journals.{room_of}
use Rattle.hx_pool.proofs.Caretaking.{taking_marks}
use Rattle.hx_caretaker.specs.Sites.{site}
use Rattle.hx_caretaker.proofs.PurgeLemmas.{takes_has, purge_takes, purge_ends}
use Rattle.hx_caretaker.proofs.SweepLemmas.{journal_by}
use Rattle.hx_caretaker.proofs.sweep.purge_one.Goals as goal

pub close_taken-requires : goal.close_taken-requires
close_taken-requires g c = record { has = takes_has _ _ _ (shown c.in-Some.taken) c.in-Some.ensures.answer.takes }

pub returns-in-Some-clause-took : goal.returns-in-Some-clause-took
returns-in-Some-clause-took g c e =
    let S = g.S.HasHistory in let p = c.in-Some.ensures.answer in
    let one = taking_marks _ _ _ _ _ (shown c.in-Some.taken) p.takes in
    purge_takes
    (site S.history (room_of S.kept_from S.spare) g.N.Net.state c.args.seat.now c.args.net.now)
    (site S.history (room_of S.kept_from S.spare) g.N.Net.state c.purge_next.new.self c.args.net.now)
    (site S.history (room_of S.kept_from S.spare) g.N.Net.state c.close_taken.new.seat c.close_taken.new.net)
    c.args.quota.now c.purge_next.new.quota c.in-Some.taken p c.in-Some.ensures.quota refl
    (journal_by _ _ _ _ _ _ _ _ 1 p.takes.makes c.in-Some.ensures.grows c.in-Some.ensures.kept (omega (arith, one)))
    c.close_taken.ensures

pub returns-in-None-clause-none : goal.returns-in-None-clause-none
returns-in-None-clause-none g c e =
    let S = g.S.HasHistory in
    purge_ends
    (site S.history (room_of S.kept_from S.spare) g.N.Net.state c.args.seat.now c.args.net.now)
    (site S.history (room_of S.kept_from S.spare) g.N.Net.state c.purge_next.new.self c.args.net.now)
    c.args.quota.now c.purge_next.new.quota c.in-None.ensures.answer refl
    (λ es m none. journal_by _ _ _ _ _ _ _ es 0 m c.in-None.ensures.grows c.in-None.ensures.kept (rw none (omega arith)))
