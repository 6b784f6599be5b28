use Rattle.std.proofs.Common.{◌-◌, ◌≤◌, List, false, sym, ap, ◌∙◌, subst, arith, inl, inr}
use Rattle.hx_base.specs.declared.numbers.ConnId.{ConnId}
use Rattle.hx_base.specs.declared.numbers.Face.{Face}
use Rattle.hx_pool.specs.declared.entries.Note.{Note}
use Rattle.hx_pool.specs.Held.{Has}
use Rattle.hx_pool.specs.SeatView.{About}
use Rattle.hx_pool.proofs.Exchanges.{exchanged}
use Rattle.hx_pool.proofs.Holding.{closed_at_exit}
use Rattle.hx_pool.proofs.Calls.{has_opened, has_taken}
use Rattle.hx_pool.proofs.exchange.one_exchange.Goals as goal

pub park-requires : goal.park-requires
park-requires g c =
    let a = g.S.HasHistory.history c.args.seat.now in
    let b = g.S.HasHistory.history c.open_new.new.self in
    let m = c.in-Ok.ensures.answer.1.makes in
    let id : ConnId = c.in-Ok.id in
    let f = c.dial-made.ensures.face in
    let has : Has b.mine c.args.n id.0 0 = subst (λ (l : List Note). Has l c.args.n id.0 0) (sym m.mine) (has_opened a.mine a.about.thread c.args.n id) in
    record {
      session = c.requires.session;
      server = c.dial-made.ensures.server ∙ (c.requires.server ∙ ap (λ (x : About). x.server) (sym m.about));
      has = subst (λ (x : Face). Has b.mine c.args.n x.id.0 (x.uses - 1)) (sym f) has;
      used = subst (λ (x : Face). 1 ≤ x.uses) (sym f) (omega arith);
    }

pub returns-in-Err-park : goal.returns-in-Err-park
returns-in-Err-park g c =
    let h = g.S.HasHistory.history in
    inr (inl (record {
      opened = c.in-Ok.id;
      held = h c.open_new.new.self;
      refused = h c.park.new.self;
      v = g.V.Faced.shows c.dial-made.result;
      why = c.in-Err-park.field-0.why;
      opens = c.in-Ok.ensures.answer.1;
      refuses = c.in-Err-park.ensures.answer;
      closes = c.close.ensures.answer;
      closed = closed_at_exit (h c.park.new.self) (h c.close.new.self) c.args.n c.in-Ok.id c.close.ensures.answer;
    }))

pub close-requires-2 : goal.close-requires-2
close-requires-2 g c =
    let a = g.S.HasHistory.history c.park.new.self in
    let t = c.in_ok-taken.ensures.answer in
    let f = (g.V.Faced.shows c.in_ok-taken.taken).face in (
      f.uses,
      subst (λ (x : Face). Has (g.S.HasHistory.history c.take_own.new.self).mine c.args.n x.id.0 f.uses) (sym c.face.ensures)
          (subst (λ (l : List Note). Has l c.args.n f.id.0 f.uses) (sym t.takes.makes.mine) (has_taken a.mine t.takes.looks a.about.thread c.args.n false t.place f t.takes.count)),
    )

pub returns : goal.returns
returns g c =
    let h = g.S.HasHistory.history in
    exchanged (h c.args.seat.now) (h c.open_new.new.self) (h c.park.new.self) (h c.take_own.new.self) (h c.close-2.new.self) c.args.n c.in-Ok.id c.in-Ok-park.field-0
    (g.V.Faced.shows c.dial-made.result) (g.V.Faced.shows c.in_ok-taken.taken) c.face.result.id c.in-Ok.ensures.answer.1 c.in-Ok-park.ensures.answer c.dial-made.ensures.face c.in_ok-taken.ensures.answer
    (ap (λ (f : Face). f.id) c.face.ensures) c.close-2.ensures.answer
