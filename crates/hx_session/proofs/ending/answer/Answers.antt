use Rattle.std.proofs.Common.{◌≤◌, ℕ, length, sym, ap, subst, ◌∙◌}
use Rattle.hx_link.specs.Pipes.{PipeNow, pipe}
use Rattle.hx_session.specs.Desks.{desk_now, DeskNow, emptied}
use Rattle.hx_session.proofs.OwnLemmas.{own_short}
use Rattle.hx_session.proofs.ending.answer.Goals as goal

pub put_text-requires : goal.put_text-requires
put_text-requires g c =
    let e = c.drop_waiting.ensures in
    record {
      empty = ap (λ (x : DeskNow). x.to.bytes) e;
      fits = subst (λ (n : ℕ). length c.own_text.result.now ≤ n) (sym (ap (λ (x : DeskNow). x.to.capacity) e ∙ c.requires.desk.to)) (own_short c.args.status c.own_text.result.now c.own_text.ensures);
    }

pub returns-clause-answers : goal.returns-clause-answers
returns-clause-answers g c =
    let d : DeskNow = desk_now g.L.Link.state c.args.desk.now in
    let e = c.drop_waiting.ensures in
    record {
      text = c.own_text.result.now;
      own = c.own_text.ensures;
      desk = ap (λ (x : DeskNow). record x { to = c.put_text.new.pipe; waits_since = c.wait_start-desk.result }) e
          ∙ ap (λ (p : PipeNow). record (emptied d) { to = p; waits_since = c.wait_start-desk.result })
          (c.put_text.ensures ∙ ap (λ (x : DeskNow). pipe c.own_text.result.now x.to.capacity) e);
    }
