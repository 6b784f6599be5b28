use Rattle.std.proofs.Common.{ap, inl, refl}
use Rattle.hx_session.specs.Desks.{desk_now, DeskNow}
use Rattle.hx_session.specs.Seen.{conn_seen}
use Rattle.hx_session.specs.Stages.{stage_of_choosing}
use Rattle.hx_session.specs.declared.step.Waiting.TheVariants.{Nothing}
use Rattle.hx_session.proofs.PartLemmas.{goes_answering}
use Rattle.hx_session.proofs.TellLemmas.{answers_none}
use Rattle.hx_session.proofs.OwnLemmas.{unavailable_text}
use Rattle.hx_session.proofs.DecidedLemmas.{own_stage_is}
use Rattle.hx_session.proofs.asks.refuse.Goals as goal

pub answer-requires-clause-known : goal.answer-requires-clause-known
answer-requires-clause-known g c = unavailable_text

pub returns : goal.returns
returns g c = record {
  comes = λ seats net p.
      let d : DeskNow = desk_now g.L.Link.state c.args.desk.now in
      let d2 : DeskNow = desk_now g.L.Link.state c.answer.new.desk in
      let a = c.answer.ensures in
      let none = answers_none d d2 503 a.answers in
      let k = goes_answering d d2 (stage_of_choosing c.args.choosing) 503 c.args.choosing.held seats net c.answer.result Nothing refl c.requires.between p.set.numbered p.set.around p.set.own a.stage a.answers none in
      record {
        placed = k.placed;
        keeps = k.keeps;
        touches = inl (refl, refl, ap conn_seen a.stage);
        picks = k.picks;
        routed = k.routed;
        told = none;
      };
  own = own_stage_is _ 503 c.args.choosing.held c.answer.ensures.stage;
}
