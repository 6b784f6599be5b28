use Rattle.std.proofs.Common.{sym, inl, ◌∙◌}
use Rattle.std.proofs.lemmas.List.{nil_from_length}
use Rattle.hx_session.specs.Desks.{desk_now}
use Rattle.hx_session.specs.Exchanged.{exchange_now}
use Rattle.hx_session.proofs.DoLemmas.{at_end}
use Rattle.hx_session.proofs.answers.next_of_body.Goals as goal

pub returns-then-len-eq0 : goal.returns-then-len-eq0
returns-then-len-eq0 g c = record {
  body = c.args.body.now;
  is = c.requires.body;
  ends = inl c.in-Done.is;
  given = nil_from_length _ (sym c.len.ensures.len ∙ c.if-len-eq0.true);
}

pub returns-then-len-eq0-2 : goal.returns-then-len-eq0-2
returns-then-len-eq0-2 g c =
    at_end (desk_now g.L.Link.state c.args.desk.now) (exchange_now c.args.exchange.now) c.args.body.now c.next_at_end.result c.requires.body c.in-Going.is
    (nil_from_length _ (sym c.len-in-Going.ensures.len ∙ c.if-len-eq0-2.true)) c.next_at_end.ensures
