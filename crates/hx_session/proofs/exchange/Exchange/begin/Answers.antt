use Rattle.std.proofs.Common.{◌≡◌, ℕ, List, [], take, refl, sym, ◌∙◌, subst, zero, suc}
use Rattle.hx_frame.specs.Meters.{HasUsed}
use Rattle.hx_session.proofs.exchange.Exchange.begin.Goals as goal

abbrev the_empty : List ℕ
the_empty = []

take_none : (n : ℕ) → take n the_empty ≡ the_empty
take_none zero = refl
take_none (suc n) = refl

pub returns : goal.returns
returns g c = record {
  busy_is = refl;
  ended = refl;
  answered = refl;
  answer = refl;
  wants = refl;
  written = refl;
  state = c.feed-state.ensures.state;
  good = λ fine bad. fine (sym (c.feed-state.ensures.nothing refl) ∙ bad);
  used = λ u. subst (λ (xs : List ℕ). HasUsed c.args.asked.now.kind xs c.feed-state.new.self) (take_none c.feed-state.result.used) (c.feed-state.ensures.used c.args.asked.now.kind [] u);
}
