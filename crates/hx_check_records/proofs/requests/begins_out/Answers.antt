use Rattle.std.proofs.Common.{inl, sym, ◌∙◌, refl}
use Rattle.std.proofs.lemmas.Bool.{false≢true}
use Rattle.hx_check_records.proofs.RequestLemmas.{begins_parts, begins_from, none_begins}
use Rattle.hx_check_records.proofs.requests.begins_out.Goals as goal

pub returns-then-is_nothing : goal.returns-then-is_nothing
returns-then-is_nothing c = (λ yes. inl (c.is_nothing.ensures.0 c.if-is_nothing.true), λ begins. refl)

pub returns-in-None : goal.returns-in-None
returns-in-None c = (
  λ no. absurd (false≢true no),
  λ begins. sym c.if-is_nothing.false ∙ c.is_nothing.ensures.1 (none_begins c.args.ask.now c.args.sent.now c.in-None.ensures begins),
)

pub returns-in-Some : goal.returns-in-Some
returns-in-Some c =
    let found = c.in-Some.ensures in
    let says = c.begins_with.ensures found.0 found.1 in (
      λ yes. begins_from c.args.ask.now c.args.sent.now c.in-Some.head found.0 found.1 (says.0 yes),
      λ begins.
          says.1 (begins_parts c.args.ask.now c.args.sent.now c.in-Some.head found.0 found.1
          (λ is. false≢true (sym c.if-is_nothing.false ∙ c.is_nothing.ensures.1 is)) begins),
    )
