use Rattle.std.proofs.Common.{◌∙◌, [], arith, sym, refl}
use Rattle.std.proofs.lemmas.List.{length-map}
use Rattle.hx_plain.specs.Row.{Rested}
use Rattle.hx_plain.proofs.Steps.{count_at}
use Rattle.hx_plain.proofs.Keeping.{keeps_on, calls_by, grows_by, grows_none}
use Rattle.hx_plain.proofs.plain.PlainSeatSeat.take_over.Goals as goal

pub invariant_of-self-then-count-self : goal.invariant_of-self-then-count-self
invariant_of-self-then-count-self g c =
    let i = c.self.inside in
    let s = c.self.invariant in
    let counted = c.len-count.ensures ∙ (i.resting.ok.0 ∙ sym (length-map i.resting.items (λ x. let r : Rested = record { place = x.place; shown = g.V.Faced.shows x.v } in r))) in
    let t = count_at _ _ _ _ s.stands c.len-count.result counted in
    rw c.write.ensures (keeps_on _ i.ledger.notes _ _ _ _ _ s _ _ _ _ _ t (tt, tt) refl s.roomy)

pub returns-then-count-self-clause-answer : goal.returns-then-count-self-clause-answer
returns-then-count-self-clause-answer g c =
    let i = c.self.inside in
    let s = c.self.invariant.stands in
    let counted = c.len-count.ensures ∙ (i.resting.ok.0 ∙ sym (length-map i.resting.items (λ x. let r : Rested = record { place = x.place; shown = g.V.Faced.shows x.v } in r))) in
    let t = count_at _ _ _ _ s c.len-count.result counted in
    rw (← c.self.view_is, c.write.ensures) (c.if-not-allows_some.ensures, c.if-count-self.true, calls_by _ _ i.ledger.notes _ s.one t.one refl)

pub invariant_of-self-2 : goal.invariant_of-self-2
invariant_of-self-2 g c =
    let i = c.self.inside in
    let s = c.self.invariant in
    let counted = c.len-count.ensures ∙ (i.resting.ok.0 ∙ sym (length-map i.resting.items (λ x. let r : Rested = record { place = x.place; shown = g.V.Faced.shows x.v } in r))) in
    let t = count_at _ _ _ _ s.stands c.len-count.result counted in
    rw c.write.ensures (keeps_on _ i.ledger.notes _ _ _ _ _ s _ _ _ _ _ t (tt, tt) refl s.roomy)

pub returns-clause-answer : goal.returns-clause-answer
returns-clause-answer g c =
    let i = c.self.inside in
    let s = c.self.invariant.stands in
    let counted = c.len-count.ensures ∙ (i.resting.ok.0 ∙ sym (length-map i.resting.items (λ x. let r : Rested = record { place = x.place; shown = g.V.Faced.shows x.v } in r))) in
    let t = count_at _ _ _ _ s c.len-count.result counted in
    rw (← c.self.view_is, c.write.ensures) (c.if-not-allows_some.ensures, record { c = c.len-count.result; enough = c.if-count-self.false; looks = []; looked = tt; none = λ row p r ne h. absurd (ne (omega arith)); makes = calls_by _ _ i.ledger.notes _ s.one t.one refl })

pub returns-then-not-allows_some-clause-grows : goal.returns-then-not-allows_some-clause-grows
returns-then-not-allows_some-clause-grows g c = rw (← c.self.view_is) (grows_none _ _ _ c.self.inside.ledger.notes c.self.invariant.stands.one)

pub returns-then-count-self-clause-grows : goal.returns-then-count-self-clause-grows
returns-then-count-self-clause-grows g c =
    let i = c.self.inside in
    let s = c.self.invariant.stands in
    let counted = c.len-count.ensures ∙ (i.resting.ok.0 ∙ sym (length-map i.resting.items (λ x. let r : Rested = record { place = x.place; shown = g.V.Faced.shows x.v } in r))) in
    let t = count_at _ _ _ _ s c.len-count.result counted in
    rw (← c.self.view_is, c.write.ensures) (grows_by _ _ _ i.ledger.notes _ _ s.one t.one refl refl (omega arith))

pub returns-clause-grows : goal.returns-clause-grows
returns-clause-grows g c =
    let i = c.self.inside in
    let s = c.self.invariant.stands in
    let counted = c.len-count.ensures ∙ (i.resting.ok.0 ∙ sym (length-map i.resting.items (λ x. let r : Rested = record { place = x.place; shown = g.V.Faced.shows x.v } in r))) in
    let t = count_at _ _ _ _ s c.len-count.result counted in
    rw (← c.self.view_is, c.write.ensures) (grows_by _ _ _ i.ledger.notes _ _ s.one t.one refl refl (omega arith))
