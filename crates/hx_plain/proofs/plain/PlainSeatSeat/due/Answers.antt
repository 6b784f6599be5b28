use Rattle.std.proofs.Common.{ℕ, ◌∙◌, ◌/◌, sym, ap}
use Rattle.hx_plain.proofs.Keeping.{grows_none}
use Rattle.std.proofs.lemmas.List.{length-map}
use Rattle.std.specs.Vec.{vec_capacity}
use Rattle.hx_plain.specs.PlainSeat.{about_alone}
use Rattle.hx_plain.specs.Row.{Rested, rests_of}
use Rattle.hx_plain.proofs.Parks.{book_more}
use Rattle.hx_plain.proofs.Rounds.{not_due, is_due}
use Rattle.hx_plain.proofs.plain.PlainSeatSeat.due.Goals as goal

pub invariant_of-self-then-old-k : goal.invariant_of-self-then-old-k
invariant_of-self-then-old-k g c =
    let i = c.self.inside in
    let t = not_due (about_alone i.server i.rules i.start i.ledger.board) i.passed i.ledger.notes i.next i.draining i.round (rests_of g.V.Faced.shows i.resting.items) i.totals (vec_capacity i.resting) c.self.invariant c.args.now _ (ap (λ (x : ℕ). x / i.rules.delay.0) c.saturating_sub.ensures) c.if-self-eq0.false c.if-old-k.true in
    rw c.write.ensures t.0

pub returns-then-old-k-clause-answer : goal.returns-then-old-k-clause-answer
returns-then-old-k-clause-answer g c =
    let i = c.self.inside in
    let t = not_due (about_alone i.server i.rules i.start i.ledger.board) i.passed i.ledger.notes i.next i.draining i.round (rests_of g.V.Faced.shows i.resting.items) i.totals (vec_capacity i.resting) c.self.invariant c.args.now _ (ap (λ (x : ℕ). x / i.rules.delay.0) c.saturating_sub.ensures) c.if-self-eq0.false c.if-old-k.true in
    rw (← c.self.view_is, c.write.ensures) t.1

pub returns-then-old-k-clause-grows : goal.returns-then-old-k-clause-grows
returns-then-old-k-clause-grows g c =
    let i = c.self.inside in
    let t = not_due (about_alone i.server i.rules i.start i.ledger.board) i.passed i.ledger.notes i.next i.draining i.round (rests_of g.V.Faced.shows i.resting.items) i.totals (vec_capacity i.resting) c.self.invariant c.args.now _ (ap (λ (x : ℕ). x / i.rules.delay.0) c.saturating_sub.ensures) c.if-self-eq0.false c.if-old-k.true in
    rw (← c.self.view_is, c.write.ensures) t.2

pub invariant_of-self-2 : goal.invariant_of-self-2
invariant_of-self-2 g c =
    let i = c.self.inside in
    let counted = c.len-count.ensures ∙ (i.resting.ok.0 ∙ sym (length-map i.resting.items (λ x. let r : Rested = record { place = x.place; shown = g.V.Faced.shows x.v } in r))) in
    let t = is_due (about_alone i.server i.rules i.start i.ledger.board) i.passed i.ledger.notes i.next i.draining i.round (rests_of g.V.Faced.shows i.resting.items) i.totals (vec_capacity i.resting) c.self.invariant c.args.now _ (ap (λ (x : ℕ). x / i.rules.delay.0) c.saturating_sub.ensures) c.if-self-eq0.false c.if-old-k.false c.len-count.result counted in
    rw (book_more i.ledger c.write.new.self c.write-2.new.self _ _ c.write.ensures c.write-2.ensures) t.0

pub returns-clause-answer : goal.returns-clause-answer
returns-clause-answer g c =
    let i = c.self.inside in
    let counted = c.len-count.ensures ∙ (i.resting.ok.0 ∙ sym (length-map i.resting.items (λ x. let r : Rested = record { place = x.place; shown = g.V.Faced.shows x.v } in r))) in
    let t = is_due (about_alone i.server i.rules i.start i.ledger.board) i.passed i.ledger.notes i.next i.draining i.round (rests_of g.V.Faced.shows i.resting.items) i.totals (vec_capacity i.resting) c.self.invariant c.args.now _ (ap (λ (x : ℕ). x / i.rules.delay.0) c.saturating_sub.ensures) c.if-self-eq0.false c.if-old-k.false c.len-count.result counted in
    rw (← c.self.view_is, book_more i.ledger c.write.new.self c.write-2.new.self _ _ c.write.ensures c.write-2.ensures, c.quota_after.ensures) t.1

pub returns-then-self-eq0-clause-grows : goal.returns-then-self-eq0-clause-grows
returns-then-self-eq0-clause-grows g c = rw (← c.self.view_is) (grows_none _ _ _ c.self.inside.ledger.notes c.self.invariant.stands.one)

pub returns-clause-grows : goal.returns-clause-grows
returns-clause-grows g c =
    let i = c.self.inside in
    let counted = c.len-count.ensures ∙ (i.resting.ok.0 ∙ sym (length-map i.resting.items (λ x. let r : Rested = record { place = x.place; shown = g.V.Faced.shows x.v } in r))) in
    let t = is_due (about_alone i.server i.rules i.start i.ledger.board) i.passed i.ledger.notes i.next i.draining i.round (rests_of g.V.Faced.shows i.resting.items) i.totals (vec_capacity i.resting) c.self.invariant c.args.now _ (ap (λ (x : ℕ). x / i.rules.delay.0) c.saturating_sub.ensures) c.if-self-eq0.false c.if-old-k.false c.len-count.result counted in
    rw (← c.self.view_is, book_more i.ledger c.write.new.self c.write-2.new.self _ _ c.write.ensures c.write-2.ensures) (rw c.one_mark-self-inside.ensures t.2)
