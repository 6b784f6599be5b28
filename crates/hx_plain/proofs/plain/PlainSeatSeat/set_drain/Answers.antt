use Rattle.std.proofs.Common.{refl, true, sym, ◌∙◌, arith}
use Rattle.hx_plain.specs.PlainSeat.{about_alone}
use Rattle.hx_pool.proofs.Histories.{totals_more}
use Rattle.hx_plain.proofs.Steps.{set_gate_stands, made}
use Rattle.hx_plain.proofs.Keeping.{drains_anew, grows_by}
use Rattle.hx_plain.proofs.plain.PlainSeatSeat.set_drain.Goals as goal

pub invariant_of-self : goal.invariant_of-self
invariant_of-self g c =
    let s = c.self.invariant in
    let t = set_gate_stands _ _ _ _ s.stands true in
    rw c.write.ensures (record { stands = t; drains = drains_anew (about_alone c.self.inside.server c.self.inside.rules c.self.inside.start c.self.inside.ledger.board) c.self.inside.ledger.notes; counted = s.counted ∙ sym (totals_more c.self.inside.ledger.notes _); roomy = s.roomy })

pub returns-clause-answer : goal.returns-clause-answer
returns-clause-answer g c =
    let s = c.self.invariant.stands in
    let t = set_gate_stands _ _ _ _ s true in
    rw (← c.self.view_is, c.write.ensures) (record { makes = made _ _ _ c.self.inside.ledger.notes _ s.one t.one refl; passed = refl })

pub returns-clause-grows : goal.returns-clause-grows
returns-clause-grows g c =
    let s = c.self.invariant.stands in
    let t = set_gate_stands _ _ _ _ s true in
    rw (← c.self.view_is, c.write.ensures) (grows_by _ _ _ c.self.inside.ledger.notes _ _ s.one t.one refl c.one_mark-self-inside.ensures (omega arith))
