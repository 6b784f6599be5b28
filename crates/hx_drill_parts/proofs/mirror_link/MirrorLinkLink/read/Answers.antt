use Rattle.std.proofs.Common.{refl}
use Rattle.hx_drill_parts.proofs.Mirroring.{stays_along, stays_from}
use Rattle.hx_drill_parts.proofs.mirror_link.MirrorLinkLink.read.Goals as goal

pub returns-then-self-ge-MOST_BYTES-clause-stays :
    goal.returns-then-self-ge-MOST_BYTES-clause-stays
returns-then-self-ge-MOST_BYTES-clause-stays g c =
    let s = c.self.inside in
    stays_from s.counts s.owner s.taken s.answered s.sent.items s.gives.items s.gate.now c.args.self.now _ c.fail_read.new.self c.self.view_is refl refl refl
    c.fail_read.ensures.stays

pub returns-then-is_err-clause-stays : goal.returns-then-is_err-clause-stays
returns-then-is_err-clause-stays g c =
    let s = c.self.inside in
    stays_from s.counts s.owner s.taken s.answered s.sent.items s.gives.items s.gate.now c.args.self.now _ c.fail_read-then-is_err.new.self c.self.view_is refl refl refl
    (stays_along _ c.answer_next.new.self c.fail_read-then-is_err.new.self c.answer_next.ensures.stays c.fail_read-then-is_err.ensures.stays)

pub returns-clause-stays : goal.returns-clause-stays
returns-clause-stays g c =
    let s = c.self.inside in
    stays_from s.counts s.owner s.taken s.answered s.sent.items s.gives.items s.gate.now c.args.self.now _ c.give_next.new.self c.self.view_is refl refl refl
    (stays_along _ c.answer_next.new.self c.give_next.new.self c.answer_next.ensures.stays c.give_next.ensures.stays)
