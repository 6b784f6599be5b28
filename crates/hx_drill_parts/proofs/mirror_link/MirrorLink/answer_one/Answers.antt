use Rattle.hx_drill_parts.proofs.Mirroring.{grown_by, mirror_step, stays_unchanged}
use Rattle.hx_drill_parts.proofs.mirror_link.MirrorLink.answer_one.Goals as goal

-- src/mirror_link.rt:169:9
pub returns-in_err-extend_from_slice-clause-stays :
    goal.returns-in_err-extend_from_slice-clause-stays
returns-in_err-extend_from_slice-clause-stays g c =
    let s = c.self.inside in
    stays_unchanged s.counts s.owner s.taken s.answered s.sent.items s.gives.items c.extend_from_slice.new.self.items s.gate.now
    c.args.self.now c.self.view_is c.in_err-extend_from_slice.ensures.items

-- src/mirror_link.rt:160:5
pub invariant_of-self-2 : goal.invariant_of-self-2
invariant_of-self-2 g c =
    let s = c.self.inside in
    mirror_step g.T.Turnstile.shuts s.counts s.owner s.taken s.answered c.args.heard.length s.sent.items s.gives.items
    c.extend_from_slice.new.self.items c.in_ok-text.text.items s.gate.now c.args.heard.ask c.args.self.now c.self.view_is
    c.self.invariant c.requires.heard c.in_ok-text.ensures
    (grown_by s.gives.items c.extend_from_slice.new.self.items c.as_slice.result.now c.in_ok-text.text.items
    c.in_ok-extend_from_slice.ensures.items c.as_slice.ensures.value) c.requires.pass
