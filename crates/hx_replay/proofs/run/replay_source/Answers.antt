use Rattle.std.proofs.Common.{arith, ℕ, List, subst}
use Rattle.hx_replay.specs.Endings.{IsEndingOf}
use Rattle.hx_replay.proofs.RunLemmas.{long_has_cause, replay_has_cause}
use Rattle.hx_replay.proofs.run.replay_source.Goals as goal

pub returns-then-len-gt-MOST_SCRIPT : goal.returns-then-len-gt-MOST_SCRIPT
returns-then-len-gt-MOST_SCRIPT g c =
    long_has_cause _ _ c.in-Ok.bytes.items c.script_fault.result c.in-Ok.ensures.reads (omega (arith, c.if-len-gt-MOST_SCRIPT.true, c.len.ensures)) c.script_fault.ensures

pub returns-in-Ok : goal.returns-in-Ok
returns-in-Ok g c =
    replay_has_cause _ _ c.in-Ok.bytes.items c.replay.result c.in-Ok.ensures.reads
    (omega (arith, c.if-len-gt-MOST_SCRIPT.false, c.len.ensures))
    (subst (λ (text : List ℕ). IsEndingOf text c.replay.result) c.as_slice.ensures.value c.replay.ensures)
