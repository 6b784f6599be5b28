use Rattle.std.proofs.Common.{arith, ℕ, List, subst}
use Rattle.hx_replay.specs.Endings.{IsCheckOf}
use Rattle.hx_replay.proofs.CheckLemmas.{long_has_cause, check_has_cause}
use Rattle.hx_replay.proofs.check.check_source.Goals as goal

pub returns-then-len-gt-MOST_TRANSCRIPT : goal.returns-then-len-gt-MOST_TRANSCRIPT
returns-then-len-gt-MOST_TRANSCRIPT g c =
    long_has_cause _ _ c.in-Ok.bytes.items c.transcript_fault.result c.in-Ok.ensures.reads
    (omega (arith, c.if-len-gt-MOST_TRANSCRIPT.true, c.len.ensures)) c.transcript_fault.ensures

pub returns-in-Ok : goal.returns-in-Ok
returns-in-Ok g c =
    check_has_cause _ _ c.in-Ok.bytes.items c.check.result c.in-Ok.ensures.reads
    (omega (arith, c.if-len-gt-MOST_TRANSCRIPT.false, c.len.ensures))
    (subst (λ (text : List ℕ). IsCheckOf text c.check.result) c.as_slice.ensures.value c.check.ensures)
