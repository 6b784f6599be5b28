use Rattle.std.proofs.Common.{subst}
use Rattle.hx_script_parts.specs.declared.fault.TextFault.{TextFault}
use Rattle.hx_transcripts.specs.Faults.{IsFaultOf}
use Rattle.hx_transcripts.specs.Meaning.{meaning_of}
use Rattle.hx_check_text.proofs.Judging.{judged_all, faulty}
use Rattle.hx_check_text.proofs.check.check_text.Goals as goal

pub returns-in-Ok : goal.returns-in-Ok
returns-in-Ok c =
    judged_all c.args.text.now c.in-Ok.t c.judged.result c.judged.ensures.numbers c.in-Ok.ensures.spells c.in-Ok.ensures.short
    c.judged.ensures.judged

pub returns-in-Err-At : goal.returns-in-Err-At
returns-in-Err-At c =
    rw c.in-Err-At.field-0-is
    (faulty c.args.text.now c.in-Err-At.line c.in-Err-At.rule
    (subst (λ (e : TextFault). IsFaultOf e (meaning_of c.args.text.now)) c.in-Err-At.field-0-is c.in-Err-At.ensures.refused))
