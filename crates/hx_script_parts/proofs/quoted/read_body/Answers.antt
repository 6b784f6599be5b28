use Rattle.std.proofs.Common.{ℕ, List, Some, sym, ap, ◌∙◌, ◌+◌}
use Rattle.std.proofs.lemmas.List.{take_rest}
use Rattle.hx_script_parts.proofs.QuotedLemmas.{ended, spoilt, read_byte, changed_mode, no_end}
use Rattle.hx_script_parts.proofs.quoted.read_body.Goals as goal
use Rattle.hx_script_parts.proofs.quoted.read_body.Goals.{in-Byte+in_ok-put-in-Byte, in-Mode}

pub returns-in-End : goal.returns-in-End
returns-in-End c =
    ap (λ (xs : List ℕ). Some (c.loop-i.bytes.items, xs)) (take_rest c.args.text.now (c.loop-i.i + 1))
    ∙ ended c.loop-i.mode c.args.text.now c.loop-i.bytes.items c.loop-i.i _ c.loop-i-test.true (sym c.step_of.ensures ∙ c.in-End.is) c.loop-i.invariant

pub returns-in-Bad : goal.returns-in-Bad
returns-in-Bad c = spoilt c.loop-i.mode c.args.text.now c.loop-i.bytes.items c.loop-i.i _ c.loop-i-test.true (sym c.step_of.ensures ∙ c.in-Bad.is) c.loop-i.invariant

pub loop-i-preserved : goal.loop-i-preserved
loop-i-preserved c =
    elim c.match-step_of.branch [
      | in-Byte+in_ok-put-in-Byte w ↦
          rw (w.bytes-is, w.in_ok-put-in-Byte.ensures, w.mode-is) (read_byte c.loop-i.mode c.args.text.now c.loop-i.bytes.items c.loop-i.i w.in-Byte.c _ c.loop-i-test.true (sym c.step_of.ensures ∙ w.in-Byte.is) c.loop-i.invariant)
      | in-Mode w ↦
          rw (w.bytes-is, w.mode-is) (changed_mode c.loop-i.mode w.in-Mode.next c.args.text.now c.loop-i.bytes.items c.loop-i.i _ c.loop-i-test.true (sym c.step_of.ensures ∙ w.in-Mode.is) c.loop-i.invariant)
    ]

pub returns : goal.returns
returns c = no_end c.loop-i.mode c.args.text.now c.loop-i.bytes.items c.loop-i.i _ c.loop-i-test.false c.loop-i.invariant
