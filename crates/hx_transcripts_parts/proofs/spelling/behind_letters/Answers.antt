use Rattle.std.proofs.Common.{refl, sym, get_or}
use Rattle.hx_transcripts_parts.proofs.FrontLemmas.{letter_passed, letter_missing, letters_over}
use Rattle.hx_transcripts_parts.proofs.spelling.behind_letters.Goals as goal

pub returns-in-None : goal.returns-in-None
returns-in-None c =
    sym (letter_missing c.args.bytes.now c.loop-b.rest.now c.loop-b.b-index (get_or c.args.bytes.now c.loop-b.b-index 0) _ c.loop-b-test.true refl
    (sym c.in-None.ensures) c.loop-b.invariant)

pub loop-b-preserved : goal.loop-b-preserved
loop-b-preserved c =
    letter_passed c.args.bytes.now c.loop-b.rest.now c.in-Some.after.now c.loop-b.b-index (get_or c.args.bytes.now c.loop-b.b-index 0) _ c.loop-b-test.true refl
    (sym c.in-Some.ensures) c.loop-b.invariant

pub returns : goal.returns
returns c = sym (letters_over c.args.bytes.now c.loop-b.rest.now c.loop-b.b-index _ c.loop-b-test.false c.loop-b.invariant)
