use Rattle.hx_transcripts_parts.proofs.FrontLemmas.{no_quote, no_letters, closed_so}
use Rattle.hx_transcripts_parts.proofs.spelling.behind_quoted.Goals as goal

pub returns-in_default : goal.returns-in_default
returns-in_default c = no_quote c.args.bytes.now c.args.text.now (rw c.in_default.is at c.behind.ensures)

pub returns-in_default-behind_letters : goal.returns-in_default-behind_letters
returns-in_default-behind_letters c =
    no_letters c.args.bytes.now c.args.text.now c.in-Some.letters.now c.in-Some.ensures (rw c.in_default-behind_letters.is at c.behind_letters.ensures)

pub returns : goal.returns
returns c =
    closed_so c.args.bytes.now c.args.text.now c.in-Some.letters.now c.in-Some-behind_letters.rest.now _
    c.in-Some.ensures c.in-Some-behind_letters.ensures c.behind-2.ensures
