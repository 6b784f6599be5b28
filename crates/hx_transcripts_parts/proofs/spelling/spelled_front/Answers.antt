use Rattle.std.proofs.Common.{ℕ, List, ap, ◌∙◌}
use Rattle.hx_script_parts.specs.ByteText.{quoted}
use Rattle.hx_transcripts_parts.specs.Spelling.{behind_front}
use Rattle.hx_transcripts_parts.proofs.SpelledLemmas.{no_text, other_spelling, one_spelling}
use Rattle.hx_transcripts_parts.proofs.spelling.spelled_front.Goals as goal

pub returns-in_default : goal.returns-in_default
returns-in_default c = no_text c.args.text.now (rw c.in_default.is at c.in_ok-bytes.ensures.reads)

pub returns-in-None : goal.returns-in-None
returns-in-None c = other_spelling c.args.text.now c.in-Some.bytes.items c.in-Some.field-0-1.now (rw c.in-Some.is at c.in_ok-bytes.ensures.reads)
    (c.in-None.ensures ∙ ap (λ (xs : List ℕ). behind_front (quoted xs) c.args.text.now) c.as_slice.ensures.value)

pub returns : goal.returns
returns c = one_spelling c.args.text.now c.in-Some.bytes.items c.in-Some.field-0-1.now c.in-Some-behind_quoted.rest.now (rw c.in-Some.is at c.in_ok-bytes.ensures.reads)
    (c.in-Some-behind_quoted.ensures ∙ ap (λ (xs : List ℕ). behind_front (quoted xs) c.args.text.now) c.as_slice.ensures.value)
