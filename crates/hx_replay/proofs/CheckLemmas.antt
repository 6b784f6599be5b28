-- A check of what a source gave ends for a cause.
use Rattle.std.proofs.Common.{◌≡◌, ℕ, ◌<◌, ◌≤◌, List, [], ◌∷◌, length, take, Option, Some, None, Result, Ok, Err, refl, inl, inr, subst, arith, lt-ltb}
use Rattle.std.specs.Prelude.{codes, IfSome}
use Rattle.hx_link.specs.Told.{SourceState}
use Rattle.hx_link.specs.Whole.{ReadsAll}
use Rattle.hx_transcripts.specs.Meaning.{flaw, longest_text, meaning_of}
use Rattle.hx_transcripts_parts.specs.declared.fault.Rule.TheVariants.{TooLong}
use Rattle.hx_check_text.specs.Checked.{IsFault}
use Rattle.hx_replay.specs.Checks.{most_transcript}
use Rattle.hx_replay.specs.declared.ending.Ending.{Ending}
use Rattle.hx_replay.specs.declared.ending.Ending.TheVariants as ending
use Rattle.hx_replay.specs.Endings.{HasCause, IsCheckOf, TellsTranscriptFault}
use Rattle.hx_replay.proofs.RunLemmas.{of_left}

-- ---- a text that is too long

too_long : (text : List ℕ) → most_transcript < length text → meaning_of text ≡ Err (flaw 1 TooLong)
unfolding meaning_of
too_long text long = rw (lt-ltb longest_text (length text) long) refl

long_is_faulty : (text : List ℕ) → most_transcript < length text → IsFault text 1 6
long_is_faulty text long = record { first = rw (too_long text long) (refl, refl); none = λ t fits short spells. absurd (omega (arith, short, long)) }

-- more was left than was read
left_is_faulty : (text : List ℕ) (left : Option (List ℕ)) → most_transcript < length text
    → IfSome left (λ xs. (length text ≤ length xs) × (text ≡ take (length text) xs)) → IfSome left (λ xs. IsFault xs 1 6)
left_is_faulty text None long front = tt
left_is_faulty text (Some xs) long front = long_is_faulty xs (omega (arith, long, front.0))

pub long_has_cause : (old new : SourceState) (text : List ℕ) (e : Ending) → ReadsAll most_transcript old new text → most_transcript < length text
    → TellsTranscriptFault 1 6 e → HasCause (codes "check" ∷ []) old new e
long_has_cause old new text (ending.TranscriptFault out) all long tells = (
  1,
  6,
  record {
    command = refl;
    out = record { same = all.same; bytes = text; front = all.front; out = inr long };
    fault = left_is_faulty text old.left long all.front.read;
  },
  tells,
)
long_has_cause old new text ending.NoMemory all long tells = tt
long_has_cause old new text ending.Usage all long tells = absurd tells
long_has_cause old new text ending.SourceFault all long tells = absurd tells
long_has_cause old new text ending.Unbuilt all long tells = absurd tells
long_has_cause old new text (ending.Done out) all long tells = absurd tells
long_has_cause old new text (ending.ConfigFault out) all long tells = absurd tells
long_has_cause old new text (ending.ScriptFault out) all long tells = absurd tells
long_has_cause old new text (ending.Overrun out) all long tells = absurd tells
long_has_cause old new text ending.Holds all long tells = absurd tells
long_has_cause old new text (ending.Broken out) all long tells = absurd tells

-- ---- one that isn't

pub check_has_cause : (old new : SourceState) (text : List ℕ) (e : Ending) → ReadsAll most_transcript old new text
    → length text ≤ most_transcript → IsCheckOf text e → HasCause (codes "check" ∷ []) old new e
check_has_cause old new text ending.Usage all short r = absurd r
check_has_cause old new text ending.SourceFault all short r = absurd r
check_has_cause old new text ending.Unbuilt all short r = absurd r
check_has_cause old new text (ending.Done out) all short r = absurd r
check_has_cause old new text (ending.ConfigFault out) all short r = absurd r
check_has_cause old new text (ending.ScriptFault out) all short r = absurd r
check_has_cause old new text (ending.Overrun out) all short r = absurd r
check_has_cause old new text ending.Holds all short r =
    record { command = refl; ended = (all.ended short).0; same = all.same; bytes = text; read = (all.ended short).1; judged = r }
check_has_cause old new text (ending.TranscriptFault out) all short (line, rule, fault, is) = (
  line,
  rule,
  record {
    command = refl;
    out = record { same = all.same; bytes = text; front = all.front; out = inl (all.ended short).0 };
    fault = of_left (λ xs. IsFault xs line rule) text old.left (all.ended short).1 fault;
  },
  is,
)
check_has_cause old new text (ending.Broken out) all short (rule, line, judged, is) = (
  rule,
  line,
  record { command = refl; ended = (all.ended short).0; same = all.same; bytes = text; read = (all.ended short).1; judged = judged },
  is,
)
check_has_cause old new text ending.NoMemory all short r = tt
