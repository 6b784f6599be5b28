-- A replay of what a source gave ends for a cause.
use Rattle.std.proofs.Common.{◌≡◌, ℕ, ◌<◌, ◌≤◌, List, [], ◌∷◌, length, take, Option, Some, None, Result, Ok, Err, refl, sym, ◌∙◌, inl, inr, subst, arith, lt-ltb}
use Rattle.std.specs.Prelude.{codes, IfSome}
use Rattle.hx_link.specs.Told.{SourceState}
use Rattle.hx_link.specs.Whole.{ReadsAll}
use Rattle.hx_script_parts.specs.Meaning.{Meaning, longest_text, meaning_of}
use Rattle.hx_script_parts.specs.declared.fault.Flaw.{Flaw}
use Rattle.hx_script_parts.specs.declared.fault.Flaw.TheVariants as flaw
use Rattle.hx_script_parts.specs.declared.fault.Rule.TheVariants.{TooLong}
use Rattle.hx_plays.specs.Plays.{HasScriptFault, most_script}
use Rattle.hx_replay.specs.declared.ending.Ending.{Ending}
use Rattle.hx_replay.specs.declared.ending.Ending.TheVariants as ending
use Rattle.hx_replay.specs.Endings.{HasCause, IsEndingOf, TellsScriptFault}

-- what holds of the bytes that were read holds of those that were left
pub of_left : (P : List ℕ → Type 0) (text : List ℕ) (left : Option (List ℕ)) → IfSome left (λ xs. text ≡ xs) → P text → IfSome left P
of_left P text None same p = tt
of_left P text (Some xs) same p = subst P same p

-- ---- a text that is too long

too_long : (text : List ℕ) → most_script < length text → meaning_of text ≡ Err (flaw.Line 1 TooLong)
unfolding meaning_of
too_long text long = rw (lt-ltb longest_text (length text) long) refl

long_breaks : (text : List ℕ) → most_script < length text → HasScriptFault text 1 10
long_breaks text long = inl (TooLong, too_long text long, refl)

-- more was left than was read
left_breaks : (text : List ℕ) (left : Option (List ℕ)) → most_script < length text → IfSome left (λ xs. (length text ≤ length xs) × (text ≡ take (length text) xs))
    → IfSome left (λ xs. HasScriptFault xs 1 10)
left_breaks text None long front = tt
left_breaks text (Some xs) long front = long_breaks xs (omega (arith, long, front.0))

pub long_has_cause : (old new : SourceState) (text : List ℕ) (e : Ending) → ReadsAll most_script old new text → most_script < length text
    → TellsScriptFault 1 10 e → HasCause (codes "replay" ∷ []) old new e
long_has_cause old new text (ending.ScriptFault out) all long tells = (
  1,
  10,
  record { command = refl; out = record { same = all.same; bytes = text; front = all.front; out = inr long }; fault = left_breaks text old.left long all.front.read },
  tells,
)
long_has_cause old new text ending.NoMemory all long tells = tt
long_has_cause old new text ending.Usage all long tells = absurd tells
long_has_cause old new text ending.SourceFault all long tells = absurd tells
long_has_cause old new text ending.Unbuilt all long tells = absurd tells
long_has_cause old new text (ending.Done out) all long tells = absurd tells
long_has_cause old new text (ending.ConfigFault out) all long tells = absurd tells
long_has_cause old new text (ending.Overrun out) all long tells = absurd tells
long_has_cause old new text ending.Holds all long tells = absurd tells
long_has_cause old new text (ending.TranscriptFault out) all long tells = absurd tells
long_has_cause old new text (ending.Broken out) all long tells = absurd tells

-- ---- one that isn't

pub replay_has_cause : (old new : SourceState) (text : List ℕ) (e : Ending) → ReadsAll most_script old new text → length text ≤ most_script
    → IsEndingOf text e → HasCause (codes "replay" ∷ []) old new e
replay_has_cause old new text ending.Usage all short r = absurd r
replay_has_cause old new text ending.SourceFault all short r = absurd r
replay_has_cause old new text ending.Unbuilt all short r = absurd r
replay_has_cause old new text (ending.Done out) all short r =
    record { command = refl; ended = (all.ended short).0; same = all.same; bytes = text; read = (all.ended short).1; short = short; plays = r }
replay_has_cause old new text (ending.ConfigFault out) all short (line, rule, fault, is) = (
  line,
  rule,
  record { command = refl; ended = (all.ended short).0; same = all.same; bytes = text; read = (all.ended short).1; fault = fault },
  is,
)
replay_has_cause old new text (ending.ScriptFault out) all short (line, rule, fault, is) = (
  line,
  rule,
  record {
    command = refl;
    out = record { same = all.same; bytes = text; front = all.front; out = inl (all.ended short).0 };
    fault = of_left (λ xs. HasScriptFault xs line rule) text old.left (all.ended short).1 fault;
  },
  is,
)
replay_has_cause old new text (ending.Overrun out) all short (turns, over, is) = (
  turns,
  record { command = refl; ended = (all.ended short).0; same = all.same; bytes = text; read = (all.ended short).1; overruns = over },
  is,
)
replay_has_cause old new text ending.Holds all short r = absurd r
replay_has_cause old new text (ending.TranscriptFault out) all short r = absurd r
replay_has_cause old new text (ending.Broken out) all short r = absurd r
replay_has_cause old new text ending.NoMemory all short r = tt
