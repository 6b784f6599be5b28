-- What the call that reads a byte text tells of its one spelling.
use Rattle.std.proofs.Common.{◌≡◌, ℕ, List, Option, Some, None, Result, Ok, Err, refl, sym, ap, ◌∙◌}
use Rattle.hx_script_parts.specs.ByteText.{quoted, BeginsQuoted, NoQuoted}
use Rattle.hx_script_parts.specs.QuotedReading.{quoted_at}
use Rattle.hx_script_parts.proofs.ByteTextLemmas.{read_at_front, found_at_front}
use Rattle.hx_transcripts_parts.specs.declared.fault.Rule.{Rule}
use Rattle.hx_transcripts_parts.specs.declared.fault.Rule.TheVariants.{BadText}
use Rattle.hx_transcripts_parts.specs.Faults.{◌>>=◌, or_broken}
use Rattle.hx_transcripts_parts.specs.Spelling.{behind_front, spelled_at}
use Rattle.hx_transcripts_parts.proofs.WordLemmas.{bind_is}

none_there : (text : List ℕ) (o : Option (List ℕ × List ℕ)) → quoted_at text ≡ o → NoQuoted text → quoted_at text ≡ None
none_there text None is none = is
none_there text (Some x) is none = absurd (none x.0 x.1 (found_at_front text x.0 x.1 is))

abbrev behind : List ℕ → List ℕ × List ℕ → Result (List ℕ × List ℕ) Rule
behind text x = or_broken BadText (behind_front (quoted x.0) text) >>= λ r. Ok (x.0, r)

pub no_text : (text : List ℕ) → NoQuoted text → spelled_at text ≡ Err BadText
no_text text none = ap (λ (o : Option (List ℕ × List ℕ)). or_broken BadText o >>= behind text) (none_there text (quoted_at text) refl none)

pub other_spelling : (text bytes rest : List ℕ) → BeginsQuoted text bytes rest → None ≡ behind_front (quoted bytes) text → spelled_at text ≡ Err BadText
other_spelling text bytes rest begins none =
    bind_is (behind text) (ap (or_broken BadText) (read_at_front text bytes rest begins))
    ∙ ap (λ (o : Option (List ℕ)). or_broken BadText o >>= λ r. Ok (bytes, r)) (sym none)

pub one_spelling : (text bytes rest behind_it : List ℕ) → BeginsQuoted text bytes rest → Some behind_it ≡ behind_front (quoted bytes) text
    → spelled_at text ≡ Ok (bytes, behind_it)
one_spelling text bytes rest behind_it begins some =
    bind_is (behind text) (ap (or_broken BadText) (read_at_front text bytes rest begins))
    ∙ ap (λ (o : Option (List ℕ)). or_broken BadText o >>= λ r. Ok (bytes, r)) (sym some)
