-- Lines, one after the other.
use Rattle.std.proofs.Common.{◌≡◌, ℕ, ◌+◌, ◌≤◌, List, [], ◌∷◌, length, Result, Ok, sym, ap, ◌∙◌, arith}
use Rattle.hx_script_parts.specs.Lexical.{lines_of}
use Rattle.hx_script_parts.proofs.ReadLines.{lines_few}
use Rattle.hx_transcripts_parts.specs.Faults.{◌>>=◌}
use Rattle.hx_transcripts.specs.declared.fault.Flaw.{Flaw}
use Rattle.hx_transcripts.specs.declared.fault.Stop.{Stop}
use Rattle.hx_transcripts.specs.declared.fault.Stop.TheVariants as stop
use Rattle.hx_transcripts.specs.declared.reading.Reading.{Reading}
use Rattle.hx_transcripts.specs.Faults.{Halts}
use Rattle.hx_transcripts.specs.Lines.{line_read}
use Rattle.hx_transcripts.specs.Meaning.{located, lines_read}

pub one_line : (last : ℕ) (r s : Reading) (l : List ℕ) (ls after : List (List ℕ)) (total : Result (Reading × ℕ) Flaw)
    → ls ≡ l ∷ after → located (last + 1) (line_read r l) ≡ Ok s → lines_read last r ls ≡ total → lines_read (last + 1) s after ≡ total
unfolding lines_read
one_line last r s l ls after total split is so_far =
    sym (ap (lines_read last r) split ∙ ap (λ (x : Result Reading Flaw). x >>= λ (t : Reading). lines_read (last + 1) t after) is) ∙ so_far

-- a line that is refused
pub halted : (e : Stop) (last : ℕ) (r : Reading) (l : List ℕ) (ls after : List (List ℕ)) (total : Result (Reading × ℕ) Flaw)
    → ls ≡ l ∷ after → Halts e (located (last + 1) (line_read r l)) → lines_read last r ls ≡ total → Halts e total
unfolding lines_read
halted stop.Memory last r l ls after total split is so_far = tt
halted (stop.At f) last r l ls after total split is so_far =
    sym so_far ∙ ap (lines_read last r) split ∙ ap (λ (x : Result Reading Flaw). x >>= λ (t : Reading). lines_read (last + 1) t after) is

pub no_line : (last : ℕ) (r : Reading) (ls : List (List ℕ)) (total : Result (Reading × ℕ) Flaw)
    → ls ≡ [] → lines_read last r ls ≡ total → total ≡ Ok (r, last)
unfolding lines_read
no_line last r ls total none so_far = sym so_far ∙ ap (lines_read last r) none

-- behind the first line there are no more lines than bytes
pub few_behind : (text l : List ℕ) (ls after : List (List ℕ)) → ls ≡ lines_of text → ls ≡ l ∷ after → length text ≤ 16777216 → length after ≤ 16777216
few_behind text l ls after all split short =
    let n = ap (λ (x : List (List ℕ)). length x) (sym split ∙ all) in
    omega (arith, n, lines_few text, short)
