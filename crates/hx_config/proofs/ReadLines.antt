-- Lines, one after the other.
use Rattle.std.proofs.Common.{◌≡◌, ℕ, suc, ◌+◌, ◌≤◌, Bool, true, false, List, [], ◌∷◌, length, Result, Ok, Err, sym, ap, ◌∙◌, arith}
use Rattle.std.specs.Prelude.{◌==◌, ◌&&◌, cond}
use Rattle.hx_config_parts.specs.declared.fault.Refusal.{Refusal}
use Rattle.hx_config_parts.specs.declared.fault.Refusal.TheVariants as refusal
use Rattle.hx_config_parts.specs.declared.fault.Flaw.{Flaw}
use Rattle.hx_config_parts.specs.declared.fault.Rule.{Rule}
use Rattle.hx_config.specs.declared.reading.Reading.{Reading}
use Rattle.hx_config_parts.specs.Faults.{◌>>=◌, Halts, Refuses, stop_at}
use Rattle.hx_config_parts.specs.Lexical.{on_first, ends_line, lines_of, words_of}
use Rattle.hx_config.specs.Statements.{line_read}
use Rattle.hx_config.specs.Meaning.{located, lines_read}

pub one_line : (line : ℕ) (r s : Reading) (l : List ℕ) (ls after : List (List ℕ)) (total : Result Reading Flaw)
    → ls ≡ l ∷ after → line_read line r (words_of l) ≡ Ok s → lines_read line r ls ≡ total → lines_read (line + 1) s after ≡ total
unfolding lines_read
one_line line r s l ls after total split is so_far =
    let one : lines_read line r (l ∷ after) ≡ lines_read (line + 1) s after =
    ap (λ (x : Result Reading Rule). located line x >>= λ (t : Reading). lines_read (line + 1) t after) is in
    sym (ap (lines_read line r) split ∙ one) ∙ so_far

pub bad_line : (line : ℕ) (rule : Rule) (r : Reading) (l : List ℕ) (ls after : List (List ℕ)) (total : Result Reading Flaw)
    → ls ≡ l ∷ after → line_read line r (words_of l) ≡ Err rule → lines_read line r ls ≡ total
    → total ≡ Err (record { line = line; rule = rule })
unfolding lines_read
bad_line line rule r l ls after total split is so_far =
    sym so_far ∙ ap (lines_read line r) split
    ∙ ap (λ (x : Result Reading Rule). located line x >>= λ (t : Reading). lines_read (line + 1) t after) is

pub no_line : (line : ℕ) (r : Reading) (ls : List (List ℕ)) (total : Result Reading Flaw) → ls ≡ [] → lines_read line r ls ≡ total → total ≡ Ok r
unfolding lines_read
no_line line r ls total none so_far = sym so_far ∙ ap (lines_read line r) none

-- a line that is refused
pub halted : (e : Refusal) (line : ℕ) (r : Reading) (l : List ℕ) (ls after : List (List ℕ)) (total : Result Reading Flaw)
    → ls ≡ l ∷ after → Refuses e (line_read line r (words_of l)) → lines_read line r ls ≡ total → Halts (stop_at line e) total
halted refusal.Memory line r l ls after total split is so_far = tt
halted (refusal.Fault rule) line r l ls after total split is so_far = bad_line line rule r l ls after total split is so_far

first_count : (b : ℕ) (ls : List (List ℕ)) (n : ℕ) → length ls ≤ n → length (on_first b ls) ≤ suc n
first_count b [] n h = omega arith
first_count b (l ∷ ls) n h = omega arith

choose_count : (x y : Bool) (a b c : List (List ℕ)) (n : ℕ) → length a ≤ n → length b ≤ n → length c ≤ n → length (cond x a (cond y b c)) ≤ n
choose_count true y a b c n ha hb hc = ha
choose_count false true a b c n ha hb hc = hb
choose_count false false a b c n ha hb hc = hc

-- there are no more lines than bytes
pub lines_few : (bs : List ℕ) → length (lines_of bs) ≤ length bs
unfolding lines_of
lines_few [] = omega arith
lines_few (b ∷ bs) =
    let ih = lines_few bs in
    choose_count (b == 10) (b == 13 && ends_line bs) ([] ∷ lines_of bs) (lines_of bs) (on_first b (lines_of bs)) (suc (length bs))
    (omega (arith, ih)) (omega (arith, ih)) (first_count b (lines_of bs) (length bs) ih)
