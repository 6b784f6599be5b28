-- Texts whose lines are read one after the other.
use Rattle.std.proofs.Common.{◌≡◌, ℕ, ◌+◌, Bool, true, false, List, [], ◌∷◌, ◌++◌, Result, Ok, refl, sym, ap, subst, ◌∙◌, arith, append_assoc}
use Rattle.std.specs.Prelude.{codes, not, ◌==◌}
use Rattle.std.specs.List.{list_all}
use Rattle.std.proofs.lemmas.Bool.{and_parts, cond-false}
use Rattle.std.proofs.lemmas.List.{append_cancel_right}
use Rattle.hx_script_parts.specs.Lexical.{on_first, lines_of}
use Rattle.hx_transcripts_parts.specs.declared.fault.Rule.{Rule}
use Rattle.hx_transcripts_parts.specs.Faults.{◌>>=◌}
use Rattle.hx_transcripts_parts.specs.Lexical.{Rest, rest_text, is_inside}
use Rattle.hx_transcripts_parts.proofs.WordLemmas.{bind_is, word_whole}
use Rattle.hx_transcripts.specs.declared.form.Form.{Form}
use Rattle.hx_transcripts.specs.declared.reading.Reading.{Reading}
use Rattle.hx_transcripts.specs.Forms.{form_in}
use Rattle.hx_transcripts.specs.Lines.{said, line_read}
use Rattle.hx_transcripts.specs.Meaning.{located, lines_read}

-- a byte that ends no line
abbrev pub no_feed : ℕ → Bool
no_feed b = not (b == 10)

abbrev pub HasNoFeed : List ℕ → Type 0
HasNoFeed l = list_all no_feed l ≡ true

-- no line feed stands there
pub record Clean (l : List ℕ) : Type 0 where
  pub no : HasNoFeed l

-- one line, with its line feed
pub record IsLine (text : List ℕ) : Type 0 where
  pub line : List ℕ
  pub is : text ≡ line ++ codes "\n"
  pub clean : Clean line

-- the text is read line by line
pub record Passes (r : Reading) (text : List ℕ) (s : Reading) : Type 0 where
  pub count : ℕ
  pub reads : (n : ℕ) (rest : List ℕ) → lines_read n r (lines_of (text ++ rest)) ≡ lines_read (n + count) s (lines_of rest)

off : (t : Bool) → not t ≡ true → t ≡ false
off true is = cc
off false is = refl

pub line_split : (l rest : List ℕ) → HasNoFeed l → lines_of (l ++ (10 ∷ rest)) ≡ l ∷ lines_of rest
unfolding lines_of
line_split [] rest clean = refl
line_split (b ∷ l) rest clean =
    let parts = and_parts (no_feed b) (list_all no_feed l) clean in
    cond-false (b == 10) ([] ∷ lines_of (l ++ (10 ∷ rest))) (on_first b (lines_of (l ++ (10 ∷ rest)))) (off (b == 10) parts.0)
    ∙ ap (on_first b) (line_split l rest parts.1)

pub one_passes : (r : Reading) (l : List ℕ) (s : Reading) → Clean l → line_read r l ≡ Ok s → Passes r (l ++ codes "\n") s
unfolding lines_read
one_passes r l s clean is = record {
  count = 1;
  reads = λ n rest.
      ap (λ (t : List ℕ). lines_read n r (lines_of t)) (append_assoc l (codes "\n") rest)
      ∙ ap (lines_read n r) (line_split l rest clean.no)
      ∙ ap (λ (x : Result Reading Rule). located (n + 1) x >>= λ (t : Reading). lines_read (n + 1) t (lines_of rest)) is;
}

pub none_passes : (r : Reading) → Passes r [] r
none_passes r = record {
  count = 0;
  reads = λ n rest. ap (λ (k : ℕ). lines_read k r (lines_of rest)) (omega arith);
}

pub both_pass : (r s t : Reading) (a b : List ℕ) → Passes r a s → Passes s b t → Passes r (a ++ b) t
both_pass r s t a b p q = record {
  count = p.count + q.count;
  reads = λ n rest.
      ap (λ (x : List ℕ). lines_read n r (lines_of x)) (append_assoc a b rest)
      ∙ p.reads n (b ++ rest) ∙ q.reads (n + p.count) rest
      ∙ ap (λ (k : ℕ). lines_read k t (lines_of rest)) (omega arith);
}

line_whole : (r : Reading) (w : List ℕ) (ws : Rest) (f : Form) (s : Reading) → list_all is_inside w ≡ true → form_in w ≡ Ok f
    → said r f (w ++ rest_text ws) ws ≡ Ok s → line_read r (w ++ rest_text ws) ≡ Ok s
unfolding line_read
line_whole r w ws f s inside form is =
    bind_is (λ (y : List ℕ × Rest). form_in y.0 >>= λ g. said r g (w ++ rest_text ws) y.1) (word_whole w ws inside)
    ∙ bind_is (λ (g : Form). said r g (w ++ rest_text ws) ws) form ∙ is

-- a line is read by its first word and the others
pub line_passes : (r : Reading) (text w : List ℕ) (ws : Rest) (f : Form) (s : Reading) → IsLine text → text ≡ w ++ rest_text ws ++ codes "\n"
    → list_all is_inside w ≡ true → form_in w ≡ Ok f → said r f (w ++ rest_text ws) ws ≡ Ok s → Passes r text s
line_passes r text w ws f s line words inside form is =
    let l = w ++ rest_text ws in
    let same : line.line ≡ l = append_cancel_right line.line l (codes "\n") (sym line.is ∙ words) in
    subst (λ (t : List ℕ). Passes r t s) (sym words)
    (one_passes r l s (subst Clean same line.clean) (line_whole r w ws f s inside form is))
