-- The words of tables are read from their texts, and from no other words.
use Rattle.std.proofs.Common.{◌≡◌, ◌≢◌, ℕ, true, false, Bool, ◌&&◌, List, [], ◌∷◌, Some, Ok, refl, sym, ap, subst, ◌∙◌, inl, inr}
use Rattle.std.specs.Prelude.{◌==◌, not, bytes_eq, codes, ⊤}
use Rattle.std.specs.List.{list_all}
use Rattle.std.proofs.lemmas.Bool.{cases_Bool, cond-true, cond-false, eq-eqb, ne_eqb}
use Rattle.std.proofs.lemmas.Slice.Eq.{bytes_eq-Decides}
use Rattle.hx_base.specs.declared.numbers.SessionNo.{SessionNo}
use Rattle.hx_base.specs.declared.rules.Mode.{Mode}
use Rattle.hx_base.specs.declared.rules.Mode.TheVariants as mode
use Rattle.hx_config_parts.specs.Tables.{found}
use Rattle.hx_record.specs.declared.served.CutCause.{CutCause}
use Rattle.hx_record.specs.declared.served.CutCause.TheVariants as cut
use Rattle.hx_record.specs.declared.served.LeftCause.{LeftCause}
use Rattle.hx_record.specs.declared.served.LeftCause.TheVariants as cause
use Rattle.hx_script.specs.MarkLines.{mode_text}
use Rattle.hx_script.specs.RecordLines.{cut_text, cause_text}
use Rattle.hx_transcripts_parts.specs.declared.fault.Rule.TheVariants.{BadLine}
use Rattle.hx_transcripts_parts.specs.Faults.{◌>>=◌, unless, or_broken}
use Rattle.hx_transcripts_parts.specs.Keywords.{mode_words, take_words, gate_words, closing_words, cut_closing_words, cut_words, left_words}
use Rattle.hx_transcripts_parts.specs.Lexical.{is_inside}
use Rattle.hx_transcripts_parts.specs.Marks.{one_of, first_in}
use Rattle.hx_transcripts_parts.specs.Records.{is_early, cause_in}
use Rattle.hx_transcripts_parts.specs.ReadBack.{ReadsWord}
use Rattle.hx_transcripts_parts.proofs.WordLemmas.{ok_is, bind_ok, bind_is, there_is, not_broken}
use Rattle.hx_transcripts_parts.proofs.NumberLemmas.{some_is}

-- each word is the text of what stands beside it
abbrev AreTexts : {A : Type 0} → (A → List ℕ) → List (List ℕ × A) → Type 0
AreTexts text [] = ⊤
AreTexts text (row ∷ rows) = (row.0 ≡ text row.1) × AreTexts text rows

found_text : {A : Type 0} (text : A → List ℕ) (table : List (List ℕ × A)) (w : List ℕ) (x : A) → AreTexts text table → found table w ≡ Some x → w ≡ text x
found_text text [] w x are is = cc
found_text {A} text (row ∷ rows) w x are is = elim (cases_Bool (bytes_eq w row.0)) [
  | inl same ↦ (bytes_eq-Decides w row.0).0 same ∙ are.0 ∙ ap text (some_is row.1 x (sym (cond-true _ _ _ same) ∙ is))
  | inr other ↦ found_text text rows w x are.1 (sym (cond-false _ _ _ other) ∙ is)
]

table_reads : {A : Type 0} (table : List (List ℕ × A)) (text : A → List ℕ) → AreTexts text table → ((x : A) → found table (text x) ≡ Some x)
    → ((x : A) → list_all is_inside (text x) ≡ true) → ReadsWord (one_of table) text (λ x. ⊤)
table_reads table text are there within = record {
  sound = λ w x is. (tt, found_text text table w x are (there_is BadLine (found table w) x is));
  whole = λ x fits. ap (or_broken BadLine) (there x);
  inside = λ x fits. within x;
}

-- one word for true, another for false
abbrev pub either : List ℕ → List ℕ → Bool → List ℕ
either this that true = this
either this that false = that

mode_there : (x : Mode) → found mode_words (mode_text x) ≡ Some x
mode_there mode.Never = refl
mode_there mode.Safe = refl
mode_there mode.Aggressive = refl
mode_there mode.Always = refl

mode_within : (x : Mode) → list_all is_inside (mode_text x) ≡ true
mode_within mode.Never = refl
mode_within mode.Safe = refl
mode_within mode.Aggressive = refl
mode_within mode.Always = refl

either_within : (this that : List ℕ) → list_all is_inside this ≡ true → list_all is_inside that ≡ true → (x : Bool) → list_all is_inside (either this that x) ≡ true
either_within this that a b true = a
either_within this that a b false = b

either_there : (this that : List ℕ) → bytes_eq that this ≡ false → (x : Bool) → found ((this, true) ∷ (that, false) ∷ []) (either this that x) ≡ Some x
either_there this that differ true = cond-true _ _ _ ((bytes_eq-Decides this this).1 refl)
either_there this that differ false = cond-false _ _ _ differ ∙ cond-true _ _ _ ((bytes_eq-Decides that that).1 refl)

pub modes_read : ReadsWord (one_of mode_words) mode_text (λ x. ⊤)
modes_read = table_reads mode_words mode_text (refl, (refl, (refl, (refl, tt))))
    mode_there mode_within

pub gates_read : ReadsWord (one_of gate_words) (either (codes "drain") (codes "ready")) (λ x. ⊤)
gates_read = table_reads gate_words (either (codes "drain") (codes "ready")) (refl, (refl, tt))
    (either_there (codes "drain") (codes "ready") refl) (either_within (codes "drain") (codes "ready") refl refl)

pub closings_read : ReadsWord (one_of closing_words) (either (codes "close") (codes "keep")) (λ x. ⊤)
closings_read = table_reads closing_words (either (codes "close") (codes "keep")) (refl, (refl, tt))
    (either_there (codes "close") (codes "keep") refl) (either_within (codes "close") (codes "keep") refl refl)

pub cut_closings_read : ReadsWord (one_of cut_closing_words) (either (codes "close-yes") (codes "close-no")) (λ x. ⊤)
cut_closings_read = table_reads cut_closing_words (either (codes "close-yes") (codes "close-no")) (refl, (refl, tt))
    (either_there (codes "close-yes") (codes "close-no") refl) (either_within (codes "close-yes") (codes "close-no") refl refl)

pub takes_read : ReadsWord (one_of take_words) (either (codes "first") (codes "later")) (λ x. ⊤)
takes_read = table_reads take_words (either (codes "first") (codes "later")) (refl, (refl, tt))
    (either_there (codes "first") (codes "later") refl) (either_within (codes "first") (codes "later") refl refl)

cut_there : (x : CutCause) → found cut_words (cut_text x) ≡ Some x
cut_there cut.Early = refl
cut_there cut.Ended = refl
cut_there cut.Fault = refl
cut_there cut.Broken = refl
cut_there cut.Late = refl
cut_there cut.Client = refl
cut_there cut.Stop = refl
cut_there cut.Silent = refl

cut_within : (x : CutCause) → list_all is_inside (cut_text x) ≡ true
cut_within cut.Early = refl
cut_within cut.Ended = refl
cut_within cut.Fault = refl
cut_within cut.Broken = refl
cut_within cut.Late = refl
cut_within cut.Client = refl
cut_within cut.Stop = refl
cut_within cut.Silent = refl

pub cuts_read : ReadsWord (one_of cut_words) cut_text (λ x. ⊤)
cuts_read = table_reads cut_words cut_text (refl, (refl, (refl, (refl, (refl, (refl, (refl, (refl, tt)))))))) cut_there cut_within

left_there : (x : LeftCause) → found left_words (cause_text x) ≡ Some x
left_there cause.End = refl
left_there cause.Closing = refl
left_there cause.Own = refl
left_there cause.Cut = refl
left_there cause.Idle = refl
left_there cause.Fault = refl
left_there cause.Stop = refl

left_within : (x : LeftCause) → list_all is_inside (cause_text x) ≡ true
left_within cause.End = refl
left_within cause.Closing = refl
left_within cause.Own = refl
left_within cause.Cut = refl
left_within cause.Idle = refl
left_within cause.Fault = refl
left_within cause.Stop = refl

pub lefts_read : ReadsWord (one_of left_words) cause_text (λ x. ⊤)
lefts_read = table_reads left_words cause_text (refl, (refl, (refl, (refl, (refl, (refl, (refl, tt))))))) left_there left_within

-- ---- words that depend on what stands before

-- both tests hold only together
not_both : (a b : Bool) → (a && b) ≡ false → b ≡ true → a ≡ false
not_both true true is both = cc
not_both true false is both = cc
not_both false b is both = refl

late : (first : Bool) (n : ℕ) → (n ≡ 0 → first ≡ false) → (first && (n == 0)) ≡ false
late false n fits = refl
late true n fits =
    let some : n ≢ 0 = λ zero. (let e = fits zero in cc) in
    ne_eqb n 0 some

pub first_reads : (n : SessionNo) → ReadsWord (first_in n) (either (codes "first") (codes "later")) (λ first. n.0 ≡ 0 → first ≡ false)
first_reads n = record {
  sound = λ w first is.
      let a = bind_ok (one_of take_words w) _ first is in
      let e = bind_ok (unless (a.0 && (n.0 == 0)) BadLine) _ first a.2 in
      let one = takes_read.sound w a.0 a.1 in
      let fits = λ (z : n.0 ≡ 0). not_both a.0 (n.0 == 0) (not_broken _ BadLine e.0 e.1) (eq-eqb n.0 0 z) in
      subst (λ (x : Bool). (n.0 ≡ 0 → x ≡ false) × (w ≡ either (codes "first") (codes "later") x)) (ok_is a.0 first e.2) (fits, one.1);
  whole = λ first fits.
      bind_is (λ (x : Bool). unless (x && (n.0 == 0)) BadLine >>= λ e. Ok x) (takes_read.whole first tt)
      ∙ bind_is (λ (e : ⊤). Ok first) (ap (λ (t : Bool). unless t BadLine) (late first n.0 fits));
  inside = λ first fits. takes_read.inside first tt;
}

early_is : (why : CutCause) → why ≡ cut.Early → is_early why ≡ true
early_is why is = ap is_early is

closes : (why : CutCause) (closing : Bool) → (why ≡ cut.Early → closing ≡ true) → (is_early why && not closing) ≡ false
closes cut.Early closing fits = ap not (fits refl)
closes cut.Ended closing fits = refl
closes cut.Fault closing fits = refl
closes cut.Broken closing fits = refl
closes cut.Late closing fits = refl
closes cut.Client closing fits = refl
closes cut.Stop closing fits = refl
closes cut.Silent closing fits = refl

must_close : (why : CutCause) (closing : Bool) → (is_early why && not closing) ≡ false → why ≡ cut.Early → closing ≡ true
must_close why true free early = refl
must_close why false free early = let e = early_is why early in let f : true ≡ false = sym (ap (λ (t : Bool). t && true) e) ∙ free in cc

pub cause_reads : (closing : Bool) → ReadsWord (cause_in closing) cut_text (λ why. why ≡ cut.Early → closing ≡ true)
cause_reads closing = record {
  sound = λ w why is.
      let a = bind_ok (one_of cut_words w) _ why is in
      let e = bind_ok (unless (is_early a.0 && not closing) BadLine) _ why a.2 in
      let one = cuts_read.sound w a.0 a.1 in
      subst (λ (x : CutCause). (x ≡ cut.Early → closing ≡ true) × (w ≡ cut_text x)) (ok_is a.0 why e.2)
      (must_close a.0 closing (not_broken _ BadLine e.0 e.1), one.1);
  whole = λ why fits.
      bind_is (λ (x : CutCause). unless (is_early x && not closing) BadLine >>= λ e. Ok x) (cuts_read.whole why tt)
      ∙ bind_is (λ (e : ⊤). Ok why) (ap (λ (t : Bool). unless t BadLine) (closes why closing fits));
  inside = λ why fits. cuts_read.inside why tt;
}
