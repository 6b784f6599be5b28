-- The first word of a line that is read.
use Rattle.std.proofs.Common.{◌≡◌, ℕ, List, [], ◌∷◌, Option, Some, None, Ok, refl, sym, ap, subst, ◌∙◌, inl, inr}
use Rattle.std.specs.Prelude.{codes, bytes_eq, ⊤}
use Rattle.std.proofs.lemmas.Bool.{cases_Bool, cond-true, cond-false}
use Rattle.std.proofs.lemmas.Slice.Eq.{bytes_eq-Decides}
use Rattle.hx_config_parts.specs.Tables.{found}
use Rattle.hx_transcripts_parts.specs.declared.keywords.MarkWord.{MarkWord}
use Rattle.hx_transcripts_parts.specs.declared.keywords.RecordWord.{RecordWord}
use Rattle.hx_transcripts_parts.specs.Keywords.{mark_words, record_words}
use Rattle.hx_transcripts_parts.specs.Lexical.{read_word}
use Rattle.hx_transcripts_parts.specs.MarkLaws.{mark_text}
use Rattle.hx_transcripts_parts.specs.Pieces.{name_in}
use Rattle.hx_transcripts_parts.specs.RecordLaws.{record_text}
use Rattle.hx_transcripts_parts.proofs.NumberLemmas.{some_is}
use Rattle.hx_transcripts_parts.proofs.WordLemmas.{ok_is, bind_ok}
use Rattle.hx_transcripts.specs.declared.form.Form.{Form}
use Rattle.hx_transcripts.specs.declared.form.Form.TheVariants as form
use Rattle.hx_transcripts.specs.Forms.{headings, form_among, form_in}

-- the word of a form; lines of totals begin with a name
abbrev pub form_text : Form → List ℕ
form_text form.Version = codes "hx-transcript"
form_text form.Server = codes "server"
form_text (form.Mark m) = mark_text m
form_text form.Records = codes "records"
form_text (form.Record r) = record_text r
form_text form.Links = codes "links"
form_text form.Client = codes "client"
form_text form.Conn = codes "conn"
form_text form.Totals = codes "totals"
form_text form.Total = []
form_text form.End = codes "end"

abbrev pub IsWordOf : List ℕ → Form → Type 0
IsWordOf w form.Total = ⊤
IsWordOf w form.Version = w ≡ codes "hx-transcript"
IsWordOf w form.Server = w ≡ codes "server"
IsWordOf w (form.Mark m) = w ≡ mark_text m
IsWordOf w form.Records = w ≡ codes "records"
IsWordOf w (form.Record r) = w ≡ record_text r
IsWordOf w form.Links = w ≡ codes "links"
IsWordOf w form.Client = w ≡ codes "client"
IsWordOf w form.Conn = w ≡ codes "conn"
IsWordOf w form.Totals = w ≡ codes "totals"
IsWordOf w form.End = w ≡ codes "end"

-- each word is the text of what stands beside it
abbrev AreTexts : {A : Type 0} → (A → List ℕ) → List (List ℕ × A) → Type 0
AreTexts text [] = ⊤
AreTexts text (row ∷ rows) = (row.0 ≡ text row.1) × AreTexts text rows

found_text : {A : Type 0} (text : A → List ℕ) (table : List (List ℕ × A)) (w : List ℕ) (x : A) → AreTexts text table → found table w ≡ Some x → w ≡ text x
found_text text [] w x are is = cc
found_text {A} text (row ∷ rows) w x are is = elim (cases_Bool (bytes_eq w row.0)) [
  | inl same ↦ (bytes_eq-Decides w row.0).0 same ∙ are.0 ∙ ap text (some_is row.1 x (sym (cond-true _ _ _ same) ∙ is))
  | inr other ↦ found_text text rows w x are.1 (sym (cond-false _ _ _ other) ∙ is)
]

word_of : (w : List ℕ) (f : Form) → w ≡ form_text f → IsWordOf w f
word_of w form.Total is = tt
word_of w form.Version is = is
word_of w form.Server is = is
word_of w (form.Mark m) is = is
word_of w form.Records is = is
word_of w (form.Record r) is = is
word_of w form.Links is = is
word_of w form.Client is = is
word_of w form.Conn is = is
word_of w form.Totals is = is
word_of w form.End is = is

among_sound : (w : List ℕ) (h : Option Form) (m : Option MarkWord) (r : Option RecordWord) (f : Form)
    → found headings w ≡ h → found mark_words w ≡ m → found record_words w ≡ r → form_among w h m r ≡ Ok f → IsWordOf w f
among_sound w (Some g) m r f a b c is =
    subst (IsWordOf w) (ok_is g f is)
    (word_of w g (found_text form_text headings w g (refl, (refl, (refl, (refl, (refl, (refl, (refl, (refl, tt)))))))) a))
among_sound w None (Some m) r f a b c is =
    subst (IsWordOf w) (ok_is (form.Mark m) f is)
    (found_text mark_text mark_words w m (refl, (refl, (refl, (refl, (refl, (refl, tt)))))) b)
among_sound w None None (Some r) f a b c is =
    subst (IsWordOf w) (ok_is (form.Record r) f is) (found_text record_text record_words w r (refl, (refl, (refl, (refl, tt)))) c)
among_sound w None None None f a b c is =
    let x = bind_ok (read_word name_in (Some w)) _ f is in
    subst (IsWordOf w) (ok_is form.Total f x.2) tt

pub form_sound : (w : List ℕ) (f : Form) → form_in w ≡ Ok f → IsWordOf w f
unfolding form_in
form_sound w f is = among_sound w (found headings w) (found mark_words w) (found record_words w) f refl refl refl is
