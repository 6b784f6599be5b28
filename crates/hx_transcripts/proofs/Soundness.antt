-- What is read of a text is printed as the text.
use Rattle.std.proofs.Common.{◌≡◌, ℕ, ◌+◌, ◌-◌, ◌≤◌, Bool, true, false, List, [], ◌∷◌, ◌++◌, length, Some, Result, Ok, Err, refl, sym, ap, subst, ◌∙◌, arith, inl, inr, append_assoc}
use Rattle.std.specs.Prelude.{codes, ◌==◌, nat_lt, cond, bytes_eq, slice_get}
use Rattle.std.specs.List.{flat_map}
use Rattle.std.proofs.lemmas.Bool.{cases_Bool, cond-true, cond-false, eqb-true, ltb-false}
use Rattle.std.proofs.lemmas.List.{append-nil}
use Rattle.std.proofs.lemmas.List.Elements.{All-nil}
use Rattle.std.proofs.lemmas.Slice.Eq.{bytes_eq-Decides}
use Rattle.hx_script.specs.declared.transcript.Transcript.{Transcript}
use Rattle.hx_script.specs.LinkLines.{client_lines, conn_lines, totals_lines}
use Rattle.hx_script.specs.MarkLines.{server_lines}
use Rattle.hx_script.specs.RecordLines.{record_line}
use Rattle.hx_script.specs.Printed.{first_line, servers_text, records_text, links_text, sums_text, printed}
use Rattle.hx_script.specs.PrintedForm.{HasPrintedForm}
use Rattle.hx_script_parts.specs.Lexical.{on_first, lines_of}
use Rattle.hx_transcripts_parts.specs.declared.fault.Rule.{Rule}
use Rattle.hx_transcripts_parts.specs.Faults.{◌>>=◌}
use Rattle.hx_transcripts_parts.specs.Lexical.{Rest, rest_text, word_at}
use Rattle.hx_transcripts_parts.proofs.WordLemmas.{ok_is, bind_ok, word_stands}
use Rattle.hx_transcripts.specs.declared.form.Form.{Form}
use Rattle.hx_transcripts.specs.declared.reading.Parts.{Parts}
use Rattle.hx_transcripts.specs.declared.reading.Reading.{Reading}
use Rattle.hx_transcripts.specs.declared.reading.Reading.TheVariants as reading
use Rattle.hx_transcripts.specs.Forms.{form_in}
use Rattle.hx_transcripts.specs.Lines.{nothing_read, said, line_read}
use Rattle.hx_transcripts.specs.Meaning.{longest_text, located, lines_read, closes, is_closed, ended, finished, lines_meant, meaning_of, parts_of}
use Rattle.hx_transcripts.proofs.FormLemmas.{IsWordOf, form_sound}
use Rattle.hx_transcripts.proofs.ListLemmas.{last_later}
use Rattle.hx_transcripts.proofs.Told.{told, whole_told, Adds, IsGood}
use Rattle.hx_transcripts.proofs.ServerLemmas.{servers_add}
use Rattle.hx_transcripts.proofs.RecordLemmas.{records_add}
use Rattle.hx_transcripts.proofs.LinkLemmas.{conns_add, clients_add}
use Rattle.hx_transcripts.proofs.SumLemmas.{totals_add}

-- ---- one line

as_line : (r : Reading) (l w : List ℕ) (ws : Rest) (s : Reading) → l ≡ w ++ rest_text ws → Adds r (w ++ rest_text ws ++ codes "\n") s → Adds r (l ++ codes "\n") s
as_line r l w ws s stands h = subst (λ (t : List ℕ). Adds r (t ++ codes "\n") s) (sym stands) h

said_adds : (r : Reading) (f : Form) (l w : List ℕ) (ws : Rest) (s : Reading) → IsWordOf w f → l ≡ w ++ rest_text ws → IsGood r
    → said r f l ws ≡ Ok s → Adds r (l ++ codes "\n") s
said_adds (reading.Servers r) f l w ws s word stands good is = as_line (reading.Servers r) l w ws s stands (servers_add r f w ws s word good is)
said_adds (reading.Records r) f l w ws s word stands good is = as_line (reading.Records r) l w ws s stands (records_add r f w ws s word good is)
said_adds (reading.Clients r) f l w ws s word stands good is = as_line (reading.Clients r) l w ws s stands (clients_add r f w ws s word good is)
said_adds (reading.Conns r) f l w ws s word stands good is = as_line (reading.Conns r) l w ws s stands (conns_add r f w ws s word good is)
said_adds (reading.Totals r) f l w ws s word stands good is = totals_add r f l w ws s word stands good is
said_adds (reading.Over p) f l w ws s word stands good is = cc

line_adds : (r : Reading) (l : List ℕ) (s : Reading) → IsGood r → line_read r l ≡ Ok s → Adds r (l ++ codes "\n") s
unfolding line_read
line_adds r l s good is =
    let x = bind_ok (word_at (Some l)) (λ (y : List ℕ × Rest). form_in y.0 >>= λ f. said r f l y.1) s is in
    let f = bind_ok (form_in x.0.0) (λ (f : Form). said r f l x.0.1) s x.2 in
    let stands = subst (λ (z : List ℕ × Rest). l ≡ z.0 ++ rest_text z.1) (ok_is _ x.0 x.1) (word_stands l) in
    said_adds r f.0 l x.0.0 x.0.1 s (form_sound x.0.0 f.0 f.1) stands good f.2

-- ---- all lines

-- the text of lines that are ended
abbrev pub all_lines : List (List ℕ) → List ℕ
all_lines ls = flat_map (λ l. l ++ codes "\n") ls

located_ok : {A : Type 0} (line : ℕ) (q : Result A Rule) (s : A) → located line q ≡ Ok s → q ≡ Ok s
located_ok line (Ok x) s is = ap (λ (y : _). Ok y) (ok_is x s is)
located_ok line (Err e) s is = cc

lines_add : (n : ℕ) (r : Reading) (ls : List (List ℕ)) (x : Reading × ℕ) → IsGood r → lines_read n r ls ≡ Ok x → Adds r (all_lines ls) x.0
unfolding lines_read
lines_add n r [] x good is =
    subst (λ (y : Reading × ℕ). Adds r [] y.0) (ok_is (r, n) x is) (record { good = good; text = sym (append-nil (told r)) })
lines_add n r (l ∷ ls) x good is =
    let s = bind_ok (located (n + 1) (line_read r l)) _ x is in
    let one = line_adds r l s.0 good (located_ok (n + 1) (line_read r l) s.0 s.1) in
    let rest = lines_add (n + 1) s.0 ls x one.good s.2 in
    record {
      good = rest.good;
      text = rest.text ∙ ap (λ (t : List ℕ). t ++ all_lines ls) one.text ∙ append_assoc (told r) (l ++ codes "\n") (all_lines ls);
    }

-- ---- a text whose last line is ended

first_flat : (b c : ℕ) (bs : List ℕ) (ls : List (List ℕ)) → c ∷ bs ≡ all_lines ls → all_lines (on_first b ls) ≡ b ∷ all_lines ls
first_flat b c bs [] is = cc
first_flat b c bs (l ∷ ls) is = refl

closed_text : (text : List ℕ) → is_closed text ≡ true → text ≡ all_lines (lines_of text)
unfolding lines_of
closed_text [] is = refl
closed_text (b ∷ []) is =
    let n : length (b ∷ []) - 1 ≡ 0 = omega arith in
    let e : (b == 10) ≡ true = sym (ap (λ (k : ℕ). closes (slice_get (b ∷ []) k)) n) ∙ is in
    ap (λ (x : ℕ). x ∷ []) (eqb-true b 10 e) ∙ sym (ap all_lines (cond-true (b == 10) ([] ∷ lines_of []) (on_first b (lines_of [])) e))
closed_text (b ∷ c ∷ bs) is =
    let ih = closed_text (c ∷ bs) (sym (ap closes (last_later b c bs)) ∙ is) in
    let more = lines_of (c ∷ bs) in
    elim (cases_Bool (b == 10)) [
      | inl feed ↦ ap (λ (x : ℕ). x ∷ c ∷ bs) (eqb-true b 10 feed) ∙ ap (λ (t : List ℕ). 10 ∷ t) ih
          ∙ sym (ap all_lines (cond-true (b == 10) ([] ∷ more) (on_first b more) feed))
      | inr other ↦ ap (λ (t : List ℕ). b ∷ t) ih ∙ sym (first_flat b c bs more ih)
          ∙ sym (ap all_lines (cond-false (b == 10) ([] ∷ more) (on_first b more) other))
    ]

-- ---- the whole

went_on : {A E : Type 0} (b : Bool) (e : E) (q : Result A E) (y : A) → cond b (Err e) q ≡ Ok y → (b ≡ false) × (q ≡ Ok y)
went_on true e q y is = cc
went_on false e q y is = (refl, is)

was_so : {A E : Type 0} (b : Bool) (e : E) (q : Result A E) (y : A) → cond b q (Err e) ≡ Ok y → (b ≡ true) × (q ≡ Ok y)
was_so true e q y is = (refl, is)
was_so false e q y is = cc

ended_over : (r : Reading) (n : ℕ) (p : Parts) → ended r n ≡ Ok p → r ≡ reading.Over p
ended_over (reading.Over q) n p is = ap (λ (x : Parts). reading.Over x) (ok_is q p is)
ended_over (reading.Servers r) n p is = cc
ended_over (reading.Records r) n p is = cc
ended_over (reading.Clients r) n p is = cc
ended_over (reading.Conns r) n p is = cc
ended_over (reading.Totals r) n p is = cc

-- the parts that a text means are those of a transcript, and printed as the text
pub record IsMeant (bytes : List ℕ) (p : Parts) : Type 0 where
  pub form : HasPrintedForm p.servers p.records p.clients p.conns p.totals
  pub text : bytes ≡ whole_told p
  pub short : length bytes ≤ longest_text

first_text : (l : List ℕ) → bytes_eq l (codes "hx-transcript 1") ≡ true → l ++ codes "\n" ≡ first_line ++ []
unfolding first_line
first_text l same = ap (λ (t : List ℕ). t ++ codes "\n") ((bytes_eq-Decides l (codes "hx-transcript 1")).0 same)

meant_sound : (shut : Bool) (ls : List (List ℕ)) (p : Parts) → lines_meant shut ls ≡ Ok p
    → (shut ≡ true) × HasPrintedForm p.servers p.records p.clients p.conns p.totals × (all_lines ls ≡ whole_told p)
meant_sound shut [] p is = cc
meant_sound shut (l ∷ ls) p is =
    let first = was_so (bytes_eq l (codes "hx-transcript 1")) _ (lines_read 1 nothing_read ls >>= (λ x. finished shut x.0 x.1)) p is in
    let x = bind_ok (lines_read 1 nothing_read ls) _ p first.1 in
    let last = was_so shut _ (ended x.0.0 x.0.1) p x.2 in
    let over = ended_over x.0.0 x.0.1 p last.1 in
    let all = lines_add 1 nothing_read ls x.0 (record { told = All-nil _; others = tt }) x.1 in
    let end = subst (Adds nothing_read (all_lines ls)) over all in
    (last.0, end.good, ap (λ (t : List ℕ). t ++ all_lines ls) (first_text l first.0) ∙ sym end.text)

pub meaning_sound : (text : List ℕ) (p : Parts) → meaning_of text ≡ Ok p → IsMeant text p
unfolding meaning_of
meaning_sound text p is =
    let a = went_on (nat_lt longest_text (length text)) _ (lines_meant (is_closed text) (lines_of text)) p is in
    let b = meant_sound (is_closed text) (lines_of text) p a.1 in
    record {
      form = b.1;
      text = closed_text text b.0 ∙ b.2;
      short = ltb-false longest_text (length text) a.0;
    }

regroup_whole : (f s r a l c k t u e : List ℕ)
    → (((((f ++ s) ++ (r ++ a)) ++ (l ++ c)) ++ k) ++ (t ++ u)) ++ e ≡ (f ++ s) ++ (r ++ a) ++ (l ++ c ++ k) ++ (t ++ u ++ e)
regroup_whole f s r a l c k t u e = simp append_assoc

pub whole_printed : (t : Transcript) → whole_told (parts_of t) ≡ printed t
unfolding servers_text records_text links_text sums_text
whole_printed t = regroup_whole first_line (flat_map server_lines t.servers) (codes "records\n") (flat_map (record_line t.servers) t.records)
    (codes "links\n") (flat_map client_lines t.clients) (flat_map (conn_lines t.servers) t.conns)
    (codes "totals\n") (totals_lines t.servers t.totals) (codes "end\n")

pub text_printed : (text : List ℕ) (p : Parts) (t : Transcript) → meaning_of text ≡ Ok p → parts_of t ≡ p → text ≡ printed t
text_printed text p t is same = (meaning_sound text p is).text ∙ ap whole_told (sym same) ∙ whole_printed t
