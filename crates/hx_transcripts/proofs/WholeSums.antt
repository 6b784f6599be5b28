-- The lines of totals are read.
use Rattle.std.proofs.Common.{◌≡◌, ℕ, ◌+◌, ◌<◌, ◌≤◌, Bool, true, List, [], ◌∷◌, ◌++◌, All, length, Option, Some, None, Ok, refl, sym, ap, subst, ◌∙◌, arith, inl, inr, append_assoc}
use Rattle.std.specs.Prelude.{codes, decimal, ⊤, not, ◌==◌, bytes_eq, slice_get}
use Rattle.std.specs.List.{list_all}
use Rattle.std.proofs.lemmas.Bool.{cases_Bool, cond-false, eq-eqb}
use Rattle.std.proofs.lemmas.List.{append-nil, length-append}
use Rattle.std.proofs.lemmas.List.Elements.{All-head, All-tail}
use Rattle.std.proofs.lemmas.Slice.Eq.{bytes_eq-Decides}
use Rattle.hx_base.specs.declared.totals.Totals.{Totals}
use Rattle.hx_config_parts.specs.Tables.{found}
use Rattle.hx_record.specs.declared.bytes.ClientBytes.{ClientBytes}
use Rattle.hx_record.specs.declared.bytes.ConnBytes.{ConnBytes}
use Rattle.hx_record.specs.declared.served.Told.{Told}
use Rattle.hx_script.specs.declared.transcript.ServerPart.{ServerPart}
use Rattle.hx_script.specs.LinkLines.{totals_text, totals_lines}
use Rattle.hx_script.specs.RecordLines.{name_or_none}
use Rattle.hx_transcripts_parts.specs.declared.fault.Rule.TheVariants.{BadLine, WrongOrder, NoSuchName}
use Rattle.hx_transcripts_parts.specs.declared.keywords.MarkWord.{MarkWord}
use Rattle.hx_transcripts_parts.specs.declared.keywords.RecordWord.{RecordWord}
use Rattle.hx_transcripts_parts.specs.Faults.{◌>>=◌, unless, or_broken}
use Rattle.hx_transcripts_parts.specs.Keywords.{mark_words, record_words}
use Rattle.hx_transcripts_parts.specs.Lexical.{Rest, rest_text, is_inside, read_word}
use Rattle.hx_transcripts_parts.specs.Numbers.{cut_at}
use Rattle.hx_transcripts_parts.specs.Pieces.{name_in, server_from}
use Rattle.hx_transcripts_parts.specs.ReadBack.{AreNamed}
use Rattle.hx_transcripts_parts.specs.RecordLaws.{FitsTotals}
use Rattle.hx_transcripts_parts.specs.Records.{totals_at}
use Rattle.hx_transcripts_parts.proofs.PieceLemmas.{names_read, server_whole}
use Rattle.hx_transcripts_parts.proofs.TotalsLemmas.{totals_whole}
use Rattle.hx_transcripts_parts.proofs.WordLemmas.{bind_ok, bind_is, there_is, word_whole}
use Rattle.hx_transcripts.specs.declared.form.Form.{Form}
use Rattle.hx_transcripts.specs.declared.form.Form.TheVariants as form
use Rattle.hx_transcripts.specs.declared.reading.TotalsRead.{TotalsRead}
use Rattle.hx_transcripts.specs.declared.reading.Reading.{Reading}
use Rattle.hx_transcripts.specs.declared.reading.Reading.TheVariants as reading
use Rattle.hx_transcripts.specs.Forms.{headings, form_among, form_in}
use Rattle.hx_transcripts.specs.Sums as means
use Rattle.hx_transcripts.proofs.Cleanness.{join, lit, clean_number, clean_name}
use Rattle.hx_transcripts.proofs.ListLemmas.{no_totals}
use Rattle.hx_transcripts.proofs.SumLemmas.{totals_more}
use Rattle.hx_transcripts.proofs.Passing.{Clean, IsLine, Passes, none_passes, both_pass, line_passes}

-- ---- a name is no other first word

-- no word of the table has a stroke
abbrev Uncut : {A : Type 0} → List (List ℕ × A) → Type 0
Uncut [] = ⊤
Uncut (row ∷ rows) = (cut_at 47 row.0 ≡ None) × Uncut rows

some_none : {A : Type 0} (x : A) → ◌≡◌ {A = Option A} (Some x) None → ⊥
some_none x is = cc

not_found : {A : Type 0} (table : List (List ℕ × A)) (w : List ℕ) (x : List ℕ × List ℕ) → Uncut table → cut_at 47 w ≡ Some x → found table w ≡ None
not_found [] w x none cut = refl
not_found (row ∷ rows) w x none cut = elim (cases_Bool (bytes_eq w row.0)) [
  | inl same ↦ absurd (some_none x (sym cut ∙ ap (cut_at 47) ((bytes_eq-Decides w row.0).0 same) ∙ none.0))
  | inr other ↦ cond-false _ _ _ other ∙ not_found rows w x none.1 cut
]

headings_uncut : Uncut headings
unfolding cut_at
headings_uncut = (refl, (refl, (refl, (refl, (refl, (refl, (refl, (refl, tt))))))))

marks_uncut : Uncut mark_words
unfolding cut_at
marks_uncut = (refl, (refl, (refl, (refl, (refl, (refl, tt))))))

records_uncut : Uncut record_words
unfolding cut_at
records_uncut = (refl, (refl, (refl, (refl, tt))))

cut_of : (w : List ℕ) (y : List ℕ × List ℕ) → name_in w ≡ Ok y → (x : List ℕ × List ℕ) × (cut_at 47 w ≡ Some x)
cut_of w y is =
    let x = bind_ok (or_broken BadLine (cut_at 47 w)) _ y is in
    (x.0, there_is BadLine (cut_at 47 w) x.0 x.1)

name_read : (w : List ℕ) (y : List ℕ × List ℕ) (ws : Rest) → name_in w ≡ Ok y → list_all is_inside w ≡ true → read_word name_in (Some (w ++ rest_text ws)) ≡ Ok (y, ws)
name_read w y ws is inside =
    bind_is (λ (x : List ℕ × Rest). name_in x.0 >>= λ (z : List ℕ × List ℕ). Ok (z, x.1)) (word_whole w ws inside)
    ∙ bind_is (λ (z : List ℕ × List ℕ). Ok (z, ws)) is

name_form : (w : List ℕ) (y : List ℕ × List ℕ) → name_in w ≡ Ok y → list_all is_inside w ≡ true → form_in w ≡ Ok form.Total
unfolding form_in
name_form w y is inside =
    let cut = cut_of w y is in
    let a = not_found headings w cut.0 headings_uncut cut.1 in
    let b = not_found mark_words w cut.0 marks_uncut cut.1 in
    let c = not_found record_words w cut.0 records_uncut cut.1 in
    let read : read_word name_in (Some w) ≡ Ok (y, None) = ap (λ (t : List ℕ). read_word name_in (Some t)) (sym (append-nil w)) ∙ name_read w y None is inside in
    ap (λ (h : Option Form). form_among w h (found mark_words w) (found record_words w)) a
    ∙ ap (λ (m : Option MarkWord). form_among w None m (found record_words w)) b
    ∙ ap (λ (r : Option RecordWord). form_among w None None r) c
    ∙ bind_is (λ (x : (List ℕ × List ℕ) × Rest). Ok form.Total) read

-- ---- totals

abbrev pub with_sums : List ServerPart → List Told → List ClientBytes → List ConnBytes → List Totals → Reading
with_sums servers records clients conns totals =
    reading.Totals (record { servers = servers; records = records; clients = clients; conns = conns; totals = totals })

totals_clean : (t : Totals) → FitsTotals t → IsLine (totals_text t)
unfolding totals_text
totals_clean t fits = record {
  line = codes " open " ++ decimal t.opened ++ codes " park " ++ decimal t.parked ++ codes " take " ++ decimal t.taken ++ codes " over " ++ decimal t.over
      ++ codes " care " ++ decimal t.care ++ codes " close " ++ decimal t.closed;
  is = refl;
  clean = join (join (join (join (join (join (join (join (join (join (join (lit (codes " open ") refl) (clean_number t.opened fits.opened)) (lit (codes " park ") refl)) (clean_number t.parked fits.parked))
      (lit (codes " take ") refl)) (clean_number t.taken fits.taken)) (lit (codes " over ") refl)) (clean_number t.over fits.over)) (lit (codes " care ") refl)) (clean_number t.care fits.care))
      (lit (codes " close ") refl)) (clean_number t.closed fits.closed);
}

-- a name behind which a text stands
named_line : (a b : List ℕ) → Clean a → IsLine b → IsLine (a ++ b)
named_line a b clean line = record {
  line = a ++ line.line;
  is = ap (λ (t : List ℕ). a ++ t) line.is ∙ sym (append_assoc a line.line (codes "\n"));
  clean = join clean line.clean;
}

total_said : (servers : List ServerPart) (records : List Told) (clients : List ClientBytes) (conns : List ConnBytes) (totals : List Totals) (t : Totals)
    (w : List ℕ) (y : List ℕ × List ℕ) (ws : Rest) → name_in w ≡ Ok y → list_all is_inside w ≡ true → server_from 0 y.0 y.1 servers ≡ Some (length totals)
    → totals_at ws ≡ Ok t
    → means.totals_said (record { servers = servers; records = records; clients = clients; conns = conns; totals = totals }) form.Total (w ++ rest_text ws) ws
    ≡ Ok (with_sums servers records clients conns (totals ++ t ∷ []))
unfolding means.totals_said
total_said servers records clients conns totals t w y ws name inside at read =
    let r : TotalsRead = record { servers = servers; records = records; clients = clients; conns = conns; totals = totals } in
    let one : means.named_at servers (Some (w ++ rest_text ws)) ≡ Ok (length totals, ws) =
    bind_is (λ (x : (List ℕ × List ℕ) × Rest). or_broken NoSuchName (server_from 0 x.0.0 x.0.1 servers) >>= λ (i : ℕ). Ok (i, x.1)) (name_read w y ws name inside)
    ∙ ap (λ (o : Option ℕ). or_broken NoSuchName o >>= λ (i : ℕ). Ok (i, ws)) at in
    bind_is (λ (i : ℕ × Rest). unless (not (i.0 == length totals)) WrongOrder >>= λ (next : ⊤). totals_at i.1 >>= λ (x : Totals). Ok (with_sums servers records clients conns (totals ++ x ∷ []))) one
    ∙ ap (λ (b : Bool). unless (not b) WrongOrder >>= λ (next : ⊤). totals_at ws >>= λ (x : Totals). Ok (with_sums servers records clients conns (totals ++ x ∷ []))) (eq-eqb (length totals) (length totals) refl)
    ∙ bind_is (λ (x : Totals). Ok (with_sums servers records clients conns (totals ++ x ∷ []))) read

total_passes : (servers : List ServerPart) (records : List Told) (clients : List ClientBytes) (conns : List ConnBytes) (totals : List Totals) (t : Totals)
    → AreNamed servers → length totals < length servers → FitsTotals t
    → Passes (with_sums servers records clients conns totals) (name_or_none (slice_get servers (length totals)) ++ totals_text t) (with_sums servers records clients conns (totals ++ t ∷ []))
total_passes servers records clients conns totals t named lt fits =
    let h = server_whole servers (length totals) lt named.told named.others in
    let w = h.back ++ codes "/" ++ h.server in
    let x = totals_whole t fits in
    let name = names_read.whole (h.back, h.server) h.names in
    let inside = names_read.inside (h.back, h.server) h.names in
    let clean = join (join (clean_name h.back h.names.0) (lit (codes "/") refl)) (clean_name h.server h.names.1) in
    let r = with_sums servers records clients conns totals in
    let s = with_sums servers records clients conns (totals ++ t ∷ []) in
    let text : w ++ totals_text t ≡ w ++ rest_text x.0 ++ codes "\n" =
    ap (λ (z : List ℕ). w ++ z) (sym x.1) ∙ sym (append_assoc w (rest_text x.0) (codes "\n")) in
    let at : server_from 0 h.back h.server servers ≡ Some (length totals) = h.alone 0 ∙ ap (λ (n : ℕ). Some n) (omega arith) in
    subst (λ (z : List ℕ). Passes r (z ++ totals_text t) s) (sym h.is)
    (line_passes r (w ++ totals_text t) w x.0 form.Total s (named_line w (totals_text t) clean (totals_clean t fits)) text inside (name_form w (h.back, h.server) name inside)
    (total_said servers records clients conns totals t w (h.back, h.server) x.0 name inside at x.2))

-- more totals behind those that were read
sums_go_on : (servers : List ServerPart) (records : List Told) (clients : List ClientBytes) (conns : List ConnBytes) (totals more : List Totals)
    → AreNamed servers → Passes (with_sums servers records clients conns []) (totals_lines servers totals) (with_sums servers records clients conns totals)
    → length totals + length more ≤ length servers → All FitsTotals more
    → Passes (with_sums servers records clients conns []) (totals_lines servers (totals ++ more)) (with_sums servers records clients conns (totals ++ more))
sums_go_on servers records clients conns totals [] named so_far le fits =
    subst (λ (ts : List Totals). Passes (with_sums servers records clients conns []) (totals_lines servers ts) (with_sums servers records clients conns ts)) (sym (append-nil totals)) so_far
sums_go_on servers records clients conns totals (t ∷ more) named so_far le fits =
    let lt : length totals < length servers = omega (arith, le) in
    let r = with_sums servers records clients conns [] in
    let s = with_sums servers records clients conns totals in
    let u = with_sums servers records clients conns (totals ++ t ∷ []) in
    let name = name_or_none (slice_get servers (length totals)) in
    let one = total_passes servers records clients conns totals t named lt (All-head FitsTotals t more fits) in
    let both = subst (λ (x : List ℕ). Passes r x u) (sym (totals_more servers totals t lt)) (both_pass r s u (totals_lines servers totals) (name ++ totals_text t) so_far one) in
    let count : length (totals ++ t ∷ []) + length more ≤ length servers = omega (arith, length-append totals (t ∷ []), le) in
    let rest = sums_go_on servers records clients conns (totals ++ t ∷ []) more named both count (All-tail FitsTotals t more fits) in
    subst (λ (ts : List Totals). Passes r (totals_lines servers ts) (with_sums servers records clients conns ts)) (append_assoc totals (t ∷ []) more) rest

pub sums_pass : (servers : List ServerPart) (records : List Told) (clients : List ClientBytes) (conns : List ConnBytes) (totals : List Totals)
    → AreNamed servers → length totals ≡ length servers → All FitsTotals totals
    → Passes (with_sums servers records clients conns []) (totals_lines servers totals) (with_sums servers records clients conns totals)
sums_pass servers records clients conns totals named each fits =
    let r = with_sums servers records clients conns [] in
    sums_go_on servers records clients conns [] totals named (subst (λ (x : List ℕ). Passes r x r) (sym (no_totals servers)) (none_passes r)) (omega (arith, each)) fits

-- ---- the last line

end_form : form_in (codes "end") ≡ Ok form.End
unfolding form_in
end_form = refl

abbrev pub over : List ServerPart → List Told → List ClientBytes → List ConnBytes → List Totals → Reading
over servers records clients conns totals =
    reading.Over (record { servers = servers; records = records; clients = clients; conns = conns; totals = totals })

end_said : (servers : List ServerPart) (records : List Told) (clients : List ClientBytes) (conns : List ConnBytes) (totals : List Totals) (l : List ℕ)
    → length totals ≡ length servers
    → means.totals_said (record { servers = servers; records = records; clients = clients; conns = conns; totals = totals }) form.End l None ≡ Ok (over servers records clients conns totals)
unfolding means.totals_said
end_said servers records clients conns totals l each =
    ap (λ (b : Bool). unless (not b) WrongOrder >>= λ (all : ⊤). Ok (over servers records clients conns totals)) (eq-eqb (length totals) (length servers) each)

pub end_passes : (servers : List ServerPart) (records : List Told) (clients : List ClientBytes) (conns : List ConnBytes) (totals : List Totals)
    → length totals ≡ length servers → Passes (with_sums servers records clients conns totals) (codes "end\n") (over servers records clients conns totals)
end_passes servers records clients conns totals each =
    line_passes (with_sums servers records clients conns totals) (codes "end\n") (codes "end") None form.End (over servers records clients conns totals)
    (record { line = codes "end"; is = refl; clean = record { no = refl } }) refl refl end_form
    (end_said servers records clients conns totals (codes "end") each)
