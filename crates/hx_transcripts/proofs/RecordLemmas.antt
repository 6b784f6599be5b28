-- Lines where records stand.
use Rattle.std.proofs.Common.{◌≡◌, ℕ, List, ◌++◌, length, Ok, sym, ap, subst, ◌∙◌}
use Rattle.std.specs.Prelude.{codes}
use Rattle.std.proofs.lemmas.List.{append-nil}
use Rattle.std.proofs.lemmas.List.Elements.{All-push}
use Rattle.hx_script.specs.PrintedForm.{IsToldRecord}
use Rattle.hx_script.specs.RecordLines.{record_line}
use Rattle.hx_transcripts_parts.specs.declared.keywords.RecordWord.{RecordWord}
use Rattle.hx_transcripts_parts.specs.Lexical.{Rest, rest_text, at_end}
use Rattle.hx_transcripts_parts.specs.RecordLaws.{record_text}
use Rattle.hx_transcripts_parts.specs.Records.{record_at}
use Rattle.hx_transcripts_parts.proofs.RecordLemmas.{record_sound}
use Rattle.hx_transcripts_parts.proofs.WordLemmas.{ok_is, bind_ok, end_sound}
use Rattle.hx_transcripts.specs.declared.form.Form.{Form}
use Rattle.hx_transcripts.specs.declared.form.Form.TheVariants as form
use Rattle.hx_transcripts.specs.declared.reading.RecordsRead.{RecordsRead}
use Rattle.hx_transcripts.specs.declared.reading.Reading.{Reading}
use Rattle.hx_transcripts.specs.declared.reading.Reading.TheVariants as reading
use Rattle.hx_transcripts.specs.Records as means
use Rattle.hx_transcripts.proofs.FormLemmas.{IsWordOf}
use Rattle.hx_transcripts.proofs.ListLemmas.{more}
use Rattle.hx_transcripts.proofs.Told.{servers_told, records_told, Adds, IsGood}

record_adds : (r : RecordsRead) (first : RecordWord) (ws : Rest) (s : Reading) → IsGood (reading.Records r) → means.record_line r first ws ≡ Ok s
    → Adds (reading.Records r) (record_text first ++ rest_text ws ++ codes "\n") s
record_adds r first ws s good is =
    let t = bind_ok (record_at r.servers first ws) _ s is in
    let line = record_sound r.servers good.named first ws t.0 t.1 in
    subst (Adds (reading.Records r) (record_text first ++ rest_text ws ++ codes "\n")) (ok_is _ s t.2)
    (record {
      good = record { named = good.named; each = All-push (IsToldRecord (length r.servers)) r.records t.0 good.each line.told };
      text = more (servers_told r.servers) (codes "records\n") (record_line r.servers) r.records t.0
          ∙ ap (λ (x : List ℕ). records_told r.servers r.records ++ x) line.line;
    })

links_adds : (r : RecordsRead) (ws : Rest) (s : Reading) → IsGood (reading.Records r) → means.links_line r ws ≡ Ok s
    → Adds (reading.Records r) (codes "links" ++ rest_text ws ++ codes "\n") s
links_adds r ws s good is =
    let e = bind_ok (at_end ws) _ s is in
    let none = end_sound ws e.0 e.1 in
    subst (Adds (reading.Records r) (codes "links" ++ rest_text ws ++ codes "\n")) (ok_is _ s e.2)
    (record {
      good = (record { before = good; rise = tt }, tt);
      text = append-nil (records_told r.servers r.records ++ codes "links\n")
          ∙ ap (λ (t : List ℕ). records_told r.servers r.records ++ (codes "links" ++ t ++ codes "\n")) (sym none);
    })

pub records_add : (r : RecordsRead) (f : Form) (w : List ℕ) (ws : Rest) (s : Reading) → IsWordOf w f → IsGood (reading.Records r)
    → means.records_said r f ws ≡ Ok s → Adds (reading.Records r) (w ++ rest_text ws ++ codes "\n") s
unfolding means.records_said
records_add r (form.Record k) w ws s word good is = rw word (record_adds r k ws s good is)
records_add r form.Links w ws s word good is = rw word (links_adds r ws s good is)
records_add r form.Server w ws s word good is = cc
records_add r (form.Mark m) w ws s word good is = cc
records_add r form.Records w ws s word good is = cc
records_add r form.Version w ws s word good is = cc
records_add r form.Client w ws s word good is = cc
records_add r form.Conn w ws s word good is = cc
records_add r form.Totals w ws s word good is = cc
records_add r form.Total w ws s word good is = cc
records_add r form.End w ws s word good is = cc
