-- The lines of records are read.
use Rattle.std.proofs.Common.{◌≡◌, ℕ, suc, zero, ◌≤◌, Bool, true, false, List, [], ◌∷◌, ◌++◌, All, length, Ok, refl, sym, subst, arith, append_assoc}
use Rattle.std.specs.Prelude.{codes, decimal, slice_get}
use Rattle.std.specs.List.{flat_map, list_all}
use Rattle.std.proofs.lemmas.List.{append-nil}
use Rattle.std.proofs.lemmas.List.Elements.{All-head, All-tail}
use Rattle.hx_base.specs.declared.numbers.ServerNo.{ServerNo}
use Rattle.hx_base.specs.declared.numbers.ConnId.{ConnId}
use Rattle.hx_base.specs.declared.numbers.Span.{Span}
use Rattle.hx_record.specs.declared.served.Carried.{Carried}
use Rattle.hx_record.specs.declared.served.CutCause.{CutCause}
use Rattle.hx_record.specs.declared.served.CutCause.TheVariants as cut
use Rattle.hx_record.specs.declared.served.Kind.{Kind}
use Rattle.hx_record.specs.declared.served.Kind.TheVariants as kind
use Rattle.hx_record.specs.declared.served.LeftCause.{LeftCause}
use Rattle.hx_record.specs.declared.served.LeftCause.TheVariants as cause
use Rattle.hx_record.specs.declared.served.Served.{Served}
use Rattle.hx_record.specs.declared.served.Told.{Told}
use Rattle.hx_record.specs.declared.served.Told.TheVariants as told
use Rattle.hx_script.specs.declared.transcript.ServerPart.{ServerPart}
use Rattle.hx_script.specs.MarkLines.{who}
use Rattle.hx_script.specs.PrintedForm.{IsToldServer, IsToldRecord}
use Rattle.hx_script.specs.RecordLines.{span_text, name_or_none, conn_text, closing_text, cut_closing_text, cut_text, cause_text, link_ranges, carried_text, begin_text, kind_line, record_line}
use Rattle.hx_transcripts_parts.specs.declared.keywords.RecordWord.{RecordWord}
use Rattle.hx_transcripts_parts.specs.declared.keywords.RecordWord.TheVariants as first
use Rattle.hx_transcripts_parts.specs.Lexical.{Rest, is_inside}
use Rattle.hx_transcripts_parts.specs.Numbers.{most_64}
use Rattle.hx_transcripts_parts.specs.ReadBack.{AreNamed, FitsSpan, FitsWho}
use Rattle.hx_transcripts_parts.specs.RecordLaws.{record_text, FitsCarried, FitsKind, FitsTold}
use Rattle.hx_transcripts_parts.specs.Records.{record_at}
use Rattle.hx_transcripts_parts.proofs.RecordLemmas.{record_whole}
use Rattle.hx_transcripts_parts.proofs.WordLemmas.{bind_is}
use Rattle.hx_transcripts.specs.declared.form.Form.TheVariants as form
use Rattle.hx_transcripts.specs.declared.reading.Reading.{Reading}
use Rattle.hx_transcripts.specs.declared.reading.Reading.TheVariants as reading
use Rattle.hx_transcripts.specs.Forms.{form_in}
use Rattle.hx_transcripts.specs.Records as means
use Rattle.hx_transcripts.proofs.Cleanness.{join, lit, clean_number, clean_name, clean_who, clean_span}
use Rattle.hx_transcripts.proofs.Passing.{Clean, IsLine, Passes, none_passes, both_pass, line_passes}

name_clean : (servers : List ServerPart) (n : ℕ) → All IsToldServer servers → Clean (name_or_none (slice_get servers n))
name_clean [] n told = record { no = refl }
name_clean (p ∷ servers) zero told =
    let one = All-head IsToldServer p servers told in
    join (join (clean_name p.back one.0) (lit (codes "/") refl)) (clean_name p.server one.1)
name_clean (p ∷ servers) (suc n) told = name_clean servers n (All-tail IsToldServer p servers told)

pub clean_conn : (servers : List ServerPart) (s : ServerNo) (id : ConnId) → All IsToldServer servers → id.0 ≤ most_64 → Clean (conn_text servers s id)
unfolding conn_text
clean_conn servers s id told le = join (join (name_clean servers s.0 told) (lit (codes "#") refl)) (clean_number id.0 le)

ranges_clean : (c : Carried) (ask gave : Span) → FitsSpan ask → FitsSpan c.sent → FitsSpan c.took → FitsSpan gave → Clean (link_ranges c ask gave)
ranges_clean c ask gave a s t g =
    join (join (join (join (join (join (join (lit (codes " ask ") refl) (clean_span ask a)) (lit (codes " sent ") refl)) (clean_span c.sent s)) (lit (codes " took ") refl)) (clean_span c.took t)) (lit (codes " gave ") refl)) (clean_span gave g)

carried_clean : (servers : List ServerPart) (c : Carried) (ask gave : Span) → All IsToldServer servers → FitsCarried c → FitsSpan ask → FitsSpan gave
    → Clean (carried_text servers c ask gave)
unfolding carried_text
carried_clean servers c ask gave told fits a g =
    join (join (join (clean_conn servers c.server c.id told fits.1) (lit (codes " ") refl)) (clean_number c.nth (omega (arith, fits.2)))) (ranges_clean c ask gave a fits.3 fits.4 g)

begin_clean : (s : Served) → FitsWho (s.worker, s.session) → s.number ≤ most_64 → Clean (begin_text s)
begin_clean s w n = join (join (join (clean_who s.worker s.session w) (lit (codes " ") refl)) (clean_number s.number n)) (lit (codes " ") refl)

cut_clean : (why : CutCause) → Clean (cut_text why)
cut_clean cut.Early = record { no = refl }
cut_clean cut.Ended = record { no = refl }
cut_clean cut.Fault = record { no = refl }
cut_clean cut.Broken = record { no = refl }
cut_clean cut.Late = record { no = refl }
cut_clean cut.Client = record { no = refl }
cut_clean cut.Stop = record { no = refl }
cut_clean cut.Silent = record { no = refl }

cause_clean : (c : LeftCause) → Clean (cause_text c)
cause_clean cause.End = record { no = refl }
cause_clean cause.Closing = record { no = refl }
cause_clean cause.Own = record { no = refl }
cause_clean cause.Cut = record { no = refl }
cause_clean cause.Idle = record { no = refl }
cause_clean cause.Fault = record { no = refl }
cause_clean cause.Stop = record { no = refl }

cut_closing_clean : (b : Bool) → Clean (cut_closing_text b)
cut_closing_clean true = record { no = refl }
cut_closing_clean false = record { no = refl }

-- a text behind which the word for closing stands
closed_line : (a : List ℕ) (closing : Bool) → Clean a → IsLine (a ++ closing_text closing)
closed_line a true clean = record {
  line = a ++ codes " close";
  is = sym (append_assoc a (codes " close") (codes "\n"));
  clean = join clean (lit (codes " close") refl);
}
closed_line a false clean = record {
  line = a ++ codes " keep";
  is = sym (append_assoc a (codes " keep") (codes "\n"));
  clean = join clean (lit (codes " keep") refl);
}

kind_clean : (servers : List ServerPart) (s : Served) (k : Kind) → All IsToldServer servers → FitsWho (s.worker, s.session) → s.number ≤ most_64
    → FitsSpan s.ask → FitsSpan s.gave → FitsKind k → IsLine (kind_line servers s k)
kind_clean servers s (kind.Passed c) told w n a g fits =
    closed_line (codes "pass " ++ begin_text s ++ carried_text servers c s.ask s.gave) c.closing
    (join (join (lit (codes "pass ") refl) (begin_clean s w n)) (carried_clean servers c s.ask s.gave told fits a g))
kind_clean servers s (kind.Cut c why) told w n a g fits = record {
  line = codes "cut " ++ begin_text s ++ carried_text servers c s.ask s.gave ++ cut_closing_text c.closing ++ cut_text why;
  is = refl;
  clean = join (join (join (join (lit (codes "cut ") refl) (begin_clean s w n)) (carried_clean servers c s.ask s.gave told fits a g)) (cut_closing_clean c.closing)) (cut_clean why);
}
kind_clean servers s (kind.Own status) told w n a g fits = record {
  line = codes "own " ++ begin_text s ++ decimal status ++ codes " ask " ++ span_text s.ask ++ codes " gave " ++ span_text s.gave;
  is = refl;
  clean = join (join (join (join (join (join (lit (codes "own ") refl) (begin_clean s w n)) (clean_number status (omega (arith, fits)))) (lit (codes " ask ") refl)) (clean_span s.ask a)) (lit (codes " gave ") refl)) (clean_span s.gave g);
}

record_clean : (servers : List ServerPart) (t : Told) → All IsToldServer servers → FitsTold t → IsLine (record_line servers t)
unfolding record_line
record_clean servers (told.Served s) named fits = kind_clean servers s s.kind named fits.0 fits.1 fits.2 fits.3 fits.4
record_clean servers (told.Left l) named fits = record {
  line = codes "left " ++ who l.worker l.session ++ codes " " ++ span_text l.ask ++ codes " " ++ cause_text l.cause;
  is = refl;
  clean = join (join (join (join (join (lit (codes "left ") refl) (clean_who l.worker l.session fits.0)) (lit (codes " ") refl)) (clean_span l.ask fits.1)) (lit (codes " ") refl)) (cause_clean l.cause);
}

record_inside : (f : RecordWord) → list_all is_inside (record_text f) ≡ true
record_inside first.Pass = refl
record_inside first.Cut = refl
record_inside first.Own = refl
record_inside first.Left = refl

record_form : (f : RecordWord) → form_in (record_text f) ≡ Ok (form.Record f)
unfolding form_in
record_form first.Pass = refl
record_form first.Cut = refl
record_form first.Own = refl
record_form first.Left = refl

abbrev pub with_records : List ServerPart → List Told → Reading
with_records servers records = reading.Records (record { servers = servers; records = records })

record_said : (servers : List ServerPart) (records : List Told) (t : Told) (f : RecordWord) (ws : Rest) → record_at servers f ws ≡ Ok t
    → means.records_said (record { servers = servers; records = records }) (form.Record f) ws ≡ Ok (with_records servers (records ++ t ∷ []))
unfolding means.records_said
record_said servers records t f ws is = bind_is (λ (x : Told). Ok (with_records servers (records ++ x ∷ []))) is

record_passes : (servers : List ServerPart) (records : List Told) (t : Told) → AreNamed servers → IsToldRecord (length servers) t → FitsTold t
    → Passes (with_records servers records) (record_line servers t) (with_records servers (records ++ t ∷ []))
record_passes servers records t named ok fits =
    let x = record_whole servers named t ok fits in
    line_passes (with_records servers records) (record_line servers t) (record_text x.first) x.ws (form.Record x.first) (with_records servers (records ++ t ∷ []))
    (record_clean servers t named.told fits) x.line (record_inside x.first) (record_form x.first) (record_said servers records t x.first x.ws x.read)

pub records_pass : (servers : List ServerPart) (records more : List Told) → AreNamed servers → All (IsToldRecord (length servers)) more → All FitsTold more
    → Passes (with_records servers records) (flat_map (record_line servers) more) (with_records servers (records ++ more))
records_pass servers records [] named ok fits =
    subst (λ (ts : List Told). Passes (with_records servers records) [] (with_records servers ts)) (sym (append-nil records)) (none_passes (with_records servers records))
records_pass servers records (t ∷ more) named ok fits =
    let one = record_passes servers records t named (All-head (IsToldRecord (length servers)) t more ok) (All-head FitsTold t more fits) in
    let rest = records_pass servers (records ++ t ∷ []) more named (All-tail (IsToldRecord (length servers)) t more ok) (All-tail FitsTold t more fits) in
    subst (λ (ts : List Told). Passes (with_records servers records) (record_line servers t ++ flat_map (record_line servers) more) (with_records servers ts)) (append_assoc records (t ∷ []) more)
    (both_pass (with_records servers records) (with_records servers (records ++ t ∷ [])) (with_records servers ((records ++ t ∷ []) ++ more)) (record_line servers t) (flat_map (record_line servers) more) one rest)
