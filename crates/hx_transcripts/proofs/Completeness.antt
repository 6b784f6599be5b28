-- What is printed is read back.
use Rattle.std.proofs.Common.{◌≡◌, ℕ, ◌+◌, ◌≤◌, Bool, true, false, List, [], ◌∷◌, ◌++◌, length, Some, None, Result, Ok, refl, sym, ap, subst, ◌∙◌, arith, inl, inr, append_assoc}
use Rattle.std.specs.Prelude.{codes, nat_lt}
use Rattle.std.specs.List.{flat_map}
use Rattle.std.proofs.lemmas.Bool.{cases_Bool, cond-false, ltb-true}
use Rattle.std.proofs.lemmas.List.{append-nil}
use Rattle.std.proofs.Math.Logic.{∥∥₁_elim}
use Rattle.std.proofs.Props.{props}
use Rattle.hx_script.specs.declared.transcript.ServerPart.{ServerPart}
use Rattle.hx_script.specs.declared.transcript.Transcript.{Transcript}
use Rattle.hx_script.specs.LinkLines.{client_lines, conn_lines, totals_lines}
use Rattle.hx_script.specs.MarkLines.{server_lines}
use Rattle.hx_script.specs.Printed.{first_line, printed, Spells}
use Rattle.hx_script.specs.PrintedForm.{HasPrintedForm}
use Rattle.hx_script.specs.RecordLines.{record_line}
use Rattle.hx_script_parts.specs.Lexical.{lines_of}
use Rattle.hx_transcripts_parts.specs.ReadBack.{AreNamed}
use Rattle.hx_transcripts_parts.proofs.WordLemmas.{bind_is}
use Rattle.hx_transcripts.specs.declared.fault.Flaw.{Flaw}
use Rattle.hx_transcripts.specs.declared.form.Form.TheVariants as form
use Rattle.hx_transcripts.specs.declared.reading.Parts.{Parts}
use Rattle.hx_transcripts.specs.declared.reading.Reading.{Reading}
use Rattle.hx_transcripts.specs.declared.reading.Reading.TheVariants as reading
use Rattle.hx_transcripts.specs.declared.reading.ServersRead.{ServersRead}
use Rattle.hx_transcripts.specs.Fits.{Fits}
use Rattle.hx_transcripts.specs.Forms.{form_in}
use Rattle.hx_transcripts.specs.Lines.{nothing_read}
use Rattle.hx_transcripts.specs.Links.{last_of}
use Rattle.hx_transcripts.specs.Meaning.{longest_text, lines_read, closes, is_closed, finished, lines_meant, meaning_of, parts_of}
use Rattle.hx_transcripts.specs.Records as records
use Rattle.hx_transcripts.specs.Servers as servers
use Rattle.hx_transcripts.proofs.ListLemmas.{last_later}
use Rattle.hx_transcripts.proofs.Passing.{Passes, both_pass, line_passes, line_split}
use Rattle.hx_transcripts.proofs.Soundness.{whole_printed}
use Rattle.hx_transcripts.proofs.WholeServers.{servers_pass}
use Rattle.hx_transcripts.proofs.WholeRecords.{with_records, records_pass}
use Rattle.hx_transcripts.proofs.WholeLinks.{with_clients, clients_pass, conns_pass, with_totals, behind_clients}
use Rattle.hx_transcripts.proofs.WholeSums.{with_sums, sums_pass, end_passes}

-- ---- headings

records_form : form_in (codes "records") ≡ Ok form.Records
unfolding form_in
records_form = refl

links_form : form_in (codes "links") ≡ Ok form.Links
unfolding form_in
links_form = refl

records_said : (r : ServersRead) → servers.servers_said r form.Records None ≡ Ok (with_records (servers.closed r.done r.current) [])
unfolding servers.servers_said
records_said r = refl

links_said : (t : Transcript) → records.records_said (record { servers = t.servers; records = t.records }) form.Links None ≡ Ok (with_clients t.servers t.records [] None)
unfolding records.records_said
links_said t = refl

records_heading : (r : ServersRead) → Passes (reading.Servers r) (codes "records\n") (with_records (servers.closed r.done r.current) [])
records_heading r =
    line_passes (reading.Servers r) (codes "records\n") (codes "records") None form.Records (with_records (servers.closed r.done r.current) [])
    (record { line = codes "records"; is = refl; clean = record { no = refl } }) refl refl records_form (records_said r)

links_heading : (t : Transcript) → Passes (with_records t.servers t.records) (codes "links\n") (with_clients t.servers t.records [] None)
links_heading t =
    line_passes (with_records t.servers t.records) (codes "links\n") (codes "links") None form.Links (with_clients t.servers t.records [] None)
    (record { line = codes "links"; is = refl; clean = record { no = refl } }) refl refl links_form (links_said t)

-- ---- all lines behind the first

abbrev body : Transcript → List ℕ
body t =
    (((((((flat_map server_lines t.servers ++ codes "records\n") ++ flat_map (record_line t.servers) t.records) ++ codes "links\n")
    ++ flat_map client_lines t.clients) ++ (flat_map (conn_lines t.servers) t.conns ++ codes "totals\n")) ++ totals_lines t.servers t.totals) ++ codes "end\n")

body_passes : (t : Transcript) → Fits t → HasPrintedForm t.servers t.records t.clients t.conns t.totals
    → Passes nothing_read (body t) (reading.Over (parts_of t))
body_passes t fits form =
    let named : AreNamed t.servers = record { told = form.servers_told; others = form.other_names } in
    let start : ServersRead = record { done = []; current = None } in
    let a = servers_pass start t.servers form.other_names form.servers_told fits.servers in
    let b : Passes (reading.Servers a.end) (codes "records\n") (with_records t.servers []) =
    subst (λ (ps : List ServerPart). Passes (reading.Servers a.end) (codes "records\n") (with_records ps [])) a.closed (records_heading a.end) in
    let c = records_pass t.servers [] t.records named form.records_told fits.records in
    let d = links_heading t in
    let e = clients_pass t.servers t.records [] t.clients form.clients_rise fits.clients in
    let at = with_clients t.servers t.records t.clients None in
    let f = conns_pass at t.servers t.records t.clients [] t.conns (behind_clients t.servers t.records t.clients) named form.conns_rise fits.conns form.conns_named in
    let g = sums_pass t.servers t.records t.clients t.conns t.totals named form.totals_each fits.totals in
    let h = end_passes t.servers t.records t.clients t.conns t.totals form.totals_each in
    let n = nothing_read in
    let ab = both_pass n (reading.Servers a.end) (with_records t.servers []) _ _ a.passes b in
    let abc = both_pass n (with_records t.servers []) (with_records t.servers t.records) _ _ ab c in
    let abcd = both_pass n (with_records t.servers t.records) (with_clients t.servers t.records [] None) _ _ abc d in
    let abcde = both_pass n (with_clients t.servers t.records [] None) at _ _ abcd e in
    let to = with_totals t.servers t.records t.clients t.conns in
    let abcdef = both_pass n at to _ _ abcde f in
    let sums = with_sums t.servers t.records t.clients t.conns t.totals in
    let abcdefg = both_pass n to sums _ _ abcdef g in
    both_pass n sums (reading.Over (parts_of t)) _ _ abcdefg h

-- ---- the whole

regroup_body : (f s r a l c k t u e : List ℕ)
    → (((((f ++ s) ++ (r ++ a)) ++ (l ++ c)) ++ k) ++ (t ++ u)) ++ e ≡ f ++ (((((((s ++ r) ++ a) ++ l) ++ c) ++ (k ++ t)) ++ u) ++ e)
regroup_body f s r a l c k t u e = simp append_assoc

printed_body : (t : Transcript) → printed t ≡ first_line ++ body t
printed_body t =
    sym (whole_printed t)
    ∙ regroup_body first_line (flat_map server_lines t.servers) (codes "records\n") (flat_map (record_line t.servers) t.records)
    (codes "links\n") (flat_map client_lines t.clients) (flat_map (conn_lines t.servers) t.conns)
    (codes "totals\n") (totals_lines t.servers t.totals) (codes "end\n")

last_end : (xs : List ℕ) → last_of (xs ++ codes "end\n") ≡ Some 10
last_end [] = refl
last_end (a ∷ []) = refl
last_end (a ∷ b ∷ xs) = last_later a b (xs ++ codes "end\n") ∙ last_end (b ∷ xs)

within : (n m : ℕ) → n ≤ m → nat_lt m n ≡ false
within n m le = elim (cases_Bool (nat_lt m n)) [
  | inl less ↦ absurd (let lt = ltb-true m n less in omega (arith, le, lt))
  | inr other ↦ other
]

first_split : (rest : List ℕ) → lines_of (first_line ++ rest) ≡ codes "hx-transcript 1" ∷ lines_of rest
unfolding first_line
first_split rest = line_split (codes "hx-transcript 1") rest refl

all_read : (b : List ℕ) (p : Parts) → Passes nothing_read b (reading.Over p) → (k : ℕ) × (lines_read 1 nothing_read (lines_of b) ≡ Ok (reading.Over p, k))
unfolding lines_read lines_of
all_read b p h = (1 + h.count, ap (λ (x : List ℕ). lines_read 1 nothing_read (lines_of x)) (sym (append-nil b)) ∙ h.reads 1 [])

shut_so : (t : Transcript) → is_closed (first_line ++ body t) ≡ true
shut_so t =
    let front = (((((flat_map server_lines t.servers ++ codes "records\n") ++ flat_map (record_line t.servers) t.records) ++ codes "links\n")
    ++ flat_map client_lines t.clients) ++ (flat_map (conn_lines t.servers) t.conns ++ codes "totals\n")) ++ totals_lines t.servers t.totals in
    ap is_closed (sym (append_assoc first_line front (codes "end\n"))) ∙ ap closes (last_end (first_line ++ front))

meant_whole : (t : Transcript) → Passes nothing_read (body t) (reading.Over (parts_of t))
    → lines_meant (is_closed (first_line ++ body t)) (lines_of (first_line ++ body t)) ≡ Ok (parts_of t)
meant_whole t h =
    let all = all_read (body t) (parts_of t) h in
    ap (λ (b : Bool). lines_meant b (lines_of (first_line ++ body t))) (shut_so t)
    ∙ ap (lines_meant true) (first_split (body t))
    ∙ bind_is (λ (x : Reading × ℕ). finished true x.0 x.1) all.1

whole_with : (t : Transcript) → Fits t → HasPrintedForm t.servers t.records t.clients t.conns t.totals → length (printed t) ≤ longest_text
    → meaning_of (printed t) ≡ Ok (parts_of t)
unfolding meaning_of
whole_with t fits form short =
    cond-false (nat_lt longest_text (length (printed t))) _ (lines_meant (is_closed (printed t)) (lines_of (printed t))) (within (length (printed t)) longest_text short)
    ∙ ap (λ (x : List ℕ). lines_meant (is_closed x) (lines_of x)) (printed_body t) ∙ meant_whole t (body_passes t fits form)

one_way : (q : Result Parts Flaw) (p : Parts) → IsProp (q ≡ Ok p)
one_way q p = (let is : IsSet (Result Parts Flaw) = hlevel props in is) q (Ok p)

pub read_whole : (text : List ℕ) (t : Transcript) → Fits t → Spells text t → length text ≤ longest_text → meaning_of text ≡ Ok (parts_of t)
read_whole text t fits spells short =
    ap meaning_of spells
    ∙ ∥∥₁_elim t.form (one_way (meaning_of (printed t)) (parts_of t)) (λ form. whole_with t fits form (subst (λ (x : List ℕ). length x ≤ longest_text) spells short))
