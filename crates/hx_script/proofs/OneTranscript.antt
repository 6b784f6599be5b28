-- No text is the printed form of two transcripts.
use Rattle.std.proofs.Common.{◌≡◌, ℕ, Bool, true, List, [], ◌∷◌, ◌++◌, All, get_or, length, refl, sym, ap, subst, ◌∙◌, append_assoc}
use Rattle.std.specs.Prelude.{codes, ◌==◌, not}
use Rattle.std.specs.List.{flat_map}
use Rattle.std.proofs.lemmas.List.{append_cancel_left}
use Rattle.std.proofs.Math.Logic.{∥∥₁_elim}
use Rattle.std.proofs.Props.{props}
use Rattle.hx_base.specs.declared.totals.Totals.{Totals}
use Rattle.hx_record.specs.declared.bytes.ClientBytes.{ClientBytes}
use Rattle.hx_record.specs.declared.bytes.ConnBytes.{ConnBytes}
use Rattle.hx_record.specs.declared.served.Kind.{Kind}
use Rattle.hx_record.specs.declared.served.Kind.TheVariants as kind
use Rattle.hx_record.specs.declared.served.Served.{Served}
use Rattle.hx_record.specs.declared.served.Told.{Told}
use Rattle.hx_record.specs.declared.served.Told.TheVariants as told
use Rattle.hx_script.specs.declared.transcript.ServerPart.{ServerPart}
use Rattle.hx_script.specs.declared.transcript.Transcript.{Transcript}
use Rattle.hx_script.specs.MarkLines.{server_line, server_lines}
use Rattle.hx_script.specs.RecordLines.{kind_line, record_line}
use Rattle.hx_script.specs.LinkLines.{client_lines, conn_lines, totals_lines}
use Rattle.hx_script.specs.Printed.{first_line, servers_text, records_text, links_text, sums_text, printed, Spells}
use Rattle.hx_script.specs.PrintedForm.{HasPrintedForm}
use Rattle.hx_script.specs.Numbers.{HasClientNumbers, HasNumbers}
use Rattle.hx_script.proofs.FormLemmas.{same_line}
use Rattle.hx_script.proofs.LineLists.{AreLines, IsBehind, simple_lines, same_lines}
use Rattle.hx_script.proofs.NamedServers.{AreNamed}
use Rattle.hx_script.proofs.RecordTextLemmas.{IsRecord, record_lines}
use Rattle.hx_script.proofs.ServerTextLemmas.{IsServer, servers_apart}
use Rattle.hx_script.proofs.LinkTextLemmas.{IsConn, clients_apart, conns_apart, AreTotals, same_totals}

-- ---- the parts

-- what tells the parts of a transcript, over its servers
pub record HasParts (servers : List ServerPart) (records : List Told) (clients : List ClientBytes) (conns : List ConnBytes)
    (totals : List Totals) : Type 0 where
  pub each_record : All (IsRecord servers) records
  pub each_client : All HasClientNumbers clients
  pub each_conn : All (IsConn servers) conns
  pub each_total : All AreTotals totals
  pub count : length totals ≡ length servers

parts : (t : Transcript) → HasNumbers t → HasPrintedForm t.servers t.records t.clients t.conns t.totals
    → All IsServer t.servers × HasParts t.servers t.records t.clients t.conns t.totals
parts t numbers form =
    let are : AreNamed t.servers = record { told = form.servers_told; others = form.other_names } in (
      λ k d lt. (form.servers_told k d lt, numbers.servers k d lt),
      record {
        each_record = λ k d lt. (are, form.records_told k d lt, numbers.records k d lt);
        each_client = numbers.clients;
        each_conn = λ k d lt. (are, form.conns_named k d lt, numbers.conns k d lt);
        each_total = numbers.totals;
        count = form.totals_each;
      },
    )

-- the text behind the servers
abbrev sums : List ServerPart → List Totals → List ℕ
sums servers totals = codes "totals\n" ++ (totals_lines servers totals ++ codes "end\n")

abbrev links : List ServerPart → List ClientBytes → List ConnBytes → List ℕ → List ℕ
links servers clients conns rest =
    codes "links\n" ++ (flat_map client_lines clients ++ (flat_map (conn_lines servers) conns ++ rest))

abbrev behind_servers : List ServerPart → List Told → List ClientBytes → List ConnBytes → List Totals → List ℕ
behind_servers servers records clients conns totals =
    codes "records\n" ++ (flat_map (record_line servers) records ++ links servers clients conns (sums servers totals))

regroup : (h a i b j c d k e z : List ℕ)
    → (h ++ a) ++ (i ++ b) ++ (j ++ c ++ d) ++ (k ++ e ++ z) ≡ h ++ (a ++ (i ++ (b ++ (j ++ (c ++ (d ++ (k ++ (e ++ z))))))))
regroup h a i b j c d k e z = simp append_assoc

printed_so : (t : Transcript)
    → printed t ≡ codes "hx-transcript 1\n" ++ (flat_map server_lines t.servers ++ behind_servers t.servers t.records t.clients t.conns t.totals)
unfolding first_line servers_text records_text links_text sums_text
printed_so t = regroup (codes "hx-transcript 1\n") (flat_map server_lines t.servers) (codes "records\n") (flat_map (record_line t.servers) t.records)
    (codes "links\n") (flat_map client_lines t.clients) (flat_map (conn_lines t.servers) t.conns)
    (codes "totals\n") (totals_lines t.servers t.totals) (codes "end\n")

-- ---- the records: only the heading of the links has an i second

abbrev begins_record : List ℕ → Bool
begins_record r = not (get_or r 1 0 == 105)

kind_starts : (servers : List ServerPart) (s : Served) (k : Kind) (r : List ℕ) → begins_record (kind_line servers s k ++ r) ≡ true
kind_starts servers s (kind.Passed c) r = refl
kind_starts servers s (kind.Cut c why) r = refl
kind_starts servers s (kind.Own status) r = refl

record_starts : (servers : List ServerPart) (t : Told) (r : List ℕ) → IsRecord servers t → begins_record (record_line servers t ++ r) ≡ true
unfolding record_line
record_starts servers (told.Served s) r ok = kind_starts servers s s.kind r
record_starts servers (told.Left l) r ok = refl

abbrev records_apart : (servers : List ServerPart) → AreLines (IsRecord servers) (record_line servers)
records_apart servers = simple_lines (IsRecord servers) (record_line servers) begins_record (record_starts servers)
    (same_line (IsRecord servers) (record_line servers) (record_lines servers))

-- ---- the whole

-- a connection's line or the heading of the totals stands behind the clients
behind_clients : (servers : List ServerPart) (ks : List ConnBytes) (ts : List Totals) → All (IsConn servers) ks
    → IsBehind clients_apart (flat_map (conn_lines servers) ks ++ sums servers ts)
unfolding conn_lines
behind_clients servers [] ts x = record { other = refl; follows = refl }
behind_clients servers (k ∷ ks) ts x = record { other = refl; follows = refl }

same_behind : (servers : List ServerPart) (rs rs' : List Told) (cs cs' : List ClientBytes) (ks ks' : List ConnBytes) (ts ts' : List Totals)
    → HasParts servers rs cs ks ts → HasParts servers rs' cs' ks' ts'
    → behind_servers servers rs cs ks ts ≡ behind_servers servers rs' cs' ks' ts'
    → (rs ≡ rs') × (cs ≡ cs') × (ks ≡ ks') × (ts ≡ ts')
same_behind servers rs rs' cs cs' ks ks' ts ts' x y is =
    let end = sums servers ts in
    let end' = sums servers ts' in
    let a = same_lines (IsRecord servers) (record_line servers) (records_apart servers) rs rs' (links servers cs ks end) (links servers cs' ks' end')
    x.each_record y.each_record (record { other = refl; follows = refl }) (record { other = refl; follows = refl })
    (append_cancel_left (codes "records\n") _ _ is) in
    let b = same_lines HasClientNumbers client_lines clients_apart cs cs' (flat_map (conn_lines servers) ks ++ end) (flat_map (conn_lines servers) ks' ++ end')
    x.each_client y.each_client (behind_clients servers ks ts x.each_conn) (behind_clients servers ks' ts' y.each_conn)
    (append_cancel_left (codes "links\n") _ _ a.1) in
    let c = same_lines (IsConn servers) (conn_lines servers) (conns_apart servers) ks ks' end end'
    x.each_conn y.each_conn (record { other = refl; follows = refl }) (record { other = refl; follows = refl }) b.1 in
    let d = same_totals servers ts ts' (codes "end\n") (codes "end\n") x.count y.count x.each_total y.each_total (append_cancel_left (codes "totals\n") _ _ c.1) in
    (a.0, b.0, c.0, d)

-- the same parts are one transcript
same_parts : (t u : Transcript) → t.servers ≡ u.servers → t.records ≡ u.records → t.clients ≡ u.clients → t.conns ≡ u.conns → t.totals ≡ u.totals → t ≡ u
same_parts t u a b c d e =
    let P = λ (sv : List ServerPart) (rs : List Told) (cs : List ClientBytes) (ks : List ConnBytes) (ts : List Totals).
    (f : ∥ HasPrintedForm sv rs cs ks ts ∥₁) → t ≡ record { servers = sv; records = rs; clients = cs; conns = ks; totals = ts; form = f } in
    let own : P t.servers t.records t.clients t.conns t.totals = λ f. ap (λ (g : ∥ HasPrintedForm t.servers t.records t.clients t.conns t.totals ∥₁).
    record { servers = t.servers; records = t.records; clients = t.clients; conns = t.conns; totals = t.totals; form = g }) (squash₁ t.form f) in
    subst (λ (ts : List Totals). P u.servers u.records u.clients u.conns ts) e
    (subst (λ (ks : List ConnBytes). P u.servers u.records u.clients ks t.totals) d
    (subst (λ (cs : List ClientBytes). P u.servers u.records cs t.conns t.totals) c
    (subst (λ (rs : List Told). P u.servers rs t.clients t.conns t.totals) b
    (subst (λ (sv : List ServerPart). P sv t.records t.clients t.conns t.totals) a own)))) u.form

same_in_one_way : (t u : Transcript) → IsProp (t ≡ u)
same_in_one_way t u = (let is : IsSet Transcript = hlevel props in is) t u

-- the servers of both are the same, and then what is behind them
same_whole : (t u : Transcript) → HasNumbers t → HasNumbers u → HasPrintedForm t.servers t.records t.clients t.conns t.totals
    → HasPrintedForm u.servers u.records u.clients u.conns u.totals → printed t ≡ printed u → t ≡ u
unfolding server_lines server_line
same_whole t u m n f g is =
    let x = parts t m f in
    let y = parts u n g in
    let behind = λ (v : Transcript). behind_servers v.servers v.records v.clients v.conns v.totals in
    let e = append_cancel_left (codes "hx-transcript 1\n") (flat_map server_lines t.servers ++ behind t) (flat_map server_lines u.servers ++ behind u)
    (sym (printed_so t) ∙ is ∙ printed_so u) in
    let a = same_lines IsServer server_lines servers_apart t.servers u.servers (behind t) (behind u) x.0 y.0
    (record { other = refl; follows = refl }) (record { other = refl; follows = refl }) e in
    let here : behind t ≡ behind_servers t.servers u.records u.clients u.conns u.totals =
    a.1 ∙ ap (λ (ps : List ServerPart). behind_servers ps u.records u.clients u.conns u.totals) (sym a.0) in
    let z : HasParts t.servers u.records u.clients u.conns u.totals =
    subst (λ (ps : List ServerPart). HasParts ps u.records u.clients u.conns u.totals) (sym a.0) y.1 in
    let more = same_behind t.servers t.records u.records t.clients u.clients t.conns u.conns t.totals u.totals x.1 z here in
    same_parts t u a.0 more.0 more.1 more.2 more.3

pub one_text : (text : List ℕ) (t u : Transcript) → HasNumbers t → HasNumbers u → Spells text t → Spells text u → t ≡ u
one_text text t u m n x y =
    ∥∥₁_elim t.form (same_in_one_way t u) (λ f. ∥∥₁_elim u.form (same_in_one_way t u) (λ g. same_whole t u m n f g (sym x ∙ y)))
