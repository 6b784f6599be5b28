-- The lines of links' bytes and of totals are told from every other.
use Rattle.std.proofs.Common.{◌≡◌, ℕ, ◌<◌, Bool, true, List, [], ◌∷◌, ◌++◌, All, get_or, length, refl, sym, ap₂, ◌∙◌, append_assoc, arith, lit<}
use Rattle.std.specs.Prelude.{decimal, codes, ◌==◌}
use Rattle.std.proofs.lemmas.List.{append_cancel_left}
use Rattle.std.proofs.lemmas.List.Elements.{All-head, All-tail}
use Rattle.hx_base.specs.declared.totals.Totals.{Totals}
use Rattle.hx_record.specs.declared.bytes.ClientBytes.{ClientBytes}
use Rattle.hx_record.specs.declared.bytes.ConnBytes.{ConnBytes}
use Rattle.hx_script.specs.declared.transcript.ServerPart.{ServerPart}
use Rattle.hx_script_parts.specs.ByteText.{quoted}
use Rattle.hx_script.specs.MarkLines.{full_name}
use Rattle.hx_script.specs.RecordLines.{conn_text}
use Rattle.hx_script.specs.LinkLines.{client_lines, conn_lines, totals_text, totals_lines}
use Rattle.hx_script.specs.Numbers.{IsNumber, HasClientNumbers, HasConnNumbers, total_numbers}
use Rattle.hx_script.proofs.FormLemmas.{Value, number, name, bytes, a_number, a_name, some_bytes, Form, text, AreOf, IsLines, same_line, number_at, name_at}
use Rattle.hx_script.proofs.LineLists.{AreLines, simple_lines}
use Rattle.hx_script.proofs.NamedServers.{AreNamed, back_at, server_at, found_at, named, found, conn_is}

-- ---- clients

abbrev client_form : Form
client_form =
    (a_number, codes ".") ∷ (a_number, codes " took ") ∷ (some_bytes, codes "\nclient ")
    ∷ (a_number, codes ".") ∷ (a_number, codes " gave ") ∷ (some_bytes, codes "\n") ∷ []

abbrev client_values : ClientBytes → List Value
client_values c =
    number c.worker.0 ∷ number c.session.0 ∷ bytes c.took ∷ number c.worker.0 ∷ number c.session.0 ∷ bytes c.gave ∷ []

abbrev bytes_of : Value → List ℕ
bytes_of (bytes xs) = xs
bytes_of _ = []

abbrev bytes_at : ℕ → List Value → List ℕ
bytes_at k values = bytes_of (get_or values k (name []))

abbrev client_back : List Value → ClientBytes
client_back vs = record { worker = record { 0 = number_at 0 vs }; session = record { 0 = number_at 1 vs }; took = bytes_at 2 vs; gave = bytes_at 5 vs }

client_regroup : (t n took gave r : List ℕ)
    → (codes "client " ++ (t ++ codes "." ++ n) ++ codes " took " ++ took ++ codes "\nclient " ++ (t ++ codes "." ++ n) ++ codes " gave " ++ gave ++ codes "\n") ++ r
    ≡ 99 ∷ codes "lient " ++ (t ++ (codes "." ++ (n ++ (codes " took " ++ (took ++ (codes "\nclient " ++ (t ++ (codes "." ++ (n ++ (codes " gave " ++ (gave ++ (codes "\n" ++ r))))))))))))
client_regroup t n took gave r = simp append_assoc

client_is : (c : ClientBytes) (r : List ℕ) → client_lines c ++ r ≡ 99 ∷ codes "lient " ++ text client_form (client_values c) r
unfolding client_lines
client_is c r = client_regroup (decimal c.worker.0) (decimal c.session.0) (quoted c.took) (quoted c.gave) r

client_fits : (c : ClientBytes) → HasClientNumbers c → AreOf client_form (client_values c)
client_fits c ok =
    let t = ok.who 0 0 (lit< tt) in
    let n = ok.who 1 0 (lit< tt) in
    (t, (n, (ok.took, (t, (n, (ok.gave, tt))))))

pub each_client : IsLines HasClientNumbers client_lines
each_client = record {
  first = λ c. 99;
  word = λ k. codes "lient ";
  form = λ k. client_form;
  values = client_values;
  back = λ k. client_back;
  is = λ c r ok. client_is c r;
  formed = λ c ok. refl;
  fits = client_fits;
  backed = λ c ok. refl;
}

-- only a client's line has an l second
abbrev pub begins_client : List ℕ → Bool
begins_client r = get_or r 1 0 == 108

pub client_starts : (c : ClientBytes) (r : List ℕ) → HasClientNumbers c → begins_client (client_lines c ++ r) ≡ true
unfolding client_lines
client_starts c r ok = refl

abbrev pub clients_apart : AreLines HasClientNumbers client_lines
clients_apart = simple_lines HasClientNumbers client_lines begins_client client_starts (same_line HasClientNumbers client_lines each_client)

-- ---- connections

abbrev pub IsConn : List ServerPart → ConnBytes → Type 0
IsConn servers c = AreNamed servers × (c.server.0 < length servers) × HasConnNumbers c

abbrev conn_form : Form
conn_form =
    (a_name, codes "/") ∷ (a_name, codes "#") ∷ (a_number, codes " sent ") ∷ (some_bytes, codes "\nconn ")
    ∷ (a_name, codes "/") ∷ (a_name, codes "#") ∷ (a_number, codes " took ") ∷ (some_bytes, codes "\n") ∷ []

abbrev conn_values : List ServerPart → ConnBytes → List Value
conn_values servers c =
    name (back_at servers c.server.0) ∷ name (server_at servers c.server.0) ∷ number c.id.0 ∷ bytes c.sent
    ∷ name (back_at servers c.server.0) ∷ name (server_at servers c.server.0) ∷ number c.id.0 ∷ bytes c.took ∷ []

abbrev conn_back : List ServerPart → List Value → ConnBytes
conn_back servers vs = record {
  server = record { 0 = found_at servers (name_at 0 vs) (name_at 1 vs) };
  id = record { 0 = number_at 2 vs };
  sent = bytes_at 3 vs;
  took = bytes_at 7 vs;
}

conn_regroup : (servers : List ServerPart) (c : ConnBytes) (sent took r : List ℕ) → c.server.0 < length servers
    → (codes "conn " ++ conn_text servers c.server c.id ++ codes " sent " ++ sent
    ++ codes "\nconn " ++ conn_text servers c.server c.id ++ codes " took " ++ took ++ codes "\n") ++ r
    ≡ 99 ∷ codes "onn " ++ (back_at servers c.server.0 ++ (codes "/" ++ (server_at servers c.server.0 ++ (codes "#" ++ (decimal c.id.0 ++ (codes " sent " ++ (sent
    ++ (codes "\nconn " ++ (back_at servers c.server.0 ++ (codes "/" ++ (server_at servers c.server.0 ++ (codes "#" ++ (decimal c.id.0 ++ (codes " took " ++ (took
    ++ (codes "\n" ++ r))))))))))))))))
conn_regroup servers c sent took r lt = simp (append_assoc, conn_is servers c.server c.id lt)

each_conn_is : (servers : List ServerPart) (c : ConnBytes) (r : List ℕ) → IsConn servers c
    → conn_lines servers c ++ r ≡ 99 ∷ codes "onn " ++ text conn_form (conn_values servers c) r
unfolding conn_lines
each_conn_is servers c r ok = conn_regroup servers c (quoted c.sent) (quoted c.took) r ok.1

conn_fits : (servers : List ServerPart) (c : ConnBytes) → IsConn servers c → AreOf conn_form (conn_values servers c)
conn_fits servers c ok =
    let names = named servers c.server.0 ok.1 ok.0.told in
    (names.0, (names.1, (ok.2.id, (ok.2.sent, (names.0, (names.1, (ok.2.id, (ok.2.took, tt))))))))

pub each_conn : (servers : List ServerPart) → IsLines (IsConn servers) (conn_lines servers)
each_conn servers = record {
  first = λ c. 99;
  word = λ k. codes "onn ";
  form = λ k. conn_form;
  values = conn_values servers;
  back = λ k. conn_back servers;
  is = each_conn_is servers;
  formed = λ c ok. refl;
  fits = conn_fits servers;
  backed = λ c ok. rw (found servers c.server.0 ok.1 ok.0.others) refl;
}

abbrev pub begins_conn : List ℕ → Bool
begins_conn r = get_or r 0 0 == 99

pub conn_starts : (servers : List ServerPart) (c : ConnBytes) (r : List ℕ) → IsConn servers c → begins_conn (conn_lines servers c ++ r) ≡ true
unfolding conn_lines
conn_starts servers c r ok = refl

abbrev pub conns_apart : (servers : List ServerPart) → AreLines (IsConn servers) (conn_lines servers)
conns_apart servers = simple_lines (IsConn servers) (conn_lines servers) begins_conn (conn_starts servers) (same_line (IsConn servers) (conn_lines servers) (each_conn servers))

-- ---- totals

abbrev pub AreTotals : Totals → Type 0
AreTotals t = All IsNumber (total_numbers t)

abbrev totals_form : Form
totals_form =
    (a_number, codes " park ") ∷ (a_number, codes " take ") ∷ (a_number, codes " over ") ∷ (a_number, codes " care ")
    ∷ (a_number, codes " close ") ∷ (a_number, codes "\n") ∷ []

abbrev totals_values : Totals → List Value
totals_values t = number t.opened ∷ number t.parked ∷ number t.taken ∷ number t.over ∷ number t.care ∷ number t.closed ∷ []

abbrev totals_back : List Value → Totals
totals_back vs =
    record { opened = number_at 0 vs; parked = number_at 1 vs; taken = number_at 2 vs; over = number_at 3 vs; care = number_at 4 vs; closed = number_at 5 vs }

totals_is : (t : Totals) (r : List ℕ) → totals_text t ++ r ≡ 32 ∷ codes "open " ++ text totals_form (totals_values t) r
unfolding totals_text
totals_is t r = simp append_assoc

totals_fits : (t : Totals) → AreTotals t → AreOf totals_form (totals_values t)
totals_fits t ok =
    (ok 0 0 (lit< tt), (ok 1 0 (lit< tt), (ok 2 0 (lit< tt), (ok 3 0 (lit< tt), (ok 4 0 (lit< tt), (ok 5 0 (lit< tt), tt))))))

each_total : IsLines AreTotals totals_text
each_total = record {
  first = λ t. 32;
  word = λ k. codes "open ";
  form = λ k. totals_form;
  values = totals_values;
  back = λ k. totals_back;
  is = λ t r ok. totals_is t r;
  formed = λ t ok. refl;
  fits = totals_fits;
  backed = λ t ok. refl;
}

-- of the same servers as many totals are the same
pub same_totals : (servers : List ServerPart) (xs ys : List Totals) (r s : List ℕ) → length xs ≡ length servers → length ys ≡ length servers
    → All AreTotals xs → All AreTotals ys → totals_lines servers xs ++ r ≡ totals_lines servers ys ++ s → xs ≡ ys
same_totals [] [] [] r s m n x y is = refl
same_totals [] (a ∷ xs) ys r s m n x y is = absurd (omega arith)
same_totals [] [] (b ∷ ys) r s m n x y is = absurd (omega arith)
same_totals (p ∷ servers) [] ys r s m n x y is = absurd (omega arith)
same_totals (p ∷ servers) (a ∷ xs) [] r s m n x y is = absurd (omega arith)
same_totals (p ∷ servers) (a ∷ xs) (b ∷ ys) r s m n x y is =
    let line = λ (t : Totals) (rest more : List ℕ). append_assoc (full_name p ++ totals_text t) rest more ∙ append_assoc (full_name p) (totals_text t) (rest ++ more) in
    let e = append_cancel_left (full_name p) (totals_text a ++ (totals_lines servers xs ++ r)) (totals_text b ++ (totals_lines servers ys ++ s))
    (sym (line a (totals_lines servers xs) r) ∙ is ∙ line b (totals_lines servers ys) s) in
    let one = same_line AreTotals totals_text each_total a b (totals_lines servers xs ++ r) (totals_lines servers ys ++ s) (All-head AreTotals a xs x) (All-head AreTotals b ys y) e in
    ap₂ (λ (t : Totals) (ts : List Totals). t ∷ ts) one.0
    (same_totals servers xs ys r s (omega arith) (omega arith) (All-tail AreTotals a xs x) (All-tail AreTotals b ys y) one.1)
