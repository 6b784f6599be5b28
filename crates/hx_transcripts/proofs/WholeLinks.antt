-- The lines of links are read.
use Rattle.std.proofs.Common.{◌≡◌, ℕ, ◌<◌, ◌≤◌, Bool, true, List, [], ◌∷◌, ◌++◌, All, length, Option, Some, None, Ok, refl, sym, ap, subst, ◌∙◌, inl, inr, append_assoc}
use Rattle.std.specs.Prelude.{codes, ⊤, not, ◌==◌, ◌||◌, ◌&&◌, nat_lt}
use Rattle.std.specs.List.{flat_map}
use Rattle.std.proofs.lemmas.Bool.{and_from, or_right, eq-eqb, lt-ltb}
use Rattle.std.proofs.lemmas.List.{append-nil}
use Rattle.std.proofs.lemmas.List.Elements.{All-head, All-tail}
use Rattle.hx_base.specs.declared.numbers.ThreadNo.{ThreadNo}
use Rattle.hx_base.specs.declared.numbers.SessionNo.{SessionNo}
use Rattle.hx_base.specs.declared.numbers.ServerNo.{ServerNo}
use Rattle.hx_base.specs.declared.numbers.ConnId.{ConnId}
use Rattle.hx_record.specs.declared.bytes.ClientBytes.{ClientBytes}
use Rattle.hx_record.specs.declared.bytes.ConnBytes.{ConnBytes}
use Rattle.hx_record.specs.declared.served.Told.{Told}
use Rattle.hx_script.specs.declared.transcript.ServerPart.{ServerPart}
use Rattle.hx_script.specs.LinkLines.{client_lines, conn_lines}
use Rattle.hx_script.specs.MarkLines.{who}
use Rattle.hx_script.specs.PrintedForm.{Rises, PairBefore, ClientBefore, ConnBefore}
use Rattle.hx_script.specs.RecordLines.{conn_text}
use Rattle.hx_script_parts.specs.ByteText.{quoted}
use Rattle.hx_transcripts_parts.specs.declared.fault.Rule.TheVariants.{WrongOrder}
use Rattle.hx_transcripts_parts.specs.Faults.{◌>>=◌, unless}
use Rattle.hx_transcripts_parts.specs.Lexical.{Rest, rest_text, read_word}
use Rattle.hx_transcripts_parts.specs.Numbers.{most_64}
use Rattle.hx_transcripts_parts.specs.Pieces.{who_in, conn_in}
use Rattle.hx_transcripts_parts.specs.ReadBack.{ReadsNext, AreNamed, FitsWho, FitsConn}
use Rattle.hx_transcripts_parts.proofs.NumberLemmas.{some_is}
use Rattle.hx_transcripts_parts.proofs.PieceLemmas.{who_reads, conn_reads}
use Rattle.hx_transcripts_parts.proofs.WordLemmas.{bind_is, word_reads}
use Rattle.hx_transcripts.specs.declared.form.Form.TheVariants as form
use Rattle.hx_transcripts.specs.declared.reading.ConnsRead.{ConnsRead}
use Rattle.hx_transcripts.specs.declared.reading.HalfClient.{HalfClient}
use Rattle.hx_transcripts.specs.declared.reading.HalfConn.{HalfConn}
use Rattle.hx_transcripts.specs.declared.reading.Reading.{Reading}
use Rattle.hx_transcripts.specs.declared.reading.Reading.TheVariants as reading
use Rattle.hx_transcripts.specs.Fits.{FitsClient, FitsConnBytes}
use Rattle.hx_transcripts.specs.Forms.{form_in}
use Rattle.hx_transcripts.specs.Lines.{said}
use Rattle.hx_transcripts.specs.Links as means
use Rattle.hx_transcripts.proofs.Cleanness.{join, lit, clean_who, clean_quoted}
use Rattle.hx_transcripts.proofs.LinkLemmas.{bytes_read, client_words, conn_words, regroup_both}
use Rattle.hx_transcripts.proofs.ListLemmas.{last_later}
use Rattle.hx_transcripts.proofs.Passing.{Clean, IsLine, Passes, none_passes, both_pass, line_passes}
use Rattle.hx_transcripts.proofs.WholeRecords.{clean_conn}

-- ---- what rises

last_before : {A : Type 0} (Before : A → A → Type 0) (xs : List A) (y : A) (ys : List A) → Rises Before (xs ++ y ∷ ys) → (x : A)
    → means.last_of xs ≡ Some x → Before x y
last_before Before [] y ys rise x is = cc
last_before Before (a ∷ []) y ys rise x is = subst (λ (z : _). Before z y) (some_is a x is) rise.0
last_before Before (a ∷ b ∷ xs) y ys rise x is = last_before Before (b ∷ xs) y ys rise.1 x (sym (last_later a b xs) ∙ is)

before_so : (a b c d : ℕ) → PairBefore a b c d → means.is_before a b c d ≡ true
before_so a b c d (inl less) = ap (λ (t : Bool). t || ((a == c) && nat_lt b d)) (lt-ltb a c less)
before_so a b c d (inr both) =
    or_right (nat_lt a c) ((a == c) && nat_lt b d) (and_from (a == c) (nat_lt b d) (eq-eqb a c both.0) (lt-ltb b d both.1))

client_follows : (o : Option ClientBytes) (c : ClientBytes) → ((x : ClientBytes) → o ≡ Some x → ClientBefore x c)
    → means.follows_client o c.worker c.session ≡ true
client_follows None c before = refl
client_follows (Some x) c before = before_so x.worker.0 x.session.0 c.worker.0 c.session.0 (before x refl)

conn_follows : (o : Option ConnBytes) (c : ConnBytes) → ((x : ConnBytes) → o ≡ Some x → ConnBefore x c)
    → means.follows_conn o c.server c.id ≡ true
conn_follows None c before = refl
conn_follows (Some x) c before = before_so x.server.0 x.id.0 c.server.0 c.id.0 (before x refl)

-- ---- clients

client_form : form_in (codes "client") ≡ Ok form.Client
unfolding form_in
client_form = refl

abbrev client_text : List ℕ → ClientBytes → List ℕ → List ℕ
client_text l c b = codes "client " ++ who c.worker c.session ++ l ++ quoted b ++ codes "\n"

client_clean : (l : List ℕ) (c : ClientBytes) (b : List ℕ) → Clean l → FitsWho (c.worker, c.session) → IsLine (client_text l c b)
client_clean l c b clean fits = record {
  line = codes "client " ++ who c.worker c.session ++ l ++ quoted b;
  is = refl;
  clean = join (join (join (lit (codes "client ") refl) (clean_who c.worker c.session fits)) clean) (clean_quoted b);
}

abbrev pub with_clients : List ServerPart → List Told → List ClientBytes → Option HalfClient → Reading
with_clients servers records clients half = reading.Clients (record { servers = servers; records = records; clients = clients; half = half })

abbrev half_of : ClientBytes → HalfClient
half_of c = record { worker = c.worker; session = c.session; took = c.took }

whos : ReadsNext (read_word who_in) (λ z. who z.0 z.1) FitsWho
whos = word_reads who_in (λ z. who z.0 z.1) FitsWho who_reads

took_read : (clients : List ClientBytes) (c : ClientBytes) (ws behind : Rest) → means.follows_clients clients c.worker c.session ≡ true
    → read_word who_in ws ≡ Ok ((c.worker, c.session), behind) → means.bytes_at (codes "took") (codes "gave") behind ≡ Ok c.took
    → means.client_took clients ws ≡ Ok (half_of c)
took_read clients c ws behind follows names bytes =
    bind_is (λ (x : (ThreadNo × SessionNo) × Rest). unless (not (means.follows_clients clients x.0.0 x.0.1)) WrongOrder >>= λ (next : ⊤).
    means.bytes_at (codes "took") (codes "gave") x.1 >>= λ (took : List ℕ). Ok (record { worker = x.0.0; session = x.0.1; took = took })) names
    ∙ ap (λ (t : Bool). unless (not t) WrongOrder >>= λ (next : ⊤).
    means.bytes_at (codes "took") (codes "gave") behind >>= λ (took : List ℕ). Ok (record { worker = c.worker; session = c.session; took = took })) follows
    ∙ bind_is (λ (took : List ℕ). Ok (record { worker = c.worker; session = c.session; took = took })) bytes

gave_read : (c : ClientBytes) (ws behind : Rest)
    → read_word who_in ws ≡ Ok ((c.worker, c.session), behind) → means.bytes_at (codes "gave") (codes "took") behind ≡ Ok c.gave
    → means.client_gave (half_of c) ws ≡ Ok c
gave_read c ws behind names bytes =
    bind_is (λ (x : (ThreadNo × SessionNo) × Rest). unless (not (x.0.0.0 == c.worker.0) || not (x.0.1.0 == c.session.0)) WrongOrder >>= λ (same : ⊤).
    means.bytes_at (codes "gave") (codes "took") x.1 >>= λ (gave : List ℕ). Ok (record { worker = x.0.0; session = x.0.1; took = c.took; gave = gave })) names
    ∙ ap (λ (t : Bool). unless (not t || not (c.session.0 == c.session.0)) WrongOrder >>= λ (same : ⊤).
    means.bytes_at (codes "gave") (codes "took") behind >>= λ (gave : List ℕ). Ok (record { worker = c.worker; session = c.session; took = c.took; gave = gave })) (eq-eqb c.worker.0 c.worker.0 refl)
    ∙ ap (λ (t : Bool). unless (not true || not t) WrongOrder >>= λ (same : ⊤).
    means.bytes_at (codes "gave") (codes "took") behind >>= λ (gave : List ℕ). Ok (record { worker = c.worker; session = c.session; took = c.took; gave = gave })) (eq-eqb c.session.0 c.session.0 refl)
    ∙ bind_is (λ (gave : List ℕ). Ok (record { worker = c.worker; session = c.session; took = c.took; gave = gave })) bytes

took_said : (servers : List ServerPart) (records : List Told) (clients : List ClientBytes) (c : ClientBytes) (ws : Rest) → means.client_took clients ws ≡ Ok (half_of c)
    → means.clients_said (record { servers = servers; records = records; clients = clients; half = None }) form.Client ws ≡ Ok (with_clients servers records clients (Some (half_of c)))
unfolding means.clients_said
took_said servers records clients c ws is = bind_is (λ (h : HalfClient). Ok (with_clients servers records clients (Some h))) is

gave_said : (servers : List ServerPart) (records : List Told) (clients : List ClientBytes) (c : ClientBytes) (ws : Rest) → means.client_gave (half_of c) ws ≡ Ok c
    → means.clients_said (record { servers = servers; records = records; clients = clients; half = Some (half_of c) }) form.Client ws ≡ Ok (with_clients servers records (clients ++ c ∷ []) None)
unfolding means.clients_said
gave_said servers records clients c ws is = bind_is (λ (x : ClientBytes). Ok (with_clients servers records (clients ++ x ∷ []) None)) is

took_passes : (servers : List ServerPart) (records : List Told) (clients : List ClientBytes) (c : ClientBytes) → FitsClient c
    → means.follows_clients clients c.worker c.session ≡ true
    → Passes (with_clients servers records clients None) (client_text (codes " took ") c c.took) (with_clients servers records clients (Some (half_of c)))
took_passes servers records clients c fits follows =
    let b = (bytes_read (codes "took") (codes "gave") refl).whole c.took fits.took in
    let x = whos.whole (c.worker, c.session) b.0 fits.who in
    line_passes (with_clients servers records clients None) (client_text (codes " took ") c c.took) (codes "client") x.0 form.Client (with_clients servers records clients (Some (half_of c)))
    (client_clean (codes " took ") c c.took (lit (codes " took ") refl) fits.who) (sym (client_words (codes " took ") x.0 b.0 c.worker c.session c.took x.1 b.1)) refl client_form
    (took_said servers records clients c x.0 (took_read clients c x.0 b.0 follows x.2 b.2))

gave_passes : (servers : List ServerPart) (records : List Told) (clients : List ClientBytes) (c : ClientBytes) → FitsClient c
    → Passes (with_clients servers records clients (Some (half_of c))) (client_text (codes " gave ") c c.gave) (with_clients servers records (clients ++ c ∷ []) None)
gave_passes servers records clients c fits =
    let b = (bytes_read (codes "gave") (codes "took") refl).whole c.gave fits.gave in
    let x = whos.whole (c.worker, c.session) b.0 fits.who in
    line_passes (with_clients servers records clients (Some (half_of c))) (client_text (codes " gave ") c c.gave) (codes "client") x.0 form.Client (with_clients servers records (clients ++ c ∷ []) None)
    (client_clean (codes " gave ") c c.gave (lit (codes " gave ") refl) fits.who) (sym (client_words (codes " gave ") x.0 b.0 c.worker c.session c.gave x.1 b.1)) refl client_form
    (gave_said servers records clients c x.0 (gave_read c x.0 b.0 x.2 b.2))

client_both : (c : ClientBytes) → client_text (codes " took ") c c.took ++ client_text (codes " gave ") c c.gave ≡ client_lines c
unfolding client_lines
client_both c = sym (regroup_both (codes "client ") (who c.worker c.session) (codes " took ") (quoted c.took) (codes "\n") (who c.worker c.session) (codes " gave ") (quoted c.gave))

pub clients_pass : (servers : List ServerPart) (records : List Told) (clients more : List ClientBytes) → Rises ClientBefore (clients ++ more) → All FitsClient more
    → Passes (with_clients servers records clients None) (flat_map client_lines more) (with_clients servers records (clients ++ more) None)
clients_pass servers records clients [] rise fits =
    subst (λ (cs : List ClientBytes). Passes (with_clients servers records clients None) [] (with_clients servers records cs None)) (sym (append-nil clients)) (none_passes (with_clients servers records clients None))
clients_pass servers records clients (c ∷ more) rise fits =
    let here = All-head FitsClient c more fits in
    let follows = client_follows (means.last_of clients) c (last_before ClientBefore clients c more rise) in
    let r = with_clients servers records clients None in
    let s = with_clients servers records clients (Some (half_of c)) in
    let t = with_clients servers records (clients ++ c ∷ []) None in
    let both = both_pass r s t (client_text (codes " took ") c c.took) (client_text (codes " gave ") c c.gave)
    (took_passes servers records clients c here follows) (gave_passes servers records clients c here) in
    let one = subst (λ (x : List ℕ). Passes r x t) (client_both c) both in
    let same = append_assoc clients (c ∷ []) more in
    let rest = clients_pass servers records (clients ++ c ∷ []) more (subst (Rises ClientBefore) (sym same) rise) (All-tail FitsClient c more fits) in
    subst (λ (cs : List ClientBytes). Passes r (client_lines c ++ flat_map client_lines more) (with_clients servers records cs None)) same
    (both_pass r t (with_clients servers records ((clients ++ c ∷ []) ++ more) None) (client_lines c) (flat_map client_lines more) one rest)

-- ---- connections

conn_form : form_in (codes "conn") ≡ Ok form.Conn
unfolding form_in
conn_form = refl

totals_form : form_in (codes "totals") ≡ Ok form.Totals
unfolding form_in
totals_form = refl

abbrev pub conns_read : List ServerPart → List Told → List ClientBytes → List ConnBytes → Option HalfConn → ConnsRead
conns_read servers records clients conns half = record { servers = servers; records = records; clients = clients; conns = conns; half = half }

abbrev pub with_totals : List ServerPart → List Told → List ClientBytes → List ConnBytes → Reading
with_totals servers records clients conns = reading.Totals (record { servers = servers; records = records; clients = clients; conns = conns; totals = [] })

-- connections and the heading behind them are read as where connections stand
pub record AtConns (r : Reading) (at : ConnsRead) : Type 0 where
  pub conn : (l : List ℕ) (ws : Rest) → said r form.Conn l ws ≡ means.conns_said at form.Conn ws
  pub totals : (l : List ℕ) (ws : Rest) → said r form.Totals l ws ≡ means.conns_said at form.Totals ws

at_conns : (at : ConnsRead) → AtConns (reading.Conns at) at
at_conns at = record { conn = λ l ws. refl; totals = λ l ws. refl }

pub behind_clients : (servers : List ServerPart) (records : List Told) (clients : List ClientBytes)
    → AtConns (with_clients servers records clients None) (conns_read servers records clients [] None)
unfolding means.clients_said
behind_clients servers records clients = record { conn = λ l ws. refl; totals = λ l ws. refl }

abbrev conn_line_text : List ℕ → List ServerPart → ConnBytes → List ℕ → List ℕ
conn_line_text l servers c b = codes "conn " ++ conn_text servers c.server c.id ++ l ++ quoted b ++ codes "\n"

conn_clean : (l : List ℕ) (servers : List ServerPart) (c : ConnBytes) (b : List ℕ) → Clean l → AreNamed servers → c.id.0 ≤ most_64 → IsLine (conn_line_text l servers c b)
conn_clean l servers c b clean named le = record {
  line = codes "conn " ++ conn_text servers c.server c.id ++ l ++ quoted b;
  is = refl;
  clean = join (join (join (lit (codes "conn ") refl) (clean_conn servers c.server c.id named.told le)) clean) (clean_quoted b);
}

abbrev half_conn_of : ConnBytes → HalfConn
half_conn_of c = record { server = c.server; id = c.id; sent = c.sent }

conns_next : (servers : List ServerPart) → AreNamed servers → ReadsNext (read_word (conn_in servers)) (λ (z : ServerNo × ConnId). conn_text servers z.0 z.1) (FitsConn servers)
conns_next servers named = word_reads (conn_in servers) (λ (z : ServerNo × ConnId). conn_text servers z.0 z.1) (FitsConn servers) (conn_reads servers named)

sent_read : (r : ConnsRead) (c : ConnBytes) (ws behind : Rest) → means.follows_conns r.conns c.server c.id ≡ true
    → read_word (conn_in r.servers) ws ≡ Ok ((c.server, c.id), behind) → means.bytes_at (codes "sent") (codes "took") behind ≡ Ok c.sent
    → means.conn_sent r ws ≡ Ok (half_conn_of c)
sent_read r c ws behind follows names bytes =
    bind_is (λ (x : (ServerNo × ConnId) × Rest). unless (not (means.follows_conns r.conns x.0.0 x.0.1)) WrongOrder >>= λ (next : ⊤).
    means.bytes_at (codes "sent") (codes "took") x.1 >>= λ (sent : List ℕ). Ok (record { server = x.0.0; id = x.0.1; sent = sent })) names
    ∙ ap (λ (t : Bool). unless (not t) WrongOrder >>= λ (next : ⊤).
    means.bytes_at (codes "sent") (codes "took") behind >>= λ (sent : List ℕ). Ok (record { server = c.server; id = c.id; sent = sent })) follows
    ∙ bind_is (λ (sent : List ℕ). Ok (record { server = c.server; id = c.id; sent = sent })) bytes

conn_took_read : (r : ConnsRead) (c : ConnBytes) (ws behind : Rest)
    → read_word (conn_in r.servers) ws ≡ Ok ((c.server, c.id), behind) → means.bytes_at (codes "took") (codes "sent") behind ≡ Ok c.took
    → means.conn_took r (half_conn_of c) ws ≡ Ok c
conn_took_read r c ws behind names bytes =
    bind_is (λ (x : (ServerNo × ConnId) × Rest). unless (not (x.0.0.0 == c.server.0) || not (x.0.1.0 == c.id.0)) WrongOrder >>= λ (same : ⊤).
    means.bytes_at (codes "took") (codes "sent") x.1 >>= λ (took : List ℕ). Ok (record { server = x.0.0; id = x.0.1; sent = c.sent; took = took })) names
    ∙ ap (λ (t : Bool). unless (not t || not (c.id.0 == c.id.0)) WrongOrder >>= λ (same : ⊤).
    means.bytes_at (codes "took") (codes "sent") behind >>= λ (took : List ℕ). Ok (record { server = c.server; id = c.id; sent = c.sent; took = took })) (eq-eqb c.server.0 c.server.0 refl)
    ∙ ap (λ (t : Bool). unless (not true || not t) WrongOrder >>= λ (same : ⊤).
    means.bytes_at (codes "took") (codes "sent") behind >>= λ (took : List ℕ). Ok (record { server = c.server; id = c.id; sent = c.sent; took = took })) (eq-eqb c.id.0 c.id.0 refl)
    ∙ bind_is (λ (took : List ℕ). Ok (record { server = c.server; id = c.id; sent = c.sent; took = took })) bytes

sent_said : (servers : List ServerPart) (records : List Told) (clients : List ClientBytes) (conns : List ConnBytes) (c : ConnBytes) (ws : Rest)
    → means.conn_sent (conns_read servers records clients conns None) ws ≡ Ok (half_conn_of c)
    → means.conns_said (conns_read servers records clients conns None) form.Conn ws ≡ Ok (reading.Conns (conns_read servers records clients conns (Some (half_conn_of c))))
unfolding means.conns_said
sent_said servers records clients conns c ws is = bind_is (λ (h : HalfConn). Ok (reading.Conns (conns_read servers records clients conns (Some h)))) is

conn_took_said : (servers : List ServerPart) (records : List Told) (clients : List ClientBytes) (conns : List ConnBytes) (c : ConnBytes) (ws : Rest)
    → means.conn_took (conns_read servers records clients conns (Some (half_conn_of c))) (half_conn_of c) ws ≡ Ok c
    → means.conns_said (conns_read servers records clients conns (Some (half_conn_of c))) form.Conn ws ≡ Ok (reading.Conns (conns_read servers records clients (conns ++ c ∷ []) None))
unfolding means.conns_said
conn_took_said servers records clients conns c ws is = bind_is (λ (x : ConnBytes). Ok (reading.Conns (conns_read servers records clients (conns ++ x ∷ []) None))) is

heading_said : (servers : List ServerPart) (records : List Told) (clients : List ClientBytes) (conns : List ConnBytes)
    → means.conns_said (conns_read servers records clients conns None) form.Totals None ≡ Ok (with_totals servers records clients conns)
unfolding means.conns_said
heading_said servers records clients conns = refl

heading_passes : (r : Reading) (servers : List ServerPart) (records : List Told) (clients : List ClientBytes) (conns : List ConnBytes)
    → AtConns r (conns_read servers records clients conns None) → Passes r (codes "totals\n") (with_totals servers records clients conns)
heading_passes r servers records clients conns at =
    line_passes r (codes "totals\n") (codes "totals") None form.Totals (with_totals servers records clients conns)
    (record { line = codes "totals"; is = refl; clean = record { no = refl } }) refl refl totals_form
    (at.totals (codes "totals") None ∙ heading_said servers records clients conns)

sent_passes : (r : Reading) (servers : List ServerPart) (records : List Told) (clients : List ClientBytes) (conns : List ConnBytes) (c : ConnBytes)
    → AtConns r (conns_read servers records clients conns None) → AreNamed servers → FitsConnBytes c → c.server.0 < length servers
    → means.follows_conns conns c.server c.id ≡ true
    → Passes r (conn_line_text (codes " sent ") servers c c.sent) (reading.Conns (conns_read servers records clients conns (Some (half_conn_of c))))
sent_passes r servers records clients conns c at named fits there follows =
    let b = (bytes_read (codes "sent") (codes "took") refl).whole c.sent fits.sent in
    let x = (conns_next servers named).whole (c.server, c.id) b.0 (there, fits.server, fits.id) in
    line_passes r (conn_line_text (codes " sent ") servers c c.sent) (codes "conn") x.0 form.Conn (reading.Conns (conns_read servers records clients conns (Some (half_conn_of c))))
    (conn_clean (codes " sent ") servers c c.sent (lit (codes " sent ") refl) named fits.id)
    (sym (conn_words (codes " sent ") (conn_text servers c.server c.id) x.0 b.0 c.sent x.1 b.1)) refl conn_form
    (at.conn (codes "conn" ++ rest_text x.0) x.0 ∙ sent_said servers records clients conns c x.0 (sent_read (conns_read servers records clients conns None) c x.0 b.0 follows x.2 b.2))

conn_took_passes : (servers : List ServerPart) (records : List Told) (clients : List ClientBytes) (conns : List ConnBytes) (c : ConnBytes)
    → AreNamed servers → FitsConnBytes c → c.server.0 < length servers
    → Passes (reading.Conns (conns_read servers records clients conns (Some (half_conn_of c)))) (conn_line_text (codes " took ") servers c c.took) (reading.Conns (conns_read servers records clients (conns ++ c ∷ []) None))
conn_took_passes servers records clients conns c named fits there =
    let r = conns_read servers records clients conns (Some (half_conn_of c)) in
    let b = (bytes_read (codes "took") (codes "sent") refl).whole c.took fits.took in
    let x = (conns_next servers named).whole (c.server, c.id) b.0 (there, fits.server, fits.id) in
    line_passes (reading.Conns r) (conn_line_text (codes " took ") servers c c.took) (codes "conn") x.0 form.Conn (reading.Conns (conns_read servers records clients (conns ++ c ∷ []) None))
    (conn_clean (codes " took ") servers c c.took (lit (codes " took ") refl) named fits.id)
    (sym (conn_words (codes " took ") (conn_text servers c.server c.id) x.0 b.0 c.took x.1 b.1)) refl conn_form
    (conn_took_said servers records clients conns c x.0 (conn_took_read r c x.0 b.0 x.2 b.2))

conn_both : (servers : List ServerPart) (c : ConnBytes) → conn_line_text (codes " sent ") servers c c.sent ++ conn_line_text (codes " took ") servers c c.took ≡ conn_lines servers c
unfolding conn_lines
conn_both servers c =
    let w = conn_text servers c.server c.id in
    sym (regroup_both (codes "conn ") w (codes " sent ") (quoted c.sent) (codes "\n") w (codes " took ") (quoted c.took))

pub conns_pass : (r : Reading) (servers : List ServerPart) (records : List Told) (clients : List ClientBytes) (conns more : List ConnBytes)
    → AtConns r (conns_read servers records clients conns None) → AreNamed servers → Rises ConnBefore (conns ++ more) → All FitsConnBytes more
    → All (λ (c : ConnBytes). c.server.0 < length servers) more
    → Passes r (flat_map (conn_lines servers) more ++ codes "totals\n") (with_totals servers records clients (conns ++ more))
conns_pass r servers records clients conns [] at named rise fits there =
    subst (λ (cs : List ConnBytes). Passes r (codes "totals\n") (with_totals servers records clients cs)) (sym (append-nil conns)) (heading_passes r servers records clients conns at)
conns_pass r servers records clients conns (c ∷ more) at named rise fits there =
    let fit = All-head FitsConnBytes c more fits in
    let lt = All-head (λ (x : ConnBytes). x.server.0 < length servers) c more there in
    let follows = conn_follows (means.last_of conns) c (last_before ConnBefore conns c more rise) in
    let s = reading.Conns (conns_read servers records clients conns (Some (half_conn_of c))) in
    let next = conns_read servers records clients (conns ++ c ∷ []) None in
    let t = reading.Conns next in
    let both = both_pass r s t (conn_line_text (codes " sent ") servers c c.sent) (conn_line_text (codes " took ") servers c c.took)
    (sent_passes r servers records clients conns c at named fit lt follows) (conn_took_passes servers records clients conns c named fit lt) in
    let one = subst (λ (x : List ℕ). Passes r x t) (conn_both servers c) both in
    let same = append_assoc conns (c ∷ []) more in
    let rest = conns_pass t servers records clients (conns ++ c ∷ []) more (at_conns next) named (subst (Rises ConnBefore) (sym same) rise)
    (All-tail FitsConnBytes c more fits) (All-tail (λ (x : ConnBytes). x.server.0 < length servers) c more there) in
    let end = with_totals servers records clients ((conns ++ c ∷ []) ++ more) in
    let all = both_pass r t end (conn_lines servers c) (flat_map (conn_lines servers) more ++ codes "totals\n") one rest in
    let text = subst (λ (x : List ℕ). Passes r x end) (sym (append_assoc (conn_lines servers c) (flat_map (conn_lines servers) more) (codes "totals\n"))) all in
    subst (λ (cs : List ConnBytes). Passes r ((conn_lines servers c ++ flat_map (conn_lines servers) more) ++ codes "totals\n") (with_totals servers records clients cs)) same text
