-- Lines where links stand.
use Rattle.std.proofs.Common.{◌≡◌, ℕ, ◌<◌, Bool, true, false, List, [], ◌∷◌, ◌++◌, All, length, Option, Some, None, Ok, refl, sym, ap, ap₂, subst, ◌∙◌, inl, inr, append_assoc}
use Rattle.std.specs.Prelude.{codes, decimal, ⊤, not, ◌==◌, ◌||◌, is_some, bytes_eq, slice_get}
use Rattle.std.specs.List.{list_all}
use Rattle.std.proofs.lemmas.Bool.{cases_Bool, cond-true, cond-false, eqb-true}
use Rattle.std.proofs.lemmas.List.{append-nil, flat_map_more}
use Rattle.std.proofs.lemmas.List.Elements.{All-nil, All-push}
use Rattle.std.proofs.lemmas.Slice.Eq.{bytes_eq-Decides}
use Rattle.hx_base.specs.declared.numbers.ThreadNo.{ThreadNo}
use Rattle.hx_base.specs.declared.numbers.SessionNo.{SessionNo}
use Rattle.hx_base.specs.declared.numbers.ServerNo.{ServerNo}
use Rattle.hx_base.specs.declared.numbers.ConnId.{ConnId}
use Rattle.hx_record.specs.declared.bytes.ClientBytes.{ClientBytes}
use Rattle.hx_record.specs.declared.bytes.ConnBytes.{ConnBytes}
use Rattle.hx_script.specs.declared.transcript.ServerPart.{ServerPart}
use Rattle.hx_script.specs.LinkLines.{client_lines, conn_lines}
use Rattle.hx_script.specs.MarkLines.{who}
use Rattle.hx_script.specs.Numbers.{IsByte}
use Rattle.hx_script.specs.PrintedForm.{PairBefore, ClientBefore, ConnBefore}
use Rattle.hx_script.specs.RecordLines.{name_or_none, conn_text}
use Rattle.hx_script_parts.specs.ByteText.{quoted}
use Rattle.hx_transcripts_parts.specs.declared.fault.Rule.TheVariants.{WrongOrder}
use Rattle.hx_transcripts_parts.specs.Faults.{◌>>=◌, unless}
use Rattle.hx_transcripts_parts.specs.Lexical.{Rest, rest_text, is_inside, read_word, text_at, at_end}
use Rattle.hx_transcripts_parts.specs.Pieces.{who_in, conn_in}
use Rattle.hx_transcripts_parts.specs.ReadBack.{ReadsWord, ReadsLine, AreNamed, FitsWho, FitsConn}
use Rattle.hx_transcripts_parts.proofs.LineLemmas.{next_sound, last_sound}
use Rattle.hx_transcripts_parts.proofs.PieceLemmas.{who_reads, conn_reads}
use Rattle.hx_transcripts_parts.proofs.TextLemmas.{texts_read}
use Rattle.hx_transcripts_parts.proofs.WordLemmas.{ok_is, bind_ok, bind_is, not_broken, word_reads, end_sound}
use Rattle.hx_transcripts.specs.declared.form.Form.{Form}
use Rattle.hx_transcripts.specs.declared.form.Form.TheVariants as form
use Rattle.hx_transcripts.specs.declared.reading.ClientsRead.{ClientsRead}
use Rattle.hx_transcripts.specs.declared.reading.ConnsRead.{ConnsRead}
use Rattle.hx_transcripts.specs.declared.reading.HalfClient.{HalfClient}
use Rattle.hx_transcripts.specs.declared.reading.HalfConn.{HalfConn}
use Rattle.hx_transcripts.specs.declared.reading.Reading.{Reading}
use Rattle.hx_transcripts.specs.declared.reading.Reading.TheVariants as reading
use Rattle.hx_transcripts.specs.Links as means
use Rattle.hx_transcripts.proofs.FormLemmas.{IsWordOf}
use Rattle.hx_transcripts.proofs.ListLemmas.{more, rises_pushed, pair_before, on, no_totals}
use Rattle.hx_transcripts.proofs.Told.{records_told, clients_told, conns_told, half_client, half_conn, Adds, IsGood, ClientsHold, ConnsHold, HalfClientHolds, HalfConnHolds}

-- ---- labels and bytes

no_label : (this other w : List ℕ) (x : ⊤) → bytes_eq w this ≡ false → means.label_in this other w ≡ Ok x → ⊥
no_label this other w x differs is =
    let e : means.label_in this other w ≡ _ = cond-false (bytes_eq w this) (Ok tt) _ differs in
    elim (cases_Bool (bytes_eq w other)) [
      | inl same ↦ (let f = sym (e ∙ cond-true _ _ _ same) ∙ is in absurd cc)
      | inr apart ↦ (let f = sym (e ∙ cond-false _ _ _ apart) ∙ is in absurd cc)
    ]

label_sound : (this other w : List ℕ) (x : ⊤) → means.label_in this other w ≡ Ok x → w ≡ this
label_sound this other w x is = elim (cases_Bool (bytes_eq w this)) [
  | inl same ↦ (bytes_eq-Decides w this).0 same
  | inr differs ↦ absurd (no_label this other w x differs is)
]

pub label_reads : (this other : List ℕ) → list_all is_inside this ≡ true → ReadsWord (means.label_in this other) (λ (x : ⊤). this) (λ (x : ⊤). ⊤)
label_reads this other each = record {
  sound = λ w x is. (tt, label_sound this other w x is);
  whole = λ x fits. cond-true _ _ _ ((bytes_eq-Decides this this).1 refl);
  inside = λ x fits. each;
}

abbrev pub label_text : List ℕ → List ℕ → List ℕ
label_text this b = 32 ∷ this ++ (32 ∷ quoted b)

pub bytes_read : (this other : List ℕ) → list_all is_inside this ≡ true → ReadsLine (means.bytes_at this other) (label_text this) (All IsByte)
bytes_read this other each =
    let labels = word_reads (means.label_in this other) (λ (x : ⊤). this) (λ (x : ⊤). ⊤) (label_reads this other each) in
    record {
      sound = λ ws b is.
          let l = next_sound (read_word (means.label_in this other)) (λ (x : ⊤). this) (λ (x : ⊤). ⊤) labels ws _ b is in
          let t = next_sound text_at quoted (All IsByte) texts_read l.rest _ b l.more in
          let e = last_sound t.rest t.x b t.more in (
            subst (All IsByte) e.1 t.fits,
            l.stands ∙ ap (λ (x : List ℕ). 32 ∷ (this ++ x)) t.stands
                ∙ ap (λ (x : List ℕ). 32 ∷ (this ++ (32 ∷ (quoted t.x ++ x)))) e.0
                ∙ ap (λ (x : List ℕ). 32 ∷ (this ++ (32 ∷ x))) (append-nil (quoted t.x))
                ∙ ap (λ (x : List ℕ). label_text this x) e.1,
          );
      whole = λ b fits.
          let t = texts_read.whole b None fits in
          let l = labels.whole tt t.0 tt in (
            l.0,
            l.1 ∙ ap (λ (x : List ℕ). 32 ∷ (this ++ x)) t.1 ∙ ap (λ (x : List ℕ). 32 ∷ (this ++ (32 ∷ x))) (append-nil (quoted b)),
            bind_is (λ (x : ⊤ × Rest). text_at x.1 >>= λ y. at_end y.1 >>= λ e. Ok y.0) l.2
                ∙ bind_is (λ (y : List ℕ × Rest). at_end y.1 >>= λ e. Ok y.0) t.2,
          );
    }

-- ---- numbers that are the same

neither : (x y : Bool) → (not x || not y) ≡ false → (x ≡ true) × (y ≡ true)
neither true true is = (refl, refl)
neither true false is = cc
neither false true is = cc
neither false false is = cc

same_pair : (a b c d : ℕ) (x : ⊤) → unless (not (a == b) || not (c == d)) WrongOrder ≡ Ok x → (a ≡ b) × (c ≡ d)
same_pair a b c d x is =
    let e = neither (a == b) (c == d) (not_broken _ WrongOrder x is) in
    (eqb-true a b e.0, eqb-true c d e.1)

-- ---- clients

regroup : (h w l q e : List ℕ) → h ++ w ++ l ++ q ++ e ≡ h ++ (w ++ (l ++ q)) ++ e
regroup h w l q e = simp append_assoc

-- a client's line, by its words
pub client_words : (l : List ℕ) (ws rest : Rest) (t : ThreadNo) (n : SessionNo) (b : List ℕ)
    → rest_text ws ≡ 32 ∷ who t n ++ rest_text rest → rest_text rest ≡ l ++ quoted b
    → codes "client" ++ rest_text ws ++ codes "\n" ≡ codes "client " ++ who t n ++ l ++ quoted b ++ codes "\n"
client_words l ws rest t n b names is =
    ap (λ (x : List ℕ). codes "client" ++ x ++ codes "\n") names
    ∙ ap (λ (x : List ℕ). codes "client" ++ (32 ∷ (who t n ++ x)) ++ codes "\n") is
    ∙ sym (regroup (codes "client ") (who t n) l (quoted b) (codes "\n"))

pub record IsTook (clients : List ClientBytes) (ws : Rest) (h : HalfClient) : Type 0 where
  pub follows : means.follows_clients clients h.worker h.session ≡ true
  pub text : half_client (Some h) ≡ codes "client" ++ rest_text ws ++ codes "\n"

took_sound : (clients : List ClientBytes) (ws : Rest) (h : HalfClient) → means.client_took clients ws ≡ Ok h → IsTook clients ws h
took_sound clients ws h is =
    let x = next_sound (read_word who_in) (λ z. who z.0 z.1) FitsWho (word_reads who_in (λ z. who z.0 z.1) FitsWho who_reads) ws _ h is in
    let next = bind_ok (unless (not (means.follows_clients clients x.x.0 x.x.1)) WrongOrder) _ h x.more in
    let b = bind_ok (means.bytes_at (codes "took") (codes "gave") x.rest) _ h next.2 in
    let bytes = (bytes_read (codes "took") (codes "gave") refl).sound x.rest b.0 b.1 in
    subst (IsTook clients ws) (ok_is _ h b.2)
    (record {
      follows = on _ (not_broken _ WrongOrder next.0 next.1);
      text = sym (client_words (codes " took ") ws x.rest x.x.0 x.x.1 b.0 x.stands bytes.1);
    })

pub record IsGave (h : HalfClient) (ws : Rest) (c : ClientBytes) : Type 0 where
  pub worker : c.worker.0 ≡ h.worker.0
  pub session : c.session.0 ≡ h.session.0
  pub text : client_lines c ≡ half_client (Some h) ++ (codes "client" ++ rest_text ws ++ codes "\n")

pub regroup_both : (c w t p n v g q : List ℕ)
    → c ++ w ++ t ++ p ++ (n ++ c) ++ v ++ g ++ q ++ n ≡ (c ++ w ++ t ++ p ++ n) ++ (c ++ v ++ g ++ q ++ n)
regroup_both c w t p n v g q = simp append_assoc

gave_text : (c : ClientBytes) (h : HalfClient) → c.worker.0 ≡ h.worker.0 → c.session.0 ≡ h.session.0 → c.took ≡ h.took
    → client_lines c ≡ half_client (Some h) ++ (codes "client " ++ who c.worker c.session ++ codes " gave " ++ quoted c.gave ++ codes "\n")
unfolding client_lines
gave_text c h w s t =
    let end = codes "client " ++ who c.worker c.session ++ codes " gave " ++ quoted c.gave ++ codes "\n" in
    let line = λ (a b : ℕ) (q : List ℕ). (codes "client " ++ (decimal a ++ codes "." ++ decimal b) ++ codes " took " ++ quoted q ++ codes "\n") ++ end in
    regroup_both (codes "client ") (who c.worker c.session) (codes " took ") (quoted c.took) (codes "\n") (who c.worker c.session) (codes " gave ") (quoted c.gave)
    ∙ ap (λ (a : ℕ). line a c.session.0 c.took) w ∙ ap (λ (b : ℕ). line h.worker.0 b c.took) s ∙ ap (λ (q : List ℕ). line h.worker.0 h.session.0 q) t

gave_sound : (h : HalfClient) (ws : Rest) (c : ClientBytes) → means.client_gave h ws ≡ Ok c → IsGave h ws c
gave_sound h ws c is =
    let x = next_sound (read_word who_in) (λ z. who z.0 z.1) FitsWho (word_reads who_in (λ z. who z.0 z.1) FitsWho who_reads) ws _ c is in
    let same = bind_ok (unless (not (x.x.0.0 == h.worker.0) || not (x.x.1.0 == h.session.0)) WrongOrder) _ c x.more in
    let b = bind_ok (means.bytes_at (codes "gave") (codes "took") x.rest) _ c same.2 in
    let bytes = (bytes_read (codes "gave") (codes "took") refl).sound x.rest b.0 b.1 in
    let pair = same_pair x.x.0.0 h.worker.0 x.x.1.0 h.session.0 same.0 same.1 in
    let one : ClientBytes = record { worker = x.x.0; session = x.x.1; took = h.took; gave = b.0 } in
    subst (IsGave h ws) (ok_is one c b.2)
    (record {
      worker = pair.0;
      session = pair.1;
      text = gave_text one h pair.0 pair.1 refl
          ∙ ap (λ (t : List ℕ). half_client (Some h) ++ t) (sym (client_words (codes " gave ") ws x.rest x.x.0 x.x.1 b.0 x.stands bytes.1));
    })

client_before : (clients : List ClientBytes) (h : HalfClient) (c y : ClientBytes) → means.follows_clients clients h.worker h.session ≡ true
    → c.worker.0 ≡ h.worker.0 → c.session.0 ≡ h.session.0 → means.last_of clients ≡ Some y → ClientBefore y c
client_before clients h c y follows w s last =
    let e = sym (ap (λ (o : Option ClientBytes). means.follows_client o h.worker h.session) last) ∙ follows in
    let p = pair_before y.worker.0 y.session.0 h.worker.0 h.session.0 e in
    subst (λ (n : ℕ). PairBefore y.worker.0 y.session.0 n c.session.0) (sym w)
    (subst (λ (n : ℕ). PairBefore y.worker.0 y.session.0 h.worker.0 n) (sym s) p)

client_adds : (r : ClientsRead) (o : Option HalfClient) (ws : Rest) (s : Reading) → r.half ≡ o → ClientsHold r.servers r.records r.clients
    → HalfClientHolds r.clients o → means.client_with r o ws ≡ Ok s → Adds (reading.Clients r) (codes "client" ++ rest_text ws ++ codes "\n") s
client_adds r None ws s half good holds is =
    let h = bind_ok (means.client_took r.clients ws) _ s is in
    let one = took_sound r.clients ws h.0 h.1 in
    let front = clients_told r.servers r.records r.clients in
    subst (Adds (reading.Clients r) (codes "client" ++ rest_text ws ++ codes "\n")) (ok_is _ s h.2)
    (record {
      good = (good, one.follows);
      text = ap (λ (t : List ℕ). front ++ t) one.text
          ∙ ap (λ (t : List ℕ). t ++ (codes "client" ++ rest_text ws ++ codes "\n")) (sym (append-nil front) ∙ ap (λ (x : Option HalfClient). front ++ half_client x) (sym half));
    })
client_adds r (Some h) ws s half good holds is =
    let c = bind_ok (means.client_gave h ws) _ s is in
    let one = gave_sound h ws c.0 c.1 in
    let front = clients_told r.servers r.records r.clients in
    let line = codes "client" ++ rest_text ws ++ codes "\n" in
    subst (Adds (reading.Clients r) line) (ok_is _ s c.2)
    (record {
      good = (
        record {
          before = good.before;
          rise = rises_pushed ClientBefore r.clients c.0 (λ y last. client_before r.clients h c.0 y holds one.worker one.session last) good.rise;
        },
        tt,
      );
      text = append-nil (clients_told r.servers r.records (r.clients ++ c.0 ∷ []))
          ∙ more (records_told r.servers r.records) (codes "links\n") client_lines r.clients c.0
          ∙ ap (λ (t : List ℕ). front ++ t) one.text
          ∙ sym (append_assoc front (half_client (Some h)) line)
          ∙ ap (λ (x : Option HalfClient). (front ++ half_client x) ++ line) (sym half);
    })

-- ---- connections

pub conn_words : (l w : List ℕ) (ws rest : Rest) (b : List ℕ) → rest_text ws ≡ 32 ∷ w ++ rest_text rest → rest_text rest ≡ l ++ quoted b
    → codes "conn" ++ rest_text ws ++ codes "\n" ≡ codes "conn " ++ w ++ l ++ quoted b ++ codes "\n"
conn_words l w ws rest b names is =
    ap (λ (x : List ℕ). codes "conn" ++ x ++ codes "\n") names
    ∙ ap (λ (x : List ℕ). codes "conn" ++ (32 ∷ (w ++ x)) ++ codes "\n") is
    ∙ sym (regroup (codes "conn ") w l (quoted b) (codes "\n"))

pub record IsSent (r : ConnsRead) (ws : Rest) (h : HalfConn) : Type 0 where
  pub follows : means.follows_conns r.conns h.server h.id ≡ true
  pub there : h.server.0 < length r.servers
  pub text : half_conn r.servers (Some h) ≡ codes "conn" ++ rest_text ws ++ codes "\n"

sent_sound : (r : ConnsRead) (ws : Rest) (h : HalfConn) → AreNamed r.servers → means.conn_sent r ws ≡ Ok h → IsSent r ws h
sent_sound r ws h named is =
    let text = λ (z : ServerNo × ConnId). conn_text r.servers z.0 z.1 in
    let x = next_sound (read_word (conn_in r.servers)) text (FitsConn r.servers) (word_reads (conn_in r.servers) text (FitsConn r.servers) (conn_reads r.servers named)) ws _ h is in
    let next = bind_ok (unless (not (means.follows_conns r.conns x.x.0 x.x.1)) WrongOrder) _ h x.more in
    let b = bind_ok (means.bytes_at (codes "sent") (codes "took") x.rest) _ h next.2 in
    let bytes = (bytes_read (codes "sent") (codes "took") refl).sound x.rest b.0 b.1 in
    subst (IsSent r ws) (ok_is _ h b.2)
    (record {
      follows = on _ (not_broken _ WrongOrder next.0 next.1);
      there = x.fits.0;
      text = sym (conn_words (codes " sent ") (conn_text r.servers x.x.0 x.x.1) ws x.rest b.0 x.stands bytes.1);
    })

pub record IsConnTook (r : ConnsRead) (h : HalfConn) (ws : Rest) (c : ConnBytes) : Type 0 where
  pub server : c.server.0 ≡ h.server.0
  pub id : c.id.0 ≡ h.id.0
  pub text : conn_lines r.servers c ≡ half_conn r.servers (Some h) ++ (codes "conn" ++ rest_text ws ++ codes "\n")

conn_same : (servers : List ServerPart) (a b : ServerNo) (i j : ConnId) → a.0 ≡ b.0 → i.0 ≡ j.0 → conn_text servers a i ≡ conn_text servers b j
unfolding conn_text
conn_same servers a b i j s n = ap₂ (λ (x y : ℕ). name_or_none (slice_get servers x) ++ codes "#" ++ decimal y) s n

conn_took_text : (servers : List ServerPart) (c : ConnBytes) (h : HalfConn) → c.server.0 ≡ h.server.0 → c.id.0 ≡ h.id.0 → c.sent ≡ h.sent
    → conn_lines servers c ≡ half_conn servers (Some h) ++ (codes "conn " ++ conn_text servers c.server c.id ++ codes " took " ++ quoted c.took ++ codes "\n")
unfolding conn_lines
conn_took_text servers c h s i t =
    let w = conn_text servers c.server c.id in
    let end = codes "conn " ++ w ++ codes " took " ++ quoted c.took ++ codes "\n" in
    let line = λ (x q : List ℕ). (codes "conn " ++ x ++ codes " sent " ++ quoted q ++ codes "\n") ++ end in
    regroup_both (codes "conn ") w (codes " sent ") (quoted c.sent) (codes "\n") w (codes " took ") (quoted c.took)
    ∙ ap (λ (x : List ℕ). line x c.sent) (conn_same servers c.server h.server c.id h.id s i)
    ∙ ap (λ (q : List ℕ). line (conn_text servers h.server h.id) q) t

conn_took_sound : (r : ConnsRead) (h : HalfConn) (ws : Rest) (c : ConnBytes) → AreNamed r.servers → means.conn_took r h ws ≡ Ok c → IsConnTook r h ws c
conn_took_sound r h ws c named is =
    let text = λ (z : ServerNo × ConnId). conn_text r.servers z.0 z.1 in
    let x = next_sound (read_word (conn_in r.servers)) text (FitsConn r.servers) (word_reads (conn_in r.servers) text (FitsConn r.servers) (conn_reads r.servers named)) ws _ c is in
    let same = bind_ok (unless (not (x.x.0.0 == h.server.0) || not (x.x.1.0 == h.id.0)) WrongOrder) _ c x.more in
    let b = bind_ok (means.bytes_at (codes "took") (codes "sent") x.rest) _ c same.2 in
    let bytes = (bytes_read (codes "took") (codes "sent") refl).sound x.rest b.0 b.1 in
    let pair = same_pair x.x.0.0 h.server.0 x.x.1.0 h.id.0 same.0 same.1 in
    let one : ConnBytes = record { server = x.x.0; id = x.x.1; sent = h.sent; took = b.0 } in
    subst (IsConnTook r h ws) (ok_is one c b.2)
    (record {
      server = pair.0;
      id = pair.1;
      text = conn_took_text r.servers one h pair.0 pair.1 refl
          ∙ ap (λ (t : List ℕ). half_conn r.servers (Some h) ++ t) (sym (conn_words (codes " took ") (conn_text r.servers x.x.0 x.x.1) ws x.rest b.0 x.stands bytes.1));
    })

conn_before : (conns : List ConnBytes) (h : HalfConn) (c y : ConnBytes) → means.follows_conns conns h.server h.id ≡ true
    → c.server.0 ≡ h.server.0 → c.id.0 ≡ h.id.0 → means.last_of conns ≡ Some y → ConnBefore y c
conn_before conns h c y follows s i last =
    let e = sym (ap (λ (o : Option ConnBytes). means.follows_conn o h.server h.id) last) ∙ follows in
    let p = pair_before y.server.0 y.id.0 h.server.0 h.id.0 e in
    subst (λ (n : ℕ). PairBefore y.server.0 y.id.0 n c.id.0) (sym s)
    (subst (λ (n : ℕ). PairBefore y.server.0 y.id.0 h.server.0 n) (sym i) p)

conn_adds : (r : ConnsRead) (o : Option HalfConn) (ws : Rest) (s : Reading) → r.half ≡ o → ConnsHold r.servers r.records r.clients r.conns
    → HalfConnHolds r.servers r.conns o → means.conn_with r o ws ≡ Ok s → Adds (reading.Conns r) (codes "conn" ++ rest_text ws ++ codes "\n") s
conn_adds r None ws s half good holds is =
    let h = bind_ok (means.conn_sent r ws) _ s is in
    let one = sent_sound r ws h.0 good.before.before.named h.1 in
    let front = conns_told r.servers r.records r.clients r.conns in
    subst (Adds (reading.Conns r) (codes "conn" ++ rest_text ws ++ codes "\n")) (ok_is _ s h.2)
    (record {
      good = (good, (one.follows, one.there));
      text = ap (λ (t : List ℕ). front ++ t) one.text
          ∙ ap (λ (t : List ℕ). t ++ (codes "conn" ++ rest_text ws ++ codes "\n")) (sym (append-nil front) ∙ ap (λ (x : Option HalfConn). front ++ half_conn r.servers x) (sym half));
    })
conn_adds r (Some h) ws s half good holds is =
    let c = bind_ok (means.conn_took r h ws) _ s is in
    let one = conn_took_sound r h ws c.0 good.before.before.named c.1 in
    let front = conns_told r.servers r.records r.clients r.conns in
    let line = codes "conn" ++ rest_text ws ++ codes "\n" in
    let there : c.0.server.0 < length r.servers = subst (λ (n : ℕ). n < length r.servers) (sym one.server) holds.1 in
    subst (Adds (reading.Conns r) line) (ok_is _ s c.2)
    (record {
      good = (
        record {
          before = good.before;
          rise = rises_pushed ConnBefore r.conns c.0 (λ y last. conn_before r.conns h c.0 y holds.0 one.server one.id last) good.rise;
          named = All-push (λ (k : ConnBytes). k.server.0 < length r.servers) r.conns c.0 good.named there;
        },
        tt,
      );
      text = append-nil (conns_told r.servers r.records r.clients (r.conns ++ c.0 ∷ []))
          ∙ sym (flat_map_more (conn_lines r.servers) (clients_told r.servers r.records r.clients) r.conns c.0)
          ∙ ap (λ (t : List ℕ). front ++ t) one.text
          ∙ sym (append_assoc front (half_conn r.servers (Some h)) line)
          ∙ ap (λ (x : Option HalfConn). (front ++ half_conn r.servers x) ++ line) (sym half);
    })

-- ---- headings

no_half : {A : Type 0} (o : Option A) → is_some o ≡ false → o ≡ None
no_half None is = refl
no_half (Some x) is = cc

totals_adds : (r : ConnsRead) (ws : Rest) (s : Reading) → IsGood (reading.Conns r) → means.totals_line r ws ≡ Ok s
    → Adds (reading.Conns r) (codes "totals" ++ rest_text ws ++ codes "\n") s
totals_adds r ws s good is =
    let whole = bind_ok (unless (is_some r.half) WrongOrder) _ s is in
    let e = bind_ok (at_end ws) _ s whole.2 in
    let none = end_sound ws e.0 e.1 in
    let over = no_half r.half (not_broken _ WrongOrder whole.0 whole.1) in
    let front = conns_told r.servers r.records r.clients r.conns in
    subst (Adds (reading.Conns r) (codes "totals" ++ rest_text ws ++ codes "\n")) (ok_is _ s e.2)
    (record {
      good = good.0;
      text = ap (λ (t : List ℕ). front ++ (codes "totals\n" ++ t)) (no_totals r.servers)
          ∙ ap (λ (t : List ℕ). t ++ codes "totals\n") (sym (append-nil front) ∙ ap (λ (x : Option HalfConn). front ++ half_conn r.servers x) (sym over))
          ∙ ap (λ (t : List ℕ). (front ++ half_conn r.servers r.half) ++ (codes "totals" ++ t ++ codes "\n")) (sym none);
    })

pub conns_add : (r : ConnsRead) (f : Form) (w : List ℕ) (ws : Rest) (s : Reading) → IsWordOf w f → IsGood (reading.Conns r)
    → means.conns_said r f ws ≡ Ok s → Adds (reading.Conns r) (w ++ rest_text ws ++ codes "\n") s
unfolding means.conns_said
conns_add r form.Conn w ws s word good is = rw word (conn_adds r r.half ws s refl good.0 good.1 is)
conns_add r form.Totals w ws s word good is = rw word (totals_adds r ws s good is)
conns_add r (form.Record k) w ws s word good is = cc
conns_add r form.Links w ws s word good is = cc
conns_add r form.Server w ws s word good is = cc
conns_add r (form.Mark m) w ws s word good is = cc
conns_add r form.Records w ws s word good is = cc
conns_add r form.Version w ws s word good is = cc
conns_add r form.Client w ws s word good is = cc
conns_add r form.Total w ws s word good is = cc
conns_add r form.End w ws s word good is = cc

-- what stands behind the clients is told behind them
behind_add : (r : ClientsRead) (f : Form) (w : List ℕ) (ws : Rest) (s : Reading) → IsWordOf w f → IsGood (reading.Clients r)
    → means.behind_clients r f ws ≡ Ok s → Adds (reading.Clients r) (w ++ rest_text ws ++ codes "\n") s
behind_add r f w ws s word good is =
    let k = bind_ok (means.past_clients r) _ s is in
    let whole = bind_ok (unless (is_some r.half) WrongOrder) _ k.0 k.1 in
    let over = no_half r.half (not_broken _ WrongOrder whole.0 whole.1) in
    let first : ConnsRead = record { servers = r.servers; records = r.records; clients = r.clients; conns = []; half = None } in
    let first_good : IsGood (reading.Conns first) = (record { before = good.0; rise = tt; named = All-nil _ }, tt) in
    let at_first : means.conns_said first f ws ≡ Ok s = ap (λ (c : ConnsRead). means.conns_said c f ws) (ok_is first k.0 whole.2) ∙ k.2 in
    let one = conns_add first f w ws s word first_good at_first in
    let front = clients_told r.servers r.records r.clients in
    record {
      good = one.good;
      text = one.text ∙ ap (λ (t : List ℕ). t ++ (w ++ rest_text ws ++ codes "\n"))
          (append-nil (front ++ []) ∙ ap (λ (x : Option HalfClient). front ++ half_client x) (sym over));
    }

pub clients_add : (r : ClientsRead) (f : Form) (w : List ℕ) (ws : Rest) (s : Reading) → IsWordOf w f → IsGood (reading.Clients r)
    → means.clients_said r f ws ≡ Ok s → Adds (reading.Clients r) (w ++ rest_text ws ++ codes "\n") s
unfolding means.clients_said
clients_add r form.Client w ws s word good is = rw word (client_adds r r.half ws s refl good.0 good.1 is)
clients_add r form.Conn w ws s word good is = behind_add r form.Conn w ws s word good is
clients_add r form.Totals w ws s word good is = behind_add r form.Totals w ws s word good is
clients_add r (form.Record k) w ws s word good is = behind_add r (form.Record k) w ws s word good is
clients_add r form.Links w ws s word good is = behind_add r form.Links w ws s word good is
clients_add r form.Server w ws s word good is = behind_add r form.Server w ws s word good is
clients_add r (form.Mark m) w ws s word good is = behind_add r (form.Mark m) w ws s word good is
clients_add r form.Records w ws s word good is = behind_add r form.Records w ws s word good is
clients_add r form.Version w ws s word good is = behind_add r form.Version w ws s word good is
clients_add r form.Total w ws s word good is = behind_add r form.Total w ws s word good is
clients_add r form.End w ws s word good is = behind_add r form.End w ws s word good is
