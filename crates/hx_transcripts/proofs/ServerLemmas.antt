-- Lines where servers stand.
use Rattle.std.proofs.Common.{◌≡◌, ℕ, ◌+◌, true, false, List, [], ◌∷◌, ◌++◌, Option, Ok, refl, sym, ap, subst, ◌∙◌, inl, inr, append_assoc}
use Rattle.std.specs.Prelude.{codes, decimal, is_some, bytes_eq}
use Rattle.std.proofs.lemmas.Bool.{cases_Bool, cond-true, cond-false, and_from}
use Rattle.std.proofs.lemmas.List.{flat_map_more, append-nil}
use Rattle.std.proofs.lemmas.List.Elements.{All-nil, All-push}
use Rattle.std.proofs.lemmas.Slice.Eq.{bytes_eq-Decides}
use Rattle.hx_base.specs.declared.rules.PoolRules.{PoolRules}
use Rattle.hx_pool.specs.declared.entries.Entry.{Entry}
use Rattle.hx_script.specs.declared.transcript.ServerPart.{ServerPart}
use Rattle.hx_script.specs.MarkLines.{mark_line, mode_text, max_text, server_line, server_lines}
use Rattle.hx_script.specs.Printed.{first_line}
use Rattle.hx_script.specs.PrintedForm.{IsToldMark, IsToldServer, OtherName, OtherNames}
use Rattle.hx_transcripts_parts.specs.declared.fault.Rule.TheVariants.{WrongOrder}
use Rattle.hx_transcripts_parts.specs.declared.keywords.MarkWord.{MarkWord}
use Rattle.hx_transcripts_parts.specs.Faults.{unless, or_broken}
use Rattle.hx_transcripts_parts.specs.Lexical.{Rest, rest_text, read_word, at_end}
use Rattle.hx_transcripts_parts.specs.MarkLaws.{mark_text, rules_text}
use Rattle.hx_transcripts_parts.specs.Marks.{mark_at, rules_at}
use Rattle.hx_transcripts_parts.specs.Pieces.{name_in, has_names, server_from}
use Rattle.hx_transcripts_parts.specs.ReadBack.{FitsNames, AreNamed}
use Rattle.hx_transcripts_parts.proofs.MarkLemmas.{mark_sound}
use Rattle.hx_transcripts_parts.proofs.PieceLemmas.{names_read}
use Rattle.hx_transcripts_parts.proofs.TotalsLemmas.{rules_read}
use Rattle.hx_transcripts_parts.proofs.WordLemmas.{ok_is, bind_ok, there_is, not_broken, word_reads, end_sound}
use Rattle.hx_transcripts.specs.declared.form.Form.{Form}
use Rattle.hx_transcripts.specs.declared.form.Form.TheVariants as form
use Rattle.hx_transcripts.specs.declared.reading.OpenServer.{OpenServer}
use Rattle.hx_transcripts.specs.declared.reading.ServersRead.{ServersRead}
use Rattle.hx_transcripts.specs.declared.reading.Reading.{Reading}
use Rattle.hx_transcripts.specs.declared.reading.Reading.TheVariants as reading
use Rattle.hx_transcripts.specs.Servers as means
use Rattle.hx_transcripts.proofs.FormLemmas.{IsWordOf}
use Rattle.hx_transcripts.proofs.ListLemmas.{all_front, all_last}
use Rattle.hx_transcripts.proofs.Told.{servers_told, Adds, IsGood}

-- ---- names that no server has

pub record AreNew (servers : List ServerPart) (ws : Rest) (x : (List ℕ × List ℕ) × Rest) : Type 0 where
  pub fits : FitsNames x.0
  pub stands : rest_text ws ≡ 32 ∷ (x.0.0 ++ codes "/" ++ x.0.1) ++ rest_text x.1
  pub new : is_some (server_from 0 x.0.0 x.0.1 servers) ≡ false

new_sound : (servers : List ServerPart) (ws : Rest) (x : (List ℕ × List ℕ) × Rest) → means.new_names_at servers ws ≡ Ok x → AreNew servers ws x
new_sound servers ws x is =
    let y = bind_ok (read_word name_in ws) _ x is in
    let new = bind_ok (unless (is_some (server_from 0 y.0.0.0 y.0.0.1 servers)) WrongOrder) _ x y.2 in
    let one = (word_reads name_in (λ z. z.0 ++ codes "/" ++ z.1) FitsNames names_read).sound ws y.0 y.1 in
    subst (AreNew servers ws) (ok_is y.0 x new.2)
    (record { fits = one.0; stands = one.1; new = not_broken _ WrongOrder new.0 new.1 })

-- ---- one more server

apart : (back server : List ℕ) (q p : ServerPart) → has_names back server q ≡ false → p.back ≡ back → p.server ≡ server → OtherName q p
apart back server q p differs b s = λ same.
    let e = and_from (bytes_eq q.back back) (bytes_eq q.server server)
    ((bytes_eq-Decides q.back back).1 (same.0 ∙ b)) ((bytes_eq-Decides q.server server).1 (same.1 ∙ s)) in
    let f : true ≡ false = sym e ∙ differs in cc

others_pushed : (i : ℕ) (back server : List ℕ) (p : ServerPart) → p.back ≡ back → p.server ≡ server → (xs : List ServerPart)
    → is_some (server_from i back server xs) ≡ false → OtherNames xs → OtherNames (xs ++ p ∷ [])
unfolding server_from
others_pushed i back server p b s [] new others = (All-nil (OtherName p), tt)
others_pushed i back server p b s (q ∷ xs) new others = elim (cases_Bool (has_names back server q)) [
  | inl same ↦ absurd (let e = sym (ap (λ (o : Option ℕ). is_some o) (cond-true _ _ _ same)) ∙ new in cc)
  | inr differs ↦ (
    All-push (OtherName q) xs p others.0 (apart back server q p differs b s),
    others_pushed (i + 1) back server p b s xs (sym (ap (λ (o : Option ℕ). is_some o) (cond-false _ _ _ differs)) ∙ new) others.1,
  )
]

named_pushed : (servers : List ServerPart) (ws : Rest) (x : (List ℕ × List ℕ) × Rest) (rules : PoolRules) → AreNamed servers → AreNew servers ws x
    → AreNamed (servers ++ (record { back = x.0.0; server = x.0.1; rules = rules; marks = [] }) ∷ [])
named_pushed servers ws x rules named new =
    let p : ServerPart = record { back = x.0.0; server = x.0.1; rules = rules; marks = [] } in
    record {
      told = All-push IsToldServer servers p named.told (new.fits.0, new.fits.1, All-nil IsToldMark);
      others = others_pushed 0 x.0.0 x.0.1 p refl refl servers new.new named.others;
    }

regroup_server : (h z n a b c d e : List ℕ)
    → (h ++ n ++ z ++ a ++ z ++ b ++ z ++ c ++ z ++ d ++ e) ++ [] ≡ h ++ (n ++ (z ++ a ++ z ++ b ++ z ++ c ++ z ++ d)) ++ e
regroup_server h z n a b c d e = simp (append_assoc, append-nil)

server_text : (back server : List ℕ) (rules : PoolRules) (ws behind : Rest) → rest_text ws ≡ 32 ∷ (back ++ codes "/" ++ server) ++ rest_text behind
    → rest_text behind ≡ rules_text rules
    → server_lines (record { back = back; server = server; rules = rules; marks = [] }) ≡ codes "server" ++ rest_text ws ++ codes "\n"
unfolding server_lines server_line
server_text back server rules ws behind names is =
    regroup_server (codes "server ") (codes " ") (back ++ codes "/" ++ server) (mode_text rules.mode) (max_text rules.max) (decimal rules.low) (decimal rules.delay.0) (codes "\n")
    ∙ ap (λ (t : List ℕ). codes "server" ++ ((32 ∷ (back ++ codes "/" ++ server)) ++ t) ++ codes "\n") (sym is)
    ∙ ap (λ (t : List ℕ). codes "server" ++ t ++ codes "\n") (sym names)

server_adds : (r : ServersRead) (ws : Rest) (s : Reading) → IsGood (reading.Servers r) → means.server_line r ws ≡ Ok s
    → Adds (reading.Servers r) (codes "server" ++ rest_text ws ++ codes "\n") s
server_adds r ws s good is =
    let servers = means.closed r.done r.current in
    let x = bind_ok (means.new_names_at servers ws) _ s is in
    let rules = bind_ok (rules_at x.0.1) _ s x.2 in
    let new = new_sound servers ws x.0 x.1 in
    let p : ServerPart = record { back = x.0.0.0; server = x.0.0.1; rules = rules.0; marks = [] } in
    let text = server_text x.0.0.0 x.0.0.1 rules.0 ws x.0.1 new.stands ((rules_read.sound x.0.1 rules.0 rules.1).1) in
    subst (Adds (reading.Servers r) (codes "server" ++ rest_text ws ++ codes "\n")) (ok_is _ s rules.2)
    (record {
      good = named_pushed servers ws x.0 rules.0 good new;
      text = sym (flat_map_more server_lines first_line servers p) ∙ ap (λ (t : List ℕ). servers_told servers ++ t) text;
    })

-- ---- one more mark

abbrev with_mark : OpenServer → Entry → OpenServer
with_mark o m = record o { marks = o.marks ++ m ∷ [] }

others_same : (p q : ServerPart) → q.back ≡ p.back → q.server ≡ p.server → (xs : List ServerPart) → OtherNames (xs ++ p ∷ []) → OtherNames (xs ++ q ∷ [])
others_same p q b s [] others = (All-nil (OtherName q), tt)
others_same p q b s (x ∷ xs) others = (
  All-push (OtherName x) xs q (all_front (OtherName x) xs p others.0)
      (λ same. all_last (OtherName x) xs p others.0 (same.0 ∙ b, same.1 ∙ s)),
  others_same p q b s xs others.1,
)

named_marked : (done : List ServerPart) (o : OpenServer) (m : Entry) → IsToldMark m → AreNamed (done ++ means.part_of o ∷ [])
    → AreNamed (done ++ means.part_of (with_mark o m) ∷ [])
named_marked done o m ok named =
    let p = means.part_of o in
    let q = means.part_of (with_mark o m) in
    let last = all_last IsToldServer done p named.told in
    record {
      told = All-push IsToldServer done q (all_front IsToldServer done p named.told) (last.0, last.1, All-push IsToldMark o.marks m last.2 ok);
      others = others_same p q refl refl done named.others;
    }

marked_text : (o : OpenServer) (m : Entry) → server_lines (means.part_of (with_mark o m)) ≡ server_lines (means.part_of o) ++ mark_line m
unfolding server_lines server_line
marked_text o m = sym (flat_map_more mark_line (server_line (means.part_of o)) o.marks m)

servers_marked : (done : List ServerPart) (o : OpenServer) (m : Entry)
    → servers_told (done ++ means.part_of (with_mark o m) ∷ []) ≡ servers_told (done ++ means.part_of o ∷ []) ++ mark_line m
servers_marked done o m =
    let p = means.part_of o in
    let q = means.part_of (with_mark o m) in
    sym (flat_map_more server_lines first_line done q) ∙ ap (λ (t : List ℕ). servers_told done ++ t) (marked_text o m)
    ∙ sym (append_assoc (servers_told done) (server_lines p) (mark_line m))
    ∙ ap (λ (t : List ℕ). t ++ mark_line m) (flat_map_more server_lines first_line done p)

mark_adds : (r : ServersRead) (first : MarkWord) (ws : Rest) (s : Reading) → IsGood (reading.Servers r) → means.mark_line r first ws ≡ Ok s
    → Adds (reading.Servers r) (mark_text first ++ rest_text ws ++ codes "\n") s
mark_adds r first ws s good is =
    let o = bind_ok (or_broken WrongOrder r.current) _ s is in
    let m = bind_ok (mark_at first ws) _ s o.2 in
    let there = there_is WrongOrder r.current o.0 o.1 in
    let line = mark_sound first ws m.0 m.1 in
    let now = ap (means.closed r.done) there in
    subst (Adds (reading.Servers r) (mark_text first ++ rest_text ws ++ codes "\n")) (ok_is _ s m.2)
    (record {
      good = named_marked r.done o.0 m.0 line.told (subst AreNamed now good);
      text = servers_marked r.done o.0 m.0 ∙ ap (λ (t : List ℕ). servers_told (r.done ++ means.part_of o.0 ∷ []) ++ t) line.line
          ∙ ap (λ (ps : List ServerPart). servers_told ps ++ (mark_text first ++ rest_text ws ++ codes "\n")) (sym now);
    })

-- ---- the heading of the records

records_adds : (r : ServersRead) (ws : Rest) (s : Reading) → IsGood (reading.Servers r) → means.records_line r ws ≡ Ok s
    → Adds (reading.Servers r) (codes "records" ++ rest_text ws ++ codes "\n") s
records_adds r ws s good is =
    let e = bind_ok (at_end ws) _ s is in
    let none = end_sound ws e.0 e.1 in
    subst (Adds (reading.Servers r) (codes "records" ++ rest_text ws ++ codes "\n")) (ok_is _ s e.2)
    (record {
      good = record { named = good; each = All-nil _ };
      text = ap (λ (t : List ℕ). servers_told (means.closed r.done r.current) ++ (codes "records" ++ t ++ codes "\n")) (sym none);
    })

pub servers_add : (r : ServersRead) (f : Form) (w : List ℕ) (ws : Rest) (s : Reading) → IsWordOf w f → IsGood (reading.Servers r)
    → means.servers_said r f ws ≡ Ok s → Adds (reading.Servers r) (w ++ rest_text ws ++ codes "\n") s
unfolding means.servers_said
servers_add r form.Server w ws s word good is = rw word (server_adds r ws s good is)
servers_add r (form.Mark m) w ws s word good is = rw word (mark_adds r m ws s good is)
servers_add r form.Records w ws s word good is = rw word (records_adds r ws s good is)
servers_add r form.Version w ws s word good is = cc
servers_add r (form.Record k) w ws s word good is = cc
servers_add r form.Links w ws s word good is = cc
servers_add r form.Client w ws s word good is = cc
servers_add r form.Conn w ws s word good is = cc
servers_add r form.Totals w ws s word good is = cc
servers_add r form.Total w ws s word good is = cc
servers_add r form.End w ws s word good is = cc
