-- The lines of servers and of their marks are read.
use Rattle.std.proofs.Common.{◌≡◌, ℕ, ◌+◌, Bool, true, false, List, [], ◌∷◌, ◌++◌, All, Option, Some, None, Ok, refl, sym, ap, subst, ◌∙◌, arith, inl, inr, append_assoc}
use Rattle.std.specs.Prelude.{codes, decimal, ⊤, is_some, bytes_eq}
use Rattle.std.specs.List.{flat_map, list_all}
use Rattle.std.proofs.lemmas.Bool.{cases_Bool, cond-false, and_parts}
use Rattle.std.proofs.lemmas.List.{append-nil}
use Rattle.std.proofs.lemmas.List.Elements.{All-nil, All-cons, All-head, All-tail}
use Rattle.std.proofs.lemmas.Slice.Eq.{bytes_eq-Decides}
use Rattle.hx_base.specs.declared.rules.Mode.{Mode}
use Rattle.hx_base.specs.declared.rules.Mode.TheVariants as mode
use Rattle.hx_base.specs.declared.rules.PoolRules.{PoolRules}
use Rattle.hx_pool.specs.declared.entries.Entry.{Entry}
use Rattle.hx_pool.specs.declared.entries.Entry.TheVariants as entry
use Rattle.hx_script.specs.declared.transcript.ServerPart.{ServerPart}
use Rattle.hx_script.specs.MarkLines.{mark_line, mode_text, max_text, full_name, who_conn, place_uses, round_line, server_line, server_lines}
use Rattle.hx_script.specs.PrintedForm.{IsToldMark, IsToldServer, OtherName, OtherNames}
use Rattle.hx_transcripts_parts.specs.declared.fault.Rule.TheVariants.{WrongOrder}
use Rattle.hx_transcripts_parts.specs.declared.keywords.MarkWord.{MarkWord}
use Rattle.hx_transcripts_parts.specs.declared.keywords.MarkWord.TheVariants as mark
use Rattle.hx_transcripts_parts.specs.Faults.{◌>>=◌, unless}
use Rattle.hx_transcripts_parts.specs.Lexical.{Rest, rest_text, is_inside, read_word}
use Rattle.hx_transcripts_parts.specs.MarkLaws.{mark_text, rules_text, FitsMark, FitsMax, FitsRules}
use Rattle.hx_transcripts_parts.specs.Marks.{mark_at, rules_at}
use Rattle.hx_transcripts_parts.specs.Pieces.{name_in, has_names, server_from}
use Rattle.hx_transcripts_parts.specs.ReadBack.{FitsNames}
use Rattle.hx_transcripts_parts.proofs.MarkLemmas.{mark_whole}
use Rattle.hx_transcripts_parts.proofs.PieceLemmas.{names_read}
use Rattle.hx_transcripts_parts.proofs.TotalsLemmas.{rules_read}
use Rattle.hx_transcripts_parts.proofs.WordLemmas.{bind_is, word_reads}
use Rattle.hx_transcripts.specs.declared.form.Form.TheVariants as form
use Rattle.hx_transcripts.specs.declared.reading.OpenServer.{OpenServer}
use Rattle.hx_transcripts.specs.declared.reading.ServersRead.{ServersRead}
use Rattle.hx_transcripts.specs.declared.reading.Reading.{Reading}
use Rattle.hx_transcripts.specs.declared.reading.Reading.TheVariants as reading
use Rattle.hx_transcripts.specs.Fits.{FitsServer}
use Rattle.hx_transcripts.specs.Forms.{form_in}
use Rattle.hx_transcripts.specs.Servers as means
use Rattle.hx_transcripts.proofs.Cleanness.{join, lit, clean_number, clean_name, clean_who_conn, clean_place_uses}
use Rattle.hx_transcripts.proofs.Passing.{Clean, IsLine, Passes, none_passes, both_pass, line_passes}

-- ---- marks

pub mark_clean : (m : Entry) → IsToldMark m → FitsMark m → IsLine (mark_line m)
unfolding mark_line round_line
mark_clean (entry.Open t n id) told fits = record {
  line = codes "open " ++ who_conn t n id;
  is = refl;
  clean = join (lit (codes "open ") refl) (clean_who_conn t n id fits.0 fits.1);
}
mark_clean (entry.Park t n id place uses) told fits = record {
  line = codes "park " ++ who_conn t n id ++ place_uses place uses;
  is = refl;
  clean = join (join (lit (codes "park ") refl) (clean_who_conn t n id fits.0 fits.1)) (clean_place_uses place uses fits.2 fits.3);
}
mark_clean (entry.Take t n true place id uses) told fits = record {
  line = codes "take " ++ who_conn t n id ++ place_uses place uses ++ codes " first";
  is = sym (append_assoc (codes "take " ++ who_conn t n id ++ place_uses place uses) (codes " first") (codes "\n"));
  clean = join (join (join (lit (codes "take ") refl) (clean_who_conn t n id fits.0 fits.1)) (clean_place_uses place uses fits.2 fits.3)) (lit (codes " first") refl);
}
mark_clean (entry.Take t n false place id uses) told fits = record {
  line = codes "take " ++ who_conn t n id ++ place_uses place uses ++ codes " later";
  is = sym (append_assoc (codes "take " ++ who_conn t n id ++ place_uses place uses) (codes " later") (codes "\n"));
  clean = join (join (join (lit (codes "take ") refl) (clean_who_conn t n id fits.0 fits.1)) (clean_place_uses place uses fits.2 fits.3)) (lit (codes " later") refl);
}
mark_clean (entry.Close t n id) told fits = record {
  line = codes "close " ++ who_conn t n id;
  is = refl;
  clean = join (lit (codes "close ") refl) (clean_who_conn t n id fits.0 fits.1);
}
mark_clean (entry.SetGate t true) told fits = record {
  line = codes "gate " ++ decimal t.0 ++ codes " drain";
  is = sym (append_assoc (codes "gate " ++ decimal t.0) (codes " drain") (codes "\n"));
  clean = join (join (lit (codes "gate ") refl) (clean_number t.0 (omega (arith, fits)))) (lit (codes " drain") refl);
}
mark_clean (entry.SetGate t false) told fits = record {
  line = codes "gate " ++ decimal t.0 ++ codes " ready";
  is = sym (append_assoc (codes "gate " ++ decimal t.0) (codes " ready") (codes "\n"));
  clean = join (join (lit (codes "gate ") refl) (clean_number t.0 (omega (arith, fits)))) (lit (codes " ready") refl);
}
mark_clean (entry.Round t k old) told fits = record {
  line = codes "round " ++ decimal t.0 ++ codes " " ++ decimal k ++ codes " " ++ decimal old;
  is = refl;
  clean = join (join (join (join (join (lit (codes "round ") refl) (clean_number t.0 (omega (arith, fits.0)))) (lit (codes " ") refl)) (clean_number k fits.1)) (lit (codes " ") refl)) (clean_number old fits.2);
}
mark_clean (entry.Free t place) told fits = absurd told
mark_clean (entry.Look t place found) told fits = absurd told
mark_clean (entry.Up t old) told fits = absurd told
mark_clean (entry.Down t old) told fits = absurd told
mark_clean (entry.Count t c) told fits = absurd told
mark_clean (entry.Gate t draining) told fits = absurd told

mark_inside : (m : MarkWord) → list_all is_inside (mark_text m) ≡ true
mark_inside mark.Open = refl
mark_inside mark.Park = refl
mark_inside mark.Take = refl
mark_inside mark.Close = refl
mark_inside mark.Gate = refl
mark_inside mark.Round = refl

mark_form : (m : MarkWord) → form_in (mark_text m) ≡ Ok (form.Mark m)
unfolding form_in
mark_form mark.Open = refl
mark_form mark.Park = refl
mark_form mark.Take = refl
mark_form mark.Close = refl
mark_form mark.Gate = refl
mark_form mark.Round = refl

-- the reading whose last server has these marks
abbrev pub with_marks : List ServerPart → OpenServer → List Entry → Reading
with_marks done o marks = reading.Servers (record { done = done; current = Some (record o { marks = marks }) })

mark_said : (done : List ServerPart) (o : OpenServer) (marks : List Entry) (m : Entry) (first : MarkWord) (ws : Rest) → mark_at first ws ≡ Ok m
    → means.servers_said (record { done = done; current = Some (record o { marks = marks }) }) (form.Mark first) ws ≡ Ok (with_marks done o (marks ++ m ∷ []))
unfolding means.servers_said
mark_said done o marks m first ws is = bind_is (λ (e : Entry). Ok (with_marks done o (marks ++ e ∷ []))) is

mark_passes : (done : List ServerPart) (o : OpenServer) (marks : List Entry) (m : Entry) → IsToldMark m → FitsMark m
    → Passes (with_marks done o marks) (mark_line m) (with_marks done o (marks ++ m ∷ []))
mark_passes done o marks m told fits =
    let x = mark_whole m told fits in
    line_passes (with_marks done o marks) (mark_line m) (mark_text x.first) x.ws (form.Mark x.first) (with_marks done o (marks ++ m ∷ []))
    (mark_clean m told fits) x.line (mark_inside x.first) (mark_form x.first) (mark_said done o marks m x.first x.ws x.read)

pub marks_pass : (done : List ServerPart) (o : OpenServer) (marks more : List Entry) → All IsToldMark more → All FitsMark more
    → Passes (with_marks done o marks) (flat_map mark_line more) (with_marks done o (marks ++ more))
marks_pass done o marks [] told fits =
    subst (λ (ms : List Entry). Passes (with_marks done o marks) [] (with_marks done o ms)) (sym (append-nil marks)) (none_passes (with_marks done o marks))
marks_pass done o marks (m ∷ more) told fits =
    let one = mark_passes done o marks m (All-head IsToldMark m more told) (All-head FitsMark m more fits) in
    let rest = marks_pass done o (marks ++ m ∷ []) more (All-tail IsToldMark m more told) (All-tail FitsMark m more fits) in
    subst (λ (ms : List Entry). Passes (with_marks done o marks) (mark_line m ++ flat_map mark_line more) (with_marks done o ms)) (append_assoc marks (m ∷ []) more)
    (both_pass (with_marks done o marks) (with_marks done o (marks ++ m ∷ [])) (with_marks done o ((marks ++ m ∷ []) ++ more)) (mark_line m) (flat_map mark_line more) one rest)

-- ---- servers

unnamed : (i : ℕ) (p : ServerPart) (xs : List ServerPart) → All (λ (q : ServerPart). OtherName q p) xs → is_some (server_from i p.back p.server xs) ≡ false
unfolding server_from
unnamed i p [] others = refl
unnamed i p (q ∷ xs) others = elim (cases_Bool (has_names p.back p.server q)) [
  | inl same ↦
      let parts = and_parts (bytes_eq q.back p.back) (bytes_eq q.server p.server) same in
      absurd (All-head (λ (x : ServerPart). OtherName x p) q xs others ((bytes_eq-Decides q.back p.back).0 parts.0, (bytes_eq-Decides q.server p.server).0 parts.1))
  | inr differs ↦ ap (λ (o : Option ℕ). is_some o) (cond-false _ _ _ differs) ∙ unnamed (i + 1) p xs (All-tail (λ (x : ServerPart). OtherName x p) q xs others)
]

all_middle : {A : Type 0} (P : A → Type 0) (xs : List A) (y : A) (ys : List A) → All P (xs ++ y ∷ ys) → P y
all_middle P [] y ys h = All-head P y ys h
all_middle P (x ∷ xs) y ys h = all_middle P xs y ys (All-tail P x (xs ++ y ∷ ys) h)

others_before : (xs : List ServerPart) (p : ServerPart) (ys : List ServerPart) → OtherNames (xs ++ p ∷ ys) → All (λ (q : ServerPart). OtherName q p) xs
others_before [] p ys others = All-nil (λ (q : ServerPart). OtherName q p)
others_before (q ∷ xs) p ys others =
    All-cons (λ (x : ServerPart). OtherName x p) q xs (all_middle (OtherName q) xs p ys others.0) (others_before xs p ys others.1)

mode_clean : (m : Mode) → Clean (mode_text m)
mode_clean mode.Never = record { no = refl }
mode_clean mode.Safe = record { no = refl }
mode_clean mode.Aggressive = record { no = refl }
mode_clean mode.Always = record { no = refl }

max_clean : (m : Option ℕ) → FitsMax m → Clean (max_text m)
max_clean None fits = record { no = refl }
max_clean (Some n) fits = clean_number n (omega (arith, fits))

server_clean : (p : ServerPart) → IsToldServer p → FitsRules p.rules → IsLine (server_line p)
unfolding server_line
server_clean p told fits =
    let blank = lit (codes " ") refl in
    record {
      line = codes "server " ++ full_name p ++ codes " " ++ mode_text p.rules.mode ++ codes " " ++ max_text p.rules.max ++ codes " " ++ decimal p.rules.low
          ++ codes " " ++ decimal p.rules.delay.0;
      is = refl;
      clean = join (join (join (join (join (join (join (join (join (lit (codes "server ") refl)
          (join (join (clean_name p.back told.0) (lit (codes "/") refl)) (clean_name p.server told.1))) blank) (mode_clean p.rules.mode)) blank) (max_clean p.rules.max fits.0)) blank)
          (clean_number p.rules.low (omega (arith, fits.1)))) blank) (clean_number p.rules.delay.0 fits.2);
    }

abbrev opened : ServerPart → OpenServer
opened p = record { back = p.back; server = p.server; rules = p.rules; marks = [] }

regroup_words : (h z n a b c d e : List ℕ)
    → h ++ n ++ z ++ a ++ z ++ b ++ z ++ c ++ z ++ d ++ e ≡ h ++ (n ++ (z ++ a ++ z ++ b ++ z ++ c ++ z ++ d)) ++ e
regroup_words h z n a b c d e = simp append_assoc

server_words : (p : ServerPart) (ws behind : Rest) → rest_text ws ≡ 32 ∷ (p.back ++ codes "/" ++ p.server) ++ rest_text behind → rest_text behind ≡ rules_text p.rules
    → server_line p ≡ codes "server" ++ rest_text ws ++ codes "\n"
unfolding server_line
server_words p ws behind names is =
    regroup_words (codes "server ") (codes " ") (full_name p) (mode_text p.rules.mode) (max_text p.rules.max) (decimal p.rules.low) (decimal p.rules.delay.0) (codes "\n")
    ∙ ap (λ (t : List ℕ). codes "server" ++ ((32 ∷ full_name p) ++ t) ++ codes "\n") (sym is)
    ∙ ap (λ (t : List ℕ). codes "server" ++ t ++ codes "\n") (sym names)

server_said : (r : ServersRead) (p : ServerPart) (ws behind : Rest) → is_some (server_from 0 p.back p.server (means.closed r.done r.current)) ≡ false
    → read_word name_in ws ≡ Ok ((p.back, p.server), behind) → rules_at behind ≡ Ok p.rules
    → means.servers_said r form.Server ws ≡ Ok (with_marks (means.closed r.done r.current) (opened p) [])
unfolding means.servers_said
server_said r p ws behind new names rules =
    let servers = means.closed r.done r.current in
    let one : means.new_names_at servers ws ≡ Ok ((p.back, p.server), behind) =
    bind_is (λ (x : (List ℕ × List ℕ) × Rest). unless (is_some (server_from 0 x.0.0 x.0.1 servers)) WrongOrder >>= λ (new : ⊤). Ok x) names
    ∙ ap (λ (b : Bool). unless b WrongOrder >>= λ (new : ⊤). Ok ((p.back, p.server), behind)) new in
    bind_is (λ (x : (List ℕ × List ℕ) × Rest). rules_at x.1 >>= λ (rules : PoolRules). Ok (reading.Servers (record {
      done = servers;
      current = Some (record { back = x.0.0; server = x.0.1; rules = rules; marks = [] });
    }))) one
    ∙ bind_is (λ (rules : PoolRules). Ok (reading.Servers (record {
      done = servers;
      current = Some (record { back = p.back; server = p.server; rules = rules; marks = [] });
    }))) rules

server_form : form_in (codes "server") ≡ Ok form.Server
unfolding form_in
server_form = refl

server_passes : (r : ServersRead) (p : ServerPart) → IsToldServer p → FitsServer p
    → All (λ (q : ServerPart). OtherName q p) (means.closed r.done r.current)
    → Passes (reading.Servers r) (server_line p) (with_marks (means.closed r.done r.current) (opened p) [])
server_passes r p told fits others =
    let rules = rules_read.whole p.rules fits.rules in
    let names = (word_reads name_in (λ z. z.0 ++ codes "/" ++ z.1) FitsNames names_read).whole (p.back, p.server) rules.0 (told.0, told.1) in
    line_passes (reading.Servers r) (server_line p) (codes "server") names.0 form.Server (with_marks (means.closed r.done r.current) (opened p) [])
    (server_clean p told fits.rules) (server_words p names.0 rules.0 names.1 rules.1) refl server_form
    (server_said r p names.0 rules.0 (unnamed 0 p (means.closed r.done r.current) others) names.2 rules.2)

-- the servers are read behind those that were
pub record ServersPass (r : ServersRead) (ps : List ServerPart) : Type 0 where
  pub end : ServersRead
  pub closed : means.closed end.done end.current ≡ means.closed r.done r.current ++ ps
  pub passes : Passes (reading.Servers r) (flat_map server_lines ps) (reading.Servers end)

pub servers_pass : (r : ServersRead) (ps : List ServerPart) → OtherNames (means.closed r.done r.current ++ ps) → All IsToldServer ps → All FitsServer ps
    → ServersPass r ps
unfolding server_lines
servers_pass r [] others told fits = record { end = r; closed = sym (append-nil (means.closed r.done r.current)); passes = none_passes (reading.Servers r) }
servers_pass r (p ∷ ps) others told fits =
    let servers = means.closed r.done r.current in
    let here = All-head IsToldServer p ps told in
    let fit = All-head FitsServer p ps fits in
    let s : ServersRead = record { done = servers; current = Some (record (opened p) { marks = p.marks }) } in
    let one = server_passes r p here fit (others_before servers p ps others) in
    let marks = marks_pass servers (opened p) [] p.marks here.2 fit.marks in
    let both = both_pass (reading.Servers r) (with_marks servers (opened p) []) (reading.Servers s) (server_line p) (flat_map mark_line p.marks) one marks in
    let same : (servers ++ p ∷ []) ++ ps ≡ servers ++ p ∷ ps = append_assoc servers (p ∷ []) ps in
    let rest = servers_pass s ps (subst OtherNames (sym same) others) (All-tail IsToldServer p ps told) (All-tail FitsServer p ps fits) in
    record {
      end = rest.end;
      closed = rest.closed ∙ same;
      passes = both_pass (reading.Servers r) (reading.Servers s) (reading.Servers rest.end) (server_line p ++ flat_map mark_line p.marks) (flat_map server_lines ps) both rest.passes;
    }
