-- The lines of records: each is told from every other, whatever follows it.
use Rattle.std.proofs.Common.{◌≡◌, ℕ, ◌<◌, Bool, true, false, List, [], ◌∷◌, ◌++◌, All, length, refl, append_assoc, lit<}
use Rattle.std.specs.Prelude.{codes}
use Rattle.std.specs.List.{list_all}
use Rattle.std.specs.Str.{bytes_eq}
use Rattle.hx_record.specs.declared.served.Carried.{Carried}
use Rattle.hx_record.specs.declared.served.CutCause.{CutCause}
use Rattle.hx_record.specs.declared.served.CutCause.TheVariants as cut
use Rattle.hx_record.specs.declared.served.Kind.{Kind}
use Rattle.hx_record.specs.declared.served.Kind.TheVariants as kind
use Rattle.hx_record.specs.declared.served.LeftCause.{LeftCause}
use Rattle.hx_record.specs.declared.served.LeftCause.TheVariants as cause
use Rattle.hx_record.specs.declared.served.Served.{Served}
use Rattle.hx_record.specs.declared.served.Told.{Told}
use Rattle.hx_record.specs.declared.served.Told.TheVariants as told
use Rattle.hx_script.specs.declared.transcript.ServerPart.{ServerPart}
use Rattle.hx_script.specs.RecordLines.{closing_text, cut_closing_text, cut_text, cause_text, carried_text, begin_text, kind_line, record_line}
use Rattle.hx_script.specs.PrintedForm.{is_name_byte, IsToldKind, IsToldRecord}
use Rattle.hx_script.specs.Numbers.{IsNumber, carried_numbers, kind_numbers, told_numbers}
use Rattle.hx_script.proofs.FormLemmas.{Value, name, a_name, Form, is_form, text, AreOf, IsLines}
use Rattle.hx_script.proofs.NamedServers.{AreNamed, named, found, conn_is}
use Rattle.hx_script.proofs.RecordForms.{carried_form, form_after, word_after, initial_of, initial, carried_values, closing_word, cut_closing_word, kind_values, values_of, cut_of, cause_of, record_back}

-- ---- each line is so

-- a record that is told, with numbers of the program
abbrev pub IsRecord : List ServerPart → Told → Type 0
IsRecord servers r = AreNamed servers × IsToldRecord (length servers) r × All IsNumber (told_numbers r)

-- the numbers of a request's record, whose kind is that
abbrev HasKind : List ServerPart → Served → Kind → Type 0
HasKind servers s k =
    AreNamed servers × IsToldKind (length servers) k
    × All IsNumber (s.worker.0 ∷ s.session.0 ∷ s.number ∷ s.ask.from ∷ s.ask.to ∷ s.gave.from ∷ s.gave.to ∷ kind_numbers k)

abbrev LineOf : List ServerPart → Served → Kind → List ℕ → Type 0
LineOf servers s k r =
    kind_line servers s k ++ r
    ≡ initial_of k ∷ word_after (initial_of k) ++ text (form_after (initial_of k)) (kind_values servers s k) r

passed_is : (servers : List ServerPart) (s : Served) (c : Carried) (closing : Bool) (r : List ℕ) → c.server.0 < length servers
    → (codes "pass " ++ begin_text s ++ carried_text servers c s.ask s.gave ++ closing_text closing) ++ r
    ≡ 112 ∷ word_after 112 ++ text (form_after 112) (carried_values servers s c (name (closing_word closing) ∷ [])) r
unfolding carried_text
passed_is servers s c true r lt = simp (append_assoc, conn_is servers c.server c.id lt)
passed_is servers s c false r lt = simp (append_assoc, conn_is servers c.server c.id lt)

cut_is : (servers : List ServerPart) (s : Served) (c : Carried) (closing : Bool) (why : CutCause) (r : List ℕ) → c.server.0 < length servers
    → (codes "cut " ++ begin_text s ++ carried_text servers c s.ask s.gave ++ cut_closing_text closing ++ cut_text why ++ codes "\n") ++ r
    ≡ 99 ∷ word_after 99 ++ text (form_after 99) (carried_values servers s c (name (cut_closing_word closing) ∷ name (cut_text why) ∷ [])) r
unfolding carried_text
cut_is servers s c true why r lt = simp (append_assoc, conn_is servers c.server c.id lt)
cut_is servers s c false why r lt = simp (append_assoc, conn_is servers c.server c.id lt)

kind_is : (servers : List ServerPart) (s : Served) (k : Kind) (r : List ℕ) → HasKind servers s k → LineOf servers s k r
kind_is servers s (kind.Passed c) r ok = passed_is servers s c c.closing r ok.1
kind_is servers s (kind.Cut c why) r ok = cut_is servers s c c.closing why r ok.1.0
kind_is servers s (kind.Own status) r ok = simp append_assoc

record_is : (servers : List ServerPart) (t : Told) (r : List ℕ) → IsRecord servers t
    → record_line servers t ++ r ≡ initial t ∷ word_after (initial t) ++ text (form_after (initial t)) (values_of servers t) r
unfolding record_line
record_is servers (told.Served s) r ok = kind_is servers s s.kind r ok
record_is servers (told.Left l) r ok = simp append_assoc

kind_formed : (k : Kind) → is_form (form_after (initial_of k)) ≡ true
kind_formed (kind.Passed c) = refl
kind_formed (kind.Cut c why) = refl
kind_formed (kind.Own status) = refl

record_formed : (t : Told) → is_form (form_after (initial t)) ≡ true
record_formed (told.Served s) = kind_formed s.kind
record_formed (told.Left l) = refl

-- ---- the values are of their classes

cut_named : (why : CutCause) → list_all is_name_byte (cut_text why) ≡ true
cut_named cut.Early = refl
cut_named cut.Ended = refl
cut_named cut.Fault = refl
cut_named cut.Broken = refl
cut_named cut.Late = refl
cut_named cut.Client = refl
cut_named cut.Stop = refl
cut_named cut.Silent = refl

cause_named : (why : LeftCause) → list_all is_name_byte (cause_text why) ≡ true
cause_named cause.End = refl
cause_named cause.Closing = refl
cause_named cause.Own = refl
cause_named cause.Cut = refl
cause_named cause.Idle = refl
cause_named cause.Fault = refl
cause_named cause.Stop = refl

closing_named : (closing : Bool) → (list_all is_name_byte (closing_word closing) ≡ true) × (list_all is_name_byte (cut_closing_word closing) ≡ true)
closing_named true = (refl, refl)
closing_named false = (refl, refl)

-- the values of an exchange, with more behind
carried_fits : (servers : List ServerPart) (s : Served) (c : Carried) (form : Form) (values : List Value) → AreNamed servers → c.server.0 < length servers
    → All IsNumber (s.worker.0 ∷ s.session.0 ∷ s.number ∷ s.ask.from ∷ s.ask.to ∷ s.gave.from ∷ s.gave.to ∷ carried_numbers c)
    → AreOf form values → AreOf (carried_form form) (carried_values servers s c values)
carried_fits servers s c form values are lt n more =
    let names = named servers c.server.0 lt are.told in
    let k = λ (i : ℕ) (there : i < 13). n i 0 there in (
      k 0 (lit< tt),
      (
        k 1 (lit< tt),
        (
          k 2 (lit< tt),
          (
            names.0,
            (
              names.1,
              (
                k 7 (lit< tt),
                (
                  k 8 (lit< tt),
                  (
                    k 3 (lit< tt),
                    (
                      k 4 (lit< tt),
                      (k 9 (lit< tt), (k 10 (lit< tt), (k 11 (lit< tt), (k 12 (lit< tt), (k 5 (lit< tt), (k 6 (lit< tt), more)))))),
                    ),
                  ),
                ),
              ),
            ),
          ),
        ),
      ),
    )

kind_fits : (servers : List ServerPart) (s : Served) (k : Kind) → HasKind servers s k → AreOf (form_after (initial_of k)) (kind_values servers s k)
kind_fits servers s (kind.Passed c) ok =
    carried_fits servers s c ((a_name, codes "\n") ∷ []) (name (closing_word c.closing) ∷ []) ok.0 ok.1 ok.2 ((closing_named c.closing).0, tt)
kind_fits servers s (kind.Cut c why) ok =
    carried_fits servers s c ((a_name, codes " ") ∷ (a_name, codes "\n") ∷ []) (name (cut_closing_word c.closing) ∷ name (cut_text why) ∷ []) ok.0 ok.1.0 ok.2
    ((closing_named c.closing).1, (cut_named why, tt))
kind_fits servers s (kind.Own status) ok =
    let k = λ (i : ℕ) (there : i < 8). ok.2 i 0 there in
    (k 0 (lit< tt), (k 1 (lit< tt), (k 2 (lit< tt), (k 7 (lit< tt), (k 3 (lit< tt), (k 4 (lit< tt), (k 5 (lit< tt), (k 6 (lit< tt), tt))))))))

record_fits : (servers : List ServerPart) (t : Told) → IsRecord servers t → AreOf (form_after (initial t)) (values_of servers t)
record_fits servers (told.Served s) ok = kind_fits servers s s.kind ok
record_fits servers (told.Left l) ok =
    let k = λ (i : ℕ) (there : i < 4). ok.2 i 0 there in
    (k 0 (lit< tt), (k 1 (lit< tt), (k 2 (lit< tt), (k 3 (lit< tt), (cause_named l.cause, tt)))))

-- ---- and the values tell the record

cut_back : (why : CutCause) → cut_of (cut_text why) ≡ why
cut_back cut.Early = refl
cut_back cut.Ended = refl
cut_back cut.Fault = refl
cut_back cut.Broken = refl
cut_back cut.Late = refl
cut_back cut.Client = refl
cut_back cut.Stop = refl
cut_back cut.Silent = refl

cause_back : (why : LeftCause) → cause_of (cause_text why) ≡ why
cause_back cause.End = refl
cause_back cause.Closing = refl
cause_back cause.Own = refl
cause_back cause.Cut = refl
cause_back cause.Idle = refl
cause_back cause.Fault = refl
cause_back cause.Stop = refl

closing_back : (closing : Bool) → (bytes_eq (closing_word closing) (codes "close") ≡ closing) × (bytes_eq (cut_closing_word closing) (codes "close-yes") ≡ closing)
closing_back true = (refl, refl)
closing_back false = (refl, refl)

kind_backed : (servers : List ServerPart) (s : Served) (k : Kind) → HasKind servers s k
    → record_back servers (initial_of k) (kind_values servers s k) ≡ told.Served (record s { kind = k })
kind_backed servers s (kind.Passed c) ok = rw (found servers c.server.0 ok.1 ok.0.others) (rw (closing_back c.closing).0 refl)
kind_backed servers s (kind.Cut c why) ok =
    rw (found servers c.server.0 ok.1.0 ok.0.others) (rw (closing_back c.closing).1 (rw (cut_back why) refl))
kind_backed servers s (kind.Own status) ok = refl

record_backed : (servers : List ServerPart) (t : Told) → IsRecord servers t → record_back servers (initial t) (values_of servers t) ≡ t
record_backed servers (told.Served s) ok = kind_backed servers s s.kind ok
record_backed servers (told.Left l) ok = rw (cause_back l.cause) refl

pub record_lines : (servers : List ServerPart) → IsLines (IsRecord servers) (record_line servers)
record_lines servers = record {
  first = initial;
  word = word_after;
  form = form_after;
  values = values_of servers;
  back = record_back servers;
  is = record_is servers;
  formed = λ t ok. record_formed t;
  fits = record_fits servers;
  backed = record_backed servers;
}
