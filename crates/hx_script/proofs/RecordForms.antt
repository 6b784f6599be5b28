-- The lines of records: their forms, their values, and how values are read back.
use Rattle.std.proofs.Common.{ℕ, ◌+◌, Bool, List, [], ◌∷◌}
use Rattle.std.specs.Prelude.{codes, ◌==◌, if◌then◌else◌}
use Rattle.std.specs.Str.{bytes_eq}
use Rattle.hx_base.specs.declared.numbers.Span.{Span}
use Rattle.hx_record.specs.declared.served.Carried.{Carried}
use Rattle.hx_record.specs.declared.served.CutCause.{CutCause}
use Rattle.hx_record.specs.declared.served.CutCause.TheVariants as cut
use Rattle.hx_record.specs.declared.served.Kind.{Kind}
use Rattle.hx_record.specs.declared.served.Kind.TheVariants as kind
use Rattle.hx_record.specs.declared.served.LeftCause.{LeftCause}
use Rattle.hx_record.specs.declared.served.LeftCause.TheVariants as cause
use Rattle.hx_record.specs.declared.served.Served.{Served}
use Rattle.hx_record.specs.declared.served.Told.{Told}
use Rattle.hx_record.specs.declared.served.Told.TheVariants as told
use Rattle.hx_script.specs.declared.transcript.ServerPart.{ServerPart}
use Rattle.hx_script.specs.RecordLines.{cut_text, cause_text}
use Rattle.hx_script.proofs.FormLemmas.{Value, number, name, a_number, a_name, Form, number_at, name_at}
use Rattle.hx_script.proofs.NamedServers.{back_at, server_at, found_at}

-- ---- the forms

abbrev pub span_form : List ℕ → Form → Form
span_form word form = (a_number, codes "-") ∷ (a_number, word) ∷ form

-- a session, and the number of its request
abbrev pub begin_form : Form → Form
begin_form form = (a_number, codes ".") ∷ (a_number, codes " ") ∷ (a_number, codes " ") ∷ form

-- a connection, the exchange's number there, and the ranges
abbrev pub carried_form : Form → Form
carried_form form =
    begin_form
    ((a_name, codes "/") ∷ (a_name, codes "#") ∷ (a_number, codes " ") ∷ (a_number, codes " ask ")
    ∷ span_form (codes " sent ") (span_form (codes " took ") (span_form (codes " gave ") (span_form (codes " ") form))))

abbrev pub form_after : ℕ → Form
form_after n =
    if n == 112 then carried_form ((a_name, codes "\n") ∷ [])
    else if n == 99 then carried_form ((a_name, codes " ") ∷ (a_name, codes "\n") ∷ [])
    else if n == 111 then begin_form ((a_number, codes " ask ") ∷ span_form (codes " gave ") (span_form (codes "\n") []))
    else (a_number, codes ".") ∷ (a_number, codes " ") ∷ span_form (codes " ") ((a_name, codes "\n") ∷ [])

abbrev pub word_after : ℕ → List ℕ
word_after n =
    if n == 112 then codes "ass " else if n == 99 then codes "ut " else if n == 111 then codes "wn " else codes "eft "

-- ---- the values

abbrev pub initial_of : Kind → ℕ
initial_of (kind.Passed c) = 112
initial_of (kind.Cut c why) = 99
initial_of (kind.Own status) = 111

abbrev pub initial : Told → ℕ
initial (told.Served s) = initial_of s.kind
initial (told.Left l) = 108

abbrev pub begin_values : Served → List Value → List Value
begin_values s values = number s.worker.0 ∷ number s.session.0 ∷ number s.number ∷ values

abbrev pub span_values : Span → List Value → List Value
span_values s values = number s.from ∷ number s.to ∷ values

abbrev pub carried_values : List ServerPart → Served → Carried → List Value → List Value
carried_values servers s c values =
    begin_values s
    (name (back_at servers c.server.0) ∷ name (server_at servers c.server.0) ∷ number c.id.0 ∷ number c.nth
    ∷ span_values s.ask (span_values c.sent (span_values c.took (span_values s.gave values))))

abbrev pub closing_word : Bool → List ℕ
closing_word closing = if closing then codes "close" else codes "keep"

abbrev pub cut_closing_word : Bool → List ℕ
cut_closing_word closing = if closing then codes "close-yes" else codes "close-no"

abbrev pub kind_values : List ServerPart → Served → Kind → List Value
kind_values servers s (kind.Passed c) = carried_values servers s c (name (closing_word c.closing) ∷ [])
kind_values servers s (kind.Cut c why) = carried_values servers s c (name (cut_closing_word c.closing) ∷ name (cut_text why) ∷ [])
kind_values servers s (kind.Own status) = begin_values s (number status ∷ span_values s.ask (span_values s.gave []))

abbrev pub values_of : List ServerPart → Told → List Value
values_of servers (told.Served s) = kind_values servers s s.kind
values_of servers (told.Left l) = number l.worker.0 ∷ number l.session.0 ∷ span_values l.ask (name (cause_text l.cause) ∷ [])

-- ---- read back

abbrev pub span_at : ℕ → List Value → Span
span_at k vs = record { from = number_at k vs; to = number_at (k + 1) vs }

abbrev pub cut_of : List ℕ → CutCause
cut_of word =
    if bytes_eq word (codes "early") then cut.Early
    else if bytes_eq word (codes "ended") then cut.Ended
    else if bytes_eq word (codes "fault") then cut.Fault
    else if bytes_eq word (codes "broken") then cut.Broken
    else if bytes_eq word (codes "late") then cut.Late
    else if bytes_eq word (codes "client") then cut.Client
    else if bytes_eq word (codes "stop") then cut.Stop else cut.Silent

abbrev pub cause_of : List ℕ → LeftCause
cause_of word =
    if bytes_eq word (codes "end") then cause.End
    else if bytes_eq word (codes "closing") then cause.Closing
    else if bytes_eq word (codes "own") then cause.Own
    else if bytes_eq word (codes "cut") then cause.Cut
    else if bytes_eq word (codes "idle") then cause.Idle
    else if bytes_eq word (codes "fault") then cause.Fault else cause.Stop

abbrev pub carried_back : List ServerPart → Bool → List Value → Carried
carried_back servers closing vs = record {
  server = record { 0 = found_at servers (name_at 3 vs) (name_at 4 vs) };
  id = record { 0 = number_at 5 vs };
  nth = number_at 6 vs;
  sent = span_at 9 vs;
  took = span_at 11 vs;
  closing = closing;
}

abbrev pub served_back : List Value → Span → Span → Kind → Told
served_back vs ask gave kind =
    told.Served (record { worker = record { 0 = number_at 0 vs }; session = record { 0 = number_at 1 vs }; number = number_at 2 vs; ask = ask; gave = gave; kind = kind })

abbrev pub record_back : List ServerPart → ℕ → List Value → Told
record_back servers n vs =
    if n == 112 then served_back vs (span_at 7 vs) (span_at 13 vs) (kind.Passed (carried_back servers (bytes_eq (name_at 15 vs) (codes "close")) vs))
    else if n == 99 then served_back vs (span_at 7 vs) (span_at 13 vs) (kind.Cut (carried_back servers (bytes_eq (name_at 15 vs) (codes "close-yes")) vs) (cut_of (name_at 16 vs)))
    else if n == 111 then served_back vs (span_at 4 vs) (span_at 6 vs) (kind.Own (number_at 3 vs))
    else told.Left (record { worker = record { 0 = number_at 0 vs }; session = record { 0 = number_at 1 vs }; ask = span_at 2 vs; cause = cause_of (name_at 4 vs) })
