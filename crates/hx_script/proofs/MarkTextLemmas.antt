-- The lines of marks: each is told from every other, whatever follows it.
use Rattle.std.proofs.Common.{◌≡◌, ℕ, ◌+◌, Bool, true, false, List, [], ◌∷◌, ◌++◌, All, refl, append_assoc, lit<}
use Rattle.std.specs.Prelude.{codes, ◌==◌, if◌then◌else◌}
use Rattle.std.specs.Str.{bytes_eq}
use Rattle.hx_base.specs.declared.numbers.ThreadNo.{ThreadNo}
use Rattle.hx_base.specs.declared.numbers.SessionNo.{SessionNo}
use Rattle.hx_base.specs.declared.numbers.ConnId.{ConnId}
use Rattle.hx_base.specs.declared.numbers.PlaceNo.{PlaceNo}
use Rattle.hx_pool.specs.declared.entries.Entry.{Entry}
use Rattle.hx_pool.specs.declared.entries.Entry.TheVariants as entry
use Rattle.hx_script.specs.MarkLines.{round_line, mark_line}
use Rattle.hx_script.specs.PrintedForm.{IsToldMark}
use Rattle.hx_script.specs.Numbers.{IsNumber, mark_numbers}
use Rattle.hx_script.proofs.FormLemmas.{Value, number, name, a_number, a_name, Form, is_form, text, AreOf, IsLines, number_at, name_at}

-- a mark that is told, with numbers of the program
abbrev pub IsMark : Entry → Type 0
IsMark e = IsToldMark e × All IsNumber (mark_numbers e)

-- the first byte of a mark's line
abbrev initial : Entry → ℕ
initial (entry.Open t n id) = 111
initial (entry.Park t n id place uses) = 112
initial (entry.Take t n first place id uses) = 116
initial (entry.Close t n id) = 99
initial (entry.SetGate t draining) = 103
initial (entry.Round t k old) = 114
initial _ = 0

-- the rest of the first word
abbrev word_after : ℕ → List ℕ
word_after n =
    if n == 111 then codes "pen "
    else if n == 112 then codes "ark "
    else if n == 116 then codes "ake "
    else if n == 99 then codes "lose "
    else if n == 103 then codes "ate " else codes "ound "

-- a session and a connection, with that word behind
abbrev who_form : List ℕ → Form → Form
who_form word form = (a_number, codes ".") ∷ (a_number, codes " ") ∷ (a_number, word) ∷ form

-- then a place and uses
abbrev place_form : List ℕ → Form → Form
place_form word form = who_form (codes " ") ((a_number, codes ":") ∷ (a_number, codes " ") ∷ (a_number, word) ∷ form)

abbrev form_after : ℕ → Form
form_after n =
    if n == 112 then place_form (codes "\n") []
    else if n == 116 then place_form (codes " ") ((a_name, codes "\n") ∷ [])
    else if n == 103 then (a_number, codes " ") ∷ (a_name, codes "\n") ∷ []
    else if n == 114 then (a_number, codes " ") ∷ (a_number, codes " ") ∷ (a_number, codes "\n") ∷ []
    else who_form (codes "\n") []

abbrev first_word : Bool → List ℕ
first_word first = if first then codes "first" else codes "later"

abbrev gate_word : Bool → List ℕ
gate_word draining = if draining then codes "drain" else codes "ready"

abbrev mark_values : Entry → List Value
mark_values (entry.Open t n id) = number t.0 ∷ number n.0 ∷ number id.0 ∷ []
mark_values (entry.Park t n id place uses) = number t.0 ∷ number n.0 ∷ number id.0 ∷ number place.row ∷ number place.place ∷ number uses ∷ []
mark_values (entry.Take t n first place id uses) =
    number t.0 ∷ number n.0 ∷ number id.0 ∷ number place.row ∷ number place.place ∷ number uses ∷ name (first_word first) ∷ []
mark_values (entry.Close t n id) = number t.0 ∷ number n.0 ∷ number id.0 ∷ []
mark_values (entry.SetGate t draining) = number t.0 ∷ name (gate_word draining) ∷ []
mark_values (entry.Round t k old) = number t.0 ∷ number k ∷ number old ∷ []
mark_values _ = []

abbrev place_at : ℕ → List Value → PlaceNo
place_at k values = record { row = number_at k values; place = number_at (k + 1) values }

abbrev mark_back : ℕ → List Value → Entry
mark_back k vs =
    let t : ThreadNo = record { 0 = number_at 0 vs } in
    let n : SessionNo = record { 0 = number_at 1 vs } in
    let id : ConnId = record { 0 = number_at 2 vs } in
    if k == 111 then entry.Open t n id
    else if k == 112 then entry.Park t n id (place_at 3 vs) (number_at 5 vs)
    else if k == 116 then entry.Take t n (bytes_eq (name_at 6 vs) (codes "first")) (place_at 3 vs) id (number_at 5 vs)
    else if k == 99 then entry.Close t n id
    else if k == 103 then entry.SetGate t (bytes_eq (name_at 1 vs) (codes "drain"))
    else entry.Round t (number_at 1 vs) (number_at 2 vs)

mark_is : (e : Entry) (r : List ℕ) → IsMark e → mark_line e ++ r ≡ initial e ∷ word_after (initial e) ++ text (form_after (initial e)) (mark_values e) r
unfolding mark_line round_line
mark_is (entry.Open t n id) r ok = simp append_assoc
mark_is (entry.Park t n id place uses) r ok = simp append_assoc
mark_is (entry.Take t n true place id uses) r ok = simp append_assoc
mark_is (entry.Take t n false place id uses) r ok = simp append_assoc
mark_is (entry.Close t n id) r ok = simp append_assoc
mark_is (entry.SetGate t true) r ok = simp append_assoc
mark_is (entry.SetGate t false) r ok = simp append_assoc
mark_is (entry.Round t k old) r ok = simp append_assoc
mark_is e r ok = absurd ok.0

mark_formed : (e : Entry) → IsMark e → is_form (form_after (initial e)) ≡ true
mark_formed (entry.Open t n id) ok = refl
mark_formed (entry.Park t n id place uses) ok = refl
mark_formed (entry.Take t n first place id uses) ok = refl
mark_formed (entry.Close t n id) ok = refl
mark_formed (entry.SetGate t draining) ok = refl
mark_formed (entry.Round t k old) ok = refl
mark_formed e ok = absurd ok.0

mark_fits : (e : Entry) → IsMark e → AreOf (form_after (initial e)) (mark_values e)
mark_fits (entry.Open t n id) ok = (ok.1 0 0 (lit< tt), (ok.1 1 0 (lit< tt), (ok.1 2 0 (lit< tt), tt)))
mark_fits (entry.Park t n id place uses) ok =
    (ok.1 0 0 (lit< tt), (ok.1 1 0 (lit< tt), (ok.1 2 0 (lit< tt), (ok.1 3 0 (lit< tt), (ok.1 4 0 (lit< tt), (ok.1 5 0 (lit< tt), tt))))))
mark_fits (entry.Take t n true place id uses) ok =
    (ok.1 0 0 (lit< tt), (ok.1 1 0 (lit< tt), (ok.1 2 0 (lit< tt), (ok.1 3 0 (lit< tt), (ok.1 4 0 (lit< tt), (ok.1 5 0 (lit< tt), (refl, tt)))))))
mark_fits (entry.Take t n false place id uses) ok =
    (ok.1 0 0 (lit< tt), (ok.1 1 0 (lit< tt), (ok.1 2 0 (lit< tt), (ok.1 3 0 (lit< tt), (ok.1 4 0 (lit< tt), (ok.1 5 0 (lit< tt), (refl, tt)))))))
mark_fits (entry.Close t n id) ok = (ok.1 0 0 (lit< tt), (ok.1 1 0 (lit< tt), (ok.1 2 0 (lit< tt), tt)))
mark_fits (entry.SetGate t true) ok = (ok.1 0 0 (lit< tt), (refl, tt))
mark_fits (entry.SetGate t false) ok = (ok.1 0 0 (lit< tt), (refl, tt))
mark_fits (entry.Round t k old) ok = (ok.1 0 0 (lit< tt), (ok.1 1 0 (lit< tt), (ok.1 2 0 (lit< tt), tt)))
mark_fits e ok = absurd ok.0

mark_backed : (e : Entry) → IsMark e → mark_back (initial e) (mark_values e) ≡ e
mark_backed (entry.Open t n id) ok = refl
mark_backed (entry.Park t n id place uses) ok = refl
mark_backed (entry.Take t n true place id uses) ok = refl
mark_backed (entry.Take t n false place id uses) ok = refl
mark_backed (entry.Close t n id) ok = refl
mark_backed (entry.SetGate t true) ok = refl
mark_backed (entry.SetGate t false) ok = refl
mark_backed (entry.Round t k old) ok = refl
mark_backed e ok = absurd ok.0

pub mark_lines : IsLines IsMark mark_line
mark_lines = record { first = initial; word = word_after; form = form_after; values = mark_values; back = mark_back; is = mark_is; formed = mark_formed; fits = mark_fits; backed = mark_backed }
