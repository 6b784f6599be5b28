-- The text that is written by ranges is the text of the head.
use Rattle.std.proofs.Common.{◌≡◌, ℕ, ◌+◌, ◌<◌, ◌≤◌, List, [], ◌∷◌, ◌++◌, length, take, drop, map, filter, All, get_or, ◌^◌, refl, sym, ap, ◌∙◌, append_assoc, arith, rules, length-append}
use Rattle.std.proofs.lemmas.Bool.Decides.{nat_tests}
use Rattle.std.specs.Prelude.{codes, decimal, Bool}
use Rattle.std.specs.List.{flat_map}
use Rattle.std.specs.Prelude.{IsTrue}
use Rattle.std.specs.Char.{is_ascii_digit}
use Rattle.std.specs.Int.{IsInRange}
use Rattle.std.specs.Str.Parse.{digits_value}
use Rattle.std.proofs.lemmas.Str.Parse.{IsNumeralModel, numerals_by_value, tells_by_index, digits_value_short}
use Rattle.std.proofs.lemmas.Fmt.{decimal-digits_value}
use Rattle.std.proofs.lemmas.List.Folds.{flat_map-map}
use Rattle.std.proofs.lemmas.List.Elements.{All-head, All-tail, All-get_or}
use Rattle.httparse.specs.Ascii.{space, crlf_bytes}
use Rattle.httparse.specs.Grammar as grammar
use Rattle.hx_base.specs.Spans.{bytes_in}
use Rattle.hx_message.specs.Fields.{NameAndValue, read_fields, goes_on, staying}
use Rattle.hx_message.specs.Forwarded.{field_line, forwarded_request, forwarded_answer, closing_line}
use Rattle.hx_head.specs.declared.head.FieldSpan.{FieldSpan}
use Rattle.hx_head.specs.declared.head.RequestHead.{RequestHead}
use Rattle.hx_head.specs.declared.head.AnswerHead.{AnswerHead}
use Rattle.hx_head.specs.Heads.{IsFieldIn, field_in, IsRequestAt, IsAnswerAt}
use Rattle.hx_head.specs.Staying.{stays_in}
use Rattle.hx_head.specs.Writes.{IsWritten, lines_of, request_text, answer_text}
use Rattle.hx_head.proofs.HeadLemmas.{range_in_front}
use Rattle.hx_head.proofs.StayingLemmas.{map-filter}

-- the pieces, one after the other
pub request_pieces : (bytes : List ℕ) (h : RequestHead) (fields : List FieldSpan)
    → ((((([] ++ bytes_in bytes h.word) ++ space ∷ []) ++ bytes_in bytes h.target) ++ codes " HTTP/1.1\r\n") ++ lines_of bytes fields) ++ crlf_bytes
    ≡ request_text bytes h fields
unfolding request_text
request_pieces bytes h fields = simp append_assoc

pub request_length : (bytes : List ℕ) (h : RequestHead) (fields : List FieldSpan)
    → length (request_text bytes h fields) ≡ length (bytes_in bytes h.word) + length (bytes_in bytes h.target) + length (lines_of bytes fields) + 14
unfolding request_text
request_length bytes h fields = simp length-append (omega arith)

pub nothing_written : (out : List ℕ) → IsWritten out [] out 0
nothing_written out = record { out_is = refl; at_is = refl; fits = omega arith }

-- all that is written
pub all_written : (start text out : List ℕ) (at : ℕ) → IsWritten start text out at
    → (at ≡ length text) × (length text ≤ length start) × (out ≡ text ++ drop at start)
all_written start text out at w = (w.at_is, omega (arith, w.at_is, w.fits), w.out_is)

fields_same : (bytes : List ℕ) (n : ℕ) (fs : List FieldSpan) → All (IsFieldIn n) fs → map (field_in (take n bytes)) fs ≡ map (field_in bytes) fs
fields_same bytes n [] fit = refl
fields_same bytes n (f ∷ fs) fit =
    let here : IsFieldIn n f = All-head (IsFieldIn n) f fs fit in
    let name = range_in_front bytes f.name.from f.name.to n (omega (arith, here)) in
    let value = range_in_front bytes f.value.from f.value.to n (omega (arith, here)) in
    let rest = fields_same bytes n fs (All-tail (IsFieldIn n) f fs fit) in
    rw (name, value) (ap (λ (xs : List NameAndValue). field_in bytes f ∷ xs) rest)

-- the fields that go on by their ranges are those of the head
staying_is : (bytes : List ℕ) (n : ℕ) (spans : List FieldSpan) (fields : List grammar.Field) → All (IsFieldIn n) spans
    → map (field_in bytes) spans ≡ read_fields fields
    → lines_of (take n bytes) (filter (stays_in (take n bytes) spans) spans) ≡ flat_map field_line (staying (read_fields fields))
unfolding staying
staying_is bytes n spans fields fit are =
    let all : map (field_in (take n bytes)) spans ≡ read_fields fields = fields_same bytes n spans fit ∙ are in
    let kept = map-filter (field_in (take n bytes)) (goes_on (map (field_in (take n bytes)) spans)) spans in
    sym (flat_map-map field_line (field_in (take n bytes)) (filter (stays_in (take n bytes) spans) spans))
    ∙ ap (flat_map field_line) (kept ∙ ap (λ (xs : List NameAndValue). filter (goes_on xs) xs) all)

pub forwarded_is : (bytes : List ℕ) (h : RequestHead) (g : grammar.RequestHead) → IsRequestAt bytes h g
    → request_text (take h.length bytes) h (filter (stays_in (take h.length bytes) (take h.count h.fields)) (take h.count h.fields)) ≡ forwarded_request g
unfolding request_text forwarded_request
forwarded_is bytes h g at =
    let word : bytes_in (take h.length bytes) h.word ≡ g.method = range_in_front bytes h.word.from h.word.to h.length (omega (arith, at.word_in)) ∙ at.word in
    let target : bytes_in (take h.length bytes) h.target ≡ g.target = range_in_front bytes h.target.from h.target.to h.length (omega (arith, at.target_in)) ∙ at.target in
    let lines = staying_is bytes h.length (take h.count h.fields) g.fields at.fields_in at.fields in
    rw (word, target, lines) refl

-- the pieces of an answer head
pub answer_pieces : (bytes : List ℕ) (h : AnswerHead) (fields : List FieldSpan) (closing : Bool)
    → ((((((([] ++ codes "HTTP/1.1 ") ++ decimal h.status) ++ space ∷ []) ++ bytes_in bytes h.reason) ++ crlf_bytes) ++ lines_of bytes fields) ++ closing_line closing) ++ crlf_bytes
    ≡ answer_text bytes h fields closing
unfolding answer_text
answer_pieces bytes h fields closing =
    ap (λ (front : List ℕ). (((front ++ crlf_bytes) ++ lines_of bytes fields) ++ closing_line closing) ++ crlf_bytes)
    (append_assoc (codes "HTTP/1.1 " ++ decimal h.status) (space ∷ []) (bytes_in bytes h.reason))

pub answer_length : (bytes : List ℕ) (h : AnswerHead) (fields : List FieldSpan) (closing : Bool)
    → length (answer_text bytes h fields closing)
    ≡ length (decimal h.status) + length (bytes_in bytes h.reason) + length (lines_of bytes fields) + length (closing_line closing) + 14
unfolding answer_text
answer_length bytes h fields closing = simp length-append (omega arith)

abbrev Digits : List ℕ → Type 0
Digits ds = (i : ℕ) → i < length ds → IsInRange 48 57 (get_or ds i 0)

own : IsNumeralModel Digits (digits_value 10)
own = numerals_by_value Digits tells_by_index

digit_in : (b : ℕ) → IsTrue (is_ascii_digit b) → IsInRange 48 57 b
digit_in b d = search (rules, nat_tests)

in_range : (ds : List ℕ) → grammar.AllPass is_ascii_digit ds → Digits ds
in_range ds all i lt = digit_in (get_or ds i 0) (All-get_or (λ b. IsTrue (is_ascii_digit b)) ds i 0 lt all)

below_thousand : (ds : List ℕ) → length ds ≡ 3 → Digits ds → digits_value 10 ds < 1000
below_thousand ds three all = let lt = digits_value_short own ds 3 all (omega arith) in omega (arith, lt)

no_zero : (ds : List ℕ) → length ds ≡ 3 → grammar.AllPass is_ascii_digit ds → 100 ≤ digits_value 10 ds → get_or ds 0 0 ≡ 48 → ⊥
no_zero [] three all least first = absurd (omega (arith, three))
no_zero (d ∷ ds) three all least first =
    let rest = in_range ds (All-tail (λ b. IsTrue (is_ascii_digit b)) d ds all) in
    let lt : digits_value 10 ds < 10 ^ 2 = digits_value_short own ds 2 rest (omega (arith, three)) in
    let same : digits_value 10 (d ∷ ds) ≡ digits_value 10 ds = ap (λ (x : ℕ). digits_value 10 (x ∷ ds)) first in
    omega (arith, lt, same, least)

e-decimal : (ds : List ℕ) (n : ℕ) → n ≡ digits_value 10 ds → Digits ds → 0 < length ds → (get_or ds 0 0 ≡ 48 → length ds ≡ 1) → n < 1000 → decimal n ≡ ds
e-decimal ds n e all some first small = ap decimal e ∙ decimal-digits_value own ds all some first (omega (arith, e, small))

-- the three digits are those of the status
pub status_digits : (g : grammar.ResponseHead) (status : ℕ) → grammar.IsResponseHead g → status ≡ grammar.status_code g → 100 ≤ status → decimal status ≡ g.digits
status_digits g status is e least =
    let by_index = in_range g.digits is.digits.1 in
    e-decimal g.digits status e by_index (omega (arith, is.digits.0))
    (λ zero-first. absurd (no_zero g.digits is.digits.0 is.digits.1 (omega (arith, e, least)) zero-first)) (omega (arith, e, below_thousand g.digits is.digits.0 by_index))

pub forwarded_answer_is : (bytes : List ℕ) (h : AnswerHead) (closing : Bool) (g : grammar.ResponseHead) → IsAnswerAt bytes h g
    → answer_text (take h.length bytes) h (filter (stays_in (take h.length bytes) (take h.count h.fields)) (take h.count h.fields)) closing ≡ forwarded_answer g closing
unfolding answer_text forwarded_answer
forwarded_answer_is bytes h closing g at =
    let digits : decimal h.status ≡ g.digits = status_digits g h.status at.reads.0 at.status at.least in
    let reason : bytes_in (take h.length bytes) h.reason ≡ grammar.reason_phrase g.reason = range_in_front bytes h.reason.from h.reason.to h.length (omega (arith, at.reason_in)) ∙ at.reason in
    let lines = staying_is bytes h.length (take h.count h.fields) g.fields at.fields_in at.fields in
    rw (digits, reason, lines) refl
