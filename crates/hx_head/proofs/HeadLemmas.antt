-- The ranges that the parser answers for the front are the ranges in all the bytes.
use Rattle.std.proofs.Common.{◌≡◌, ℕ, ◌+◌, ◌<◌, ◌≤◌, List, [], ◌∷◌, ◌++◌, length, take, drop, map, All, get_or, set, refl, sym, ap, ◌∙◌, arith}
use Rattle.std.specs.List.{slice_range}
use Rattle.std.proofs.lemmas.List.{take_more_set, map_more, take-take, take_at, take-map, append-nil, length-take}
use Rattle.std.proofs.lemmas.List.Elements.{All-map, All-head, All-tail}
use Rattle.std.proofs.lemmas.Slice.{between_is}
use Rattle.httparse.specs.declared.spans.HeaderSpan.{HeaderSpan}
use Rattle.httparse.specs.declared.spans.RequestSpans.{RequestSpans}
use Rattle.httparse.specs.declared.spans.ResponseSpans.{ResponseSpans}
use Rattle.httparse.specs.Grammar as grammar
use Rattle.httparse.specs.Grammar.{ReadsRequest, print_request, print_response}
use Rattle.httparse.specs.Spans as spans
use Rattle.httparse.specs.Spans.{IsRequestWithin, IsResponseWithin, IsHeaderWithin, IsWithin, header_bytes, name_and_value, span_bytes}
use Rattle.hx_message.specs.Body.{kind_of_method}
use Rattle.hx_message.specs.declared.MethodKind.{MethodKind}
use Rattle.hx_head.specs.declared.head.FieldSpan.{FieldSpan}
use Rattle.hx_head.specs.Heads.{span_of, field_of, IsFieldIn, field_in, IsRequestAt, IsAnswerAt}
use Rattle.hx_head.specs.Reads.{front}

-- a range that lies in the first n bytes has the same bytes in a front that is longer
pub range_in_front : (bytes : List ℕ) (a b n : ℕ) → b ≤ n → slice_range (take n bytes) a b ≡ slice_range bytes a b
range_in_front bytes a b n le =
    between_is (take n bytes) a b ∙ ap (drop a) (take-take b n bytes le) ∙ sym (between_is bytes a b)

pub fields_in_front : (bytes : List ℕ) (n len : ℕ) (hs : List HeaderSpan) → len ≤ n → All (IsHeaderWithin len) hs
    → map (field_in bytes) (map field_of hs) ≡ map (header_bytes (take n bytes)) hs
fields_in_front bytes n len [] le fit = refl
fields_in_front bytes n len (h ∷ hs) le fit =
    let here : IsHeaderWithin len h = All-head (IsHeaderWithin len) h hs fit in
    let name = range_in_front bytes h.name.start h.name.end n (omega (arith, here)) in
    let value = range_in_front bytes h.value.start h.value.end n (omega (arith, here)) in
    let rest = fields_in_front bytes n len hs le (All-tail (IsHeaderWithin len) h hs fit) in
    rw (name, value) (ap (λ (fs : List (List ℕ × List ℕ)). field_in bytes (field_of h) ∷ fs) rest)

-- the bytes of a head that stands at the front
pub read_whole : (bytes text rest : List ℕ) (n len : ℕ) → len ≤ n → len ≡ length text → take n bytes ≡ text ++ rest → take len bytes ≡ text ++ []
read_whole bytes text rest n len le is e =
    sym (take-take len n bytes le) ∙ ap (take len) e ∙ take_at text rest len (sym is) ∙ sym (append-nil text)

pub request_at : (bytes : List ℕ) (headers : List HeaderSpan) (r : RequestSpans) (g : grammar.RequestHead) (kind : MethodKind)
    → length headers ≡ 100 → IsRequestWithin (front bytes) headers r → spans.IsRequestAt (front bytes) headers r g → r.version ≡ 1
    → kind ≡ kind_of_method (slice_range (front bytes) r.method.start r.method.end)
    → IsRequestAt bytes (record { method = kind; word = span_of r.method; target = span_of r.path; fields = map field_of headers; count = r.headers; length = r.len }) g
request_at bytes headers r g kind hundred within at version kind_is =
    let short : r.len ≤ 16384 = omega (arith, within.section.len_fits, length-take 16384 bytes) in
    let there : r.len ≤ length bytes = omega (arith, within.section.len_fits, length-take 16384 bytes) in
    let front_fields = fields_in_front bytes 16384 r.len (take r.headers headers) short within.section.headers_fit in
    record {
      there = there;
      reads = (at.reads.0, read_whole bytes (print_request g) (drop r.len (front bytes)) 16384 r.len short at.len at.reads.1);
      version = sym at.version ∙ version;
      kind = kind_is ∙ ap kind_of_method at.method;
      word_in = within.method;
      word = sym (range_in_front bytes r.method.start r.method.end 16384 (omega (arith, within.method, short))) ∙ at.method;
      target_in = within.path;
      target = sym (range_in_front bytes r.path.start r.path.end 16384 (omega (arith, within.path, short))) ∙ at.path;
      count = omega (arith, within.section.count_fits, hundred);
      fields_in = rw take-map (All-map (IsFieldIn r.len) field_of (take r.headers headers) within.section.headers_fit);
      fields = ap (map (field_in bytes)) (take-map field_of r.headers headers) ∙ front_fields ∙ at.fields;
    }

-- one more field is copied
pub one_more_field : (hs : List HeaderSpan) (fs : List FieldSpan) (i : ℕ) (f : FieldSpan) → i < length hs → length fs ≡ length hs
    → f ≡ field_of (get_or hs i (record { name = record { start = 0; end = 0 }; value = record { start = 0; end = 0 } }))
    → take i fs ≡ map field_of (take i hs) → take (i + 1) (set fs i f) ≡ map field_of (take (i + 1) hs)
one_more_field hs fs i f lt same is so_far =
    let there : i < length fs = omega arith in
    let none : HeaderSpan = record { name = record { start = 0; end = 0 }; value = record { start = 0; end = 0 } } in
    let wrote = take_more_set fs i f there in
    let more = map_more field_of hs i none lt in
    wrote ∙ ap (λ (xs : List FieldSpan). xs ++ f ∷ []) so_far ∙ ap (λ (x : FieldSpan). map field_of (take i hs) ++ x ∷ []) is ∙ sym more

pub answer_at : (bytes : List ℕ) (headers : List HeaderSpan) (r : ResponseSpans) (g : grammar.ResponseHead)
    → length headers ≡ 100 → IsResponseWithin (front bytes) headers r → spans.IsResponseAt (front bytes) headers r g → 100 ≤ r.code
    → IsAnswerAt bytes (record { minor = r.version; status = r.code; reason = span_of r.reason; fields = map field_of headers; count = r.headers; length = r.len }) g
answer_at bytes headers r g hundred within at least =
    let short : r.len ≤ 16384 = omega (arith, within.section.len_fits, length-take 16384 bytes) in
    let there : r.len ≤ length bytes = omega (arith, within.section.len_fits, length-take 16384 bytes) in
    let front_fields = fields_in_front bytes 16384 r.len (take r.headers headers) short within.section.headers_fit in
    record {
      there = there;
      reads = (at.reads.0, read_whole bytes (print_response g) (drop r.len (front bytes)) 16384 r.len short at.len at.reads.1);
      version = at.version;
      status = at.code;
      least = least;
      reason_in = within.reason;
      reason = sym (range_in_front bytes r.reason.start r.reason.end 16384 (omega (arith, within.reason, short))) ∙ at.reason;
      count = omega (arith, within.section.count_fits, hundred);
      fields_in = rw take-map (All-map (IsFieldIn r.len) field_of (take r.headers headers) within.section.headers_fit);
      fields = ap (map (field_in bytes)) (take-map field_of r.headers headers) ∙ front_fields ∙ at.fields;
    }
