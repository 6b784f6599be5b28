-- A head goes out with at most two bytes more a field, and a few more.
use Rattle.std.proofs.Common.{◌≡◌, ℕ, ◌+◌, ◌*◌, ◌<◌, ◌≤◌, List, [], ◌∷◌, ◌++◌, length, reverse, filter, Bool, true, false, ap, arith, subst, if◌then◌else◌, Result, Err}
use Rattle.std.specs.Prelude.{Some, None, Option, codes, take}
use Rattle.std.specs.List.{flat_map}
use Rattle.std.proofs.lemmas.List.{length-append, length-reverse, length-map, length-take}
use Rattle.httparse.specs.Ascii.{space, colon, crlf_bytes}
use Rattle.httparse.specs.Grammar.{RequestHead, ResponseHead, Field, LineEnd, is_ows, skip_ows, trim_ows, print_end, print_blank, print_version, print_field, print_section, print_reason, reason_phrase, print_request, print_response, field_value}
use Rattle.httparse.specs.Grammar.LineEnd.{crlf, lf}
use Rattle.httparse.specs.Spans.{name_and_value}
use Rattle.hx_message.specs.Fields.{NameAndValue, read_fields, goes_on, staying}
use Rattle.hx_message.specs.Forwarded.{field_line, closing_line, forwarded_request, forwarded_answer}
use Rattle.hx_head.specs.declared.head.RequestHead as request
use Rattle.hx_head.specs.declared.head.AnswerHead as answer
use Rattle.hx_head.specs.declared.forward.NoRoom.{NoRoom}
use Rattle.hx_message.specs.Limits.{head_limit, field_limit}
use Rattle.hx_head.specs.Writes.{Puts, WritesRequest, WritesAnswer}
use Rattle.hx_head.specs.Heads.{IsRequestAt, IsAnswerAt, field_in}
use Rattle.hx_session_parts.specs.Asks.{most_text}

skipped : (xs : List ℕ) → length (skip_ows xs) ≤ length xs
skipped [] = omega arith
skipped (b ∷ xs) = by_test (is_ows b) (skipped xs) where
  by_test : (t : Bool) → length (skip_ows xs) ≤ length xs → length (if t then skip_ows xs else b ∷ xs) ≤ length (b ∷ xs)
  by_test true less = omega (arith, less)
  by_test false less = omega arith

trimmed : (xs : List ℕ) → length (trim_ows xs) ≤ length xs
unfolding trim_ows
trimmed xs =
    let inner = skip_ows xs in
    omega (arith, skipped xs, length-reverse inner, skipped (reverse inner), length-reverse (skip_ows (reverse inner)))

end_some : (e : LineEnd) → 1 ≤ length (print_end e)
end_some crlf = omega arith
end_some lf = omega arith

line_grows : (f : Field) → length (field_line (name_and_value f)) ≤ length (print_field f) + 2
line_grows f =
    let v = field_value f in
    omega (
      arith,
      trimmed f.raw,
      end_some f.end,
      length-append (f.name ++ colon ∷ f.raw) (print_end f.end),
      length-append f.name (colon ∷ f.raw),
      length-append (f.name ++ colon ∷ space ∷ v) crlf_bytes,
      length-append f.name (colon ∷ space ∷ v),
    )

lines_grow : (fields : List Field) → length (flat_map field_line (read_fields fields)) ≤ length (flat_map print_field fields) + 2 * length fields
lines_grow [] = omega arith
lines_grow (f ∷ fields) =
    omega (
      arith,
      line_grows f,
      lines_grow fields,
      length-append (field_line (name_and_value f)) (flat_map field_line (read_fields fields)),
      length-append (print_field f) (flat_map print_field fields),
    )

kept_lines : (test : NameAndValue → Bool) (fields : List NameAndValue) → length (flat_map field_line (filter test fields)) ≤ length (flat_map field_line fields)
kept_lines test [] = omega arith
kept_lines test (f ∷ fields) = by_test (test f) (kept_lines test fields) where
  by_test : (t : Bool) → length (flat_map field_line (filter test fields)) ≤ length (flat_map field_line fields)
      → length (flat_map field_line (if t then f ∷ filter test fields else filter test fields)) ≤ length (flat_map field_line (f ∷ fields))
  by_test true less = omega (arith, less, length-append (field_line f) (flat_map field_line (filter test fields)), length-append (field_line f) (flat_map field_line fields))
  by_test false less = omega (arith, less, length-append (field_line f) (flat_map field_line fields))

staying_grow : (fields : List Field) → length (flat_map field_line (staying (read_fields fields))) ≤ length (flat_map print_field fields) + 2 * length fields
unfolding staying
staying_grow fields = omega (arith, kept_lines (goes_on (read_fields fields)) (read_fields fields), lines_grow fields)

section_is : (fields : List Field) (last : LineEnd) → length (flat_map print_field fields) + 1 ≤ length (print_section fields last)
section_is fields last = omega (arith, end_some last, length-append (flat_map print_field fields) (print_end last))

request_grows : (g : RequestHead) → length (forwarded_request g) ≤ length (print_request g) + 2 * length g.fields + 2
unfolding print_request forwarded_request
request_grows g =
    let kept = flat_map field_line (staying (read_fields g.fields)) in
    let line : List ℕ = g.method ++ space ∷ g.target in
    let blank : List ℕ = print_blank g.blank ++ g.method in
    let read : List ℕ = blank ++ space ∷ g.target in
    let whole : List ℕ = read ++ space ∷ print_version g.minor in
    omega (
      arith,
      staying_grow g.fields,
      section_is g.fields g.last,
      end_some g.line_end,
      length-append (line ++ codes " HTTP/1.1\r\n" ++ kept) crlf_bytes,
      length-append (line ++ codes " HTTP/1.1\r\n") kept,
      length-append line (codes " HTTP/1.1\r\n"),
      length-append g.method (space ∷ g.target),
      length-append (whole ++ print_end g.line_end) (print_section g.fields g.last),
      length-append whole (print_end g.line_end),
      length-append read (space ∷ print_version g.minor),
      length-append blank (space ∷ g.target),
      length-append (print_blank g.blank) g.method,
      length-append (codes "HTTP/1.") ((48 + g.minor) ∷ []),
    )

reason_grows : (r : Option (List ℕ)) → length (reason_phrase r) ≤ length (print_reason r)
reason_grows None = omega arith
reason_grows (Some phrase) = omega arith

closing_short : (closing : Bool) → length (closing_line closing) ≤ 19
closing_short true = omega arith
closing_short false = omega arith

answer_grows : (g : ResponseHead) (closing : Bool) → length (forwarded_answer g closing) ≤ length (print_response g) + 2 * length g.fields + 22
unfolding print_response forwarded_answer
answer_grows g closing =
    let kept = flat_map field_line (staying (read_fields g.fields)) in
    let phrase = reason_phrase g.reason in
    let close = closing_line closing in
    let code : List ℕ = codes "HTTP/1.1 " ++ g.digits in
    let line : List ℕ = code ++ space ∷ phrase ++ crlf_bytes in
    let blank : List ℕ = print_blank g.blank ++ print_version g.minor in
    let read : List ℕ = blank ++ space ∷ g.digits in
    let whole : List ℕ = read ++ print_reason g.reason in
    omega (
      arith,
      staying_grow g.fields,
      section_is g.fields g.last,
      end_some g.line_end,
      reason_grows g.reason,
      closing_short closing,
      length-append (line ++ kept ++ close) crlf_bytes,
      length-append (line ++ kept) close,
      length-append line kept,
      length-append (code ++ space ∷ phrase) crlf_bytes,
      length-append code (space ∷ phrase),
      length-append (codes "HTTP/1.1 ") g.digits,
      length-append (whole ++ print_end g.line_end) (print_section g.fields g.last),
      length-append whole (print_end g.line_end),
      length-append read (print_reason g.reason),
      length-append blank (space ∷ g.digits),
      length-append (print_blank g.blank) (print_version g.minor),
      length-append (codes "HTTP/1.") ((48 + g.minor) ∷ []),
    )

-- the fields that are read are as many as those of the head, at most 100
pub few_fields : (bytes : List ℕ) (h : request.RequestHead) (g : RequestHead) → IsRequestAt bytes h g → length g.fields ≤ field_limit
few_fields bytes h g at =
    omega (arith, ap length at.fields, length-map g.fields name_and_value, length-map (take h.count h.fields) (field_in bytes), length-take h.count h.fields, at.count)

pub few_answer_fields : (bytes : List ℕ) (h : answer.AnswerHead) (g : ResponseHead) → IsAnswerAt bytes h g → length g.fields ≤ field_limit
few_answer_fields bytes h g at =
    omega (arith, ap length at.fields, length-map g.fields name_and_value, length-map (take h.count h.fields) (field_in bytes), length-take h.count h.fields, at.count)

-- a head of at most 16,384 bytes goes out in at most 18,432
pub request_fits : (bytes : List ℕ) (h : request.RequestHead) (g : RequestHead) → IsRequestAt bytes h g → h.length ≤ head_limit → length (forwarded_request g) ≤ most_text
request_fits bytes h g at short =
    omega (arith, short, few_fields bytes h g at, request_grows g, ap length at.reads.1, length-append (print_request g) [], length-take h.length bytes)

pub answer_fits : (bytes : List ℕ) (h : answer.AnswerHead) (g : ResponseHead) (closing : Bool) → IsAnswerAt bytes h g → h.length ≤ head_limit → length (forwarded_answer g closing) ≤ most_text
answer_fits bytes h g closing at short =
    omega (arith, short, few_answer_fields bytes h g at, answer_grows g closing, ap length at.reads.1, length-append (print_response g) [], length-take h.length bytes)

-- ---- so a room that is too short for its text is shorter than that

pub request_room : (bytes : List ℕ) (h : request.RequestHead) (old new : List ℕ) (r : Result ℕ NoRoom) (e : NoRoom) → r ≡ Err e
    → WritesRequest bytes h old new r → (g : RequestHead) → IsRequestAt bytes h g → h.length ≤ head_limit → length old < most_text
request_room bytes h old new r e is writes g at short =
    let put = subst (λ (x : Result ℕ NoRoom). Puts (forwarded_request g) old new x) is (writes g at) in
    omega (arith, put.1, request_fits bytes h g at short)

pub answer_room : (bytes : List ℕ) (h : answer.AnswerHead) (closing : Bool) (old new : List ℕ) (r : Result ℕ NoRoom) (e : NoRoom) → r ≡ Err e
    → WritesAnswer bytes h closing old new r → (g : ResponseHead) → IsAnswerAt bytes h g → h.length ≤ head_limit → length old < most_text
answer_room bytes h closing old new r e is writes g at short =
    let put = subst (λ (x : Result ℕ NoRoom). Puts (forwarded_answer g closing) old new x) is (writes g at) in
    omega (arith, put.1, answer_fits bytes h g closing at short)
