-- Why a head that was read or wasn't read is what it is.
use Rattle.std.proofs.Common.{◌≡◌, ℕ, ◌<◌, ◌≤◌, List, length, take, ap, arith}
use Rattle.std.proofs.lemmas.List.{take_all, length-take, length-map}
use Rattle.httparse.specs.declared.spans.HeaderSpan.{HeaderSpan}
use Rattle.httparse.specs.declared.spans.RequestSpans.{RequestSpans}
use Rattle.httparse.specs.declared.spans.ResponseSpans.{ResponseSpans}
use Rattle.httparse.specs.Grammar.{Field}
use Rattle.httparse.specs.Spans.{IsRequestOf, IsResponseOf, AreFieldsAt, header_bytes, name_and_value}
use Rattle.hx_head.specs.Reads.{front}
use Rattle.hx_head.specs.Causes.{HasOldRequest, HasLowAnswer}

-- fewer bytes than the limit are their own front
pub front_all : (bytes : List ℕ) → length bytes < 16384 → front bytes ≡ bytes
front_all bytes few = take_all 16384 bytes (omega arith)

few_fields : (buf : List ℕ) (headers : List HeaderSpan) (count : ℕ) (fields : List Field) → AreFieldsAt buf headers count fields
    → length headers ≡ 100 → length fields ≤ 100
few_fields buf headers count fields at hundred =
    let left = length-map (take count headers) (header_bytes buf) in
    let right = length-map fields name_and_value in
    omega (arith, left, right, ap length at, hundred, length-take count headers)

pub old_request : (buf : List ℕ) (headers : List HeaderSpan) (r : RequestSpans) → IsRequestOf buf headers r → length headers ≡ 100
    → (r.version ≡ 1 → ⊥) → HasOldRequest buf
old_request buf headers r (g, at) hundred other =
    let minor : g.minor ≡ 0 = omega (arith, at.reads.0.minor, at.version, other) in
    (g, _, at.reads, minor, few_fields buf headers r.headers g.fields at.fields hundred)

pub low_answer : (buf : List ℕ) (headers : List HeaderSpan) (r : ResponseSpans) → IsResponseOf buf headers r → length headers ≡ 100
    → r.code < 100 → HasLowAnswer buf
low_answer buf headers r (g, at) hundred low =
    (g, _, at.reads, omega (arith, at.code, low), few_fields buf headers r.headers g.fields at.fields hundred)
