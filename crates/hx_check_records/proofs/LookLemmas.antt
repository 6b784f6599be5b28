-- Heads within the limits at the front of bytes.
use Rattle.std.proofs.Common.{◌≡◌, ◌⊎◌, ℕ, ◌-◌, ◌+◌, ◌≤◌, List, [], ◌++◌, length, take, drop, sym, ap, subst, ◌∙◌, inl, inr, arith, length-append}
use Rattle.std.proofs.lemmas.List.{take-append-drop, length-drop}
use Rattle.std.proofs.Math.Seq.{take-append-add}
use Rattle.httparse.specs.Grammar as grammar
use Rattle.httparse.specs.Grammar.{ReadsRequest, ReadsResponse, print_request, print_response, status_code}
use Rattle.httparse.proofs.GrammarLemmas.{response_unique, ReadsRequest-append, ReadsResponse-append}
use Rattle.hx_message.specs.Forwarded.{IsInterim, IsFinal}
use Rattle.hx_message.specs.Limits.{IsShort}
use Rattle.hx_head.specs.declared.head.RequestHead.{RequestHead}
use Rattle.hx_head.specs.declared.head.AnswerHead.{AnswerHead}
use Rattle.hx_head.specs.Heads.{IsRequestAt, IsAnswerAt}
use Rattle.hx_message.specs.Limits.{head_limit}
use Rattle.hx_session_parts.proofs.GrowthLemmas.{few_fields, few_answer_fields}
use Rattle.hx_check_records.specs.Looks.{RequestStands, AnswerStands, NoAnswerStands}

-- a text of at most n bytes is among the first n
text_in : (n : ℕ) (bytes text rest : List ℕ) → bytes ≡ text ++ rest → length text ≤ n
    → take n bytes ≡ text ++ take (n - length text) rest
text_in n bytes text rest is short =
    let size : n ≡ length text + (n - length text) = omega (arith, short) in
    ap (take n) is ∙ ap (λ (k : ℕ). take k (text ++ rest)) size ∙ take-append-add text rest (n - length text)

short_text : (bytes text rest : List ℕ) (n : ℕ) → bytes ≡ text ++ rest → IsShort bytes rest n → length text ≤ head_limit
short_text bytes text rest n is short = omega (arith, short.size, ap length is, length-append text rest)

pub request_in_front : (bytes rest : List ℕ) (g : grammar.RequestHead) (n : ℕ) → ReadsRequest bytes g rest → IsShort bytes rest n
    → (r : List ℕ) × ReadsRequest (take head_limit bytes) g r
request_in_front bytes rest g n reads short =
    let text = print_request g in
    (take (head_limit - length text) rest, (reads.0, text_in head_limit bytes text rest reads.1 (short_text bytes text rest n reads.1 short)))

pub answer_in_front : (bytes rest : List ℕ) (g : grammar.ResponseHead) (n : ℕ) → ReadsResponse bytes g rest → IsShort bytes rest n
    → (r : List ℕ) × ReadsResponse (take head_limit bytes) g r
answer_in_front bytes rest g n reads short =
    let text = print_response g in
    (take (head_limit - length text) rest, (reads.0, text_in head_limit bytes text rest reads.1 (short_text bytes text rest n reads.1 short)))

pub request_stands : (bytes : List ℕ) (h : RequestHead) (g : grammar.RequestHead) → IsRequestAt bytes h g → h.length ≤ head_limit
    → RequestStands bytes h g
request_stands bytes h g at most = record {
  at = at;
  most = most;
  begins = record {
    reads = subst (λ (xs : List ℕ). ReadsRequest xs g (drop h.length bytes)) (take-append-drop h.length bytes)
        (ReadsRequest-append (take h.length bytes) g [] (drop h.length bytes) at.reads);
    version = at.version;
  };
  short = record {
    size = omega (arith, at.there, most, length-drop h.length bytes);
    fields_few = few_fields bytes h g at;
  };
}

pub answer_stands : (bytes : List ℕ) (h : AnswerHead) (g : grammar.ResponseHead) → IsAnswerAt bytes h g → h.length ≤ head_limit
    → AnswerStands bytes h g
answer_stands bytes h g at most = record {
  at = at;
  most = most;
  reads = subst (λ (xs : List ℕ). ReadsResponse xs g (drop h.length bytes)) (take-append-drop h.length bytes)
      (ReadsResponse-append (take h.length bytes) g [] (drop h.length bytes) at.reads);
  short = record {
    size = omega (arith, at.there, most, length-drop h.length bytes);
    fields_few = few_answer_fields bytes h g at;
  };
}

-- a head of status 101 is neither
pub changes_none : (bytes : List ℕ) (h : AnswerHead) (g : grammar.ResponseHead) → AnswerStands bytes h g → h.status ≡ 101
    → NoAnswerStands bytes
changes_none bytes h g stands is k body reads (inl interim) short =
    let u = response_unique bytes k g body (drop h.length bytes) reads stands.reads in
    interim.2 (ap status_code u.0 ∙ sym stands.at.status ∙ is)
changes_none bytes h g stands is k body reads (inr final) short =
    let u = response_unique bytes k g body (drop h.length bytes) reads stands.reads in
    omega (arith, final, ap status_code u.0, stands.at.status, is)

-- the least status of such a head
pub least : (g : grammar.ResponseHead) → IsInterim g ⊎ IsFinal g → 100 ≤ status_code g
least g (inl interim) = interim.0
least g (inr final) = omega (arith, final)
