-- Heads within the limits, and the bytes among which a head is looked for.
use Rattle.std.proofs.Common.{◌≡◌, ℕ, ◌+◌, ◌-◌, ◌≤◌, List, ◌++◌, length, take, drop, sym, ap, subst, ◌∙◌, arith, append_assoc}
use Rattle.std.proofs.lemmas.List.{length-append, take-append-le, take-append-drop}
use Rattle.std.proofs.Math.Seq.{take-append-add}
use Rattle.httparse.specs.Grammar.{RequestHead, ResponseHead, ReadsRequest, ReadsResponse, print_request, print_response}
use Rattle.httparse.proofs.GrammarLemmas.{ReadsRequest-append, ReadsResponse-append}
use Rattle.hx_message.specs.Limits.{head_limit, IsShort}
use Rattle.hx_head.specs.Reads.{front}

-- what follows the bytes among which a head is looked for
abbrev pub behind : List ℕ → List ℕ → List ℕ
behind bytes more = drop head_limit bytes ++ more

-- both are all bytes
pub front_behind : (bytes more : List ℕ) → front bytes ++ behind bytes more ≡ bytes ++ more
front_behind bytes more =
    sym (append_assoc (take head_limit bytes) (drop head_limit bytes) more)
    ∙ ap (λ (xs : List ℕ). xs ++ more) (take-append-drop head_limit bytes)

-- n bytes hold a text of at most n bytes that all begin with
text_in : (n : ℕ) (bytes more text rest : List ℕ) → bytes ++ more ≡ text ++ rest → length text ≤ n → n ≤ length bytes
    → take n bytes ≡ text ++ take (n - length text) rest
text_in n bytes more text rest is short enough =
    let size : n ≡ length text + (n - length text) = omega (arith, short) in
    sym (take-append-le n bytes more enough) ∙ ap (take n) is ∙ ap (λ (k : ℕ). take k (text ++ rest)) size
    ∙ take-append-add text rest (n - length text)

-- a short head has at most so many bytes
short_text : (bytes text rest : List ℕ) (n : ℕ) → bytes ≡ text ++ rest → IsShort bytes rest n → length text ≤ head_limit
short_text bytes text rest n is short = omega (arith, short.size, ap length is, length-append text rest)

-- ---- requests

-- a head among the bytes looked at is at the front of all
pub request_of_all : (bytes more rest : List ℕ) (g : RequestHead) → ReadsRequest (front bytes) g rest
    → ReadsRequest (bytes ++ more) g (rest ++ behind bytes more)
request_of_all bytes more rest g reads =
    subst (λ (xs : List ℕ). ReadsRequest xs g (rest ++ behind bytes more)) (front_behind bytes more)
    (ReadsRequest-append (front bytes) g rest (behind bytes more) reads)

-- a head of all bytes comes once more bytes follow those looked at
pub request_comes : (bytes more rest : List ℕ) (g : RequestHead) → ReadsRequest (bytes ++ more) g rest
    → ReadsRequest (front bytes ++ behind bytes more) g rest
request_comes bytes more rest g reads =
    subst (λ (xs : List ℕ). ReadsRequest xs g rest) (sym (front_behind bytes more)) reads

-- a short head is among the bytes looked at, if they are as many as a head may have
pub request_in_front : (bytes more rest : List ℕ) (g : RequestHead) (n : ℕ) → ReadsRequest (bytes ++ more) g rest
    → IsShort (bytes ++ more) rest n → head_limit ≤ length bytes → (r : List ℕ) × ReadsRequest (front bytes) g r
request_in_front bytes more rest g n reads short enough =
    let text = print_request g in (
      take (head_limit - length text) rest,
      (reads.0, text_in head_limit bytes more text rest reads.1 (short_text (bytes ++ more) text rest n reads.1 short) enough),
    )

-- ---- answers

-- a head among the bytes looked at is at the front of all
pub answer_of_all : (bytes more rest : List ℕ) (g : ResponseHead) → ReadsResponse (front bytes) g rest
    → ReadsResponse (bytes ++ more) g (rest ++ behind bytes more)
answer_of_all bytes more rest g reads =
    subst (λ (xs : List ℕ). ReadsResponse xs g (rest ++ behind bytes more)) (front_behind bytes more)
    (ReadsResponse-append (front bytes) g rest (behind bytes more) reads)

-- a head of all bytes comes once more bytes follow those looked at
pub answer_comes : (bytes more rest : List ℕ) (g : ResponseHead) → ReadsResponse (bytes ++ more) g rest
    → ReadsResponse (front bytes ++ behind bytes more) g rest
answer_comes bytes more rest g reads =
    subst (λ (xs : List ℕ). ReadsResponse xs g rest) (sym (front_behind bytes more)) reads

-- a short head is among the bytes looked at, if they are as many as a head may have
pub answer_in_front : (bytes more rest : List ℕ) (g : ResponseHead) (n : ℕ) → ReadsResponse (bytes ++ more) g rest
    → IsShort (bytes ++ more) rest n → head_limit ≤ length bytes → (r : List ℕ) × ReadsResponse (front bytes) g r
answer_in_front bytes more rest g n reads short enough =
    let text = print_response g in (
      take (head_limit - length text) rest,
      (reads.0, text_in head_limit bytes more text rest reads.1 (short_text (bytes ++ more) text rest n reads.1 short) enough),
    )
