-- The samples of a cut exchange and of an own answer are true, and what is wrong in one place is refused.
use Rattle.std.proofs.Common.{◌≡◌, ℕ, false, List, [], ◌∷◌, ◌++◌, length, take, drop, Some, Ok, refl, sym, ap, ◌∙◌, subst, arith, lit≤, lit<, inl, inr, ⊎_elim, get_or, length-append, take-append-drop, append-nil}
use Rattle.std.specs.Prelude.{codes}
use Rattle.std.specs.Fmt.{digits}
use Rattle.std.specs.Char.{is_ascii_digit}
use Rattle.std.proofs.lemmas.List.Elements.{All-nil, All-cons}
use Rattle.std.proofs.lemmas.List.Sums.{AllPass-from_list_all}
use Rattle.httparse.specs.Grammar.{is_token_byte, is_value_byte, trim_ows, Field, IsField, crlf, RequestHead, ResponseHead, ReadsResponse, print_response, status_code}
use Rattle.httparse.proofs.GrammarLemmas.{request_unique, response_unique, ReadsResponse-append}
use Rattle.hx_message.specs.declared.BodyKind.{BodyKind}
use Rattle.hx_message.specs.declared.BodyKind.TheVariants.{Length}
use Rattle.hx_message.specs.declared.MethodKind.{MethodKind}
use Rattle.hx_message.specs.declared.MethodKind.TheVariants.{Other}
use Rattle.hx_message.specs.Fields.{connection_options, is_of_connection, is_kept, goes_on, staying}
use Rattle.hx_message.specs.Forwarded.{IsInterim, BeginsInterims, ForwardsAnswer, forwarded_answer}
use Rattle.hx_message.specs.Body.{kind_of_method, Framed, answer_kind, IsBody}
use Rattle.hx_message.specs.Partial.{HasWholeAnswer, HasShortAnswer, EndsAnswer, BeginsForwardedAnswer}
use Rattle.hx_message.proofs.Unique.{prefix_begins}
use Rattle.hx_message.specs.OwnAnswer.{HasReason, bad_request, timeout, too_large, not_implemented, bad_gateway, unavailable, gateway_timeout, version, own_text}
use Rattle.hx_record.specs.declared.served.CutCause.TheVariants as cut
use Rattle.hx_record.specs.declared.served.LeftCause.TheVariants as cause
use Rattle.hx_record.specs.Truth.{LeftBeforeAll}
use Rattle.hx_record.specs.Samples.{ask, client}
use Rattle.hx_record.specs.CutSamples.{part_answer, cut_at, part_asked, part_carried, own_answer, own_begun, own_of, RecountsLeft, RecountsOwn}
use Rattle.hx_record.proofs.TrueSamples.{ask_head, asked, is_request, ask_goes_out}

-- ---- the answer in part

abbrev ten_long : Field
ten_long = record { name = codes "Content-Length"; raw = codes " 10"; end = crlf }

abbrev part_head : ResponseHead
part_head = record { blank = []; minor = 1; digits = codes "200"; reason = Some (codes "OK"); line_end = crlf; fields = ten_long ∷ []; last = crlf }

is_ten_long : IsField ten_long
unfolding is_token_byte
is_ten_long = record { name = (lit< tt, AllPass-from_list_all is_token_byte (codes "Content-Length") refl); raw = AllPass-from_list_all is_value_byte (codes " 10") refl }

read_part : ReadsResponse part_answer part_head (codes "hi")
unfolding print_response
read_part = (
  record {
    minor = lit≤ tt;
    digits = (refl, AllPass-from_list_all is_ascii_digit (codes "200") refl);
    reason = AllPass-from_list_all is_value_byte (codes "OK") refl;
    fields = All-cons IsField ten_long [] is_ten_long (All-nil IsField);
  },
  refl,
)

ten_bytes : answer_kind Other part_head ≡ Ok (Length 10)
unfolding answer_kind trim_ows
ten_bytes = refl

part_goes_out : ForwardsAnswer part_answer false part_answer
unfolding forwarded_answer staying goes_on connection_options is_of_connection is_kept trim_ows
part_goes_out = ([], part_answer, refl, part_answer, inl (part_head, codes "hi", read_part, lit≤ tt, refl), refl)

-- a head at the front of a front of it is its head
front_head : (k : ℕ) (g : ResponseHead) (rest : List ℕ) → ReadsResponse (take k part_answer) g rest → (g ≡ part_head) × (rest ++ drop k part_answer ≡ codes "hi")
front_head k g rest reads =
    let longer = subst (λ (b : List ℕ). ReadsResponse b g (rest ++ drop k part_answer)) (take-append-drop k part_answer)
    (ReadsResponse-append (take k part_answer) g rest (drop k part_answer) reads) in
    response_unique part_answer g part_head (rest ++ drop k part_answer) (codes "hi") longer read_part

same_length : (kind : BodyKind) (r : Framed) → r ≡ Ok kind → r ≡ Ok (Length 10) → kind ≡ Length 10
same_length kind r a b = cc

too_short : (k : ℕ) (g : ResponseHead) (kind : BodyKind) (body : List ℕ) → ReadsResponse (take k part_answer) g body
    → answer_kind Other g ≡ Ok kind → IsBody kind body → ⊥
too_short k g kind body reads framed whole =
    let front = front_head k g body reads in
    let ten = same_length kind (answer_kind Other part_head) (ap (answer_kind Other) (sym front.0) ∙ framed) ten_bytes in
    let long : length body ≡ 10 = subst (λ (b : BodyKind). IsBody b body) ten whole in
    omega (arith, long, ap length front.1, length-append body (drop k part_answer))

no_interim : (k : ℕ) (g : ResponseHead) (rest : List ℕ) → ReadsResponse (take k part_answer) g rest → IsInterim g → ⊥
no_interim k g rest reads is = let e : status_code g ≡ 200 = ap status_code (front_head k g rest reads).0 in omega (arith, e, is.1)

not_with : (k : ℕ) (g : ResponseHead) (kind : BodyKind) (interims : List ResponseHead) (rest body : List ℕ)
    → BeginsInterims (take k part_answer) interims rest → ReadsResponse rest g body → answer_kind Other g ≡ Ok kind → IsBody kind body → ⊥
not_with k g kind [] rest body begins reads framed whole =
    too_short k g kind body (subst (λ (b : List ℕ). ReadsResponse b g body) (sym begins) reads) framed whole
not_with k g kind (i ∷ interims) rest body begins reads framed whole = no_interim k i begins.0 begins.1 begins.2

never_whole : (k : ℕ) → HasWholeAnswer Other part_answer k → ⊥
never_whole k (le, (g, kind, is, told)) = not_with k g kind is.interims is.rest is.body is.begins is.reads is.framed is.whole

-- ---- the cut exchange

never_short : (k : ℕ) → HasShortAnswer Other part_answer k → ⊥
never_short k s = never_whole k s.0

part_begins : BeginsForwardedAnswer part_answer false part_answer
part_begins = prefix_begins part_answer false part_answer part_answer part_goes_out ([], sym (append-nil part_answer))

pub cut_true : RecountsLeft cause.Cut (cut_at 41 cut.Ended) part_asked part_carried
cut_true = record {
  ranges = record { first = lit≤ tt; ask = (lit≤ tt, lit≤ tt); gave = (lit≤ tt, lit≤ tt); sent = (lit≤ tt, lit≤ tt); took = (lit≤ tt, lit≤ tt) };
  head = ask_head;
  rest = [];
  begins = asked;
  ask = inl (lit≤ tt, (Other, is_request));
  sent = (ask, ask_goes_out, ([], refl));
  all_sent = refl;
  took = inr (never_short, refl);
  gave = part_begins;
  closing = λ e. absurd cc;
  early = λ e. absurd cc;
}

pub cut_short : ¬ RecountsLeft cause.Cut (cut_at 40 cut.Ended) part_asked part_carried
cut_short r =
    let same = (request_unique ask r.head ask_head r.rest [] r.begins.reads asked.reads).0 in
    let method : kind_of_method r.head.method ≡ Other = ap (λ (g : RequestHead). kind_of_method g.method) same in
    let ends = subst (λ (m : MethodKind). EndsAnswer m part_answer 40) method r.took in
    ⊎_elim (never_short 40) (λ part. omega (arith, part.1)) ends

pub cut_early : ¬ RecountsLeft cause.Cut (cut_at 41 cut.Early) part_asked part_carried
cut_early r = let e = (r.early refl).0 in absurd cc

-- ---- own answers

own_503 : own_text 503 (codes "Service Unavailable") ≡ own_answer
unfolding own_text digits
own_503 = refl

reason_of_503 : (n : ℕ) (reason : List ℕ) → HasReason n reason → n ≡ 503 → reason ≡ codes "Service Unavailable"
reason_of_503 n reason bad_request is = absurd (omega arith)
reason_of_503 n reason timeout is = absurd (omega arith)
reason_of_503 n reason too_large is = absurd (omega arith)
reason_of_503 n reason not_implemented is = absurd (omega arith)
reason_of_503 n reason bad_gateway is = absurd (omega arith)
reason_of_503 n reason unavailable is = refl
reason_of_503 n reason gateway_timeout is = absurd (omega arith)
reason_of_503 n reason version is = absurd (omega arith)

reason_of_502 : (n : ℕ) (reason : List ℕ) → HasReason n reason → n ≡ 502 → reason ≡ codes "Bad Gateway"
reason_of_502 n reason bad_request is = absurd (omega arith)
reason_of_502 n reason timeout is = absurd (omega arith)
reason_of_502 n reason too_large is = absurd (omega arith)
reason_of_502 n reason not_implemented is = absurd (omega arith)
reason_of_502 n reason bad_gateway is = refl
reason_of_502 n reason unavailable is = absurd (omega arith)
reason_of_502 n reason gateway_timeout is = absurd (omega arith)
reason_of_502 n reason version is = absurd (omega arith)

own_502 : own_text 502 (codes "Bad Gateway") ≡ codes "HTTP/1.1 502 Bad Gateway\r\nContent-Length: 0\r\nConnection: close\r\n\r\n"
unfolding own_text digits
own_502 = refl

-- after an own answer the session leaves for that cause once all is given
own_is_told : LeftBeforeAll cause.Own → ⊥
own_is_told (inl is) = cc
own_is_told (inr (inl is)) = cc
own_is_told (inr (inr is)) = cc

pub own_true : RecountsOwn cause.Own (own_of 503 74) (client ask own_answer)
own_true = record { ask = (lit≤ tt, lit≤ tt); gave = (lit≤ tt, lit≤ tt); all_taken = refl; text = own_answer; own = (codes "Service Unavailable", unavailable, sym own_503); gives = inl refl }

pub own_in_part : RecountsOwn cause.Fault (own_of 503 12) (client ask own_begun)
own_in_part = record {
  ask = (lit≤ tt, lit≤ tt);
  gave = (lit≤ tt, lit≤ tt);
  all_taken = refl;
  text = own_answer;
  own = (codes "Service Unavailable", unavailable, sym own_503);
  gives = inr ((codes " Service Unavailable\r\nContent-Length: 0\r\nConnection: close\r\n\r\n", refl), inl refl);
}

pub own_short : ¬ RecountsOwn cause.Own (own_of 503 12) (client ask own_begun)
own_short r =
    let text : r.text ≡ own_answer = r.own.2 ∙ ap (own_text 503) (reason_of_503 503 r.own.0 r.own.1 refl) ∙ own_503 in
    ⊎_elim (λ is. omega (arith, ap length (is ∙ text))) (λ part. own_is_told part.1) r.gives

pub own_other : ¬ RecountsOwn cause.Own (own_of 502 74) (client ask own_answer)
own_other r =
    let text : r.text ≡ codes "HTTP/1.1 502 Bad Gateway\r\nContent-Length: 0\r\nConnection: close\r\n\r\n" =
    r.own.2 ∙ ap (own_text 502) (reason_of_502 502 r.own.0 r.own.1 refl) ∙ own_502 in
    ⊎_elim (λ is. let digit = ap (λ (xs : List ℕ). get_or xs 11 0) (is ∙ text) in omega (arith, digit)) (λ part. own_is_told part.1) r.gives
