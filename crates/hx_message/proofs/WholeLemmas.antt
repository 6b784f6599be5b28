-- Messages that went out are messages.
use Rattle.std.proofs.Common.{◌≡◌, ℕ, ◌<◌, ◌≤◌, List, [], ◌∷◌, ◌++◌, length, map, filter, cond, Bool, true, false, ◌&&◌, refl, sym, ap, ap₂, subst, ◌∙◌, inl, Ok, append_assoc}
use Rattle.std.specs.Prelude.{codes, nat_lt, if◌then◌else◌, ◌==◌, Err}
use Rattle.std.specs.List.{flat_map}
use Rattle.std.proofs.lemmas.List.{append-nil}
use Rattle.std.proofs.lemmas.List.Elements.{filter-append}
use Rattle.httparse.specs.Grammar.{ReadsRequest, ResponseHead, ReadsResponse, status_code}
use Rattle.httparse.proofs.GrammarLemmas.{ReadsRequest-append, ReadsResponse-append}
use Rattle.hx_message.specs.Again.{IsForwardedAnswer, closing_fields}
use Rattle.hx_message.specs.Body.{Framed, kind_of_method, kind_of_fields, field_kind, or_to_end, is_bodiless, answer_kind}
use Rattle.hx_message.specs.Fields.{NameAndValue, read_fields, is_named, values_of, staying}
use Rattle.hx_message.specs.Forwarded.{BeginsInterims, ForwardsRequest, ForwardsAnswer, forwarded_request, forwarded_answer}
use Rattle.hx_message.specs.Message.{IsRequest, IsAnswer}
use Rattle.hx_message.specs.declared.BodyKind.{BodyKind}
use Rattle.hx_message.specs.declared.BodyKind.TheVariants.{Nothing}
use Rattle.hx_message.specs.declared.FrameFault.TheVariants.{UnknownCoding}
use Rattle.hx_message.specs.declared.MethodKind.{MethodKind}
use Rattle.hx_message.proofs.AgainLemmas.{the_close, goes_again, comes_again}
use Rattle.hx_message.proofs.KeptLemmas.{values_stay, coding_is_framing, length_is_framing}
use Rattle.hx_message.proofs.Unique.{one_request, one_text}

-- ---- requests

pub goes_out_whole : (taken put : List ℕ) (m : MethodKind) → IsRequest taken m → ForwardsRequest taken put → IsRequest put m
goes_out_whole taken put m (g, body, with, is) out =
    let again = goes_again g with.begins.reads.0 in
    let k = again.0 in
    let head = forwarded_request g in
    let same : put ≡ head ++ body = one_request taken put (head ++ body) out (inl (g, body, with.begins, refl)) in
    let reads = ReadsRequest-append head k [] body again.1.reads in (
      k,
      body,
      record {
        begins = record { reads = subst (λ (xs : List ℕ). ReadsRequest xs k body) (sym same) reads; version = again.1.version };
        method = λ c. with.method (sym (ap kind_of_method again.1.method) ∙ c);
        kind = with.kind;
        framed = again.1.kind ∙ with.framed;
        whole = with.whole;
      },
      ap kind_of_method again.1.method ∙ is,
    )

-- ---- answers

-- beside the proxy's own Connection field a name has the values that it had
values_beside : (name : List ℕ) (fields : List NameAndValue) (closing : Bool) → is_named name the_close ≡ false → values_of name (fields ++ closing_fields closing) ≡ values_of name fields
values_beside name fields true other =
    ap (map (λ (f : NameAndValue). f.1))
    (filter-append (is_named name) fields (the_close ∷ [])
    ∙ (ap (λ (b : Bool). filter (is_named name) fields ++ cond b (the_close ∷ []) []) other ∙ append-nil (filter (is_named name) fields)))
values_beside name fields false other = ap (values_of name) (append-nil fields)

coding_again : (fields : List NameAndValue) (closing : Bool) → values_of (codes "Transfer-Encoding") (staying fields ++ closing_fields closing) ≡ values_of (codes "Transfer-Encoding") fields
coding_again fields closing = values_beside (codes "Transfer-Encoding") (staying fields) closing refl ∙ values_stay (codes "Transfer-Encoding") fields coding_is_framing

length_again : (fields : List NameAndValue) (closing : Bool) → values_of (codes "Content-Length") (staying fields ++ closing_fields closing) ≡ values_of (codes "Content-Length") fields
length_again fields closing = values_beside (codes "Content-Length") (staying fields) closing refl ∙ values_stay (codes "Content-Length") fields length_is_framing

fields_again : (fields : List NameAndValue) (closing : Bool) → kind_of_fields (staying fields ++ closing_fields closing) ≡ kind_of_fields fields
fields_again fields closing = ap₂ field_kind (coding_again fields closing) (length_again fields closing)

-- the kind of an answer's body, by whether it may have one, whether a coding stands in HTTP/1.0, and its fields
answer_by : Bool → Bool → Framed → Framed
answer_by bodiless old framed = if bodiless then Ok Nothing else if old then Err UnknownCoding else or_to_end framed

new_version : (b old : Bool) (framed : Framed) (kind : BodyKind) → answer_by b old framed ≡ Ok kind → answer_by b false framed ≡ Ok kind
unfolding answer_by
new_version true old framed kind e = e
new_version false true framed kind e = cc
new_version false false framed kind e = e

-- a version of HTTP/1.0 and a Transfer-Encoding
abbrev is_old : ℕ → List NameAndValue → Bool
is_old minor fields = minor == 0 && nat_lt 0 (length (values_of (codes "Transfer-Encoding") fields))

answer_kind_again : (m : MethodKind) (g k : ResponseHead) (closing : Bool) (kind : BodyKind) → IsForwardedAnswer g k closing → answer_kind m g ≡ Ok kind → answer_kind m k ≡ Ok kind
unfolding answer_kind answer_by
answer_kind_again m g k closing kind again framed =
    let old = is_old g.minor (read_fields g.fields) in
    let newer : answer_by (is_bodiless m (status_code g)) false (kind_of_fields (read_fields g.fields)) ≡ Ok kind = new_version (is_bodiless m (status_code g)) old (kind_of_fields (read_fields g.fields)) kind framed in
    let same : kind_of_fields (read_fields k.fields) ≡ kind_of_fields (read_fields g.fields) = ap kind_of_fields again.fields ∙ fields_again (read_fields g.fields) closing in
    let version : is_old k.minor (read_fields k.fields) ≡ false = ap (λ (n : ℕ). is_old n (read_fields k.fields)) again.version in
    ap (λ (n : ℕ). answer_by (is_bodiless m n) (is_old k.minor (read_fields k.fields)) (kind_of_fields (read_fields k.fields))) again.status
    ∙ (ap (λ (b : Bool). answer_by (is_bodiless m (status_code g)) b (kind_of_fields (read_fields k.fields))) version
    ∙ (ap (λ (r : Framed). answer_by (is_bodiless m (status_code g)) false r) same ∙ newer))

-- the texts of interim heads begin with interim heads
interims_again : (gs : List ResponseHead) (bytes rest more : List ℕ) → BeginsInterims bytes gs rest → (ks : List ResponseHead) × BeginsInterims (flat_map (λ g. forwarded_answer g false) gs ++ more) ks more
interims_again [] bytes rest more begins = ([], refl)
interims_again (g ∷ gs) bytes rest more (middle, reads, is, begins) =
    let again = comes_again g false reads.0 in
    let k = again.0 in
    let tail = flat_map (λ (h : ResponseHead). forwarded_answer h false) gs in
    let next = interims_again gs middle rest more begins in
    let text = append_assoc (forwarded_answer g false) tail more in
    let read = ReadsResponse-append (forwarded_answer g false) k [] (tail ++ more) again.1.reads in (
      k ∷ next.0,
      (
        tail ++ more,
        subst (λ (xs : List ℕ). ReadsResponse xs k (tail ++ more)) (sym text) read,
        subst (λ (n : ℕ). (100 ≤ n) × (n < 200) × (n ≡ 101 → ⊥)) (sym again.1.status) is,
        next.1,
      ),
    )

pub answer_goes_out_whole : (taken put : List ℕ) (m : MethodKind) (closing : Bool) → IsAnswer m taken → ForwardsAnswer taken closing put → IsAnswer m put
answer_goes_out_whole taken put m closing (g, kind, with) out =
    let again = comes_again g closing with.reads.0 in
    let k = again.0 in
    let more = forwarded_answer g closing ++ with.body in
    let texts = flat_map (λ (h : ResponseHead). forwarded_answer h false) with.interims in
    let same : put ≡ texts ++ more = one_text taken closing put (texts ++ more) out (with.interims, with.rest, with.begins, more, inl (g, with.body, with.reads, with.final, refl), refl) in
    let first = interims_again with.interims taken with.rest more with.begins in (
      k,
      kind,
      record {
        interims = first.0;
        rest = more;
        begins = subst (λ (xs : List ℕ). BeginsInterims xs first.0 more) (sym same) first.1;
        body = with.body;
        reads = ReadsResponse-append (forwarded_answer g closing) k [] with.body again.1.reads;
        final = subst (λ (n : ℕ). 200 ≤ n) (sym again.1.status) with.final;
        framed = answer_kind_again m g k closing kind again.1 with.framed;
        whole = with.whole;
      },
    )
