-- What the fields of a head give, by what is found of them.
use Rattle.std.proofs.Common.{◌≡◌, ℕ, ◌&&◌, Bool, true, false, not, List, length, take, map, Ok, Err, refl, sym, ap, subst, ◌∙◌}
use Rattle.std.specs.Prelude.{◌==◌, nat_lt, codes}
use Rattle.httparse.specs.Grammar.{RequestHead, ResponseHead, status_code}
use Rattle.hx_message.specs.Fields.{NameAndValue, read_fields, values_of}
use Rattle.hx_message.specs.Body.{Framed, kind_of_fields, request_kind, is_bodiless, or_to_end, answer_kind, has_close, wants_close, persists}
use Rattle.hx_message.specs.declared.MethodKind.{MethodKind}
use Rattle.hx_message.specs.declared.BodyKind.{BodyKind}
use Rattle.hx_message.specs.declared.BodyKind.TheVariants.{Nothing}
use Rattle.hx_message.specs.declared.FrameFault.{FrameFault}
use Rattle.hx_message.specs.declared.FrameFault.TheVariants.{BadHost, UnknownCoding}
use Rattle.hx_head.specs.declared.head.RequestHead as own_request
use Rattle.hx_head.specs.declared.head.AnswerHead as own_answer
use Rattle.hx_head.specs.Heads.{field_in, IsRequestAt, IsAnswerAt}
use Rattle.hx_frame.specs.declared.fields.FramingFields.{FramingFields}
use Rattle.hx_frame.specs.Framing.{AreFound}

pub found_of_request : (bytes : List ℕ) (h : own_request.RequestHead) (g : RequestHead) (found : FramingFields) → IsRequestAt bytes h g
    → AreFound bytes (map (field_in bytes) (take h.count h.fields)) found → AreFound bytes (read_fields g.fields) found
found_of_request bytes h g found at is = subst (λ (fs : List NameAndValue). AreFound bytes fs found) at.fields is

pub found_of_answer : (bytes : List ℕ) (h : own_answer.AnswerHead) (g : ResponseHead) (found : FramingFields) → IsAnswerAt bytes h g
    → AreFound bytes (map (field_in bytes) (take h.count h.fields)) found → AreFound bytes (read_fields g.fields) found
found_of_answer bytes h g found at is = subst (λ (fs : List NameAndValue). AreFound bytes fs found) at.fields is

pub faulty_request : (g : RequestHead) (fault : FrameFault) → kind_of_fields (read_fields g.fields) ≡ Err fault → Err fault ≡ request_kind g
unfolding request_kind
faulty_request g fault is = rw is refl

pub one_host : (g : RequestHead) (kind : BodyKind) → kind_of_fields (read_fields g.fields) ≡ Ok kind
    → (length (values_of (codes "Host") (read_fields g.fields)) == 1) ≡ true → Ok kind ≡ request_kind g
unfolding request_kind
one_host g kind is host = rw (is, host) refl

pub bad_host : (g : RequestHead) (kind : BodyKind) → kind_of_fields (read_fields g.fields) ≡ Ok kind
    → (length (values_of (codes "Host") (read_fields g.fields)) == 1) ≡ false → Err BadHost ≡ request_kind g
unfolding request_kind
bad_host g kind is host = rw (is, host) refl

pub bodiless : (m : MethodKind) (g : ResponseHead) → is_bodiless m (status_code g) ≡ true → Ok Nothing ≡ answer_kind m g
unfolding answer_kind
bodiless m g is = rw is refl

pub unknown_coding : (m : MethodKind) (g : ResponseHead) → is_bodiless m (status_code g) ≡ false
    → (g.minor == 0 && nat_lt 0 (length (values_of (codes "Transfer-Encoding") (read_fields g.fields)))) ≡ true → Err UnknownCoding ≡ answer_kind m g
unfolding answer_kind
unknown_coding m g has_body old = rw (has_body, old) refl

pub answer_by_fields : (m : MethodKind) (g : ResponseHead) (framed : Framed) → is_bodiless m (status_code g) ≡ false
    → (g.minor == 0 && nat_lt 0 (length (values_of (codes "Transfer-Encoding") (read_fields g.fields)))) ≡ false
    → kind_of_fields (read_fields g.fields) ≡ framed → or_to_end framed ≡ answer_kind m g
unfolding answer_kind
answer_by_fields m g framed has_body old is = rw (has_body, old, is) refl

pub close_of_request : (bytes : List ℕ) (h : own_request.RequestHead) (g : RequestHead) (b : Bool) → IsRequestAt bytes h g
    → b ≡ has_close (map (field_in bytes) (take h.count h.fields)) → b ≡ wants_close g
unfolding wants_close
close_of_request bytes h g b at is = is ∙ ap has_close at.fields

pub persists_by : (bytes : List ℕ) (h : own_answer.AnswerHead) (g : ResponseHead) (b : Bool) → IsAnswerAt bytes h g
    → b ≡ has_close (map (field_in bytes) (take h.count h.fields)) → (h.minor == 1) ≡ true → not b ≡ persists g
unfolding persists
persists_by bytes h g b at is version =
    let minor : (g.minor == 1) ≡ true = ap (λ (n : ℕ). n == 1) (sym at.version) ∙ version in
    rw minor (ap not (is ∙ ap has_close at.fields))

pub persists_not : (bytes : List ℕ) (h : own_answer.AnswerHead) (g : ResponseHead) → IsAnswerAt bytes h g
    → (h.minor == 1) ≡ false → (h.minor == 1) ≡ persists g
unfolding persists
persists_not bytes h g at version =
    let minor : (g.minor == 1) ≡ false = ap (λ (n : ℕ). n == 1) (sym at.version) ∙ version in
    rw minor version
