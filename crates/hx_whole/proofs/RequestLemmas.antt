-- A whole request within the limits is found, never breaks, and ends once.
use Rattle.std.proofs.Common.{◌≡◌, ◌↔◌, ℕ, true, List, [], ◌∷◌, ◌++◌, length, Ok, sym, ap, subst, ◌∙◌, inl, inr, arith, append_assoc}
use Rattle.std.proofs.lemmas.List.{length-append, nil_from_length}
use Rattle.std.proofs.Math.Seq.{take-append_seam, take-length}
use Rattle.httparse.specs.Grammar.{RequestHead}
use Rattle.httparse.proofs.GrammarLemmas.{request_unique, ReadsRequest-append}
use Rattle.hx_message.specs.declared.MethodKind.{MethodKind}
use Rattle.hx_message.specs.declared.BodyKind.{BodyKind}
use Rattle.hx_message.specs.declared.FrameFault.TheVariants.{UnknownCoding}
use Rattle.hx_message.specs.Body.{kind_of_method, request_kind, wants_close, IsBody}
use Rattle.hx_message.specs.Forwarded.{BeginsRequest}
use Rattle.hx_message.specs.Message.{IsRequest, WantsClose}
use Rattle.hx_message.specs.Partial.{HasWholeRequest}
use Rattle.hx_message.specs.Limits.{IsShortRequest}
use Rattle.hx_frame.specs.Meters.{IsProperPart, NoBodyBegins}
use Rattle.hx_frame.proofs.EndLemmas.{one_request_end}
use Rattle.hx_session_parts.specs.declared.fault.AskFault.{AskFault}
use Rattle.hx_session_parts.specs.declared.fault.AskFault.TheVariants.{Bad, TooLarge, NotImplemented, Version}
use Rattle.hx_session_parts.specs.Asks.{RefusesAsk}
use Rattle.hx_whole.proofs.FramingLemmas.{no_fault, one_kind}
use Rattle.hx_whole.proofs.FrontLemmas.{behind, request_of_all, request_comes, request_in_front}

-- a head with more bytes behind it
begins_more : (bytes rest more : List ℕ) (g : RequestHead) → BeginsRequest bytes g rest
    → BeginsRequest (bytes ++ more) g (rest ++ more)
begins_more bytes rest more g x = record { reads = ReadsRequest-append bytes g rest more x.reads; version = x.version }

-- bytes begin with one head, and what follows it is one
one_head : (bytes more rest body : List ℕ) (g h : RequestHead) → BeginsRequest bytes g rest → BeginsRequest (bytes ++ more) h body
    → (g ≡ h) × (rest ++ more ≡ body)
one_head bytes more rest body g h x y =
    request_unique (bytes ++ more) g h (rest ++ more) body (ReadsRequest-append bytes g rest more x.reads) y.reads

-- no front of a whole request within the limits is refused
pub requests_found : (bytes more : List ℕ) (m : MethodKind) (fault : AskFault) → IsRequest (bytes ++ more) m
    → IsShortRequest (bytes ++ more) → RefusesAsk fault bytes → ⊥
requests_found bytes more m Bad (g, body, x, is) s (inl never) =
    never (behind bytes more) g body (request_comes bytes more body g x.begins.reads)
requests_found bytes more m Bad (g, body, x, is) s (inr (h, fault, (rest, begins, short), faulty, other)) =
    let u = one_head bytes more rest body h g begins x.begins in
    no_fault (request_kind g) x.kind fault x.framed (ap request_kind (sym u.0) ∙ faulty)
requests_found bytes more m TooLarge (g, body, x, is) (k, rest, begins, short) (inl (enough, none, unfinished)) =
    let found = request_in_front bytes more rest k (length k.fields) begins.reads short enough in
    none k found.0 found.1
requests_found bytes more m TooLarge (g, body, x, is) (k, rest, begins, short) (inr (many, exceeds)) =
    let over = many (behind bytes more) k rest (request_comes bytes more rest k begins.reads) in
    omega (arith, over, short.fields_few)
requests_found bytes more m NotImplemented (g, body, x, is) s (h, (rest, begins, short), inl unknown) =
    let u = one_head bytes more rest body h g begins x.begins in
    no_fault (request_kind g) x.kind UnknownCoding x.framed (ap request_kind (sym u.0) ∙ unknown)
requests_found bytes more m NotImplemented (g, body, x, is) s (h, (rest, begins, short), inr (kind, framed, connects)) =
    let u = one_head bytes more rest body h g begins x.begins in
    x.method (ap (λ (k : RequestHead). kind_of_method k.method) (sym u.0) ∙ connects)
requests_found bytes more m Version (g, body, x, is) s (h, rest, reads, old, few) =
    let u = request_unique (bytes ++ more) h g (rest ++ behind bytes more) body (request_of_all bytes more rest h reads) x.begins.reads in
    omega (arith, old, x.begins.version, ap (λ (k : RequestHead). k.minor) u.0)

-- the whole of bytes, and their front before more, as parts of a longer list
whole_all : (bytes : List ℕ) (m : MethodKind) → IsRequest bytes m → HasWholeRequest bytes (length bytes)
whole_all bytes m x = (omega arith, (m, subst (λ (xs : List ℕ). IsRequest xs m) (sym (take-length bytes)) x))

whole_front : (bytes more : List ℕ) (m : MethodKind) → IsRequest bytes m → HasWholeRequest (bytes ++ more) (length bytes)
whole_front bytes more m x =
    (omega (arith, length-append bytes more), (m, subst (λ (xs : List ℕ). IsRequest xs m) (sym (take-append_seam bytes more)) x))

-- no bytes follow a whole request in a whole request
none_follow : (bytes more : List ℕ) (m n : MethodKind) → IsRequest bytes m → IsRequest (bytes ++ more) n → more ≡ []
none_follow bytes more m n x y =
    let same = one_request_end (bytes ++ more) (length bytes) (length (bytes ++ more))
    (whole_front bytes more m x) (whole_all (bytes ++ more) n y) in
    nil_from_length more (omega (arith, same, length-append bytes more))

-- what follows the head of a whole request is its body
body_of : (bytes more rest : List ℕ) (m : MethodKind) (g : RequestHead) (kind : BodyKind) → IsRequest (bytes ++ more) m
    → BeginsRequest bytes g rest → request_kind g ≡ Ok kind → IsBody kind (rest ++ more)
body_of bytes more rest m g kind (h, body, x, is) begins framed =
    let u = one_head bytes more rest body g h begins x.begins in
    let same = one_kind (request_kind h) x.kind kind x.framed (ap request_kind (sym u.0) ∙ framed) in
    subst (λ (xs : List ℕ). IsBody kind xs) (sym u.1) (subst (λ (k : BodyKind). IsBody k body) same x.whole)

-- where all of a whole request was taken, its body doesn't go on
pub requests_end : (taken : List ℕ) (m : MethodKind) (g : RequestHead) (kind : BodyKind) (body : List ℕ) → IsRequest taken m
    → BeginsRequest taken g body → request_kind g ≡ Ok kind → IsProperPart kind body → ⊥
requests_end taken m g kind body (h, b, x, is) begins framed (more, some, whole) =
    let u = request_unique taken g h body b begins.reads x.begins.reads in
    let method : kind_of_method g.method ≡ kind_of_method h.method = ap (λ (k : RequestHead). kind_of_method k.method) u.0 in
    let longer : IsRequest (taken ++ more) m = (
      g,
      body ++ more,
      record {
        begins = begins_more taken body more g begins;
        method = λ c. x.method (sym method ∙ c);
        kind = kind;
        framed = framed;
        whole = whole;
      },
      method ∙ is,
    ) in
    let none = none_follow taken more m m (h, b, x, is) longer in
    omega (arith, some, ap length none)

-- no byte of a whole request is one after which no body follows
pub requests_never_break : (taken later : List ℕ) (next : ℕ) (m : MethodKind) (g : RequestHead) (kind : BodyKind) (body : List ℕ)
    → IsRequest (taken ++ next ∷ later) m → BeginsRequest taken g body → request_kind g ≡ Ok kind
    → NoBodyBegins kind (body ++ next ∷ []) → ⊥
requests_never_break taken later next m g kind body x begins framed none =
    let is = body_of taken (next ∷ later) body m g kind x begins framed in
    none later (subst (λ (xs : List ℕ). IsBody kind xs) (sym (append_assoc body (next ∷ []) later)) is)

-- a whole request at the front of another is all of it
pub requests_end_once : (taken rest : List ℕ) (m n : MethodKind) → IsRequest taken m → IsRequest (taken ++ rest) n
    → (rest ≡ []) × (m ≡ n)
requests_end_once taken rest m n (g, body, x, is) (h, b, y, is') =
    let u = one_head taken rest body b g h x.begins y.begins in (
      none_follow taken rest m n (g, body, x, is) (h, b, y, is'),
      sym is ∙ ap (λ (k : RequestHead). kind_of_method k.method) u.0 ∙ is',
    )

-- the head of a request tells whether it wants the connection closed
pub requests_tell_close : (bytes rest : List ℕ) (g : RequestHead) → BeginsRequest bytes g rest
    → WantsClose bytes ↔ (wants_close g ≡ true)
requests_tell_close bytes rest g x = (
  λ (h, r, y, closes). ap wants_close (request_unique bytes g h rest r x.reads y.reads).0 ∙ closes,
  λ closes. (g, rest, x, closes),
)
