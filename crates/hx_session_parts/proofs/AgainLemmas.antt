-- A request that can be served is at the front: no other look is true there.
use Rattle.std.proofs.Common.{◌≡◌, ◌≤◌, ℕ, List, ◌++◌, [], take, drop, Ok, Err, sym, ap, subst, ◌∙◌, inl, inr, arith}
use Rattle.std.proofs.lemmas.List.{take-append-drop, take-take}
use Rattle.httparse.specs.Grammar.{RequestHead, ReadsRequest}
use Rattle.httparse.proofs.GrammarLemmas.{request_unique, ReadsRequest-append}
use Rattle.hx_message.specs.declared.BodyKind.{BodyKind}
use Rattle.hx_message.specs.declared.FrameFault.{FrameFault}
use Rattle.hx_message.specs.declared.FrameFault.TheVariants.{UnknownCoding}
use Rattle.hx_message.specs.Body.{Framed, kind_of_method, request_kind}
use Rattle.hx_message.specs.Limits.{head_limit}
use Rattle.hx_head.specs.Reads.{front}
use Rattle.hx_session_parts.specs.declared.asks.Asked.{Asked}
use Rattle.hx_session_parts.specs.declared.asks.AskLook.TheVariants.{More}
use Rattle.hx_session_parts.specs.declared.fault.AskFault.{AskFault}
use Rattle.hx_session_parts.specs.declared.fault.AskFault.TheVariants.{Bad, TooLarge, NotImplemented, Version}
use Rattle.hx_session_parts.specs.Asks.{AskLooks, HasAsked, IsAskOf, RefusesAsk}
use Rattle.hx_session_parts.proofs.GrowthLemmas.{few_fields}
use Rattle.hx_session_parts.proofs.LookLemmas.{begins_at}

-- the head of all bytes is there once those behind the ones looked at follow
comes : (bytes rest : List ℕ) (g : RequestHead) → ReadsRequest bytes g rest → ReadsRequest (front bytes ++ drop head_limit bytes) g rest
comes bytes rest g reads = subst (λ (xs : List ℕ). ReadsRequest xs g rest) (sym (take-append-drop head_limit bytes)) reads

-- a head among the bytes looked at is at the front of all
of_all : (bytes rest : List ℕ) (g : RequestHead) → ReadsRequest (front bytes) g rest → ReadsRequest bytes g (rest ++ drop head_limit bytes)
of_all bytes rest g reads =
    subst (λ (xs : List ℕ). ReadsRequest xs g (rest ++ drop head_limit bytes)) (take-append-drop head_limit bytes)
    (ReadsRequest-append (front bytes) g rest (drop head_limit bytes) reads)

-- the first n bytes are among the bytes looked at
in_front : (bytes : List ℕ) (n : ℕ) → n ≤ head_limit → take n bytes ++ drop n (front bytes) ≡ front bytes
in_front bytes n low =
    ap (λ (xs : List ℕ). xs ++ drop n (front bytes)) (sym (take-take n head_limit bytes low)) ∙ take-append-drop n (front bytes)

faulty : (r : Framed) (kind : BodyKind) (fault : FrameFault) → r ≡ Ok kind → r ≡ Err fault → ⊥
faulty r kind fault a b = cc

-- two heads at the front are one
one : (bytes rest : List ℕ) (a : Asked) (g h : RequestHead) → IsAskOf bytes a g → ReadsRequest bytes h rest → h ≡ g
one bytes rest a g h is reads = (request_unique bytes h g rest (drop a.head.length bytes) reads (begins_at bytes a.head g is.at).reads).0

no_refusal : (bytes : List ℕ) (a : Asked) (g : RequestHead) (fault : AskFault) → IsAskOf bytes a g → RefusesAsk fault bytes → ⊥
no_refusal bytes a g Bad is (inl never) =
    never (drop head_limit bytes) g (drop a.head.length bytes) (comes bytes (drop a.head.length bytes) g (begins_at bytes a.head g is.at).reads)
no_refusal bytes a g Bad is (inr (h, fault, (rest, begins, short), framed, other)) =
    faulty (request_kind g) a.kind fault is.framed (ap request_kind (sym (one bytes rest a g h is begins.reads)) ∙ framed)
no_refusal bytes a g TooLarge is (inl (enough, none, unfinished)) =
    none g (drop a.head.length (front bytes)) (subst (λ (xs : List ℕ). ReadsRequest xs g (drop a.head.length (front bytes))) (in_front bytes a.head.length is.short)
    (ReadsRequest-append (take a.head.length bytes) g [] (drop a.head.length (front bytes)) is.at.reads))
no_refusal bytes a g TooLarge is (inr (many, exceeds)) =
    let over = many (drop head_limit bytes) g (drop a.head.length bytes) (comes bytes (drop a.head.length bytes) g (begins_at bytes a.head g is.at).reads) in
    omega (arith, over, few_fields bytes a.head g is.at)
no_refusal bytes a g NotImplemented is (h, (rest, begins, short), inl unknown) =
    faulty (request_kind g) a.kind UnknownCoding is.framed (ap request_kind (sym (one bytes rest a g h is begins.reads)) ∙ unknown)
no_refusal bytes a g NotImplemented is (h, (rest, begins, short), inr (kind, framed, connects)) =
    is.method (ap (λ (k : RequestHead). kind_of_method k.method) (sym (one bytes rest a g h is begins.reads)) ∙ connects)
no_refusal bytes a g Version is (h, rest, reads, old, few) =
    omega (arith, old, is.at.version, ap (λ (k : RequestHead). k.minor) (one bytes _ a g h is (of_all bytes rest h reads)))

-- no look but the one that finds it
pub none_refused : (bytes : List ℕ) (fault : AskFault) → HasAsked bytes → RefusesAsk fault bytes → ⊥
none_refused bytes fault (a, (g, is)) r = no_refusal bytes a g fault is r

pub none_more : (bytes : List ℕ) → HasAsked bytes → AskLooks bytes More → ⊥
none_more bytes (a, (g, is)) look = look.1 g (drop a.head.length bytes) (begins_at bytes a.head g is.at).reads
