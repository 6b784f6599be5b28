-- A message has one head, and so one forwarded text.
use Rattle.std.proofs.Common.{◌≡◌, ℕ, List, [], ◌∷◌, ◌++◌, refl, sym, ap, subst, ◌∙◌, inl, inr, arith, Bool, false, append_assoc, append-nil, Ok}
use Rattle.std.specs.List.{flat_map}
use Rattle.httparse.specs.Grammar.{RequestHead, ResponseHead, ReadsResponse, status_code}
use Rattle.httparse.proofs.GrammarLemmas.{request_unique, response_unique}
use Rattle.hx_message.specs.declared.MethodKind.{MethodKind}
use Rattle.hx_message.specs.declared.BodyKind.{BodyKind}
use Rattle.hx_message.specs.Body.{Framed, answer_kind}
use Rattle.hx_message.specs.Forwarded.{IsInterim, IsFinal, BeginsInterims, ForwardsRequest, ForwardsFinal, ForwardsAnswer, forwarded_request, forwarded_answer}
use Rattle.hx_message.specs.Message.{IsAnswerWith}
use Rattle.hx_message.specs.Partial.{IsPrefix, BeginsForwardedAnswer}

pub one_request : (b s t : List ℕ) → ForwardsRequest b s → ForwardsRequest b t → s ≡ t
one_request b s t (inl (g, r, p, e)) (inl (h, q, p', e')) =
    let u = request_unique b g h r q p.reads p'.reads in
    e ∙ ap (λ (x : RequestHead). forwarded_request x ++ r) u.0 ∙ ap (λ (x : List ℕ). forwarded_request h ++ x) u.1 ∙ sym e'
one_request b s t (inl (g, r, p, e)) (inr (none, e')) = absurd (none g r p)
one_request b s t (inr (none, e)) (inl (h, q, p', e')) = absurd (none h q p')
one_request b s t (inr (none, e)) (inr (none', e')) = e ∙ sym e'

-- no head is both
pub interim_final : (g h : ResponseHead) → g ≡ h → IsInterim g → IsFinal h → ⊥
interim_final g h e i f = omega (arith, i.1, f, ap status_code e)

one_final : (b : List ℕ) (closing : Bool) (s t : List ℕ) → ForwardsFinal b closing s → ForwardsFinal b closing t → s ≡ t
one_final b closing s t (inl (g, r, p, f, e)) (inl (h, q, p', f', e')) =
    let u = response_unique b g h r q p p' in
    e ∙ ap (λ (x : ResponseHead). forwarded_answer x closing ++ r) u.0 ∙ ap (λ (x : List ℕ). forwarded_answer h closing ++ x) u.1 ∙ sym e'
one_final b closing s t (inl (g, r, p, f, e)) (inr (none, e')) = absurd (none g r p (inr f))
one_final b closing s t (inr (none, e)) (inl (h, q, p', f', e')) = absurd (none h q p' (inr f'))
one_final b closing s t (inr (none, e)) (inr (none', e')) = e ∙ sym e'

-- an interim head does not stand where the final part begins
not_final : (b : List ℕ) (closing : Bool) (s : List ℕ) (h : ResponseHead) (q : List ℕ) → ReadsResponse b h q → IsInterim h → ForwardsFinal b closing s → ⊥
not_final b closing s h q p' i (inl (g, r, p, f, e)) = interim_final h g (sym (response_unique b g h r q p p').0) i f
not_final b closing s h q p' i (inr (none, e)) = none h q p' (inl i)

texts_go : (closing : Bool) (gs hs : List ResponseHead) (b rest rest' last last' : List ℕ)
    → BeginsInterims b gs rest → ForwardsFinal rest closing last → BeginsInterims b hs rest' → ForwardsFinal rest' closing last'
    → flat_map (λ g. forwarded_answer g false) gs ++ last ≡ flat_map (λ g. forwarded_answer g false) hs ++ last'
texts_go closing [] [] b rest rest' last last' x f y f' =
    one_final b closing last last' (subst (λ (w : List ℕ). ForwardsFinal w closing last) (sym x) f) (subst (λ (w : List ℕ). ForwardsFinal w closing last') (sym y) f')
texts_go closing [] (h ∷ hs) b rest rest' last last' x f (m, p, i, y) f' =
    absurd (not_final b closing last h m p i (subst (λ (w : List ℕ). ForwardsFinal w closing last) (sym x) f))
texts_go closing (g ∷ gs) [] b rest rest' last last' (m, p, i, x) f y f' =
    absurd (not_final b closing last' g m p i (subst (λ (w : List ℕ). ForwardsFinal w closing last') (sym y) f'))
texts_go closing (g ∷ gs) (h ∷ hs) b rest rest' last last' (m, p, i, x) f (n, p', i', y) f' =
    let u = response_unique b g h m n p p' in
    let rest-same = texts_go closing gs hs m rest rest' last last' x f (subst (λ (w : List ℕ). BeginsInterims w hs rest') (sym u.1) y) f' in
    append_assoc (forwarded_answer g false) (flat_map (λ g. forwarded_answer g false) gs) last
    ∙ ap (λ (x : ResponseHead). forwarded_answer x false ++ (flat_map (λ g. forwarded_answer g false) gs ++ last)) u.0
    ∙ ap (λ (w : List ℕ). forwarded_answer h false ++ w) rest-same
    ∙ sym (append_assoc (forwarded_answer h false) (flat_map (λ g. forwarded_answer g false) hs) last')

pub one_text : (b : List ℕ) (closing : Bool) (s t : List ℕ) → ForwardsAnswer b closing s → ForwardsAnswer b closing t → s ≡ t
one_text b closing s t (gs, rest, x, last, f, e) (hs, rest', y, last', f', e') = e ∙ texts_go closing gs hs b rest rest' last last' x f y f' ∙ sym e'

heads_go : (gs hs : List ResponseHead) (b rest rest' body body' : List ℕ) (g h : ResponseHead)
    → BeginsInterims b gs rest → ReadsResponse rest g body → IsFinal g → BeginsInterims b hs rest' → ReadsResponse rest' h body' → IsFinal h → g ≡ h
heads_go [] [] b rest rest' body body' g h x p f y p' f' =
    (response_unique b g h body body' (subst (λ (w : List ℕ). ReadsResponse w g body) (sym x) p) (subst (λ (w : List ℕ). ReadsResponse w h body') (sym y) p')).0
heads_go [] (k ∷ hs) b rest rest' body body' g h x p f (m, q, i, y) p' f' =
    absurd (interim_final k g (response_unique b k g m body q (subst (λ (w : List ℕ). ReadsResponse w g body) (sym x) p)).0 i f)
heads_go (k ∷ gs) [] b rest rest' body body' g h (m, q, i, x) p f y p' f' =
    absurd (interim_final k h (response_unique b k h m body' q (subst (λ (w : List ℕ). ReadsResponse w h body') (sym y) p')).0 i f')
heads_go (k ∷ gs) (l ∷ hs) b rest rest' body body' g h (m, q, i, x) p f (n, q', i', y) p' f' =
    let u = response_unique b k l m n q q' in
    heads_go gs hs m rest rest' body body' g h x p f (subst (λ (w : List ℕ). BeginsInterims w hs rest') (sym u.1) y) p' f'

same_ok : (k l : BodyKind) (r : Framed) → r ≡ Ok k → r ≡ Ok l → k ≡ l
same_ok k l r a b = cc

-- an answer has one final head and one kind of body
pub one_answer : (m : MethodKind) (b : List ℕ) (g h : ResponseHead) (k l : BodyKind) → IsAnswerWith m b g k → IsAnswerWith m b h l → (g ≡ h) × (k ≡ l)
one_answer m b g h k l x y =
    let same = heads_go x.interims y.interims b x.rest y.rest x.body y.body g h x.begins x.reads x.final y.begins y.reads y.final in
    (same, same_ok k l (answer_kind m g) x.framed (ap (answer_kind m) same ∙ y.framed))

-- ---- beginnings of what goes out for an answer

texts_front : (closing : Bool) (gs hs : List ResponseHead) (b rest rest' last' : List ℕ)
    → BeginsInterims b gs rest → BeginsInterims b hs rest' → ForwardsFinal rest' closing last'
    → (more : List ℕ) × (flat_map (λ g. forwarded_answer g false) hs ++ last' ≡ flat_map (λ g. forwarded_answer g false) gs ++ more)
texts_front closing [] hs b rest rest' last' x y f' = (flat_map (λ g. forwarded_answer g false) hs ++ last', refl)
texts_front closing (g ∷ gs) [] b rest rest' last' (m, p, i, x) y f' =
    absurd (not_final b closing last' g m p i (subst (λ (w : List ℕ). ForwardsFinal w closing last') (sym y) f'))
texts_front closing (g ∷ gs) (h ∷ hs) b rest rest' last' (m, p, i, x) (n, p', i', y) f' =
    let u = response_unique b g h m n p p' in
    let r = texts_front closing gs hs m rest rest' last' x (subst (λ (w : List ℕ). BeginsInterims w hs rest') (sym u.1) y) f' in (
      r.0,
      append_assoc (forwarded_answer h false) (flat_map (λ g. forwarded_answer g false) hs) last'
          ∙ ap (λ (w : List ℕ). forwarded_answer h false ++ w) r.1
          ∙ ap (λ (x : ResponseHead). forwarded_answer x false ++ (flat_map (λ g. forwarded_answer g false) gs ++ r.0)) (sym u.0)
          ∙ sym (append_assoc (forwarded_answer g false) (flat_map (λ g. forwarded_answer g false) gs) r.0),
    )

pub begins_prefix : (b : List ℕ) (closing : Bool) (front text : List ℕ) → BeginsForwardedAnswer b closing front → ForwardsAnswer b closing text → IsPrefix front text
begins_prefix b closing front text (gs, rest, x, inl (p, e)) (hs, rest', y, last', f', e') =
    let r = texts_front closing gs hs b rest rest' last' x y f' in
    (p ++ r.0, e' ∙ r.1 ∙ ap (λ (w : List ℕ). w ++ r.0) e ∙ append_assoc front p r.0)
begins_prefix b closing front text (gs, rest, x, inr (g, body, reads, final, (p, e))) goes =
    let own = flat_map (λ g. forwarded_answer g false) gs ++ (forwarded_answer g closing ++ body) in
    let same = one_text b closing text own goes (gs, rest, x, forwarded_answer g closing ++ body, inl (g, body, reads, final, refl), refl) in
    (p, same ∙ e)

pub prefix_begins : (b : List ℕ) (closing : Bool) (front text : List ℕ) → ForwardsAnswer b closing text → IsPrefix front text → BeginsForwardedAnswer b closing front
prefix_begins b closing front text (gs, rest, x, last, inl (g, body, reads, final, el), e) (p, e') =
    (gs, rest, x, inr (g, body, reads, final, (p, ap (λ (w : List ℕ). flat_map (λ g. forwarded_answer g false) gs ++ w) (sym el) ∙ sym e ∙ e')))
prefix_begins b closing front text (gs, rest, x, last, inr (none, el), e) (p, e') =
    (gs, rest, x, inl (p, sym (append-nil (flat_map (λ g. forwarded_answer g false) gs)) ∙ ap (λ (w : List ℕ). flat_map (λ g. forwarded_answer g false) gs ++ w) (sym el) ∙ sym e ∙ e'))
