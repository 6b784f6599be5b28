-- Answers with a head that stands at the front.
use Rattle.std.proofs.Common.{◌≡◌, ◌⊎◌, ℕ, ◌≤◌, Bool, false, List, [], ◌∷◌, ◌++◌, length, drop, Ok, Err, refl, sym, ap, subst, ◌∙◌, inl, inr, arith, append_assoc, length-append}
use Rattle.std.proofs.lemmas.List.{length-take, nil_from_length}
use Rattle.httparse.specs.Ascii.{space}
use Rattle.httparse.specs.Grammar.{ResponseHead, ReadsResponse, print_response, print_blank, print_version, print_reason, print_end, print_section}
use Rattle.httparse.proofs.GrammarLemmas.{response_unique}
use Rattle.hx_message.specs.declared.MethodKind.{MethodKind}
use Rattle.hx_message.specs.declared.BodyKind.{BodyKind}
use Rattle.hx_message.specs.declared.FrameFault.{FrameFault}
use Rattle.hx_message.specs.Body.{Framed, answer_kind, IsBody}
use Rattle.hx_message.specs.Forwarded.{IsInterim, IsFinal, forwarded_answer}
use Rattle.hx_message.specs.Limits.{IsShort, BeginsShortInterims}
use Rattle.hx_message.specs.Partial.{IsPrefix}
use Rattle.hx_message.proofs.Unique.{interim_final}
use Rattle.hx_head.specs.declared.head.AnswerHead.{AnswerHead}
use Rattle.hx_check_records.specs.Exchanges.{interim_texts, ComesBack, BeginsBack}
use Rattle.hx_check_records.specs.Looks.{AnswerStands, NoAnswerStands}
use Rattle.hx_check_records.proofs.PrefixLemmas.{begins_more, begins_on, begins_either, begins_nothing, behind_is}

same_ok : (r : Framed) (k l : BodyKind) → r ≡ Ok k → r ≡ Ok l → k ≡ l
same_ok r k l a b = cc

no_fault : (r : Framed) (k : BodyKind) (fault : FrameFault) → r ≡ Ok k → Err fault ≡ r → ⊥
no_fault r k fault a b = cc

-- ---- a head has a byte

some_text : (g : ResponseHead) → 1 ≤ length (print_response g)
unfolding print_response
some_text g =
    let blank : List ℕ = print_blank g.blank ++ print_version g.minor in
    let read : List ℕ = blank ++ space ∷ g.digits in
    let whole : List ℕ = read ++ print_reason g.reason in
    omega (
      arith,
      length-append (whole ++ print_end g.line_end) (print_section g.fields g.last),
      length-append whole (print_end g.line_end),
      length-append read (print_reason g.reason),
      length-append blank (space ∷ g.digits),
    )

pub some_head : (took : List ℕ) (h : AnswerHead) (g : ResponseHead) → AnswerStands took h g → (1 ≤ h.length) × (h.length ≤ length took)
some_head took h g stands =
    let read = stands.at.reads.1 in (
      omega (arith, some_text g, ap length read, length-append (print_response g) [], length-take h.length took, stands.at.there),
      stands.at.there,
    )

-- ---- the parts of an answer that came back

-- the heads, the final head and the body of such an answer, and its text
record Parts (m : MethodKind) (closing : Bool) (took : List ℕ) (gs : List ResponseHead) (k : ResponseHead) (gave : List ℕ) : Type 0 where
  pub rest : List ℕ
  pub begins : BeginsShortInterims took gs rest
  pub body : List ℕ
  pub reads : ReadsResponse rest k body
  pub final : IsFinal k
  pub short : IsShort rest body (length k.fields)
  pub kind : BodyKind
  pub framed : answer_kind m k ≡ Ok kind
  pub whole : IsBody kind body
  pub gave_is : gave ≡ interim_texts gs ++ (forwarded_answer k closing ++ body)

parts_of : (m : MethodKind) (closing : Bool) (took gave : List ℕ) (x : ComesBack m closing took gave)
    → Parts m closing took x.interims x.head gave
parts_of m closing took gave x = record {
  rest = x.rest;
  begins = x.begins;
  body = x.body;
  reads = x.reads;
  final = x.final;
  short = x.short;
  kind = x.kind;
  framed = x.framed;
  whole = x.whole;
  gave_is = x.gave_is;
}

of_parts : (m : MethodKind) (closing : Bool) (took : List ℕ) (gs : List ResponseHead) (k : ResponseHead) (gave : List ℕ)
    → Parts m closing took gs k gave → ComesBack m closing took gave
of_parts m closing took gs k gave p = record {
  interims = gs;
  rest = p.rest;
  begins = p.begins;
  head = k;
  body = p.body;
  reads = p.reads;
  final = p.final;
  short = p.short;
  kind = p.kind;
  framed = p.framed;
  whole = p.whole;
  gave_is = p.gave_is;
}

module _ (m : MethodKind) (closing : Bool) (took : List ℕ) (h : AnswerHead) (g : ResponseHead) (stands : AnswerStands took h g) where
  -- an interim head goes in front
  pub back_interim : (ys : List ℕ) → IsInterim g → ComesBack m closing (drop h.length took) ys
      → ComesBack m closing took (forwarded_answer g false ++ ys)
  back_interim ys interim x =
      let p = parts_of m closing (drop h.length took) ys x in
      of_parts m closing took (g ∷ x.interims) x.head (forwarded_answer g false ++ ys) (record {
        rest = p.rest;
        begins = (drop h.length took, stands.reads, interim, stands.short, p.begins);
        body = p.body;
        reads = p.reads;
        final = p.final;
        short = p.short;
        kind = p.kind;
        framed = p.framed;
        whole = p.whole;
        gave_is =
            ap (λ (t : List ℕ). forwarded_answer g false ++ t) p.gave_is
            ∙ sym (append_assoc (forwarded_answer g false) (interim_texts x.interims) (forwarded_answer x.head closing ++ p.body));
      })

  -- and nothing else does
  behind : (gs : List ResponseHead) (k : ResponseHead) (gave : List ℕ) → IsInterim g → Parts m closing took gs k gave
      → (ys : List ℕ) × (gave ≡ forwarded_answer g false ++ ys) × ComesBack m closing (drop h.length took) ys
  behind [] k gave interim p =
      let reads = subst (λ (b : List ℕ). ReadsResponse b k p.body) (sym p.begins) p.reads in
      absurd (interim_final g k (response_unique took g k (drop h.length took) p.body stands.reads reads).0 interim p.final)
  behind (j ∷ gs) k gave interim p =
      let b = p.begins in
      let u = response_unique took j g b.0 (drop h.length took) b.1 stands.reads in
      let ys : List ℕ = interim_texts gs ++ (forwarded_answer k closing ++ p.body) in (
        ys,
        p.gave_is ∙ append_assoc (forwarded_answer j false) (interim_texts gs) (forwarded_answer k closing ++ p.body)
            ∙ ap (λ (i : ResponseHead). forwarded_answer i false ++ ys) u.0,
        of_parts m closing (drop h.length took) gs k ys (record {
          rest = p.rest;
          begins = subst (λ (bs : List ℕ). BeginsShortInterims bs gs p.rest) u.1 b.4;
          body = p.body;
          reads = p.reads;
          final = p.final;
          short = p.short;
          kind = p.kind;
          framed = p.framed;
          whole = p.whole;
          gave_is = refl;
        }),
      )

  pub back_behind : (gave : List ℕ) → IsInterim g → ComesBack m closing took gave
      → (ys : List ℕ) × (gave ≡ forwarded_answer g false ++ ys) × ComesBack m closing (drop h.length took) ys
  back_behind gave interim x = behind x.interims x.head gave interim (parts_of m closing took gave x)

  -- a final head ends it
  pub back_final : (gave : List ℕ) (kind : BodyKind) → IsFinal g → Ok kind ≡ answer_kind m g → IsBody kind (drop h.length took)
      → gave ≡ forwarded_answer g closing ++ drop h.length took → ComesBack m closing took gave
  back_final gave kind final framed whole is = record {
    interims = [];
    rest = took;
    begins = refl;
    head = g;
    body = drop h.length took;
    reads = stands.reads;
    final = final;
    short = stands.short;
    kind = kind;
    framed = sym framed;
    whole = whole;
    gave_is = is;
  }

  ends : (gs : List ResponseHead) (k : ResponseHead) (gave : List ℕ) → IsFinal g → (p : Parts m closing took gs k gave)
      → (answer_kind m g ≡ Ok p.kind) × IsBody p.kind (drop h.length took) × (gave ≡ forwarded_answer g closing ++ drop h.length took)
  ends [] k gave final p =
      let reads = subst (λ (b : List ℕ). ReadsResponse b k p.body) (sym p.begins) p.reads in
      let u = response_unique took k g p.body (drop h.length took) reads stands.reads in (
        ap (answer_kind m) (sym u.0) ∙ p.framed,
        subst (λ (b : List ℕ). IsBody p.kind b) u.1 p.whole,
        p.gave_is ∙ ap (λ (i : ResponseHead). forwarded_answer i closing ++ p.body) u.0 ∙ ap (λ (b : List ℕ). forwarded_answer g closing ++ b) u.1,
      )
  ends (j ∷ gs) k gave final p =
      let b = p.begins in
      absurd (interim_final j g (response_unique took j g b.0 (drop h.length took) b.1 stands.reads).0 b.2 final)

  pub back_ends : (gave : List ℕ) (kind : BodyKind) → IsFinal g → Ok kind ≡ answer_kind m g → ComesBack m closing took gave
      → IsBody kind (drop h.length took) × (gave ≡ forwarded_answer g closing ++ drop h.length took)
  unfolding parts_of
  back_ends gave kind final framed x =
      let e = ends x.interims x.head gave final (parts_of m closing took gave x) in
      (subst (λ (k : BodyKind). IsBody k (drop h.length took)) (same_ok (answer_kind m g) x.kind kind e.0 (sym framed)) e.1, e.2)

  pub back_fault : (gave : List ℕ) (fault : FrameFault) → IsFinal g → Err fault ≡ answer_kind m g → ComesBack m closing took gave → ⊥
  unfolding parts_of
  back_fault gave fault final is x =
      let e = ends x.interims x.head gave final (parts_of m closing took gave x) in
      no_fault (answer_kind m g) x.kind fault e.0 is

-- where neither head stands nothing comes back
none_parts : (m : MethodKind) (closing : Bool) (took : List ℕ) (gs : List ResponseHead) (k : ResponseHead) (gave : List ℕ)
    → NoAnswerStands took → Parts m closing took gs k gave → ⊥
none_parts m closing took [] k gave none p =
    none k p.body (subst (λ (b : List ℕ). ReadsResponse b k p.body) (sym p.begins) p.reads) (inr p.final)
    (subst (λ (b : List ℕ). IsShort b p.body (length k.fields)) (sym p.begins) p.short)
none_parts m closing took (j ∷ gs) k gave none p = let b = p.begins in none j b.0 b.1 (inl b.2) b.3

pub none_back : (m : MethodKind) (closing : Bool) (took gave : List ℕ) → NoAnswerStands took → ComesBack m closing took gave → ⊥
none_back m closing took gave none x = none_parts m closing took x.interims x.head gave none (parts_of m closing took gave x)

-- ---- beginnings of an answer that came back

-- nothing begins it
pub begins_empty : (closing : Bool) (took gave : List ℕ) → gave ≡ [] → BeginsBack closing took gave
begins_empty closing took gave is = ([], took, refl, inl (gave, sym (ap (λ (t : List ℕ). t ++ gave) is ∙ is)))

module _ (closing : Bool) (took : List ℕ) (h : AnswerHead) (g : ResponseHead) (stands : AnswerStands took h g) where
  -- a beginning of the text of an interim head
  pub begins_first : (gave : List ℕ) → IsInterim g → IsPrefix gave (forwarded_answer g false) → BeginsBack closing took gave
  begins_first gave interim prefix = (
    g ∷ [],
    drop h.length took,
    (drop h.length took, stands.reads, interim, stands.short, refl),
    inl (begins_more gave (forwarded_answer g false) [] prefix),
  )

  -- or that text, and a beginning of what is behind it
  pub begins_behind : (gave ys : List ℕ) → IsInterim g → gave ≡ forwarded_answer g false ++ ys → BeginsBack closing (drop h.length took) ys
      → BeginsBack closing took gave
  begins_behind gave ys interim is (gs, rest, begins, inl prefix) = (
    g ∷ gs,
    rest,
    (drop h.length took, stands.reads, interim, stands.short, begins),
    inl (begins_on gave (forwarded_answer g false) ys (interim_texts gs) is prefix),
  )
  begins_behind gave ys interim is (gs, rest, begins, inr (k, body, reads, final, short, prefix)) =
      let last : List ℕ = forwarded_answer k closing ++ body in (
        g ∷ gs,
        rest,
        (drop h.length took, stands.reads, interim, stands.short, begins),
        inr (
          k,
          body,
          reads,
          final,
          short,
          subst (λ (t : List ℕ). IsPrefix gave t) (sym (append_assoc (forwarded_answer g false) (interim_texts gs) last))
              (begins_on gave (forwarded_answer g false) ys (interim_texts gs ++ last) is prefix),
        ),
      )

  -- and nothing else begins it
  pub begins_next : (gave : List ℕ) → IsInterim g → BeginsBack closing took gave
      → IsPrefix gave (forwarded_answer g false)
      ⊎ ((ys : List ℕ) × (gave ≡ forwarded_answer g false ++ ys) × BeginsBack closing (drop h.length took) ys)
  begins_next gave interim ([], rest, begins, inl prefix) =
      let none = begins_nothing gave prefix in
      inl (forwarded_answer g false, sym (ap (λ (t : List ℕ). t ++ forwarded_answer g false) none))
  begins_next gave interim ([], rest, begins, inr (k, body, reads, final, short, prefix)) =
      let at = subst (λ (b : List ℕ). ReadsResponse b k body) (sym begins) reads in
      absurd (interim_final g k (response_unique took g k (drop h.length took) body stands.reads at).0 interim final)
  begins_next gave interim (j ∷ gs, rest, (middle, reads, is_interim, short, later), inl prefix) =
      let u = response_unique took j g middle (drop h.length took) reads stands.reads in
      let text = forwarded_answer g false in
      let both = subst (λ (i : ResponseHead). IsPrefix gave (forwarded_answer i false ++ interim_texts gs)) u.0 prefix in
      go (begins_either gave text (interim_texts gs) both) (subst (λ (b : List ℕ). BeginsShortInterims b gs rest) u.1 later)
    where
      go : IsPrefix gave (forwarded_answer g false)
          ⊎ ((gave ≡ forwarded_answer g false ++ drop (length (forwarded_answer g false)) gave)
          × IsPrefix (drop (length (forwarded_answer g false)) gave) (interim_texts gs))
          → BeginsShortInterims (drop h.length took) gs rest
          → IsPrefix gave (forwarded_answer g false)
          ⊎ ((ys : List ℕ) × (gave ≡ forwarded_answer g false ++ ys) × BeginsBack closing (drop h.length took) ys)
      go (inl first) later' = inl first
      go (inr (is, more)) later' = inr (drop (length (forwarded_answer g false)) gave, is, (gs, rest, later', inl more))
  begins_next gave interim (j ∷ gs, rest, (middle, reads, is_interim, short, later), inr (k, body, reads', final, short', prefix)) =
      let u = response_unique took j g middle (drop h.length took) reads stands.reads in
      let last : List ℕ = forwarded_answer k closing ++ body in
      let whole = subst (λ (t : List ℕ). IsPrefix gave t) (append_assoc (forwarded_answer j false) (interim_texts gs) last) prefix in
      let both = subst (λ (i : ResponseHead). IsPrefix gave (forwarded_answer i false ++ (interim_texts gs ++ last))) u.0 whole in
      go (begins_either gave (forwarded_answer g false) (interim_texts gs ++ last) both) (subst (λ (b : List ℕ). BeginsShortInterims b gs rest) u.1 later)
    where
      go : IsPrefix gave (forwarded_answer g false)
          ⊎ ((gave ≡ forwarded_answer g false ++ drop (length (forwarded_answer g false)) gave)
          × IsPrefix (drop (length (forwarded_answer g false)) gave) (interim_texts gs ++ (forwarded_answer k closing ++ body)))
          → BeginsShortInterims (drop h.length took) gs rest
          → IsPrefix gave (forwarded_answer g false)
          ⊎ ((ys : List ℕ) × (gave ≡ forwarded_answer g false ++ ys) × BeginsBack closing (drop h.length took) ys)
      go (inl first) later' = inl first
      go (inr (is, more)) later' =
          inr (drop (length (forwarded_answer g false)) gave, is, (gs, rest, later', inr (k, body, reads', final, short', more)))

  -- a final head and what is behind it
  pub begins_last : (gave : List ℕ) → IsFinal g → IsPrefix gave (forwarded_answer g closing ++ drop h.length took) → BeginsBack closing took gave
  begins_last gave final prefix = ([], took, refl, inr (g, drop h.length took, stands.reads, final, stands.short, prefix))

  pub begins_ends : (gave : List ℕ) → IsFinal g → BeginsBack closing took gave → IsPrefix gave (forwarded_answer g closing ++ drop h.length took)
  begins_ends gave final ([], rest, begins, inl prefix) =
      let none = begins_nothing gave prefix in
      let text : List ℕ = forwarded_answer g closing ++ drop h.length took in
      (text, sym (ap (λ (t : List ℕ). t ++ text) none))
  begins_ends gave final ([], rest, begins, inr (k, body, reads, final', short, prefix)) =
      let at = subst (λ (b : List ℕ). ReadsResponse b k body) (sym begins) reads in
      let u = response_unique took k g body (drop h.length took) at stands.reads in
      subst (λ (b : List ℕ). IsPrefix gave (forwarded_answer g closing ++ b)) u.1
      (subst (λ (i : ResponseHead). IsPrefix gave (forwarded_answer i closing ++ body)) u.0 prefix)
  begins_ends gave final (j ∷ gs, rest, (middle, reads, is_interim, short, later), either) =
      absurd (interim_final j g (response_unique took j g middle (drop h.length took) reads stands.reads).0 is_interim final)

-- where neither head stands only nothing begins it
pub none_begins_back : (closing : Bool) (took gave : List ℕ) → NoAnswerStands took → BeginsBack closing took gave → gave ≡ []
none_begins_back closing took gave none ([], rest, begins, inl prefix) = begins_nothing gave prefix
none_begins_back closing took gave none ([], rest, begins, inr (k, body, reads, final, short, prefix)) =
    absurd (none k body (subst (λ (b : List ℕ). ReadsResponse b k body) (sym begins) reads) (inr final)
    (subst (λ (b : List ℕ). IsShort b body (length k.fields)) (sym begins) short))
none_begins_back closing took gave none (j ∷ gs, rest, (middle, reads, is_interim, short, later), either) =
    absurd (none j middle reads (inl is_interim) short)

-- ---- a step over an interim head whose text was given

module _ (closing : Bool) (took gave : List ℕ) (h : AnswerHead) (g : ResponseHead) (n : ℕ) (stands : AnswerStands took h g)
    (interim : IsInterim g) (is : gave ≡ forwarded_answer g false ++ drop n gave) where
  same_behind : (ys : List ℕ) → gave ≡ forwarded_answer g false ++ ys → ys ≡ drop n gave
  same_behind ys other =
      sym (behind_is gave (forwarded_answer g false) ys other) ∙ behind_is gave (forwarded_answer g false) (drop n gave) is

  pub back_step : (m : MethodKind) → ComesBack m closing took gave → ComesBack m closing (drop h.length took) (drop n gave)
  back_step m x =
      let b = back_behind m closing took h g stands gave interim x in
      subst (λ (t : List ℕ). ComesBack m closing (drop h.length took) t) (same_behind b.0 b.1) b.2

  pub back_again : (m : MethodKind) → ComesBack m closing (drop h.length took) (drop n gave) → ComesBack m closing took gave
  back_again m x =
      subst (λ (t : List ℕ). ComesBack m closing took t) (sym is)
      (back_interim m closing took h g stands (drop n gave) interim x)

  nothing_behind : IsPrefix gave (forwarded_answer g false) → drop n gave ≡ []
  nothing_behind (r, e) =
      nil_from_length (drop n gave)
      (omega (arith, ap length is, length-append (forwarded_answer g false) (drop n gave), ap length e, length-append gave r))

  pub begins_step : BeginsBack closing took gave → BeginsBack closing (drop h.length took) (drop n gave)
  begins_step x = go (begins_next closing took h g stands gave interim x)
    where
      go : IsPrefix gave (forwarded_answer g false)
          ⊎ ((ys : List ℕ) × (gave ≡ forwarded_answer g false ++ ys) × BeginsBack closing (drop h.length took) ys)
          → BeginsBack closing (drop h.length took) (drop n gave)
      go (inl prefix) = begins_empty closing (drop h.length took) (drop n gave) (nothing_behind prefix)
      go (inr (ys, e, b)) = subst (λ (t : List ℕ). BeginsBack closing (drop h.length took) t) (same_behind ys e) b

  pub begins_again : BeginsBack closing (drop h.length took) (drop n gave) → BeginsBack closing took gave
  begins_again x = begins_behind closing took h g stands gave (drop n gave) interim is x

-- the first text was not given whole
pub not_behind : (closing : Bool) (took gave : List ℕ) (h : AnswerHead) (g : ResponseHead) → AnswerStands took h g → IsInterim g
    → (IsPrefix (forwarded_answer g false) gave → ⊥) → BeginsBack closing took gave → IsPrefix gave (forwarded_answer g false)
not_behind closing took gave h g stands interim not x = go (begins_next closing took h g stands gave interim x)
  where
    go : IsPrefix gave (forwarded_answer g false)
        ⊎ ((ys : List ℕ) × (gave ≡ forwarded_answer g false ++ ys) × BeginsBack closing (drop h.length took) ys)
        → IsPrefix gave (forwarded_answer g false)
    go (inl prefix) = prefix
    go (inr (ys, e, b)) = absurd (not (ys, e))
