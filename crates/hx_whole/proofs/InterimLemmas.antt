-- Interim heads at the front of an answer, and the head behind them.
use Rattle.std.proofs.Common.{◌≡◌, ◌⊎◌, ℕ, List, [], ◌∷◌, ◌++◌, length, sym, ap, refl, subst, ◌∙◌, inl, inr}
use Rattle.httparse.specs.Grammar.{ResponseHead, ReadsResponse, HasNoResponse}
use Rattle.httparse.proofs.GrammarLemmas.{response_unique, ReadsResponse-append}
use Rattle.hx_message.specs.Forwarded.{IsInterim, IsFinal, BeginsInterims}
use Rattle.hx_message.proofs.Unique.{interim_final}
use Rattle.hx_frame.proofs.EndLemmas.{interims_more, one_final_body}
use Rattle.hx_message.specs.Limits.{IsShort, BeginsShortInterims}

-- bytes are the heads, the final head g, and then body
pub record HasFinal (bytes : List ℕ) (g : ResponseHead) (body : List ℕ) : Type 0 where
  pub interims : List ResponseHead
  pub rest : List ℕ
  pub begins : BeginsInterims bytes interims rest
  pub reads : ReadsResponse rest g body
  pub final : IsFinal g

-- a head that is the next of an answer whose final head is k
pub record IsNext (bytes : List ℕ) (k g : ResponseHead) (rest : List ℕ) : Type 0 where
  pub reads : ReadsResponse bytes g rest
  pub short : IsShort bytes rest (length g.fields)
  pub kind : IsInterim g ⊎ (IsFinal g × (g ≡ k))

-- where a final head stands, no interim one does
interim_at_final : (bytes rest body middle : List ℕ) (g k : ResponseHead) → bytes ≡ rest → ReadsResponse rest g body → IsFinal g
    → ReadsResponse bytes k middle → IsInterim k → ⊥
interim_at_final bytes rest body middle g k is reads final reads' interim =
    let at = subst (λ (xs : List ℕ). ReadsResponse xs g body) (sym is) reads in
    interim_final k g (response_unique bytes k g middle body reads' at).0 interim final

-- an answer has one final head, and its body begins at one place
pub one_final : (bytes body body' : List ℕ) (g h : ResponseHead) → HasFinal bytes g body → HasFinal bytes h body'
    → (g ≡ h) × (body ≡ body')
one_final bytes body body' g h x y =
    one_final_body x.interims y.interims bytes x.rest y.rest body body' g h x.begins x.reads x.final y.begins y.reads y.final

-- the final head with more bytes behind it
pub final_more : (bytes body more : List ℕ) (g : ResponseHead) → HasFinal bytes g body → HasFinal (bytes ++ more) g (body ++ more)
final_more bytes body more g x = record {
  interims = x.interims;
  rest = x.rest ++ more;
  begins = interims_more x.interims bytes x.rest more x.begins;
  reads = ReadsResponse-append x.rest g body more x.reads;
  final = x.final;
}

-- behind some of an answer's interim heads a head follows
heads_go : (gs hs : List ResponseHead) (taken bytes rest body : List ℕ) (k : ResponseHead) → BeginsInterims taken gs []
    → BeginsInterims (taken ++ bytes) hs rest → ReadsResponse rest k body → IsFinal k → HasNoResponse bytes → ⊥
heads_go [] [] taken bytes rest body k x y p f none =
    let here : ReadsResponse (taken ++ bytes) k body = subst (λ (xs : List ℕ). ReadsResponse xs k body) (sym y) p in
    none k body (subst (λ (xs : List ℕ). ReadsResponse (xs ++ bytes) k body) x here)
heads_go [] (h ∷ hs) taken bytes rest body k x (m, q, i, y) p f none =
    none h m (subst (λ (xs : List ℕ). ReadsResponse (xs ++ bytes) h m) x q)
heads_go (g ∷ gs) [] taken bytes rest body k (m, q, i, x) y p f none =
    interim_at_final (taken ++ bytes) rest body (m ++ bytes) k g y p f (ReadsResponse-append taken g m bytes q) i
heads_go (g ∷ gs) (h ∷ hs) taken bytes rest body k (m, q, i, x) (n, q', i', y) p f none =
    let u = response_unique (taken ++ bytes) h g n (m ++ bytes) q' (ReadsResponse-append taken g m bytes q) in
    heads_go gs hs m bytes rest body k x (subst (λ (w : List ℕ). BeginsInterims w hs rest) u.1 y) p f none

pub head_follows : (taken bytes body : List ℕ) (gs : List ResponseHead) (k : ResponseHead) → BeginsInterims taken gs []
    → HasFinal (taken ++ bytes) k body → HasNoResponse bytes → ⊥
head_follows taken bytes body gs k x y = heads_go gs y.interims taken bytes y.rest body k x y.begins y.reads y.final

-- and if all heads are short, it is short, and is an interim one or the final one
pub next_head : (gs hs : List ResponseHead) (taken bytes rest body : List ℕ) (k : ResponseHead) → BeginsInterims taken gs []
    → BeginsShortInterims (taken ++ bytes) hs rest → ReadsResponse rest k body → IsFinal k → IsShort rest body (length k.fields)
    → (g : ResponseHead) × (behind : List ℕ) × IsNext bytes k g behind
next_head [] [] taken bytes rest body k x y p f s =
    let is : rest ≡ bytes = sym y ∙ ap (λ (xs : List ℕ). xs ++ bytes) x in (
      k,
      body,
      record {
        reads = subst (λ (xs : List ℕ). ReadsResponse xs k body) is p;
        short = subst (λ (xs : List ℕ). IsShort xs body (length k.fields)) is s;
        kind = inr (f, refl);
      },
    )
next_head [] (h ∷ hs) taken bytes rest body k x (m, q, i, t, y) p f s =
    let is : taken ++ bytes ≡ bytes = ap (λ (xs : List ℕ). xs ++ bytes) x in (
      h,
      m,
      record {
        reads = subst (λ (xs : List ℕ). ReadsResponse xs h m) is q;
        short = subst (λ (xs : List ℕ). IsShort xs m (length h.fields)) is t;
        kind = inl i;
      },
    )
next_head (g ∷ gs) [] taken bytes rest body k (m, q, i, x) y p f s =
    absurd (interim_at_final (taken ++ bytes) rest body (m ++ bytes) k g y p f (ReadsResponse-append taken g m bytes q) i)
next_head (g ∷ gs) (h ∷ hs) taken bytes rest body k (m, q, i, x) (n, q', i', t, y) p f s =
    let u = response_unique (taken ++ bytes) h g n (m ++ bytes) q' (ReadsResponse-append taken g m bytes q) in
    next_head gs hs m bytes rest body k x (subst (λ (w : List ℕ). BeginsShortInterims w hs rest) u.1 y) p f s
