-- What two seats know that told each other.
use Rattle.std.proofs.Common.{◌≡◌, List, [], ◌∷◌, ◌++◌, refl, sym, ap, ◌∙◌, append_assoc}
use Rattle.std.proofs.lemmas.List.{append-nil, append_cancel_left}
use Rattle.hx_base.specs.declared.numbers.ThreadNo.{ThreadNo}
use Rattle.hx_pool.specs.declared.entries.Note.{Note}
use Rattle.hx_pool.specs.History.{own_of}
use Rattle.hx_pool.specs.SeatView.{About, History, Calls, Tells}
use Rattle.hx_pool.proofs.Histories.{own_of-append}

no_more : (ys zs : List Note) → ys ++ zs ≡ [] → ys ≡ []
no_more [] zs e = refl
no_more (y ∷ ys) zs e = cc

no_shorter : (m ys zs : List Note) → (m ++ ys) ++ zs ≡ m → m ++ ys ≡ m
no_shorter m ys zs e =
    let none : ys ++ zs ≡ [] = append_cancel_left m (ys ++ zs) [] (sym (append_assoc m ys zs) ∙ (e ∙ sym (append-nil m))) in
    ap (λ l. m ++ l) (no_more ys zs none) ∙ append-nil m

-- what the second seat had observed between the calls is a beginning of both, and its entries of either thread are
-- exactly that seat's own
pub record KnowBoth (b a' b' : History) : Type 0 where
  pub first : (more : List Note) × (a'.seen ≡ b.seen ++ more)
  pub second : (more : List Note) × (b'.seen ≡ b.seen ++ more)
  pub of_first : own_of a'.about.thread b.seen ≡ a'.mine
  pub of_second : own_of b'.about.thread b.seen ≡ b'.mine

-- a, then a', told b', which was b, and then b', then b'', told a'', which was a'
pub told_both : (a b a' b' a'' b'' : History) → Calls a a' [] → Tells a b b' → Calls b' b'' [] → Tells b' a' a'' → KnowBoth b' a'' b''
told_both a b a' b' a'' b'' first told second back =
    let ta : a'.about ≡ a.about = first.makes.about in
    let taa : a''.about ≡ a'.about = back.makes.makes.about in
    let t : ThreadNo = a''.about.thread in
    let same : a.about ≡ a''.about = sym ta ∙ sym taa in
    let mine : a''.mine ≡ a.mine = back.makes.makes.mine ∙ (append-nil a'.mine ∙ (first.makes.mine ∙ append-nil a.mine)) in
    let was : own_of t a.seen ≡ a.mine = ap (λ (x : About). own_of x.thread a.seen) (sym same) ∙ first.makes.was.own_part in
    let upto : own_of t b'.seen ≡ a.mine ++ own_of t told.told.0 = ap (own_of t) told.told.1 ∙ (own_of-append t a.seen told.told.0 ∙ ap (λ l. l ++ own_of t told.told.0) was) in
    let whole : own_of t a''.seen ≡ own_of t b'.seen ++ own_of t back.told.0 = ap (own_of t) back.told.1 ∙ own_of-append t b'.seen back.told.0 in
    let end : (a.mine ++ own_of t told.told.0) ++ own_of t back.told.0 ≡ a.mine = ap (λ l. l ++ own_of t back.told.0) (sym upto) ∙ (sym whole ∙ (back.makes.makes.one.own_part ∙ mine)) in
    let tb : b''.about ≡ b'.about = second.makes.about in record {
      first = back.told;
      second = second.makes.seen;
      of_first = upto ∙ (no_shorter a.mine (own_of t told.told.0) (own_of t back.told.0) end ∙ sym mine);
      of_second = ap (λ (x : About). own_of x.thread b'.seen) tb ∙ (second.makes.was.own_part ∙ sym (second.makes.mine ∙ append-nil b'.mine));
    }
