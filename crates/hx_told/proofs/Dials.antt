-- Each connection's link is the one of its dial: connections that are told rise, so that no two links have one dial.
use Rattle.std.proofs.Common.{◌≡◌, ℕ, ◌+◌, ◌≤◌, Bool, true, false, cond, List, [], ◌∷◌, length, take, All, refl, sym, ap, ◌∙◌, subst, arith, eq-eqb, Option, Some, None, ⊎_elim, inl, inr}
use Rattle.std.specs.Prelude.{Contains, ◌==◌}
use Rattle.std.specs.List.{sum_by}
use Rattle.std.specs.List.Sorted.{IsPermutation}
use Rattle.std.proofs.lemmas.Bool.{and_parts, and_from, eqb-true}
use Rattle.std.proofs.lemmas.List.{take_all}
use Rattle.std.proofs.lemmas.List.Elements.{All-contains, All-weaker, All-contains_itself}
use Rattle.std.proofs.lemmas.List.Sums.{sum_by-cons, sum_by-append}
use Rattle.std.proofs.lemmas.List.Sorted.{sum_by-IsPermutation}
use Rattle.hx_base.specs.declared.numbers.ConnId.{ConnId}
use Rattle.hx_base.specs.declared.numbers.ServerNo.{ServerNo}
use Rattle.hx_link.specs.MemoryLinks.{MemoryLinkNow}
use Rattle.hx_link.specs.MemoryNets.{MemoryNetNow}
use Rattle.hx_link.specs.Planned.{planned}
use Rattle.hx_record.specs.declared.bytes.ClientBytes.{ClientBytes}
use Rattle.hx_record.specs.declared.bytes.ConnBytes.{ConnBytes}
use Rattle.hx_record.specs.declared.served.Told.{Told}
use Rattle.hx_script.specs.PrintedForm.{Rises, PairBefore, ConnBefore}
use Rattle.hx_told.specs.Links.{TellsBytes, bytes_told, conn_of, conns_by, conns_of}
use Rattle.hx_told.specs.Ends.{is_dial, ended_in, ends_of, EndsByPlan}
use Rattle.hx_told.specs.Places.{IsConnOf}
use Rattle.hx_told.specs.Telling.{TellsLinks}
use Rattle.hx_told.proofs.Each.{conn_from}
use Rattle.hx_told.proofs.Owned.{first_or_later, none_there}

is_its : (s i : ℕ) → is_dial s i (Some (s, i)) ≡ true
is_its s i = and_from (s == s) (i == i) (eq-eqb s s refl) (eq-eqb i i refl)

-- 1 where it is that connection
abbrev one_if : Bool → ℕ
one_if b = cond b 1 0

abbrev counts : ℕ → ℕ → ConnBytes → ℕ
counts s i c = one_if (is_dial s i (Some (c.server.0, c.id.0)))

one_if_not : (b : Bool) → (b ≡ true → ⊥) → one_if b ≡ 0
one_if_not true never = absurd (never refl)
one_if_not false never = refl

at_most : (b : Bool) → one_if b ≤ 1
at_most true = omega arith
at_most false = omega arith

before_other : (s i a b : ℕ) → PairBefore s i a b → is_dial s i (Some (a, b)) ≡ true → ⊥
before_other s i a b (inl low) e = let p = and_parts (a == s) (b == i) e in let q = eqb-true a s p.0 in omega (arith, low, q)
before_other s i a b (inr same) e = let p = and_parts (a == s) (b == i) e in let q = eqb-true b i p.1 in omega (arith, same.1, q)

before_next : (s i a b c d : ℕ) → PairBefore s i a b → PairBefore a b c d → PairBefore s i c d
before_next s i a b c d (inl p) (inl q) = inl (omega (arith, p, q))
before_next s i a b c d (inl p) (inr q) = inl (omega (arith, p, q.0))
before_next s i a b c d (inr p) (inl q) = inl (omega (arith, p.0, q))
before_next s i a b c d (inr p) (inr q) = inr (omega (arith, p.0, q.0), omega (arith, p.1, q.1))

-- none is told behind one that comes later
none_behind : (s i : ℕ) (c : ConnBytes) (cs : List ConnBytes) → Rises ConnBefore (c ∷ cs) → PairBefore s i c.server.0 c.id.0 → sum_by (counts s i) (c ∷ cs) ≡ 0
none_behind s i c [] r p = omega (arith, sum_by-cons (counts s i) c [], one_if_not (is_dial s i (Some (c.server.0, c.id.0))) (before_other s i c.server.0 c.id.0 p))
none_behind s i c (d ∷ cs) r p =
    let rest = none_behind s i d cs r.1 (before_next s i c.server.0 c.id.0 d.server.0 d.id.0 p r.0) in
    omega (arith, sum_by-cons (counts s i) c (d ∷ cs), one_if_not (is_dial s i (Some (c.server.0, c.id.0))) (before_other s i c.server.0 c.id.0 p), rest)

once_by : (s i : ℕ) (c : ConnBytes) (d : ConnBytes) (cs : List ConnBytes) (b : Bool) → is_dial s i (Some (c.server.0, c.id.0)) ≡ b → ConnBefore c d → Rises ConnBefore (d ∷ cs)
    → sum_by (counts s i) (d ∷ cs) ≤ 1 → sum_by (counts s i) (c ∷ d ∷ cs) ≤ 1
once_by s i c d cs true e p r h =
    let q = and_parts (c.server.0 == s) (c.id.0 == i) e in
    let its : PairBefore s i d.server.0 d.id.0 = subst (λ (x : ℕ). PairBefore x i d.server.0 d.id.0) (eqb-true c.server.0 s q.0) (subst (λ (x : ℕ). PairBefore c.server.0 x d.server.0 d.id.0) (eqb-true c.id.0 i q.1) p) in
    omega (arith, sum_by-cons (counts s i) c (d ∷ cs), at_most (is_dial s i (Some (c.server.0, c.id.0))), none_behind s i d cs r its)
once_by s i c d cs false e p r h = omega (arith, sum_by-cons (counts s i) c (d ∷ cs), ap one_if e, h)

-- no connection is told twice
once : (s i : ℕ) (cs : List ConnBytes) → Rises ConnBefore cs → sum_by (counts s i) cs ≤ 1
once s i [] r = omega arith
once s i (c ∷ []) r = omega (arith, sum_by-cons (counts s i) c [], at_most (is_dial s i (Some (c.server.0, c.id.0))))
once s i (c ∷ d ∷ cs) r = once_by s i c d cs (is_dial s i (Some (c.server.0, c.id.0))) refl r.0 r.1 (once s i (d ∷ cs) r.1)

-- a link of the dial makes one
dial_counts : (s i : ℕ) (o : Option (ℕ × ℕ)) (m : MemoryLinkNow) → is_dial s i o ≡ true → sum_by (counts s i) (conns_by o m) ≡ 1
dial_counts s i None m e = absurd (cc)
dial_counts s i (Some d) m e = sum_by-cons (counts s i) (conn_of d m) [] ∙ ap (λ (b : Bool). one_if b + 0) e

link_counts : (s i : ℕ) (links : List MemoryLinkNow) (m : MemoryLinkNow) → Contains links m → m.state.dial ≡ Some (s, i) → 1 ≤ sum_by (counts s i) (conns_of links)
link_counts s i [] m there e = absurd (none_there m there)
link_counts s i (x ∷ links) m there e =
    let both = sum_by-append (counts s i) (conns_by x.state.dial x) (conns_of links) in
    ⊎_elim
    (λ (here : x ≡ m).
    let its : is_dial s i x.state.dial ≡ true = ap (λ (y : MemoryLinkNow). is_dial s i y.state.dial) here ∙ ap (is_dial s i) e ∙ is_its s i in
    omega (arith, both, dial_counts s i x.state.dial x its))
    (λ later. omega (arith, both, link_counts s i links m later e))
    (first_or_later x links m there)

first_by : (s i : ℕ) (x : MemoryLinkNow) (links : List MemoryLinkNow) (m : MemoryLinkNow) (b : Bool) → is_dial s i x.state.dial ≡ b → sum_by (counts s i) (conns_of (x ∷ links)) ≤ 1
    → Contains links m → m.state.dial ≡ Some (s, i) → (sum_by (counts s i) (conns_of links) ≤ 1 → ended_in links s i ≡ m.state.told_end) → ended_in (x ∷ links) s i ≡ m.state.told_end
first_by s i x links m true its few there e ih =
    absurd (omega (arith, few, sum_by-append (counts s i) (conns_by x.state.dial x) (conns_of links), dial_counts s i x.state.dial x its, link_counts s i links m there e))
first_by s i x links m false its few there e ih =
    ap (λ (b : Bool). cond b x.state.told_end (ended_in links s i)) its
    ∙ ih (omega (arith, few, sum_by-append (counts s i) (conns_by x.state.dial x) (conns_of links)))

first_is : (s i : ℕ) (links : List MemoryLinkNow) (m : MemoryLinkNow) → sum_by (counts s i) (conns_of links) ≤ 1 → Contains links m → m.state.dial ≡ Some (s, i)
    → ended_in links s i ≡ m.state.told_end
first_is s i [] m few there e = absurd (none_there m there)
first_is s i (x ∷ links) m few there e =
    ⊎_elim
    (λ (here : x ≡ m).
    let its : is_dial s i x.state.dial ≡ true = ap (λ (y : MemoryLinkNow). is_dial s i y.state.dial) here ∙ ap (is_dial s i) e ∙ is_its s i in
    ap (λ (b : Bool). cond b x.state.told_end (ended_in links s i)) its ∙ ap (λ (y : MemoryLinkNow). y.state.told_end) here)
    (λ later. first_by s i x links m (is_dial s i x.state.dial) refl few later e (λ fewer. first_is s i links m fewer later e))
    (first_or_later x links m there)

-- a link that was dialled is the one of its dial
pub ended_is : (links : List MemoryLinkNow) (conns : List ConnBytes) → IsPermutation (conns_of links) conns → Rises ConnBefore conns
    → (s i : ℕ) (m : MemoryLinkNow) → Contains links m → m.state.dial ≡ Some (s, i) → ended_in links s i ≡ m.state.told_end
ended_is links conns same rise s i m there e =
    let few : sum_by (counts s i) (conns_of links) ≤ 1 = omega (arith, sum_by-IsPermutation (counts s i) (conns_of links) conns same, once s i conns rise) in
    first_is s i links m few there e

module _ (records : List Told) (net : MemoryNetNow) (clients : List ClientBytes) (conns : List ConnBytes) (tells : TellsLinks records net clients conns) (rise : Rises ConnBefore conns) where
  -- what is told of a connection's end is what its link told
  pub ended_at : (server : ServerNo) (id : ConnId) (m : MemoryLinkNow) → Contains tells.links m → m.state.dial ≡ Some (server.0, id.0) → ends_of (Some tells.links) server id ≡ m.state.told_end
  ended_at server id m there e = ended_is tells.links conns tells.conns_are rise server.0 id.0 m there e

  -- the connection's link told its end just where its plan has one and all was read
  end_planned : (c : ConnBytes) → Contains conns c → EndsByPlan net.links c
  end_planned c there ended =
      let r : IsConnOf tells.links c = conn_from records net clients conns tells c there in
      let m : MemoryLinkNow = r.link in
      let dial : m.state.dial ≡ Some (c.server.0, c.id.0) = subst (λ (x : ConnBytes). m.state.dial ≡ Some (x.server.0, x.id.0)) (sym r.is) r.dialled in
      let end : m.state.told_end ≡ true =
      sym (ended_at c.server c.id m r.there dial) ∙ ap (λ (o : Option (List MemoryLinkNow)). ends_of o c.server c.id) (sym tells.kept.links_are) ∙ ended in
      let bytes : TellsBytes m = All-contains TellsBytes tells.links m tells.kept.bytes r.there in
      let by_plan = bytes.keeps.ended end in
      let whole : m.state.taken ≡ Some (planned m.plan.pieces) =
      bytes.keeps.taken ∙ ap (λ (k : ℕ). Some (take k (planned m.plan.pieces))) by_plan.0
      ∙ ap Some (take_all (length (planned m.plan.pieces)) (planned m.plan.pieces) (omega arith)) in
      record {
        all = tells.links;
        links_are = tells.kept.links_are;
        link = m;
        there = r.there;
        dialled = dial;
        ends = by_plan.1;
        whole = ap (λ (x : ConnBytes). x.took) r.is ∙ ap bytes_told whole;
      }

  -- and each one that is told
  pub ends_planned : All (EndsByPlan net.links) conns
  ends_planned = All-weaker (Contains conns) (EndsByPlan net.links) end_planned conns (All-contains_itself conns)
