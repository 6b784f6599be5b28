-- Each step of a lane keeps its rule.
use Rattle.std.proofs.Common.{◌≡◌, ◌≢◌, ℕ, ◌<◌, ◌≤◌, List, [], ◌∷◌, ◌++◌, length, set, Some, None, All, ⊎_elim, sym, refl, ap, ◌∙◌, subst, append_assoc, arith}
use mathlib.Core.Option.{some, some-ne-none}
use lib.ListN.{get_elem?}
use Rattle.std.proofs.Math.Nat.{lt_of_not-le}
use Rattle.std.proofs.lemmas.List.{append-nil, length-append}
use Rattle.std.proofs.lemmas.List.Elements.{All-nil, All-push, All-weaker}
use Rattle.crossbeam_queue.specs.Fifo.{Pushes, Pops, Forks, Merges, Learns}
use Rattle.crossbeam_queue.proofs.Lists.{at_set}
use Rattle.hx_handoff.specs.declared.rule.Handed.{Handed}
use Rattle.hx_handoff.specs.declared.rule.Settled.{Settled}
use Rattle.hx_handoff.specs.declared.rule.View.{View}
use Rattle.hx_handoff.specs.declared.rule.Role.{Role}
use Rattle.hx_handoff.specs.declared.rule.Role.TheVariants.{Taking, Giving, Spent}
use Rattle.hx_handoff.specs.Lanes.{items_of, ended, Begins, IsInOrder, IsAllOf, HoldsLast}
use Rattle.hx_handoff.specs.Rule.{Past, IsEnded, KnowsTaker, KnowsGiver, Knows, IsLane, spent_view, first_view, giver_view, after_cut, with_handed, with_collected, with_settled}
use Rattle.hx_handoff.proofs.Changes.{none_is_some, same_some, at, at_here, at_else, by_cases, at_end, item_here, items_more, handed_on}

nothing : {A : Type 0} (xs : List A) → length xs ≡ 0 → xs ≡ []
nothing [] e = refl
nothing (x ∷ xs) e = absurd (omega arith)

module _ {T : Type 0} where
  -- what the pass of a role knows
  knows : (items : List (Handed T)) (views : List (View T)) (lane : IsLane items views) (pass : ℕ) (v : View T) (role : Role)
      → get_elem? views pass ≡ some v → v.role ≡ role → Knows lane.past pass v role
  knows items views lane pass v role at is = subst (Knows lane.past pass v) is (lane.each pass v at)

  -- what was collected is a beginning of what was handed in
  in_order : (past : Past T) (collected items : List (Handed T)) (settled : List (Settled T))
      → ((g : ℕ) → items_of g (collected ++ items) ≡ past.sent g) → All (IsEnded past) settled → IsInOrder collected settled
  in_order past collected items settled delivered all =
      All-weaker (IsEnded past) (λ s. Begins s.handed (items_of s.giver collected)) (λ s e. (items_of s.giver items, sym (items_more s.giver collected items) ∙ (delivered s.giver ∙ sym e.all))) settled all

  pub begins : IsLane {T = T} [] (first_view ∷ [])
  begins =
      let past : Past T = record { seat = λ g. None; sent = λ g. []; got = []; taker = 0 } in
      let taker : KnowsTaker past 0 first_view = record {
        one = refl;
        collected = refl;
        later = λ g low. (refl, refl);
        settled = All-nil (IsEnded past);
      } in record {
        past = past;
        delivered = λ g. refl;
        each = λ j u e. ⊎_elim
            (λ (h : get_elem? [] j ≡ some u). absurd (some-ne-none u (sym h)))
            (λ (h : (j ≡ 0) × (first_view ≡ u)). subst (λ (z : ℕ × View T). Knows past z.0 z.1 z.1.role) (λ i. (sym h.0 i, h.1 i)) taker)
            (at_end [] first_view u j e);
      }

  -- what the others know stays where this giver hands something in
  others_handed : (past : Past T) (pass n : ℕ) (xs : List T) → past.seat n ≡ Some pass → (j : ℕ) (u : View T) → j ≢ pass → (role : Role)
      → Knows past j u role → Knows (record past { sent = at past.sent n xs }) j u role
  others_handed past pass n xs here j u apart Taking k =
      let none_else : (g : ℕ) → past.seat g ≡ None → g ≢ n = λ g none is. none_is_some pass (past.seat g) none (ap past.seat is ∙ here) in record {
        one = k.one;
        collected = k.collected;
        later = λ g low. let l = k.later g low in (l.0, at_else past.sent n xs g (none_else g l.0) ∙ l.1);
        settled = All-weaker (IsEnded past) (IsEnded (record past { sent = at past.sent n xs }))
            (λ s e. record { none = e.none; all = e.all ∙ sym (at_else past.sent n xs s.giver (none_else s.giver e.none)) }) u.settled k.settled;
      }
  others_handed past pass n xs here j u apart Giving k = record {
    one = k.one;
    handed = k.handed ∙ sym (at_else past.sent n xs u.number (λ is. apart (same_some j pass (past.seat u.number) k.one (ap past.seat is ∙ here))));
  }
  others_handed past pass n xs here j u apart Spent k = k

  pub hands : (n pass : ℕ) (v : View T) (x : Handed T) → v.role ≡ Giving → x.giver ≡ v.number
      → Pushes IsLane n pass v x (λ w. w ≡ with_handed v x.item)
  hands n pass v x gives by items views room lane at_pass =
      let past = lane.past in
      let mine : KnowsGiver past pass v = knows items views lane pass v Giving at_pass gives in
      let w : View T = with_handed v x.item in
      let more : List T = past.sent v.number ++ x.item ∷ [] in
      let later : Past T = record past { sent = at past.sent v.number more } in
      let kept : KnowsGiver later pass w = record {
        one = mine.one;
        handed = ap (λ l. l ++ x.item ∷ []) mine.handed ∙ sym (at_here past.sent v.number more v.number refl);
      } in (
        w,
        record {
          past = later;
          delivered = λ g. ap (items_of g) (sym (append_assoc past.got items (x ∷ []))) ∙ handed_on g v.number (past.got ++ items) x past.sent by (lane.delivered g);
          each = λ j u e. ⊎_elim
              (λ (h : (j ≡ pass) × (w ≡ u)). subst (λ (z : ℕ × View T). Knows later z.0 z.1 z.1.role) (λ i. (sym h.0 i, h.1 i)) (subst (Knows later pass w) (sym gives) kept))
              (λ (h : (j ≢ pass) × (get_elem? views j ≡ some u)). others_handed past pass v.number more mine.one j u h.0 u.role (lane.each j u h.1))
              (at_set views pass j w u e);
        },
        refl,
      )

  -- what the others know stays where the taker collects something
  others_collected : (past : Past T) (pass : ℕ) (got : List (Handed T)) → past.taker ≡ pass → (j : ℕ) (u : View T) → j ≢ pass → (role : Role)
      → Knows past j u role → Knows (record past { got = got }) j u role
  others_collected past pass got taker j u apart Taking k = absurd (apart (k.one ∙ taker))
  others_collected past pass got taker j u apart Giving k = record { one = k.one; handed = k.handed }
  others_collected past pass got taker j u apart Spent k = k

  -- an item that the lane holds is one of a giver that was cut off
  of_giver : (past : Past T) (n : ℕ) (x : Handed T) (items : List (Handed T)) → ((g : ℕ) → items_of g (past.got ++ x ∷ items) ≡ past.sent g)
      → ((g : ℕ) → n ≤ g → (past.seat g ≡ None) × (past.sent g ≡ [])) → x.giver < n
  of_giver past n x items delivered later = lt_of_not-le (λ low.
      let g = x.giver in
      let none : items_of g (past.got ++ x ∷ items) ≡ [] = delivered g ∙ (later g low).1 in
      let parts : items_of g (past.got ++ x ∷ items) ≡ items_of g past.got ++ x.item ∷ items_of g items =
      items_more g past.got (x ∷ items) ∙ ap (λ l. items_of g past.got ++ l) (items_more g (x ∷ []) items ∙ ap (λ l. l ++ items_of g items) (item_here g x refl)) in
      let size : length (items_of g past.got ++ x.item ∷ items_of g items) ≡ 0 = ap length (sym parts ∙ none) in
      absurd (omega (arith, length-append (items_of g past.got) (x.item ∷ items_of g items))))

  pub collects : (pass : ℕ) (v : View T) → v.role ≡ Taking
      → Pops IsLane pass v (λ x w. (w ≡ with_collected v x) × IsInOrder w.collected w.settled × (x.giver < v.number))
  collects pass v takes x items views lane at_pass =
      let past = lane.past in
      let mine : KnowsTaker past pass v = knows (x ∷ items) views lane pass v Taking at_pass takes in
      let w : View T = with_collected v x in
      let got : List (Handed T) = past.got ++ x ∷ [] in
      let later : Past T = record past { got = got } in
      let same : w.collected ≡ got = ap (λ l. l ++ x ∷ []) mine.collected in
      let delivered : (g : ℕ) → items_of g (got ++ items) ≡ past.sent g = λ g. ap (items_of g) (append_assoc past.got (x ∷ []) items) ∙ lane.delivered g in
      let ended : All (IsEnded later) v.settled = All-weaker (IsEnded past) (IsEnded later) (λ s e. record { none = e.none; all = e.all }) v.settled mine.settled in
      let kept : KnowsTaker later pass w = record { one = mine.one; collected = same; later = mine.later; settled = ended } in (
        w,
        record {
          past = later;
          delivered = delivered;
          each = λ j u e. ⊎_elim
              (λ (h : (j ≡ pass) × (w ≡ u)). subst (λ (z : ℕ × View T). Knows later z.0 z.1 z.1.role) (λ i. (sym h.0 i, h.1 i)) (subst (Knows later pass w) (sym takes) kept))
              (λ (h : (j ≢ pass) × (get_elem? views j ≡ some u)). others_collected past pass got (sym mine.one) j u h.0 u.role (lane.each j u h.1))
              (at_set views pass j w u e);
        },
        (refl, subst (λ l. IsInOrder l v.settled) (sym same) (in_order later got items v.settled delivered ended), of_giver past v.number x items lane.delivered mine.later),
      )

  -- what the others know stays where the taker cuts off a giver
  others_cut : (past : Past T) (pass n k : ℕ) → past.taker ≡ pass → past.seat n ≡ None → (j : ℕ) (u : View T) → j ≢ pass → (role : Role)
      → Knows past j u role → Knows (record past { seat = at past.seat n (Some k) }) j u role
  others_cut past pass n k taker none j u apart Taking know = absurd (apart (know.one ∙ taker))
  others_cut past pass n k taker none j u apart Giving know = record {
    one = at_else past.seat n (Some k) u.number (λ is. none_is_some j (past.seat n) none (ap past.seat (sym is) ∙ know.one)) ∙ know.one;
    handed = know.handed;
  }
  others_cut past pass n k taker none j u apart Spent know = know

  pub cuts : (pass : ℕ) (v : View T) → v.role ≡ Taking → v.settled ≡ [] → Forks IsLane pass v (after_cut v) (giver_view v.number)
  cuts pass v takes unsettled items views lane at_pass =
      let past = lane.past in
      let mine : KnowsTaker past pass v = knows items views lane pass v Taking at_pass takes in
      let w : View T = after_cut v in
      let vs : List (View T) = set views pass w in
      let k = length vs in
      let n = v.number in
      let new : (past.seat n ≡ None) × (past.sent n ≡ []) = mine.later n (omega arith) in
      let later : Past T = record past { seat = at past.seat n (Some k) } in
      let kept : KnowsTaker later pass w = record {
        one = mine.one;
        collected = mine.collected;
        later = λ g low. let l = mine.later g (omega arith) in (at_else past.seat n (Some k) g (λ is. omega arith) ∙ l.0, l.1);
        settled = subst (All (IsEnded later)) (sym unsettled) (All-nil (IsEnded later));
      } in
      let first : KnowsGiver later k (giver_view n) = record { one = at_here past.seat n (Some k) n refl; handed = sym new.1 } in record {
        past = later;
        delivered = lane.delivered;
        each = λ j u e. ⊎_elim
            (λ (h : get_elem? vs j ≡ some u). ⊎_elim
            (λ (h : (j ≡ pass) × (w ≡ u)). subst (λ (z : ℕ × View T). Knows later z.0 z.1 z.1.role) (λ i. (sym h.0 i, h.1 i)) (subst (Knows later pass w) (sym takes) kept))
            (λ (h : (j ≢ pass) × (get_elem? views j ≡ some u)). others_cut past pass n k (sym mine.one) new.0 j u h.0 u.role (lane.each j u h.1))
            (at_set views pass j w u h))
            (λ (h : (j ≡ k) × (giver_view n ≡ u)). subst (λ (z : ℕ × View T). Knows later z.0 z.1 z.1.role) (λ i. (sym h.0 i, h.1 i)) first)
            (at_end vs (giver_view n) u j e);
      }

  -- what the others know stays where another pass becomes the taker's
  others_left : (past : Past T) (pass k : ℕ) → past.taker ≡ pass → (j : ℕ) (u : View T) → j ≢ pass → (role : Role)
      → Knows past j u role → Knows (record past { taker = k }) j u role
  others_left past pass k taker j u apart Taking know = absurd (apart (know.one ∙ taker))
  others_left past pass k taker j u apart Giving know = record { one = know.one; handed = know.handed }
  others_left past pass k taker j u apart Spent know = know

  pub leaves : (pass : ℕ) (v : View T) → v.role ≡ Taking → Forks IsLane pass v spent_view v
  leaves pass v takes items views lane at_pass =
      let past = lane.past in
      let mine : KnowsTaker past pass v = knows items views lane pass v Taking at_pass takes in
      let vs : List (View T) = set views pass spent_view in
      let k = length vs in
      let later : Past T = record past { taker = k } in
      let kept : KnowsTaker later k v = record {
        one = refl;
        collected = mine.collected;
        later = mine.later;
        settled = All-weaker (IsEnded past) (IsEnded later) (λ s e. record { none = e.none; all = e.all }) v.settled mine.settled;
      } in record {
        past = later;
        delivered = lane.delivered;
        each = λ j u e. ⊎_elim
            (λ (h : get_elem? vs j ≡ some u). ⊎_elim
            (λ (h : (j ≡ pass) × (spent_view ≡ u)). subst (λ (z : View T). Knows later j z z.role) h.1 tt)
            (λ (h : (j ≢ pass) × (get_elem? views j ≡ some u)). others_left past pass k (sym mine.one) j u h.0 u.role (lane.each j u h.1))
            (at_set views pass j spent_view u h))
            (λ (h : (j ≡ k) × (v ≡ u)). subst (λ (z : ℕ × View T). Knows later z.0 z.1 z.1.role) (λ i. (sym h.0 i, h.1 i)) (subst (Knows later k v) (sym takes) kept))
            (at_end vs v u j e);
      }

  -- what the others know stays where a giver ends
  others_settled : (past : Past T) (pass other n : ℕ) → past.taker ≡ pass → past.seat n ≡ Some other → (j : ℕ) (u : View T) → j ≢ pass → j ≢ other → (role : Role)
      → Knows past j u role → Knows (record past { seat = at past.seat n None }) j u role
  others_settled past pass other n taker here j u apart apart' Taking know = absurd (apart (know.one ∙ taker))
  others_settled past pass other n taker here j u apart apart' Giving know = record {
    one = at_else past.seat n None u.number (λ is. apart' (same_some j other (past.seat u.number) know.one (ap past.seat is ∙ here))) ∙ know.one;
    handed = know.handed;
  }
  others_settled past pass other n taker here j u apart apart' Spent know = know

  -- no pass stands for the giver of this number any more
  none_at : (past : Past T) (n g : ℕ) → past.seat g ≡ None → at past.seat n None g ≡ None
  none_at past n g none = by_cases g n _ (λ is. at_here past.seat n None g is) (λ ne. at_else past.seat n None g ne ∙ none)

  pub settles : (pass : ℕ) (v : View T) (other : ℕ) (u : View T) → v.role ≡ Taking → u.role ≡ Giving
      → Merges IsLane pass v other u (with_settled v u.number u.handed) spent_view
  settles pass v other u takes gives items views lane at_pass two at_other =
      let past = lane.past in
      let both : View T = with_settled v u.number u.handed in
      let vs : List (View T) = set views pass both in
      let n = u.number in
      let mine : KnowsTaker past pass v = knows items views lane pass v Taking at_pass takes in
      let was : get_elem? views other ≡ some u = ⊎_elim
      (λ (h : (other ≡ pass) × (both ≡ u)). absurd (two h.0))
      (λ (h : (other ≢ pass) × (get_elem? views other ≡ some u)). h.1)
      (at_set views pass other both u at_other) in
      let theirs : KnowsGiver past other u = knows items views lane other u Giving was gives in
      let later : Past T = record past { seat = at past.seat n None } in
      let ends : IsEnded later (ended n u.handed) = record { none = at_here past.seat n None n refl; all = theirs.handed } in
      let kept : KnowsTaker later pass both = record {
        one = mine.one;
        collected = mine.collected;
        later = λ g low. let l = mine.later g low in (none_at past n g l.0, l.1);
        settled = All-push (IsEnded later) v.settled (ended n u.handed)
            (All-weaker (IsEnded past) (IsEnded later) (λ s e. record { none = none_at past n s.giver e.none; all = e.all }) v.settled mine.settled) ends;
      } in record {
        past = later;
        delivered = lane.delivered;
        each = λ j y e. ⊎_elim
            (λ (h : (j ≡ other) × (spent_view ≡ y)). subst (λ (z : View T). Knows later j z z.role) h.1 tt)
            (λ (h : (j ≢ other) × (get_elem? vs j ≡ some y)).
            let apart' = h.0 in ⊎_elim
            (λ (h : (j ≡ pass) × (both ≡ y)). subst (λ (z : ℕ × View T). Knows later z.0 z.1 z.1.role) (λ i. (sym h.0 i, h.1 i)) (subst (Knows later pass both) (sym takes) kept))
            (λ (h : (j ≢ pass) × (get_elem? views j ≡ some y)). others_settled past pass other n (sym mine.one) theirs.one j y h.0 apart' y.role (lane.each j y h.1))
            (at_set views pass j both y h.1))
            (at_set vs other j spent_view y e);
      }

  -- what a giver learns of what the lane holds
  pub last_held : (pass : ℕ) (v : View T) → v.role ≡ Giving → Learns IsLane pass v (λ items. HoldsLast v.number v.handed items)
  last_held pass v gives items views lane at_pass =
      let mine : KnowsGiver lane.past pass v = knows items views lane pass v Giving at_pass gives in
      (items_of v.number lane.past.got, sym (items_more v.number lane.past.got items) ∙ (lane.delivered v.number ∙ sym mine.handed))

  -- what the taker learns of it
  pub all_held : (pass : ℕ) (v : View T) → v.role ≡ Taking → Learns IsLane pass v (λ items. IsAllOf (v.collected ++ items) v.settled)
  all_held pass v takes items views lane at_pass =
      let mine : KnowsTaker lane.past pass v = knows items views lane pass v Taking at_pass takes in
      All-weaker (IsEnded lane.past) _ (λ s e. ap (λ l. items_of s.giver (l ++ items)) mine.collected ∙ (lane.delivered s.giver ∙ sym e.all)) v.settled mine.settled

  -- where all was collected and held, what was collected begins it
  pub order_of_all : (collected items : List (Handed T)) (settled : List (Settled T)) → IsAllOf (collected ++ items) settled → IsInOrder collected settled
  order_of_all collected items settled all =
      All-weaker (λ s. items_of s.giver (collected ++ items) ≡ s.handed) (λ s. Begins s.handed (items_of s.giver collected)) (λ s e. (items_of s.giver items, sym (items_more s.giver collected items) ∙ e)) settled all

  -- where the lane holds nothing, all was collected
  pub all_of_none : (collected items : List (Handed T)) (settled : List (Settled T)) → length items ≡ 0 → IsAllOf (collected ++ items) settled → IsAllOf collected settled
  all_of_none collected items settled none all = subst (λ l. IsAllOf l settled) (ap (λ l. collected ++ l) (nothing items none) ∙ append-nil collected) all
