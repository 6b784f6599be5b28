-- The steps that move no slot: draw, look, close, those on the count, and those on the gate and the round.
use Rattle.std.proofs.Common.{◌≡◌, ◌≢◌, ℕ, ◌+◌, ◌-◌, ◌*◌, ◌%◌, ◌<◌, max, List, [], ◌∷◌, ◌++◌, Bool, true}
use Rattle.std.proofs.Common.{false, cond, eqb, get_or, set, sym, refl, ap, ◌∙◌, subst, arith, Option}
use Rattle.std.proofs.Common.{None, length-set, get_or-set_other, get_or-set_same}
use mathlib.Core.Option.{some, none}
use lib.ListN.{get_elem?}
use lib.Seq.{set-get_or}
use Rattle.atomic_table.specs.Table.{State, Me, step, keeps, Allows}
use Rattle.hx_base.specs.declared.numbers.SessionNo.{SessionNo}
use Rattle.hx_base.specs.declared.numbers.ConnId.{ConnId}
use Rattle.hx_base.specs.declared.numbers.PlaceNo.{PlaceNo}
use Rattle.hx_base.specs.declared.what.What.{What}
use Rattle.hx_base.specs.Shown.{Shown}
use Rattle.hx_base.specs.PlaceWords.{IsPlaceState, place_word}
use Rattle.hx_pool.specs.declared.board.BoardTerms.{BoardTerms}
use Rattle.hx_pool.specs.declared.entries.Entry.TheVariants.{Open, Close, Look, Up, Down, Count, Gate, SetGate, Round}
use Rattle.hx_pool.specs.declared.entries.Found.{Found}
use Rattle.hx_pool.specs.declared.entries.Note.{Note}
use Rattle.hx_pool.specs.Table.{empty_table, Table, HeldBy, Spot, Needs, after, found_of, spot_no, IsInRow}
use Rattle.hx_pool.specs.History.{plain, thread_of, own_of, table_after, opens_of, is_open}
use Rattle.hx_pool.specs.Rules.{MayFollow}
use Rattle.hx_pool.specs.Opening.{open_limit}
use Rattle.hx_pool.specs.Held.{Has, hold_from}
use Rattle.hx_pool.proofs.Holding.{holds_along}
use Rattle.hx_pool.proofs.Tables.{sound_empty}
use Rattle.hx_places.specs.declared.view.View.{View}
use Rattle.hx_places.specs.declared.view.Role.TheVariants.{Works}
use Rattle.hx_places.specs.Turns.{turn_of, MayTurn, Settled}
use Rattle.hx_places.specs.Right.{IsPlainNote, IsRight}
use Rattle.hx_places.specs.Views.{noting, Adds, noted, drew, looked}
use Rattle.hx_base.specs.declared.place_word.PlaceState.{PlaceState}
use Rattle.hx_base.specs.declared.place_word.PlaceState.TheVariants as state
use Rattle.hx_places.specs.Words.{Heads, HeadsOf, spot_of, word_no}
use Rattle.hx_places.specs.Rule.{Home, Lies, Sees}
use Rattle.hx_places.proofs.Rightness.{counted_at, table_more}
use Rattle.hx_places.proofs.Summing.{count_low, due_counts}
use Rattle.hx_places.proofs.Opens.{next_small}
use Rattle.hx_places.proofs.Frame.{only_same, St, Rule, Ok, knows, one_step, whole_own}

-- a connection that the seat's own entries say a session has is with it in the table
pub has_at : (log : List Note) (v : View) (b : BoardTerms) (n : SessionNo) (i uses : ℕ) → IsRight b log → Sees log v
    → Has v.mine n i uses → ((table_after log).conns i ≡ HeldBy v.thread n) × ((table_after log).uses i ≡ uses)
has_at log v b n i uses right k has = holds_along empty_table log v.thread i None sound_empty right.legal (λ j e. cc)
    (record { session = n; uses = uses })
    (ap (hold_from i None) (sym (whole_own log v k)) ∙ has)

shut_of : (b : Bool) → eqb (cond b 1 0) 1 ≡ b
shut_of true = refl
shut_of false = refl

module _ {V : Type 0} (shows : V → Shown) (b : BoardTerms) where
  abbrev R : State (Option V) View → Type 0
  R = Rule shows b

  abbrev M : Type 0
  M = Me (Option V) View

  -- an entry that changes no place, at a step that sets one of the first words
  pub head_step : (s : St shows b) (r : R s) (i x id : ℕ) (v : View) (e e' : Note) → i < 4 → v.role ≡ Works
      → thread_of e.entry ≡ v.thread → IsPlainNote e → Needs (table_after r.log) e.entry
      → MayFollow b.rules.mode (table_after r.log) e.entry
      → MayTurn b.rules.max (turn_of v.mine) e.entry → (is_open e ≡ true → opens_of v.mine < open_limit v.thread)
      → HeadsOf (set s.words i x) (after (table_after r.log) e)
      → ((p : ℕ) → (after (table_after r.log) e).spots p ≡ (table_after r.log).spots p)
      → (after (table_after r.log) e).whats ≡ (table_after r.log).whats
      → get_elem? s.views id ≡ some v → e' ≡ e
      → R (record { words = set s.words i x; homes = s.homes; views = set s.views id (noting v v.hand r.log e) })
      × ((a : Adds v.hand v (noting v v.hand r.log e) e') × (r.log ≡ v.seen ++ a.between))
      × IsRight b (r.log ++ e ∷ [])
  head_step s r i x id v e e' low works mine beside need mode turn room heads spots whats here is =
      let k = knows shows b s r id v Works here works in
      one_step shows b s r id v v.hand e e' (set s.words i x) s.homes r.states here works record {
        mine = mine;
        need = need;
        mode = mode;
        turn = turn;
        room = room;
        beside = beside;
        wide = length-set s.words i x;
        deep = refl;
        heads = heads;
        places = λ p l. subst
            (λ (z : ℕ × Spot). Ok shows b (after (table_after r.log) e).whats z.0 (get_elem? s.homes p) z.1
            (r.states p)) (λ c. (sym (get_or-set_other s.words i (p + 4) x 0 (λ e. omega arith)) c, sym (spots p) c))
            (subst (λ (w : ℕ → Option What). Ok shows b w (get_or s.words (p + 4) 0) (get_elem? s.homes p)
            ((table_after r.log).spots p) (r.states p)) (sym whats) (r.each_place p l));
        fills = k.3;
        only = only_same v.thread r.states;
      } is

  -- at a load nothing is written
  loaded : (s : St shows b) (i id : ℕ) (w : View)
      → R (record { words = s.words; homes = s.homes; views = set s.views id w })
      → R (record { words = set s.words i (get_or s.words i 0); homes = s.homes; views = set s.views id w })
  loaded s i id w k = subst (λ (ws : List ℕ). R record { words = ws; homes = s.homes; views = set s.views id w })
      (sym (set-get_or s.words i 0)) k

  head_set : (s : St shows b) (r : R s) (i j x : ℕ) → i ≢ j → get_or (set s.words i x) j 0 ≡ get_or s.words j 0
  head_set s r i j x ne = get_or-set_other s.words i j x 0 (λ e. ne (sym e))

  pub draws : (slots id : ℕ) (me : M) (entry : ℕ → Note) (n : SessionNo) → me.0.role ≡ Works → n.0 ≢ 0
      → ((k : ℕ) → entry k ≡ plain (Open me.0.thread n (record { 0 = k })))
      → opens_of me.0.mine < open_limit me.0.thread
      → ((k : ℕ) → MayTurn b.rules.max (turn_of me.0.mine) (Open me.0.thread n (record { 0 = k })))
      → Allows R slots id me 1 (λ k. (k + 1) % 18446744073709551616) (drew entry (step slots 1 1 0 none) me)
  draws slots id me entry n works nonzero is room turn s r deep here small =
      let v : View = me.0 in
      let k : ℕ = get_or s.words 1 0 in
      let e : Note = plain (Open v.thread n (record { 0 = k })) in
      let few = r.few_threads in
      let low = next_small b r.log r.right few.1 in
      let next : k ≡ (table_after r.log).next = r.heads.next_is in
      let x : ℕ = (k + 1) % 18446744073709551616 in
      let up : x ≡ k + 1 = omega arith in
      let wide = r.wide in
      let pos = r.right.opened in
      let did = head_step s r 1 x id v e (entry k) (omega arith) works refl refl (nonzero, next) tt (turn k) (λ _. room)
      record {
        gate_is = get_or-set_other s.words 1 0 x 0 (λ e. omega arith) ∙ r.heads.gate_is;
        next_is = get_or-set_same s.words 1 x 0 (omega arith) ∙ (up ∙ ap (λ z. z + 1) next);
        count_is = get_or-set_other s.words 1 2 x 0 (λ e. omega arith) ∙ r.heads.count_is;
        round_is = get_or-set_other s.words 1 3 x 0 (λ e. omega arith) ∙ r.heads.round_is;
      } (λ p. refl) refl here (is k) in
      let low' = next_small b (r.log ++ e ∷ []) did.2 few.1 in
      let more = ap (λ (T : Table). T.next) (table_more r.log e) in (
        noting v v.hand r.log e,
        keeps,
        tt,
        did.0,
        ((refl, did.1.0), omega arith, omega arith),
      )

  pub closes : (slots id : ℕ) (me : M) (entry : ℕ → Note) (n : SessionNo) (i : ConnId) (uses : ℕ) → me.0.role ≡ Works
      → Has me.0.mine n i.0 uses → ((x : ℕ) → entry x ≡ plain (Close me.0.thread n i))
      → MayTurn b.rules.max (turn_of me.0.mine) (Close me.0.thread n i)
      → Allows R slots id me 1 (λ x. x) (noted entry (step slots 1 0 0 none) me)
  closes slots id me entry n i uses works has is turn s r deep here small =
      let v : View = me.0 in
      let e : Note = plain (Close v.thread n i) in
      let k = knows shows b s r id v Works here works in
      let did = head_step s r 1 (get_or s.words 1 0) id v e (entry (get_or s.words 1 0))
      (omega arith) works refl refl (has_at r.log v b n i.0 uses r.right k.2 has).0 tt turn (λ no. absurd (cc))
      (subst (λ ws. HeadsOf ws (after (table_after r.log) e))
      (sym (set-get_or s.words 1 0)) record {
        gate_is = r.heads.gate_is;
        next_is = r.heads.next_is;
        count_is =
            r.heads.count_is;
        round_is = r.heads.round_is;
      }) (λ p. refl) refl here (is _) in
      (noting v v.hand r.log e, keeps, tt, did.0, (refl, did.1.0))

  -- the state of a place is one that a word can show
  pub state_fine : (whats : ℕ → Option What) (home : Home V) (c : PlaceState) → Lies shows b.server whats home c
      → IsPlaceState c
  state_fine whats home state.Vacant l = tt
  state_fine whats home state.Filling l = tt
  state_fine whats home (state.Resting f) l = l.fine
  state_fine whats home (state.Taken t) l = l.1

  pub looks : (slots id : ℕ) (me : M) (entry : ℕ → Note) (place : PlaceNo) (i : ℕ) → me.0.role ≡ Works
      → i ≡ word_no place → spot_no place < 64 * b.threads → IsInRow place
      → ((c : PlaceState) → IsPlaceState c
      → entry (place_word c) ≡ plain (Look me.0.thread place (found_of (spot_of c))))
      → ((found : Found) → MayTurn b.rules.max (turn_of me.0.mine) (Look me.0.thread place found))
      → Allows R slots id me i (λ x. x) (looked entry (step slots i 0 0 none) me)
  looks slots id me entry place i works at_i inside row is turn s r deep here small =
      let v : View = me.0 in
      let x : ℕ = get_or s.words i 0 in
      let p : ℕ = spot_no place in
      let c : PlaceState = r.states p in
      let ok = r.each_place p inside in
      let fine = state_fine (table_after r.log).whats (get_elem? s.homes p) c ok.lies in
      let word : place_word c ≡ x = sym ok.shown ∙ sym (ap (λ (z : ℕ). get_or s.words z 0) at_i) in
      let e : Note = plain (Look v.thread place (found_of (spot_of c))) in
      let said : entry x ≡ e = ap entry (sym word) ∙ is c fine in
      let k = knows shows b s r id v Works here works in
      let did = one_step shows b s r id v v.hand e (entry x) s.words s.homes r.states here works record {
        mine = refl;
        need = (row, sym (ap found_of ok.stands));
        mode = tt;
        turn = turn (found_of (spot_of c));
        room = λ no. absurd (cc);
        beside = refl;
        wide = refl;
        deep = refl;
        heads = r.heads;
        places = r.each_place;
        fills = k.3;
        only = only_same v.thread r.states;
      } said in (
        noting v v.hand r.log e,
        keeps,
        tt,
        loaded s i id (noting v v.hand r.log e) did.0,
        ((refl, did.1.0), (c, fine, word)),
      )

  -- the first words after a step on the count
  heads_count : (s : St shows b) (r : R s) (x c : ℕ) → x ≡ c
      → Heads (set s.words 2 x) (table_after r.log).draining (table_after r.log).next c (table_after r.log).round
  heads_count s r x c is = let wide = r.wide in record {
    gate_is = get_or-set_other s.words 2 0 x 0 (λ e. omega arith) ∙ r.heads.gate_is;
    next_is = get_or-set_other s.words 2 1 x 0 (λ e. omega arith) ∙ r.heads.next_is;
    count_is = get_or-set_same s.words 2 x 0 (omega arith) ∙ is;
    round_is = get_or-set_other s.words 2 3 x 0 (λ e. omega arith) ∙ r.heads.round_is;
  }

  heads_gate : (s : St shows b) (r : R s) (x : ℕ) (d : Bool) → x ≡ cond d 1 0
      → Heads (set s.words 0 x) d (table_after r.log).next (table_after r.log).count (table_after r.log).round
  heads_gate s r x d is = let wide = r.wide in record {
    gate_is = get_or-set_same s.words 0 x 0 (omega arith) ∙ is;
    next_is = get_or-set_other s.words 0 1 x 0 (λ e. omega arith) ∙ r.heads.next_is;
    count_is = get_or-set_other s.words 0 2 x 0 (λ e. omega arith) ∙ r.heads.count_is;
    round_is = get_or-set_other s.words 0 3 x 0 (λ e. omega arith) ∙ r.heads.round_is;
  }

  heads_round : (s : St shows b) (r : R s) (x n : ℕ) → x ≡ n
      → Heads (set s.words 3 x) (table_after r.log).draining (table_after r.log).next (table_after r.log).count n
  heads_round s r x n is = let wide = r.wide in record {
    gate_is = get_or-set_other s.words 3 0 x 0 (λ e. omega arith) ∙ r.heads.gate_is;
    next_is = get_or-set_other s.words 3 1 x 0 (λ e. omega arith) ∙ r.heads.next_is;
    count_is = get_or-set_other s.words 3 2 x 0 (λ e. omega arith) ∙ r.heads.count_is;
    round_is = get_or-set_same s.words 3 x 0 (omega arith) ∙ is;
  }

  pub ups : (slots id : ℕ) (me : M) (entry : ℕ → Note) → me.0.role ≡ Works
      → ((k : ℕ) → entry k ≡ plain (Up me.0.thread k))
      → ((k : ℕ) → MayTurn b.rules.max (turn_of me.0.mine) (Up me.0.thread k))
      → Allows R slots id me 2 (λ k. (k + 1) % 18446744073709551616) (noted entry (step slots 2 1 0 none) me)
  ups slots id me entry works is turn s r deep here small =
      let v : View = me.0 in
      let k : ℕ = get_or s.words 2 0 in
      let threads = r.few_threads in
      let low = count_low b.rules.max b.threads (table_after r.log) _ threads.1
      (counted_at b r.log r.right) r.right.sums in
      let now : k ≡ (table_after r.log).count = r.heads.count_is in
      let x : ℕ = (k + 1) % 18446744073709551616 in
      let did = head_step s r 2 x id v (plain (Up v.thread k)) (entry k) (omega arith) works refl refl now tt
      (turn k) (λ no. absurd (cc)) (heads_count s r x ((table_after r.log).count + 1) (omega arith))
      (λ p. refl) refl here (is k) in
      (noting v v.hand r.log (plain (Up v.thread k)), keeps, tt, did.0, (refl, did.1.0))

  pub downs : (slots id : ℕ) (me : M) (entry : ℕ → Note) → me.0.role ≡ Works
      → ((k : ℕ) → entry k ≡ plain (Down me.0.thread k))
      → ((k : ℕ) → MayTurn b.rules.max (turn_of me.0.mine) (Down me.0.thread k))
      → Allows R slots id me 2 (λ k. (k + (18446744073709551616 - 1)) % 18446744073709551616)
      (noted entry (step slots 2 1 0 none) me)
  downs slots id me entry works is turn s r deep here small =
      let v : View = me.0 in
      let k : ℕ = get_or s.words 2 0 in
      let threads = r.few_threads in
      let kn = knows shows b s r id v Works here works in
      let own = kn.0 in
      let low = count_low b.rules.max b.threads (table_after r.log) _ threads.1
      (counted_at b r.log r.right) r.right.sums in
      let now : k ≡ (table_after r.log).count = r.heads.count_is in
      let due : (turn_of (own_of v.thread r.log)).due ≢ Settled =
      subst (λ m. (turn_of m).due ≢ Settled) (whole_own r.log v kn.2) (turn k).0 in
      let some_count =
      due_counts b.rules.max b.threads (table_after r.log) _ v.thread.0 (omega arith) due r.right.sums in
      let x : ℕ = (k + (18446744073709551616 - 1)) % 18446744073709551616 in
      let did = head_step s r 2 x id v (plain (Down v.thread k)) (entry k) (omega arith) works refl refl
      (now, omega arith) tt (turn k) (λ no. absurd (cc))
      (heads_count s r x ((table_after r.log).count - 1) (omega arith)) (λ p. refl) refl here (is k) in
      (noting v v.hand r.log (plain (Down v.thread k)), keeps, tt, did.0, (refl, did.1.0))

  pub counts : (slots id : ℕ) (me : M) (entry : ℕ → Note) → me.0.role ≡ Works
      → ((k : ℕ) → entry k ≡ plain (Count me.0.thread k))
      → ((k : ℕ) → MayTurn b.rules.max (turn_of me.0.mine) (Count me.0.thread k))
      → Allows R slots id me 2 (λ k. k) (noted entry (step slots 2 0 0 none) me)
  counts slots id me entry works is turn s r deep here small =
      let v : View = me.0 in
      let k : ℕ = get_or s.words 2 0 in
      let did = head_step s r 2 k id v (plain (Count v.thread k)) (entry k)
      (omega arith) works refl refl r.heads.count_is tt (turn k) (λ no. absurd (cc))
      (heads_count s r k (table_after r.log).count r.heads.count_is) (λ p. refl) refl here (is k) in
      (noting v v.hand r.log (plain (Count v.thread k)), keeps, tt, did.0, (refl, did.1.0))

  pub gates : (slots id : ℕ) (me : M) (entry : ℕ → Note) → me.0.role ≡ Works
      → ((k : ℕ) → entry k ≡ plain (Gate me.0.thread (eqb k 1)))
      → ((k : ℕ) → MayTurn b.rules.max (turn_of me.0.mine) (Gate me.0.thread (eqb k 1)))
      → Allows R slots id me 0 (λ k. k) (noted entry (step slots 0 0 0 none) me)
  gates slots id me entry works is turn s r deep here small =
      let v : View = me.0 in
      let k : ℕ = get_or s.words 0 0 in
      let e : Note = plain (Gate v.thread (eqb k 1)) in
      let shown : eqb k 1 ≡ (table_after r.log).draining = ap (λ (z : ℕ). eqb z 1) r.heads.gate_is
      ∙ shut_of (table_after r.log).draining in
      let did = head_step s r 0 k id v e (entry k) (omega arith) works refl refl shown tt (turn k)
      (λ no. absurd (cc)) (heads_gate s r k (table_after r.log).draining r.heads.gate_is) (λ p. refl) refl here
      (is k) in
      (noting v v.hand r.log e, keeps, tt, did.0, (refl, did.1.0))

  pub sets : (slots id : ℕ) (me : M) (entry : ℕ → Note) (d : Bool) (x : ℕ) → x ≡ cond d 1 0 → me.0.role ≡ Works
      → ((k : ℕ) → entry k ≡ plain (SetGate me.0.thread d))
      → MayTurn b.rules.max (turn_of me.0.mine) (SetGate me.0.thread d)
      → Allows R slots id me 0 (λ _. x) (λ _. noted entry (step slots 0 x 0 none) me x)
  sets slots id me entry d x is_x works is turn s r deep here small =
      let v : View = me.0 in
      let e : Note = plain (SetGate v.thread d) in
      let did = head_step s r 0 x id v e (entry x) (omega arith) works refl refl tt tt turn (λ no. absurd (cc))
      (heads_gate s r x d is_x) (λ p. refl) refl here (is x) in
      (noting v v.hand r.log e, keeps, tt, did.0, (refl, did.1.0))

  pub raises : (slots id : ℕ) (me : M) (entry : ℕ → Note) (k : ℕ) → me.0.role ≡ Works
      → ((y : ℕ) → entry y ≡ plain (Round me.0.thread k y))
      → ((y : ℕ) → MayTurn b.rules.max (turn_of me.0.mine) (Round me.0.thread k y))
      → Allows R slots id me 3 (λ y. max y k) (noted entry (step slots 3 k 0 none) me)
  raises slots id me entry k works is turn s r deep here small =
      let v : View = me.0 in
      let y : ℕ = get_or s.words 3 0 in
      let e : Note = plain (Round v.thread k y) in
      let did = head_step s r 3 (max y k) id v e (entry y) (omega arith) works refl refl r.heads.round_is tt (turn y)
      (λ no. absurd (cc)) (heads_round s r (max y k) (max k y) (omega arith)) (λ p. refl) refl here (is y) in
      (noting v v.hand r.log e, keeps, tt, did.0, (refl, did.1.0))
