use Rattle.std.proofs.Common.{◌≡◌, ◌≢◌, ◌+◌, ℕ, ◌∷◌, ◌++◌, refl, ap, sym, ◌∙◌, subst, arith, Some, None, Option}
use mathlib.Core.Option as maybe
use Rattle.atomic_table.specs.Table.{rest, Me, Allows, step}
use Rattle.hx_base.specs.declared.place_word.PlaceState.TheVariants as state
use Rattle.hx_base.specs.PlaceWords.{taken_word, place_word}
use Rattle.hx_pool.specs.declared.entries.Found.{Found}
use Rattle.hx_pool.specs.Table.{spot_no}
use Rattle.hx_pool.specs.Rules.{allows}
use Rattle.hx_pool.specs.History.{plain}
use Rattle.hx_pool.specs.Taking.{taken}
use Rattle.hx_pool.specs.declared.entries.Entry.TheVariants.{Look, Free}
use Rattle.hx_places.specs.declared.view.View.{View}
use Rattle.hx_places.specs.Turns.{turn_of}
use Rattle.hx_places.specs.Views.{Won, WasThere, carried_of, vacated}
use Rattle.hx_places.specs.Rule.{Kept}
use Rattle.hx_places.proofs.Slots.{takes_at, vacates, found_other}
use Rattle.hx_places.proofs.Seating.{at_ease, after_note, notes_of, try_take, try_look, takes_from, took_turn}
use Rattle.hx_places.proofs.Seating.{took_known, took_face, frees_from, stands_of, slot_value, some_value, is_some_of}
use Rattle.hx_places.proofs.seat.PlaceSeat.took_at.Goals as goal

pub compare_exchange-word-requires : goal.compare_exchange-word-requires
compare_exchange-word-requires g c =
    let i = c.self.invariant in
    let k = i.5 in
    let w = i.1 in
    let me = c.self.inside.token.me in
    let v = me.0 in
    let f = c.args.face in
    let p : ℕ = spot_no c.args.place in
    let key = c.self.inside.shared.now.key in
    let threads = ap (λ t. t.threads) i.3 in
    let terms = k.terms ∙ sym i.3 in
    let same = ap (λ t. t.threads) k.terms in
    let at = rw (← c.self.view_is) at c.requires.place in
    let low = at.0 in
    let in_row = at.1 in
    let number = c.word_at-at.ensures in
    let takes = rw (← c.self.view_is) at c.requires.takes in
    let turn = rw (← c.self.view_is) at c.requires.turn in
    let won = rw (← c.self.view_is) at c.requires.won in
    let lost = rw (← c.self.view_is) at c.requires.lost in
    let thread = ap (λ t. t.0) k.thread in (
      i.0,
      omega arith,
      takes_at g.V.Faced.shows key _ c.self.inside.token.id me g.W.Says.note c.args.n c.args.first f c.args.place _
          c.pack_place-resting.result c.pack_place-leaving.result k.role number (omega arith) in_row
          takes.face c.pack_place-resting.ensures.word
          (c.pack_place-leaving.ensures.word ∙ ap taken_word (sym thread)) won lost
          (λ some. ap (λ t. allows t.rules.mode c.args.first f.uses) (sym terms) ∙ takes.may some)
          (turn.settled, try_take (turn_of v.mine).call c.args.place f v.thread c.args.n c.args.first turn.try_)
          (λ found other. (tt, try_look (turn_of v.mine).call c.args.place f v.thread found other turn.try_)),
    )

pub exchange-rested-requires : goal.exchange-rested-requires
exchange-rested-requires g c =
    let i = c.self.invariant in
    let k = i.5 in
    let me = c.self.inside.token.me in
    let v = me.0 in
    let f = c.args.face in
    let said = rw (← c.self.view_is) at c.requires.won in
    let m1 = c.compare_exchange-word.new.seat.me in
    let slot : ℕ = c.slot_at-slot.result in
    let word : ℕ = c.compare_exchange-word.result in
    let hit = c.if-word-resting.false in
    let won : Won g.V.Faced.shows slot me m1 (g.W.Says.note word) =
    c.compare_exchange-word.ensures.2.0 hit slot
    (c.word_at-at.ensures ∙ ap (λ (z : ℕ). z + 4) (sym c.slot_at-slot.ensures)) in
    let is : g.W.Says.note word ≡ taken v.thread c.args.n c.args.first c.args.place f =
    ap g.W.Says.note (hit ∙ c.pack_place-resting.ensures.word) ∙ said in
    let a = takes_from g.V.Faced.shows slot me m1 _ (taken v.thread c.args.n c.args.first c.args.place f) won
    (sym is) in (
      c.compare_exchange-word.ensures.0 ∙ i.0,
      (Some won.v, won.carried ∙ ap (λ x. (slot, Some won.v) ∷ x) (ap rest (sym won.carried))),
    )

pub store-requires : goal.store-requires
store-requires g c =
    let i = c.self.invariant in
    let k = i.5 in
    let me = c.self.inside.token.me in
    let v = me.0 in
    let f = c.args.face in
    let said = rw (← c.self.view_is) at c.requires.won in
    let w = i.1 in
    let p : ℕ = spot_no c.args.place in
    let key = c.self.inside.shared.now.key in
    let threads = ap (λ t. t.threads) i.3 in
    let same = ap (λ t. t.threads) k.terms in
    let at = rw (← c.self.view_is) at c.requires.place in
    let low = at.0 in
    let in_row = at.1 in
    let number = c.word_at-at.ensures in
    let freed = rw (← c.self.view_is) at c.requires.freed in
    let m1 = c.compare_exchange-word.new.seat.me in
    let slot : ℕ = c.slot_at-slot.result in
    let word : ℕ = c.compare_exchange-word.result in
    let hit = c.if-word-resting.false in
    let won : Won g.V.Faced.shows slot me m1 (g.W.Says.note word) =
    c.compare_exchange-word.ensures.2.0 hit slot
    (c.word_at-at.ensures ∙ ap (λ (z : ℕ). z + 4) (sym c.slot_at-slot.ensures)) in
    let is : g.W.Says.note word ≡ taken v.thread c.args.n c.args.first c.args.place f =
    ap g.W.Says.note (hit ∙ c.pack_place-resting.ensures.word) ∙ said in
    let a = takes_from g.V.Faced.shows slot me m1 _ (taken v.thread c.args.n c.args.first c.args.place f) won
    (sym is) in
    let thread : m1.0.thread ≡ v.thread = ap (λ x. x.thread) a.0.view in
    let slots = c.self.inside.shared.now.table_id.slots in
    let zero : ℕ = c.pack_place-vacant.result in (
      c.exchange-rested.ensures.0 ∙ (c.compare_exchange-word.ensures.0 ∙ i.0),
      omega arith,
      subst (λ (m : Me (Option g.row.V.Denot) View). Allows
          (Kept g.V.Faced.shows key) slots c.exchange-rested.new.seat.id m c.word_at-at.result (λ _. zero)
          (λ _. vacated g.F.Says.note (step slots c.word_at-at.result zero 0 maybe.none) m zero))
          (sym c.exchange-rested.ensures.3)
          (vacates g.V.Faced.shows key _ c.exchange-rested.new.seat.id
          (m1.0, (slot, None) ∷ rest m1.1) g.F.Says.note c.args.place (rest m1.1) c.word_at-at.result zero
          (ap (λ x. x.role) a.0.view ∙ k.role) number c.pack_place-vacant.ensures.word (omega arith) in_row
          (ap (λ (z : ℕ). (z, None) ∷ rest m1.1) c.slot_at-slot.ensures)
          (took_known v.hand v m1.0 v.thread c.args.n c.args.first c.args.place f a.0)
          (λ y. freed y ∙ ap (λ t. plain (Free t c.args.place)) (sym thread))
          (at_ease key.rules.max (turn_of m1.0.mine) (Free m1.0.thread c.args.place)
          (took_turn v.hand v m1.0 v.thread c.args.n c.args.first c.args.place f a.0) tt)),
    )

pub unwrap-requires : goal.unwrap-requires
unwrap-requires g c =
    let i = c.self.invariant in
    let k = i.5 in
    let me = c.self.inside.token.me in
    let v = me.0 in
    let f = c.args.face in
    let said = rw (← c.self.view_is) at c.requires.won in
    let m1 = c.compare_exchange-word.new.seat.me in
    let slot : ℕ = c.slot_at-slot.result in
    let word : ℕ = c.compare_exchange-word.result in
    let hit = c.if-word-resting.false in
    let won : Won g.V.Faced.shows slot me m1 (g.W.Says.note word) =
    c.compare_exchange-word.ensures.2.0 hit slot
    (c.word_at-at.ensures ∙ ap (λ (z : ℕ). z + 4) (sym c.slot_at-slot.ensures)) in
    let is : g.W.Says.note word ≡ taken v.thread c.args.n c.args.first c.args.place f =
    ap g.W.Says.note (hit ∙ c.pack_place-resting.ensures.word) ∙ said in
    let a = takes_from g.V.Faced.shows slot me m1 _ (taken v.thread c.args.n c.args.first c.args.place f) won
    (sym is) in
    is_some_of c.exchange-rested.result won.v
    (slot_value slot c.exchange-rested.result (Some won.v) m1.1 _ _ c.exchange-rested.ensures.2 won.carried)

pub invariant_of-self-2 : goal.invariant_of-self-2
invariant_of-self-2 g c =
    let i = c.self.invariant in
    let k = i.5 in
    let me = c.self.inside.token.me in
    let v = me.0 in
    let f = c.args.face in
    let said = rw (← c.self.view_is) at c.requires.won in
    let freed = rw (← c.self.view_is) at c.requires.freed in
    let m1 = c.compare_exchange-word.new.seat.me in
    let slot : ℕ = c.slot_at-slot.result in
    let word : ℕ = c.compare_exchange-word.result in
    let hit = c.if-word-resting.false in
    let won : Won g.V.Faced.shows slot me m1 (g.W.Says.note word) =
    c.compare_exchange-word.ensures.2.0 hit slot
    (c.word_at-at.ensures ∙ ap (λ (z : ℕ). z + 4) (sym c.slot_at-slot.ensures)) in
    let is : g.W.Says.note word ≡ taken v.thread c.args.n c.args.first c.args.place f =
    ap g.W.Says.note (hit ∙ c.pack_place-resting.ensures.word) ∙ said in
    let a = takes_from g.V.Faced.shows slot me m1 _ (taken v.thread c.args.n c.args.first c.args.place f) won
    (sym is) in
    let now = c.exchange-rested.ensures.3 in
    let did = c.store.ensures.2 in
    let b = frees_from v.hand m1.0 c.exchange-rested.new.seat.me.0 c.store.new.seat.me.0 _ _ (ap (λ m. m.0) now)
    (ap (λ x. x.hand) a.0.view) (freed c.pack_place-vacant.result) did.1 in
    let k1 = after_note c.self.inside.terms c.self.inside.thread c.self.inside.opened c.self.inside.opened v.hand v
    m1.0 _ k a.0 k.thread (omega arith) in (
      c.store.ensures.0 ∙ (c.exchange-rested.ensures.0 ∙ (c.compare_exchange-word.ensures.0 ∙ i.0)),
      i.1,
      i.2,
      i.3,
      did.0 ∙ (ap (λ m. rest m.1) now ∙ (ap rest won.carried ∙ (i.4 ∙ ap (λ x. carried_of x.hand) (sym b.view)))),
      after_note c.self.inside.terms c.self.inside.thread c.self.inside.opened c.self.inside.opened v.hand m1.0
          c.store.new.seat.me.0 (plain (Free v.thread c.args.place)) k1 b k.thread (omega arith),
    )

pub returns : goal.returns
returns g c =
    let i = c.self.invariant in
    let k = i.5 in
    let me = c.self.inside.token.me in
    let v = me.0 in
    let f = c.args.face in
    let said = rw (← c.self.view_is) at c.requires.won in
    let freed = rw (← c.self.view_is) at c.requires.freed in
    let m1 = c.compare_exchange-word.new.seat.me in
    let slot : ℕ = c.slot_at-slot.result in
    let word : ℕ = c.compare_exchange-word.result in
    let hit = c.if-word-resting.false in
    let won : Won g.V.Faced.shows slot me m1 (g.W.Says.note word) =
    c.compare_exchange-word.ensures.2.0 hit slot
    (c.word_at-at.ensures ∙ ap (λ (z : ℕ). z + 4) (sym c.slot_at-slot.ensures)) in
    let is : g.W.Says.note word ≡ taken v.thread c.args.n c.args.first c.args.place f =
    ap g.W.Says.note (hit ∙ c.pack_place-resting.ensures.word) ∙ said in
    let a = takes_from g.V.Faced.shows slot me m1 _ (taken v.thread c.args.n c.args.first c.args.place f) won
    (sym is) in
    let now = c.exchange-rested.ensures.3 in
    let did = c.store.ensures.2 in
    let value : won.v ≡ c.unwrap.result =
    some_value won.v c.unwrap.result
    (sym (slot_value slot c.exchange-rested.result (Some won.v) m1.1 _ _ c.exchange-rested.ensures.2 won.carried)
    ∙ c.unwrap.ensures) in
    let b = frees_from v.hand m1.0 c.exchange-rested.new.seat.me.0 c.store.new.seat.me.0 _ _ (ap (λ m. m.0) now)
    (ap (λ x. x.hand) a.0.view) (freed c.pack_place-vacant.result) did.1 in
    let k1 = after_note c.self.inside.terms c.self.inside.thread c.self.inside.opened c.self.inside.opened v.hand v
    m1.0 _ k a.0 k.thread (omega arith) in
    let there = subst (λ (z : ℕ × g.row.V.Denot). WasThere v.terms (v.seen ++ a.0.between) z.0 (g.V.Faced.shows z.1))
    (λ j. (c.slot_at-slot.ensures j, value j)) a.1 in
    rw (← c.self.view_is) (record {
      answer = record {
        was = stands_of c.self.inside.terms c.self.inside.thread c.self.inside.opened v k;
        one = stands_of c.self.inside.terms c.self.inside.thread c.self.inside.opened c.store.new.seat.me.0
            (after_note c.self.inside.terms c.self.inside.thread c.self.inside.opened c.self.inside.opened v.hand m1.0
            c.store.new.seat.me.0 (plain (Free v.thread c.args.place)) k1 b k.thread (omega arith));
        board = c.store.ensures.0 ∙ (c.exchange-rested.ensures.0 ∙ c.compare_exchange-word.ensures.0);
        middle = m1.0;
        takes = a.0;
        frees = b;
        there = there;
        face = took_face v.hand v m1.0 v.thread c.args.n c.args.first c.args.place f
            (g.V.Faced.shows c.unwrap.result) a.0 there;
      };
    })

pub returns-then-word-resting : goal.returns-then-word-resting
returns-then-word-resting g c =
    let s = c.self.inside in
    let f = c.args.face in
    let lost = rw (← c.self.view_is) at c.requires.lost in
    let miss = c.if-word-resting.true in
    let did = c.compare_exchange-word.ensures.2.1 miss in
    let here = did.1 in
    let other : here.0 ≢ state.Resting f =
    λ same. miss (sym here.2 ∙ (ap place_word same ∙ sym c.pack_place-resting.ensures.word)) in
    let shown = c.shown_by.ensures here.0 here.1 here.2 in
    let entry = ap g.W.Says.note (sym here.2)
    ∙ (lost here.0 here.1 other
    ∙ ap (λ (x : Found). plain (Look s.token.me.0.thread c.args.place x)) (sym shown)) in
    rw (← c.self.view_is) (record {
      answer = record {
        notes = notes_of s.token.table_id c.compare_exchange-word.new.seat.table_id s.terms s.thread s.opened
            s.opened s.token.me.0 c.compare_exchange-word.new.seat.me.0 _ _ c.self.invariant.5
            c.compare_exchange-word.ensures.0 entry refl (omega arith) did.0.1;
        other = λ same. found_other here.0 f other (sym shown ∙ same);
      };
    })
