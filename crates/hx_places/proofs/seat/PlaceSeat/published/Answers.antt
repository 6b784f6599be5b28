use Rattle.std.proofs.Common.{◌-◌, ◌<◌, ℕ, ◌∷◌, ap, sym, ◌∙◌, subst, arith, Option, Some, rules}
use mathlib.Core.Option as maybe
use Rattle.atomic_table.specs.Table.{rest, Me, Allows, step}
use Rattle.hx_base.specs.PlaceWords.{resting_word}
use Rattle.hx_pool.specs.Table.{spot_no}
use Rattle.hx_pool.specs.Parking.{parked}
use Rattle.hx_pool.specs.declared.entries.Entry.TheVariants.{Park}
use Rattle.hx_places.specs.declared.view.View.{View}
use Rattle.hx_places.specs.Turns.{turn_of, IsBelow}
use Rattle.hx_places.specs.Views.{carried_of, published}
use Rattle.hx_places.specs.Rule.{Kept}
use Rattle.hx_places.proofs.Slots.{publishes}
use Rattle.hx_places.proofs.Seating.{at_ease, after_note, has_number, publishes_from, stands_of}
use Rattle.hx_places.proofs.seat.PlaceSeat.published.Goals as goal

pub pack_place-word-requires : goal.pack_place-word-requires
pack_place-word-requires g c =
    let i = c.self.invariant in
    let k = i.5 in
    let f = (g.V.Faced.shows c.args.v).face in
    let asks = rw (← c.self.view_is) at c.requires.publishes in
    let id = ap (λ z. z.id.0) c.face-face.ensures in
    let uses = ap (λ z. z.uses) c.face-face.ensures in
    let low : c.face-face.result.uses < 65536 = search rules in
    let number =
    has_number c.self.inside.terms c.self.inside.thread c.self.inside.opened c.self.inside.token.me.0 c.args.n
    f.id.0 (f.uses - 1) k asks.parks.has in
    let a = number.0 in
    let b = number.1 in
    let used = asks.parks.used in record { state = (omega arith, omega arith, omega arith, low) }

pub store-requires : goal.store-requires
store-requires g c =
    let i = c.self.invariant in
    let k = i.5 in
    let w = i.1 in
    let me = c.self.inside.token.me in
    let v = me.0 in
    let s = g.V.Faced.shows c.args.v in
    let p : ℕ = spot_no c.args.place in
    let key = c.self.inside.shared.now.key in
    let threads = ap (λ t. t.threads) i.3 in
    let asks = rw (← c.self.view_is) at c.requires.publishes in
    let row = asks.own.0 in
    let in_row = asks.own.1 in
    let thread = ap (λ t. t.0) k.thread in
    let low = k.low in
    let number = c.word_at-at.ensures in
    let slot = c.slot_at-slot.ensures in
    let up = rw (← c.self.view_is) at c.requires.up in
    let ease = rw (← c.self.view_is) at c.requires.ease in
    let said = rw (← c.self.view_is) at c.requires.said in
    let terms = k.terms ∙ sym i.3 in
    let few : c.face-face.result.uses < 65536 = search rules in
    let uses = ap (λ z. z.uses) c.face-face.ensures in (
      c.exchange.ensures.0 ∙ i.0,
      omega arith,
      subst (λ (m : Me (Option g.row.V.Denot) View). Allows
          (Kept g.V.Faced.shows key) c.self.inside.shared.now.table_id.slots c.exchange.new.seat.id m
          c.word_at-at.result (λ _. c.pack_place-word.result)
          (λ _. published g.W.Says.note
          (step c.self.inside.shared.now.table_id.slots c.word_at-at.result c.pack_place-word.result 0
          maybe.none) m c.pack_place-word.result)) (sym c.exchange.ensures.3)
          (publishes g.V.Faced.shows key _ c.exchange.new.seat.id
          (v, (c.slot_at-slot.result, Some c.args.v) ∷ rest me.1) g.W.Says.note c.args.n c.args.place c.args.v
          (rest me.1) _ _ k.role number (omega arith) asks.claim
          (ap (λ (z : ℕ). (z, Some c.args.v) ∷ rest me.1) slot) row in_row asks.parks.session asks.parks.has
          asks.parks.used (omega arith) (asks.parks.server ∙ ap (λ t. t.server) terms)
          (c.pack_place-word.ensures.word ∙ ap (λ f. resting_word f.id.0 f.uses) c.face-face.ensures) said
          (λ e. asks.mode (ap (λ t. t.rules.mode) terms ∙ e))
          (at_ease key.rules.max (turn_of v.mine) (Park v.thread c.args.n s.face.id c.args.place s.face.uses) ease
          (up.0, up.1, subst (λ o. IsBelow o up.0) (ap (λ t. t.rules.max) terms) up.2))),
    )

pub invariant_of-self : goal.invariant_of-self
invariant_of-self g c =
    let i = c.self.invariant in
    let k = i.5 in
    let me = c.self.inside.token.me in
    let v = me.0 in
    let s = g.V.Faced.shows c.args.v in
    let did = c.store.ensures.2 in
    let now = c.exchange.ensures.3 in
    let said = rw (← c.self.view_is) at c.requires.said in
    let asks = rw (← c.self.view_is) at c.requires.publishes in
    let a = publishes_from v c.exchange.new.seat.me.0 c.store.new.seat.me.0 _ _ (ap (λ m. m.0) now)
    (said c.pack_place-word.result) did.1 in (
      c.store.ensures.0 ∙ (c.exchange.ensures.0 ∙ i.0),
      i.1,
      i.2,
      i.3,
      did.0 ∙ (ap (λ m. rest m.1) now
          ∙ (ap rest i.4 ∙ (ap (λ h. rest (carried_of h)) asks.claim ∙ ap (λ x. carried_of x.hand) (sym a.view)))),
      after_note c.self.inside.terms c.self.inside.thread c.self.inside.opened c.self.inside.opened _ v
          c.store.new.seat.me.0 (parked v.thread c.args.n c.args.place s) k a k.thread (omega arith),
    )

pub returns : goal.returns
returns g c =
    let did = c.store.ensures.2 in
    let now = c.exchange.ensures.3 in
    let said = rw (← c.self.view_is) at c.requires.said in
    let k = c.self.invariant.5 in
    let v = c.self.inside.token.me.0 in
    let a = publishes_from v c.exchange.new.seat.me.0 c.store.new.seat.me.0 _ _ (ap (λ m. m.0) now)
    (said c.pack_place-word.result) did.1 in
    rw (← c.self.view_is) (record {
      notes = record {
        board = c.store.ensures.0 ∙ c.exchange.ensures.0;
        adds = a;
        was = stands_of c.self.inside.terms c.self.inside.thread c.self.inside.opened v k;
        one = stands_of c.self.inside.terms c.self.inside.thread c.self.inside.opened c.store.new.seat.me.0
            (after_note c.self.inside.terms c.self.inside.thread c.self.inside.opened c.self.inside.opened _ v
            c.store.new.seat.me.0 (parked v.thread c.args.n c.args.place (g.V.Faced.shows c.args.v)) k a k.thread
            (omega arith));
      };
    })
