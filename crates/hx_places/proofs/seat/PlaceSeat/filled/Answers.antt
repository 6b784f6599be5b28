use Rattle.std.proofs.Common.{ℕ, ap, sym, ◌∙◌, arith, None, ◌∷◌}
use Rattle.hx_pool.specs.Table.{spot_no}
use Rattle.hx_places.specs.Views.{carried_of, claiming}
use Rattle.hx_places.proofs.Slots.{claims}
use Rattle.hx_places.proofs.Seating.{after_claim, seat_is}
use Rattle.hx_places.proofs.seat.PlaceSeat.filled.Goals as goal

pub store-requires : goal.store-requires
store-requires g c =
    let i = c.self.invariant in
    let k = i.5 in
    let w = i.1 in
    let p : ℕ = spot_no c.args.place in
    let threads = ap (λ t. t.threads) i.3 in
    let asks = rw (← c.self.view_is) at c.requires.claims in
    let row = asks.own.0 in
    let in_row = asks.own.1 in
    let thread = ap (λ t. t.0) k.thread in
    let low = k.low in
    let number = c.word_at-at.ensures in (
      i.0,
      omega arith,
      claims g.V.Faced.shows c.self.inside.shared.now.key _ c.self.inside.token.id c.self.inside.token.me p _ _
          k.role number c.pack_place-word.ensures.word (omega arith) (omega arith) asks.vacant asks.idle,
    )

pub invariant_of-self : goal.invariant_of-self
invariant_of-self g c =
    let i = c.self.invariant in
    let did = c.store.ensures.2 (spot_no c.args.place) c.word_at-at.ensures in
    let asks = rw (← c.self.view_is) at c.requires.claims in (
      c.store.ensures.0 ∙ i.0,
      i.1,
      i.2,
      i.3,
      did.1 ∙ (ap (λ l. (spot_no c.args.place, None) ∷ l) (i.4 ∙ ap carried_of asks.idle)
          ∙ ap (λ v. carried_of v.hand) (sym did.0)),
      after_claim c.self.inside.terms c.self.inside.thread c.self.inside.opened c.self.inside.token.me.0 _
          (spot_no c.args.place) i.5 did.0,
    )

pub returns : goal.returns
returns g c =
    let did = c.store.ensures.2 (spot_no c.args.place) c.word_at-at.ensures in
    rw (← c.self.view_is)
    (record {
      claims =
          seat_is c.self.inside.token.table_id _
          (claiming c.self.inside.token.me.0 (spot_no c.args.place)) _ c.store.ensures.0 did.0;
    })
