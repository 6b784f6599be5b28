use Rattle.std.proofs.Common.{refl, ap, sym, ◌∙◌, arith}
use Rattle.hx_pool.specs.declared.entries.Entry.TheVariants.{Look}
use Rattle.hx_pool.specs.declared.entries.Found.{Found}
use Rattle.hx_pool.specs.History.{plain}
use Rattle.hx_places.specs.Turns.{turn_of}
use Rattle.hx_places.proofs.Heads.{looks}
use Rattle.hx_places.proofs.Seating.{at_ease, notes_of}
use Rattle.hx_places.proofs.seat.PlaceSeat.looked.Goals as goal

pub load-word-requires : goal.load-word-requires
load-word-requires g c =
    let i = c.self.invariant in
    let k = i.5 in
    let w = i.1 in
    let v = c.self.inside.token.me.0 in
    let ease = rw (← c.self.view_is) at c.requires.ease in
    let threads = ap (λ t. t.threads) i.3 in
    let at = rw (← c.self.view_is) at c.requires.place in
    let same = ap (λ t. t.threads) k.terms in
    let low = at.0 in
    let in_row = at.1 in
    let number = c.word_at-at.ensures in
    let said = rw (← c.self.view_is) at c.requires.said in (
      i.0,
      omega arith,
      looks g.V.Faced.shows c.self.inside.shared.now.key _ c.self.inside.token.id c.self.inside.token.me
          g.W.Says.note c.args.place _ k.role number (omega arith) in_row said
          (λ found. at_ease c.self.inside.shared.now.key.rules.max (turn_of v.mine)
          (Look v.thread c.args.place found) ease tt),
    )

pub returns : goal.returns
returns g c =
    let s = c.self.inside in
    let said = rw (← c.self.view_is) at c.requires.said in
    let did = c.load-word.ensures.2 in
    let state = did.1 in
    let shown = c.shown_by.ensures state.0 state.1 state.2 in
    let entry = ap g.W.Says.note (sym state.2)
    ∙ (said state.0 state.1 ∙ ap (λ (f : Found). plain (Look s.token.me.0.thread c.args.place f)) (sym shown)) in
    rw (← c.self.view_is) (record {
      notes = notes_of s.token.table_id c.load-word.new.seat.table_id s.terms s.thread s.opened s.opened s.token.me.0
          c.load-word.new.seat.me.0 _ _ c.self.invariant.5 c.load-word.ensures.0 entry refl (omega arith) did.0.1;
    })
