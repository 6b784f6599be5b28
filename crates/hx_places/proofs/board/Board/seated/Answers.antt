use Rattle.std.proofs.Common.{arith, ◌≡◌, ℕ, ap, ◌∙◌, subst, refl, get_or}
use Rattle.std.proofs.lemmas.Iterator.Consumers.{YieldsList-turn}
use Rattle.std.proofs.lemmas.Iterator.Adapters.{YieldsList-from_vec}
use Rattle.std.proofs.lemmas.Option.{slice_get_read}
use Rattle.hx_places.specs.Sums.{thread_at}
use Rattle.hx_places.specs.Seats.{PlaceView, first_seat}
use Rattle.hx_places.proofs.Giving.{each_more, length_snoc}
use Rattle.hx_places.proofs.board.Board.seated.Goals as goal

pub new-seat-requires-clause-few : goal.new-seat-requires-clause-few
new-seat-requires-clause-few g c =
    let inv = c.loop-token.invariant in
    let from = c.into_iter-token-iterator.ensures.into_iter_gives in
    let turn = YieldsList-turn (YieldsList-from_vec c.args.tokens.items from.0 (from.1 ∙ c.args.tokens.ok.0))
    c.loop-token.yielded c.loop-token.token-iterator c.loop-token.yielded_by c.next.result c.next.new.self
    c.in-Some.token c.in-Some.is c.next.ensures.steps in
    (c.args.self.now.sized.2, omega (arith, turn.0, inv.taken, c.requires.tokens.count))

pub new-seat-requires-clause-unused : goal.new-seat-requires-clause-unused
new-seat-requires-clause-unused g c =
    let inv = c.loop-token.invariant in
    let from = c.into_iter-token-iterator.ensures.into_iter_gives in
    let turn = YieldsList-turn (YieldsList-from_vec c.args.tokens.items from.0 (from.1 ∙ c.args.tokens.ok.0))
    c.loop-token.yielded c.loop-token.token-iterator c.loop-token.yielded_by c.next.result c.next.new.self
    c.in-Some.token c.in-Some.is c.next.ensures.steps in
    (c.requires.tokens.each c.loop-token.thread c.in-Some.token
    (slice_get_read c.args.tokens.items _ c.loop-token.thread c.in-Some.token refl
    (omega (arith, turn.0, inv.taken))
    (subst (λ (z : ℕ). c.in-Some.token ≡ get_or c.args.tokens.items z c.in-Some.token) inv.taken turn.1))).1

pub new-seat-requires-clause-seated : goal.new-seat-requires-clause-seated
new-seat-requires-clause-seated g c =
    let inv = c.loop-token.invariant in
    let from = c.into_iter-token-iterator.ensures.into_iter_gives in
    let turn = YieldsList-turn (YieldsList-from_vec c.args.tokens.items from.0 (from.1 ∙ c.args.tokens.ok.0))
    c.loop-token.yielded c.loop-token.token-iterator c.loop-token.yielded_by c.next.result c.next.new.self
    c.in-Some.token c.in-Some.is c.next.ensures.steps in
    let cut = c.requires.tokens.each c.loop-token.thread c.in-Some.token
    (slice_get_read c.args.tokens.items _ c.loop-token.thread c.in-Some.token refl
    (omega (arith, turn.0, inv.taken))
    (subst (λ (z : ℕ). c.in-Some.token ≡ get_or c.args.tokens.items z c.in-Some.token) inv.taken turn.1)) in
    (cut.0, c.args.self.now.seated.1)

pub loop-token-preserved : goal.loop-token-preserved
loop-token-preserved g c =
    let inv = c.loop-token.invariant in
    let more = c.in_ok-push.ensures.items in
    let made = c.new-seat.ensures in
    let from = c.into_iter-token-iterator.ensures.into_iter_gives in
    let turn = YieldsList-turn (YieldsList-from_vec c.args.tokens.items from.0 (from.1 ∙ c.args.tokens.ok.0))
    c.loop-token.yielded c.loop-token.token-iterator c.loop-token.yielded_by c.next.result c.next.new.self
    c.in-Some.token c.in-Some.is c.next.ensures.steps in
    let cut = c.requires.tokens.each c.loop-token.thread c.in-Some.token
    (slice_get_read c.args.tokens.items _ c.loop-token.thread c.in-Some.token refl
    (omega (arith, turn.0, inv.taken))
    (subst (λ (z : ℕ). c.in-Some.token ≡ get_or c.args.tokens.items z c.in-Some.token) inv.taken turn.1)) in
    record {
      can = tt;
      ends = tt;
      count = length_snoc _ _ _ _ more inv.count;
      taken = length_snoc _ _ _ _ refl inv.taken;
      first = each_more
          (λ k (s : PlaceView). s ≡ first_seat c.args.self.now.terms
          (thread_at k) c.args.self.now.table.shared.table_id) c.loop-token.seats.items _ c.new-seat.result
          c.loop-token.thread more inv.count inv.first
          (made ∙ ap (first_seat c.args.self.now.terms (thread_at c.loop-token.thread)) cut.0);
    }
