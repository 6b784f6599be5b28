use Rattle.std.proofs.Common.{arith, ◌≡◌, ℕ, ap, ◌∙◌, refl, Option, []}
use Rattle.atomic_table.specs.Table.{Me}
use Rattle.hx_pool.specs.declared.board.BoardTerms.{BoardTerms}
use Rattle.hx_resting.specs.declared.values.Rows.{Rows}
use Rattle.hx_resting.specs.declared.roles.View.{View}
use Rattle.hx_lockboard.specs.Views.{worker}
use Rattle.hx_lockboard.specs.Boards.{IsCut}
use Rattle.hx_lockboard.proofs.Moves.{gives_seat}
use Rattle.hx_lockboard.proofs.Boards.{each_more, length_snoc}
use Rattle.hx_lockboard.proofs.board.LockBoard.cut.Goals as goal

pub split_seat-seat-requires : goal.split_seat-seat-requires
split_seat-seat-requires g c =
    let b = c.loop-thread.self in
    let same = ap (λ (k : BoardTerms). k.threads) b.seated.1 in
    let terms = ap (λ (k : BoardTerms). k.threads) c.loop-thread.invariant.terms in
    let given = c.loop-thread.invariant.given in
    let now = b.makes.3 in
    let words = b.sized.0 in
    let test = c.loop-thread-test.true in (
      b.seated.0,
      omega arith,
      gives_seat g.V.Faced.shows b.table.shared.key b.maker.id b.maker.me.0 b.makes.0 b.makes.1 (omega arith),
    )

pub loop-thread-preserved : goal.loop-thread-preserved
loop-thread-preserved g c =
    let b = c.loop-thread.self in
    let inv = c.loop-thread.invariant in
    let more = c.push_reserved.ensures.items in
    let M : Type 0 = Me (Option (Rows g.row.V.Denot)) View in
    let at : b.maker.me.0.thread.0 ≡ c.loop-thread.thread = b.makes.3 ∙ inv.given in
    let mine : c.split_seat-seat.result.me ≡ (worker b.terms (record { 0 = c.loop-thread.thread }), []) = c.split_seat-seat.ensures.4
    ∙ (ap (λ (z : BoardTerms). let m : M = (worker z b.maker.me.0.thread, []) in m) b.makes.2 ∙ ap (λ (z : ℕ). let m : M = (worker b.terms (record { 0 = z }), []) in m) at) in record {
      terms = inv.terms;
      table = inv.table;
      given = refl;
      count = length_snoc c.loop-thread.seats.items c.push_reserved.new.self.items c.split_seat-seat.result c.loop-thread.thread more inv.count;
      room = rw c.push_reserved.ensures.capacity inv.room;
      cut = each_more (λ k s. IsCut s b k) c.loop-thread.seats.items c.push_reserved.new.self.items c.split_seat-seat.result c.loop-thread.thread more inv.count inv.cut (c.split_seat-seat.ensures.3 ∙ b.seated.0, mine);
    }
