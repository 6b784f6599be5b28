use Rattle.std.proofs.Common.{◌≡◌, ◌<◌, ℕ, length, map, sym, ap, subst, ◌∙◌}
use Rattle.std.proofs.Common.{◌+◌}
use Rattle.std.proofs.lemmas.List.{length-map}
use Rattle.hx_connecting.specs.Choice.{ChoosesReady}
use Rattle.hx_connecting.specs.Journals.{room_of}
use Rattle.hx_connecting.proofs.RoomLemmas.{rooms_both}
use Rattle.hx_connecting.proofs.ChoiceLemmas.{IsAsking, asks_on, chooses_now, at_inside}
use Rattle.std.proofs.Common.{refl, rules, Some}
use Rattle.std.specs.List.{slice_get}
use Rattle.hx_connecting.proofs.RoomLemmas.{rooms_none}
use Rattle.std.proofs.lemmas.Option.{slice_get-get_or}
use Rattle.hx_connecting.proofs.choice.choose.Goals as goal

pub returns-then-ask_seat-clause-chooses : goal.returns-then-ask_seat-clause-chooses
returns-then-ask_seat-clause-chooses g c =
    let f = g.S.HasHistory.history in
    let servers = c.args.servers.now in
    let i = c.loop-count.invariant.0 in
    let inside = at_inside (length servers) c.args.turn.now c.loop-count.count c.loop-count.at c.requires.turn c.loop-count-test.true i.at_is in
    subst (λ (n : ℕ). ChoosesReady servers c.args.turn.now n (map f c.args.seats.now) (map f c.ask_seat.new.seats) c.index-servers-at.result.no) (sym c.after-next.ensures)
    (chooses_now servers c.args.turn.now c.loop-count.turn (map f c.args.seats.now) (map f c.loop-count.seats) (map f c.ask_seat.new.seats) c.loop-count.at c.loop-count.count c.index-servers-at.result
    c.requires.turn c.loop-count-test.true inside c.index-servers-at.is i c.if-ask_seat.ensures.asked)

pub loop-count-preserved : goal.loop-count-preserved
loop-count-preserved g c =
    let f = g.S.HasHistory.history in
    let servers = c.args.servers.now in
    let i = c.loop-count.invariant.0 in
    let sizes : length (map f c.ask_seat.new.seats) ≡ length (map f c.loop-count.seats) = length-map c.ask_seat.new.seats f ∙ c.ask_seat.ensures.count ∙ sym (length-map c.loop-count.seats f) in (
      subst (λ (n : ℕ). IsAsking servers c.args.turn.now c.loop-count.turn (map f c.args.seats.now) (map f c.ask_seat.new.seats) n (c.loop-count.count + 1)) (sym c.after-next.ensures)
          (asks_on servers c.args.turn.now c.loop-count.turn (map f c.args.seats.now) (map f c.loop-count.seats) (map f c.ask_seat.new.seats) c.loop-count.at c.loop-count.count c.index-servers-at.result
          c.requires.turn c.loop-count-test.true c.index-servers-at.is i c.if-ask_seat.ensures.asked sizes),
      c.ask_seat.ensures.count ∙ c.loop-count.invariant.1,
      rooms_both f (room_of g.S.HasHistory.kept_from g.S.HasHistory.spare) c.args.seats.now c.loop-count.seats c.ask_seat.new.seats c.loop-count.invariant.2 c.ask_seat.ensures.rooms,
    )

pub returns-then-ask_seat-clause-rooms : goal.returns-then-ask_seat-clause-rooms
returns-then-ask_seat-clause-rooms g c =
    rooms_both g.S.HasHistory.history (room_of g.S.HasHistory.kept_from g.S.HasHistory.spare) c.args.seats.now c.loop-count.seats c.ask_seat.new.seats c.loop-count.invariant.2 c.if-ask_seat.ensures.rooms

pub loop-count-init : goal.loop-count-init
loop-count-init g c = (search rules, refl, rooms_none g.S.HasHistory.history (room_of g.S.HasHistory.kept_from g.S.HasHistory.spare) c.args.seats.now)

pub ask_seat-requires : goal.ask_seat-requires
ask_seat-requires g c =
    let servers = c.args.servers.now in
    let i = c.loop-count.invariant.0 in
    let s = c.index-servers-at.result in
    let inside = at_inside (length servers) c.args.turn.now c.loop-count.count c.loop-count.at c.requires.turn c.loop-count-test.true i.at_is in
    let there : slice_get servers c.loop-count.at ≡ Some s = slice_get-get_or servers c.loop-count.at s inside ∙ ap Some (sym c.index-servers-at.is) in
    subst (λ (n : ℕ). s.no.0 < n) (sym c.loop-count.invariant.1) (c.requires.seats c.loop-count.at s there)
