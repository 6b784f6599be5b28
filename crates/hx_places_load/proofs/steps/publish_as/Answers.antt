use Rattle.std.proofs.Common.{◌<◌, sym, ap, subst}
use Rattle.hx_places.specs.declared.view.View.{View}
use Rattle.hx_places.specs.declared.view.Hand.TheVariants.{Idle}
use Rattle.hx_places.specs.Turns.{WentUp, AtEase}
use Rattle.hx_places_load.proofs.Noting.{turn_more, ours_more}
use Rattle.hx_places_load.proofs.steps.publish_as.Goals as goal

pub returns : goal.returns
returns c =
    let s0 = c.args.seat.now in
    let s1 = c.publish.new.self in
    let F = c.requires.filling in
    let place = c.args.claim.place in
    let a = c.publish.ensures.notes.adds in record {
      turn_is = turn_more Idle s0.view s1.view _ (record { due = WentUp F.before; call = AtEase }) a F.turn_is;
      idle = ap (λ (x : View). x.hand) a.view;
      board = (subst (λ b. place.row < b.threads) (sym (ap (λ (x : View). x.terms) a.view)) F.board.0, F.board.1);
      ours = ours_more Idle s0.view s1.view _ a F.ours;
    }
