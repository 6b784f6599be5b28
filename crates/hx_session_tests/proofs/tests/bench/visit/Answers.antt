use Rattle.std.proofs.Common.{◌≤◌, ◌<◌, List, length, map, ap, sym, ◌∙◌, subst, arith, Some}
use Rattle.hx_config.specs.Views.{meaning}
use Rattle.hx_config.specs.declared.parts.Front.{Front}
use Rattle.hx_connecting.specs.Sessions.{SessionNow}
use Rattle.hx_worker.specs.Workers.{last_number}
use Rattle.hx_session_tests.specs.Benches.{IsVisit}
use Rattle.hx_session_tests.proofs.Benches.{same_loop, admitted_visit}
use Rattle.hx_session_tests.proofs.tests.bench.visit.Goals as goal

pub go_through-requires : goal.go_through-requires
go_through-requires g c =
    let config = meaning c.args.config.now in let hs = map g.S.HasHistory.history c.args.seats.now in let ts = c.args.turns.now in
    let net = c.attached_link.new.net.state in let client = c.in_ok-link.link.state in let n = c.args.client.2 in
    let empty = same_loop config hs ts c.args.net.now.state net c.requires.empty c.in_ok-link.ensures.same in
    let low : c.args.client.1 < length config.fronts = omega (arith, c.if-front-as_slice.false, ap (λ (l : List Front). length l) c.as_slice.ensures) in
    let some : 1 ≤ n.0 = omega arith in
    let most : n.0 ≤ last_number = omega arith in record {
      visit = subst (λ (s : SessionNow). IsVisit config hs ts net s) (sym c.in-Ok.ensures.begins)
          (admitted_visit c.args.config.now.threads config hs ts net n c.args.client.1 c.in-Some.now.now client c.args.config.now.within low some most
          (c.in_ok-link.ensures.loop_ ∙ ap (λ k. Some k) c.requires.empty.loop) c.in_ok-link.ensures.new empty);
    }
