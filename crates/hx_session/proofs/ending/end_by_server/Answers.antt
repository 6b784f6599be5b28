use Rattle.std.proofs.Common.{◌≡◌, Bool, true, false, ⊎_elim}
use Rattle.hx_session.specs.Decided.{Given, Ungiven}
use Rattle.hx_session.specs.Desks.{desk_now, DeskNow}
use Rattle.hx_session.proofs.DecidedLemmas.{ends_map}
use Rattle.std.specs.Prelude.{IsTrue, ◌↔◌, ◌<◌}
use Rattle.std.proofs.lemmas.Bool.{cases_lt}
use Rattle.hx_session.proofs.ending.end_by_server.Goals as goal

never : IsTrue false → ⊥
never t = cc

ungiven : (d : DeskNow) (t : Bool) → t ≡ false → IsTrue t ↔ (d.gave_from < d.given) → Ungiven d
ungiven d true e k = cc
ungiven d false e k = ⊎_elim (λ lt. absurd (never (k.1 lt))) (λ le. le) (cases_lt d.gave_from d.given)

pub returns-then-has_given-clause-by_server : goal.returns-then-has_given-clause-by_server
returns-then-has_given-clause-by_server g c =
    let d : DeskNow = desk_now g.L.Link.state c.args.desk.now in
    let d2 : DeskNow = desk_now g.L.Link.state c.cut.new.desk in
    ends_map d c.args.exchange.busy (g.N.Net.state c.args.net.now) (λ k. ⊥) (λ k. (k ≡ c.args.why.1.status) × Ungiven d) (λ w. w ≡ c.args.why.0) (λ w. (w ≡ c.args.why.0) × Given d) d2 c.cut.result (g.N.Net.state c.cut.new.net)
    (λ k no_. absurd no_) (λ w is. (is, c.has_given.ensures.0 c.if-has_given.true)) c.cut.ensures.cuts

pub returns-else-has_given-clause-by_server : goal.returns-else-has_given-clause-by_server
returns-else-has_given-clause-by_server g c =
    let d : DeskNow = desk_now g.L.Link.state c.args.desk.now in
    let d2 : DeskNow = desk_now g.L.Link.state c.give_up.new.desk in
    ends_map d c.args.exchange.busy (g.N.Net.state c.args.net.now) (λ k. k ≡ c.args.why.1.status) (λ k. (k ≡ c.args.why.1.status) × Ungiven d) (λ w. ⊥) (λ w. (w ≡ c.args.why.0) × Given d) d2 c.give_up.result (g.N.Net.state c.give_up.new.net)
    (λ k is. (is, ungiven d c.has_given.result c.if-has_given.false c.has_given.ensures)) (λ w no_. absurd no_) c.give_up.ensures.gives
