use Rattle.std.proofs.Common.{◌≡◌, ◌⊎◌, inl, inr}
use Rattle.hx_record.specs.declared.served.CutCause.TheVariants as cut
use Rattle.hx_session.specs.Decided.{Given, IsHeard, IsSilent, Ungiven}
use Rattle.hx_session.specs.Desks.{desk_now, DeskNow}
use Rattle.hx_session.proofs.DecidedLemmas.{ends_map}
use Rattle.hx_session.proofs.ending.lose_server.Goals as goal

pub returns-then-is_silent-clause-loses : goal.returns-then-is_silent-clause-loses
returns-then-is_silent-clause-loses g c =
    let d : DeskNow = desk_now g.L.Link.state c.args.desk.now in
    let d2 : DeskNow = desk_now g.L.Link.state c.cut.new.desk in
    let b = c.args.exchange.busy in
    ends_map d b (g.N.Net.state c.args.net.now) (λ k. ⊥) (λ k. (k ≡ c.args.why.1.status) × IsHeard d b) (λ w. w ≡ cut.Silent) (λ w. ((w ≡ c.args.why.0) × Given d) ⊎ ((w ≡ cut.Silent) × IsSilent d b)) d2 c.cut.result (g.N.Net.state c.cut.new.net)
    (λ k no_. absurd no_) (λ w is. inr (is, c.is_silent.ensures.silent c.if-is_silent.true)) c.cut.ensures.cuts

pub returns-else-is_silent-clause-loses : goal.returns-else-is_silent-clause-loses
returns-else-is_silent-clause-loses g c =
    let d : DeskNow = desk_now g.L.Link.state c.args.desk.now in
    let d2 : DeskNow = desk_now g.L.Link.state c.end_by_server.new.desk in
    let b = c.args.exchange.busy in
    ends_map d b (g.N.Net.state c.args.net.now) (λ k. (k ≡ c.args.why.1.status) × Ungiven d) (λ k. (k ≡ c.args.why.1.status) × IsHeard d b) (λ w. (w ≡ c.args.why.0) × Given d) (λ w. ((w ≡ c.args.why.0) × Given d) ⊎ ((w ≡ cut.Silent) × IsSilent d b)) d2 c.end_by_server.result (g.N.Net.state c.end_by_server.new.net)
    (λ k is. (is.0, c.is_silent.ensures.heard c.if-is_silent.false is.1)) (λ w is. inl is) c.end_by_server.ensures.by_server
