use Rattle.std.proofs.Common.{◌≡◌, List, length, get_or, ap, ◌∙◌, arith}
use Rattle.hx_config.specs.declared.parts.Back.{Back}
use Rattle.hx_config.proofs.Servers.{server_here, server_later, no_server}
use Rattle.hx_config.proofs.config.Config.server.Goals as goal

pub returns-then-at-servers : goal.returns-then-at-servers
returns-then-at-servers c =
    let b = c.back-item.result in
    let i = c.loop-back.back-index in
    let all = c.as_slice-back-items.ensures in
    let lens = ap (λ (bs : List Back). length bs) all in
    let is : b ≡ get_or c.args.self.now.backs i b = c.back-item.is ∙ ap (λ (bs : List Back). get_or bs i b) all in
    server_here c.args.self.now.backs i c.loop-back.at b c.as_slice-servers.result.now c.index-servers-at.result _ (omega (arith, lens, c.loop-back-test.true))
    is c.as_slice-servers.ensures c.if-at-servers.true c.index-servers-at.is c.loop-back.invariant

pub loop-back-preserved : goal.loop-back-preserved
loop-back-preserved c =
    let b = c.back-item.result in
    let i = c.loop-back.back-index in
    let all = c.as_slice-back-items.ensures in
    let lens = ap (λ (bs : List Back). length bs) all in
    let is : b ≡ get_or c.args.self.now.backs i b = c.back-item.is ∙ ap (λ (bs : List Back). get_or bs i b) all in
    server_later c.args.self.now.backs i c.loop-back.at b c.as_slice-servers.result.now _ (omega (arith, lens, c.loop-back-test.true))
    is c.as_slice-servers.ensures c.if-at-servers.false c.loop-back.invariant

pub returns : goal.returns
returns c =
    let lens = ap (λ (bs : List Back). length bs) c.as_slice-back-items.ensures in
    no_server c.args.self.now.backs c.loop-back.back-index c.loop-back.at _ (omega (arith, lens, c.loop-back-test.false)) c.loop-back.invariant
