use Rattle.std.proofs.Common.{ℕ, List, sym, ap, ◌∙◌}
use Rattle.hx_script_parts.specs.Names.{is_named}
use Rattle.hx_script_parts.proofs.Naming.{server_here, server_later, server_nowhere}
use Rattle.hx_script_parts.proofs.names.server_in.Goals as goal

pub returns-then-is_named : goal.returns-then-is_named
returns-then-is_named c =
    sym (server_here c.args.word.now c.args.back.now c.args.servers.now c.loop-s.s-index c.s-item.result _ c.loop-s-test.true c.s-item.is
    (sym (c.is_named.ensures ∙ ap (λ (xs : List ℕ). is_named c.args.word.now c.args.back.now xs) c.as_slice.ensures) ∙ c.if-is_named.true) c.loop-s.invariant)

pub loop-s-preserved : goal.loop-s-preserved
loop-s-preserved c =
    server_later c.args.word.now c.args.back.now c.args.servers.now c.loop-s.s-index c.s-item.result _ c.loop-s-test.true c.s-item.is
    (sym (c.is_named.ensures ∙ ap (λ (xs : List ℕ). is_named c.args.word.now c.args.back.now xs) c.as_slice.ensures) ∙ c.if-is_named.false) c.loop-s.invariant

pub returns : goal.returns
returns c = sym (server_nowhere c.args.word.now c.args.back.now c.args.servers.now c.loop-s.s-index _ c.loop-s-test.false c.loop-s.invariant)
