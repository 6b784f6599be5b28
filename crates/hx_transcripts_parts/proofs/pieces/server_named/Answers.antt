use Rattle.std.proofs.Common.{sym, ◌∙◌}
use Rattle.hx_transcripts_parts.proofs.FoundLemmas.{server_here, server_later, server_nowhere}
use Rattle.hx_transcripts_parts.proofs.pieces.server_named.Goals as goal

pub returns-then-has_names-clause-place : goal.returns-then-has_names-clause-place
returns-then-has_names-clause-place c =
    sym (server_here c.args.back.now c.args.server.now c.args.servers.now c.loop-i.i c.index-servers-i.result _ c.loop-i-test.true c.index-servers-i.is
    (sym c.has_names.ensures ∙ c.if-has_names.true) c.loop-i.invariant)

pub loop-i-preserved : goal.loop-i-preserved
loop-i-preserved c =
    server_later c.args.back.now c.args.server.now c.args.servers.now c.loop-i.i c.index-servers-i.result _ c.loop-i-test.true c.index-servers-i.is
    (sym c.has_names.ensures ∙ c.if-has_names.false) c.loop-i.invariant

pub returns-clause-place : goal.returns-clause-place
returns-clause-place c = sym (server_nowhere c.args.back.now c.args.server.now c.args.servers.now c.loop-i.i _ c.loop-i-test.false c.loop-i.invariant)
