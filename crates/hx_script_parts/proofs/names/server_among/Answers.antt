use Rattle.std.proofs.Common.{◌≡◌, Some, None, sym}
use Rattle.hx_script_parts.specs.Names.{server_in}
use Rattle.hx_script_parts.proofs.Naming.{back_here, back_later, back_nowhere}
use Rattle.hx_script_parts.proofs.names.server_among.Goals as goal

pub returns-in-Some : goal.returns-in-Some
returns-in-Some c =
    let found : Some c.in-Some.no ≡ server_in c.args.word.now c.b-item.result.name c.b-item.result.servers = cc (c.in-Some.ensures, c.as_slice.ensures, c.as_slice-in-loop-b.ensures) in
    sym (back_here c.args.word.now c.args.backs.now c.loop-b.b-index c.b-item.result c.in-Some.no _ c.loop-b-test.true c.b-item.is found c.loop-b.invariant)

pub loop-b-preserved : goal.loop-b-preserved
loop-b-preserved c =
    let none : None ≡ server_in c.args.word.now c.b-item.result.name c.b-item.result.servers = cc (c.in_default.ensures, c.as_slice.ensures, c.as_slice-in-loop-b.ensures) in
    back_later c.args.word.now c.args.backs.now c.loop-b.b-index c.b-item.result _ c.loop-b-test.true c.b-item.is none c.loop-b.invariant

pub returns : goal.returns
returns c = sym (back_nowhere c.args.word.now c.args.backs.now c.loop-b.b-index _ c.loop-b-test.false c.loop-b.invariant)
