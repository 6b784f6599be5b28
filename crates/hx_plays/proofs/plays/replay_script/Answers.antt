use Rattle.hx_script_parts.specs.Views.{meaning}
use Rattle.hx_told.specs.Ends.{ends_of}
use Rattle.hx_plays.proofs.PlayLemmas.{tells_run}
use Rattle.hx_plays.proofs.plays.replay_script.Goals as goal

pub returns-in_ok-print_transcript-in-Ok : goal.returns-in_ok-print_transcript-in-Ok
returns-in_ok-print_transcript-in-Ok c =
    let ran = c.in-Ok.ran in
    let told = c.in_ok-told-in-Ok in
    tells_run c.args.script ran.config ran.seats told.told c.in_ok-print_transcript-in-Ok.field-0.items (ends_of ran.net.links) c.args.most ran.records ran.net.state c.in-Ok.ensures.config c.in-Ok.ensures.over
    told.ensures.servers told.ensures.is_true (told.ensures.plans c.args.script.clients c.args.script.plans c.in-Ok.ensures.plans) (told.ensures.causes (meaning c.args.script) c.args.most c.in-Ok.ensures.within)
    (told.ensures.quiet (meaning c.args.script) c.args.most c.in-Ok.ensures.within) (told.ensures.cares (meaning c.args.script) c.args.most c.in-Ok.ensures.within)
    c.in_ok-print_transcript-in-Ok.ensures told.ensures.records c.in-Ok.ensures.within
