use Rattle.std.proofs.Common.{◌≡◌, List, All, ap, sym, subst, ◌∙◌}
use Rattle.hx_base.specs.declared.totals.Totals.{Totals}
use Rattle.hx_pool.specs.Journal.{Journal}
use Rattle.hx_record.specs.declared.bytes.ClientBytes.{ClientBytes}
use Rattle.hx_record.specs.declared.bytes.ConnBytes.{ConnBytes}
use Rattle.hx_record.specs.declared.served.Told.{Told}
use Rattle.hx_script.specs.declared.transcript.ServerPart.{ServerPart}
use Rattle.hx_script.specs.TrueTranscript.{AreTrueServers}
use Rattle.hx_told.specs.declared.servers.Named.{Named}
use Rattle.hx_told.specs.Servers.{IsWhole, all_sums, named_servers, parts_of}
use Rattle.hx_told.specs.Telling.{TellsLinks}
use Rattle.hx_run.specs.Overs.{histories}
use Rattle.std.specs.Prelude.{IfOk}
use Rattle.hx_told.proofs.CaredFor.{ok_cared}
use Rattle.hx_told.proofs.Caused.{ok_caused}
use Rattle.hx_told.proofs.Follows.{ok_follows}
use Rattle.hx_told.proofs.Quiet.{ok_quiet}
use Rattle.hx_told.proofs.Overs.{true_servers}
use Rattle.hx_told.proofs.Truth.{ok_true, ok_ended}
use Rattle.hx_told.proofs.tell.tell_run.Goals as goal

pub returns-clause-is_true : goal.returns-clause-is_true
returns-clause-is_true c =
    let seats : List Journal = c.args.ran.seats in
    let told : List ServerPart = parts_of (named_servers c.args.ran.config.backs) seats in
    let servers : c.in_ok-servers.servers.items ≡ told =
    c.in_ok-servers.ensures.parts ∙ ap (λ (ns : List Named). parts_of ns c.as_slice.result.now) c.in_ok-names.ensures.servers
    ∙ ap (parts_of (named_servers c.args.ran.config.backs)) c.as_slice.ensures in
    let totals : c.in_ok-totals.totals.items ≡ all_sums seats = c.in_ok-totals.ensures.totals ∙ ap all_sums c.as_slice-2.ensures in
    let whole : All IsWhole seats = subst (λ (js : List Journal). All IsWhole js) c.as_slice.ensures c.in_ok-servers.ensures.whole in
    let clients : List ClientBytes = c.in_ok-links.links.clients.items in
    let conns : List ConnBytes = c.in_ok-links.links.conns.items in
    let links : TellsLinks c.args.ran.records c.args.ran.net clients conns =
    subst (λ (rs : List Told). TellsLinks rs c.args.ran.net clients conns) c.as_slice-3.ensures c.in_ok-links.ensures.links in
    ok_true c.args.ran.net c.args.ran.records clients conns links c.in_ok-links.ensures.conns c.put_together.result c.in_ok-servers.servers.items c.in_ok-totals.totals.items
    c.put_together.ensures.servers c.put_together.ensures.totals c.put_together.ensures.records c.put_together.ensures.clients c.put_together.ensures.conns
    (subst (λ (ps : List ServerPart). AreTrueServers ps c.in_ok-totals.totals.items) (sym servers)
    (subst (λ (ss : List Totals). AreTrueServers told ss) (sym totals) (true_servers c.args.ran.config.backs seats c.requires.over whole)))
    c.requires.course

pub returns-clause-ended : goal.returns-clause-ended
returns-clause-ended c =
    let clients : List ClientBytes = c.in_ok-links.links.clients.items in
    let conns : List ConnBytes = c.in_ok-links.links.conns.items in
    let links : TellsLinks c.args.ran.records c.args.ran.net clients conns =
    subst (λ (rs : List Told). TellsLinks rs c.args.ran.net clients conns) c.as_slice-3.ensures c.in_ok-links.ensures.links in
    ok_ended c.args.ran.net c.args.ran.records clients conns links c.in_ok-links.ensures.conns c.put_together.result c.put_together.ensures.conns

pub returns-clause-plans : goal.returns-clause-plans
returns-clause-plans c = λ lines plans e.
    let clients : List ClientBytes = c.in_ok-links.links.clients.items in
    let conns : List ConnBytes = c.in_ok-links.links.conns.items in
    let links : TellsLinks c.args.ran.records c.args.ran.net clients conns =
    subst (λ (rs : List Told). TellsLinks rs c.args.ran.net clients conns) c.as_slice-3.ensures c.in_ok-links.ensures.links in
    ok_follows lines plans c.args.ran.net c.args.ran.records clients conns c.put_together.result links c.in_ok-links.ensures.clients c.in_ok-links.ensures.conns
    c.put_together.ensures.clients c.put_together.ensures.conns e

pub returns-clause-causes : goal.returns-clause-causes
returns-clause-causes c = λ script most m.
    let clients : List ClientBytes = c.in_ok-links.links.clients.items in
    let conns : List ConnBytes = c.in_ok-links.links.conns.items in
    let links : TellsLinks c.args.ran.records c.args.ran.net clients conns =
    subst (λ (rs : List Told). TellsLinks rs c.args.ran.net clients conns) c.as_slice-3.ensures c.in_ok-links.ensures.links in
    ok_caused script most c.args.ran.net (histories c.args.ran.seats) c.args.ran.records clients conns c.put_together.result links c.in_ok-links.ensures.conns c.put_together.ensures.records c.put_together.ensures.clients c.put_together.ensures.conns m

pub returns-clause-quiet : goal.returns-clause-quiet
returns-clause-quiet c = λ script most m.
    let clients : List ClientBytes = c.in_ok-links.links.clients.items in
    let conns : List ConnBytes = c.in_ok-links.links.conns.items in
    let links : TellsLinks c.args.ran.records c.args.ran.net clients conns =
    subst (λ (rs : List Told). TellsLinks rs c.args.ran.net clients conns) c.as_slice-3.ensures c.in_ok-links.ensures.links in
    ok_quiet script most c.args.ran.net (histories c.args.ran.seats) c.args.ran.records clients conns c.put_together.result links c.in_ok-links.ensures.conns c.put_together.ensures.records c.put_together.ensures.clients c.put_together.ensures.conns m

pub returns-clause-cares : goal.returns-clause-cares
returns-clause-cares c = λ script most m.
    let seats : List Journal = c.args.ran.seats in
    let told : List ServerPart = parts_of (named_servers c.args.ran.config.backs) seats in
    let servers : c.in_ok-servers.servers.items ≡ told =
    c.in_ok-servers.ensures.parts ∙ ap (λ (ns : List Named). parts_of ns c.as_slice.result.now) c.in_ok-names.ensures.servers
    ∙ ap (parts_of (named_servers c.args.ran.config.backs)) c.as_slice.ensures in
    let whole : All IsWhole seats = subst (λ (js : List Journal). All IsWhole js) c.as_slice.ensures c.in_ok-servers.ensures.whole in
    ok_cared script most c.args.ran.records c.args.ran.net.state c.args.ran.config.backs seats c.put_together.result m c.requires.over whole
    (subst (λ (l : List ServerPart). IfOk c.put_together.result (λ t. t.servers ≡ l)) servers c.put_together.ensures.servers)
