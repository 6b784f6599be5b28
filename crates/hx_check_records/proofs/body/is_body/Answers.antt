use Rattle.std.proofs.Common.{[], length}
use Rattle.std.proofs.lemmas.Bool.{false≢true}
use Rattle.std.proofs.lemmas.Bool.Decides.{Decides-eqb}
use Rattle.hx_check_records.proofs.BodyLemmas.{done_is, going_is, bad_is}
use Rattle.hx_check_records.proofs.body.is_body.Goals as goal

pub returns-in-Done : goal.returns-in-Done
returns-in-Done c =
    let says = c.feed-fed.ensures.says c.args.kind [] c.new-meter.ensures.used in
    let both = done_is c.args.kind _ c.feed-fed.result.state c.args.bytes.now c.feed-fed.result.used says c.in-Done.is in
    let same = Decides-eqb c.feed-fed.result.used (length c.args.bytes.now) in
    (λ yes. both.0 (same.0 yes), λ whole. same.1 (both.1 whole))

pub returns-in-Going : goal.returns-in-Going
returns-in-Going c =
    let says = c.feed-fed.ensures.says c.args.kind [] c.new-meter.ensures.used in
    let both = going_is c.args.kind _ c.feed-fed.result.state c.args.bytes.now c.feed-fed.result.used says c.in-Going.is in
    let used = c.feed-fed.ensures.used c.args.kind [] c.new-meter.ensures.used in
    let at = c.at_end.ensures c.args.kind _ used in
    (λ yes. both.0 (at.0 yes), λ whole. at.1 (both.1 whole))

pub returns-in-Bad : goal.returns-in-Bad
returns-in-Bad c =
    let says = c.feed-fed.ensures.says c.args.kind [] c.new-meter.ensures.used in (
      λ no. absurd (false≢true no),
      λ whole.
          absurd (bad_is c.args.kind _ c.feed-fed.result.state c.args.bytes.now c.feed-fed.result.used says c.new-meter.ensures.good c.in-Bad.is whole),
    )
