-- A transcript whose numbers are as large as their types hold: one that a program can have.
use Rattle.std.specs.Prelude.{◌≤◌, All}
use Rattle.hx_record.specs.declared.bytes.ClientBytes.{ClientBytes}
use Rattle.hx_record.specs.declared.bytes.ConnBytes.{ConnBytes}
use Rattle.hx_script.specs.declared.transcript.ServerPart.{ServerPart}
use Rattle.hx_script.specs.declared.transcript.Transcript.{Transcript}
use Rattle.hx_script.specs.Numbers.{IsByte}
use Rattle.hx_transcripts_parts.specs.MarkLaws.{FitsMark, FitsRules}
use Rattle.hx_transcripts_parts.specs.Numbers.{most_16, most_64}
use Rattle.hx_transcripts_parts.specs.ReadBack.{FitsWho}
use Rattle.hx_transcripts_parts.specs.RecordLaws.{FitsTold, FitsTotals}

-- the numbers of a server's rules and of its marks
pub record FitsServer (p : ServerPart) : Type 0 where
  pub rules : FitsRules p.rules
  pub marks : All FitsMark p.marks

-- the numbers and the bytes of a client
pub record FitsClient (c : ClientBytes) : Type 0 where
  pub who : FitsWho (c.worker, c.session)
  pub took : All IsByte c.took
  pub gave : All IsByte c.gave

-- the numbers and the bytes of a connection
pub record FitsConnBytes (c : ConnBytes) : Type 0 where
  pub server : c.server.0 ≤ most_16
  pub id : c.id.0 ≤ most_64
  pub sent : All IsByte c.sent
  pub took : All IsByte c.took

-- all numbers and bytes of a transcript
pub record Fits (t : Transcript) : Type 0 where
  pub servers : All FitsServer t.servers
  pub records : All FitsTold t.records
  pub clients : All FitsClient t.clients
  pub conns : All FitsConnBytes t.conns
  pub totals : All FitsTotals t.totals
