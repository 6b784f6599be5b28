-- Private: the parts of a transcript that are looked up.
use Rattle.std.specs.Prelude.{◌≡◌}
use Rattle.hx_script.specs.declared.transcript.Transcript.{Transcript}
use Rattle.hx_check.specs.declared.parts.Parts.{Parts}

-- they are those of the transcript
pub record IsPartsOf (t : Transcript) (x : Parts) : Type 0 where
  pub clients : x.clients ≡ t.clients
  pub conns : x.conns ≡ t.conns
  pub records : x.records ≡ t.records
