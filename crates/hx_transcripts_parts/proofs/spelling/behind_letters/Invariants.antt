use Rattle.std.proofs.Common.{◌≡◌, drop}
use Rattle.std.specs.List.{flat_map}
use Rattle.hx_script_parts.specs.ByteText.{escaped}
use Rattle.hx_transcripts_parts.specs.Spelling.{behind_front}
use Rattle.hx_transcripts_parts.proofs.spelling.behind_letters.Given as goal

abbrev pub invariant-loop-b : goal.invariant-loop-b
invariant-loop-b l = behind_front (flat_map escaped (drop l.b-index l.bytes)) l.rest ≡ behind_front (flat_map escaped l.bytes) l.text
