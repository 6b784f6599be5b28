-- The first connection that breaks the fifth rule.
use Rattle.std.proofs.Common.{refl, inl, inr}
use Rattle.hx_script.specs.declared.transcript.Transcript.{Transcript}
use Rattle.hx_check.specs.Broken.{ConnBreaks}
use Rattle.hx_check.specs.Conns.{IsFirst, line_of}
use Rattle.hx_check.specs.declared.tiles.ConnBreak.{ConnBreak}
use Rattle.hx_check.specs.declared.tiles.ConnBreak.TheVariants.{Sent, Took}

pub conn_breaks : (t : Transcript) (at : ConnBreak) → IsFirst t.records t.conns at → ConnBreaks t (line_of t at)
conn_breaks t (Sent k) (x, not) = record { at = k; fails = x; by_line = inl (not, refl) }
conn_breaks t (Took k) (x, sent) = record { at = k; fails = x; by_line = inr (sent, refl) }
