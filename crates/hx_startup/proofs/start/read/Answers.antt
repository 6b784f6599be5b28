use Rattle.std.proofs.Common.{◌∙◌, ap, sym, subst, List, ℕ}
use Rattle.hx_config_parts.specs.Faults.{IsFaultOf}
use Rattle.hx_config.specs.Meaning.{meaning_of}
use Rattle.hx_startup.proofs.FileLemmas.{holds_config, stops_at}
use Rattle.hx_startup.proofs.start.read.Goals as goal

pub returns-in-Ok-read_config : goal.returns-in-Ok-read_config
returns-in-Ok-read_config g c =
    holds_config _ _ _ c.in-Ok.bytes.items _ c.in-Ok.ensures.reads
    (ap meaning_of (sym c.as_slice.ensures.value) ∙ c.in-Ok-read_config.ensures.meant)

pub returns : goal.returns
returns g c =
    stops_at _ _ _ c.in-Ok.bytes.items c.in-Err.fault c.fault_ending.result c.in-Ok.ensures.reads
    (subst (λ (t : List ℕ). IsFaultOf c.in-Err.fault (meaning_of t)) c.as_slice.ensures.value c.in-Err.ensures.refused)
    c.fault_ending.ensures
