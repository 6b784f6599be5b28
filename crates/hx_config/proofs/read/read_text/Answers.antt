use Rattle.std.proofs.Common.{sym, subst, ◌∙◌}
use Rattle.hx_config_parts.specs.Lexical.{lines_of}
use Rattle.hx_config.specs.Sections.{closed}
use Rattle.hx_config.specs.Sound.{IsSound}
use Rattle.hx_config.proofs.Soundness.{text_sound, closed_sound, left_is}
use Rattle.hx_config.proofs.read.read_text.Goals as goal

pub finish-requires-clause-sound : goal.finish-requires-clause-sound
finish-requires-clause-sound c =
    let r = c.in_ok-reading.reading in
    let ended = left_is c.close.result c.close.new.self (closed r) (sym c.is_err.ensures.value ∙ c.if-is_err.false) c.close.ensures in
    subst IsSound ended (closed_sound r (text_sound (lines_of c.args.text.now) r c.in_ok-reading.ensures))
