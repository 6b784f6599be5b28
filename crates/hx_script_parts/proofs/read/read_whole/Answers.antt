use Rattle.std.proofs.Common.{◌≤◌, length, arith}
use Rattle.hx_config.specs.Views as config
use Rattle.hx_script_parts.proofs.Soundness.{text_sound}
use Rattle.hx_script_parts.proofs.read.read_whole.Goals as goal

pub finish-requires : goal.finish-requires
finish-requires c =
    let short : length c.in_ok-config.rest.now ≤ 1048576 =
    omega (arith, c.in_ok-rest.ensures.less, c.in_ok-count.ensures.less, c.in_ok-config.ensures.less, c.if-text-gt-LONGEST_TEXT.false) in
    text_sound (config.meaning c.in_ok-config.config) 1048576 _ c.in_ok-config.rest.now c.in_ok-reading.reading short c.in_ok-reading.ensures
