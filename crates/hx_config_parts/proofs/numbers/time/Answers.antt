use Rattle.std.proofs.Common.{ap, ◌∙◌, take, ℕ}
use Rattle.std.specs.List.{list_all}
use Rattle.hx_config_parts.specs.Numbers.{is_digit}
use Rattle.hx_config_parts.proofs.Values.{digits_in_front}
use Rattle.hx_config_parts.proofs.numbers.time.Goals as goal

pub value_of-requires : goal.value_of-requires
value_of-requires c =
    ap (λ (n : ℕ). list_all is_digit (take n c.args.word.now)) c.digit_len-n.ensures ∙ digits_in_front is_digit c.args.word.now
