use Rattle.std.proofs.Common.{ℕ, List, sym, ap, ◌∙◌}
use Rattle.std.specs.Str.{str_eq_ignore_ascii_case}
use Rattle.hx_frame.proofs.FramingLemmas.{found_named}
use Rattle.hx_frame.proofs.fields.with_field.Goals as goal

pub returns-then-is_same_name : goal.returns-then-is_same_name
returns-then-is_same_name c values is =
    found_named c.args.bytes.now c.args.name.now values c.args.field c.args.found c.one_more.result c.requires.1
    (ap (λ (n : List ℕ). str_eq_ignore_ascii_case c.args.name.now n) (sym c.part.ensures.part) ∙ sym c.is_same_name.ensures ∙ c.if-is_same_name.true)
    c.one_more.ensures is
