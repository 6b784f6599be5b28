use Rattle.std.proofs.Common.{ℕ, List, map, sym, ap, ◌∙◌}
use Rattle.std.specs.Prelude.{codes}
use Rattle.std.specs.Str.{str_eq_ignore_ascii_case}
use Rattle.std.proofs.lemmas.List.{drop_all}
use Rattle.hx_message.specs.Fields.{is_optional}
use Rattle.hx_head.specs.declared.head.FieldSpan.{FieldSpan}
use Rattle.hx_head.specs.Heads.{field_in}
use Rattle.hx_head.proofs.StayingLemmas.{optional_other, optional_none}
use Rattle.hx_head.proofs.named.has_connection.Goals as goal

pub loop-i-preserved : goal.loop-i-preserved
loop-i-preserved c name =
    let other = ap (λ (b : List ℕ). str_eq_ignore_ascii_case (codes "Connection") b) (sym c.part.ensures.part) ∙ sym c.is_same_name.ensures ∙ c.if-is_same_name.false in
    sym (optional_other c.args.bytes.now c.args.fields.now name c.loop-i.i _ c.loop-i-test.true other) ∙ c.loop-i.invariant name

pub returns : goal.returns
returns c none name =
    sym (c.loop-i.invariant name) ∙ ap (λ (fs : List FieldSpan). is_optional (map (field_in c.args.bytes.now) fs) name) (drop_all c.loop-i.i c.args.fields.now c.loop-i-test.false)
    ∙ optional_none name
