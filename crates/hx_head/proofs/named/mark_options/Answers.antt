use Rattle.std.proofs.Common.{ℕ, ◌+◌, List, ◌||◌, Bool, false, get_or, map, drop, sym, ap, ◌∙◌}
use Rattle.std.specs.Prelude.{codes}
use Rattle.std.specs.Str.{str_eq_ignore_ascii_case}
use Rattle.hx_message.specs.Fields.{is_optional}
use Rattle.hx_head.specs.Heads.{field_in}
use Rattle.hx_head.specs.Staying.{lists_name, name_at}
use Rattle.hx_head.proofs.StayingLemmas.{mark_field, mark_other, mark_end}
use Rattle.hx_head.proofs.named.mark_options.Goals as goal
use Rattle.hx_head.proofs.named.mark_options.Goals.{then-is_same_name, else-is_same_name}

pub loop-i-preserved : goal.loop-i-preserved
loop-i-preserved c k lt =
    let name = name_at c.args.bytes.now c.args.fields.now k in
    let old = get_or c.loop-i.named k false in
    let named = ap (λ (b : List ℕ). str_eq_ignore_ascii_case (codes "Connection") b) (sym c.part.ensures.part) ∙ sym c.is_same_name.ensures in
    elim c.if-is_same_name.branch [
      | then-is_same_name w ↦
          let is = ap (λ (marks : List Bool). get_or marks k false) w.named-is ∙ w.mark_value.ensures k lt
          ∙ ap (λ (value : List ℕ). old || lists_name value name) w.part-then-is_same_name.ensures.part in
          mark_field c.args.bytes.now c.args.fields.now name c.loop-i.i _ old (get_or c.if-is_same_name.named k false) c.loop-i-test.true
          (named ∙ w.if-is_same_name.true) is ∙ c.loop-i.invariant k lt
      | else-is_same_name w ↦
          ap (λ (marks : List Bool). get_or marks k false || is_optional (map (field_in c.args.bytes.now) (drop (c.loop-i.i + 1) c.args.fields.now)) name) w.named-is
          ∙ mark_other c.args.bytes.now c.args.fields.now name c.loop-i.i _ old c.loop-i-test.true (named ∙ w.if-is_same_name.false) ∙ c.loop-i.invariant k lt
    ]

pub returns : goal.returns
returns c k lt =
    mark_end c.args.bytes.now c.args.fields.now (name_at c.args.bytes.now c.args.fields.now k) c.loop-i.i (get_or c.loop-i.named k false) _ c.loop-i-test.false (c.loop-i.invariant k lt)
