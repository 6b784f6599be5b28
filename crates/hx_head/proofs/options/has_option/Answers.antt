use Rattle.std.proofs.Common.{ℕ, List, map, sym, ap, ◌∙◌, true, false}
use Rattle.std.specs.Prelude.{codes}
use Rattle.std.specs.Str.{str_eq_ignore_ascii_case}
use Rattle.std.proofs.lemmas.List.{drop_all}
use Rattle.hx_head.specs.declared.head.FieldSpan.{FieldSpan}
use Rattle.hx_head.specs.Heads.{field_in}
use Rattle.hx_head.specs.Options.{lists_option, has_option}
use Rattle.hx_head.proofs.OptionLemmas.{has_option_at, has_option_other, has_option_none}
use Rattle.hx_head.proofs.options.has_option.Goals as goal
use Rattle.hx_head.proofs.options.has_option.Goals.{else-is_same_name-via-then-is_same_name+else-lists_option, else-is_same_name-via-else-is_same_name}

pub returns-then-lists_option : goal.returns-then-lists_option
returns-then-lists_option c =
    let named = ap (λ (b : List ℕ). str_eq_ignore_ascii_case (codes "Connection") b) (sym c.part.ensures.part) ∙ sym c.is_same_name.ensures ∙ c.if-is_same_name.true in
    let listed = ap (lists_option c.args.option.now) (sym c.part-then-is_same_name.ensures.part) ∙ sym c.lists_option.ensures ∙ c.if-lists_option.true in
    sym (has_option_at c.args.option.now c.args.bytes.now c.args.fields.now c.loop-i.i _ true true c.loop-i-test.true named listed) ∙ c.loop-i.invariant

pub loop-i-preserved : goal.loop-i-preserved
loop-i-preserved c =
    let name = ap (λ (b : List ℕ). str_eq_ignore_ascii_case (codes "Connection") b) (sym c.part.ensures.part) ∙ sym c.is_same_name.ensures in
    elim c.else-is_same_name.branch [
      | else-is_same_name-via-then-is_same_name+else-lists_option w ↦
          let listed = ap (lists_option c.args.option.now) (sym w.part-then-is_same_name.ensures.part) ∙ sym w.lists_option.ensures ∙ w.if-lists_option.false in
          sym (has_option_at c.args.option.now c.args.bytes.now c.args.fields.now c.loop-i.i _ true false c.loop-i-test.true (name ∙ w.if-is_same_name.true) listed) ∙ c.loop-i.invariant
      | else-is_same_name-via-else-is_same_name w ↦
          sym (has_option_other c.args.option.now c.args.bytes.now c.args.fields.now c.loop-i.i _ c.loop-i-test.true (name ∙ w.if-is_same_name.false)) ∙ c.loop-i.invariant
    ]

pub returns : goal.returns
returns c =
    sym (ap (λ (fs : List FieldSpan). has_option c.args.option.now (map (field_in c.args.bytes.now) fs)) (drop_all c.loop-i.i c.args.fields.now c.loop-i-test.false)
    ∙ has_option_none c.args.option.now) ∙ c.loop-i.invariant
