use Rattle.std.proofs.Common.{ℕ, List, ◌||◌, false, get_or, ap, ◌∙◌, rules, add-one}
use Rattle.std.specs.Str.{str_eq_ignore_ascii_case}
use Rattle.std.proofs.lemmas.List.{take_rest}
use Rattle.hx_head.specs.Staying.{name_at}
use Rattle.hx_head.proofs.StayingLemmas.{mark_part, mark_last}
use Rattle.hx_head.proofs.named.mark_value.Goals as goal

pub loop-comma-preserved : goal.loop-comma-preserved
loop-comma-preserved c k lt =
    let name = name_at c.args.bytes.now c.args.fields.now k in
    let old = get_or c.loop-comma.named k false in
    let new = get_or c.mark_option.new.named k false in
    let is = c.mark_option.ensures k lt ∙ ap (λ (option : List ℕ). old || str_eq_ignore_ascii_case option name) c.trim.ensures in
    simp (take_rest, add-one)
    (mark_part c.loop-comma.rest.now name c.in-Some.comma old new (search rules) (search rules) (search rules) is ∙ c.loop-comma.invariant k lt)

pub returns : goal.returns
returns c k lt =
    let name = name_at c.args.bytes.now c.args.fields.now k in
    let old = get_or c.loop-comma.named k false in
    let is = c.mark_option-2.ensures k lt ∙ ap (λ (option : List ℕ). old || str_eq_ignore_ascii_case option name) c.trim-2.ensures in
    mark_last c.loop-comma.rest.now name old _ (search rules) is ∙ c.loop-comma.invariant k lt
