use Rattle.std.proofs.Common.{suc, ◌||◌, Bool, drop, sym, ap, ◌∙◌, rules, add-one}
use Rattle.std.specs.Str.{str_eq_ignore_ascii_case}
use Rattle.std.proofs.lemmas.List.{take_rest}
use Rattle.hx_head.specs.Options.{lists_option}
use Rattle.hx_head.proofs.OptionLemmas.{option_at, option_whole}
use Rattle.hx_head.proofs.options.lists_option.Goals as goal

pub returns-then-is_same_name : goal.returns-then-is_same_name
returns-then-is_same_name c =
    let rest = c.loop-comma.rest.now in
    let option = c.args.option.now in
    let split = option_at option rest c.in-Some.comma (search rules) (search rules) (search rules) in
    let first = ap (str_eq_ignore_ascii_case option) (sym c.trim.ensures) ∙ sym c.is_same_name.ensures ∙ c.if-is_same_name.true in
    sym (split ∙ ap (λ (t : Bool). t || lists_option option (drop (suc c.in-Some.comma) rest)) first)
    ∙ c.loop-comma.invariant

pub loop-comma-preserved : goal.loop-comma-preserved
loop-comma-preserved c =
    let rest = c.loop-comma.rest.now in
    let option = c.args.option.now in
    let split = option_at option rest c.in-Some.comma (search rules) (search rules) (search rules) in
    let first = ap (str_eq_ignore_ascii_case option) (sym c.trim.ensures) ∙ sym c.is_same_name.ensures ∙ c.if-is_same_name.false in
    let later = split ∙ ap (λ (t : Bool). t || lists_option option (drop (suc c.in-Some.comma) rest)) first in
    simp (take_rest, add-one) (sym later ∙ c.loop-comma.invariant)

pub returns : goal.returns
returns c =
    c.is_same_name-2.ensures ∙ ap (str_eq_ignore_ascii_case c.args.option.now) c.trim-2.ensures
    ∙ sym (option_whole c.args.option.now c.loop-comma.rest.now (search rules)) ∙ c.loop-comma.invariant
