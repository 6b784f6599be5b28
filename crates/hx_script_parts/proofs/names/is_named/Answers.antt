use Rattle.std.proofs.Common.{ℕ, List, sym, ap, ◌∙◌, ◌+◌, length, bytes_eq, arith}
use Rattle.std.proofs.lemmas.List.{take_rest}
use Rattle.hx_script_parts.proofs.Naming.{wrong_stroke, wrong_back, right_back}
use Rattle.hx_script_parts.proofs.names.is_named.Goals as goal

pub returns-then-word-n-ne47 : goal.returns-then-word-n-ne47
returns-then-word-n-ne47 c = wrong_stroke c.args.word.now c.args.back.now c.args.server.now (omega arith) c.if-word-n-ne47.true

pub returns-then-not-same : goal.returns-then-not-same
returns-then-not-same c = wrong_back c.args.word.now c.args.back.now c.args.server.now (omega arith) (sym c.same.ensures ∙ c.if-not-same.true)

pub returns : goal.returns
returns c =
    c.same-2.ensures ∙ ap (λ (xs : List ℕ). bytes_eq xs c.args.server.now) (take_rest c.args.word.now (length c.args.back.now + 1))
    ∙ right_back c.args.word.now c.args.back.now c.args.server.now (omega arith) c.if-word-n-ne47.false (sym c.same.ensures ∙ c.if-not-same.false)
