-- Lines that stop at u32's greatest number.
use Rattle.std.proofs.Common.{◌≡◌, ℕ, ◌+◌, ◌<◌, List, length, take, get_or, sym, ap, ◌∙◌, arith}
use Rattle.std.proofs.lemmas.List.Sums.{fold_more}
use Rattle.hx_script.specs.declared.transcript.ServerPart.{ServerPart}
use Rattle.hx_check.specs.Lines.{lines_of, server_lines, told_line}

-- so many lines more
pub told_more : (a b x r : ℕ) → r ≡ told_line (x + b) → x ≡ told_line a → r ≡ told_line (a + b)
told_more a b x r e f = omega (arith, e, f)

-- the lines of one server more
pub lines_more : (servers : List ServerPart) (k : ℕ) (x : ServerPart) → k < length servers → x ≡ get_or servers k x
    → server_lines (take (k + 1) servers) ≡ server_lines (take k servers) + lines_of x
lines_more servers k x within is =
    fold_more (λ (a : ℕ) (p : ServerPart). a + lines_of p) 0 servers k x within
    ∙ ap (λ (p : ServerPart). server_lines (take k servers) + lines_of p) (sym is)
