-- Totals as a line of text.
use Rattle.std.specs.Prelude.{ℕ, List, ◌++◌, codes, decimal}
use Rattle.hx_base.specs.declared.totals.Totals.{Totals}

-- each number in decimal digits behind its word, and a line feed
abbrev pub report_text : Totals → List ℕ
report_text t =
    codes "open " ++ decimal t.opened ++ codes " park " ++ decimal t.parked
    ++ codes " take " ++ decimal t.taken ++ codes " over " ++ decimal t.over
    ++ codes " care " ++ decimal t.care ++ codes " close " ++ decimal t.closed
    ++ codes "\n"
