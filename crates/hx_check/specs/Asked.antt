-- Private: one of the first three rules, as a fact of marks.
use Rattle.std.specs.Prelude.{ℕ}
use Rattle.hx_pool.specs.declared.entries.Entry.{Entry}
use Rattle.hx_script.specs.declared.transcript.ServerPart.{ServerPart}
use Rattle.hx_check.specs.declared.marks.MarkRule.{MarkRule}
use Rattle.hx_check.specs.declared.marks.MarkRule.TheVariants.{Legal, Mode, Limit}
use Rattle.hx_check.specs.Rules.{LegalMark, ModeMark, LimitMark}

-- what the rule asks of a mark
abbrev pub asked_of : MarkRule → ServerPart → ℕ → Entry → Type 0
asked_of Legal p k mark = LegalMark p k mark
asked_of Mode p k mark = ModeMark p k mark
asked_of Limit p k mark = LimitMark p k mark
