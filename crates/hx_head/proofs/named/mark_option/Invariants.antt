use Rattle.std.proofs.Common.{◌≡◌, ◌<◌, ◌≤◌, ℕ, ◌||◌, false, get_or}
use Rattle.std.specs.Str.{str_eq_ignore_ascii_case}
use Rattle.hx_head.specs.Staying.{name_at}
use Rattle.hx_head.proofs.named.mark_option.Given as goal

abbrev pub invariant-loop-i : goal.invariant-loop-i
invariant-loop-i l = record {
  done : (k : ℕ) → k < l.i → get_or l.named k false ≡ (get_or l.initial.named k false || str_eq_ignore_ascii_case l.option (name_at l.bytes l.fields k));
  rest : (k : ℕ) → l.i ≤ k → get_or l.named k false ≡ get_or l.initial.named k false;
}
