-- Three numbers are the same where each of them is.
use Rattle.std.proofs.Common.{◌≡◌, ℕ, Bool, true, false, ◌==◌, ◌&&◌, sym, ap, ◌∙◌, refl, subst, arith}
use Rattle.std.specs.declared.cmp.Ordering.{Ordering}
use Rattle.std.specs.Ordering.{nat_cmp, ordering_then, is_eq}
use Rattle.std.specs.Cmp.{tied_then}
use Rattle.hx_check_table.specs.Tables.{cmp_numbers}

same_number : (a x : ℕ) → is_eq (nat_cmp a x) ≡ (x == a)
same_number a x = grind arith

pub same_numbers : (a b c x y z : ℕ) → is_eq (cmp_numbers (a, b, c) (x, y, z)) ≡ ((x == a && y == b) && z == c)
same_numbers a b c x y z =
    sym (tied_then (ordering_then (nat_cmp a x) (nat_cmp b y)) (nat_cmp c z))
    ∙ ap (λ (s : Bool). s && is_eq (nat_cmp c z)) (sym (tied_then (nat_cmp a x) (nat_cmp b y)))
    ∙ rw (same_number a x, same_number b y, same_number c z) refl
