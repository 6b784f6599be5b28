-- Facts of items that are read by their index.
use Rattle.std.proofs.Common.{◌≡◌, ℕ, ◌+◌, ◌<◌, List, length, refl, subst, sym, below_more, get_or}
use Rattle.std.specs.Prelude.{IfSome, slice_get}
use Rattle.std.proofs.lemmas.Option.{slice_get_read}
use Rattle.hx_record.specs.declared.bytes.ConnBytes.{ConnBytes}
use Rattle.hx_record.specs.declared.served.Told.{Told}
use Rattle.hx_check_parts.specs.Each.{HoldsBelow}
use Rattle.hx_check_parts.specs.Tiling.{SentHolds, TookHolds}
use Rattle.hx_check.specs.Rules.{ConnIn}
use Rattle.hx_check.specs.Conns.{IsFirst}
use Rattle.hx_check.specs.declared.tiles.ConnBreak.TheVariants.{Sent, Took}

-- the fact holds of one item more
pub more_at : {A : Type 0} (P : ℕ → A → Type 0) (xs : List A) (i : ℕ) (x : A) → i < length xs → x ≡ get_or xs i x
    → HoldsBelow P xs i → P i x → HoldsBelow P xs (i + 1)
more_at P xs i x within is below here =
    below_more (λ k. IfSome (slice_get xs k) (P k)) i below
    (subst (λ o. IfSome o (P i)) (sym (slice_get_read xs (length xs) i x refl within is)) here)

module _ (records : List Told) (conns : List ConnBytes) (k : ℕ) (x : ConnBytes) (within : k < length conns) (is : x ≡ get_or conns k x)
    (below : HoldsBelow (ConnIn records) conns k) where
  -- the connection breaks the rule by what was sent
  pub sent_first : (SentHolds records x → ⊥) → IsFirst records conns (Sent k)
  sent_first not = (
    record {
      item = x;
      there = slice_get_read conns (length conns) k x refl within is;
      fails = λ holds. not holds.0;
      before = below;
    },
    not,
  )

  -- or by what was read
  pub took_first : SentHolds records x → (TookHolds records x → ⊥) → IsFirst records conns (Took k)
  took_first sent not = (
    record {
      item = x;
      there = slice_get_read conns (length conns) k x refl within is;
      fails = λ holds. not holds.1;
      before = below;
    },
    sent,
  )
