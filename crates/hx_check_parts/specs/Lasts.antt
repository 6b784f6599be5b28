-- Private: what the last marks leave, as tables have it.
use Rattle.std.specs.Prelude.{◌≡◌, ℕ, Bool, false, ◌==◌, ◌&&◌, cond, Option, None, Some}
use Rattle.hx_base.specs.declared.numbers.ThreadNo.{ThreadNo}
use Rattle.hx_base.specs.declared.numbers.SessionNo.{SessionNo}
use Rattle.hx_base.specs.declared.numbers.ConnId.{ConnId}
use Rattle.hx_base.specs.declared.numbers.PlaceNo.{PlaceNo}
use Rattle.hx_base.specs.declared.numbers.Face.{Face}
use Rattle.hx_pool.specs.Table.{Conn}
use Rattle.hx_check_table.specs.declared.table.Table.{Table}
use Rattle.hx_check_table.specs.Tables.{value_at}
use Rattle.hx_check_parts.specs.Marks.{MarkTable}
use Rattle.hx_check_parts.specs.Last.{is_held}
use Rattle.hx_check_parts.specs.declared.lasts.Holder.{Holder}
use Rattle.hx_check_parts.specs.declared.lasts.Lasts.{Lasts}

-- the session is the holder
abbrev pub holds : Option Holder → ThreadNo → SessionNo → Bool
holds None t n = false
holds (Some h) t n = (h.t.0 == t.0) && (h.n.0 == n.0)

-- what a table has, where nothing is there yet
abbrev pub is_holder : Option (Option Holder) → ThreadNo → SessionNo → Bool
is_holder None t n = false
is_holder (Some h) t n = holds h t n

abbrev pub uses_in : Option ℕ → ℕ
uses_in None = 0
uses_in (Some uses) = uses

abbrev pub face_in : Option (Option Face) → Option Face
face_in None = None
face_in (Some face) = face

-- one connection, or one place, is changed
abbrev pub IsPutHolder : (ℕ → Conn) → ConnId → Option Holder → (ℕ → Conn) → Type 0
IsPutHolder old id h new =
    (q : ℕ) (t : ThreadNo) (n : SessionNo) → is_held (new q) t n ≡ cond (q == id.0) (holds h t n) (is_held (old q) t n)

abbrev pub IsPutUses : (ℕ → ℕ) → ConnId → ℕ → (ℕ → ℕ) → Type 0
IsPutUses old id uses new = (q : ℕ) → new q ≡ cond (q == id.0) uses (old q)

abbrev pub IsPutFace : (ℕ → ℕ → Option Face) → PlaceNo → Option Face → (ℕ → ℕ → Option Face) → Type 0
IsPutFace old at face new = (row place : ℕ) → new row place ≡ cond ((row == at.row) && (place == at.place)) face (old row place)

-- a table has it all
abbrev pub KeepsHolders : (ℕ → Conn) → Table (Option Holder) → Type 0
KeepsHolders conns table = (q : ℕ) (t : ThreadNo) (n : SessionNo) → is_held (conns q) t n ≡ is_holder (value_at table q 0 0) t n

abbrev pub KeepsUses : (ℕ → ℕ) → Table ℕ → Type 0
KeepsUses uses table = (q : ℕ) → uses q ≡ uses_in (value_at table q 0 0)

abbrev pub KeepsFaces : (ℕ → ℕ → Option Face) → Table (Option Face) → Type 0
KeepsFaces rests table = (row place : ℕ) → rests row place ≡ face_in (value_at table row place 0)

pub record Keeps (T : MarkTable) (x : Lasts) : Type 0 where
  pub holders : KeepsHolders T.conns x.holders
  pub uses : KeepsUses T.uses x.uses
  pub faces : KeepsFaces T.rests x.faces
