-- What a take makes, and which connection a request takes from its thread's own row.
use Rattle.std.specs.Prelude.{◌≡◌, ℕ, ◌+◌, ◌<◌, ◌≤◌, ◌==◌, ◌&&◌, nat_le, not, Bool, true, false, cond, List, [], ◌∷◌, ◌++◌, Some}
use Rattle.hx_base.specs.declared.numbers.ThreadNo.{ThreadNo}
use Rattle.hx_base.specs.declared.numbers.SessionNo.{SessionNo}
use Rattle.hx_base.specs.declared.numbers.PlaceNo.{PlaceNo}
use Rattle.hx_base.specs.declared.numbers.Face.{Face}
use Rattle.hx_base.specs.Shown.{Shown}
use Rattle.hx_pool.specs.declared.entries.Entry.{Entry}
use Rattle.hx_pool.specs.declared.entries.Entry.TheVariants.{Park, Take, Free, Down}
use Rattle.hx_pool.specs.declared.entries.Note.{Note}
use Rattle.hx_pool.specs.Table.{Holds, spot_at}
use Rattle.hx_pool.specs.History.{plain, table_after, what_of}
use Rattle.hx_pool.specs.Rules.{allows}
use Rattle.hx_pool.specs.SeatView.{History, Makes}
use Rattle.hx_pool.specs.Causes.{AllLooks, LooksOnly, place_of}

-- the Take of this face
abbrev pub taken : ThreadNo → SessionNo → Bool → PlaceNo → Face → Note
taken t n first place f = plain (Take t n first place f.id f.uses)

-- a Take, and the two entries that follow each
abbrev pub taking : ThreadNo → SessionNo → Bool → PlaceNo → Face → ℕ → List Note
taking t n first place f count = taken t n first place f ∷ plain (Free t place) ∷ plain (Down t count) ∷ []

-- the call made the entries of lead, looked, and took: the value has the taken face, the seat's server, and what
-- stood beside the last Park of its connection before the Take
pub record Takes (old new : History) (lead : List Note) (n : SessionNo) (first : Bool) (place : PlaceNo) (v : Shown) : Type 0 where
  pub looks : List Note
  pub count : ℕ
  pub looked : AllLooks old.about.thread looks
  pub makes : Makes old new (lead ++ (looks ++ taking old.about.thread n first place v.face count))
  pub server : v.server ≡ old.about.server
  pub between : List Note
  pub behind : List Note
  pub seen : new.seen ≡ (old.seen ++ between) ++ taken old.about.thread n first place v.face ∷ behind
  pub what : what_of (old.seen ++ between) v.face.id.0 ≡ Some v.what

-- in the table after H nothing that this request may take rests in the row
abbrev pub NoneRestsIn : History → List Note → ℕ → Bool → Type 0
NoneRestsIn h H row first = (p : ℕ) (f : Face) → p < 64 → spot_at (table_after H) (place_of row p) ≡ Holds f
    → allows h.about.rules.mode first f.uses ≡ false

-- the list of a connection: idle, or safe from its second use on
abbrev pub is_safe : ℕ → Bool
is_safe uses = nat_le 2 uses

-- a first request likes the safe list better, a later one the idle list
abbrev pub is_preferred : Bool → ℕ → ℕ → Bool
is_preferred first u w = cond first (is_safe u && not (is_safe w)) (is_safe w && not (is_safe u))

-- where the last Park of a connection stands, after one entry more
abbrev pub park_after : ℕ → ℕ → ℕ → Entry → ℕ
park_after i k o (Park t n id place uses) = cond (id.0 == i) k o
park_after i k o _ = o

-- the same after these notes more
abbrev pub park_from : ℕ → ℕ → ℕ → List Note → ℕ
park_from i k o [] = o
park_from i k o (x ∷ xs) = park_from i (k + 1) (park_after i k o x.entry) xs

-- where the last Park of a connection stands, counted from 1
abbrev pub last_park : List Note → ℕ → ℕ
last_park H i = park_from i 1 0 H

-- no connection of the own row that the request may take is in a list that it likes better than this one's, or was
-- parked later in the same list
abbrev pub IsBest : History → List Note → Bool → Face → Type 0
IsBest h H first w = (p : ℕ) (f : Face) → p < 64 → spot_at (table_after H) (place_of h.about.thread.0 p) ≡ Holds f
    → allows h.about.rules.mode first f.uses ≡ true
    → (is_preferred first f.uses w.uses ≡ false) × (is_safe f.uses ≡ is_safe w.uses → last_park H f.id.0 ≤ last_park H w.id.0)

-- take_own with a value: it took the best of the own row
pub record TakesOwn (old new : History) (n : SessionNo) (first : Bool) (v : Shown) : Type 0 where
  pub place : PlaceNo
  pub row : place.row ≡ old.about.thread.0
  pub takes : Takes old new [] n first place v
  pub passed : new.passed ≡ old.passed
  pub best : IsBest old (old.seen ++ takes.between) first v.face

-- take_own with None: it only looked, and nothing that the request may take rests in the own row
pub record TakesNoneOwn (old new : History) (first : Bool) : Type 0 where
  pub looks : LooksOnly old new
  pub passed : new.passed ≡ old.passed
  pub none : NoneRestsIn new new.seen old.about.thread.0 first
