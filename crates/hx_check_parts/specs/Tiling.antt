-- The fifth rule: the ranges of the records cover the bytes of the links.
use Rattle.std.specs.Prelude.{◌≡◌, ◌≢◌, ℕ, ◌+◌, ◌<◌, ◌==◌, List, [], Option, Some, None, IsSome, IfSome, length, take, drop, find, ⊤}
use Rattle.std.specs.List.{flat_map}
use Rattle.hx_base.specs.Spans.{AreContiguous}
use Rattle.hx_base.specs.declared.numbers.Span.{Span}
use Rattle.hx_record.specs.Tiles.{ask_of, gave_of, left_of, carried_of}
use Rattle.hx_record.specs.declared.bytes.ClientBytes.{ClientBytes}
use Rattle.hx_record.specs.declared.bytes.ConnBytes.{ConnBytes}
use Rattle.hx_record.specs.declared.served.Carried.{Carried}
use Rattle.hx_record.specs.declared.served.Left.{Left}
use Rattle.hx_record.specs.declared.served.Told.{Told}
use Rattle.hx_record.specs.declared.served.Told.TheVariants as told
use Rattle.hx_check_parts.specs.Links.{client_took, client_gave}

-- no record of the session stands behind its left line, and its ranges, with that of the line last, follow each other over all
-- bytes of its client
pub record LeftHolds (clients : List ClientBytes) (records : List Told) (k : ℕ) (x : Left) : Type 0 where
  pub last : flat_map (ask_of x.worker x.session) (drop (k + 1) records) ≡ []
  pub asks :
      AreContiguous 0 (flat_map (ask_of x.worker x.session) (take (k + 1) records))
      (length (client_took clients x.worker x.session))
  pub gaves :
      AreContiguous 0 (flat_map (gave_of x.worker x.session) (take k records))
      (length (client_gave clients x.worker x.session))

-- the same of the record at an index, where it is a left line
abbrev pub IsLastOf : List ClientBytes → List Told → ℕ → Told → Type 0
IsLastOf clients records k (told.Served s) = ⊤
IsLastOf clients records k (told.Left x) = LeftHolds clients records k x

-- the client's session has a left line
abbrev pub HasLeft : List Told → ClientBytes → Type 0
HasLeft records c = flat_map (left_of c.worker c.session) records ≢ []

-- the exchanges that records tell of a connection
abbrev pub exchanges_of : List Told → ConnBytes → List Carried
exchanges_of records c = flat_map (carried_of c.server c.id) records

-- the exchange of that number
abbrev pub numbered : ℕ → List Carried → Option Carried
numbered k xs = find (λ (c : Carried). c.nth == k) xs

-- of so many exchanges each number from 1 on is there, so that none is there twice
abbrev pub AreNumbered : List Carried → Type 0
AreNumbered xs = (k : ℕ) → k < length xs → IsSome (numbered (k + 1) xs)

-- where a range of the exchange ends; there is none in front of the first
abbrev pub end_of : (Carried → Span) → Option Carried → ℕ
end_of range None = 0
end_of range (Some c) = (range c).to

-- by rising number from 1 the ranges follow each other from the first byte
abbrev pub Follow : (Carried → Span) → List Carried → Type 0
Follow range xs =
    (k : ℕ) → k < length xs → IfSome (numbered (k + 1) xs) (λ c. (range c).from ≡ end_of range (numbered k xs))

abbrev pub sent_range : Carried → Span
sent_range c = c.sent

abbrev pub took_range : Carried → Span
took_range c = c.took

-- the connection's exchanges are numbered, and what was sent in them follows each other
abbrev pub SentHolds : List Told → ConnBytes → Type 0
SentHolds records c = AreNumbered (exchanges_of records c) × Follow sent_range (exchanges_of records c)

-- what was taken in them follows each other
abbrev pub TookHolds : List Told → ConnBytes → Type 0
TookHolds records c = Follow took_range (exchanges_of records c)
