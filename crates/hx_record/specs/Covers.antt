-- What a session's records, and those that name a connection, have covered so far, and a record that stands right behind.
use Rattle.std.specs.Prelude.{◌≡◌, ℕ, ◌+◌, ◌≤◌, List, [], ◌∷◌, length}
use Rattle.std.specs.List.{flat_map}
use Rattle.hx_base.specs.declared.numbers.ThreadNo.{ThreadNo}
use Rattle.hx_base.specs.declared.numbers.SessionNo.{SessionNo}
use Rattle.hx_base.specs.declared.numbers.ServerNo.{ServerNo}
use Rattle.hx_base.specs.declared.numbers.ConnId.{ConnId}
use Rattle.hx_base.specs.Spans.{AreContiguous}
use Rattle.hx_record.specs.declared.served.Carried.{Carried}
use Rattle.hx_record.specs.declared.served.Served.{Served}
use Rattle.hx_record.specs.declared.served.Left.{Left}
use Rattle.hx_record.specs.declared.served.Told.{Told}
use Rattle.hx_record.specs.Tiles.{ask_of, gave_of, left_of, number_of, carried_of, AreNumbered, InOrder}

-- the session has as many records as count says and no Left: their ranges follow each other from the client's first byte
-- up to these, and they are numbered from 1 on
pub record CoversClient (t : ThreadNo) (n : SessionNo) (records : List Told) (asked gave count : ℕ) : Type 0 where
  pub asks : AreContiguous 0 (flat_map (ask_of t n) records) asked
  pub gaves : AreContiguous 0 (flat_map (gave_of t n) records) gave
  pub numbers : AreNumbered 1 (flat_map (number_of t n) records)
  pub size : length (flat_map (number_of t n) records) ≡ count
  pub goes_on : flat_map (left_of t n) records ≡ []

-- the record stands right behind what its session's records have covered
pub record FollowsClient (s : Served) (asked gave count : ℕ) : Type 0 where
  pub ask : (s.ask.from ≡ asked) × (s.ask.from ≤ s.ask.to)
  pub given : (s.gave.from ≡ gave) × (s.gave.from ≤ s.gave.to)
  pub number : s.number ≡ count + 1

-- the Left has the rest of the bytes that were read, and all that was given stands in records
pub record EndsClient (l : Left) (asked gave : ℕ) (took given : List ℕ) : Type 0 where
  pub from : l.ask.from ≡ asked
  pub rises : l.ask.from ≤ l.ask.to
  pub to : l.ask.to ≡ length took
  pub all_given : gave ≡ length given

-- the last byte that these exchanges sent, or took
abbrev pub sent_to : ℕ → List Carried → ℕ
sent_to k [] = k
sent_to k (c ∷ exchanges) = sent_to c.sent.to exchanges

-- how far the exchanges reach in what was taken
abbrev pub took_to : ℕ → List Carried → ℕ
took_to k [] = k
took_to k (c ∷ exchanges) = took_to c.took.to exchanges

-- the connection has as many exchanges as count says, which follow each other from its first byte up to these
pub record CoversConn (server : ServerNo) (id : ConnId) (records : List Told) (sent took count : ℕ) : Type 0 where
  pub order : InOrder 1 0 0 (flat_map (carried_of server id) records)
  pub sent_is : sent_to 0 (flat_map (carried_of server id) records) ≡ sent
  pub took_is : took_to 0 (flat_map (carried_of server id) records) ≡ took
  pub size : length (flat_map (carried_of server id) records) ≡ count

-- the exchange stands right behind what its connection's exchanges have covered
pub record FollowsConn (c : Carried) (sent took count : ℕ) : Type 0 where
  pub number : c.nth ≡ count + 1
  pub sends : (c.sent.from ≡ sent) × (c.sent.from ≤ c.sent.to)
  pub takes : (c.took.from ≡ took) × (c.took.from ≤ c.took.to)
