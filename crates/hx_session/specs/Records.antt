-- The records that a call of a session gives: they are true of the links as the call leaves them, they are numbered from 1,
-- and their ranges follow those of the records before.
use Rattle.std.specs.Prelude.{◌≡◌, ◌⊎◌, ◌+◌, ◌≤◌, true, false, if◌then◌else◌, Option, Some, None, IfSome, [], ⊤}
use Rattle.hx_base.specs.declared.what.What.{What}
use Rattle.hx_base.specs.declared.what.LinkTold.{LinkTold}
use Rattle.hx_conn.specs.Conns.{BusyNow}
use Rattle.hx_conn.specs.WhatTold.{what_of_link}
use Rattle.hx_link.specs.Told.{LinkState}
use Rattle.hx_record.specs.Carriage.{Carriage}
use Rattle.hx_record.specs.Truth.{RecountsBytes, IsTruePassed}
use Rattle.hx_record.specs.declared.served.Carried.{Carried}
use Rattle.hx_record.specs.declared.served.CutCause.{CutCause}
use Rattle.hx_record.specs.declared.served.CutCause.TheVariants as cut
use Rattle.hx_record.specs.declared.served.Kind.{Kind}
use Rattle.hx_record.specs.declared.served.Kind.TheVariants as kind
use Rattle.hx_record.specs.declared.served.Left.{Left}
use Rattle.hx_record.specs.declared.served.LeftCause.{LeftCause}
use Rattle.hx_record.specs.declared.served.LeftCause.TheVariants as cause
use Rattle.hx_record.specs.declared.served.Served.{Served}
use Rattle.hx_connecting.specs.Sessions.{SessionNow}
use Rattle.hx_connecting.specs.Sessions.{Exchanging}
use Rattle.hx_connecting.specs.Ways.{HasNoExchange}

abbrev pub carriage_of : LinkTold → Carriage
carriage_of l = record { taken = l.taken; sent = l.sent; ended = l.ended }

abbrev pub no_carriage : Carriage
no_carriage = record { taken = []; sent = []; ended = false }

-- of what a link carried, where it tells its bytes
abbrev pub WhereTold : Option LinkTold → (Carriage → Type 0) → Type 0
WhereTold told P = IfSome told (λ l. P (carriage_of l))

abbrev pub told_of : Option What → Option LinkTold
told_of None = None
told_of (Some w) = w.told

-- why the session leaves in the call; the truth of a record with which it doesn't leave asks for no cause
abbrev pub leaves_for : Option Left → LeftCause
leaves_for None = cause.End
leaves_for (Some l) = l.cause

-- the record is of the session's exchange b, by its connection, its number there, and where its ranges begin; they end no
-- earlier than they begin
pub record IsOfExchange (b : BusyNow) (c : Carried) : Type 0 where
  pub server : c.server ≡ b.server
  pub id : c.id ≡ b.id
  pub nth : c.nth ≡ b.uses + 1
  pub sent : c.sent.from ≡ b.exchange.sent_from
  pub took : c.took.from ≡ b.exchange.taken_from
  pub sent_rises : c.sent.from ≤ c.sent.to
  pub took_rises : c.took.from ≤ c.took.to

abbrev pub ItsExchange : SessionNow → Carried → Type 0
ItsExchange s c = (b : BusyNow) × (s.conn ≡ Some (Exchanging b)) × IsOfExchange b c

-- with what a session leaves after a record: a closing answer, a cut and an own answer end it
abbrev pub cut_ends : CutCause → LeftCause
cut_ends cut.Stop = cause.Stop
cut_ends _ = cause.Cut

abbrev pub ends_after : Kind → Option LeftCause
ends_after (kind.Passed c) = if c.closing then Some cause.Closing else None
ends_after (kind.Cut c why) = Some (cut_ends why)
ends_after (kind.Own status) = Some cause.Own

-- a record that ends its session comes with its Left; that of an own answer may come with another cause
abbrev pub EndsSession : Option LeftCause → Option Left → Type 0
EndsSession None left = left ≡ None
EndsSession (Some why) left =
    (l : Left) × (left ≡ Some l)
    × ((l.cause ≡ why) ⊎ ((why ≡ cause.Own) × ((l.cause ≡ cause.Fault) ⊎ (l.cause ≡ cause.Idle) ⊎ (l.cause ≡ cause.Stop))))

-- a record of each kind, of the client's link and of the connection's as the call leaves them
abbrev pub KindStands : SessionNow → SessionNow → Option What → LeftCause → Served → Kind → Type 0
KindStands s s' conn why r (kind.Passed c) =
    ItsExchange s c
    × WhereTold (what_of_link s'.client).told (λ x. WhereTold (told_of conn) (λ y. RecountsBytes r.kind r x y why))
KindStands s s' conn why r (kind.Cut c cut_why) =
    ItsExchange s c
    × WhereTold (what_of_link s'.client).told (λ x. WhereTold (told_of conn) (λ y. RecountsBytes r.kind r x y why))
KindStands s s' conn why r (kind.Own status) =
    (s'.own ≡ None) × WhereTold (what_of_link s'.client).told (λ x. RecountsBytes r.kind r x no_carriage why)

-- a passed record is of a request of its exchange's method
abbrev pub IsOfMethod : SessionNow → LinkState → Option What → Served → Kind → Type 0
IsOfMethod s client conn r (kind.Passed c) =
    (b : BusyNow) → s.conn ≡ Some (Exchanging b)
    → WhereTold (what_of_link client).told (λ x. WhereTold (told_of conn) (λ y.
    (p : IsTruePassed r c x y) × (p.method ≡ b.exchange.method)))
IsOfMethod s client conn r (kind.Cut c why) = ⊤
IsOfMethod s client conn r (kind.Own status) = ⊤

pub record RecordStands (s s' : SessionNow) (conn : Option What) (left : Option Left) (r : Served) : Type 0 where
  pub worker : r.worker ≡ s.worker
  pub session : r.session ≡ s.number
  pub number : r.number ≡ s.served + 1
  pub ask : r.ask.from ≡ s.asked
  pub gave : r.gave.from ≡ s.gave
  pub ask_rises : r.ask.from ≤ r.ask.to
  pub gave_rises : r.gave.from ≤ r.gave.to
  pub is_true : KindStands s s' conn (leaves_for left) r r.kind
  pub method : IsOfMethod s s'.client conn r r.kind
  -- with it no exchange is under way any more
  pub over : HasNoExchange s'.conn
  pub served : s'.served ≡ s.served + 1
  pub asked : s'.asked ≡ r.ask.to
  pub given : s'.gave ≡ r.gave.to
  pub ends : EndsSession (ends_after r.kind) left

pub record NoRecord (s s' : SessionNow) : Type 0 where
  pub served : s'.served ≡ s.served
  pub asked : s'.asked ≡ s.asked
  pub given : s'.gave ≡ s.gave

abbrev pub Records : SessionNow → SessionNow → Option What → Option Left → Option Served → Type 0
Records s s' conn left None = NoRecord s s'
Records s s' conn left (Some r) = RecordStands s s' conn left r

-- the session's end: its range has all that was taken after the last record, and all that was given is in records
pub record LeftStands (s' : SessionNow) (l : Left) : Type 0 where
  pub worker : l.worker ≡ s'.worker
  pub session : l.session ≡ s'.number
  pub from : l.ask.from ≡ s'.asked
  pub rises : l.ask.from ≤ l.ask.to
  pub to : l.ask.to ≡ s'.client.taken_count
  pub gave : s'.gave ≡ s'.client.sent_count
  pub over : s'.over ≡ true
  pub conn : s'.conn ≡ None

abbrev pub Leaves : SessionNow → Option Left → Type 0
Leaves s' None = s'.over ≡ false
Leaves s' (Some l) = LeftStands s' l
