-- That each record which was told in a course of a worker is true of what its links tell now, where they tell their bytes.
use Rattle.std.specs.Prelude.{◌≡◌, ◌⊎◌, ℕ, true, false, List, Contains, IfSome}
use Rattle.hx_base.specs.declared.what.LinkTold.{LinkTold}
use Rattle.hx_base.specs.declared.what.What.{What}
use Rattle.hx_conn.specs.WhatTold.{what_of_link}
use Rattle.hx_link.specs.Told.{LinkState}
use Rattle.hx_pool.specs.SeatView.{History}
use Rattle.hx_record.specs.Carriage.{Carriage}
use Rattle.hx_record.specs.Tiles.{is_of}
use Rattle.hx_record.specs.Truth.{IsTruePassed, IsTrueCut, IsTrueOwn}
use Rattle.hx_record.specs.declared.served.Carried.{Carried}
use Rattle.hx_record.specs.declared.served.CutCause.{CutCause}
use Rattle.hx_record.specs.declared.served.Kind.{Kind}
use Rattle.hx_record.specs.declared.served.Kind.TheVariants as kind
use Rattle.hx_record.specs.declared.served.Left.{Left}
use Rattle.hx_record.specs.declared.served.Served.{Served}
use Rattle.hx_record.specs.declared.served.Told.{Told}
use Rattle.hx_record.specs.declared.served.Told.TheVariants as line
use Rattle.hx_connecting.specs.Sessions.{SessionNow}
use Rattle.hx_session.specs.Records.{carriage_of}
use Rattle.hx_course.specs.Graves.{Grave, OfClient, grave}
use Rattle.hx_course.specs.Places.{ClientIs, ConnIs, IsInGrave}

-- what a link carried, whose end isn't told
abbrev pub left_open : LinkTold → Carriage
left_open l = record { taken = l.taken; sent = l.sent; ended = false }

-- of what a client's link and a connection's link tell, where both tell their bytes
abbrev pub WhereBoth : LinkState → What → (LinkTold → LinkTold → Type 0) → Type 0
WhereBoth l v P = IfSome (what_of_link l).told (λ x. IfSome v.told (λ y. P x y))

-- a passed record that is true whether or not the connection's link told its end; no end of the client's link is asked for
abbrev pub IsTrueOpen : Served → Carried → LinkTold → LinkTold → Type 0
IsTrueOpen r c x y = IsTruePassed r c (left_open x) (left_open y)

-- a passed record that may lean on the end of the connection's link
abbrev pub IsTrueEnded : Served → Carried → LinkTold → LinkTold → Type 0
IsTrueEnded r c x y = IsTruePassed r c (left_open x) (carriage_of y)

-- a passed record: one that leans on the end of the connection's link has that link buried
pub record PassedNow (sessions : List SessionNow) (seats : List History) (graves : List Grave) (r : Served) (c : Carried)
    : Type 0 where
  pub client : LinkState
  pub of_client : ClientIs sessions graves r.worker r.session client
  pub conn : What
  pub stands :
      (ConnIs sessions seats graves c.server c.id conn × WhereBoth client conn (IsTrueOpen r c))
      ⊎ (IsInGrave graves c.server c.id conn × WhereBoth client conn (IsTrueEnded r c))

-- a record of an exchange that was cut off: both links are buried
pub record CutNow (graves : List Grave) (r : Served) (c : Carried) (why : CutCause) : Type 0 where
  pub client : LinkState
  pub of_client : Contains graves (grave (OfClient r.worker r.session) client)
  pub conn : What
  pub of_conn : IsInGrave graves c.server c.id conn
  pub is_true : WhereBoth client conn (λ x y. IsTrueCut r c why (left_open x) (carriage_of y))

-- a record of an own answer: the client's link is buried, and the session's end is told
pub record OwnNow (records : List Told) (graves : List Grave) (r : Served) (status : ℕ) : Type 0 where
  pub client : LinkState
  pub of_client : Contains graves (grave (OfClient r.worker r.session) client)
  pub left : Left
  pub left_told : Contains records (line.Left left)
  pub its_left : is_of r.worker r.session left.worker left.session ≡ true
  pub is_true : IfSome (what_of_link client).told (λ x. IsTrueOwn r status (left_open x) left.cause)

-- a record of each kind
abbrev pub IsTrueNow : List SessionNow → List History → List Told → List Grave → Served → Kind → Type 0
IsTrueNow sessions seats records graves r (kind.Passed c) = PassedNow sessions seats graves r c
IsTrueNow sessions seats records graves r (kind.Cut c why) = CutNow graves r c why
IsTrueNow sessions seats records graves r (kind.Own status) = OwnNow records graves r status

-- each record that was told
abbrev pub KeepsTruth : List SessionNow → List History → List Told → List Grave → Type 0
KeepsTruth sessions seats records graves =
    (r : Served) → Contains records (line.Served r) → IsTrueNow sessions seats records graves r r.kind
