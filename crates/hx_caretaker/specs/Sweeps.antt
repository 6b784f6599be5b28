-- What the caretaker does at one seat: it takes connections that rest, closes each, and buries their links.
use Rattle.std.specs.Prelude.{◌≡◌, ◌≢◌, ℕ, ◌*◌, ◌≤◌, false, List, [], ◌∷◌, ◌++◌, length, Some, None, ⊤}
use Rattle.std.specs.List.{flat_map}
use Rattle.hx_base.specs.declared.numbers.ThreadNo.{ThreadNo}
use Rattle.hx_base.specs.declared.numbers.SessionNo.{SessionNo}
use Rattle.hx_base.specs.declared.numbers.PlaceNo.{PlaceNo}
use Rattle.hx_base.specs.declared.numbers.Face.{Face}
use Rattle.hx_conn.specs.WhatTold.{what_of_link}
use Rattle.hx_link.specs.Told.{LinkState}
use Rattle.hx_link.specs.Nets.{NetState, TellsDial, StaysTold}
use Rattle.hx_pool.specs.declared.entries.Entry.{Entry}
use Rattle.hx_pool.specs.declared.entries.Entry.TheVariants.{Take, Close}
use Rattle.hx_pool.specs.declared.entries.Note.{Note}
use Rattle.hx_pool.specs.Causes.{caretaker}
use Rattle.hx_pool.specs.Held.{AllApart}
use Rattle.hx_pool.specs.History.{marks_of, what_of}
use Rattle.hx_pool.specs.SeatView.{History, Makes}
use Rattle.hx_pool.specs.Taking.{taken}
use Rattle.hx_connecting.specs.Links.{GainsAll}
use Rattle.hx_connecting.specs.Touches.{Balances}

-- a connection that was taken from its place and closed
pub record Swept : Type 0 where
  pub place : PlaceNo
  pub face : Face

-- its Take, which is for no request, and its Close
abbrev pub swept_marks : ThreadNo → Swept → List Entry
swept_marks t x = Take t caretaker false x.place x.face.id x.face.uses ∷ Close t caretaker x.face.id ∷ []

-- each Take with its Close behind it
abbrev pub sweep_marks : ThreadNo → List Swept → List Entry
sweep_marks t swept = flat_map (swept_marks t) swept

-- the marks of es are those of these connections, which are no more than the board has places
pub record ClosesThem (h : History) (es : List Note) (swept : List Swept) : Type 0 where
  pub marks : marks_of es ≡ sweep_marks h.about.thread swept
  pub few : length swept ≤ 64 * h.about.threads

-- the link tells what stood beside the connection when it was taken
pub record RestedSo (seen : List Note) (t : ThreadNo) (x : Swept) (l : LinkState) : Type 0 where
  pub before : List Note
  pub behind : List Note
  pub parts : seen ≡ before ++ taken t caretaker false x.place x.face ∷ behind
  pub what : what_of before x.face.id.0 ≡ Some (what_of_link l)

-- the link is that of the connection: by its dial where it tells that, attached to no loop, and as it rested
pub record IsItsLink (h : History) (x : Swept) (l : LinkState) : Type 0 where
  pub dial : TellsDial h.about.server x.face.id l
  pub no_loop : l.on_loop ≡ None
  pub rested : RestedSo h.seen h.about.thread x l

-- the links of these connections, in order
abbrev pub AreTheirLinks : History → List Swept → List LinkState → Type 0
AreTheirLinks h [] [] = ⊤
AreTheirLinks h (x ∷ swept) (l ∷ links) = IsItsLink h x l × AreTheirLinks h swept links
AreTheirLinks h swept links = ⊥

-- the net buried these, dialled none, and is else as it was but for its faults
pub record BuriesAll (links : List LinkState) (net net' : NetState) : Type 0 where
  pub buried : GainsAll links net.buried net'.buried
  pub dials : StaysTold net.dials net'.dials
  pub loop : net'.loop_no ≡ net.loop_no
  pub course : net'.course ≡ net.course
  pub faults : net.faults ≤ net'.faults

-- what was done at a seat: the entries that were made, the connections that were closed, and their links
pub record Sweep : Type 0 where
  pub added : List Note
  pub swept : List Swept
  pub links : List LinkState

-- nothing was done
abbrev pub no_sweep : Sweep
no_sweep = record { added = []; swept = []; links = [] }

-- the most marks at one seat in one call: a Round or a SetGate, and 1,024 Takes, each with its Close
abbrev pub care_marks : ℕ
care_marks = 2049

-- the call made the entries of the sweep, which are as P says: none in a session's name, and as many Ups and Takes as
-- Parks and Downs
pub record Sweeps (P : History → List Note → List Swept → Type 0) (old new : History) (x : Sweep) : Type 0 where
  pub makes : Makes old new x.added
  pub does : P old x.added x.swept
  pub own : (n : SessionNo) → n.0 ≢ 0 → AllApart n x.added
  pub balances : Balances 0 0 x.added
  pub few : length x.swept ≤ 1024
  pub few_marks : length (marks_of x.added) ≤ care_marks
  pub links : AreTheirLinks new x.swept x.links
