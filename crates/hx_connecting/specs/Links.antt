-- What a call of a session does with links: how the link of the touched connection goes its way, what is dialled, and
-- what is buried.
use Rattle.std.specs.Prelude.{◌≡◌, ◌⊎◌, ℕ, ◌≤◌, Bool, true, false, List, [], ◌∷◌, ◌++◌, Option, Some, None, IfSome, IsSome, option_map, option_to_list, Contains, ⊤}
use Rattle.hx_base.specs.Counts.{Rose}
use Rattle.hx_base.specs.declared.what.What.{What}
use Rattle.hx_base.specs.declared.what.LinkTold.{LinkTold}
use Rattle.hx_conn.specs.WhatTold.{what_of_link}
use Rattle.hx_base.specs.declared.plan.Plan.{Plan}
use Rattle.hx_link.specs.Courses.{Course, next_plan, without_next, refuses, attach_fails}
use Rattle.hx_link.specs.Told.{LinkState}
use Rattle.hx_link.specs.Nets.{NetState, told_dial, TellsDial}
use Rattle.hx_pool.specs.declared.entries.Entry.TheVariants.{Park}
use Rattle.hx_pool.specs.declared.entries.Note.{Note}
use Rattle.hx_pool.specs.History.{own_of, what_of}
use Rattle.hx_pool.specs.SeatView.{History}
use Rattle.hx_connecting.specs.Sessions.{Holding, conn_link, conn_server, conn_id, SessionNow, IsSomeAnd}
use Rattle.hx_connecting.specs.Touches.{Came, Went, Touch}
use Rattle.hx_connecting.specs.Touches.{Had, Opened, Took}
use Rattle.hx_connecting.specs.Touches.{Stays, Rests, Ends, EndsTakenBack}

-- the session has that connection
abbrev pub HasIt : SessionNow → Touch → Holding → Type 0
HasIt s x c = (s.conn ≡ Some c) × (conn_server c ≡ x.server) × (conn_id c ≡ x.id)

-- what its link told before the call: nothing of a connection that the call opened; of one that it took, what stood beside its last
-- Park in a part of the history behind which this thread made entries of the call alone
abbrev pub TellsBefore : SessionNow → History → List Note → Touch → Came → Option What → Type 0
TellsBefore s h es x Had w = (c : Holding) × HasIt s x c × (w ≡ Some (what_of_link (conn_link c)))
TellsBefore s h es x Opened w = (s.conn ≡ None) × (w ≡ None)
TellsBefore s h es x (Took place uses) w =
    (s.conn ≡ None)
    × ((H : List Note) × (later : List Note) × (v : What) × (h.seen ≡ H ++ later) × (what_of H x.id.0 ≡ Some v) × (w ≡ Some v)
    × (front : List Note) × (es ≡ front ++ own_of h.about.thread later))

-- the link was buried, of that connection where it tells its dial
abbrev pub IsBuried : Touch → Option LinkState → Option What → Type 0
IsBuried x None w = (x.came ≡ Opened) × (w ≡ None)
IsBuried x (Some l) w = TellsDial x.server x.id l × (w ≡ Some (what_of_link l))

-- what it tells after the call; a connection that was opened and whose dial failed has none
abbrev pub TellsAfter : SessionNow → List Note → Touch → Went → Option LinkState → Option What → Type 0
TellsAfter s es x Stays buried w =
    (buried ≡ None) × ((c : Holding) × HasIt s x c × (w ≡ Some (what_of_link (conn_link c))))
TellsAfter s es x (Rests place uses) buried w =
    (buried ≡ None) × (s.conn ≡ None)
    × ((v : What) × (w ≡ Some v)
    × Contains es (record { entry = Park s.worker s.number x.id place uses; what = Some v }))
TellsAfter s es x Ends buried w = (s.conn ≡ None) × IsBuried x buried w
TellsAfter s es x (EndsTakenBack place uses) buried w = (s.conn ≡ None) × IsBuried x buried w

-- bytes stand behind those of before
pub record GrowsTold (a b : LinkTold) : Type 0 where
  pub sent : (more : List ℕ) × (b.sent ≡ a.sent ++ more)
  pub taken : (more : List ℕ) × (b.taken ≡ a.taken ++ more)
  pub ended : a.ended ≡ true → b.ended ≡ true

-- one link, before and after: its tag and its plan stay, its faults don't fall, it tells its bytes after where it told them before, and nowhere
-- else, and bytes come behind its bytes
pub record IsSameLink (a b : What) : Type 0 where
  pub tag : b.tag ≡ a.tag
  pub plan : b.plan ≡ a.plan
  pub faults : a.faults ≤ b.faults
  pub told : IfSome a.told (λ c. (d : LinkTold) × (b.told ≡ Some d) × GrowsTold c d)
  pub told_before : IsSome b.told → IsSome a.told

abbrev pub GoesOn : Option What → Option What → Type 0
GoesOn (Some a) (Some b) = IsSameLink a b
GoesOn (Some a) None = ⊥
GoesOn None w = ⊤

-- a list gained these at its end, or isn't told any more
abbrev pub GainsAll : {A : Type 0} → List A → Option (List A) → Option (List A) → Type 0
GainsAll more old new = (new ≡ option_map (λ xs. xs ++ more) old) ⊎ (new ≡ None)

-- where the net tells what is to come: the link of a dial follows the server's next plan, which doesn't refuse, and where it was closed
-- at once its attach was to fail; a dial that fails had no such plan
abbrev pub DialFollows : Touch → Course → NetState → Bool → Option What → Type 0
DialFollows x c new true w =
    (p : Plan) × (next_plan x.server c.plans ≡ Some p) × (p.refuse ≡ false) × IsSomeAnd w (λ v. v.plan ≡ Some p)
    × (x.went ≡ Ends → attach_fails c.failing ≡ true)
DialFollows x c new false w = (refuses (next_plan x.server c.plans) ≡ true) ⊎ (new.dials ≡ None)

-- the plans that are left are those, and no attach is to fail where none was
abbrev pub LeavesPlans : List Plan → Option Course → Option Course → Type 0
LeavesPlans plans old new =
    IfSome old (λ c. (d : Course) × (new ≡ Some d) × (d.plans ≡ plans) × (c.failing ≡ None → d.failing ≡ None))

abbrev pub plans_of : Option Course → List Plan
plans_of None = []
plans_of (Some c) = c.plans

abbrev pub CourseStays : NetState → NetState → Type 0
CourseStays old new = LeavesPlans (plans_of old.course) old.course new.course

-- an opened connection was dialled once, and its link has the tag of that dial; no other dial is made
abbrev pub DialsFor : Touch → Came → NetState → NetState → Option What → Type 0
DialsFor x Opened old new w =
    (answered : Bool) × (tag : Option ℕ)
    × GainsAll (told_dial x.server x.id answered tag ∷ []) old.dials new.dials
    × IfSome old.course (λ c. DialFollows x c new answered w)
    × LeavesPlans (without_next x.server (plans_of old.course)) old.course new.course
    × ((answered ≡ true) × ((v : What) × (w ≡ Some v) × (v.tag ≡ tag))
    ⊎ (answered ≡ false) × (w ≡ None) × Rose old.faults new.faults)
DialsFor x Had old new w = GainsAll [] old.dials new.dials × CourseStays old new
DialsFor x (Took place uses) old new w = GainsAll [] old.dials new.dials × CourseStays old new

-- how the link of the touched connection goes through the call, with the entries es of its server
pub record LinkGoes (s s' : SessionNow) (h : History) (es : List Note) (old new : NetState) (x : Touch) : Type 0 where
  pub before : Option What
  pub after : Option What
  pub gone : Option LinkState
  pub was : TellsBefore s h es x x.came before
  pub is : TellsAfter s' es x x.went gone after
  pub same : GoesOn before after
  pub dials : DialsFor x x.came old new after
  pub buries : GainsAll (option_to_list gone) old.buried new.buried

-- where no connection was touched none is dialled or buried, and the session's connection is as it was
pub record NoLinkGoes (s s' : SessionNow) (old new : NetState) : Type 0 where
  pub conn : s'.conn ≡ s.conn
  pub course : CourseStays old new
  pub dials : GainsAll [] old.dials new.dials
  pub buries : GainsAll [] old.buried new.buried
