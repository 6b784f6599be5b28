-- An own answer that is decided.
use Rattle.std.proofs.Common.{◌≡◌, ◌⊎◌, ℕ, refl, sym, ap, subst, ◌∙◌, List, Option, Some, None}
use Rattle.std.specs.Prelude.{IfSome}
use Rattle.hx_config.specs.declared.parts.Server.{Server}
use Rattle.hx_link.specs.Told.{LinkState}
use Rattle.hx_pool.specs.SeatView.{History}
use Rattle.hx_record.specs.declared.served.Kind.TheVariants as kind
use Rattle.hx_record.specs.declared.served.Served.{Served}
use Rattle.hx_session.specs.declared.moves.Move.{Move}
use Rattle.hx_session.specs.declared.moves.Move.TheVariants.{Idle, Bytes, Waits, Ended, Failed}
use Rattle.hx_session.specs.declared.stage.Came.{Came}
use Rattle.hx_session.specs.Beginning.{ChoosesIn}
use Rattle.hx_session.specs.Deciding.{KeepsOwn}
use Rattle.hx_session.specs.Desks.{DeskNow}
use Rattle.hx_session.specs.Moves.{GivesClient}
use Rattle.hx_session.specs.Owning.{OwnAt, CameOwn, DoneOwn}
use Rattle.hx_session.specs.Seen.{own_seen, session_seen}
use Rattle.hx_session.specs.Stages.{StageNow, Reading, Choosing, Exchanging, Answering, Left}
use Rattle.hx_session.specs.Still.{WantsClient}

-- none is decided elsewhere
pub none_own : (o : Option ℕ) (status : ℕ) → o ≡ None → o ≡ Some status → ⊥
none_own o status e f = none_some (sym e ∙ f)
  where
    none_some : None ≡ Some status → ⊥
    none_some z = cc

pub wants_own : (s : StageNow) (status : ℕ) → WantsClient s → own_seen s ≡ Some status → ⊥
wants_own (Reading held) status w e = cc
wants_own (Choosing c) status w e = cc
wants_own (Exchanging x) status w e = cc
wants_own (Answering a) status w e = absurd w
wants_own Left status w e = cc

some_is : (a b : ℕ) → Some a ≡ Some b → a ≡ b
some_is a b e = cc

-- the one that is being given
pub own_here : {X : Type 0} (a status n taken : ℕ) (d : DeskNow) (c : Came X) → Some a ≡ Some status → n ≡ taken → CameOwn a n d c → CameOwn status taken d c
own_here a status n taken d c e f k = subst (λ (m : ℕ). CameOwn status m d c) f (subst (λ (m : ℕ). CameOwn m n d c) (some_is a status e) k)

-- nothing is read where bytes are given
pub gives_taken : (d d' : DeskNow) (now : ℕ) (m : Move) → GivesClient d d' now m → d'.client.taken_count ≡ d.client.taken_count
gives_taken d d' now Idle g = ap (λ (x : DeskNow). x.client.taken_count) g.0
gives_taken d d' now Bytes g = ap (λ (l : LinkState). l.taken_count) g.writes
gives_taken d d' now Waits g = ap (λ (l : LinkState). l.taken_count) g.1.0
gives_taken d d' now Ended g = absurd g
gives_taken d d' now Failed g = ap (λ (l : LinkState). l.taken_count) g.1.0

-- no server is chosen
pub turn_own : (status taken : ℕ) (d : DeskNow) (servers : List Server) (turn turn' : ℕ) (olds news : List History) (s s' : StageNow) → ChoosesIn servers turn turn' olds news s s' → OwnAt status taken d s → OwnAt status taken d s'
turn_own status taken d servers turn turn' olds news (Reading held) s' k own = subst (λ (x : StageNow). OwnAt status taken d x) (sym k.0) own
turn_own status taken d servers turn turn' olds news (Choosing c) s' k own = absurd (none_own (own_seen (Choosing c)) status refl own.1)
turn_own status taken d servers turn turn' olds news (Exchanging x) s' k own = subst (λ (y : StageNow). OwnAt status taken d y) (sym k.0) own
turn_own status taken d servers turn turn' olds news (Answering a) s' k own = subst (λ (y : StageNow). OwnAt status taken d y) (sym k.0) own
turn_own status taken d servers turn turn' olds news Left s' k own = subst (λ (y : StageNow). OwnAt status taken d y) (sym k.0) own

-- as the worker sees it
pub keeps_own : (front : ℕ) (d d' : DeskNow) (s s' : StageNow) (served : Option Served) → ((status taken : ℕ) → OwnAt status taken d s → DoneOwn status taken d' s' served) → KeepsOwn (session_seen front d s) (session_seen front d' s') served
keeps_own front d d' s s' served k = by_own (own_seen s) refl
  where
    by_own : (o : Option ℕ) → own_seen s ≡ o → IfSome o (λ status. (d'.client.taken_count ≡ d.client.taken_count) × ((own_seen s' ≡ Some status) ⊎ ((r : Served) × (served ≡ Some r) × (r.kind ≡ kind.Own status))))
    by_own None e = tt
    by_own (Some status) e = k status d.client.taken_count (refl, e)
