-- What a step tells, from what its parts tell.
use Rattle.std.proofs.Common.{◌≡◌, ◌≤◌, ◌+◌, ℕ, Bool, true, false, List, [], ◌++◌, length, refl, sym, ap, subst, ◌∙◌, inl, inr, arith, Option, Some, None, ⊎_elim}
use Rattle.std.specs.Prelude.{IfSome, if◌then◌else◌}
use Rattle.std.proofs.lemmas.List.{append-nil}
use Rattle.hx_config.specs.declared.parts.Server.{Server}
use Rattle.hx_conn.specs.Conns.{RestedNow}
use Rattle.hx_conn.specs.WhatTold as whats
use Rattle.hx_conn.specs.WhatTold.{what_of_link}
use Rattle.hx_connecting.specs.Around.{resting}
use Rattle.hx_connecting.specs.Ways.{HasNoExchange}
use Rattle.hx_link.specs.Links.{LinkFinishes}
use Rattle.hx_link.specs.Told.{LinkState}
use Rattle.hx_message.specs.OwnAnswer.{IsOwnAnswer}
use Rattle.hx_pool.specs.SeatView.{History}
use Rattle.hx_message.specs.declared.MethodKind.{MethodKind}
use Rattle.hx_record.specs.Carriage.{Carriage}
use Rattle.hx_record.specs.Truth.{RecountsBytes, IsTruePassed, LeftBeforeAll}
use Rattle.hx_record.specs.declared.served.Carried.{Carried}
use Rattle.hx_record.specs.declared.served.Kind.{Kind}
use Rattle.hx_record.specs.declared.served.Kind.TheVariants as kind
use Rattle.hx_record.specs.declared.served.CutCause.{CutCause}
use Rattle.hx_record.specs.declared.served.LeftCause.{LeftCause}
use Rattle.hx_record.specs.declared.served.LeftCause.TheVariants as cause
use Rattle.hx_record.specs.declared.served.Served.{Served}
use Rattle.hx_session.specs.declared.moves.Move.{Move}
use Rattle.hx_session.specs.declared.moves.Move.TheVariants.{Idle, Bytes, Waits, Ended, Failed}
use Rattle.hx_session.specs.declared.stage.Came.{Came}
use Rattle.hx_session.specs.declared.stage.Came.TheVariants.{On, Moved, Ends}
use Rattle.hx_session.specs.Beginning.{ChoosesIn}
use Rattle.hx_session.specs.Desks.{DeskNow, emptied}
use Rattle.hx_session.specs.Ending.{AnswersOwn, CutsOff}
use Rattle.hx_session.specs.Exchanged.{ExchangeNow}
use Rattle.hx_session.specs.Moves.{GivesClient, ReadsClient, with_client}
use Rattle.hx_session.specs.Over.{IsTold, IsToldOf, WhereCarried, carried_by, closing_of, served_of, after_record}
use Rattle.hx_session.specs.Records.{WhereTold, cut_ends, ends_after, no_carriage}
use Rattle.hx_session.specs.Stages.{StageNow, ChoosingNow, AnsweringNow, Reading, Choosing, Exchanging, Answering, Left, own_stage, stage_now, IsAnswering}
use Rattle.hx_session.specs.Since.{HasSince}
use Rattle.hx_session.specs.Telling.{HasNoRequest, CarriesSame, IsSameExchange, IsSameStage, TellsNone, IsStillTold, TellsOne, IsToldOwn, IsOfStage, LeavesWith, LeavesPlainly, LeavesOwn, finished_for, TellsMoved, TellsEnd, CameTells, GivesPassed}
use Rattle.hx_session.proofs.PassedLemmas.{in_middle, lies_in}

pub link_same : (l : LinkState) → CarriesSame l l
link_same l = record { taken = refl; sent = refl; ended = refl }

pub link_is : (a b : LinkState) → b ≡ a → CarriesSame a b
link_is a b e = subst (λ (x : LinkState). CarriesSame a x) (sym e) (link_same a)

pub link_then : (a b c : LinkState) → CarriesSame a b → CarriesSame b c → CarriesSame a c
link_then a b c x y = record { taken = y.taken ∙ x.taken; sent = y.sent ∙ x.sent; ended = y.ended ∙ x.ended }

pub exchange_same : (e : ExchangeNow) → IsSameExchange e e
exchange_same e = record { server = refl; id = refl; uses = refl; sent_from = refl; taken_from = refl; method = refl; link = link_same e.busy.link }

pub exchange_then : (e f g : ExchangeNow) → IsSameExchange e f → IsSameExchange f g → IsSameExchange e g
exchange_then e f g x y = record {
  server = y.server ∙ x.server;
  id = y.id ∙ x.id;
  uses = y.uses ∙ x.uses;
  sent_from = y.sent_from ∙ x.sent_from;
  taken_from = y.taken_from ∙ x.taken_from;
  method = y.method ∙ x.method;
  link = link_then e.busy.link f.busy.link g.busy.link x.link y.link;
}

pub stage_same : (s : StageNow) → IsSameStage s s
stage_same (Reading held) = refl
stage_same (Choosing c) = (c, refl)
stage_same (Exchanging e) = (e, refl, exchange_same e)
stage_same (Answering a) = refl
stage_same Left = refl

pub stage_then : (s t u : StageNow) → IsSameStage s t → IsSameStage t u → IsSameStage s u
stage_then (Reading held) t u x y = subst (λ (z : StageNow). IsSameStage z u) x y
stage_then (Choosing c) t u x y =
    let k : IsSameStage (Choosing x.0) u = subst (λ (z : StageNow). IsSameStage z u) x.1 y in
    (k.0, k.1)
stage_then (Exchanging e) t u x y =
    let k : IsSameStage (Exchanging x.0) u = subst (λ (z : StageNow). IsSameStage z u) x.1 y in
    (k.0, k.1, exchange_then e x.0 k.0 x.2 k.2)
stage_then (Answering a) t u x y = subst (λ (z : StageNow). IsSameStage z u) x y
stage_then Left t u x y = subst (λ (z : StageNow). IsSameStage z u) x y

pub none_same : (d : DeskNow) → TellsNone d d
none_same d = record { number = refl; ask_from = refl; gave_from = refl; finished = refl }

pub none_is : (d d' : DeskNow) → d' ≡ d → TellsNone d d'
none_is d d' e = subst (λ (x : DeskNow). TellsNone d x) (sym e) (none_same d)

pub none_then : (a b c : DeskNow) → TellsNone a b → TellsNone b c → TellsNone a c
none_then a b c x y = record { number = y.number ∙ x.number; ask_from = y.ask_from ∙ x.ask_from; gave_from = y.gave_from ∙ x.gave_from; finished = y.finished ∙ x.finished }

pub still_same : (d : DeskNow) (s : StageNow) → IsStillTold d s d s
still_same d s = record { none = none_same d; who = (refl, refl); client = link_same d.client; stage = stage_same s }

pub still_then : (a b c : DeskNow) (s t u : StageNow) → IsStillTold a s b t → IsStillTold b t c u → IsStillTold a s c u
still_then a b c s t u x y = record {
  none = none_then a b c x.none y.none;
  who = (y.who.0 ∙ x.who.0, y.who.1 ∙ x.who.1);
  client = link_then a.client b.client c.client x.client y.client;
  stage = stage_then s t u x.stage y.stage;
}

-- what is told of the bytes of two links
abbrev ToldBy : (ct cs st ss : Option (List ℕ)) (ce se : Bool) → (Carriage → Carriage → Type 0) → Type 0
ToldBy ct cs st ss ce se P = IfSome ct (λ a. IfSome cs (λ b. IfSome st (λ c. IfSome ss (λ x. P (carried_by a b ce) (carried_by c x se)))))

carried_back : (a a' b b' : LinkState) (P : Carriage → Carriage → Type 0) → CarriesSame a a' → CarriesSame b b' → WhereCarried a' b' P → WhereCarried a b P
carried_back a a' b b' P x y t =
    subst (λ (o : Option (List ℕ)). ToldBy o a.sent b.taken b.sent a.told_end b.told_end P) x.taken
    (subst (λ (o : Option (List ℕ)). ToldBy a'.taken o b.taken b.sent a.told_end b.told_end P) x.sent
    (subst (λ (o : Option (List ℕ)). ToldBy a'.taken a'.sent o b.sent a.told_end b.told_end P) y.taken
    (subst (λ (o : Option (List ℕ)). ToldBy a'.taken a'.sent b'.taken o a.told_end b.told_end P) y.sent
    (subst (λ (o : Bool). ToldBy a'.taken a'.sent b'.taken b'.sent o b.told_end P) x.ended
    (subst (λ (o : Bool). ToldBy a'.taken a'.sent b'.taken b'.sent a'.told_end o P) y.ended t)))))

pub told_back : (a a' b b' : LinkState) (why : LeftCause) (r : Served) → CarriesSame a a' → CarriesSame b b' → IsTold a' b' why r → IsTold a b why r
told_back a a' b b' why r x y t = carried_back a a' b b' (λ v w. RecountsBytes r.kind r v w why) x y t

-- the same of a passed record and its method
of_back : (a a' b b' : LinkState) (m n : MethodKind) (r : Served) (c : Carried) → n ≡ m → CarriesSame a a' → CarriesSame b b' → IsToldOf a' b' n r c → IsToldOf a b m r c
of_back a a' b b' m n r c same x y t =
    carried_back a a' b b' (λ v w. (p : IsTruePassed r c v w) × (p.method ≡ m)) x y (subst (λ (k : MethodKind). IsToldOf a' b' k r c) same t)

pub of_on : (a a' b : LinkState) (m : MethodKind) (r : Served) (c : Carried) → CarriesSame a a' → IsToldOf a b m r c → IsToldOf a' b m r c
of_on a a' b m r c x t = of_back a' a b b m m r c refl (record { taken = sym x.taken; sent = sym x.sent; ended = sym x.ended }) (link_same b) t

pub told_on : (a a' b : LinkState) (why : LeftCause) (r : Served) → CarriesSame a a' → IsTold a b why r → IsTold a' b why r
told_on a a' b why r x t = told_back a' a b b why r (record { taken = sym x.taken; sent = sym x.sent; ended = sym x.ended }) (link_same b) t

abbrev OwnBy : (taken sent : Option (List ℕ)) (ended : Bool) → LeftCause → Served → Type 0
OwnBy taken sent ended why r = WhereTold (whats.told_of sent taken ended) (λ x. RecountsBytes r.kind r x no_carriage why)

pub own_back : (a a' : LinkState) (why : LeftCause) (r : Served) → CarriesSame a a' → IsToldOwn a' why r → IsToldOwn a why r
own_back a a' why r x t =
    subst (λ (o : Option (List ℕ)). OwnBy o a.sent a.told_end why r) x.taken
    (subst (λ (o : Option (List ℕ)). OwnBy a'.taken o a.told_end why r) x.sent
    (subst (λ (o : Bool). OwnBy a'.taken a'.sent o why r) x.ended t))

pub own_on : (a a' : LinkState) (why : LeftCause) (r : Served) → CarriesSame a a' → IsToldOwn a why r → IsToldOwn a' why r
own_on a a' why r x t = own_back a' a why r (record { taken = sym x.taken; sent = sym x.sent; ended = sym x.ended }) t

-- a record that a later part gives is of the stage at which the step began
of_exchange : (e f : ExchangeNow) (d0 d : DeskNow) (why : LeftCause) (r : Served) (k : Kind) → IsSameExchange e f → CarriesSame d0.client d.client
    → IsOfStage (Exchanging f) d why r k → IsOfStage (Exchanging e) d0 why r k
of_exchange e f d0 d why r (kind.Passed c) same client h = (
  record {
    server = h.0.server ∙ same.server;
    id = h.0.id ∙ same.id;
    nth = h.0.nth ∙ ap (λ (n : ℕ). n + 1) same.uses;
    sent = h.0.sent ∙ same.sent_from;
    took = h.0.took ∙ same.taken_from;
    sent_rises = h.0.sent_rises;
    took_rises = h.0.took_rises;
  },
  told_back d0.client d.client e.busy.link f.busy.link why r client same.link h.1,
  of_back d0.client d.client e.busy.link f.busy.link e.busy.exchange.method f.busy.exchange.method r c same.method client same.link h.2,
)
of_exchange e f d0 d why r (kind.Cut c w) same client h = (
  record {
    server = h.0.server ∙ same.server;
    id = h.0.id ∙ same.id;
    nth = h.0.nth ∙ ap (λ (n : ℕ). n + 1) same.uses;
    sent = h.0.sent ∙ same.sent_from;
    took = h.0.took ∙ same.taken_from;
    sent_rises = h.0.sent_rises;
    took_rises = h.0.took_rises;
  },
  told_back d0.client d.client e.busy.link f.busy.link why r client same.link h.1,
)
of_exchange e f d0 d why r (kind.Own status) same client h = absurd h

of_answering : (a : AnsweringNow) (d0 d : DeskNow) (why : LeftCause) (r : Served) (k : Kind) → CarriesSame d0.client d.client
    → IsOfStage (Answering a) d why r k → IsOfStage (Answering a) d0 why r k
of_answering a d0 d why r (kind.Passed c) client h = absurd h
of_answering a d0 d why r (kind.Cut c w) client h = absurd h
of_answering a d0 d why r (kind.Own status) client h = (h.0, own_back d0.client d.client why r client h.1)

pub reading_none : (held : Option RestedNow) (d : DeskNow) (why : LeftCause) (r : Served) (k : Kind) → IsOfStage (Reading held) d why r k → ⊥
reading_none held d why r (kind.Passed c) h = h
reading_none held d why r (kind.Cut c w) h = h
reading_none held d why r (kind.Own status) h = h

pub choosing_none : (c : ChoosingNow) (d : DeskNow) (why : LeftCause) (r : Served) (k : Kind) → IsOfStage (Choosing c) d why r k → ⊥
choosing_none c d why r (kind.Passed x) h = h
choosing_none c d why r (kind.Cut x w) h = h
choosing_none c d why r (kind.Own status) h = h

pub left_none : (d : DeskNow) (why : LeftCause) (r : Served) (k : Kind) → IsOfStage Left d why r k → ⊥
left_none d why r (kind.Passed c) h = h
left_none d why r (kind.Cut c w) h = h
left_none d why r (kind.Own status) h = h

pub of_stage_then : (s t : StageNow) (d0 d : DeskNow) (why : LeftCause) (r : Served) (k : Kind) → IsSameStage s t → CarriesSame d0.client d.client
    → IsOfStage t d why r k → IsOfStage s d0 why r k
of_stage_then (Reading held) t d0 d why r k same client h = absurd (reading_none held d why r k (subst (λ (z : StageNow). IsOfStage z d why r k) same h))
of_stage_then (Choosing c) t d0 d why r k same client h = absurd (choosing_none same.0 d why r k (subst (λ (z : StageNow). IsOfStage z d why r k) same.1 h))
of_stage_then (Exchanging e) t d0 d why r k same client h =
    of_exchange e same.0 d0 d why r k same.2 client (subst (λ (z : StageNow). IsOfStage z d why r k) same.1 h)
of_stage_then (Answering a) t d0 d why r k same client h = of_answering a d0 d why r k client (subst (λ (z : StageNow). IsOfStage z d why r k) same h)
of_stage_then Left t d0 d why r k same client h = absurd (left_none d why r k (subst (λ (z : StageNow). IsOfStage z d why r k) same h))

one_then : (d0 d d' : DeskNow) (s t : StageNow) (r : Served) → IsStillTold d0 s d t → TellsOne d d' r → TellsOne d0 d' r
one_then d0 d d' s t r x y = record {
  worker = y.worker ∙ x.who.0;
  session = y.session ∙ x.who.1;
  number = y.number ∙ x.none.number;
  ask = y.ask ∙ x.none.ask_from;
  gave = y.gave ∙ x.none.gave_from;
  ask_rises = y.ask_rises;
  gave_rises = y.gave_rises;
  next = y.next ∙ ap (λ (n : ℕ). n + 1) x.none.number;
  asked = y.asked;
  given = y.given;
  client = link_then d0.client d.client d'.client x.client y.client;
}

moved_then : (d0 d d' : DeskNow) (s t u : StageNow) (served : Option Served) → IsStillTold d0 s d t → TellsMoved t d d' u served → TellsMoved s d0 d' u served
moved_then d0 d d' s t u None x y = none_then d0 d d' x.none y
moved_then d0 d d' s t u (Some r) x y = (
  one_then d0 d d' s t r x y.0,
  of_stage_then s t d0 d cause.End r r.kind x.stage x.client y.1,
  y.2,
  y.3 ∙ x.none.finished,
  y.4,
)

-- nothing of a request was under way before either
request_back : (s t : StageNow) → IsSameStage s t → HasNoRequest t → HasNoRequest s
request_back (Reading held) t same h = tt
request_back (Choosing c) t same h = tt
request_back (Exchanging e) t same h = absurd (subst (λ (z : StageNow). HasNoRequest z) same.1 h)
request_back (Answering a) t same h = absurd (subst (λ (z : StageNow). HasNoRequest z) same h)
request_back Left t same h = absurd (subst (λ (z : StageNow). HasNoRequest z) same h)

end_then : (d0 d d' : DeskNow) (s t : StageNow) (served : Option Served) (why : LeftCause) → IsStillTold d0 s d t → TellsEnd t d d' served why → TellsEnd s d0 d' served why
end_then d0 d d' s t None why x y = (none_then d0 d d' x.none y.0, y.1, request_back s t x.stage y.2)
end_then d0 d d' s t (Some r) why x y = (
  one_then d0 d d' s t r x y.0,
  of_stage_then s t d0 d why r r.kind x.stage x.client y.1,
  y.2,
  y.3 ∙ ap (λ (b : Bool). finished_for why b) x.none.finished,
  y.4,
)

-- a part of a step behind parts that did nothing
pub came_then : {X : Type 0} (d0 d d' : DeskNow) (s t : StageNow) (c : Came X) → IsStillTold d0 s d t → CameTells d t d' c → CameTells d0 s d' c
came_then d0 d d' s t (On stage w) x y = still_then d0 d d' s t (stage_now stage) x y
came_then d0 d d' s t (Moved stage w served) x y = moved_then d0 d d' s t (stage_now stage) served x y
came_then d0 d d' s t (Ends e) x y = end_then d0 d d' s t e.served e.cause x y

-- what a call of the client's link leaves: nothing was moved, or no record is given
abbrev pub DeskTells : Move → DeskNow → StageNow → DeskNow → Type 0
DeskTells Idle d s d' = IsStillTold d s d' s
DeskTells Waits d s d' = IsStillTold d s d' s
DeskTells Failed d s d' = IsStillTold d s d' s
DeskTells Bytes d s d' = TellsNone d d'
DeskTells Ended d s d' = TellsNone d d'

desk_still : (d d' : DeskNow) (s : StageNow) → d' ≡ d → IsStillTold d s d' s
desk_still d d' s e = subst (λ (x : DeskNow). IsStillTold d s x s) (sym e) (still_same d s)

client_still : (d : DeskNow) (s : StageNow) (l : LinkState) → CarriesSame d.client l → l.finished ≡ d.client.finished → IsStillTold d s (with_client d l) s
client_still d s l same finished = record {
  none = record { number = refl; ask_from = refl; gave_from = refl; finished = finished };
  who = (refl, refl);
  client = same;
  stage = stage_same s;
}

with_still : (d d' : DeskNow) (s : StageNow) → d' ≡ with_client d d'.client → CarriesSame d.client d'.client → d'.client.finished ≡ d.client.finished → IsStillTold d s d' s
with_still d d' s e same finished = subst (λ (x : DeskNow). IsStillTold d s x s) (sym e) (client_still d s d'.client same finished)

pub gives_told : (d d' : DeskNow) (s : StageNow) (now : ℕ) (m : Move) → GivesClient d d' now m → DeskTells m d s d'
gives_told d d' s now Idle g = desk_still d d' s g.0
gives_told d d' s now Bytes g = record {
  number = ap (λ (x : DeskNow). x.number) g.desk;
  ask_from = ap (λ (x : DeskNow). x.ask_from) g.desk;
  gave_from = ap (λ (x : DeskNow). x.gave_from) g.desk;
  finished = ap (λ (l : LinkState). l.finished) g.writes;
}
gives_told d d' s now Waits g = with_still d d' s g.0
    (record { taken = ap (λ (l : LinkState). l.taken) g.1.0; sent = ap (λ (l : LinkState). l.sent) g.1.0; ended = ap (λ (l : LinkState). l.told_end) g.1.0 })
    (ap (λ (l : LinkState). l.finished) g.1.0)
gives_told d d' s now Ended g = absurd g
gives_told d d' s now Failed g = with_still d d' s g.0
    (record { taken = ap (λ (l : LinkState). l.taken) g.1.0; sent = ap (λ (l : LinkState). l.sent) g.1.0; ended = ap (λ (l : LinkState). l.told_end) g.1.0 })
    (ap (λ (l : LinkState). l.finished) g.1.0)

pub reads_told : (d d' : DeskNow) (s : StageNow) (now : ℕ) (m : Move) → ReadsClient d d' now m → DeskTells m d s d'
reads_told d d' s now Idle g = desk_still d d' s g.0
reads_told d d' s now Bytes g = record {
  number = ap (λ (x : DeskNow). x.number) g.desk;
  ask_from = ap (λ (x : DeskNow). x.ask_from) g.desk;
  gave_from = ap (λ (x : DeskNow). x.gave_from) g.desk;
  finished = ap (λ (l : LinkState). l.finished) g.reads;
}
reads_told d d' s now Waits g = with_still d d' s g.0
    (record { taken = ap (λ (l : LinkState). l.taken) g.1.0; sent = ap (λ (l : LinkState). l.sent) g.1.0; ended = ap (λ (l : LinkState). l.told_end) g.1.0 })
    (ap (λ (l : LinkState). l.finished) g.1.0)
reads_told d d' s now Ended g = record {
  number = ap (λ (x : DeskNow). x.number) g.0;
  ask_from = ap (λ (x : DeskNow). x.ask_from) g.0;
  gave_from = ap (λ (x : DeskNow). x.gave_from) g.0;
  finished = ap (λ (l : LinkState). l.finished) g.1;
}
reads_told d d' s now Failed g = with_still d d' s g.0
    (record { taken = ap (λ (l : LinkState). l.taken) g.1.0; sent = ap (λ (l : LinkState). l.sent) g.1.0; ended = ap (λ (l : LinkState). l.told_end) g.1.0 })
    (ap (λ (l : LinkState). l.finished) g.1.0)

-- an own answer is decided
pub answers_none : (d d' : DeskNow) (status : ℕ) → AnswersOwn d d' status → TellsNone d d'
answers_none d d' status a = record {
  number = ap (λ (x : DeskNow). x.number) a.desk;
  ask_from = ap (λ (x : DeskNow). x.ask_from) a.desk;
  gave_from = ap (λ (x : DeskNow). x.gave_from) a.desk;
  finished = ap (λ (x : DeskNow). x.client.finished) a.desk;
}

-- the record of an exchange that is cut off
pub cut_one : (d d1 d2 : DeskNow) (e : ExchangeNow) (w : CutCause) (r : Served) → CutsOff d d1 e w r → d2 ≡ emptied d1 → TellsOne d d2 r
cut_one d d1 d2 e w r k is =
    subst (λ (y : DeskNow). TellsOne d y r) (sym (is ∙ ap emptied k.desk))
    (subst (λ (x : Served). TellsOne d (emptied (record (after_record d k.ask_to) { down = d1.down })) x) (sym k.served)
    (record { worker = refl; session = refl; number = refl; ask = refl; gave = refl; ask_rises = k.rises.ask; gave_rises = k.rises.gave; next = refl; asked = refl; given = refl; client = link_same d.client }))

pub cut_of : (d d1 : DeskNow) (e : ExchangeNow) (w : CutCause) (r : Served) (why : LeftCause) → CutsOff d d1 e w r → IsOfStage (Exchanging e) d why r r.kind
cut_of d d1 e w r why k =
    subst (λ (x : Kind). IsOfStage (Exchanging e) d why r x) (sym (ap (λ (x : Served). x.kind) k.served)) (record { server = refl; id = refl; nth = refl; sent = refl; took = refl; sent_rises = k.rises.sent; took_rises = k.rises.took }, k.told why)

cut_finished : (d d1 d2 : DeskNow) (e : ExchangeNow) (w : CutCause) (r : Served) → CutsOff d d1 e w r → d2 ≡ emptied d1 → d2.client.finished ≡ d.client.finished
cut_finished d d1 d2 e w r k is = ap (λ (x : DeskNow). x.client.finished) (is ∙ ap emptied k.desk)

pub cut_told : (d d1 d2 : DeskNow) (e : ExchangeNow) (w : CutCause) (r : Served) → cut_ends w ≡ cause.Cut → CutsOff d d1 e w r → d2 ≡ emptied d1 → TellsEnd (Exchanging e) d d2 (Some r) cause.Cut
cut_told d d1 d2 e w r ends k is = (
  cut_one d d1 d2 e w r k is,
  cut_of d d1 e w r cause.Cut k,
  subst (λ (x : Served). LeavesWith (ends_after x.kind) cause.Cut) (sym k.served) (inl (sym ends)),
  cut_finished d d1 d2 e w r k is,
  λ e. cc,
)

-- an own answer's record is true
own_in : (taken sent : Option (List ℕ)) (ended : Bool) (d : DeskNow) (status total : ℕ) (text gave : List ℕ) (why : LeftCause) → IsOwnAnswer status text → text ≡ gave ++ d.to.bytes → LeavesOwn d why
    → d.ask_from ≤ d.taken → IfSome taken (λ xs. length xs ≡ d.taken) → d.given ≡ total → HasSince sent total d.gave_from gave → OwnBy taken sent ended why (served_of d (kind.Own status) d.taken)
own_in taken None ended d status total text gave why own back leaves ordered counted given h = tt
own_in None (Some s) ended d status total text gave why own back leaves ordered counted given h = tt
own_in (Some t) (Some s) ended d status total text gave why own back leaves ordered counted given h =
    let r = served_of d (kind.Own status) d.taken in
    let whole : s ≡ h.bytes_are.0 ++ (gave ++ []) = h.bytes_are.2 ∙ ap (λ (xs : List ℕ). h.bytes_are.0 ++ xs) (sym (append-nil gave)) in
    let size : d.given ≡ d.gave_from + length gave = given ∙ h.count in
    let g = in_middle s h.bytes_are.0 gave [] r.gave whole h.bytes_are.1 size in
    record {
      ask = (ordered, omega (arith, counted));
      gave = lies_in s h.bytes_are.0 gave [] r.gave whole h.bytes_are.1 size;
      all_taken = sym counted;
      text = text;
      own = own;
      gives = ⊎_elim
          (λ l. inl (g ∙ sym (back ∙ (ap (λ (xs : List ℕ). gave ++ xs) l.1 ∙ append-nil gave))))
          (λ l. inr ((d.to.bytes, back ∙ ap (λ (xs : List ℕ). xs ++ d.to.bytes) (sym g)), l))
          leaves;
    }

own_true : (d : DeskNow) (status : ℕ) (why : LeftCause) → IsAnswering d status → LeavesOwn d why → IsToldOwn d.client why (served_of d (kind.Own status) d.taken)
own_true d status why a leaves =
    own_in d.client.taken d.client.sent d.client.told_end d status d.client.sent_count a.text a.gave why a.own a.back leaves a.ordered
    (subst (λ (n : ℕ). IfSome d.client.taken (λ xs. length xs ≡ n)) (sym a.desk.taken) a.desk.counted.taken) a.desk.given a.gives

own_with : (d : DeskNow) (why : LeftCause) → LeavesOwn d why → LeavesWith (Some cause.Own) why
own_with d why leaves = ⊎_elim (λ l. inl l.0) (λ l. inr (refl, l)) leaves

before_finish : (why : LeftCause) (f : Bool) → LeftBeforeAll why → f ≡ finished_for why f
before_finish why f (inl e) = subst (λ (w : LeftCause). f ≡ finished_for w f) (sym e) refl
before_finish why f (inr (inl e)) = subst (λ (w : LeftCause). f ≡ finished_for w f) (sym e) refl
before_finish why f (inr (inr e)) = subst (λ (w : LeftCause). f ≡ finished_for w f) (sym e) refl

pub plain_finish : (why : LeftCause) (f : Bool) → LeavesPlainly why → f ≡ finished_for why f
plain_finish why f (inl e) = subst (λ (w : LeftCause). f ≡ finished_for w f) (sym e) refl
plain_finish why f (inr (inl e)) = subst (λ (w : LeftCause). f ≡ finished_for w f) (sym e) refl
plain_finish why f (inr (inr e)) = subst (λ (w : LeftCause). f ≡ finished_for w f) (sym e) refl

own_finish : (d : DeskNow) (why : LeftCause) (f : Bool) → LeavesOwn d why → f ≡ finished_for why f
own_finish d why f leaves = ⊎_elim (λ l. subst (λ (w : LeftCause). f ≡ finished_for w f) (sym l.0) refl) (λ l. before_finish why f l) leaves

-- the desk behind an own answer's record
own_desk : (d d1 d2 : DeskNow) → d1 ≡ after_record d d.taken → d2 ≡ emptied d1 → d2 ≡ emptied (after_record d d.taken)
own_desk d d1 d2 first last = last ∙ ap emptied first

-- the ranges of an own answer's record
pub own_gave : (d : DeskNow) (status : ℕ) → IsAnswering d status → d.gave_from ≤ d.given
own_gave d status a = omega (arith, a.desk.given, a.gives.count)

own_one : (d d2 : DeskNow) (status : ℕ) (r : Served) → IsAnswering d status → r ≡ served_of d (kind.Own status) d.taken → d2 ≡ emptied (after_record d d.taken) → TellsOne d d2 r
own_one d d2 status r a is desk =
    subst (λ (y : DeskNow). TellsOne d y r) (sym desk) (subst (λ (x : Served). TellsOne d (emptied (after_record d d.taken)) x) (sym is)
    (record { worker = refl; session = refl; number = refl; ask = refl; gave = refl; ask_rises = a.ordered; gave_rises = own_gave d status a; next = refl; asked = refl; given = refl; client = link_same d.client }))

pub own_of : (d : DeskNow) (status : ℕ) (held : Option RestedNow) (r : Served) (why : LeftCause) → IsAnswering d status → LeavesOwn d why → r ≡ served_of d (kind.Own status) d.taken
    → IsOfStage (own_stage status held) d why r r.kind
own_of d status held r why a leaves is = subst (λ (x : Served). IsOfStage (own_stage status held) d why x x.kind) (sym is) (refl, own_true d status why a leaves)

pub own_told : (d d1 d2 : DeskNow) (status : ℕ) (held : Option RestedNow) (r : Served) (why : LeftCause) → (why ≡ cause.Stop → ⊥) → IsAnswering d status → LeavesOwn d why → r ≡ served_of d (kind.Own status) d.taken
    → d1 ≡ after_record d d.taken → d2 ≡ emptied d1 → TellsEnd (own_stage status held) d d2 (Some r) why
own_told d d1 d2 status held r why going a leaves is first last =
    let desk = own_desk d d1 d2 first last in (
      own_one d d2 status r a is desk,
      own_of d status held r why a leaves is,
      subst (λ (x : Served). LeavesWith (ends_after x.kind) why) (sym is) (own_with d why leaves),
      ap (λ (x : DeskNow). x.client.finished) desk ∙ own_finish d why d.client.finished leaves,
      going,
    )

-- the record of an exchange that passed
passed_one : (d d1 : DeskNow) (l : LinkState) (e : ExchangeNow) (r : Served) → GivesPassed d d1 e r → CarriesSame d1.client l → TellsOne d (with_client d1 l) r
passed_one d d1 l e r p same =
    let g = p.gives in
    let is = g.served in
    record {
      worker = ap (λ (x : Served). x.worker) is;
      session = ap (λ (x : Served). x.session) is;
      number = ap (λ (x : Served). x.number) is;
      ask = ap (λ (x : Served). x.ask.from) is;
      gave = ap (λ (x : Served). x.gave.from) is;
      ask_rises = subst (λ (x : Served). x.ask.from ≤ x.ask.to) (sym is) p.rises.ask;
      gave_rises = subst (λ (x : Served). x.gave.from ≤ x.gave.to) (sym is) p.rises.gave;
      next = g.number;
      asked = g.asked ∙ sym (ap (λ (x : Served). x.ask.to) is);
      given = g.given ∙ sym (ap (λ (x : Served). x.gave.to) is);
      client = link_then d.client d1.client l (link_is d.client d1.client p.client) same;
    }

passed_of : (d d1 : DeskNow) (e : ExchangeNow) (r : Served) (why : LeftCause) → GivesPassed d d1 e r → IsTold d.client e.busy.link why r → IsOfStage (Exchanging e) d why r r.kind
passed_of d d1 e r why p told =
    subst (λ (k : Kind). IsOfStage (Exchanging e) d why r k) (sym (ap (λ (x : Served). x.kind) p.gives.served))
    (record { server = refl; id = refl; nth = refl; sent = refl; took = refl; sent_rises = p.rises.sent; took_rises = p.rises.took }, told, p.method)

passed_ends : (d d1 : DeskNow) (e : ExchangeNow) (r : Served) (closing : Bool) → GivesPassed d d1 e r → closing ≡ closing_of e.answer → ends_after r.kind ≡ (if closing then Some cause.Closing else None)
passed_ends d d1 e r closing p is = ap (λ (x : Served). ends_after x.kind) p.gives.served ∙ ap (λ (b : Bool). if b then Some cause.Closing else None) (sym is)

no_exchange : (held : Option RestedNow) → HasNoExchange (resting held)
no_exchange None = tt
no_exchange (Some r) = tt

pub passed_moves : (d d1 : DeskNow) (e : ExchangeNow) (held : Option RestedNow) (r : Served) (closing : Bool) → closing ≡ false → closing ≡ closing_of e.answer → GivesPassed d d1 e r → IsTold d.client e.busy.link cause.End r
    → TellsMoved (Exchanging e) d d1 (Reading held) (Some r)
passed_moves d d1 e held r closing open_ is p told = (
  passed_one d d1 d1.client e r p (link_same d1.client),
  passed_of d d1 e r cause.End p told,
  passed_ends d d1 e r closing p is ∙ ap (λ (b : Bool). if b then Some cause.Closing else None) open_,
  ap (λ (l : LinkState). l.finished) p.client,
  no_exchange held,
)

pub passed_closes : (d d1 : DeskNow) (l : LinkState) (e : ExchangeNow) (r : Served) (closing : Bool) → closing ≡ true → closing ≡ closing_of e.answer → GivesPassed d d1 e r
    → IsTold d.client e.busy.link cause.Closing r → LinkFinishes d1.client l → TellsEnd (Exchanging e) d (with_client d1 l) (Some r) cause.Closing
passed_closes d d1 l e r closing closed is p told finishes = (
  passed_one d d1 l e r p (record {
    taken = ap (λ (x : LinkState). x.taken) finishes.0;
    sent = ap (λ (x : LinkState). x.sent) finishes.0;
    ended = ap (λ (x : LinkState). x.told_end) finishes.0;
  }),
  passed_of d d1 e r cause.Closing p told,
  subst (λ (o : Option LeftCause). LeavesWith o cause.Closing) (sym (passed_ends d d1 e r closing p is ∙ ap (λ (b : Bool). if b then Some cause.Closing else None) closed)) (inl refl),
  ap (λ (x : LinkState). x.finished) finishes.0,
  λ e. cc,
)

-- a session that leaves, once its client's link is on no loop
pub end_detached : (s : StageNow) (d0 d d' : DeskNow) (served : Option Served) (why : LeftCause) → d' ≡ with_client d d'.client → CarriesSame d.client d'.client → d'.client.finished ≡ d.client.finished
    → TellsEnd s d0 d served why → TellsEnd s d0 d' served why
end_detached s d0 d d' None why is same finished t = (
  record {
    number = ap (λ (x : DeskNow). x.number) is ∙ t.0.number;
    ask_from = ap (λ (x : DeskNow). x.ask_from) is ∙ t.0.ask_from;
    gave_from = ap (λ (x : DeskNow). x.gave_from) is ∙ t.0.gave_from;
    finished = finished ∙ t.0.finished;
  },
  t.1,
  t.2,
)
end_detached s d0 d d' (Some r) why is same finished t = (
  record {
    worker = t.0.worker;
    session = t.0.session;
    number = t.0.number;
    ask = t.0.ask;
    gave = t.0.gave;
    ask_rises = t.0.ask_rises;
    gave_rises = t.0.gave_rises;
    next = ap (λ (x : DeskNow). x.number) is ∙ t.0.next;
    asked = ap (λ (x : DeskNow). x.ask_from) is ∙ t.0.asked;
    given = ap (λ (x : DeskNow). x.gave_from) is ∙ t.0.given;
    client = link_then d0.client d.client d'.client t.0.client same;
  },
  t.1,
  t.2,
  finished ∙ t.3,
  t.4,
)

-- a server is chosen, and nothing else is done
pub chooses_same : (servers : List Server) (turn turn' : ℕ) (olds news : List History) (s t : StageNow) → ChoosesIn servers turn turn' olds news s t → IsSameStage s t
chooses_same servers turn turn' olds news (Reading held) t k = k.0
chooses_same servers turn turn' olds news (Choosing c) t k = (k.0, k.1)
chooses_same servers turn turn' olds news (Exchanging e) t k = (e, k.0, exchange_same e)
chooses_same servers turn turn' olds news (Answering a) t k = k.0
chooses_same servers turn turn' olds news Left t k = k.0

pub chosen_still : (d0 d : DeskNow) (s t u : StageNow) → IsStillTold d0 s d t → IsSameStage t u → IsStillTold d0 s d u
chosen_still d0 d s t u x y = record { none = x.none; who = x.who; client = x.client; stage = stage_then s t u x.stage y }
