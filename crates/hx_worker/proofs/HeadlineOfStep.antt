-- From a worker's step alone, each part of the headline that sessions promise follows.
use Rattle.std.proofs.Common.{◌≡◌, ⊎_elim, inr, ℕ, zero, suc, ◌+◌, Bool, true, false, List, [], ◌∷◌, refl, sym, ◌∙◌, subst, Option, Some, None, IsSome}
use Rattle.std.specs.Prelude.{IfSome}
use Rattle.hx_base.specs.declared.numbers.SessionNo.{SessionNo}
use Rattle.hx_base.specs.declared.what.What.{What}
use Rattle.hx_base.specs.declared.what.LinkTold.{LinkTold}
use Rattle.hx_conn.specs.WhatTold.{what_of_link}
use Rattle.hx_link.specs.Told.{LinkState}
use Rattle.hx_link.specs.Nets.{NetState, DialTold}
use Rattle.hx_pool.specs.declared.entries.Note.{Note}
use Rattle.hx_pool.specs.SeatView.{History}
use Rattle.hx_record.specs.Carriage.{Carriage}
use Rattle.hx_record.specs.Truth.{RecountsBytes}
use Rattle.hx_record.specs.declared.served.Carried.{Carried}
use Rattle.hx_record.specs.declared.served.Kind.{Kind}
use Rattle.hx_record.specs.declared.served.Kind.TheVariants as kind
use Rattle.hx_record.specs.declared.served.Left.{Left}
use Rattle.hx_record.specs.declared.served.LeftCause.{LeftCause}
use Rattle.hx_record.specs.declared.served.Served.{Served}
use Rattle.hx_connecting.specs.Links.{GainsAll, DialsFor, GoesOn, TellsBefore}
use Rattle.hx_connecting.specs.Sessions.{SessionNow, Holding, Exchanging, is_first}
use Rattle.hx_connecting.specs.Touches.{Came, Touch, Had, Opened, Took, AddsEach, EachSeat, HasMarks}
use Rattle.hx_connecting.specs.Wanted.{OpensWereWanted}
use Rattle.hx_connecting.specs.Ways.{IsOwn}
use Rattle.hx_session.specs.Doings.{Doing}
use Rattle.hx_session.specs.Records.{KindStands, Records, ItsExchange, WhereTold, carriage_of, no_carriage, told_of, leaves_for}
use Rattle.hx_session.specs.Telling.{KindTold, RecordsTold}
use Rattle.hx_session.specs.Touching.{Touches, after_of}
use Rattle.hx_session.specs.declared.step.Step.{Step}
use Rattle.hx_worker.specs.Headline.{CarriesAt, CarriesEach, LinksTell, IsTrueRecord, dialled_for, dialled_by, doing_of, conn_after, CarriesHeadline}
use Rattle.hx_worker.specs.Steps.{Steps, BuriesClient, HasFewMarks}
use Rattle.hx_worker.specs.Workers.{WorkerNow, Each, HasSeats}
use Rattle.hx_worker.proofs.Owners.{few_marks}

-- ---- at each seat

each_seat : (s : SessionNow) (t : Option Touch) (i : ℕ) (olds news : List History) (added : List (List Note)) → AddsEach (HasMarks s.worker s.number (is_first s) t) i olds news added
    → EachSeat (λ h es. OpensWereWanted h (is_first s) [] es) news added → Each HasFewMarks added → CarriesEach s olds news added
each_seat s t i [] [] [] a w f k new e = cc
each_seat s t i [] [] (x ∷ added) a w f k new e = absurd a
each_seat s t i [] (y ∷ news) added a w f k new e = absurd a
each_seat s t i (x ∷ olds) [] added a w f k new e = absurd a
each_seat s t i (x ∷ olds) (y ∷ news) [] a w f k new e = absurd a
each_seat s t i (x ∷ olds) (y ∷ news) (es ∷ added) a w f zero new e =
    let is : y ≡ new = cc in
    let at : CarriesAt s x y es = record { about = a.0.about; one = a.0.one; mine = a.0.mine; seen = a.0.seen; own = a.1.own; few = f.0; wanted = w.0 } in
    (x, es, refl, refl, subst (λ (h : History). CarriesAt s x h es) is at)
each_seat s t i (x ∷ olds) (y ∷ news) (es ∷ added) a w f (suc k) new e = each_seat s t (i + 1) olds news added a.2 w.1 f.1 k new e

-- ---- records

-- a record as the call leaves its links stands as the whole contract has it
kind_stands : (s a : SessionNow) (conn : Option What) (why : LeftCause) (r : Served) (k : Kind) → KindTold s a conn why r k → KindStands s a conn why r k
kind_stands s a conn why r (kind.Passed c) t = t
kind_stands s a conn why r (kind.Cut c w) t = t
kind_stands s a conn why r (kind.Own status) t = t

records_stand : (s a : SessionNow) (conn : Option What) (left : Option Left) (served : Option Served) → RecordsTold s a conn left served → Records s a conn left served
records_stand s a conn left None t = t
records_stand s a conn left (Some r) t = record {
  worker = t.worker;
  session = t.session;
  number = t.number;
  ask = t.ask;
  gave = t.gave;
  ask_rises = t.ask_rises;
  gave_rises = t.gave_rises;
  is_true = kind_stands s a conn (leaves_for left) r r.kind t.kind;
  method = t.method;
  over = t.over;
  served = t.served;
  asked = t.asked;
  given = t.given;
  ends = t.ends;
}

-- what is told is there
there : (o : Option LinkTold) → IsSome o → (x : LinkTold) × (o ≡ Some x)
there None i = cc
there (Some x) i = (x, refl)

there_conn : (o : Option What) → IsSome o → IfSome o (λ w. IsSome w.told) → (x : LinkTold) × (told_of o ≡ Some x)
there_conn None i t = cc
there_conn (Some w) i t = there w.told t

of_told : (o : Option LinkTold) (x : LinkTold) (P : Carriage → Type 0) → o ≡ Some x → WhereTold o P → P (carriage_of x)
of_told o x P e t = subst (λ (p : Option LinkTold). WhereTold p P) e t

-- a session with an exchange touches its connection, whose link is still told of
was_there : (s : SessionNow) (h : _) (es : _) (x : Touch) (c : Came) (w : Option What) (b : Holding) → s.conn ≡ Some b → TellsBefore s h es x c w → IsSome w
was_there s h es x Had w b e t = subst (λ (o : Option What). IsSome o) (sym t.2) refl
was_there s h es x Opened w b e t = let none = sym e ∙ t.0 in cc
was_there s h es x (Took place uses) w b e t = let none = sym e ∙ t.0 in cc

is_there : (a b : Option What) → IsSome a → GoesOn a b → IsSome b
is_there None b i g = cc
is_there (Some a) None i g = absurd g
is_there (Some a) (Some b) i g = refl

conn_there : (d : Doing) (x : Option Touch) (t : Touches d x) (b : Holding) → d.old.conn ≡ Some b → (x ≡ None → ⊥) → IsSome (after_of d x t)
conn_there d None t b e some = absurd (some refl)
conn_there d (Some x) t b e some = is_there t.goes.before t.goes.after (was_there d.old t.at.history t.at.es x x.came t.goes.before b e t.goes.was) t.goes.same

-- and where it touched none, only an own answer's record is given
not_none : (d : Doing) (x : Option Touch) → Touches d x → (r : Served) → d.served ≡ Some r → (IsOwn r.kind → ⊥) → x ≡ None → ⊥
not_none d None t r e other is = other (subst (λ (o : Option Served). IfSome o (λ v. IsOwn v.kind)) e t.1)
not_none d (Some x) t r e other is = cc

module _ (d : Doing) (x : Option Touch) (t : Touches d x) (why : LeftCause) (r : Served) (gives : d.served ≡ Some r) (tell : LinksTell d.new.client (after_of d x t)) where
  client : (v : LinkTold) × ((what_of_link d.new.client).told ≡ Some v)
  client = there (what_of_link d.new.client).told tell.client_tells

  -- of both links
  of_both : (c : Carried) → ItsExchange d.old c → (IsOwn r.kind → ⊥)
      → WhereTold (what_of_link d.new.client).told (λ v. WhereTold (told_of (after_of d x t)) (λ y. RecountsBytes r.kind r v y why))
      → (v : LinkTold) × (y : LinkTold) × ((what_of_link d.new.client).told ≡ Some v) × (told_of (after_of d x t) ≡ Some y) × RecountsBytes r.kind r (carriage_of v) (carriage_of y) why
  of_both c its other told =
      let some = conn_there d x t (Exchanging its.0) its.1 (not_none d x t r gives other) in
      let conn = there_conn (after_of d x t) some tell.conn_tells in (
        client.0,
        conn.0,
        client.1,
        conn.1,
        of_told (told_of (after_of d x t)) conn.0 (λ y. RecountsBytes r.kind r (carriage_of client.0) y why) conn.1
            (of_told (what_of_link d.new.client).told client.0 (λ v. WhereTold (told_of (after_of d x t)) (λ y. RecountsBytes r.kind r v y why)) client.1 told),
      )

  true_kind : (k : Kind) → r.kind ≡ k → KindTold d.old d.new (after_of d x t) why r k → IsTrueRecord d.new.client (after_of d x t) why r k
  true_kind (kind.Passed c) is told = of_both c told.0 (λ own. subst (λ (q : Kind). IsOwn q) is own) told.1
  true_kind (kind.Cut c w) is told = of_both c told.0 (λ own. subst (λ (q : Kind). IsOwn q) is own) told.1
  true_kind (kind.Own status) is told =
      (client.0, client.1, of_told (what_of_link d.new.client).told client.0 (λ v. RecountsBytes r.kind r v no_carriage why) client.1 told.1)

true_record : (d : Doing) (x : Option Touch) (t : Touches d x) (left : Option Left) (served : Option Served) → d.served ≡ served → RecordsTold d.old d.new (after_of d x t) left served
    → LinksTell d.new.client (after_of d x t) → IfSome served (λ v. IsTrueRecord d.new.client (after_of d x t) (leaves_for left) v v.kind)
true_record d x t left None e told tell = tt
true_record d x t left (Some r) e told tell = true_kind d x t (leaves_for left) r e tell r.kind refl told.kind

-- ---- dials

came_dials : (x : Touch) (c : Came) (old new : NetState) (w : Option What) (k : DialsFor x c old new w) → GainsAll (dialled_for x c old new w k) old.dials new.dials
came_dials x Had old new w k = k.0
came_dials x Opened old new w k = k.2
came_dials x (Took place uses) old new w k = k.0

touch_dials : (d : Doing) (x : Option Touch) (t : Touches d x) → GainsAll (dialled_by d x t) d.before.net.dials d.after.net.dials
touch_dials d None t = t.0.dials
touch_dials d (Some x) t = came_dials x x.came d.before.net d.after.net t.goes.after t.goes.dials

-- the burial of the client's link dials none
then_dials : (xs : List DialTold) (a : Option (List DialTold)) (over : Bool) (gone : LinkState) (mid net' : NetState) → GainsAll xs a mid.dials → BuriesClient over gone mid net' → GainsAll xs a net'.dials
then_dials xs a false gone mid net' g b = subst (λ (m : NetState). GainsAll xs a m.dials) (sym b) g
then_dials xs a true gone mid net' g b =
    ⊎_elim (λ (e : net'.dials ≡ mid.dials). subst (λ (o : Option (List DialTold)). GainsAll xs a o) (sym e) g) (λ (e : net'.dials ≡ None). inr e) b.1.dials

-- ---- one step

pub headline_of_step : (w w' : WorkerNow) (net net' : NetState) (n : SessionNo) (r : Step) (k : Steps w w' net net' n r) → HasSeats w' → CarriesHeadline w w' net net' n r k
headline_of_step w w' net net' n r k has =
    let s = k.session in let l = k.step.links in let t = l.touches in let d = doing_of w w' net net' n r k in record {
      seats = each_seat s t.touch 0 w.seats w'.seats l.added t.adds t.wanted
          (few_marks s.worker s.number (is_first s) t.touch 0 w.seats w'.seats l.added t.adds);
      owned = has.owns;
      records = records_stand s k.after (conn_after w w' net net' n r k) r.left r.served l.records;
      truth = λ tell. true_record d t.touch t.touched r.left r.served refl l.records tell;
      chooses = k.step.chooses;
      closes = l.closes;
      dialled = then_dials (dialled_by d t.touch t.touched) net.dials k.after.over k.after.client k.mid net' (touch_dials d t.touch t.touched) k.buries;
      buried = k.buried;
    }
