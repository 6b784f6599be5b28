-- What was true stays true as links go on.
use Rattle.std.proofs.Common.{◌≡◌, ⊎_elim, inl, inr, ℕ, Bool, true, false, List, [], ◌++◌, refl, sym, ap, ◌∙◌, subst, append-nil, append_assoc, Option, Some, None, IsSome}
use Rattle.std.specs.Prelude.{IfSome, Contains}
use Rattle.std.proofs.lemmas.List.Elements.{Contains-append_left}
use Rattle.hx_base.specs.declared.what.LinkTold.{LinkTold}
use Rattle.hx_base.specs.declared.what.What.{What}
use Rattle.hx_base.specs.Spans.{bytes_in}
use Rattle.hx_conn.specs.WhatTold.{what_of_link}
use Rattle.hx_link.specs.Told.{LinkState}
use Rattle.hx_message.specs.Message.{Persists}
use Rattle.hx_pool.specs.SeatView.{History}
use Rattle.hx_record.specs.Carriage.{Carriage}
use Rattle.hx_record.specs.GoingOn.{GoesOn}
use Rattle.hx_record.specs.Truth.{HasRanges, IsTruePassed, IsTrueCut, IsTrueOwn}
use Rattle.hx_record.specs.declared.served.Carried.{Carried}
use Rattle.hx_record.specs.declared.served.CutCause.{CutCause}
use Rattle.hx_record.specs.declared.served.Kind.{Kind}
use Rattle.hx_record.specs.declared.served.Kind.TheVariants as kind
use Rattle.hx_record.specs.declared.served.LeftCause.{LeftCause}
use Rattle.hx_record.specs.declared.served.Served.{Served}
use Rattle.hx_record.specs.declared.served.Told.{Told}
use Rattle.hx_record.specs.declared.served.Told.TheVariants as line
use Rattle.hx_record.proofs.Staying.{passed_stays}
use Rattle.hx_connecting.specs.Links.{IsSameLink, GrowsTold}
use Rattle.hx_connecting.specs.Sessions.{SessionNow}
use Rattle.hx_session.specs.Records.{carriage_of}
use Rattle.hx_course.specs.Graves.{Grave, OfClient, OfConn, grave}
use Rattle.hx_course.specs.Places.{ConnIs, IsInGrave, StandsBehind, ToldGrows, BytesGrow, LinksGoOn}
use Rattle.hx_course.specs.Truths.{left_open, WhereBoth, IsTrueOpen, IsTrueEnded, PassedNow, CutNow, OwnNow, IsTrueNow, KeepsTruth}

-- ---- bytes that grow

stands_same : (x : LinkTold) → StandsBehind x x
stands_same x = record { sent = ([], sym (append-nil x.sent)); taken = ([], sym (append-nil x.taken)) }

pub told_same : (o : Option LinkTold) → ToldGrows o o
told_same None = tt
told_same (Some x) = (x, refl, stands_same x)

stands_then : (x y z : LinkTold) → StandsBehind x y → StandsBehind y z → StandsBehind x z
stands_then x y z a b = record {
  sent = (a.sent.0 ++ b.sent.0, b.sent.1 ∙ (ap (λ (l : List ℕ). l ++ b.sent.0) a.sent.1 ∙ append_assoc x.sent a.sent.0 b.sent.0));
  taken = (a.taken.0 ++ b.taken.0, b.taken.1 ∙ (ap (λ (l : List ℕ). l ++ b.taken.0) a.taken.1 ∙ append_assoc x.taken a.taken.0 b.taken.0));
}

pub told_then : (a b c : Option LinkTold) → ToldGrows a b → ToldGrows b c → ToldGrows a c
told_then a b None g h = tt
told_then a b (Some z) g h =
    let k : (x : LinkTold) × (a ≡ Some x) × StandsBehind x h.0 = subst (λ (o : Option LinkTold). ToldGrows a o) h.1 g in
    (k.0, k.1, stands_then k.0 h.0 z k.2 h.2)

-- as a call of a session has it
same_grows : (a b : Option LinkTold) → (IsSome b → IsSome a) → IfSome a (λ c. (d : LinkTold) × (b ≡ Some d) × GrowsTold c d) → ToldGrows a b
same_grows a None before told = tt
same_grows None (Some y) before told = let no = before refl in cc
same_grows (Some x) (Some y) before told =
    let is : told.0 ≡ y = cc in
    (x, refl, subst (λ (z : LinkTold). StandsBehind x z) is (record { sent = told.2.sent; taken = told.2.taken }))

pub link_grows : (v w : What) → IsSameLink v w → BytesGrow v w
link_grows v w s = same_grows v.told w.told s.told_before s.told

-- what holds of both goes on where it goes on with bytes
both_on : (o p q s : Option LinkTold) (P Q : LinkTold → LinkTold → Type 0) → ToldGrows o q → ToldGrows p s
    → ((x y z w : LinkTold) → StandsBehind x z → StandsBehind y w → P x y → Q z w)
    → IfSome o (λ x. IfSome p (λ y. P x y)) → IfSome q (λ z. IfSome s (λ w. Q z w))
both_on o p None s P Q g h f k = tt
both_on o p (Some z) None P Q g h f k = tt
both_on o p (Some z) (Some w) P Q g h f k =
    let one : IfSome p (λ y. P g.0 y) = subst (λ (u : Option LinkTold). IfSome u (λ x. IfSome p (λ y. P x y))) g.1 k in
    let two : P g.0 h.0 = subst (λ (u : Option LinkTold). IfSome u (λ y. P g.0 y)) h.1 one in
    f g.0 h.0 z w g.2 h.2 two

-- ---- carriages

not_ended : false ≡ true → ⊥
not_ended e = cc

goes_open : (x z : LinkTold) → StandsBehind x z → GoesOn (left_open x) (left_open z)
goes_open x z b = record { taken = b.taken; sent = b.sent; ended = λ e. absurd (not_ended e) }

goes_same : (c : Carriage) → GoesOn c c
goes_same c = record { taken = ([], sym (append-nil c.taken)); sent = ([], sym (append-nil c.sent)); ended = λ e. (e, refl) }

open_on : (r : Served) (c : Carried) (x y z w : LinkTold) → StandsBehind x z → StandsBehind y w → IsTrueOpen r c x y → IsTrueOpen r c z w
open_on r c x y z w a b t = passed_stays r c (left_open x) (left_open z) (left_open y) (left_open w) (goes_open x z a) (goes_open y w b) t

ended_on : (r : Served) (c : Carried) (x y z : LinkTold) → StandsBehind x z → IsTrueEnded r c x y → IsTrueEnded r c z y
ended_on r c x y z a t = passed_stays r c (left_open x) (left_open z) (carriage_of y) (carriage_of y) (goes_open x z a) (goes_same (carriage_of y)) t

-- ---- each record

module _ (ss ss' : List SessionNow) (seats seats' : List History) (graves graves' : List Grave) (go : LinksGoOn ss ss' seats seats' graves graves') where
  grave_on : (server : _) (id : _) (v : What) → IsInGrave graves server id v → IsInGrave graves' server id v
  grave_on server id v g = record { link = g.link; there = go.stay (grave (OfConn server id) g.link) g.there; tells = g.tells }

  passed_on : (r : Served) (c : Carried) → PassedNow ss seats graves r c → PassedNow ss' seats' graves' r c
  passed_on r c p =
      let k = go.clients r.worker r.session p.client p.of_client in
      ⊎_elim
      (λ (o : ConnIs ss seats graves c.server c.id p.conn × WhereBoth p.client p.conn (IsTrueOpen r c)).
      let m = go.conns c.server c.id p.conn o.0 in
      let stays : WhereBoth k.0 m.0 (IsTrueOpen r c) = both_on (what_of_link p.client).told p.conn.told (what_of_link k.0).told m.0.told (IsTrueOpen r c) (IsTrueOpen r c) k.2 m.2 (open_on r c) o.1 in
      record { client = k.0; of_client = k.1; conn = m.0; stands = inl (m.1, stays) })
      (λ (e : IsInGrave graves c.server c.id p.conn × WhereBoth p.client p.conn (IsTrueEnded r c)).
      let stays : WhereBoth k.0 p.conn (IsTrueEnded r c) = ended_both k.0 p.client p.conn k.2 e.1 in
      record { client = k.0; of_client = k.1; conn = p.conn; stands = inr (grave_on c.server c.id p.conn e.0, stays) })
      p.stands
    where
      ended_told : (o q s : Option LinkTold) → ToldGrows o q → IfSome o (λ x. IfSome s (λ y. IsTrueEnded r c x y)) → IfSome q (λ z. IfSome s (λ y. IsTrueEnded r c z y))
      ended_told o None s g k = tt
      ended_told o (Some z) None g k = tt
      ended_told o (Some z) (Some y) g k =
          ended_on r c g.0 y z g.2 (subst (λ (u : Option LinkTold). IfSome u (λ x. IsTrueEnded r c x y)) g.1 k)

      ended_both : (k l : LinkState) (v : What) → BytesGrow (what_of_link l) (what_of_link k) → WhereBoth l v (IsTrueEnded r c) → WhereBoth k v (IsTrueEnded r c)
      ended_both k l v g t = ended_told (what_of_link l).told (what_of_link k).told v.told g t

  cut_on : (r : Served) (c : Carried) (why : CutCause) → CutNow graves r c why → CutNow graves' r c why
  cut_on r c why p = record {
    client = p.client;
    of_client = go.stay (grave (OfClient r.worker r.session) p.client) p.of_client;
    conn = p.conn;
    of_conn = grave_on c.server c.id p.conn p.of_conn;
    is_true = p.is_true;
  }

  own_on : (records lines : List Told) (r : Served) (status : ℕ) → OwnNow records graves r status → OwnNow (records ++ lines) graves' r status
  own_on records lines r status p = record {
    client = p.client;
    of_client = go.stay (grave (OfClient r.worker r.session) p.client) p.of_client;
    left = p.left;
    left_told = Contains-append_left records lines (line.Left p.left) p.left_told;
    its_left = p.its_left;
    is_true = p.is_true;
  }

  kind_on : (records lines : List Told) (r : Served) (k : Kind) → IsTrueNow ss seats records graves r k → IsTrueNow ss' seats' (records ++ lines) graves' r k
  kind_on records lines r (kind.Passed c) t = passed_on r c t
  kind_on records lines r (kind.Cut c why) t = cut_on r c why t
  kind_on records lines r (kind.Own status) t = own_on records lines r status t

  -- what was told stays true as the links go on, whatever is told behind it
  pub truth_on : (records lines : List Told) → KeepsTruth ss seats records graves → (r : Served) → Contains records (line.Served r) → IsTrueNow ss' seats' (records ++ lines) graves' r r.kind
  truth_on records lines k r told = kind_on records lines r r.kind (k r told)

-- ---- from what a session says of its record

ranges_open : (r : Served) (c : Carried) (x y : LinkTold) (e : Bool) → HasRanges r c (carriage_of x) (carriage_of y) → HasRanges r c (left_open x) (record { taken = y.taken; sent = y.sent; ended = e })
ranges_open r c x y e h = record { first = h.first; ask = h.ask; gave = h.gave; sent = h.sent; took = h.took }

-- no end of the client's link is asked for
pub passed_ended : (r : Served) (c : Carried) (x y : LinkTold) → IsTruePassed r c (carriage_of x) (carriage_of y) → IsTrueEnded r c x y
passed_ended r c x y p = record {
  ranges = ranges_open r c x y y.ended p.ranges;
  method = p.method;
  ask = p.ask;
  sent = p.sent;
  answer = p.answer;
  gave = p.gave;
  closing = p.closing;
  before = p.before;
}

-- and none of the connection's, where it may be used again after the answer
pub passed_open : (r : Served) (c : Carried) (x y : LinkTold) (p : IsTruePassed r c (carriage_of x) (carriage_of y)) → Persists p.method (bytes_in y.taken c.took) → IsTrueOpen r c x y
passed_open r c x y p lasts = record {
  ranges = ranges_open r c x y false p.ranges;
  method = p.method;
  ask = p.ask;
  sent = p.sent;
  answer = (lasts.0, lasts.1, lasts.2, λ runs. absurd (lasts.4 runs));
  gave = p.gave;
  closing = p.closing;
  before = p.before;
}

pub cut_open : (r : Served) (c : Carried) (why : CutCause) (x y : LinkTold) → IsTrueCut r c why (carriage_of x) (carriage_of y) → IsTrueCut r c why (left_open x) (carriage_of y)
cut_open r c why x y p = record {
  ranges = ranges_open r c x y y.ended p.ranges;
  head = p.head;
  rest = p.rest;
  begins = p.begins;
  ask = p.ask;
  sent = p.sent;
  all_sent = p.all_sent;
  took = p.took;
  gave = p.gave;
  closing = p.closing;
  early = p.early;
}

pub own_open : (r : Served) (status : ℕ) (x : LinkTold) (why : LeftCause) → IsTrueOwn r status (carriage_of x) why → IsTrueOwn r status (left_open x) why
own_open r status x why p = record { ask = p.ask; gave = p.gave; all_taken = p.all_taken; text = p.text; own = p.own; gives = p.gives }
