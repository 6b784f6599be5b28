-- What stands around a session that connects, closes its connection, or lets it rest.
use Rattle.std.proofs.Common.{◌≡◌, ℕ, Bool, List, [], ◌∷◌, refl, sym, ap, subst, ◌∙◌, arith, Option, Some, None, ⊎_elim}
use Rattle.std.specs.Prelude.{⊤, IfSome}
use Rattle.std.specs.List.{slice_get, slice_set}
use Rattle.hx_base.specs.declared.numbers.ThreadNo.{ThreadNo}
use Rattle.hx_base.specs.declared.numbers.SessionNo.{SessionNo}
use Rattle.hx_base.specs.declared.numbers.ServerNo.{ServerNo}
use Rattle.hx_base.specs.declared.numbers.ConnId.{ConnId}
use Rattle.hx_base.specs.Shown.{Shown}
use Rattle.hx_message.specs.declared.MethodKind.{MethodKind}
use Rattle.hx_link.specs.Told.{LinkState}
use Rattle.hx_link.specs.Nets.{NetState}
use Rattle.hx_conn.specs.Conns.{RestedNow, BusyNow}
use Rattle.hx_conn.specs.Steps.{begun, new_exchange, rested_of}
use Rattle.hx_conn.specs.WhatTold.{shown}
use Rattle.hx_pool.specs.Table.{face_of}
use Rattle.hx_pool.specs.Held.{HoldsJust}
use Rattle.hx_pool.specs.SeatView.{History, StandsInOneHistory}
use Rattle.hx_pool.specs.Opening.{HasConn, Closes}
use Rattle.hx_pool.proofs.HeldCalls.{closes_just, parks_just, refused_just}
use Rattle.hx_connecting.specs.declared.connecting.Connected.{Connected}
use Rattle.hx_connecting.specs.declared.connecting.Connected.TheVariants.{Begun, Dead, Refused}
use Rattle.hx_connecting.specs.Sessions.{Holding, Resting, Exchanging, conn_server, conn_id}
use Rattle.hx_connecting.specs.Holds.{HasJust}
use Rattle.hx_connecting.specs.Around.{ConnOnLoop, AreNumbered, HasAround, abouts, resting}
use Rattle.hx_connecting.specs.Connecting.{FindsOne, BeginsProbed, Dies, IsClosed, TriesRested, TriesNew, Connects, TriesFor, first_rested}
use Rattle.hx_connecting.specs.Closing.{AtSeat, ClosesAt, ClosesHeld, ClosesAny, HasHeld, HoldsTo, ConnectsTo, HasBegun, BeginsNew}
use Rattle.hx_connecting.specs.Settling.{SettlesAs, Settles, RestsAs}
use Rattle.hx_connecting.specs.Touched.{conn_after, held_after}
use Rattle.hx_connecting.proofs.AroundLemmas.{IsAt, RestsNever, around_set, just_here, one_here, seat_set, abouts_set, numbered_here}
use Rattle.hx_connecting.proofs.TouchLemmas.{connects_touch, one_seat, none_seat}
use Rattle.hx_connecting.proofs.HoldLemmas.{connects_holds}
use Rattle.hx_connecting.proofs.ConnectLemmas.{has_own, has_over, has_new}
use Rattle.hx_connecting.proofs.ParkLemmas.{refused_end}

some_same : {A : Type 0} (x y : A) → Some x ≡ Some y → x ≡ y
some_same x y e = cc

server_same : (a b : ServerNo) → a.0 ≡ b.0 → a ≡ b
server_same a b e = let made : ℕ → ServerNo = λ k. record { 0 = k } in ap made e

-- a connection that is closed
closes_around : (t : ThreadNo) (n : SessionNo) (c : Holding) (j : ℕ) (seats : List History) (old new : History) → slice_get seats j ≡ Some old
    → (conn_server c).0 ≡ j → Closes old new n (conn_id c) → HasAround t n (Some c) seats → HasAround t n None (slice_set seats j new)
closes_around t n c j seats old new there at closes a =
    let just = just_here t n (Some c) j seats old a there at in
    around_set t n (Some c) None j seats old new there closes.makes.about closes.makes.one at tt
    (closes_just old new n (face_of (conn_id c) just.0) closes just.1) tt tt a

pub busy_closed : (t : ThreadNo) (n : SessionNo) (b : BusyNow) (olds news : List History) (net net' : NetState) → ClosesAt olds news b.server.0 n b.id net net' b.link
    → HasAround t n (Some (Exchanging b)) olds → HasAround t n None news
busy_closed t n b olds news net net' k a =
    subst (HasAround t n None) (sym k.seats) (closes_around t n (Exchanging b) b.server.0 olds k.old k.new k.was refl k.closed.closes a)

pub held_closed : (t : ThreadNo) (n : SessionNo) (r : RestedNow) (olds news : List History) (net net' : NetState) → ClosesHeld olds news r.server.0 n r.id net net' r.link
    → HasAround t n (Some (Resting r)) olds → HasAround t n None news
held_closed t n r olds news net net' k a =
    subst (HasAround t n None) (sym k.seats) (closes_around t n (Resting r) r.server.0 olds k.old k.new k.was refl k.closed.closes a)

pub busy_abouts : (i : ℕ) (n : SessionNo) (id : ConnId) (link : LinkState) (olds news : List History) (net net' : NetState) → ClosesAt olds news i n id net net' link → abouts news ≡ abouts olds
busy_abouts i n id link olds news net net' k = ap abouts k.seats ∙ abouts_set i olds k.old k.new k.was k.closed.closes.makes.about

pub held_abouts : (i : ℕ) (n : SessionNo) (id : ConnId) (link : LinkState) (olds news : List History) (net net' : NetState) → ClosesHeld olds news i n id net net' link → abouts news ≡ abouts olds
held_abouts i n id link olds news net net' k = ap abouts k.seats ∙ abouts_set i olds k.old k.new k.was k.closed.closes.makes.about

closed_loop : (old new : History) (n : SessionNo) (id : ConnId) (net net' : NetState) (link : LinkState) → IsClosed old new n id net net' link → net'.loop_no ≡ net.loop_no
closed_loop old new n id net net' link k = ap (λ (s : NetState). s.loop_no) k.buries.0

pub busy_loop : (i : ℕ) (n : SessionNo) (id : ConnId) (link : LinkState) (olds news : List History) (net net' : NetState) → ClosesAt olds news i n id net net' link → net'.loop_no ≡ net.loop_no
busy_loop i n id link olds news net net' k = closed_loop k.old k.new n id k.between net' k.detached k.closed ∙ ap (λ (s : NetState). s.loop_no) k.detaches.0.0

pub held_loop : (i : ℕ) (n : SessionNo) (id : ConnId) (link : LinkState) (olds news : List History) (net net' : NetState) → ClosesHeld olds news i n id net net' link → net'.loop_no ≡ net.loop_no
held_loop i n id link olds news net net' k = closed_loop k.old k.new n id net net' link k.closed

pub any_closed : (t : ThreadNo) (n : SessionNo) (held : Option RestedNow) (olds news : List History) (net net' : NetState) → ClosesAny olds news n held net net'
    → HasAround t n (resting held) olds → HasAround t n None news
any_closed t n None olds news net net' k a = subst (HasAround t n None) (sym k.0) a
any_closed t n (Some r) olds news net net' k a = held_closed t n r olds news net net' k a

pub any_abouts : (n : SessionNo) (held : Option RestedNow) (olds news : List History) (net net' : NetState) → ClosesAny olds news n held net net' → abouts news ≡ abouts olds
any_abouts n None olds news net net' k = ap abouts k.0
any_abouts n (Some r) olds news net net' k = held_abouts r.server.0 n r.id r.link olds news net net' k

pub any_loop : (n : SessionNo) (held : Option RestedNow) (olds news : List History) (net net' : NetState) → ClosesAny olds news n held net net' → net'.loop_no ≡ net.loop_no
any_loop n None olds news net net' k = ap (λ (s : NetState). s.loop_no) k.1
any_loop n (Some r) olds news net net' k = held_loop r.server.0 n r.id r.link olds news net net' k

-- what came of a try to connect, at the server's seat
record Reaches {X : Type 0} (n : SessionNo) (server : ServerNo) (loop : ℕ) (old new : History) (c : Connected X) : Type 0 where
  pub about : new.about ≡ old.about
  pub one : StandsInOneHistory new
  pub just : HasJust new n (conn_after c)
  pub at : IsAt server.0 (conn_after c)
  pub on_loop : (t : ThreadNo) → loop ≡ t.0 → ConnOnLoop t (conn_after c)

-- the exchange that begins on a connection that rested
probed_id : (r : RestedNow) (now : ℕ) (m : MethodKind) (net net' : NetState) (b : BusyNow) → BeginsProbed r now m net net' b
    → (b.id ≡ r.id) × (b.server ≡ r.server) × (b.uses ≡ r.uses) × (b.link.on_loop ≡ Some net.loop_no)
probed_id r now m net net' b k = (
  ap (λ (x : BusyNow). x.id) k.2.1 ∙ ap (λ (q : RestedNow). q.id) k.1.0,
  ap (λ (x : BusyNow). x.server) k.2.1 ∙ ap (λ (q : RestedNow). q.server) k.1.0,
  ap (λ (x : BusyNow). x.uses) k.2.1 ∙ ap (λ (q : RestedNow). q.uses) k.1.0,
  ap (λ (x : BusyNow). x.link.on_loop) k.2.1,
)

dies_loop : (r : RestedNow) (now : ℕ) (link : LinkState) (net net' : NetState) → Dies r now link net net' → net'.loop_no ≡ net.loop_no
dies_loop r now link net net' d = ⊎_elim
    (λ a. ap (λ (s : NetState). s.loop_no) a.2)
    (λ b. ap (λ (s : NetState). s.loop_no) b.3.0.0)
    d

rested_loop : {X : Type 0} (old new : History) (n : SessionNo) (r : RestedNow) (now : ℕ) (m : MethodKind) (net net' : NetState) (c : Connected X)
    → TriesRested old new n r now m net net' c → net'.loop_no ≡ net.loop_no
rested_loop old new n r now m net net' (Begun busy fresh) k = ap (λ (s : NetState). s.loop_no) k.2.2.0.0.0
rested_loop old new n r now m net net' Dead k = closed_loop old new n r.id k.0 net' k.1 k.3 ∙ dies_loop r now k.1 net k.0 k.2
rested_loop old new n r now m net net' Refused k = absurd k

new_loop : {X : Type 0} (old new : History) (n : SessionNo) (server : ServerNo) (m : MethodKind) (net net' : NetState) (c : Connected X)
    → TriesNew old new n server m net net' c → net'.loop_no ≡ net.loop_no
new_loop old new n server m net net' (Begun busy fresh) k =
    let o = k.1 in ap (λ (s : NetState). s.loop_no) o.begins.0.0.0 ∙ ap (λ (s : NetState). s.loop_no) o.dialled.net
new_loop old new n server m net net' Dead k = absurd k
new_loop old new n server m net net' Refused k = ⊎_elim
    (λ e. ap (λ (s : NetState). s.loop_no) e.2)
    (λ z. ⊎_elim
    (λ x. ap (λ (s : NetState). s.loop_no) x.1.net)
    (λ y. closed_loop z.0 new n z.1 y.2 net' y.0 y.6 ∙ (ap (λ (s : NetState). s.loop_no) y.5.0.0 ∙ ap (λ (s : NetState). s.loop_no) y.4.net))
    z.3)
    k

connects_loop : {X : Type 0} (old new : History) (n : SessionNo) (first : Bool) (server : ServerNo) (now : ℕ) (m : MethodKind) (net net' : NetState) (c : Connected X)
    → Connects old new n first server now m net net' c → net'.loop_no ≡ net.loop_no
connects_loop old new n first server now m net net' c k = ⊎_elim
    (λ a. rested_loop a.0 new n a.1 now m net net' c a.4)
    (λ b. new_loop b.0 new n server m net net' c b.2)
    k

pub reached_loop : {X : Type 0} (olds news : List History) (n : SessionNo) (first : Bool) (server : ServerNo) (now : ℕ) (m : MethodKind) (net net' : NetState) (held : Option RestedNow) (c : Connected X)
    → ConnectsTo olds news n first server now m net net' held c → net'.loop_no ≡ net.loop_no
reached_loop olds news n first server now m net net' None c k = connects_loop k.old k.new n first server now m net net' c k.tries
reached_loop olds news n first server now m net net' (Some r) c k = rested_loop k.old k.new n r now m net net' c k.tries.1

-- the server and the loop of a connection on which an exchange began
rested_at : {X : Type 0} (mid new : History) (n : SessionNo) (server : ServerNo) (r : RestedNow) (now : ℕ) (m : MethodKind) (net net' : NetState) (c : Connected X)
    → r.server ≡ server → TriesRested mid new n r now m net net' c
    → IsAt server.0 (conn_after c) × ((t : ThreadNo) → net.loop_no ≡ t.0 → ConnOnLoop t (conn_after c))
rested_at mid new n server r now m net net' (Begun busy fresh) at k =
    let e = probed_id r now m net net' busy k.2 in
    (ap (λ (s : ServerNo). s.0) (e.1 ∙ at), λ t is. e.3 ∙ ap (λ (l : ℕ). Some l) is)
rested_at mid new n server r now m net net' Dead at k = (tt, λ t is. tt)
rested_at mid new n server r now m net net' Refused at k = absurd k

new_at : {X : Type 0} (mid new : History) (n : SessionNo) (server : ServerNo) (m : MethodKind) (net net' : NetState) (c : Connected X) → TriesNew mid new n server m net net' c
    → IsAt server.0 (conn_after c) × ((t : ThreadNo) → net.loop_no ≡ t.0 → ConnOnLoop t (conn_after c))
new_at mid new n server m net net' (Begun busy fresh) k =
    let o = k.1 in (
      ap (λ (b : BusyNow). b.server.0) o.begins.1,
      λ t is. ap (λ (b : BusyNow). b.link.on_loop) o.begins.1 ∙ ap (λ (l : ℕ). Some l) (ap (λ (s : NetState). s.loop_no) o.dialled.net ∙ is),
    )
new_at mid new n server m net net' Dead k = absurd k
new_at mid new n server m net net' Refused k = (tt, λ t is. tt)

reaches_held : {X : Type 0} (old new : History) (n : SessionNo) (server : ServerNo) (r : RestedNow) (now : ℕ) (m : MethodKind) (net net' : NetState) (c : Connected X)
    → r.server ≡ server → StandsInOneHistory old → HasJust old n (Some (Resting r)) → TriesRested old new n r now m net net' c → Reaches n server net.loop_no old new c
reaches_held old new n server r now m net net' (Begun busy fresh) at one just k =
    let e = probed_id r now m net net' busy k.2 in record {
      about = ap (λ (h : History). h.about) k.0;
      one = subst StandsInOneHistory (sym k.0) one;
      just = subst (λ (h : History). HasJust h n (Some (Exchanging busy))) (sym k.0)
          (just.0, just.1 ∙ ap (λ (i : ConnId). face_of i just.0 ∷ []) (sym e.0), λ ne. just.2 ne ∙ sym e.2);
      at = ap (λ (s : ServerNo). s.0) (e.1 ∙ at);
      on_loop = λ t is. e.3 ∙ ap (λ (l : ℕ). Some l) is;
    }
reaches_held old new n server r now m net net' Dead at one just k = record {
  about = k.3.closes.makes.about;
  one = k.3.closes.makes.one;
  just = closes_just old new n (face_of r.id just.0) k.3.closes just.1;
  at = tt;
  on_loop = λ t is. tt;
}
reaches_held old new n server r now m net net' Refused at one just k = absurd k

reaches_free : {X : Type 0} (old new : History) (n : SessionNo) (first : Bool) (server : ServerNo) (now : ℕ) (m : MethodKind) (net net' : NetState) (c : Connected X)
    → old.about.server ≡ server → HasJust old n None → Connects old new n first server now m net net' c → Reaches n server net.loop_no old new c
reaches_free old new n first server now m net net' c here none k =
    let touch = connects_touch old new n first server now m net net' c here k in
    let at = ⊎_elim
    (λ a. rested_at a.0 new n server a.1 now m net net' c ((one_seat old a.0 n first (shown a.1) a.2).server ∙ here) a.4)
    (λ b. new_at b.0 new n server m net net' c b.2)
    k in
    record {
      about = touch.seat.makes.makes.about;
      one = touch.seat.makes.makes.one;
      just = just_after new n c (connects_holds old new n first server now m net net' c k none);
      at = at.0;
      on_loop = at.1;
    }
  where
    just_after : {X : Type 0} (h : History) (n : SessionNo) (c : Connected X) → HoldsJust h.mine n (held_after c) → HasJust h n (conn_after c)
    just_after h n (Begun busy fresh) just = (busy.uses, just, λ ne. refl)
    just_after h n Dead just = just
    just_after h n Refused just = just

reaches_any : {X : Type 0} (old new : History) (n : SessionNo) (first : Bool) (server : ServerNo) (now : ℕ) (m : MethodKind) (net net' : NetState) (held : Option RestedNow) (c : Connected X)
    → old.about.server ≡ server → IsAt server.0 (resting held) → StandsInOneHistory old → HasJust old n (resting held) → TriesFor old new n first server now m net net' held c
    → Reaches n server net.loop_no old new c
reaches_any old new n first server now m net net' None c here at one just k = reaches_free old new n first server now m net net' c here just k
reaches_any old new n first server now m net net' (Some r) c here at one just k = reaches_held old new n server r now m net net' c (server_same r.server server at) one just k.1

reached_never : {X : Type 0} (c : Connected X) (h : History) → RestsNever (conn_after c) h
reached_never (Begun busy fresh) h = tt
reached_never Dead h = tt
reached_never Refused h = tt

held_at : (seats : List History) (n : SessionNo) (server : ServerNo) (held : Option RestedNow) → HoldsTo seats n server held → IsAt server.0 (resting held)
held_at seats n server None k = tt
held_at seats n server (Some r) k = ap (λ (s : ServerNo). s.0) k.0

-- a session that connects
pub reached_around : {X : Type 0} (t : ThreadNo) (olds news : List History) (n : SessionNo) (first : Bool) (server : ServerNo) (now : ℕ) (m : MethodKind) (net net' : NetState) (held : Option RestedNow) (c : Connected X)
    → HoldsTo olds n server held → ConnectsTo olds news n first server now m net net' held c → HasAround t n (resting held) olds → net.loop_no ≡ t.0 → HasAround t n (conn_after c) news
reached_around t olds news n first server now m net net' held c has k a is =
    let at = held_at olds n server held has in
    let here : k.old.about.server ≡ server = server_same k.old.about.server server (numbered_here 0 server.0 olds k.old k.was a.servers ∙ omega arith) in
    let r = reaches_any k.old k.new n first server now m net net' held c here at (one_here t n (resting held) server.0 olds k.old a k.was)
    (just_here t n (resting held) server.0 olds k.old a k.was at) k.tries in
    subst (HasAround t n (conn_after c)) (sym k.seats)
    (around_set t n (resting held) (conn_after c) server.0 olds k.old k.new k.was r.about r.one at r.at r.just (r.on_loop t is) (reached_never c k.new) a)

rested_about : {X : Type 0} (mid new : History) (n : SessionNo) (r : RestedNow) (now : ℕ) (m : MethodKind) (net net' : NetState) (c : Connected X)
    → TriesRested mid new n r now m net net' c → new.about ≡ mid.about
rested_about mid new n r now m net net' (Begun busy fresh) k = ap (λ (h : History). h.about) k.0
rested_about mid new n r now m net net' Dead k = k.3.closes.makes.about
rested_about mid new n r now m net net' Refused k = absurd k

opened_about : {X : Type 0} (mid new : History) (n : SessionNo) (server : ServerNo) (m : MethodKind) (net net' : NetState) (c : Connected X)
    → TriesNew mid new n server m net net' c → new.about ≡ mid.about
opened_about mid new n server m net net' (Begun busy fresh) k = k.1.opens.1.makes.about
opened_about mid new n server m net net' Dead k = absurd k
opened_about mid new n server m net net' Refused k = ⊎_elim
    (λ e. e.1.1.makes.about)
    (λ z. ⊎_elim
    (λ x. x.0.makes.about ∙ z.2.1.makes.about)
    (λ y. y.6.closes.makes.about ∙ z.2.1.makes.about)
    z.3)
    k

tries_about : {X : Type 0} (old new : History) (n : SessionNo) (first : Bool) (server : ServerNo) (now : ℕ) (m : MethodKind) (net net' : NetState) (held : Option RestedNow) (c : Connected X)
    → TriesFor old new n first server now m net net' held c → new.about ≡ old.about
tries_about old new n first server now m net net' None c k = ⊎_elim
    (λ a. rested_about a.0 new n a.1 now m net net' c a.4 ∙ (one_seat old a.0 n first (shown a.1) a.2).seat.makes.makes.about)
    (λ b. opened_about b.0 new n server m net net' c b.2 ∙ (none_seat old b.0 n first b.1).makes.makes.about)
    k
tries_about old new n first server now m net net' (Some r) c k = rested_about old new n r now m net net' c k.1

pub reached_abouts : {X : Type 0} (olds news : List History) (n : SessionNo) (first : Bool) (server : ServerNo) (now : ℕ) (m : MethodKind) (net net' : NetState) (held : Option RestedNow) (c : Connected X)
    → ConnectsTo olds news n first server now m net net' held c → abouts news ≡ abouts olds
reached_abouts olds news n first server now m net net' held c k =
    ap abouts k.seats ∙ abouts_set server.0 olds k.old k.new k.was (tries_about k.old k.new n first server now m net net' held c k.tries)

-- the connection on which an exchange began is its session's
begun_rested : (mid new : History) (n : SessionNo) (r : RestedNow) (now : ℕ) (m : MethodKind) (net net' : NetState) (busy : BusyNow)
    → new ≡ mid → BeginsProbed r now m net net' busy → HasConn mid n r.id → HasConn new n busy.id
begun_rested mid new n r now m net net' busy same k has =
    subst (λ (h : History). HasConn h n busy.id) (sym same) (subst (λ (i : ConnId). HasConn mid n i) (sym (probed_id r now m net net' busy k).0) has)

one_has : (old new : History) (n : SessionNo) (first : Bool) (v : Shown) → FindsOne old new n first v → HasConn new n v.face.id
one_has old new n first v f = ⊎_elim (λ a. has_own old new n first v a) (λ b. has_over b.0 new n first v b.2) f

-- what the server's seat has for an exchange that begins
abbrev pub BegunAt : {X : Type 0} → History → SessionNo → ServerNo → Connected X → Type 0
BegunAt h n server (Begun busy fresh) = (busy.server.0 ≡ server.0) × HasConn h n busy.id
BegunAt h n server Dead = ⊤
BegunAt h n server Refused = ⊤

rested_begun : {X : Type 0} (mid new : History) (n : SessionNo) (server : ServerNo) (r : RestedNow) (now : ℕ) (m : MethodKind) (net net' : NetState) (c : Connected X)
    → r.server ≡ server → HasConn mid n r.id → TriesRested mid new n r now m net net' c → BegunAt new n server c
rested_begun mid new n server r now m net net' (Begun busy fresh) at has k =
    (ap (λ (s : ServerNo). s.0) ((probed_id r now m net net' busy k.2).1 ∙ at), begun_rested mid new n r now m net net' busy k.0 k.2 has)
rested_begun mid new n server r now m net net' Dead at has k = tt
rested_begun mid new n server r now m net net' Refused at has k = tt

new_begun : {X : Type 0} (mid new : History) (n : SessionNo) (server : ServerNo) (m : MethodKind) (net net' : NetState) (c : Connected X)
    → TriesNew mid new n server m net net' c → BegunAt new n server c
new_begun mid new n server m net net' (Begun busy fresh) k =
    let o = k.1 in (
      ap (λ (b : BusyNow). b.server.0) o.begins.1,
      subst (λ (i : ConnId). HasConn new n i) (sym (ap (λ (b : BusyNow). b.id) o.begins.1)) (has_new mid new n o.id o.opens),
    )
new_begun mid new n server m net net' Dead k = tt
new_begun mid new n server m net net' Refused k = tt

tries_begun : {X : Type 0} (olds : List History) (old new : History) (n : SessionNo) (first : Bool) (server : ServerNo) (now : ℕ) (m : MethodKind) (net net' : NetState) (held : Option RestedNow) (c : Connected X)
    → slice_get olds server.0 ≡ Some old → old.about.server ≡ server → HoldsTo olds n server held → TriesFor old new n first server now m net net' held c → BegunAt new n server c
tries_begun olds old new n first server now m net net' None c there here has k = ⊎_elim
    (λ a. let at = one_seat old a.0 n first (shown a.1) a.2 in
    rested_begun a.0 new n server a.1 now m net net' c (at.server ∙ here) (one_has old a.0 n first (shown a.1) a.2) a.4)
    (λ b. new_begun b.0 new n server m net net' c b.2)
    k
tries_begun olds old new n first server now m net net' (Some r) c there here has k =
    let h = has.1.0 in
    let same : Some h ≡ Some old = sym has.1.1 ∙ (ap (λ (s : ServerNo). slice_get olds s.0) has.0 ∙ there) in
    rested_begun old new n server r now m net net' c has.0 (subst (λ (q : History). HasConn q n r.id) (some_same h old same) has.1.2) k.1

begun_news : {X : Type 0} (olds : List History) (old new : History) (n : SessionNo) (server : ServerNo) (c : Connected X)
    → slice_get olds server.0 ≡ Some old → BegunAt new n server c → HasBegun (slice_set olds server.0 new) n server c
begun_news olds old new n server (Begun busy fresh) there k =
    (k.0, (new, subst (λ (j : ℕ). slice_get (slice_set olds server.0 new) j ≡ Some new) (sym k.0) (seat_set server.0 olds old new there), k.1))
begun_news olds old new n server Dead there k = tt
begun_news olds old new n server Refused there k = tt

pub reached_begun : {X : Type 0} (olds news : List History) (n : SessionNo) (first : Bool) (server : ServerNo) (now : ℕ) (m : MethodKind) (net net' : NetState) (held : Option RestedNow) (c : Connected X)
    → AreNumbered 0 olds → HoldsTo olds n server held → ConnectsTo olds news n first server now m net net' held c → HasBegun news n server c
reached_begun olds news n first server now m net net' held c are has k =
    let here : k.old.about.server ≡ server = server_same k.old.about.server server (numbered_here 0 server.0 olds k.old k.was are ∙ omega arith) in
    subst (λ (hs : List History). HasBegun hs n server c) (sym k.seats)
    (begun_news olds k.old k.new n server c k.was (tries_begun olds k.old k.new n first server now m net net' held c k.was here has k.tries))

-- what the session holds is at the server's seat
pub held_has : (olds : List History) (n : SessionNo) (server : ServerNo) (held : Option RestedNow) (old : History) → slice_get olds server.0 ≡ Some old → HoldsTo olds n server held
    → IfSome held (λ r. HasConn old n r.id)
held_has olds n server None old there has = tt
held_has olds n server (Some r) old there has =
    let h = has.1.0 in
    let same : Some h ≡ Some old = sym has.1.1 ∙ (ap (λ (s : ServerNo). slice_get olds s.0) has.0 ∙ there) in
    subst (λ (q : History). HasConn q n r.id) (some_same h old same) has.1.2

-- a connection whose exchange passed
settled_just : (old new : History) (n : SessionNo) (b : BusyNow) (net net' : NetState) (q : Option RestedNow) → HasJust old n (Some (Exchanging b)) → SettlesAs old new n (rested_of b) net net' q → HasJust new n (resting q)
settled_just old new n b net net' (Some r) just k =
    subst (λ (h : History). HasJust h n (Some (Resting r))) (sym k.2)
    (subst (λ (x : RestedNow). HasJust old n (Some (Resting x))) (sym k.1) (just.0, just.1, λ ne. absurd (ne k.0)))
settled_just old new n b net net' None just k =
    let v = shown (rested_of b) in ⊎_elim
    (λ p. parks_just old new n p.0 v (face_of b.id just.0) p.1 refl just.1)
    (λ x. let mid = x.0 in
    let g = refused_just old mid n v x.1 (face_of b.id just.0) x.3 refl just.1 in
    let ids : x.2.id ≡ g.0.id = ap (λ (s : Shown). s.face.id) x.5 ∙ sym g.1 in
    closes_just mid new n g.0 (subst (λ (i : ConnId). Closes mid new n i) ids x.6.closes) g.2)
    k.1

settled_about : (old new : History) (n : SessionNo) (b : BusyNow) (net net' : NetState) (q : Option RestedNow) → SettlesAs old new n (rested_of b) net net' q → StandsInOneHistory old → (new.about ≡ old.about) × StandsInOneHistory new
settled_about old new n b net net' (Some r) k one = (ap (λ (h : History). h.about) k.2, subst StandsInOneHistory (sym k.2) one)
settled_about old new n b net net' None k one =
    let v = shown (rested_of b) in ⊎_elim
    (λ p. (p.1.makes.makes.about, p.1.makes.makes.one))
    (λ x. let ids : x.2.id ≡ v.face.id = ap (λ (s : Shown). s.face.id) x.5 in
    let e = refused_end old x.0 new n v x.1 x.3 (subst (λ (i : ConnId). Closes x.0 new n i) ids x.6.closes) in
    (e.seat.makes.makes.about, e.seat.makes.makes.one))
    k.1

settled_at : (old new : History) (n : SessionNo) (b : BusyNow) (net net' : NetState) (q : Option RestedNow) → SettlesAs old new n (rested_of b) net net' q → IsAt b.server.0 (resting q)
settled_at old new n b net net' (Some r) k = ap (λ (x : RestedNow). x.server.0) k.1
settled_at old new n b net net' None k = tt

settled_on : (t : ThreadNo) (old new : History) (n : SessionNo) (b : BusyNow) (net net' : NetState) (q : Option RestedNow) → SettlesAs old new n (rested_of b) net net' q → ConnOnLoop t (resting q)
settled_on t old new n b net net' (Some r) k = ap (λ (x : RestedNow). x.link.on_loop) k.1
settled_on t old new n b net net' None k = tt

settled_never : (old new : History) (n : SessionNo) (b : BusyNow) (net net' : NetState) (q : Option RestedNow) → SettlesAs old new n (rested_of b) net net' q → RestsNever (resting q) new
settled_never old new n b net net' (Some r) k = ap (λ (h : History). h.about.rules.mode) k.2 ∙ k.0
settled_never old new n b net net' None k = tt

settled_loop : (old new : History) (n : SessionNo) (r : RestedNow) (net net' : NetState) (q : Option RestedNow) → SettlesAs old new n r net net' q → net'.loop_no ≡ net.loop_no
settled_loop old new n r net net' (Some x) k = ap (λ (s : NetState). s.loop_no) k.3
settled_loop old new n r net net' None k = ⊎_elim
    (λ p. ap (λ (s : NetState). s.loop_no) p.2)
    (λ x. closed_loop x.0 new n x.2.id net net' x.2.link x.6)
    k.1

pub settles_loop : (olds news : List History) (n : SessionNo) (r : RestedNow) (net net' : NetState) (q : Option RestedNow) → Settles olds news n r net net' q → net'.loop_no ≡ net.loop_no
settles_loop olds news n r net net' q k = settled_loop k.old k.new n r net net' q k.settles

pub rests_around : (t : ThreadNo) (olds news : List History) (n : SessionNo) (b : BusyNow) (net net' : NetState) (q : Option RestedNow) → RestsAs olds news n b net net' q
    → HasAround t n (Some (Exchanging b)) olds → HasAround t n (resting q) news
rests_around t olds news n b net net' q k a = ⊎_elim
    (λ s. let x = s.3 in
    let j = b.server.0 in
    let one = one_here t n (Some (Exchanging b)) j olds x.old a x.was in
    let just = just_here t n (Some (Exchanging b)) j olds x.old a x.was refl in
    let is = settled_about x.old x.new n b s.0 net' q x.settles one in
    subst (HasAround t n (resting q)) (sym x.seats)
    (around_set t n (Some (Exchanging b)) (resting q) j olds x.old x.new x.was is.0 is.1 refl (settled_at x.old x.new n b s.0 net' q x.settles)
    (settled_just x.old x.new n b s.0 net' q just x.settles) (settled_on t x.old x.new n b s.0 net' q x.settles) (settled_never x.old x.new n b s.0 net' q x.settles) a))
    (λ c. subst (λ (o : Option RestedNow). HasAround t n (resting o) news) (sym c.2) (busy_closed t n b olds news net net' c.3 a))
    k

pub rests_abouts : (olds news : List History) (n : SessionNo) (b : BusyNow) (net net' : NetState) (q : Option RestedNow) → AtSeat olds b.server.0 (λ h. StandsInOneHistory h) → RestsAs olds news n b net net' q → abouts news ≡ abouts olds
rests_abouts olds news n b net net' q one k = ⊎_elim
    (λ s. let x = s.3 in ap abouts x.seats ∙ abouts_set b.server.0 olds x.old x.new x.was
    (settled_about x.old x.new n b s.0 net' q x.settles (subst StandsInOneHistory (some_same one.0 x.old (sym one.1 ∙ x.was)) one.2)).0)
    (λ c. busy_abouts b.server.0 n b.id b.link olds news net net' c.3)
    k

pub rests_loop : (olds news : List History) (n : SessionNo) (b : BusyNow) (net net' : NetState) (q : Option RestedNow) → RestsAs olds news n b net net' q → net'.loop_no ≡ net.loop_no
rests_loop olds news n b net net' q k = ⊎_elim
    (λ s. settles_loop olds news n (rested_of b) s.0 net' q s.3 ∙ ap (λ (x : NetState). x.loop_no) s.1.0)
    (λ c. busy_loop b.server.0 n b.id b.link olds news net net' c.3)
    k

-- what rests with the session is at its seat
settled_held : (olds : List History) (old new : History) (n : SessionNo) (b : BusyNow) (net net' : NetState) (q : Option RestedNow) → slice_get olds b.server.0 ≡ Some old → HasConn old n b.id
    → SettlesAs old new n (rested_of b) net net' q → HasHeld (slice_set olds b.server.0 new) n q
settled_held olds old new n b net net' None there has k = tt
settled_held olds old new n b net net' (Some r) there has k = (
  new,
  subst (λ (x : RestedNow). slice_get (slice_set olds b.server.0 new) x.server.0 ≡ Some new) (sym k.1) (seat_set b.server.0 olds old new there),
  subst (λ (h : History). HasConn h n r.id) (sym k.2) (subst (λ (x : RestedNow). HasConn old n x.id) (sym k.1) has),
)

pub rests_held : (olds news : List History) (n : SessionNo) (b : BusyNow) (net net' : NetState) (q : Option RestedNow) → AtSeat olds b.server.0 (λ h. HasConn h n b.id) → RestsAs olds news n b net net' q → HasHeld news n q
rests_held olds news n b net net' q has k = ⊎_elim
    (λ s. let x = s.3 in subst (λ (hs : List History). HasHeld hs n q) (sym x.seats)
    (settled_held olds x.old x.new n b s.0 net' q x.was (subst (λ (h : History). HasConn h n b.id) (some_same has.0 x.old (sym has.1 ∙ x.was)) has.2) x.settles))
    (λ c. subst (λ (o : Option RestedNow). HasHeld news n o) (sym c.2) tt)
    k

-- the exchange that begins is a new one
begun_new : (p : RestedNow) (m : MethodKind) (loop : ℕ) (b : BusyNow) → b ≡ begun p m loop → b.exchange ≡ new_exchange m b.link.sent_count b.link.taken_count
begun_new p m loop b e = subst (λ (x : BusyNow). x.exchange ≡ new_exchange m x.link.sent_count x.link.taken_count) (sym e) refl

rested_new : {X : Type 0} (old new : History) (n : SessionNo) (r : RestedNow) (now : ℕ) (m : MethodKind) (net net' : NetState) (c : Connected X)
    → TriesRested old new n r now m net net' c → BeginsNew m c
rested_new old new n r now m net net' (Begun busy fresh) k = begun_new k.2.0 m net.loop_no busy k.2.2.1
rested_new old new n r now m net net' Dead k = tt
rested_new old new n r now m net net' Refused k = tt

opened_new : {X : Type 0} (old new : History) (n : SessionNo) (server : ServerNo) (m : MethodKind) (net net' : NetState) (c : Connected X)
    → TriesNew old new n server m net net' c → BeginsNew m c
opened_new old new n server m net net' (Begun busy fresh) k = let o = k.1 in begun_new (first_rested o.link o.id server) m o.net.loop_no busy o.begins.1
opened_new old new n server m net net' Dead k = tt
opened_new old new n server m net net' Refused k = tt

tries_new : {X : Type 0} (old new : History) (n : SessionNo) (first : Bool) (server : ServerNo) (now : ℕ) (m : MethodKind) (net net' : NetState) (held : Option RestedNow) (c : Connected X)
    → TriesFor old new n first server now m net net' held c → BeginsNew m c
tries_new old new n first server now m net net' None c k = ⊎_elim
    (λ a. rested_new a.0 new n a.1 now m net net' c a.4)
    (λ b. opened_new b.0 new n server m net net' c b.2)
    k
tries_new old new n first server now m net net' (Some r) c k = rested_new old new n r now m net net' c k.1

pub reached_new : {X : Type 0} (olds news : List History) (n : SessionNo) (first : Bool) (server : ServerNo) (now : ℕ) (m : MethodKind) (net net' : NetState) (held : Option RestedNow) (c : Connected X)
    → ConnectsTo olds news n first server now m net net' held c → BeginsNew m c
reached_new olds news n first server now m net net' held c k = tries_new k.old k.new n first server now m net net' held c k.tries
