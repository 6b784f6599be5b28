-- At the end of a course, where nothing is left and each buried link is told: the records are true, and their ranges tile.
use Rattle.std.proofs.Common.{◌≡◌, ⊎_elim, inl, inr, ℕ, Bool, true, false, List, [], length, refl, sym, ap, ◌∙◌, subst, Option, Some, None, ◌≤◌, IsSome}
use Rattle.std.specs.Prelude.{slice_get, IfSome, All, Contains}
use Rattle.std.proofs.lemmas.List.Elements.{All-weaker, All-contains_itself}
use Rattle.hx_base.specs.declared.numbers.ConnId.{ConnId}
use Rattle.hx_base.specs.declared.numbers.PlaceNo.{PlaceNo}
use Rattle.hx_base.specs.declared.numbers.ServerNo.{ServerNo}
use Rattle.hx_base.specs.declared.numbers.SessionNo.{SessionNo}
use Rattle.hx_base.specs.declared.numbers.ThreadNo.{ThreadNo}
use Rattle.hx_base.specs.declared.what.LinkTold.{LinkTold}
use Rattle.hx_base.specs.declared.what.What.{What}
use Rattle.hx_conn.specs.WhatTold.{told_of, what_of_link}
use Rattle.hx_link.specs.Nets.{DialTold, NetState}
use Rattle.hx_link.specs.Told.{LinkState}
use Rattle.hx_pool.specs.History.{table_after}
use Rattle.hx_pool.specs.SeatView.{History}
use Rattle.hx_pool.specs.Table.{Table, HeldBy, IdleAt, Closed}
use Rattle.hx_record.specs.Carriage.{client_carriage, conn_carriage}
use Rattle.hx_record.specs.Tiles.{TilesClient, TilesConn}
use Rattle.hx_record.proofs.Following.{conn_tiles}
use Rattle.hx_record.specs.Truth.{HasRanges, IsTruePassed, IsTrueCut, IsTrueOwn}
use Rattle.hx_record.specs.declared.bytes.ClientBytes.{ClientBytes}
use Rattle.hx_record.specs.declared.bytes.ConnBytes.{ConnBytes}
use Rattle.hx_record.specs.declared.served.Carried.{Carried}
use Rattle.hx_record.specs.declared.served.CutCause.{CutCause}
use Rattle.hx_record.specs.declared.served.Kind.{Kind}
use Rattle.hx_record.specs.declared.served.Kind.TheVariants as kind
use Rattle.hx_record.specs.declared.served.Served.{Served}
use Rattle.hx_record.specs.declared.served.Told.{Told}
use Rattle.hx_record.specs.declared.served.Told.TheVariants as line
use Rattle.hx_script.specs.TrueTranscript.{Ends, HasClient, HasConn, IsTrueKind, IsTrueRecord}
use Rattle.hx_script.specs.declared.transcript.Transcript.{Transcript}
use Rattle.hx_connecting.specs.Sessions.{SessionNow}
use Rattle.hx_session.specs.Records.{carriage_of}
use Rattle.hx_worker.specs.Workers.{WorkerNow, HasSeats, session_of}
use Rattle.hx_course.specs.Courses.{KeepsCourse}
use Rattle.hx_course.specs.Endings.{TellsClient, TellsConn, TellsGraves, IsEmptied}
use Rattle.hx_course.specs.Graves.{Grave, OfClient, grave}
use Rattle.hx_course.specs.Places.{ClientIs, IsInGrave, ConnIs, IsHeld, IsAtRest}
use Rattle.hx_course.proofs.ConnLines.{is_some, some_is_there}
use Rattle.hx_course.proofs.ConnLemmas.{held_in}
use Rattle.hx_course.proofs.Numbers.{some_is}
use Rattle.hx_course.specs.Truths.{left_open, WhereBoth, IsTrueOpen, IsTrueEnded, PassedNow, CutNow, OwnNow, IsTrueNow}

-- ---- what the links tell

told_both : (a b : Option (List ℕ)) (sent taken : List ℕ) (ended : Bool) → a ≡ Some sent → b ≡ Some taken → told_of a b ended ≡ Some (record { sent = sent; taken = taken; ended = ended })
told_both a b sent taken ended e f = ap (λ (o : Option (List ℕ)). told_of o b ended) e ∙ ap (λ (o : Option (List ℕ)). told_of (Some sent) o ended) f

abbrev client_tells : LinkState → ClientBytes → LinkTold
client_tells l c = record { sent = c.gave; taken = c.took; ended = l.told_end }

abbrev conn_tells : LinkState → ConnBytes → LinkTold
conn_tells l c = record { sent = c.sent; taken = c.took; ended = l.told_end }

both_at : (o p : Option LinkTold) (x y : LinkTold) (P : LinkTold → LinkTold → Type 0) → o ≡ Some x → p ≡ Some y → IfSome o (λ v. IfSome p (λ w. P v w)) → P x y
both_at o p x y P e f t =
    subst (λ (q : Option LinkTold). IfSome q (λ w. P x w)) f (subst (λ (q : Option LinkTold). IfSome q (λ v. IfSome p (λ w. P v w))) e t)

-- a passed record that leans on no end is true whatever end is told
ranges_with : (r : Served) (c : Carried) (x y : LinkTold) (e : Bool) → HasRanges r c (left_open x) (left_open y) → HasRanges r c (left_open x) (record { taken = y.taken; sent = y.sent; ended = e })
ranges_with r c x y e h = record { first = h.first; ask = h.ask; gave = h.gave; sent = h.sent; took = h.took }

not_ended : false ≡ true → ⊥
not_ended e = cc

open_with : (r : Served) (c : Carried) (x y : LinkTold) (e : Bool) → IsTrueOpen r c x y → IsTruePassed r c (left_open x) (record { taken = y.taken; sent = y.sent; ended = e })
open_with r c x y e p = record {
  ranges = ranges_with r c x y e p.ranges;
  method = p.method;
  ask = p.ask;
  sent = p.sent;
  answer = (p.answer.0, p.answer.1, p.answer.2, λ runs. absurd (not_ended (p.answer.3 runs).0));
  gave = p.gave;
  closing = p.closing;
  before = p.before;
}

-- ---- nothing is left

none_there : (ss : List SessionNow) (n : ℕ) (s : SessionNow) → ss ≡ [] → session_of ss n ≡ Some s → ⊥
none_there ss n s e f = let no : None ≡ Some s = sym (ap (λ (l : List SessionNow). session_of l n) e) ∙ f in cc

module _ (w : WorkerNow) (net : NetState) (graves : List Grave) (t : Transcript) (ends : Ends) (keeps : KeepsCourse w net t.records graves) (empty : IsEmptied w) (tells : TellsGraves graves t ends) where
  client_buried : (u : ThreadNo) (n : SessionNo) (l : LinkState) → ClientIs w.sessions graves u n l → Contains graves (grave (OfClient u n) l)
  client_buried u n l (inl c) = absurd (none_there w.sessions n.0 c.session empty.sessions c.there)
  client_buried u n l (inr g) = g

  conn_buried : (server : _) (id : _) (v : What) → ConnIs w.sessions w.seats graves server id v → IsInGrave graves server id v
  conn_buried server id v (inl h) = absurd (none_there w.sessions h.session.number.0 h.session empty.sessions h.there)
  conn_buried server id v (inr (inl r)) = absurd (empty.rests server id v r)
  conn_buried server id v (inr (inr g)) = g

  has_client : (r : Served) (l : LinkState) (c : ClientBytes) → Contains t.clients c → TellsClient r.worker r.session l c → HasClient t r c
  has_client r l c there k = record { there = there; worker = k.worker; session = k.session }

  has_conn : (d : Carried) (l : LinkState) (c : ConnBytes) → Contains t.conns c → TellsConn ends d.server d.id l c → HasConn t d c
  has_conn d l c there k = record { there = there; server = k.server_is; id = k.id_is }

  client_told : (u : ThreadNo) (n : SessionNo) (l : LinkState) (c : ClientBytes) → TellsClient u n l c → (what_of_link l).told ≡ Some (client_tells l c)
  client_told u n l c k = told_both l.sent l.taken c.gave c.took l.told_end k.gave k.took

  conn_told : (server : _) (id : _) (l : LinkState) (v : What) (c : ConnBytes) → v ≡ what_of_link l → TellsConn ends server id l c → v.told ≡ Some (conn_tells l c)
  conn_told server id l v c e k = ap (λ (x : What). x.told) e ∙ told_both l.sent l.taken c.sent c.took l.told_end k.sent k.took

  passed_true : (r : Served) (d : Carried) → PassedNow w.sessions w.seats graves r d → IsTrueKind t ends r (kind.Passed d)
  passed_true r d p =
      let b = tells.clients r.worker r.session p.client (client_buried r.worker r.session p.client p.of_client) in
      let is_client = client_told r.worker r.session p.client b.0 b.2 in
      ⊎_elim
      (λ (o : ConnIs w.sessions w.seats graves d.server d.id p.conn × WhereBoth p.client p.conn (IsTrueOpen r d)).
      let g = conn_buried d.server d.id p.conn o.0 in
      let k = tells.conns d.server d.id g.link g.there in
      let is_true : IsTrueOpen r d (client_tells p.client b.0) (conn_tells g.link k.0) =
      both_at (what_of_link p.client).told p.conn.told (client_tells p.client b.0) (conn_tells g.link k.0) (IsTrueOpen r d) is_client (conn_told d.server d.id g.link p.conn k.0 g.tells k.2) o.1 in
      (b.0, has_client r p.client b.0 b.1 b.2, k.0, has_conn d g.link k.0 k.1 k.2, open_with r d (client_tells p.client b.0) (conn_tells g.link k.0) (ends d.server d.id) is_true))
      (λ (o : IsInGrave graves d.server d.id p.conn × WhereBoth p.client p.conn (IsTrueEnded r d)).
      let g = o.0 in
      let k = tells.conns d.server d.id g.link g.there in
      let is_true : IsTrueEnded r d (client_tells p.client b.0) (conn_tells g.link k.0) =
      both_at (what_of_link p.client).told p.conn.told (client_tells p.client b.0) (conn_tells g.link k.0) (IsTrueEnded r d) is_client (conn_told d.server d.id g.link p.conn k.0 g.tells k.2) o.1 in (
        b.0,
        has_client r p.client b.0 b.1 b.2,
        k.0,
        has_conn d g.link k.0 k.1 k.2,
        subst (λ (e : Bool). IsTruePassed r d (client_carriage b.0 false) (conn_carriage k.0 e)) (sym k.2.ended) is_true,
      ))
      p.stands

  cut_true : (r : Served) (d : Carried) (why : CutCause) → CutNow graves r d why → IsTrueKind t ends r (kind.Cut d why)
  cut_true r d why p =
      let b = tells.clients r.worker r.session p.client p.of_client in
      let g = p.of_conn in
      let k = tells.conns d.server d.id g.link g.there in
      let is_true : IsTrueCut r d why (client_carriage b.0 false) (conn_carriage k.0 g.link.told_end) =
      both_at (what_of_link p.client).told p.conn.told (client_tells p.client b.0) (conn_tells g.link k.0) (λ x y. IsTrueCut r d why (left_open x) (carriage_of y))
      (client_told r.worker r.session p.client b.0 b.2) (conn_told d.server d.id g.link p.conn k.0 g.tells k.2) p.is_true in
      (b.0, has_client r p.client b.0 b.1 b.2, k.0, has_conn d g.link k.0 k.1 k.2, subst (λ (e : Bool). IsTrueCut r d why (client_carriage b.0 false) (conn_carriage k.0 e)) (sym k.2.ended) is_true)

  own_true : (r : Served) (status : ℕ) → OwnNow t.records graves r status → IsTrueKind t ends r (kind.Own status)
  own_true r status p =
      let b = tells.clients r.worker r.session p.client p.of_client in
      let is_true : IsTrueOwn r status (client_carriage b.0 false) p.left.cause =
      subst (λ (q : Option LinkTold). IfSome q (λ x. IsTrueOwn r status (left_open x) p.left.cause)) (client_told r.worker r.session p.client b.0 b.2) p.is_true in
      (b.0, has_client r p.client b.0 b.1 b.2, p.left, (p.left_told, p.its_left), is_true)

  kind_true : (r : Served) (k : Kind) → IsTrueNow w.sessions w.seats t.records graves r k → IsTrueKind t ends r k
  kind_true r (kind.Passed d) p = passed_true r d p
  kind_true r (kind.Cut d why) p = cut_true r d why p
  kind_true r (kind.Own status) p = own_true r status p

  line_true : (x : Told) → Contains t.records x → IsTrueRecord t ends x
  line_true (line.Served r) c = kind_true r r.kind (keeps.truth r c)
  line_true (line.Left l) c = tt

  -- each record is true of the links that are told
  pub records_end : All (IsTrueRecord t ends) t.records
  records_end = All-weaker (Contains t.records) (IsTrueRecord t ends) line_true t.records (All-contains_itself t.records)

  client_tiles : (c : ClientBytes) → Contains t.clients c → TilesClient t.records c
  client_tiles c there =
      let g = tells.no_client c there in
      let k = g.2 in
      let gone = keeps.clients.buried c.worker c.session g.0 g.1 in
      let took : length c.took ≡ g.0.taken_count = subst (λ (o : Option (List ℕ)). IfSome o (λ b. length b ≡ g.0.taken_count)) k.took k.counted.taken in
      let gave : length c.gave ≡ g.0.sent_count = subst (λ (o : Option (List ℕ)). IfSome o (λ b. length b ≡ g.0.sent_count)) k.gave k.counted.sent in
      gone.tiled c (record { worker = refl; session = refl; took = took; gave = gave })

  -- the ranges of each client that is told tile its bytes
  pub clients_end : All (TilesClient t.records) t.clients
  clients_end = All-weaker (Contains t.clients) (TilesClient t.records) client_tiles t.clients (All-contains_itself t.clients)

  conn_tiled : (c : ConnBytes) → Contains t.conns c → TilesConn t.records c
  conn_tiled c there =
      let g = tells.no_conn c there in
      let told = conn_told c.server c.id g.0 (what_of_link g.0) c refl g.2 in
      let covers = (keeps.conns.buried c.server c.id g.0 g.1).1 (some_is_there (what_of_link g.0).told (conn_tells g.0 c) told) in
      conn_tiles t.records c covers.sent covers.took covers.count covers.covers

  -- the exchanges of each connection that is told tile its bytes
  pub conns_end : All (TilesConn t.records) t.conns
  conns_end = All-weaker (Contains t.conns) (TilesConn t.records) conn_tiled t.conns (All-contains_itself t.conns)

  -- each connection that was dialled is told
  pub dials_end : (dials : List DialTold) → net.dials ≡ Some dials → (d : DialTold) → Contains dials d → d.answered ≡ true → (c : ConnBytes) × Contains t.conns c × (c.server ≡ d.server) × (c.id ≡ d.id)
  dials_end dials told d there answered =
      let p = keeps.dials dials told d there answered in
      let g = conn_buried d.server d.id p.0 p.1 in
      let k = tells.conns d.server d.id g.link g.there in
      (k.0, k.1, k.2.server_is, k.2.id_is)

  -- and so is the client of each session
  pub sessions_end : (n : SessionNo) → 1 ≤ n.0 → n.0 ≤ w.last → (c : ClientBytes) × Contains t.clients c × (c.worker ≡ w.thread) × (c.session ≡ n)
  sessions_end n low high = ⊎_elim
      (λ (is : IsSome (session_of w.sessions n.0)). let s = is_some (session_of w.sessions n.0) is in absurd (none_there w.sessions n.0 s.0 empty.sessions s.1))
      (λ (b : (l : LinkState) × Contains graves (grave (OfClient w.thread n) l)). let k = tells.clients w.thread n b.0 b.1 in (k.0, k.1, k.2.worker, k.2.session))
      (keeps.owners.each n low high)

-- ---- places

both_closed : (T : Table) (i : ℕ) (place : PlaceNo) → T.conns i ≡ IdleAt place → T.conns i ≡ Closed → ⊥
both_closed T i place a b = let e = sym a ∙ b in cc

both_held : (T : Table) (i : ℕ) (u : ThreadNo) (m : SessionNo) (place : PlaceNo) → T.conns i ≡ IdleAt place → T.conns i ≡ HeldBy u m → ⊥
both_held T i u m place a b = let e = sym a ∙ b in cc

held_closed : (T : Table) (i : ℕ) (u : ThreadNo) (m : SessionNo) → T.conns i ≡ Closed → T.conns i ≡ HeldBy u m → ⊥
held_closed T i u m a b = let e = sym a ∙ b in cc

module _ (w : WorkerNow) (net : NetState) (records : List Told) (graves : List Grave) (seats : HasSeats w) (keeps : KeepsCourse w net records graves) (server : ServerNo) (id : ConnId) where
  held_there : (v : What) → (h : IsHeld w.sessions server id v) → (k : History) → slice_get w.seats server.0 ≡ Some k → (table_after k.seen).conns id.0 ≡ HeldBy k.about.thread h.session.number
  held_there v h k at =
      ap (λ (n : ConnId). (table_after k.seen).conns n.0) (sym h.number)
      ∙ held_in w.seats w.sessions seats.owns seats.one h.session h.conn h.there h.has k (ap (λ (n : ServerNo). slice_get w.seats n.0) h.to ∙ at)

  -- no connection is at two places
  pub places_apart : (u v : What) → (IsHeld w.sessions server id u → IsAtRest w.seats server id v → ⊥) × (IsHeld w.sessions server id u → IsInGrave graves server id v → ⊥)
      × (IsAtRest w.seats server id u → IsInGrave graves server id v → ⊥)
  places_apart u v = (
    λ h r. both_held (table_after r.seat.seen) id.0 r.seat.about.thread h.session.number r.place r.rests (held_there u h r.seat r.at),
    λ h g. let o = (keeps.conns.buried server id g.link g.there).0 in held_closed (table_after o.seat.seen) id.0 o.seat.about.thread h.session.number o.closed (held_there u h o.seat o.at),
    λ r g.
        let o = (keeps.conns.buried server id g.link g.there).0 in
        let same : o.seat ≡ r.seat = some_is o.seat r.seat (sym o.at ∙ r.at) in
        both_closed (table_after r.seat.seen) id.0 r.place r.rests (subst (λ (k : History). (table_after k.seen).conns id.0 ≡ Closed) same o.closed),
  )
