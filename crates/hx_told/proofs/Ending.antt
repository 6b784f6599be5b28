-- Each link that was buried in a course is told, and no other.
use Rattle.std.proofs.Common.{◌≡◌, ℕ, List, length, map, refl, sym, ap, ◌∙◌, subst, Option, Some, None, ⊎_elim}
use Rattle.std.specs.Prelude.{Contains}
use Rattle.std.specs.List.{AllZip}
use Rattle.std.proofs.lemmas.List.{length-map}
use Rattle.std.proofs.lemmas.List.Sorted.{Contains-permutation, IsPermutation-sym}
use Rattle.hx_base.specs.declared.numbers.ConnId.{ConnId}
use Rattle.hx_base.specs.declared.numbers.ServerNo.{ServerNo}
use Rattle.hx_base.specs.declared.numbers.SessionNo.{SessionNo}
use Rattle.hx_base.specs.declared.numbers.ThreadNo.{ThreadNo}
use Rattle.hx_link.specs.MemoryLinks.{MemoryLinkNow, state_of}
use Rattle.hx_link.specs.MemoryNets.{MemoryNetNow}
use Rattle.hx_link.specs.Told.{LinkState}
use Rattle.hx_record.specs.declared.bytes.ClientBytes.{ClientBytes}
use Rattle.hx_record.specs.declared.bytes.ConnBytes.{ConnBytes}
use Rattle.hx_record.specs.declared.served.Told.{Told}
use Rattle.hx_course.specs.Endings.{TellsClient, TellsConn}
use Rattle.hx_course.specs.Graves.{Owner, OfClient, OfConn, OfNobody, Grave, grave, links_of, AreBuried, TellsOwner}
use Rattle.hx_course.specs.Graves.{clients_of as sessions_in}
use Rattle.hx_course.specs.Lines.{lefts_of as ended_in_order}
use Rattle.hx_script.specs.PrintedForm.{Rises, ConnBefore}
use Rattle.hx_told.specs.Ends.{ends_of}
use Rattle.hx_told.specs.Links.{TellsBytes, clients_of, client_links, lefts_of, conn_of}
use Rattle.hx_told.specs.Places.{IsConnOf}
use Rattle.hx_told.specs.Telling.{TellsLinks}
use Rattle.hx_told.proofs.Each.{conn_told, conn_from}
use Rattle.hx_told.proofs.Dials.{ended_at}
use Rattle.hx_told.proofs.Owned.{IsOwned, Owns, all_fit, all_owned, all_lefts, all_clients, session_of_left, beside_left, beside_right}

nothing_told : {A : Type 0} (o : Option A) (x : A) → o ≡ Some x → o ≡ None → ⊥
nothing_told o x a b = cc

some_is : {A : Type 0} (a b : A) → Some a ≡ Some b → a ≡ b
some_is a b e = cc

conn_of_is : (server : ServerNo) (id : ConnId) (links : List MemoryLinkNow) (m : MemoryLinkNow) (l : LinkState) → m.state ≡ l → TellsBytes m
    → ends_of (Some links) server id ≡ m.state.told_end → TellsConn (ends_of (Some links)) server id l (conn_of (server.0, id.0) m)
conn_of_is server id links m l e b ended =
    subst (λ (x : LinkState). TellsConn (ends_of (Some links)) server id x (conn_of (server.0, id.0) m)) e
    (record { server_is = refl; id_is = refl; sent = b.sent; took = b.taken; ended = ended })

dialled_owner : (o : Owner) (l : LinkState) (d : ℕ × ℕ) → IsOwned o l → l.dial ≡ Some d → o ≡ OfConn (record { 0 = d.0 }) (record { 0 = d.1 })
dialled_owner (OfConn server id) l d own e =
    let same : (server.0, id.0) ≡ d = some_is (server.0, id.0) d (sym own ∙ e) in
    ap (λ (x : ℕ × ℕ). OfConn (record { 0 = x.0 }) (record { 0 = x.1 })) same
dialled_owner (OfClient t n) l d own e = absurd (nothing_told l.dial d e own)
dialled_owner OfNobody l d own e = absurd own

module _ (records : List Told) (net : MemoryNetNow) (clients : List ClientBytes) (conns : List ConnBytes) (graves : List Grave)
    (tells : TellsLinks records net clients conns) (buried : AreBuried graves net.state) (dials : (g : Grave) → Contains graves g → TellsOwner g.owner g.link)
    (lefts : sessions_in graves ≡ ended_in_order records) (rise : Rises ConnBefore conns) where
  same_links : map state_of tells.links ≡ links_of graves
  same_links =
      ⊎_elim
      (λ told. some_is (map state_of tells.links) (links_of graves) (sym tells.kept.buried ∙ told))
      (λ none. absurd (nothing_told net.state.buried (map state_of tells.links) tells.kept.buried none))
      buried

  sessions_are : sessions_in graves ≡ map session_of_left (lefts_of records)
  sessions_are = lefts ∙ sym (all_lefts records)

  each_owned : AllZip Owns graves tells.links
  each_owned =
      let as_many : length (sessions_in graves) ≡ length (client_links tells.links) =
      ap (λ (ps : List (ThreadNo × SessionNo)). length ps) sessions_are ∙ length-map (lefts_of records) session_of_left ∙ sym tells.each in
      all_owned graves tells.links (all_fit graves tells.links same_links dials tells.kept.bytes) as_many

  -- the link of a grave
  pub buried_link : (g : Grave) → Contains graves g → (m : MemoryLinkNow) × (m.state ≡ g.link) × TellsBytes m
  buried_link g there =
      let r = beside_left Owns graves tells.links each_owned g there in
      (r.0, r.2.state, r.2.bytes)

  pub clients_told : (u : ThreadNo) (n : SessionNo) (l : LinkState) → Contains graves (grave (OfClient u n) l) → (c : ClientBytes) × Contains clients c × TellsClient u n l c
  clients_told u n l there =
      let r = (all_clients graves tells.links (lefts_of records) each_owned sessions_are).0 u n l there in
      (r.0, Contains-permutation (clients_of (lefts_of records) (client_links tells.links)) clients r.0 tells.clients_are r.1, r.2)

  pub no_client_else : (c : ClientBytes) → Contains clients c → (l : LinkState) × Contains graves (grave (OfClient c.worker c.session) l) × TellsClient c.worker c.session l c
  no_client_else c there =
      let all : List ClientBytes = clients_of (lefts_of records) (client_links tells.links) in
      (all_clients graves tells.links (lefts_of records) each_owned sessions_are).1 c
      (Contains-permutation clients all c (IsPermutation-sym all clients tells.clients_are) there)

  pub conns_told : (server : ServerNo) (id : ConnId) (l : LinkState) → Contains graves (grave (OfConn server id) l)
      → (c : ConnBytes) × Contains conns c × TellsConn (ends_of net.links) server id l c
  conns_told server id l there =
      let r = beside_left Owns graves tells.links each_owned (grave (OfConn server id) l) there in
      let m : MemoryLinkNow = r.0 in
      let told = conn_of_is server id tells.links m l r.2.state r.2.bytes (ended_at records net clients conns tells rise server id m r.1 r.2.owner) in (
        conn_of (server.0, id.0) m,
        conn_told records net clients conns tells m (server.0, id.0) r.1 r.2.owner,
        subst (λ (o : Option (List MemoryLinkNow)). TellsConn (ends_of o) server id l (conn_of (server.0, id.0) m)) (sym tells.kept.links_are) told,
      )

  -- the connection of a link that was dialled has its grave
  grave_told : (d : ℕ × ℕ) (m : MemoryLinkNow) → Contains tells.links m → m.state.dial ≡ Some d
      → (l : LinkState) × Contains graves (grave (OfConn (record { 0 = d.0 }) (record { 0 = d.1 })) l)
      × TellsConn (ends_of net.links) (record { 0 = d.0 }) (record { 0 = d.1 }) l (conn_of d m)
  grave_told d m there e =
      let r = beside_right Owns graves tells.links each_owned m there in
      let server : ServerNo = record { 0 = d.0 } in let id : ConnId = record { 0 = d.1 } in
      let owner : r.0.owner ≡ OfConn server id = dialled_owner r.0.owner m.state d r.2.owner e in
      let told = conn_of_is server id tells.links m r.0.link r.2.state r.2.bytes (ended_at records net clients conns tells rise server id m there e) in (
        r.0.link,
        subst (λ (g : Grave). Contains graves g) (ap (λ (o : Owner). grave o r.0.link) owner) r.1,
        subst (λ (o : Option (List MemoryLinkNow)). TellsConn (ends_of o) server id r.0.link (conn_of d m)) (sym tells.kept.links_are) told,
      )

  pub no_conn_else : (c : ConnBytes) → Contains conns c → (l : LinkState) × Contains graves (grave (OfConn c.server c.id) l) × TellsConn (ends_of net.links) c.server c.id l c
  no_conn_else c there =
      let r : IsConnOf tells.links c = conn_from records net clients conns tells c there in
      subst (λ (x : ConnBytes). (l : LinkState) × Contains graves (grave (OfConn x.server x.id) l) × TellsConn (ends_of net.links) x.server x.id l x) (sym r.is)
      (grave_told r.dial r.link r.there r.dialled)
