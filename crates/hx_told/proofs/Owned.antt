-- Whose each buried link is, by what is told of them: as many clients' links were buried as sessions ended, so that each
-- link that was dialled is its connection's, and each other one a client's.
use Rattle.std.proofs.Common.{◌≡◌, ℕ, zero, suc, ◌<◌, ◌≤◌, List, [], ◌∷◌, ◌++◌, map, length, get_or, All, refl, sym, ap, ◌∙◌, subst, arith, Option, Some, None, ⊎_elim, inl, inr}
use Rattle.std.specs.Prelude.{◌⊎◌, Contains, IfSome}
use Rattle.std.specs.List.{AllZip}
use Rattle.std.proofs.lemmas.List.Elements.{All-head, All-tail}
use Rattle.hx_base.specs.declared.numbers.SessionNo.{SessionNo}
use Rattle.hx_base.specs.declared.numbers.ThreadNo.{ThreadNo}
use Rattle.hx_link.specs.MemoryLinks.{MemoryLinkNow, state_of}
use Rattle.hx_link.specs.Nets.{TellsDial}
use Rattle.hx_link.specs.Told.{LinkState}
use Rattle.hx_record.specs.declared.bytes.ClientBytes.{ClientBytes}
use Rattle.hx_record.specs.declared.served.Left.{Left}
use Rattle.hx_record.specs.declared.served.Told.{Told}
use Rattle.hx_record.specs.declared.served.Told.TheVariants as told
use Rattle.hx_course.specs.Endings.{TellsClient}
use Rattle.hx_course.specs.Graves.{Owner, OfClient, OfConn, OfNobody, Grave, grave, links_of, TellsOwner}
use Rattle.hx_course.specs.Graves.{client_of as session_in, clients_of as sessions_in}
use Rattle.hx_course.specs.Lines.{lefts_of as ended_in_order}
use Rattle.hx_told.specs.Links.{TellsBytes, client_of, clients_of, client_links, lefts_of}
use Rattle.hx_told.proofs.Clients.{first_client, no_client, no_links}
use Rattle.hx_told.proofs.Each.{contains_first, contains_next}

-- ---- places

at_place : {A : Type 0} (x : A) (xs : List A) (y : A) (k : ℕ) → k < length (x ∷ xs) → get_or (x ∷ xs) k y ≡ y → (x ≡ y) ⊎ Contains xs y
at_place x xs y zero low e = inl e
at_place x xs y (suc k) low e = inr (k, omega arith, e)

pub first_or_later : {A : Type 0} (x : A) (xs : List A) (y : A) → Contains (x ∷ xs) y → (x ≡ y) ⊎ Contains xs y
first_or_later x xs y h = at_place x xs y h.0 h.1 h.2

pub none_there : {A : Type 0} (y : A) → Contains [] y → ⊥
none_there y h = omega (arith, h.1)

-- what stands at the same place of the other list
pub beside_left : {A B : Type 0} (R : A → B → Type 0) (xs : List A) (ys : List B) → AllZip R xs ys → (x : A) → Contains xs x → (y : B) × Contains ys y × R x y
beside_left R [] ys z x h = absurd (none_there x h)
beside_left R (a ∷ xs) [] z x h = absurd z
beside_left {B = B} R (a ∷ xs) (b ∷ ys) z x h =
    ⊎_elim (λ here. (b, contains_first b ys, subst (λ c. R c b) here z.0))
    (λ later. let r = beside_left R xs ys z.1 x later in (r.0, contains_next b ys r.0 r.1, r.2))
    (first_or_later a xs x h)

pub beside_right : {A B : Type 0} (R : A → B → Type 0) (xs : List A) (ys : List B) → AllZip R xs ys → (y : B) → Contains ys y → (x : A) × Contains xs x × R x y
beside_right R xs [] z y h = absurd (none_there y h)
beside_right R [] (b ∷ ys) z y h = absurd z
beside_right R (a ∷ xs) (b ∷ ys) z y h =
    ⊎_elim (λ here. (a, contains_first a xs, subst (λ c. R a c) here z.0))
    (λ later. let r = beside_right R xs ys z.1 y later in (r.0, contains_next a xs r.0 r.1, r.2))
    (first_or_later b ys y h)

-- ---- owners

-- the link is the grave's, tells no other dial than its owner's, and tells its bytes
pub record Fits (g : Grave) (m : MemoryLinkNow) : Type 0 where
  pub state : m.state ≡ g.link
  pub owner : TellsOwner g.owner m.state
  pub bytes : TellsBytes m

-- a connection's link tells its dial, a client's none, and nobody else's is there
abbrev pub IsOwned : Owner → LinkState → Type 0
IsOwned (OfConn server id) l = l.dial ≡ Some (server.0, id.0)
IsOwned (OfClient t n) l = l.dial ≡ None
IsOwned OfNobody l = ⊥

pub record Owns (g : Grave) (m : MemoryLinkNow) : Type 0 where
  pub state : m.state ≡ g.link
  pub owner : IsOwned g.owner m.state
  pub bytes : TellsBytes m

pub all_fit : (graves : List Grave) (links : List MemoryLinkNow) → map state_of links ≡ links_of graves → ((g : Grave) → Contains graves g → TellsOwner g.owner g.link)
    → All TellsBytes links → AllZip Fits graves links
all_fit [] [] e d b = tt
all_fit [] (m ∷ links) e d b = absurd (cc)
all_fit (g ∷ graves) [] e d b = absurd (cc)
all_fit (g ∷ graves) (m ∷ links) e d b =
    let state : m.state ≡ g.link = cc in
    let rest : map state_of links ≡ links_of graves = cc in (
      record {
        state = state;
        owner = subst (TellsOwner g.owner) (sym state) (d g (contains_first g graves));
        bytes = All-head TellsBytes m links b;
      },
      all_fit graves links rest (λ x there. d x (contains_next g graves x there)) (All-tail TellsBytes m links b),
    )

-- ---- no client's link is nobody's

any_dial : (links : List MemoryLinkNow) (m : MemoryLinkNow) (o : Option (ℕ × ℕ)) → m.state.dial ≡ o → length (client_links links) ≤ length (client_links (m ∷ links))
any_dial links m None is = omega (arith, ap (λ (ms : List MemoryLinkNow). length ms) (first_client links m is))
any_dial links m (Some d) is = omega (arith, ap (λ (ms : List MemoryLinkNow). length ms) (no_client links m d is))

one_fewer : (o : Owner) (graves : List Grave) (m : MemoryLinkNow) (links : List MemoryLinkNow) → TellsOwner o m.state → length (sessions_in graves) ≤ length (client_links links)
    → length (session_in o ++ sessions_in graves) ≤ length (client_links (m ∷ links))
one_fewer (OfClient t n) graves m links d h = omega (arith, h, ap (λ (ms : List MemoryLinkNow). length ms) (first_client links m d))
one_fewer (OfConn server id) graves m links d h = omega (arith, h, any_dial links m m.state.dial refl)
one_fewer OfNobody graves m links d h = omega (arith, h, any_dial links m m.state.dial refl)

fewer : (graves : List Grave) (links : List MemoryLinkNow) → AllZip Fits graves links → length (sessions_in graves) ≤ length (client_links links)
fewer [] links z = omega arith
fewer (g ∷ graves) [] z = absurd z
fewer (g ∷ graves) (m ∷ links) z = one_fewer g.owner graves m links z.0.owner (fewer graves links z.1)

conn_owned : (server : _) (id : _) (graves : List Grave) (m : MemoryLinkNow) (links : List MemoryLinkNow) (o : Option (ℕ × ℕ)) → m.state.dial ≡ o → TellsDial server id m.state
    → length (sessions_in graves) ≤ length (client_links links) → length (sessions_in graves) ≡ length (client_links (m ∷ links))
    → (m.state.dial ≡ Some (server.0, id.0)) × (length (sessions_in graves) ≡ length (client_links links))
conn_owned server id graves m links None is d h e = absurd (omega (arith, h, e, ap (λ (ms : List MemoryLinkNow). length ms) (first_client links m is)))
conn_owned server id graves m links (Some x) is d h e =
    let its : x ≡ (server.0, id.0) = subst (λ (o : Option (ℕ × ℕ)). IfSome o (λ y. y ≡ (server.0, id.0))) is d in
    (is ∙ ap Some its, e ∙ ap (λ (ms : List MemoryLinkNow). length ms) (no_client links m x is))

one_owned : (o : Owner) (graves : List Grave) (m : MemoryLinkNow) (links : List MemoryLinkNow) → TellsOwner o m.state → length (sessions_in graves) ≤ length (client_links links)
    → length (session_in o ++ sessions_in graves) ≡ length (client_links (m ∷ links)) → IsOwned o m.state × (length (sessions_in graves) ≡ length (client_links links))
one_owned (OfClient t n) graves m links d h e = (d, omega (arith, e, ap (λ (ms : List MemoryLinkNow). length ms) (first_client links m d)))
one_owned (OfConn server id) graves m links d h e = conn_owned server id graves m links m.state.dial refl d h e
one_owned OfNobody graves m links d h e = absurd (omega (arith, h, e, ap (λ (ms : List MemoryLinkNow). length ms) (first_client links m d)))

-- where as many clients' links were buried as sessions ended, each link has its owner
pub all_owned : (graves : List Grave) (links : List MemoryLinkNow) → AllZip Fits graves links → length (sessions_in graves) ≡ length (client_links links) → AllZip Owns graves links
all_owned [] [] z e = tt
all_owned [] (m ∷ links) z e = absurd z
all_owned (g ∷ graves) [] z e = absurd z
all_owned (g ∷ graves) (m ∷ links) z e =
    let one = one_owned g.owner graves m links z.0.owner (fewer graves links z.1) e in
    (record { state = z.0.state; owner = one.0; bytes = z.0.bytes }, all_owned graves links z.1 one.1)

-- ---- clients

-- the session that a Left ends
abbrev pub session_of_left : Left → ThreadNo × SessionNo
session_of_left l = (l.worker, l.session)

left_sessions : (x : Told) (records : List Told) → map session_of_left (lefts_of records) ≡ ended_in_order records
    → map session_of_left (lefts_of (x ∷ records)) ≡ ended_in_order (x ∷ records)
left_sessions (told.Served r) records e = e
left_sessions (told.Left l) records e = ap (λ (ps : List (ThreadNo × SessionNo)). (l.worker, l.session) ∷ ps) e

pub all_lefts : (records : List Told) → map session_of_left (lefts_of records) ≡ ended_in_order records
all_lefts [] = refl
all_lefts (x ∷ records) = left_sessions x records (all_lefts records)

-- each client's link that was buried is that of a client
abbrev pub HaveClients : List Grave → List MemoryLinkNow → List Left → Type 0
HaveClients graves links lefts = (u : ThreadNo) (n : SessionNo) (l : LinkState) → Contains graves (grave (OfClient u n) l)
    → (c : ClientBytes) × Contains (clients_of lefts (client_links links)) c × TellsClient u n l c

-- and each client's link was buried
abbrev pub AreClients : List Grave → List MemoryLinkNow → List Left → Type 0
AreClients graves links lefts = (c : ClientBytes) → Contains (clients_of lefts (client_links links)) c
    → (l : LinkState) × Contains graves (grave (OfClient c.worker c.session) l) × TellsClient c.worker c.session l c

client_is : (u : ThreadNo) (n : SessionNo) (l : LinkState) (left : Left) (m : MemoryLinkNow) → left.worker ≡ u → left.session ≡ n → m.state ≡ l → TellsBytes m
    → TellsClient u n l (client_of left m)
client_is u n l left m w s e b =
    subst (λ (x : LinkState). TellsClient u n x (client_of left m)) e (record { worker = w; session = s; took = b.taken; gave = b.sent; counted = b.counted })

first_pair : {A B : Type 0} (a b : A) (x y : B) (ps qs : List (A × B)) → (a, x) ∷ ps ≡ (b, y) ∷ qs → (b ≡ a) × (y ≡ x) × (ps ≡ qs)
first_pair {A = A} {B = B} a b x y ps qs e =
    let same : ◌≡◌ {A = A × B} (a, x) (b, y) = cc in (ap (λ (p : A × B). p.0) (sym same), ap (λ (p : A × B). p.1) (sym same), cc)

module _ (g : Grave) (graves : List Grave) (m : MemoryLinkNow) (links : List MemoryLinkNow) (own : Owns g m) where
  -- a client's grave stands first
  client_more : (t : ThreadNo) (k : SessionNo) (left : Left) (lefts : List Left) → g.owner ≡ OfClient t k → left.worker ≡ t → left.session ≡ k
      → HaveClients graves links lefts → HaveClients (g ∷ graves) (m ∷ links) (left ∷ lefts)
  client_more t k left lefts is w s ih u n l there =
      let none : m.state.dial ≡ None = subst (λ (o : Owner). IsOwned o m.state) is own.owner in
      let more : clients_of (left ∷ lefts) (client_links (m ∷ links)) ≡ client_of left m ∷ clients_of lefts (client_links links) = ap (clients_of (left ∷ lefts)) (first_client links m none) in
      ⊎_elim
      (λ (here : g ≡ grave (OfClient u n) l).
      let owner : OfClient t k ≡ OfClient u n = sym is ∙ ap (λ (x : Grave). x.owner) here in
      let worker : t ≡ u = cc in let session : k ≡ n = cc in (
        client_of left m,
        subst (λ (cs : List ClientBytes). Contains cs (client_of left m)) (sym more) (contains_first (client_of left m) (clients_of lefts (client_links links))),
        client_is u n l left m (w ∙ worker) (s ∙ session) (own.state ∙ ap (λ (x : Grave). x.link) here) own.bytes,
      ))
      (λ later. let r = ih u n l later in (
        r.0,
        subst (λ (cs : List ClientBytes). Contains cs r.0) (sym more) (contains_next (client_of left m) (clients_of lefts (client_links links)) r.0 r.1),
        r.2,
      ))
      (first_or_later g graves (grave (OfClient u n) l) there)

  client_back : (t : ThreadNo) (k : SessionNo) (left : Left) (lefts : List Left) → g.owner ≡ OfClient t k → left.worker ≡ t → left.session ≡ k
      → AreClients graves links lefts → AreClients (g ∷ graves) (m ∷ links) (left ∷ lefts)
  client_back t k left lefts is w s ih c there =
      let none : m.state.dial ≡ None = subst (λ (o : Owner). IsOwned o m.state) is own.owner in
      let more : clients_of (left ∷ lefts) (client_links (m ∷ links)) ≡ client_of left m ∷ clients_of lefts (client_links links) = ap (clients_of (left ∷ lefts)) (first_client links m none) in
      let owner : g.owner ≡ OfClient left.worker left.session = is ∙ ap (λ (x : ThreadNo). OfClient x k) (sym w) ∙ ap (λ (x : SessionNo). OfClient left.worker x) (sym s) in
      let whose : g ≡ grave (OfClient left.worker left.session) g.link = ap (λ (o : Owner). grave o g.link) owner in
      ⊎_elim
      (λ (here : client_of left m ≡ c).
      subst (λ (x : ClientBytes). (l : LinkState) × Contains (g ∷ graves) (grave (OfClient x.worker x.session) l) × TellsClient x.worker x.session l x) here (
        g.link,
        subst (λ (x : Grave). Contains (g ∷ graves) x) whose (contains_first g graves),
        client_is left.worker left.session g.link left m refl refl own.state own.bytes,
      ))
      (λ later. let r = ih c later in (r.0, contains_next g graves (grave (OfClient c.worker c.session) r.0) r.1, r.2))
      (first_or_later (client_of left m) (clients_of lefts (client_links links)) c (subst (λ (cs : List ClientBytes). Contains cs c) more there))

  -- a connection's grave stands first
  conn_more : (d : ℕ × ℕ) (lefts : List Left) → ((u : ThreadNo) (n : SessionNo) → g.owner ≡ OfClient u n → ⊥) → m.state.dial ≡ Some d
      → HaveClients graves links lefts → HaveClients (g ∷ graves) (m ∷ links) lefts
  conn_more d lefts other is ih u n l there =
      ⊎_elim (λ (here : g ≡ grave (OfClient u n) l). absurd (other u n (ap (λ (x : Grave). x.owner) here)))
      (λ later. let r = ih u n l later in (r.0, subst (λ (ms : List MemoryLinkNow). Contains (clients_of lefts ms) r.0) (sym (no_client links m d is)) r.1, r.2))
      (first_or_later g graves (grave (OfClient u n) l) there)

  conn_back : (d : ℕ × ℕ) (lefts : List Left) → m.state.dial ≡ Some d → AreClients graves links lefts → AreClients (g ∷ graves) (m ∷ links) lefts
  conn_back d lefts is ih c there =
      let r = ih c (subst (λ (ms : List MemoryLinkNow). Contains (clients_of lefts ms) c) (no_client links m d is) there) in
      (r.0, contains_next g graves (grave (OfClient c.worker c.session) r.0) r.1, r.2)

  both_more : (o : Owner) (lefts : List Left) → g.owner ≡ o → session_in o ++ sessions_in graves ≡ map session_of_left lefts
      → ((ls : List Left) → sessions_in graves ≡ map session_of_left ls → HaveClients graves links ls × AreClients graves links ls)
      → HaveClients (g ∷ graves) (m ∷ links) lefts × AreClients (g ∷ graves) (m ∷ links) lefts
  both_more (OfClient t k) [] is e ih = absurd (cc)
  both_more (OfClient t k) (left ∷ lefts) is e ih =
      let p = first_pair t left.worker k left.session (sessions_in graves) (map session_of_left lefts) e in
      let r = ih lefts p.2 in (client_more t k left lefts is p.0 p.1 r.0, client_back t k left lefts is p.0 p.1 r.1)
  both_more (OfConn server id) lefts is e ih =
      let dial : m.state.dial ≡ Some (server.0, id.0) = subst (λ (o : Owner). IsOwned o m.state) is own.owner in
      let r = ih lefts e in (
        conn_more (server.0, id.0) lefts (λ u n no. let both : OfConn server id ≡ OfClient u n = sym is ∙ no in cc) dial r.0,
        conn_back (server.0, id.0) lefts dial r.1,
      )
  both_more OfNobody lefts is e ih = absurd (subst (λ (o : Owner). IsOwned o m.state) is own.owner)

-- the clients' links that were buried are those of the sessions that ended
pub all_clients : (graves : List Grave) (links : List MemoryLinkNow) (lefts : List Left) → AllZip Owns graves links → sessions_in graves ≡ map session_of_left lefts
    → HaveClients graves links lefts × AreClients graves links lefts
all_clients [] [] lefts z e = (
  λ u n l there. absurd (none_there (grave (OfClient u n) l) there),
  λ c there. absurd (none_there c (subst (λ (cs : List ClientBytes). Contains cs c) (no_links lefts) there)),
)
all_clients [] (m ∷ links) lefts z e = absurd z
all_clients (g ∷ graves) [] lefts z e = absurd z
all_clients (g ∷ graves) (m ∷ links) lefts z e =
    both_more g graves m links z.0 g.owner lefts refl e (λ ls f. all_clients graves links ls z.1 f)
