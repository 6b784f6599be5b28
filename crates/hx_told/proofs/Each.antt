-- Each client and each connection that is told, and where it comes from: for the crates above.
use Rattle.std.proofs.Common.{◌≡◌, ℕ, zero, suc, ◌<◌, List, [], ◌∷◌, ◌++◌, length, get_or, refl, sym, ap, ◌∙◌, subst, arith, Option, Some, None, ⊎_elim}
use Rattle.std.specs.Prelude.{Contains, slice_get}
use Rattle.std.proofs.lemmas.List.Elements.{Contains-append_left, Contains-append_right, Contains-append_cases}
use Rattle.std.proofs.lemmas.List.Sorted.{Contains-permutation, IsPermutation-sym}
use Rattle.hx_link.specs.MemoryLinks.{MemoryLinkNow}
use Rattle.hx_link.specs.MemoryNets.{MemoryNetNow}
use Rattle.hx_record.specs.declared.bytes.ClientBytes.{ClientBytes}
use Rattle.hx_record.specs.declared.bytes.ConnBytes.{ConnBytes}
use Rattle.hx_record.specs.declared.served.Left.{Left}
use Rattle.hx_record.specs.declared.served.Told.{Told}
use Rattle.hx_told.specs.Links.{client_of, clients_of, client_links, conn_of, conns_by, conns_of, lefts_of}
use Rattle.hx_told.specs.Places.{IsClientAt, IsConnOf}
use Rattle.hx_told.specs.Telling.{TellsLinks}

some_is : {A : Type 0} (a b : A) → Some a ≡ Some b → a ≡ b
some_is a b e = cc

-- ---- clients

pub contains_first : {A : Type 0} (x : A) (xs : List A) → Contains (x ∷ xs) x
contains_first x xs = (0, omega arith, refl)

pub contains_next : {A : Type 0} (y : A) (xs : List A) (x : A) → Contains xs x → Contains (y ∷ xs) x
contains_next y xs x h = (suc h.0, omega (arith, h.1), h.2)

has_client : (lefts : List Left) (links : List MemoryLinkNow) (k : ℕ) (l : Left) (m : MemoryLinkNow) → slice_get lefts k ≡ Some l → slice_get links k ≡ Some m
    → Contains (clients_of lefts links) (client_of l m)
has_client [] links k l m a b = absurd (cc)
has_client (x ∷ lefts) [] k l m a b = absurd (cc)
has_client (x ∷ lefts) (y ∷ links) zero l m a b =
    subst (λ (c : ClientBytes). Contains (client_of x y ∷ clients_of lefts links) c)
    (ap (λ (z : Left). client_of z y) (some_is x l a) ∙ ap (client_of l) (some_is y m b)) (contains_first (client_of x y) (clients_of lefts links))
has_client (x ∷ lefts) (y ∷ links) (suc k) l m a b =
    contains_next (client_of x y) (clients_of lefts links) (client_of l m) (has_client lefts links k l m a b)

-- the session that ended at a place has its client told
pub client_told : (records : List Told) (net : MemoryNetNow) (clients : List ClientBytes) (conns : List ConnBytes) (t : TellsLinks records net clients conns)
    (k : ℕ) (l : Left) (m : MemoryLinkNow) → slice_get (lefts_of records) k ≡ Some l → slice_get (client_links t.links) k ≡ Some m → Contains clients (client_of l m)
client_told records net clients conns t k l m a b =
    Contains-permutation (clients_of (lefts_of records) (client_links t.links)) clients (client_of l m) t.clients_are
    (has_client (lefts_of records) (client_links t.links) k l m a b)

client_at : (lefts : List Left) (links : List MemoryLinkNow) (c : ClientBytes) (k : ℕ) → k < length (clients_of lefts links) → get_or (clients_of lefts links) k c ≡ c
    → IsClientAt lefts links c
client_at [] links c k low e = absurd (omega arith)
client_at (x ∷ lefts) [] c k low e = absurd (omega arith)
client_at (x ∷ lefts) (y ∷ links) c zero low e = record { at = 0; left = x; link = y; left_at = refl; link_at = refl; is = sym e }
client_at (x ∷ lefts) (y ∷ links) c (suc k) low e =
    let r : IsClientAt lefts links c = client_at lefts links c k (omega arith) e in
    record { at = suc r.at; left = r.left; link = r.link; left_at = r.left_at; link_at = r.link_at; is = r.is }

-- a client that is told is that of a session that ended
pub client_from : (records : List Told) (net : MemoryNetNow) (clients : List ClientBytes) (conns : List ConnBytes) (t : TellsLinks records net clients conns)
    (c : ClientBytes) → Contains clients c → IsClientAt (lefts_of records) (client_links t.links) c
client_from records net clients conns t c h =
    let all : List ClientBytes = clients_of (lefts_of records) (client_links t.links) in
    let there : Contains all c = Contains-permutation clients all c (IsPermutation-sym all clients t.clients_are) h in
    client_at (lefts_of records) (client_links t.links) c there.0 there.1 there.2

-- ---- connections

by_dial : (o : Option (ℕ × ℕ)) (m : MemoryLinkNow) (d : ℕ × ℕ) → o ≡ Some d → Contains (conns_by o m) (conn_of d m)
by_dial o m d e = subst (λ (p : Option (ℕ × ℕ)). Contains (conns_by p m) (conn_of d m)) (sym e) (contains_first (conn_of d m) [])

has_conn : (links : List MemoryLinkNow) (m : MemoryLinkNow) (d : ℕ × ℕ) → m.state.dial ≡ Some d → (k : ℕ) → k < length links → get_or links k m ≡ m
    → Contains (conns_of links) (conn_of d m)
has_conn [] m d e k low at = absurd (omega arith)
has_conn (x ∷ links) m d e zero low at =
    subst (λ (y : MemoryLinkNow). Contains (conns_by y.state.dial y ++ conns_of links) (conn_of d m)) (sym at)
    (Contains-append_left (conns_by m.state.dial m) (conns_of links) (conn_of d m) (by_dial m.state.dial m d e))
has_conn (x ∷ links) m d e (suc k) low at =
    Contains-append_right (conns_by x.state.dial x) (conns_of links) (conn_of d m) (has_conn links m d e k (omega arith) at)

-- a link that was dialled has its connection told
pub conn_told : (records : List Told) (net : MemoryNetNow) (clients : List ClientBytes) (conns : List ConnBytes) (t : TellsLinks records net clients conns)
    (m : MemoryLinkNow) (d : ℕ × ℕ) → Contains t.links m → m.state.dial ≡ Some d → Contains conns (conn_of d m)
conn_told records net clients conns t m d h e =
    Contains-permutation (conns_of t.links) conns (conn_of d m) t.conns_are (has_conn t.links m d e h.0 h.1 h.2)

only_one : {A : Type 0} (x c : A) (k : ℕ) → k < length (x ∷ []) → get_or (x ∷ []) k c ≡ c → c ≡ x
only_one x c zero low e = sym e
only_one x c (suc k) low e = absurd (omega arith)

one_by : (o : Option (ℕ × ℕ)) (x : MemoryLinkNow) (links : List MemoryLinkNow) (c : ConnBytes) → x.state.dial ≡ o → Contains (conns_by o x) c → IsConnOf (x ∷ links) c
one_by None x links c e h = absurd (omega (arith, h.1))
one_by (Some d) x links c e h =
    record { link = x; dial = d; there = contains_first x links; dialled = e; is = only_one (conn_of d x) c h.0 h.1 h.2 }

later : (x : MemoryLinkNow) (links : List MemoryLinkNow) (c : ConnBytes) → IsConnOf links c → IsConnOf (x ∷ links) c
later x links c r = record { link = r.link; dial = r.dial; there = contains_next x links r.link r.there; dialled = r.dialled; is = r.is }

conn_at : (links : List MemoryLinkNow) (c : ConnBytes) → Contains (conns_of links) c → IsConnOf links c
conn_at [] c h = absurd (omega (arith, h.1))
conn_at (x ∷ links) c h =
    ⊎_elim (λ here. one_by x.state.dial x links c refl here) (λ there. later x links c (conn_at links c there))
    (Contains-append_cases (conns_by x.state.dial x) (conns_of links) c h)

-- a connection that is told is that of a link that was dialled
pub conn_from : (records : List Told) (net : MemoryNetNow) (clients : List ClientBytes) (conns : List ConnBytes) (t : TellsLinks records net clients conns)
    (c : ConnBytes) → Contains conns c → IsConnOf t.links c
conn_from records net clients conns t c h =
    conn_at t.links c (Contains-permutation conns (conns_of t.links) c (IsPermutation-sym (conns_of t.links) conns t.conns_are) h)
