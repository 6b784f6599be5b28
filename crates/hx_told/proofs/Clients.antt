-- Clients and connections, link by link.
use Rattle.std.proofs.Common.{◌≡◌, ℕ, ◌+◌, ◌≤◌, List, [], ◌∷◌, ◌++◌, length, drop, sym, ap, ◌∙◌, subst, append_assoc, arith, refl, cond, Option, Some, None, length-append}
use Rattle.std.specs.Prelude.{slice_get}
use Rattle.std.proofs.lemmas.List.{append-nil}
use Rattle.hx_link.specs.MemoryLinks.{MemoryLinkNow}
use Rattle.hx_record.specs.declared.bytes.ClientBytes.{ClientBytes}
use Rattle.hx_record.specs.declared.bytes.ConnBytes.{ConnBytes}
use Rattle.hx_record.specs.declared.served.Left.{Left}
use Rattle.hx_told.specs.Links.{is_undialled, client_links, client_of, clients_of, conns_by, conns_of, AddsClient}
use Rattle.hx_told.proofs.Parts.{got_drops, got_below}

-- the clients so far are the first ones, and the links that are left have the others
pub record HasClients (lefts : List Left) (all links : List MemoryLinkNow) (clients : List ClientBytes) : Type 0 where
  pub so_far : clients_of lefts (client_links all) ≡ clients ++ clients_of (drop (length clients) lefts) (client_links links)
  pub within : length clients ≤ length lefts
  pub each : length (client_links all) ≡ length clients + length (client_links links)

pub first_client : (links : List MemoryLinkNow) (m : MemoryLinkNow) → m.state.dial ≡ None → client_links (m ∷ links) ≡ m ∷ client_links links
first_client links m is = ap (λ (d : Option (ℕ × ℕ)). cond (is_undialled d) (m ∷ client_links links) (client_links links)) is

pub no_client : (links : List MemoryLinkNow) (m : MemoryLinkNow) (d : ℕ × ℕ) → m.state.dial ≡ Some d → client_links (m ∷ links) ≡ client_links links
no_client links m d is = ap (λ (o : Option (ℕ × ℕ)). cond (is_undialled o) (m ∷ client_links links) (client_links links)) is

pub no_links : (lefts : List Left) → clients_of lefts [] ≡ []
no_links [] = refl
no_links (l ∷ lefts) = refl

-- one more client
one_client : (lefts : List Left) (all links : List MemoryLinkNow) (m : MemoryLinkNow) (old : List ClientBytes) (l : Left) → m.state.dial ≡ None
    → HasClients lefts all (m ∷ links) old → slice_get lefts (length old) ≡ Some l → HasClients lefts all links (old ++ client_of l m ∷ [])
one_client lefts all links m old l is h got =
    let here = first_client links m is in
    let longer : length (old ++ client_of l m ∷ []) ≡ length old + 1 = length-append old (client_of l m ∷ []) in
    record {
      so_far = h.so_far
          ∙ ap (λ (ms : List MemoryLinkNow). old ++ clients_of (drop (length old) lefts) ms) here
          ∙ ap (λ (ls : List Left). old ++ clients_of ls (m ∷ client_links links)) (got_drops lefts (length old) l got)
          ∙ sym (append_assoc old (client_of l m ∷ []) (clients_of (drop (length old + 1) lefts) (client_links links)))
          ∙ ap (λ (n : ℕ). (old ++ client_of l m ∷ []) ++ clients_of (drop n lefts) (client_links links)) (sym longer);
      within = omega (arith, longer, got_below lefts (length old) l got);
      each = omega (arith, longer, h.each, ap (λ (ms : List MemoryLinkNow). length ms) here);
    }

client_more : (lefts : List Left) (all links : List MemoryLinkNow) (m : MemoryLinkNow) (old new : List ClientBytes) (dial : Option (ℕ × ℕ)) → m.state.dial ≡ dial
    → HasClients lefts all (m ∷ links) old → AddsClient dial lefts old m new → HasClients lefts all links new
client_more lefts all links m old new None is h a =
    subst (λ (cs : List ClientBytes). HasClients lefts all links cs) (sym a.2) (one_client lefts all links m old a.0 is h a.1)
client_more lefts all links m old new (Some d) is h a =
    let here = no_client links m d is in
    subst (λ (cs : List ClientBytes). HasClients lefts all links cs) (sym a) (record {
      so_far = h.so_far ∙ ap (λ (ms : List MemoryLinkNow). old ++ clients_of (drop (length old) lefts) ms) here;
      within = h.within;
      each = h.each ∙ ap (λ (ms : List MemoryLinkNow). length old + length ms) here;
    })

pub clients_more : (lefts : List Left) (all links : List MemoryLinkNow) (m : MemoryLinkNow) (old new : List ClientBytes)
    → HasClients lefts all (m ∷ links) old → AddsClient m.state.dial lefts old m new → HasClients lefts all links new
clients_more lefts all links m old new h a = client_more lefts all links m old new m.state.dial refl h a

-- nothing is left
pub clients_all : (lefts : List Left) (all : List MemoryLinkNow) (clients : List ClientBytes) → HasClients lefts all [] clients → clients ≡ clients_of lefts (client_links all)
clients_all lefts all clients h = sym (h.so_far ∙ ap (λ (cs : List ClientBytes). clients ++ cs) (no_links (drop (length clients) lefts)) ∙ append-nil clients)

pub conns_more : (all done : List ConnBytes) (m : MemoryLinkNow) (links : List MemoryLinkNow) (new : List ConnBytes) → all ≡ done ++ conns_of (m ∷ links)
    → new ≡ done ++ conns_by m.state.dial m → all ≡ new ++ conns_of links
conns_more all done m links new so is =
    so ∙ sym (append_assoc done (conns_by m.state.dial m) (conns_of links)) ∙ ap (λ (cs : List ConnBytes). cs ++ conns_of links) (sym is)
