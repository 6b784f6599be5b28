-- A call of one session carries on how far each session's records reach in its client's bytes.
use Rattle.std.proofs.Common.{◌≡◌, ⊎_elim, ℕ, ◌+◌, ◌≤◌, Bool, true, false, List, [], ◌∷◌, ◌++◌, refl, sym, ap, ◌∙◌, subst, append_assoc, append-nil, arith, Option, Some, None}
use Rattle.std.specs.Prelude.{IfSome, Contains, if◌then◌else◌}
use Rattle.std.proofs.lemmas.List.Elements.{Contains-append_cases}
use mathlib.Core.Logic.{dite}
use native.Mathlib.Decide.{ℕ_discrete}
use Rattle.hx_base.specs.declared.numbers.ConnId.{ConnId}
use Rattle.hx_base.specs.declared.numbers.ServerNo.{ServerNo}
use Rattle.hx_base.specs.declared.numbers.SessionNo.{SessionNo}
use Rattle.hx_base.specs.declared.numbers.ThreadNo.{ThreadNo}
use Rattle.hx_base.specs.declared.what.What.{What}
use Rattle.hx_link.specs.Told.{LinkState}
use Rattle.hx_record.specs.declared.served.Left.{Left}
use Rattle.hx_record.specs.declared.served.Served.{Served}
use Rattle.hx_record.specs.declared.served.Told.{Told}
use Rattle.hx_connecting.specs.Sessions.{SessionNow, admitted}
use Rattle.hx_session.specs.Records.{Leaves}
use Rattle.hx_session.specs.Telling.{RecordsTold}
use Rattle.hx_worker.proofs.ByNumber.{placed_other, placed_same, if_going}
use Rattle.hx_worker.specs.Steps.{placed}
use Rattle.hx_worker.specs.Workers.{session_of, NumbersRise}
use Rattle.hx_course.specs.Clients.{CoversOf, IsTiled, IsGone, KeepsClients}
use Rattle.hx_course.specs.Graves.{OfClient, OfConn, Grave, grave, conn_graves, client_graves}
use Rattle.hx_course.specs.Lines.{served_line, left_line, lines_of, AreApart}
use Rattle.hx_course.proofs.TableLemmas.{none_in, one_in}
use Rattle.hx_course.proofs.LineLemmas.{lines_apart, covers_on, tiled_on, served_covers, left_tiles}
use Rattle.hx_record.proofs.Following.{covers_none}
use Rattle.hx_course.proofs.Numbers.{some_is, found_number, found_low, session_more, session_none}

-- ---- graves

-- a connection's grave is none of a client's
pub not_conn : (server : ServerNo) (id : ConnId) (o : Option LinkState) (t : ThreadNo) (n : SessionNo) (l : LinkState) → Contains (conn_graves server id o) (grave (OfClient t n) l) → ⊥
not_conn server id None t n l c = none_in (grave (OfClient t n) l) c
not_conn server id (Some k) t n l c = let e : OfConn server id ≡ OfClient t n = ap (λ (g : Grave). g.owner) (one_in (grave (OfConn server id) k) (grave (OfClient t n) l) c) in cc

-- the grave of a client is that of the session that is over
pub its_client : (over : Bool) (s : SessionNow) (t : ThreadNo) (n : SessionNo) (l : LinkState) → Contains (client_graves over s) (grave (OfClient t n) l)
    → (over ≡ true) × (t ≡ s.worker) × (n ≡ s.number) × (l ≡ s.client)
its_client false s t n l c = absurd (none_in (grave (OfClient t n) l) c)
its_client true s t n l c =
    let e = one_in (grave (OfClient s.worker s.number) s.client) (grave (OfClient t n) l) c in
    let o : OfClient s.worker s.number ≡ OfClient t n = ap (λ (g : Grave). g.owner) e in
    (refl, cc, cc, sym (ap (λ (g : Grave). g.link) e))

-- ---- the call

session_told : (s a : SessionNow) (conn : Option What) (left : Option Left) (served : Option Served) → RecordsTold s a conn left served → IfSome served (λ r. r.session ≡ s.number)
session_told s a conn left None told = tt
session_told s a conn left (Some r) told = told.session

session_left : (a : SessionNow) (left : Option Left) → Leaves a left → IfSome left (λ l. l.session ≡ a.number)
session_left a None e = tt
session_left a (Some l) e = e.session

-- a session that goes on gave no Left
goes_on : (a : SessionNow) (left : Option Left) (served : Option Served) → a.over ≡ false → Leaves a left → lines_of served left ≡ served_line served
goes_on a None served on e = append-nil (served_line served)
goes_on a (Some l) served on e = let over = e.over in cc

-- and one that is over gave one
over_tiles : (a : SessionNow) (left : Option Left) (served : Option Served) (records : List Told) → a.over ≡ true → Leaves a left
    → CoversOf a (records ++ served_line served) → IsTiled a.worker a.number (records ++ lines_of served left) a.client
over_tiles a None served records over e c = cc
over_tiles a (Some l) served records over e c =
    subst (λ (rs : List Told). IsTiled a.worker a.number rs a.client) (append_assoc records (served_line served) (left_line (Some l)))
    (left_tiles a l (records ++ served_line served) e c)

module _ (t : ThreadNo) (last : ℕ) (ss : List SessionNow) (s a : SessionNow) (conn : Option What) (served : Option Served) (left : Option Left) (records : List Told) (graves : List Grave)
    (closed : List Grave) (no_client : (u : ThreadNo) (n : SessionNo) (l : LinkState) → Contains closed (grave (OfClient u n) l) → ⊥) (rise : NumbersRise 0 ss last) (its : s.worker ≡ t) (there : session_of ss s.number.0 ≡ Some s)
    (worker : a.worker ≡ s.worker) (number : a.number ≡ s.number) (told : RecordsTold s a conn left served) (leaves : Leaves a left)
    (keeps : KeepsClients t last ss records graves) where
  abbrev no : ℕ
  no = a.number.0

  no_is : no ≡ s.number.0
  no_is = ap (λ (k : SessionNo). k.0) number

  here : session_of ss no ≡ Some s
  here = ap (session_of ss) no_is ∙ there

  abbrev lines : List Told
  lines = lines_of served left

  others : (u : ThreadNo) (n : SessionNo) → (no ≡ n.0 → ⊥) → AreApart u n lines
  others u n ne = lines_apart u n s.number served left (λ e. ne (no_is ∙ sym e)) (session_told s a conn left served told)
      (subst (λ (m : SessionNo). IfSome left (λ l. l.session ≡ m)) number (session_left a left leaves))

  covered : CoversOf a (records ++ served_line served)
  covered = served_covers s a conn left served records worker number told (keeps.there s.number.0 s there)

  same : session_of (placed ss a) no ≡ if_going a
  same = placed_same 0 last ss s a rise here

  -- the session itself, where it goes on
  going : (b : Bool) → a.over ≡ b → (m : SessionNow) → (if b then None else Some a) ≡ Some m → CoversOf m (records ++ lines)
  going true over m e = cc
  going false over m e = subst (λ (x : SessionNow). CoversOf x (records ++ lines)) (some_is a m e)
      (subst (λ (xs : List Told). CoversOf a (records ++ xs)) (sym (goes_on a left served over leaves)) covered)

  there_after : (n : ℕ) (m : SessionNow) → session_of (placed ss a) n ≡ Some m → CoversOf m (records ++ lines)
  there_after n m e = dite (ℕ_discrete no n)
      (λ (is : no ≡ n). going a.over refl m (sym same ∙ ap (session_of (placed ss a)) is ∙ e))
      (λ ne.
      let was : session_of ss n ≡ Some m = sym (placed_other ss a n ne) ∙ e in
      covers_on m.worker m.number records lines m.asked m.gave m.served (others m.worker m.number (λ k. ne (k ∙ found_number ss n m was))) (keeps.there n m was))

  low : no ≤ last
  low = found_low 0 last ss no s rise here

  gone_stays : (u : ThreadNo) (n : SessionNo) (l : LinkState) → IsGone t last ss records u n l → IsGone t last (placed ss a) (records ++ lines) u n l
  gone_stays u n l g =
      let ne : no ≡ n.0 → ⊥ = λ e. let was = sym here ∙ (ap (session_of ss) e ∙ g.gone) in cc in
      record { thread = g.thread; given = g.given; gone = placed_other ss a n.0 ne ∙ g.gone; tiled = tiled_on u n records lines l (others u n ne) g.tiled }

  gone_now : a.over ≡ true → IsGone t last (placed ss a) (records ++ lines) a.worker a.number a.client
  gone_now over = record {
    thread = worker ∙ its;
    given = low;
    gone = same ∙ ap (λ (b : Bool). if b then None else Some a) over;
    tiled = over_tiles a left served records over leaves covered;
  }

  buried_after : (u : ThreadNo) (n : SessionNo) (l : LinkState) → Contains (graves ++ (closed ++ client_graves a.over a)) (grave (OfClient u n) l)
      → IsGone t last (placed ss a) (records ++ lines) u n l
  buried_after u n l c =
      let g = grave (OfClient u n) l in
      ⊎_elim (λ (old : Contains graves g). gone_stays u n l (keeps.buried u n l old))
      (λ (new : Contains (closed ++ client_graves a.over a) g).
      ⊎_elim (λ (k : Contains closed g). absurd (no_client u n l k))
      (λ (k : Contains (client_graves a.over a) g).
      let is = its_client a.over a u n l k in
      subst (λ (x : ThreadNo). IsGone t last (placed ss a) (records ++ lines) x n l) (sym is.1)
      (subst (λ (x : SessionNo). IsGone t last (placed ss a) (records ++ lines) a.worker x l) (sym is.2)
      (subst (λ (x : LinkState). IsGone t last (placed ss a) (records ++ lines) a.worker a.number x) (sym is.3) (gone_now is.0))))
      (Contains-append_cases closed (client_graves a.over a) g new))
      (Contains-append_cases graves (closed ++ client_graves a.over a) g c)

  pub clients_go : KeepsClients t last (placed ss a) (records ++ lines) (graves ++ (closed ++ client_graves a.over a))
  clients_go = record {
    there = there_after;
    fresh = λ n above. covers_on t n records lines 0 0 0 (others t n (λ e. omega (arith, low))) (keeps.fresh n above);
    buried = buried_after;
  }

-- ---- the other calls

-- before the first call
pub clients_begin : (t : ThreadNo) → KeepsClients t 0 [] [] []
clients_begin t = record {
  there = λ n s e. cc;
  fresh = λ n above. covers_none t n;
  buried = λ u n l c. absurd (none_in (grave (OfClient u n) l) c);
}

-- links that are no client's are buried
pub clients_more : (t : ThreadNo) (last : ℕ) (ss : List SessionNow) (records : List Told) (graves more : List Grave)
    → ((u : ThreadNo) (n : SessionNo) (l : LinkState) → Contains more (grave (OfClient u n) l) → ⊥)
    → KeepsClients t last ss records graves → KeepsClients t last ss records (graves ++ more)
clients_more t last ss records graves more none k = record {
  there = k.there;
  fresh = k.fresh;
  buried = λ u n l c.
      ⊎_elim (λ (old : Contains graves (grave (OfClient u n) l)). k.buried u n l old) (λ (new : Contains more (grave (OfClient u n) l)). absurd (none u n l new))
      (Contains-append_cases graves more (grave (OfClient u n) l) c);
}

-- one client more is admitted, with the next number
pub clients_admit : (t : ThreadNo) (last : ℕ) (ss : List SessionNow) (records : List Told) (graves : List Grave) (n : SessionNo) (front now : ℕ) (client : LinkState) → n.0 ≡ last + 1
    → KeepsClients t last ss records graves → KeepsClients t (last + 1) (ss ++ admitted t n front now client ∷ []) records graves
clients_admit t last ss records graves n front now client next k =
    let s = admitted t n front now client in record {
      there = λ m x e.
          ⊎_elim (λ (was : session_of ss m ≡ Some x). k.there m x was)
          (λ (is : (s.number.0 ≡ m) × (x ≡ s)). subst (λ (y : SessionNow). CoversOf y records) (sym is.1) (k.fresh n (omega (arith, next))))
          (session_more ss s m x e);
      fresh = λ m above. k.fresh m (omega arith);
      buried = λ u m l c.
          let g = k.buried u m l c in
          let low = g.given in record {
            thread = g.thread;
            given = omega arith;
            gone = session_none ss s m.0 g.gone (λ e. omega (arith, next));
            tiled = g.tiled;
          };
    }
