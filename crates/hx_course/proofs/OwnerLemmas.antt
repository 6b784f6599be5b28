-- Whose the buried links are: what each call keeps of that.
use Rattle.std.proofs.Common.{◌≡◌, ⊎_elim, ℕ, zero, suc, ◌+◌, Bool, true, false, List, [], ◌∷◌, ◌++◌, refl, sym, ap, ◌∙◌, subst, append-nil, arith, Option, Some, None, IsSome, ◌⊎◌, inl, inr}
use Rattle.std.specs.Prelude.{Contains, slice_get, if◌then◌else◌}
use Rattle.std.proofs.lemmas.Grind.{flat_map-append}
use Rattle.std.proofs.lemmas.List.Elements.{Contains-append_cases, Contains-append_left, Contains-append_right, Contains-push}
use mathlib.Core.Logic.{dite}
use native.Mathlib.Decide.{ℕ_discrete}
use Rattle.hx_base.specs.declared.numbers.ConnId.{ConnId}
use Rattle.hx_base.specs.declared.numbers.ServerNo.{ServerNo}
use Rattle.hx_base.specs.declared.numbers.SessionNo.{SessionNo}
use Rattle.hx_base.specs.declared.numbers.ThreadNo.{ThreadNo}
use Rattle.hx_link.specs.Nets.{TellsDial}
use Rattle.hx_link.specs.Told.{LinkState}
use Rattle.hx_pool.specs.SeatView.{About, History}
use Rattle.hx_pool.specs.declared.entries.Note.{Note}
use Rattle.hx_record.specs.declared.served.Left.{Left}
use Rattle.hx_record.specs.declared.served.Served.{Served}
use Rattle.hx_record.specs.declared.served.Told.{Told}
use Rattle.hx_connecting.specs.Sessions.{SessionNow, admitted}
use Rattle.hx_connecting.specs.Touches.{AddsEach}
use Rattle.hx_session.specs.Records.{Leaves}
use Rattle.hx_worker.proofs.ByNumber.{placed_other, placed_same, placed_rise, if_going}
use Rattle.hx_worker.specs.Steps.{placed}
use Rattle.hx_worker.specs.Workers.{session_of, NumbersRise}
use Rattle.hx_course.specs.Graves.{OfClient, OfConn, Grave, grave, conn_graves, client_graves, client_of, clients_of, TellsOwner}
use Rattle.hx_course.specs.Lines.{served_line, left_line, lines_of, ended_by, lefts_of}
use Rattle.hx_course.specs.Owners.{AreInOrder, KeepsOwners}
use Rattle.hx_course.proofs.Numbers.{some_is, number_is, none_above, session_more, session_new, session_old}
use Rattle.hx_course.proofs.ConnLines.{is_some, some_is_there}
use Rattle.hx_course.proofs.TableLemmas.{none_in, one_in}

-- ---- lists

clients_both : (xs ys : List Grave) → clients_of (xs ++ ys) ≡ clients_of xs ++ clients_of ys
clients_both xs ys = flat_map-append (λ (g : Grave). client_of g.owner) xs ys

lefts_both : (xs ys : List Told) → lefts_of (xs ++ ys) ≡ lefts_of xs ++ lefts_of ys
lefts_both xs ys = flat_map-append ended_by xs ys

pub conn_clients : (server : ServerNo) (id : ConnId) (o : Option LinkState) → clients_of (conn_graves server id o) ≡ []
conn_clients server id None = refl
conn_clients server id (Some l) = refl

served_lefts : (served : Option Served) → lefts_of (served_line served) ≡ []
served_lefts None = refl
served_lefts (Some r) = refl

-- the client's link of a session that is over is buried in the call that tells its Left
over_lefts : (b : Bool) (a : SessionNow) (left : Option Left) → a.over ≡ b → Leaves a left → clients_of (client_graves b a) ≡ lefts_of (left_line left)
over_lefts true a None o e = let no_ : true ≡ false = sym o ∙ e in cc
over_lefts true a (Some l) o e = ap (λ (t : ThreadNo). (t, a.number) ∷ []) (sym e.worker) ∙ ap (λ (n : SessionNo). (l.worker, n) ∷ []) (sym e.session)
over_lefts false a None o e = refl
over_lefts false a (Some l) o e = let no_ : true ≡ false = sym e.over ∙ o in cc

-- the sessions of clients' links and of Lefts, behind a call
lefts_go : (records : List Told) (graves closed : List Grave) (a : SessionNow) (served : Option Served) (left : Option Left) → clients_of closed ≡ [] → Leaves a left → clients_of graves ≡ lefts_of records
    → clients_of (graves ++ (closed ++ client_graves a.over a)) ≡ lefts_of (records ++ lines_of served left)
lefts_go records graves closed a served left none leaves same =
    let ends : clients_of (client_graves a.over a) ≡ lefts_of (left_line left) = over_lefts a.over a left refl leaves in
    let new : clients_of (closed ++ client_graves a.over a) ≡ lefts_of (lines_of served left) =
    clients_both closed (client_graves a.over a) ∙ (ap (λ xs. xs ++ clients_of (client_graves a.over a)) none ∙ (ends
    ∙ (ap (λ xs. xs ++ lefts_of (left_line left)) (sym (served_lefts served)) ∙ sym (lefts_both (served_line served) (left_line left))))) in
    clients_both graves (closed ++ client_graves a.over a)
    ∙ (ap (λ xs. xs ++ clients_of (closed ++ client_graves a.over a)) same ∙ (ap (λ xs. lefts_of records ++ xs) new ∙ sym (lefts_both records (lines_of served left))))

-- ---- seats

pub order_after : (P : ℕ → List Note → Type 0) (i j : ℕ) (old new : List History) (added : List (List Note)) → AddsEach P i old new added
    → ((k : ℕ) (h : History) → slice_get old k ≡ Some h → h.about.server.0 ≡ j + k) → (k : ℕ) (h : History) → slice_get new k ≡ Some h → h.about.server.0 ≡ j + k
order_after P i j [] [] [] a order k h e = cc
order_after P i j [] [] (x ∷ added) a order k h e = absurd a
order_after P i j [] (y ∷ new) added a order k h e = absurd a
order_after P i j (x ∷ old) [] added a order k h e = absurd a
order_after P i j (x ∷ old) (y ∷ new) [] a order k h e = absurd a
order_after P i j (x ∷ old) (y ∷ new) (es ∷ added) a order zero h e =
    let is : y ≡ h = cc in
    ap (λ (z : History). z.about.server.0) (sym is) ∙ (ap (λ (b : About). b.server.0) a.0.about ∙ order 0 x refl)
order_after P i j (x ∷ old) (y ∷ new) (es ∷ added) a order (suc k) h e =
    order_after P (i + 1) (j + 1) old new added a.2 (λ m g f. order (suc m) g f ∙ omega arith) k h e ∙ omega arith

-- ---- a session's call

-- the session of that number is there, or its client's link is buried
abbrev IsSomewhere : List SessionNow → List Grave → ThreadNo → SessionNo → Type 0
IsSomewhere ss graves t n = IsSome (session_of ss n.0) ⊎ ((l : LinkState) × Contains graves (grave (OfClient t n) l))

-- one that was there is there, or is over and its client's link is buried
still_somewhere : (last : ℕ) (ss : List SessionNow) (s a : SessionNow) (graves closed : List Grave) → NumbersRise 0 ss last → session_of ss a.number.0 ≡ Some s → (t : ThreadNo) → a.worker ≡ t
    → (n : SessionNo) → IsSome (session_of ss n.0) → IsSomewhere (placed ss a) (graves ++ (closed ++ client_graves a.over a)) t n
still_somewhere last ss s a graves closed rise here t w n is = dite (ℕ_discrete a.number.0 n.0)
    (λ (e : a.number.0 ≡ n.0).
    subst (λ (u : ThreadNo). IsSomewhere (placed ss a) (graves ++ (closed ++ client_graves a.over a)) u n) w
    (subst (λ (m : SessionNo). IsSomewhere (placed ss a) (graves ++ (closed ++ client_graves a.over a)) a.worker m) (number_is a.number n e) (by_over a.over refl)))
    (λ ne. inl (subst (λ (o : Option SessionNow). IsSome o) (sym (placed_other ss a n.0 ne)) is))
  where
    by_over : (b : Bool) → a.over ≡ b → IsSomewhere (placed ss a) (graves ++ (closed ++ client_graves a.over a)) a.worker a.number
    by_over true o =
        let g = grave (OfClient a.worker a.number) a.client in
        inr (
          a.client,
          Contains-append_right graves (closed ++ client_graves a.over a) g (Contains-append_right closed (client_graves a.over a) g
              (subst (λ (b : Bool). Contains (client_graves b a) g) (sym o) (Contains-push [] g))),
        )
    by_over false o = inl (subst (λ (p : Option SessionNow). IsSome p) (sym (placed_same 0 last ss s a rise here ∙ ap (λ (b : Bool). if b then None else Some a) o)) refl)

pub owners_go : (t : ThreadNo) (last : ℕ) (ss : List SessionNow) (s a : SessionNow) (seats seats' : List History) (served : Option Served) (left : Option Left) (records : List Told) (graves closed : List Grave)
    → session_of ss s.number.0 ≡ Some s → a.worker ≡ s.worker → a.number ≡ s.number → a.client.dial ≡ s.client.dial → Leaves a left → clients_of closed ≡ []
    → ((g : Grave) → Contains closed g → TellsOwner g.owner g.link) → AreInOrder seats' → KeepsOwners t last ss seats records graves
    → KeepsOwners t last (placed ss a) seats' (records ++ lines_of served left) (graves ++ (closed ++ client_graves a.over a))
owners_go t last ss s a seats seats' served left records graves closed there worker number dial leaves none dials order k =
    let no_is : a.number.0 ≡ s.number.0 = ap (λ (n : SessionNo). n.0) number in
    let here : session_of ss a.number.0 ≡ Some s = ap (session_of ss) no_is ∙ there in
    let same : session_of (placed ss a) a.number.0 ≡ if_going a = placed_same 0 last ss s a k.rise here in
    let its : a.worker ≡ t = worker ∙ k.its s.number.0 s there in
    let client : a.client.dial ≡ None = dial ∙ k.clients s.number.0 s there in record {
      rise = placed_rise 0 last ss a k.rise;
      its = λ n m e. of_each (λ (z : SessionNow). z.worker ≡ t) n m e same its (k.its n m);
      order = order;
      clients = λ n m e. of_each (λ (z : SessionNow). z.client.dial ≡ None) n m e same client (k.clients n m);
      dials = λ g c.
          ⊎_elim (λ (old : Contains graves g). k.dials g old)
          (λ (new : Contains (closed ++ client_graves a.over a) g).
          ⊎_elim (λ (h : Contains closed g). dials g h) (λ (h : Contains (client_graves a.over a) g). of_client a.over client g h)
          (Contains-append_cases closed (client_graves a.over a) g new))
          (Contains-append_cases graves (closed ++ client_graves a.over a) g c);
      lefts = lefts_go records graves closed a served left none leaves k.lefts;
      each = λ n low high.
          ⊎_elim (λ (is : IsSome (session_of ss n.0)). still_somewhere last ss s a graves closed k.rise here t its n is)
          (λ (b : (l : LinkState) × Contains graves (grave (OfClient t n) l)). inr (b.0, Contains-append_left graves (closed ++ client_graves a.over a) (grave (OfClient t n) b.0) b.1))
          (k.each n low high);
    }
  where
    of_each : (Q : SessionNow → Type 0) (n : ℕ) (m : SessionNow) → session_of (placed ss a) n ≡ Some m → session_of (placed ss a) a.number.0 ≡ if_going a → Q a → (session_of ss n ≡ Some m → Q m) → Q m
    of_each Q n m e same mine old = dite (ℕ_discrete a.number.0 n)
        (λ (is : a.number.0 ≡ n). by_over a.over (sym same ∙ (ap (session_of (placed ss a)) is ∙ e)))
        (λ ne. old (sym (placed_other ss a n ne) ∙ e))
      where
        by_over : (b : Bool) → (if b then None else Some a) ≡ Some m → Q m
        by_over true f = cc
        by_over false f = subst Q (some_is a m f) mine

    of_client : (b : Bool) → a.client.dial ≡ None → (g : Grave) → Contains (client_graves b a) g → TellsOwner g.owner g.link
    of_client false d g c = absurd (none_in g c)
    of_client true d g c = subst (λ (z : Grave). TellsOwner z.owner z.link) (one_in (grave (OfClient a.worker a.number) a.client) g c) d

-- a connection's link as its closing left it
pub conn_dials : (server : ServerNo) (id : ConnId) (o : Option LinkState) → ((l : LinkState) → o ≡ Some l → TellsDial server id l) → (g : Grave) → Contains (conn_graves server id o) g → TellsOwner g.owner g.link
conn_dials server id None tells g c = absurd (none_in g c)
conn_dials server id (Some l) tells g c = subst (λ (z : Grave). TellsOwner z.owner z.link) (one_in (grave (OfConn server id) l) g c) (tells l refl)

-- ---- the other calls

-- links of no client's, or of one who wasn't admitted
pub owners_more : (t : ThreadNo) (last : ℕ) (ss : List SessionNow) (seats seats' : List History) (records : List Told) (graves more : List Grave) → clients_of more ≡ []
    → ((g : Grave) → Contains more g → TellsOwner g.owner g.link) → AreInOrder seats' → KeepsOwners t last ss seats records graves → KeepsOwners t last ss seats' records (graves ++ more)
owners_more t last ss seats seats' records graves more none dials order k = record {
  rise = k.rise;
  its = k.its;
  order = order;
  clients = k.clients;
  dials = λ g c. ⊎_elim (λ (h : Contains graves g). k.dials g h) (λ (h : Contains more g). dials g h) (Contains-append_cases graves more g c);
  lefts = clients_both graves more ∙ (ap (λ xs. clients_of graves ++ xs) none ∙ (append-nil (clients_of graves) ∙ k.lefts));
  each = λ n low high.
      ⊎_elim (λ (is : IsSome (session_of ss n.0)). inl is)
      (λ (b : (l : LinkState) × Contains graves (grave (OfClient t n) l)). inr (b.0, Contains-append_left graves more (grave (OfClient t n) b.0) b.1)) (k.each n low high);
}

rise_more : (k m : ℕ) (ss : List SessionNow) (s : SessionNow) → s.number.0 ≡ m + 1 → NumbersRise k ss m → NumbersRise k (ss ++ s ∷ []) (m + 1)
rise_more k m [] s e r = (omega (arith, e, r), omega (arith, e))
rise_more k m (x ∷ rest) s e r = (r.0, rise_more x.number.0 m rest s e r.1)

pub owners_admit : (t : ThreadNo) (last : ℕ) (ss : List SessionNow) (seats : List History) (records : List Told) (graves : List Grave) (n : SessionNo) (front now : ℕ) (client : LinkState)
    → n.0 ≡ last + 1 → client.dial ≡ None → KeepsOwners t last ss seats records graves → KeepsOwners t (last + 1) (ss ++ admitted t n front now client ∷ []) seats records graves
owners_admit t last ss seats records graves n front now client next none k =
    let s = admitted t n front now client in record {
      rise = rise_more 0 last ss s next k.rise;
      its = λ j m e. ⊎_elim (λ (was : session_of ss j ≡ Some m). k.its j m was) (λ (new : (s.number.0 ≡ j) × (m ≡ s)). ap (λ (z : SessionNow). z.worker) new.1) (session_more ss s j m e);
      order = k.order;
      clients = λ j m e. ⊎_elim (λ (was : session_of ss j ≡ Some m). k.clients j m was) (λ (new : (s.number.0 ≡ j) × (m ≡ s)). ap (λ (z : SessionNow). z.client.dial) new.1 ∙ none) (session_more ss s j m e);
      dials = k.dials;
      lefts = k.lefts;
      each = λ m low high. dite (ℕ_discrete s.number.0 m.0)
          (λ (e : s.number.0 ≡ m.0).
          inl (some_is_there (session_of (ss ++ s ∷ []) m.0) s (session_new ss s m.0 (none_above 0 last ss m.0 k.rise (omega (arith, e, next))) e)))
          (λ ne.
          ⊎_elim
          (λ (is : IsSome (session_of ss m.0)). let o = is_some (session_of ss m.0) is in inl (some_is_there (session_of (ss ++ s ∷ []) m.0) o.0 (session_old ss s m.0 o.0 o.1)))
          (λ (b : (l : LinkState) × Contains graves (grave (OfClient t m) l)). inr b) (k.each m low (omega (arith, ne, next, high))));
    }
