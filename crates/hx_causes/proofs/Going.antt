-- What was caused stays so while clients come, sessions go on and links are buried.
use Rattle.std.proofs.Common.{◌≡◌, ◌⊎◌, inl, inr, ⊎_elim, ℕ, zero, suc, ◌-◌, ◌≤◌, ◌++◌, List, [], ◌∷◌, refl, sym, ap, ◌∙◌, subst, arith, Option, Some, None}
use Rattle.std.specs.Prelude.{Contains, slice_get}
use Rattle.hx_base.specs.declared.numbers.Millis.{Millis}
use Rattle.hx_base.specs.declared.numbers.ConnId.{ConnId}
use Rattle.hx_base.specs.declared.numbers.ServerNo.{ServerNo}
use Rattle.hx_base.specs.declared.numbers.SessionNo.{SessionNo}
use Rattle.hx_base.specs.declared.numbers.ThreadNo.{ThreadNo}
use Rattle.hx_config.specs.Meaning.{Meaning}
use Rattle.hx_conn.specs.WhatTold.{what_of_link}
use Rattle.hx_connecting.specs.Sessions.{SessionNow}
use Rattle.hx_course.proofs.TruthLemmas.{told_then}
use Rattle.hx_course.specs.Graves.{Grave, OfConn, grave}
use Rattle.hx_link.specs.Nets.{NetState}
use Rattle.hx_link.specs.Told.{LinkState}
use Rattle.hx_record.specs.declared.served.Carried.{Carried}
use Rattle.hx_record.specs.declared.served.CutCause.{CutCause}
use Rattle.hx_record.specs.declared.served.Kind.{Kind}
use Rattle.hx_record.specs.declared.served.Kind.TheVariants as kind
use Rattle.hx_record.specs.declared.served.Left.{Left}
use Rattle.hx_record.specs.declared.served.Served.{Served}
use Rattle.hx_record.specs.declared.served.Told.{Told}
use Rattle.hx_record.specs.declared.served.Told.TheVariants as line
use Rattle.hx_script_parts.specs.declared.script.ClientLine.{ClientLine}
use Rattle.hx_session.specs.Causes.{Decides, Limits, Unserved, bad_request, client_late, server_late, connect_late, unserved, broken, lost}
use Rattle.hx_causes.specs.Causes.{scope, Closed, Known, NamesLink, WasBuried, LinkIs, WentOn, IsOfLine, WasThere, DecidedOwn, DecidedCut, DecidedLeft, CausedKind, CausedLine}

-- each client's link goes on
abbrev pub Moves : List SessionNow → List Grave → List SessionNow → List Grave → Type 0
Moves ss gs ss' gs' = (t : ThreadNo) (n : SessionNo) (l : LinkState) → LinkIs ss gs t n l → WentOn ss' gs' t n l

get_more : {A : Type 0} (xs ys : List A) (i : ℕ) (x : A) → slice_get xs i ≡ Some x → slice_get (xs ++ ys) i ≡ Some x
get_more [] ys i x e = cc
get_more (y ∷ xs) ys zero x e = e
get_more (y ∷ xs) ys (suc i) x e = get_more xs ys i x e

pub line_on : (came more : List ClientLine) (s : SessionNow) → IsOfLine came s → IsOfLine (came ++ more) s
line_on came more s k = record { low = k.low; line = k.line; its = get_more came more (s.number.0 - 1) k.line k.its; since = k.since; front = k.front }

-- ---- what is known of a link, by what was known of it

module _ (config : Meaning) (moments : List Millis) (came came' : List ClientLine) (lines : (s : SessionNow) → IsOfLine came s → IsOfLine came' s) (Went Went' : Known) (moves : (t : ThreadNo) (n : SessionNo) (l : LinkState) → Went t n l → Went' t n l)
    (Gone Gone' : Closed) (stays : (server : ServerNo) (id : ConnId) (l : LinkState) → Gone server id l → Gone' server id l) where
  there_on : (t : ThreadNo) (n : SessionNo) (z : SessionNow) → WasThere (scope config moments came) Went t n z → WasThere (scope config moments came') Went' t n z
  there_on t n z k = record { worker = k.worker; number = k.number; line = lines z k.line; went = moves t n z.client k.went }

  names_on : {limits : Limits} {s : SessionNow} {net net' : NetState} {now : ℕ} {Lacks : Unserved → Type 0} {status : ℕ} → (k : Decides limits s net net' now Lacks status) → NamesLink Gone k → NamesLink Gone' k
  names_on (bad_request status bad) n = tt
  names_on (client_late late) n = tt
  names_on (server_late late) n = tt
  names_on (connect_late late) n = tt
  names_on (unserved u lacks) n = tt
  names_on (broken b l under_way buries broke) n = stays b.server b.id l n
  names_on (lost b l under_way buries gone silent) n = stays b.server b.id l n

  pub own_by : (t : ThreadNo) (n : SessionNo) (asked asked' status : ℕ) → asked ≤ asked' → DecidedOwn (scope config moments came) Went Gone t n asked status → DecidedOwn (scope config moments came') Went' Gone' t n asked' status
  own_by t n asked asked' status low k = record {
    was = k.was;
    there = there_on t n k.was k.there;
    begins = let begins = k.begins in omega (arith, begins, low);
    now = k.now;
    at = k.at;
    before = k.before;
    after = k.after;
    cause = k.cause;
    names = names_on k.cause k.names;
  }

  cut_by : (r : Served) (x : Carried) (why : CutCause) → DecidedCut (scope config moments came) Went Gone r x why → DecidedCut (scope config moments came') Went' Gone' r x why
  cut_by r x why k = record {
    was = k.was;
    there = there_on r.worker r.session k.was k.there;
    begins = k.begins;
    busy = k.busy;
    under_way = k.under_way;
    its = k.its;
    now = k.now;
    at = k.at;
    client = k.client;
    went = moves r.worker r.session k.client k.went;
    net = k.net;
    net' = k.net';
    cause = k.cause;
    link_is = stays k.busy.server k.busy.id k.cause.0 k.link_is;
  }

  left_by : (l : Left) → DecidedLeft (scope config moments came) Went l → DecidedLeft (scope config moments came') Went' l
  left_by l k = record {
    was = k.was;
    there = there_on l.worker l.session k.was k.there;
    now = k.now;
    at = k.at;
    after = k.after;
    went = moves l.worker l.session k.after.client k.went;
    served = k.served;
    cause = k.cause;
  }

  kind_by : (r : Served) (k : Kind) → CausedKind (scope config moments came) Went Gone r k → CausedKind (scope config moments came') Went' Gone' r k
  kind_by r (kind.Passed x) c = tt
  kind_by r (kind.Cut x why) c = ⊎_elim (λ stop. inl stop) (λ d. inr (cut_by r x why d)) c
  kind_by r (kind.Own status) c = own_by r.worker r.session r.ask.from r.ask.from status (omega arith) c

  pub told_by : (x : Told) → CausedLine (scope config moments came) Went Gone x → CausedLine (scope config moments came') Went' Gone' x
  told_by (line.Served r) c = kind_by r r.kind c
  told_by (line.Left l) c = ⊎_elim (λ stop. inl stop) (λ d. inr (left_by l d)) c

-- ---- while links go on

went_on : (ss ss' : List SessionNow) (gs gs' : List Grave) → Moves ss gs ss' gs' → (t : ThreadNo) (n : SessionNo) (l : LinkState) → WentOn ss gs t n l → WentOn ss' gs' t n l
went_on ss ss' gs gs' moves t n l k =
    let m = moves t n k.link k.is in
    record { link = m.link; is = m.is; grows = told_then (what_of_link l).told (what_of_link k.link).told (what_of_link m.link).told k.grows m.grows }

-- a net that tells no burials tells none later
abbrev pub StaysUntold : NetState → NetState → Type 0
StaysUntold net net' = net.buried ≡ None → net'.buried ≡ None

buried_on : (net net' : NetState) (gs gs' : List Grave) → StaysUntold net net' → ((g : Grave) → Contains gs g → Contains gs' g) → (server : ServerNo) (id : ConnId) (l : LinkState) → WasBuried net.buried gs server id l → WasBuried net'.buried gs' server id l
buried_on net net' gs gs' untold more server id l w = ⊎_elim (λ n. inl (untold n)) (λ (c : Contains gs (grave (OfConn server id) l)). inr (more (grave (OfConn server id) l) c)) w

-- sessions go on, and the net goes on
pub record GoesOn (ss ss' : List SessionNow) (net net' : NetState) (gs gs' : List Grave) : Type 0 where
  pub moves : Moves ss gs ss' gs'
  pub untold : StaysUntold net net'
  pub more : (g : Grave) → Contains gs g → Contains gs' g

pub own_on : (config : Meaning) (moments : List Millis) (came came' : List ClientLine) → ((s : SessionNow) → IsOfLine came s → IsOfLine came' s) → (ss ss' : List SessionNow) (net net' : NetState) (gs gs' : List Grave)
    → GoesOn ss ss' net net' gs gs' → (t : ThreadNo) (n : SessionNo) (asked asked' status : ℕ) → asked ≤ asked' → DecidedOwn (scope config moments came) (WentOn ss gs) (WasBuried net.buried gs) t n asked status
    → DecidedOwn (scope config moments came') (WentOn ss' gs') (WasBuried net'.buried gs') t n asked' status
own_on config moments came came' lines ss ss' net net' gs gs' g =
    own_by config moments came came' lines (WentOn ss gs) (WentOn ss' gs') (went_on ss ss' gs gs' g.moves) (WasBuried net.buried gs) (WasBuried net'.buried gs') (buried_on net net' gs gs' g.untold g.more)

pub told_on : (config : Meaning) (moments : List Millis) (came came' : List ClientLine) → ((s : SessionNow) → IsOfLine came s → IsOfLine came' s) → (ss ss' : List SessionNow) (net net' : NetState) (gs gs' : List Grave)
    → GoesOn ss ss' net net' gs gs' → (x : Told) → CausedLine (scope config moments came) (WentOn ss gs) (WasBuried net.buried gs) x → CausedLine (scope config moments came') (WentOn ss' gs') (WasBuried net'.buried gs') x
told_on config moments came came' lines ss ss' net net' gs gs' g =
    told_by config moments came came' lines (WentOn ss gs) (WentOn ss' gs') (went_on ss ss' gs gs' g.moves) (WasBuried net.buried gs) (WasBuried net'.buried gs') (buried_on net net' gs gs' g.untold g.more)
