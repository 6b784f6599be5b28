-- What a step of a session asks of its worker, as the parts of the step need it.
use Rattle.std.proofs.Common.{◌≡◌, ◌≤◌, ◌<◌, ◌+◌, ℕ, zero, suc, Bool, true, false, ◌&&◌, not, List, [], ◌∷◌, ◌++◌, length, map, get_or, refl, sym, ap, subst, ◌∙◌, arith, Option, Some, None, ⊎_elim, ◌⊎◌}
use Rattle.std.specs.Prelude.{IfSome, Contains, ◌==◌}
use Rattle.std.specs.List.{slice_get}
use Rattle.std.proofs.lemmas.Bool.{eqb-true}
use Rattle.hx_base.specs.declared.numbers.ServerNo.{ServerNo}
use Rattle.hx_base.specs.declared.numbers.SessionNo.{SessionNo}
use Rattle.hx_base.specs.declared.numbers.ThreadNo.{ThreadNo}
use Rattle.hx_base.specs.declared.rules.PoolRules.{PoolRules}
use Rattle.hx_config.specs.declared.parts.Back.{Back}
use Rattle.hx_config.specs.declared.parts.Front.{Front}
use Rattle.hx_config.specs.declared.parts.Server.{Server}
use Rattle.hx_config.specs.Limits.{all_servers, are_numbered, are_served, serves}
use Rattle.std.proofs.lemmas.List.{length-append}
use Rattle.hx_config.specs.Meaning.{Meaning}
use Rattle.hx_conn.specs.Conns.{RestedNow}
use Rattle.hx_pool.specs.Opening.{HasConn}
use Rattle.hx_pool.specs.SeatView.{About, History}
use Rattle.hx_pool.specs.Table.{face_of}
use Rattle.hx_pool.proofs.Owning.{just_has}
use Rattle.hx_connecting.specs.Around.{ConnOnLoop, AreNumbered, RestsAtNever, HasAround, abouts, resting}
use Rattle.hx_connecting.specs.Choice.{HaveSeats}
use Rattle.hx_connecting.specs.Choosing.{servers_of}
use Rattle.hx_connecting.specs.Closing.{AtSeat, HasHeld}
use Rattle.hx_connecting.specs.Holds.{HoldsConn}
use Rattle.hx_connecting.specs.Sessions as seen
use Rattle.hx_connecting.proofs.AroundLemmas.{just_here, one_here}
use Rattle.hx_session.specs.Desks.{DeskNow}
use Rattle.hx_session.specs.Stages.{StageNow, Reading, Choosing, Exchanging, Answering, Left}
use Rattle.hx_session.specs.Seen.{conn_seen, chosen_seen, unless_held, session_seen}
use Rattle.hx_session.specs.Standing.{IsSound, IsPlaced, IsRoutedTo, GoesToHeld}
use Rattle.hx_session.specs.Fits.{SeatsServe, RestsUnderNever, GoesTo, IsGoing}

and_left : (a b : Bool) → (a && b) ≡ true → a ≡ true
and_left true b e = refl
and_left false b e = e

and_right : (a b : Bool) → (a && b) ≡ true → b ≡ true
and_right true b e = e
and_right false b e = cc

some_same : {A : Type 0} (x y : A) → Some x ≡ Some y → x ≡ y
some_same x y e = cc

-- the servers have the numbers of their places
numbered_at : (n : ℕ) (ss : List Server) (j : ℕ) (s : Server) → are_numbered n ss ≡ true → slice_get ss j ≡ Some s → s.no.0 ≡ n + j
unfolding are_numbered
numbered_at n [] j s e there = cc
numbered_at n (x ∷ xs) zero s e there =
    omega (arith, ap (λ (k : Server). k.no.0) (some_same x s there), eqb-true x.no.0 n (and_left (x.no.0 == n) (are_numbered (n + 1) xs) e))
numbered_at n (x ∷ xs) (suc j) s e there = omega (arith, numbered_at (n + 1) xs j s (and_right (x.no.0 == n) (are_numbered (n + 1) xs) e) there)

in_left : (xs ys : List Server) (k : ℕ) (s : Server) → slice_get xs k ≡ Some s → slice_get (xs ++ ys) k ≡ Some s
in_left [] ys k s there = cc
in_left (x ∷ xs) ys zero s there = there
in_left (x ∷ xs) ys (suc k) s there = in_left xs ys k s there

in_right : (xs ys : List Server) (k : ℕ) (s : Server) → slice_get ys k ≡ Some s → (j : ℕ) × (slice_get (xs ++ ys) j ≡ Some s)
in_right [] ys k s there = (k, there)
in_right (x ∷ xs) ys k s there = let r = in_right xs ys k s there in (suc r.0, r.1)

-- a backend's servers are among all
in_all : (backs : List Back) (i : ℕ) (b : Back) (k : ℕ) (s : Server) → slice_get backs i ≡ Some b → slice_get b.servers k ≡ Some s → (j : ℕ) × (slice_get (all_servers backs) j ≡ Some s)
in_all [] i b k s there at = cc
in_all (x ∷ backs) zero b k s there at =
    (k, in_left x.servers (all_servers backs) k s (subst (λ (y : Back). slice_get y.servers k ≡ Some s) (sym (some_same x b there)) at))
in_all (x ∷ backs) (suc i) b k s there at = let r = in_all backs i b k s there at in in_right x.servers (all_servers backs) r.0 s r.1

pub below : {A : Type 0} (xs : List A) (j : ℕ) (x : A) → slice_get xs j ≡ Some x → j < length xs
below [] j x e = cc
below (y ∷ xs) zero x e = omega arith
below (y ∷ xs) (suc j) x e = omega (arith, below xs j x e)

pub serves_length : (t : ThreadNo) (seats : List History) (ss : List Server) → SeatsServe t seats ss → length seats ≡ length ss
serves_length t [] [] k = refl
serves_length t [] (s ∷ ss) k = absurd k
serves_length t (h ∷ seats) [] k = absurd k
serves_length t (h ∷ seats) (s ∷ ss) k = omega (arith, serves_length t seats ss k.3)

-- each server of the backend has its seat
pub have_seats : (t : ThreadNo) (backs : List Back) (i : ℕ) (b : Back) (seats : List History) → are_numbered 0 (all_servers backs) ≡ true → slice_get backs i ≡ Some b
    → SeatsServe t seats (all_servers backs) → HaveSeats b.servers (length seats)
have_seats t backs i b seats numbered there serves = λ k s at.
    let j = in_all backs i b k s there at in
    let n = numbered_at 0 (all_servers backs) j.0 s numbered j.1 in
    omega (arith, n, below (all_servers backs) j.0 s j.1, serves_length t seats (all_servers backs) serves)

-- a server that is one of a list by its number
pub contained : (ss : List Server) (k : ℕ) (v : ServerNo) → k < length (map (λ (s : Server). s.no) ss) → get_or (map (λ (s : Server). s.no) ss) k v ≡ v
    → (s : Server) × (slice_get ss k ≡ Some s) × (s.no ≡ v)
contained [] k v low is = absurd (omega (arith, low))
contained (s ∷ ss) zero v low is = (s, refl, is)
contained (s ∷ ss) (suc k) v low is = contained ss k v (omega (arith, low)) is

pub routed_seat : (back : Back) (v : ServerNo) (n : ℕ) → HaveSeats back.servers n → Contains (servers_of back) v → v.0 < n
routed_seat back v n have c =
    let r = contained back.servers c.0 v c.1 c.2 in
    subst (λ (x : ServerNo). x.0 < n) r.2 (have c.0 r.0 r.1)

-- the seats have their servers' numbers
pub serves_numbered : (t : ThreadNo) (n : ℕ) (seats : List History) (ss : List Server) → are_numbered n ss ≡ true → SeatsServe t seats ss → AreNumbered n seats
unfolding are_numbered
serves_numbered t n [] [] e k = tt
serves_numbered t n [] (s ∷ ss) e k = absurd k
serves_numbered t n (h ∷ seats) [] e k = absurd k
serves_numbered t n (h ∷ seats) (s ∷ ss) e k = (
  ap (λ (v : ServerNo). v.0) k.2 ∙ eqb-true s.no.0 n (and_left (s.no.0 == n) (are_numbered (n + 1) ss) e),
  serves_numbered t (n + 1) seats ss (and_right (s.no.0 == n) (are_numbered (n + 1) ss) e) k.3,
)

-- the seat with a place is its server's
serves_at : (t : ThreadNo) (seats : List History) (ss : List Server) (j : ℕ) → j < length seats → SeatsServe t seats ss
    → (h : History) × (s : Server) × (slice_get seats j ≡ Some h) × (slice_get ss j ≡ Some s) × (h.about.rules ≡ s.rules)
serves_at t [] ss j low k = absurd (omega (arith, low))
serves_at t (h ∷ seats) [] j low k = absurd k
serves_at t (h ∷ seats) (s ∷ ss) zero low k = (h, s, refl, refl, k.1)
serves_at t (h ∷ seats) (s ∷ ss) (suc j) low k = serves_at t seats ss j (omega (arith, low)) k.3

pub never_at : (t : ThreadNo) (config : Meaning) (conn : Option seen.Holding) (seats : List History) → SeatsServe t seats (all_servers config.backs) → IfSome conn (λ c. (seen.conn_server c).0 < length seats)
    → RestsUnderNever config conn → RestsAtNever seats conn
never_at t config None seats serves low never = tt
never_at t config (Some (seen.Exchanging b)) seats serves low never = tt
never_at t config (Some (seen.Resting r)) seats serves low never =
    let x = serves_at t seats (all_servers config.backs) r.server.0 low serves in
    (x.0, x.2, ap (λ (q : PoolRules). q.mode) x.4 ∙ never x.1 x.3)

pub never_back : (t : ThreadNo) (config : Meaning) (conn : Option seen.Holding) (seats : List History) → SeatsServe t seats (all_servers config.backs) → RestsAtNever seats conn → RestsUnderNever config conn
never_back t config None seats serves never = tt
never_back t config (Some (seen.Exchanging b)) seats serves never = tt
never_back t config (Some (seen.Resting r)) seats serves never = λ k there.
    let x = serves_at t seats (all_servers config.backs) r.server.0 (below seats r.server.0 never.0 never.1) serves in
    let same_h : x.0 ≡ never.0 = some_same x.0 never.0 (sym x.2 ∙ never.1) in
    let same_s : x.1 ≡ k = some_same x.1 k (sym x.3 ∙ there) in
    ap (λ (s : Server). s.rules.mode) (sym same_s) ∙ (sym (ap (λ (q : PoolRules). q.mode) x.4) ∙ (ap (λ (h : History). h.about.rules.mode) same_h ∙ never.2))

-- the seats serve, where what they are for is as it was
pub serves_again : (t : ThreadNo) (olds news : List History) (ss : List Server) → abouts news ≡ abouts olds → SeatsServe t olds ss → SeatsServe t news ss
serves_again t [] [] ss e k = k
serves_again t [] (h ∷ news) ss e k = cc
serves_again t (o ∷ olds) [] ss e k = cc
serves_again t (o ∷ olds) (h ∷ news) [] e k = k
serves_again t (o ∷ olds) (h ∷ news) (s ∷ ss) e k =
    let one : h.about ≡ o.about = first_of_two h.about o.about (abouts news) (abouts olds) e in
    let more : abouts news ≡ abouts olds = rest_of_two h.about o.about (abouts news) (abouts olds) e in
    (ap (λ (a : About). a.thread) one ∙ k.0, ap (λ (a : About). a.rules) one ∙ k.1, ap (λ (a : About). a.server) one ∙ k.2, serves_again t olds news ss more k.3)
  where
    first_of_two : (a b : About) (xs ys : List About) → a ∷ xs ≡ b ∷ ys → a ≡ b
    first_of_two a b xs ys e = cc

    rest_of_two : (a b : About) (xs ys : List About) → a ∷ xs ≡ b ∷ ys → xs ≡ ys
    rest_of_two a b xs ys e = cc

-- the session has at its seat what it holds
pub conn_own : (t : ThreadNo) (n : SessionNo) (c : seen.Holding) (seats : List History) → HasAround t n (Some c) seats → (seen.conn_server c).0 < length seats
    → AtSeat seats (seen.conn_server c).0 (λ h. HasConn h n (seen.conn_id c))
conn_own t n c seats a low =
    let x = got seats (seen.conn_server c).0 low in
    let just = just_here t n (Some c) (seen.conn_server c).0 seats x.0 a x.1 refl in
    (x.0, x.1, (just.0, just_has x.0 n (face_of (seen.conn_id c) just.0) (one_here t n (Some c) (seen.conn_server c).0 seats x.0 a x.1) just.1))
  where
    got : (hs : List History) (j : ℕ) → j < length hs → (h : History) × (slice_get hs j ≡ Some h)
    got [] j low = absurd (omega (arith, low))
    got (h ∷ hs) zero low = (h, refl)
    got (h ∷ hs) (suc j) low = got hs j (omega (arith, low))

-- a backend has no more servers than there are
pub few_servers : (backs : List Back) (i : ℕ) (b : Back) → slice_get backs i ≡ Some b → length b.servers ≤ length (all_servers backs)
few_servers [] i b there = cc
few_servers (x ∷ backs) zero b there =
    omega (arith, ap (λ (y : Back). length y.servers) (some_same x b there), length-append x.servers (all_servers backs))
few_servers (x ∷ backs) (suc i) b there = omega (arith, few_servers backs i b there, length-append x.servers (all_servers backs))

-- a frontend's backend has a server
pub some_server : (fronts : List Front) (backs : List Back) (i : ℕ) (f : Front) (b : Back) → are_served fronts backs ≡ true → slice_get fronts i ≡ Some f → slice_get backs f.back ≡ Some b → 1 ≤ length b.servers
some_server [] backs i f b served there back = cc
some_server (x ∷ fronts) backs zero f b served there back =
    let first : serves (slice_get backs x.back) ≡ true = and_left (serves (slice_get backs x.back)) (are_served fronts backs) served in
    let at : slice_get backs x.back ≡ Some b = ap (λ (y : Front). slice_get backs y.back) (some_same x f there) ∙ back in
    has_one (length b.servers) (subst (λ (o : Option Back). serves o ≡ true) at first)
  where
    has_one : (n : ℕ) → not (n == 0) ≡ true → 1 ≤ n
    has_one zero e = cc
    has_one (suc n) e = omega arith
some_server (x ∷ fronts) backs (suc i) f b served there back =
    some_server fronts backs i f b (and_right (serves (slice_get backs x.back)) (are_served fronts backs) served) there back

pub turn_low : (n t : ℕ) → (t < n) ⊎ (t ≡ 0) → 1 ≤ n → t < n
turn_low n t fits some = ⊎_elim (λ low. low) (λ none. omega (arith, none, some)) fits

conn_low : (b : Back) (c : Option seen.Holding) (n : ℕ) → HaveSeats b.servers n → IfSome c (λ x. Contains (servers_of b) (seen.conn_server x)) → IfSome c (λ x. (seen.conn_server x).0 < n)
conn_low b None n have r = tt
conn_low b (Some x) n have r = routed_seat b (seen.conn_server x) n have r

entry_around : (config : Meaning) (t : ThreadNo) (n : SessionNo) (c : Option seen.Holding) (seats : List History) → are_numbered 0 (all_servers config.backs) ≡ true → SeatsServe t seats (all_servers config.backs)
    → HoldsConn t n c 0 seats → RestsUnderNever config c → ConnOnLoop t c → (b : Back) → HaveSeats b.servers (length seats) → IfSome c (λ x. Contains (servers_of b) (seen.conn_server x)) → HasAround t n c seats
entry_around config t n c seats numbered serves holds never loop b have to_conn = record {
  loop = loop;
  never = never_at t config c seats serves (conn_low b c (length seats) have to_conn) never;
  servers = serves_numbered t 0 seats (all_servers config.backs) numbered serves;
  holds = holds;
}

entry_held : (t : ThreadNo) (n : SessionNo) (held : Option RestedNow) (seats : List History) → HasAround t n (resting held) seats → (b : Back) → HaveSeats b.servers (length seats)
    → IfSome (resting held) (λ x. Contains (servers_of b) (seen.conn_server x)) → HasHeld seats n held
entry_held t n None seats a b have to_conn = tt
entry_held t n (Some r) seats a b have to_conn = conn_own t n (seen.Resting r) seats a (routed_seat b r.server (length seats) have to_conn)

-- a session that goes on, as the parts of a step find it
pub entry_placed : (config : Meaning) (front : ℕ) (d : DeskNow) (s : StageNow) (seats : List History) → are_numbered 0 (all_servers config.backs) ≡ true → IsSound d s → IsGoing config (session_seen front d s)
    → SeatsServe d.worker seats (all_servers config.backs) → HoldsConn d.worker d.session (conn_seen s) 0 seats → (b : Back) → HaveSeats b.servers (length seats) → GoesTo b (conn_seen s) (chosen_seen s) → IsPlaced d s seats
entry_placed config front d (Reading held) seats numbered sound going serves holds b have goes =
    let around = entry_around config d.worker d.session (resting held) seats numbered serves holds going.never going.loops.conn b have (goes.to_conn) in
    record { set = record { stands = sound.0; numbered = record { counted = sound.2; on_loop = going.loops.client }; around = around; own = entry_held d.worker d.session held seats around b have goes.to_conn }; good = sound.1 }
entry_placed config front d (Choosing c) seats numbered sound going serves holds b have goes =
    let around = entry_around config d.worker d.session (resting c.held) seats numbered serves holds going.never going.loops.conn b have (goes.to_conn) in
    record { set = record { stands = sound.0; numbered = record { counted = sound.2; on_loop = going.loops.client }; around = around; own = entry_held d.worker d.session c.held seats around b have goes.to_conn }; good = sound.1 }
entry_placed config front d (Exchanging e) seats numbered sound going serves holds b have goes =
    let around = entry_around config d.worker d.session (Some (seen.Exchanging e.busy)) seats numbered serves holds going.never going.loops.conn b have (goes.to_conn) in
    record {
      set = record {
        stands = sound.0;
        numbered = record { counted = sound.2; on_loop = going.loops.client };
        around = around;
        own = conn_own d.worker d.session (seen.Exchanging e.busy) seats around (routed_seat b e.busy.server (length seats) have goes.to_conn);
      };
      good = sound.1;
    }
entry_placed config front d (Answering a) seats numbered sound going serves holds b have goes =
    let around = entry_around config d.worker d.session (resting a.held) seats numbered serves holds going.never going.loops.conn b have (goes.to_conn) in
    record { set = record { stands = sound.0; numbered = record { counted = sound.2; on_loop = going.loops.client }; around = around; own = entry_held d.worker d.session a.held seats around b have goes.to_conn }; good = sound.1 }
entry_placed config front d Left seats numbered sound going serves holds b have goes = absurd (true_false going.going)
  where
    true_false : true ≡ false → ⊥
    true_false e = cc

-- its server, whether or not its connection rests with it
pub entry_routed : (b : Back) (d : DeskNow) (s : StageNow) → IsSound d s → GoesTo b (conn_seen s) (chosen_seen s) → IsRoutedTo b s
entry_routed b d (Reading held) sound g = g
entry_routed b d (Choosing c) sound g = record { to_conn = g.to_conn; to_chosen = by_held c.held c.server sound.1 g.to_conn g.to_chosen }
  where
    by_held : (held : Option RestedNow) (v : Option ServerNo) → GoesToHeld held v → IfSome (resting held) (λ x. Contains (servers_of b) (seen.conn_server x)) → IfSome (unless_held held v) (λ x. Contains (servers_of b) x)
        → IfSome v (λ x. Contains (servers_of b) x)
    by_held None v good conn chosen = chosen
    by_held (Some r) v good conn chosen = subst (λ (o : Option ServerNo). IfSome o (λ x. Contains (servers_of b) x)) (sym good) conn
entry_routed b d (Exchanging e) sound g = record { to_conn = g.to_conn; to_chosen = tt }
entry_routed b d (Answering a) sound g = record { to_conn = g.to_conn; to_chosen = tt }
entry_routed b d Left sound g = record { to_conn = tt; to_chosen = tt }

-- the same, from what a worker keeps
pub entry_all : (config : Meaning) (front : ℕ) (d : DeskNow) (s : StageNow) (seats : List History) → are_numbered 0 (all_servers config.backs) ≡ true → IsSound d s → IsGoing config (session_seen front d s)
    → SeatsServe d.worker seats (all_servers config.backs) → HoldsConn d.worker d.session (conn_seen s) 0 seats → IsPlaced d s seats
entry_all config front d s seats numbered sound going serves holds =
    let r = going.routed in
    entry_placed config front d s seats numbered sound going serves holds r.back (have_seats d.worker config.backs r.front.back r.back seats numbered r.back_is serves) r.goes

-- a frontend's backend is there
pub back_there : (fronts : List Front) (backs : List Back) (i : ℕ) (f : Front) → are_served fronts backs ≡ true → slice_get fronts i ≡ Some f → (b : Back) × (slice_get backs f.back ≡ Some b)
back_there [] backs i f served there = cc
back_there (x ∷ fronts) backs zero f served there =
    let at : slice_get backs x.back ≡ slice_get backs f.back = ap (λ (y : Front). slice_get backs y.back) (some_same x f there) in
    one_back (slice_get backs f.back) (subst (λ (o : Option Back). serves o ≡ true) at (and_left (serves (slice_get backs x.back)) (are_served fronts backs) served))
  where
    one_back : (o : Option Back) → serves o ≡ true → (b : Back) × (o ≡ Some b)
    one_back None e = cc
    one_back (Some b) e = (b, refl)
back_there (x ∷ fronts) backs (suc i) f served there = back_there fronts backs i f (and_right (serves (slice_get backs x.back)) (are_served fronts backs) served) there

-- what is read at a place is what is there
pub read_at : {A : Type 0} (xs : List A) (i : ℕ) (x : A) → i < length xs → x ≡ get_or xs i x → slice_get xs i ≡ Some x
read_at [] i x low is = absurd (omega (arith, low))
read_at (y ∷ xs) zero x low is = ap Some (sym is)
read_at (y ∷ xs) (suc i) x low is = read_at xs i x (omega (arith, low)) is
