-- A session whose server is chosen: the gates that were read change nothing of what it has.
use Rattle.std.proofs.Common.{◌≡◌, ◌<◌, ◌+◌, ℕ, zero, suc, Bool, true, false, not, List, [], ◌∷◌, length, map, refl, sym, ap, subst, ◌∙◌, arith, Option, Some, None}
use Rattle.std.specs.Prelude.{IfSome, Contains, nat_lt, if◌then◌else◌}
use Rattle.std.specs.List.{slice_get, slice_set}
use Rattle.std.proofs.lemmas.Bool.{ltb-true}
use Rattle.hx_base.specs.declared.numbers.ServerNo.{ServerNo}
use Rattle.hx_base.specs.declared.numbers.SessionNo.{SessionNo}
use Rattle.hx_base.specs.declared.numbers.ThreadNo.{ThreadNo}
use Rattle.hx_base.specs.declared.rules.Mode.TheVariants.{Never}
use Rattle.hx_config.specs.declared.parts.Back.{Back}
use Rattle.hx_config.specs.declared.parts.Server.{Server}
use Rattle.hx_conn.specs.Conns.{RestedNow}
use Rattle.hx_pool.specs.declared.entries.Entry.TheVariants.{Gate}
use Rattle.hx_pool.specs.History.{plain}
use Rattle.hx_pool.specs.Opening.{ReadsGate}
use Rattle.hx_pool.specs.SeatView.{About, History}
use Rattle.hx_pool.proofs.HeldCalls.{held_apart}
use Rattle.hx_connecting.specs.Around.{RestsAtNever, HasAround, abouts, resting}
use Rattle.hx_connecting.specs.Choice.{AskedAll, Chooses, next_turn}
use Rattle.hx_connecting.specs.Choosing.{servers_of}
use Rattle.hx_connecting.specs.Closing.{AtSeat, HasHeld}
use Rattle.hx_connecting.specs.Holds.{HasJust, conn_at}
use Rattle.hx_connecting.specs.Sessions as seen
use Rattle.hx_connecting.proofs.AroundLemmas.{holds_here, holds_set, numbered_set, abouts_set}
use Rattle.hx_session.specs.Beginning.{ChoosesServer, ChoosesIn}
use Rattle.hx_session.specs.Desks.{DeskNow}
use Rattle.hx_session.specs.Stages.{StageNow, ChoosingNow, IsAhead, Reading, Choosing, Exchanging, Answering, Left}
use Rattle.hx_session.specs.Standing.{IsPlaced, IsRoutedTo, GoesToHeld}
use Rattle.hx_session.proofs.EntryLemmas.{conn_own, below}

gate_just : (old new : History) (n : SessionNo) (ready : Bool) (c : Option seen.Holding) → ReadsGate old new ready → HasJust old n c → HasJust new n c
gate_just old new n ready None k just = held_apart old new n (plain (Gate old.about.thread (not ready)) ∷ []) k.makes (tt, tt) ∙ just
gate_just old new n ready (Some c) k just = (
  just.0,
  held_apart old new n (plain (Gate old.about.thread (not ready)) ∷ []) k.makes (tt, tt) ∙ just.1,
  λ ne. just.2 (λ e. ne (ap (λ (a : About). a.rules.mode) k.makes.about ∙ e)),
)

heads : (a b : About) (xs ys : List About) → a ∷ xs ≡ b ∷ ys → a ≡ b
heads a b xs ys e = cc

tails : (a b : About) (xs ys : List About) → a ∷ xs ≡ b ∷ ys → xs ≡ ys
tails a b xs ys e = cc

one_history : (a b : History) → Some a ≡ Some b → a ≡ b
one_history a b e = cc

never_seat : (olds news : List History) (j : ℕ) → abouts news ≡ abouts olds → AtSeat olds j (λ h. h.about.rules.mode ≡ Never) → AtSeat news j (λ h. h.about.rules.mode ≡ Never)
never_seat [] news j same (h, there, mode) = cc
never_seat (o ∷ olds) [] j same k = cc
never_seat (o ∷ olds) (h ∷ news) zero same (x, there, mode) =
    (h, refl, ap (λ (a : About). a.rules.mode) (heads h.about o.about (abouts news) (abouts olds) same) ∙ (ap (λ (y : History). y.about.rules.mode) (one_history o x there) ∙ mode))
never_seat (o ∷ olds) (h ∷ news) (suc j) same k = never_seat olds news j (tails h.about o.about (abouts news) (abouts olds) same) k

-- a connection rests where it did
pub never_again : (olds news : List History) (c : Option seen.Holding) → abouts news ≡ abouts olds → RestsAtNever olds c → RestsAtNever news c
never_again olds news None same k = tt
never_again olds news (Some (seen.Exchanging b)) same k = tt
never_again olds news (Some (seen.Resting r)) same k = never_seat olds news r.server.0 same k

gate_around : (t : ThreadNo) (n : SessionNo) (c : Option seen.Holding) (j : ℕ) (olds : List History) (old new : History) (ready : Bool) → slice_get olds j ≡ Some old → ReadsGate old new ready
    → HasAround t n c olds → HasAround t n c (slice_set olds j new)
gate_around t n c j olds old new ready there k a = record {
  loop = a.loop;
  never = never_again olds (slice_set olds j new) c (abouts_set j olds old new there k.makes.about) a.never;
  servers = numbered_set 0 j olds old new there k.makes.about a.servers;
  holds = holds_set t n c c 0 j olds old new there k.makes.about k.makes.one (gate_just old new n ready (conn_at c (0 + j)) k (holds_here t n c 0 j olds old there a.holds).2) (λ i le ne. refl) a.holds;
}

pub asked_around : (t : ThreadNo) (n : SessionNo) (c : Option seen.Holding) (xs : List Server) (ready : Bool) (olds news : List History) → AskedAll xs ready olds news → HasAround t n c olds → HasAround t n c news
asked_around t n c [] ready olds news same a = subst (HasAround t n c) (sym same) a
asked_around t n c (x ∷ xs) ready olds news (old, new, mids, there, reads, is, rest) a =
    asked_around t n c xs ready mids news rest (subst (HasAround t n c) (sym is) (gate_around t n c x.no.0 olds old new ready there reads a))

pub asked_abouts : (xs : List Server) (ready : Bool) (olds news : List History) → AskedAll xs ready olds news → abouts news ≡ abouts olds
asked_abouts [] ready olds news same = ap abouts same
asked_abouts (x ∷ xs) ready olds news (old, new, mids, there, reads, is, rest) =
    asked_abouts xs ready mids news rest ∙ (ap abouts is ∙ abouts_set x.no.0 olds old new there reads.makes.about)

-- what a choice leaves
chosen_around : (t : ThreadNo) (n : SessionNo) (c : Option seen.Holding) (servers : List Server) (turn turn' : ℕ) (olds news : List History) (v : Option ServerNo) → Chooses servers turn turn' olds news v
    → HasAround t n c olds → HasAround t n c news
chosen_around t n c servers turn turn' olds news None k a = asked_around t n c _ false olds news k.drained a
chosen_around t n c servers turn turn' olds news (Some v) k a =
    asked_around t n c (k.chosen ∷ []) true k.mids news k.ready (asked_around t n c k.passed false olds k.mids k.drained a)

chosen_abouts : (servers : List Server) (turn turn' : ℕ) (olds news : List History) (v : Option ServerNo) → Chooses servers turn turn' olds news v → abouts news ≡ abouts olds
chosen_abouts servers turn turn' olds news None k = asked_abouts _ false olds news k.drained
chosen_abouts servers turn turn' olds news (Some v) k = asked_abouts (k.chosen ∷ []) true k.mids news k.ready ∙ asked_abouts k.passed false olds k.mids k.drained

server_around : (t : ThreadNo) (n : SessionNo) (c : Option seen.Holding) (servers : List Server) (turn turn' : ℕ) (olds news : List History) (v w : Option ServerNo) → ChoosesServer servers turn turn' olds news v w
    → HasAround t n c olds → HasAround t n c news
server_around t n c servers turn turn' olds news (Some v) w k a = subst (HasAround t n c) (sym k.1) a
server_around t n c servers turn turn' olds news None w k a = chosen_around t n c servers turn turn' olds news w k a

server_abouts : (servers : List Server) (turn turn' : ℕ) (olds news : List History) (v w : Option ServerNo) → ChoosesServer servers turn turn' olds news v w → abouts news ≡ abouts olds
server_abouts servers turn turn' olds news (Some v) w k = ap abouts k.1
server_abouts servers turn turn' olds news None w k = chosen_abouts servers turn turn' olds news w k

pub in_abouts : (servers : List Server) (turn turn' : ℕ) (olds news : List History) (s s' : StageNow) → ChoosesIn servers turn turn' olds news s s' → abouts news ≡ abouts olds
in_abouts servers turn turn' olds news (Choosing c) s' k = server_abouts servers turn turn' olds news c.server k.0.server k.2.server
in_abouts servers turn turn' olds news (Reading held) s' k = ap abouts k.1
in_abouts servers turn turn' olds news (Exchanging e) s' k = ap abouts k.1
in_abouts servers turn turn' olds news (Answering a) s' k = ap abouts k.1
in_abouts servers turn turn' olds news Left s' k = ap abouts k.1

about_length : (olds news : List History) → abouts news ≡ abouts olds → length news ≡ length olds
about_length [] [] e = refl
about_length [] (h ∷ news) e = cc
about_length (o ∷ olds) [] e = cc
about_length (o ∷ olds) (h ∷ news) e = omega (arith, about_length olds news (tails h.about o.about (abouts news) (abouts olds) e))

held_again : (t : ThreadNo) (n : SessionNo) (held : Option RestedNow) (olds news : List History) → length news ≡ length olds → HasHeld olds n held → HasAround t n (resting held) news → HasHeld news n held
held_again t n None olds news size own a = tt
held_again t n (Some r) olds news size own a = conn_own t n (seen.Resting r) news a (omega (arith, size, below olds r.server.0 own.0 own.1))

goes_again : (servers : List Server) (turn turn' : ℕ) (olds news : List History) (held : Option RestedNow) (v w : Option ServerNo) → ChoosesServer servers turn turn' olds news v w → GoesToHeld held v → GoesToHeld held w
goes_again servers turn turn' olds news None v w k g = tt
goes_again servers turn turn' olds news (Some r) (Some v) w k g = k.0 ∙ g
goes_again servers turn turn' olds news (Some r) None w k g = cc

ahead_again : (bytes : List ℕ) (c c' : ChoosingNow) → c'.length ≡ c.length → c'.kind ≡ c.kind → IsAhead bytes c.length c.kind → IsAhead bytes c'.length c'.kind
ahead_again bytes c c' length kind a = record { ask = a.ask; is = a.is; length_is = length ∙ a.length_is; kind_is = kind ∙ a.kind_is }

-- a session whose server was chosen is placed as before
pub in_placed : (d : DeskNow) (servers : List Server) (turn turn' : ℕ) (olds news : List History) (s s' : StageNow) → ChoosesIn servers turn turn' olds news s s' → IsPlaced d s olds → IsPlaced d s' news
in_placed d servers turn turn' olds news (Choosing c) s' k p =
    let c' = k.0 in
    let f = k.2 in
    let around = server_around d.worker d.session (resting c.held) servers turn turn' olds news c.server c'.server f.server p.set.around in
    let size = about_length olds news (server_abouts servers turn turn' olds news c.server c'.server f.server) in
    subst (λ (x : StageNow). IsPlaced d x news) (sym k.1) (record {
      set = record {
        stands = (p.set.stands.0, ahead_again d.from.bytes c c' f.length f.kind p.set.stands.1);
        numbered = p.set.numbered;
        around = subst (λ (h : Option RestedNow). HasAround d.worker d.session (resting h) news) (sym f.held) around;
        own = subst (λ (h : Option RestedNow). HasHeld news d.session h) (sym f.held) (held_again d.worker d.session c.held olds news size p.set.own around);
      };
      good = subst (λ (h : Option RestedNow). GoesToHeld h c'.server) (sym f.held) (goes_again servers turn turn' olds news c.held c.server c'.server f.server p.good);
    })
in_placed d servers turn turn' olds news (Reading held) s' k p = subst (λ (x : StageNow). IsPlaced d x news) (sym k.0) (subst (IsPlaced d (Reading held)) (sym k.1) p)
in_placed d servers turn turn' olds news (Exchanging e) s' k p = subst (λ (x : StageNow). IsPlaced d x news) (sym k.0) (subst (IsPlaced d (Exchanging e)) (sym k.1) p)
in_placed d servers turn turn' olds news (Answering a) s' k p = subst (λ (x : StageNow). IsPlaced d x news) (sym k.0) (subst (IsPlaced d (Answering a)) (sym k.1) p)
in_placed d servers turn turn' olds news Left s' k p = absurd p.good

contains_at : (ss : List Server) (k : ℕ) (s : Server) (v : ServerNo) → slice_get ss k ≡ Some s → s.no ≡ v → Contains (map (λ (x : Server). x.no) ss) v
contains_at [] k s v there is = cc
contains_at (x ∷ ss) zero s v there is = (zero, omega arith, ap (λ (y : Server). y.no) (one x s there) ∙ is)
  where
    one : (a b : Server) → Some a ≡ Some b → a ≡ b
    one a b e = cc
contains_at (x ∷ ss) (suc k) s v there is = let r = contains_at ss k s v there is in (suc r.0, omega (arith, r.1), r.2)

server_routed : (back : Back) (turn turn' : ℕ) (olds news : List History) (v w : Option ServerNo) → ChoosesServer back.servers turn turn' olds news v w → IfSome v (λ x. Contains (servers_of back) x)
    → IfSome w (λ x. Contains (servers_of back) x)
server_routed back turn turn' olds news (Some v) w k r = subst (λ (o : Option ServerNo). IfSome o (λ x. Contains (servers_of back) x)) (sym k.0) r
server_routed back turn turn' olds news None None k r = tt
server_routed back turn turn' olds news None (Some w) k r = contains_at back.servers k.place k.chosen w k.there k.is

pub in_routed : (back : Back) (turn turn' : ℕ) (olds news : List History) (s s' : StageNow) → ChoosesIn back.servers turn turn' olds news s s' → IsRoutedTo back s → IsRoutedTo back s'
in_routed back turn turn' olds news (Choosing c) s' k r =
    let f = k.2 in
    subst (IsRoutedTo back) (sym k.1) (record {
      to_conn = subst (λ (h : Option RestedNow). IfSome (resting h) (λ x. Contains (servers_of back) (seen.conn_server x))) (sym f.held) r.to_conn;
      to_chosen = server_routed back turn turn' olds news c.server k.0.server f.server r.to_chosen;
    })
in_routed back turn turn' olds news (Reading held) s' k r = subst (IsRoutedTo back) (sym k.0) r
in_routed back turn turn' olds news (Exchanging e) s' k r = subst (IsRoutedTo back) (sym k.0) r
in_routed back turn turn' olds news (Answering a) s' k r = subst (IsRoutedTo back) (sym k.0) r
in_routed back turn turn' olds news Left s' k r = subst (IsRoutedTo back) (sym k.0) r

next_below : (servers : List Server) (at : ℕ) → at < length servers → next_turn servers at < length servers
next_below servers at low = by_test (nat_lt (at + 1) (length servers)) (λ e. ltb-true (at + 1) (length servers) e)
  where
    by_test : (b : Bool) → (b ≡ true → at + 1 < length servers) → (if b then at + 1 else 0) < length servers
    by_test true more = more refl
    by_test false more = omega (arith, low)

server_turn : (servers : List Server) (turn turn' : ℕ) (olds news : List History) (v w : Option ServerNo) → ChoosesServer servers turn turn' olds news v w → turn < length servers → turn' < length servers
server_turn servers turn turn' olds news (Some v) w k low = omega (arith, k.2, low)
server_turn servers turn turn' olds news None None k low = omega (arith, k.turn_same, low)
server_turn servers turn turn' olds news None (Some w) k low =
    subst (λ (x : ℕ). x < length servers) (sym k.turn_after) (next_below servers k.place (below servers k.place k.chosen k.there))

pub in_turn_below : (servers : List Server) (turn turn' : ℕ) (olds news : List History) (s s' : StageNow) → ChoosesIn servers turn turn' olds news s s' → turn < length servers → turn' < length servers
in_turn_below servers turn turn' olds news (Choosing c) s' k low = server_turn servers turn turn' olds news c.server k.0.server k.2.server low
in_turn_below servers turn turn' olds news (Reading held) s' k low = omega (arith, k.2, low)
in_turn_below servers turn turn' olds news (Exchanging e) s' k low = omega (arith, k.2, low)
in_turn_below servers turn turn' olds news (Answering a) s' k low = omega (arith, k.2, low)
in_turn_below servers turn turn' olds news Left s' k low = omega (arith, k.2, low)
