-- What the parts of a step ask, from what a session and its worker keep between calls.
use Rattle.std.proofs.Common.{◌≡◌, ◌≤◌, ◌<◌, ℕ, zero, suc, Bool, true, false, List, [], ◌∷◌, get_or, length, refl, sym, ap, subst, ◌∙◌, arith, Some, None}
use Rattle.std.specs.List.{slice_get}
use Rattle.std.proofs.lemmas.List.{length-map}
use Rattle.hx_base.specs.declared.numbers.ThreadNo.{ThreadNo}
use Rattle.hx_config.specs.declared.parts.Back.{Back}
use Rattle.hx_config.specs.declared.parts.Front.{Front}
use Rattle.hx_config.specs.declared.parts.Server.{Server}
use Rattle.hx_config.specs.Limits.{IsWithin, all_servers}
use Rattle.hx_config.specs.Meaning.{Meaning}
use Rattle.hx_pool.specs.SeatView.{About, History}
use Rattle.hx_connecting.specs.Around.{abouts}
use Rattle.hx_connecting.specs.Choice.{HaveSeats}
use Rattle.hx_connecting.specs.Holds.{HoldsConn}
use Rattle.hx_session.specs.Desks.{DeskNow}
use Rattle.hx_session.specs.Stages.{StageNow, Reading, Choosing, Exchanging, Answering, Left}
use Rattle.hx_session.specs.Seen.{conn_seen, chosen_seen, over_seen, session_seen}
use Rattle.hx_session.specs.Standing.{IsSound, IsPlaced, IsRoutedTo}
use Rattle.hx_session.specs.Fits.{SeatsServe, GoesTo, IsGoing, TurnsFit}
use Rattle.hx_session.proofs.EntryLemmas.{below, entry_all, entry_routed, few_servers, have_seats, read_at, serves_again, serves_length, some_server, turn_low}

pub not_over : (b : Bool) → (b ≡ true → ⊥) → b ≡ false
not_over true k = absurd (k refl)
not_over false k = refl

-- the frontend and the backend of the session's route are those at its places
goes_there : (config : Meaning) (front : ℕ) (d : DeskNow) (s : StageNow) (f : Front) (b : Back) → slice_get config.fronts front ≡ Some f → slice_get config.backs f.back ≡ Some b
    → IsGoing config (session_seen front d s) → GoesTo b (conn_seen s) (chosen_seen s)
goes_there config front d s f b front_is back_is going =
    let r = going.routed in
    let same_f : r.front ≡ f = some_same r.front f (sym r.front_is ∙ front_is) in
    let same_b : r.back ≡ b = some_same r.back b (sym r.back_is ∙ (ap (λ (x : Front). slice_get config.backs x.back) same_f ∙ back_is)) in
    subst (λ (x : Back). GoesTo x (conn_seen s) (chosen_seen s)) same_b r.goes
  where
    some_same : {A : Type 0} (x y : A) → Some x ≡ Some y → x ≡ y
    some_same x y e = cc

-- what a session that goes on finds at its step
pub record Enters (b : Back) (servers : ℕ) (d : DeskNow) (s : StageNow) (seats : List History) : Type 0 where
  pub few : length b.servers ≤ 32
  pub some : 1 ≤ length b.servers
  pub have : HaveSeats b.servers (length seats)
  pub all : length seats ≡ servers
  pub placed : IsPlaced d s seats
  pub routed : IsRoutedTo b s

pub enters : (threads : ℕ) (config : Meaning) (front : ℕ) (d : DeskNow) (s : StageNow) (seats : List History) (f : Front) (b : Back) → IsWithin threads config.fronts config.backs
    → slice_get config.fronts front ≡ Some f → slice_get config.backs f.back ≡ Some b → IsSound d s → IsGoing config (session_seen front d s) → SeatsServe d.worker seats (all_servers config.backs)
    → HoldsConn d.worker d.session (conn_seen s) 0 seats → Enters b (length (all_servers config.backs)) d s seats
enters threads config front d s seats f b within front_is back_is sound going serves holds = record {
  few = omega (arith, few_servers config.backs f.back b back_is, within.servers_in);
  some = some_server config.fronts config.backs front f b within.served front_is back_is;
  have = have_seats d.worker config.backs f.back b seats within.numbered back_is serves;
  all = serves_length d.worker seats (all_servers config.backs) serves;
  placed = entry_all config front d s seats within.numbered sound going serves holds;
  routed = entry_routed b d s sound (goes_there config front d s f b front_is back_is going);
}

-- the turn at a backend's place is one of its servers'
pub turn_at : (config : Meaning) (turns : List ℕ) (i t : ℕ) (b : Back) → TurnsFit config turns → i < length turns → t ≡ get_or turns i t → slice_get config.backs i ≡ Some b → 1 ≤ length b.servers → t < length b.servers
turn_at config turns i t b fit low is back some = turn_low (length b.servers) t (fit.each i t b (read_at turns i t low is) back) some

-- a session that has left has no loop
pub over_left : (d : DeskNow) (s : StageNow) → IsSound d s → over_seen s ≡ true → d.client.on_loop ≡ None
over_left d Left sound e = sound.2
over_left d (Reading held) sound e = cc
over_left d (Choosing c) sound e = cc
over_left d (Exchanging x) sound e = cc
over_left d (Answering a) sound e = cc

-- the seats are as many as they were
pub abouts_count : (olds news : List History) → abouts news ≡ abouts olds → length news ≡ length olds
abouts_count olds news e = sym (length-map news (λ h. h.about)) ∙ ap (λ (xs : List About). length xs) e ∙ length-map olds (λ h. h.about)

-- and they serve as they did
pub serves_on : (t t' : ThreadNo) (olds news : List History) (ss : List Server) → t' ≡ t → abouts news ≡ abouts olds → SeatsServe t olds ss → SeatsServe t' news ss
serves_on t t' olds news ss same e k = subst (λ (x : ThreadNo). SeatsServe x news ss) (sym same) (serves_again t olds news ss e k)

-- where it isn't over
pub goes_on_here : (b : Bool) → (b ≡ true → false ≡ true) → b ≡ false
goes_on_here b k = not_over b (λ e. untrue (k e))
  where
    untrue : false ≡ true → ⊥
    untrue e = cc

turn_there : (xs : List ℕ) (i : ℕ) → i < length xs → slice_get xs i ≡ Some (get_or xs i 0)
turn_there [] i low = absurd (omega (arith, low))
turn_there (x ∷ xs) zero low = refl
turn_there (x ∷ xs) (suc i) low = turn_there xs i (omega (arith, low))

-- the turn that is read there too
pub turn_here : (config : Meaning) (turns : List ℕ) (i : ℕ) (b : Back) → TurnsFit config turns → slice_get config.backs i ≡ Some b → 1 ≤ length b.servers → get_or turns i 0 < length b.servers
turn_here config turns i b fit back some =
    let low : i < length turns = omega (arith, below config.backs i b back, fit.count) in
    turn_low (length b.servers) (get_or turns i 0) (fit.each i (get_or turns i 0) b (turn_there turns i low) back) some
