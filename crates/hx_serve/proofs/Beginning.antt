-- Seats at which nothing has happened hold nothing.
use Rattle.std.proofs.Common.{◌≡◌, ◌<◌, ◌≤◌, ℕ, zero, suc, List, [], ◌∷◌, length, refl, sym, ap, subst, ◌∙◌, arith, Some, None}
use Rattle.std.specs.Prelude.{slice_get, ◌+◌, ◌++◌, take}
use Rattle.hx_base.specs.declared.numbers.SessionNo.{SessionNo}
use Rattle.atomic_table.specs.Seated.{TableId}
use Rattle.hx_base.specs.declared.numbers.ServerNo.{ServerNo}
use Rattle.hx_base.specs.declared.numbers.ThreadNo.{ThreadNo}
use Rattle.hx_places.specs.Seats.{PlaceView, first_seat, history_of}
use Rattle.hx_pool.specs.declared.board.BoardTerms.{BoardTerms}
use Rattle.hx_config.specs.declared.parts.Server.{Server}
use Rattle.hx_config.specs.Limits.{all_servers}
use Rattle.hx_config.specs.Meaning.{Meaning}
use Rattle.hx_pool.specs.declared.entries.Note.{Note}
use Rattle.hx_pool.specs.Held.{held_by}
use Rattle.hx_pool.specs.SeatView.{History, IsOneHistory, StandsInOneHistory}
use Rattle.hx_connecting.specs.Journals.{JournalRoom}
use Rattle.hx_session.specs.Fits.{SeatsServe}
use Rattle.hx_worker.specs.Workers.{Each, HasSeats, new_worker}
use Rattle.hx_serve.specs.Begins.{BeginsFor, BeginFor, IsNew}

some_is : {A : Type 0} (a b : A) → Some a ≡ Some b → a ≡ b
some_is a b e = cc

one_begins : (t : ThreadNo) (s : Server) (h : History) → BeginsFor t s.no s.rules h → StandsInOneHistory h
one_begins t s h b =
    subst (λ (xs : List Note). IsOneHistory h.about xs h.mine) (sym b.seen)
    (subst (λ (xs : List Note). IsOneHistory h.about [] xs) (sym b.mine)
    (record { legal = tt; mode = tt; limit = tt; own_part = refl; threads = tt; inside = b.inside }))

serve_begin : (t : ThreadNo) (ss : List Server) (hs : List History) → BeginFor t ss hs → SeatsServe t hs ss
serve_begin t [] [] b = tt
serve_begin t [] (h ∷ hs) b = elim b [ ]
serve_begin t (s ∷ ss) [] b = elim b [ ]
serve_begin t (s ∷ ss) (h ∷ hs) b = (b.0.thread_is, b.0.rules_are, b.0.server_is, serve_begin t ss hs b.1)

each_begin : (t : ThreadNo) (ss : List Server) (hs : List History) → BeginFor t ss hs → Each StandsInOneHistory hs
each_begin t [] [] b = tt
each_begin t [] (h ∷ hs) b = elim b [ ]
each_begin t (s ∷ ss) [] b = elim b [ ]
each_begin t (s ∷ ss) (h ∷ hs) b = (one_begins t s h b.0, each_begin t ss hs b.1)

none_held : (t : ThreadNo) (ss : List Server) (hs : List History) (i : ℕ) (h : History) (n : SessionNo) → BeginFor t ss hs → slice_get hs i ≡ Some h
    → held_by h.mine n ≡ []
none_held t [] [] i h n b e = cc
none_held t [] (k ∷ hs) i h n b e = elim b [ ]
none_held t (s ∷ ss) [] i h n b e = elim b [ ]
none_held t (s ∷ ss) (k ∷ hs) zero h n b e = ap (λ (xs : List Note). held_by xs n) (ap (λ (x : History). x.mine) (sym (some_is k h e)) ∙ b.0.mine)
none_held t (s ∷ ss) (k ∷ hs) (suc i) h n b e = none_held t ss hs i h n b.1 e

pub begin_seats : (t : ThreadNo) (config : Meaning) (hs : List History) (js : List JournalRoom) → BeginFor t (all_servers config.backs) hs
    → HasSeats (new_worker t config hs js)
begin_seats t config hs js b = record {
  serve = serve_begin t (all_servers config.backs) hs b;
  owns = λ i h n e. none_held t (all_servers config.backs) hs i h n b e;
  one = each_begin t (all_servers config.backs) hs b;
}

begin_next : (t : ThreadNo) (ss : List Server) (hs : List History) (i : ℕ) (s : Server) (h : History) → BeginFor t (take i ss) hs → slice_get ss i ≡ Some s
    → BeginsFor t s.no s.rules h → BeginFor t (take (suc i) ss) (hs ++ h ∷ [])
begin_next t [] hs i s h b e one = cc
begin_next t (x ∷ ss) [] zero s h b e one = (subst (λ (y : Server). BeginsFor t y.no y.rules h) (sym (some_is x s e)) one, tt)
begin_next t (x ∷ ss) (k ∷ hs) zero s h b e one = elim b [ ]
begin_next t (x ∷ ss) [] (suc i) s h b e one = elim b [ ]
begin_next t (x ∷ ss) (k ∷ hs) (suc i) s h b e one = (b.0, begin_next t ss hs i s h b.1 e one)

-- one more
pub begin_more : (t : ThreadNo) (ss : List Server) (hs : List History) (i : ℕ) (s : Server) (h : History) → BeginFor t (take i ss) hs → slice_get ss i ≡ Some s
    → BeginsFor t s.no s.rules h → BeginFor t (take (i + 1) ss) (hs ++ h ∷ [])
begin_more t ss hs i s h b e one =
    let same : suc i ≡ i + 1 = omega arith in
    subst (λ (n : ℕ). BeginFor t (take n ss) (hs ++ h ∷ [])) same (begin_next t ss hs i s h b e one)

-- behind the last server
pub begin_all : (t : ThreadNo) (ss : List Server) (hs : List History) (i : ℕ) → BeginFor t (take i ss) hs → slice_get ss i ≡ None → BeginFor t ss hs
begin_all t [] [] i b e = tt
begin_all t [] (k ∷ hs) zero b e = elim b [ ]
begin_all t [] (k ∷ hs) (suc i) b e = elim b [ ]
begin_all t (x ∷ ss) hs zero b e = cc
begin_all t (x ∷ ss) [] (suc i) b e = elim b [ ]
begin_all t (x ∷ ss) (k ∷ hs) (suc i) b e = (b.0, begin_all t ss hs i b.1 e)

-- a seat that a board gives first
pub first_is_new : (terms : BoardTerms) (t : ThreadNo) (id : TableId) (s : PlaceView) → s ≡ first_seat terms t id → IsNew terms.server s
first_is_new terms t id s e =
    subst (λ (x : PlaceView). IsNew terms.server x) (sym e) (record { server_is = refl; seen = refl; mine = refl; idle = refl })

-- a whole seat made of a new one
pub begins_new : (server : ServerNo) (s : PlaceView) (h : History) → IsNew server s → h ≡ history_of s None → s.view.thread.0 < s.view.terms.threads
    → s.view.terms.threads ≤ 16 → BeginsFor s.view.thread server s.view.terms.rules h
begins_new server s h new is low few =
    subst (λ (x : History). BeginsFor s.view.thread server s.view.terms.rules x) (sym is)
    (record { thread_is = refl; server_is = new.server_is; rules_are = refl; inside = (low, few); seen = new.seen; mine = new.mine })

-- the last of a list, and those before it
pub last_of : {A : Type 0} (xs : List A) (x : A) → slice_get (xs ++ x ∷ []) (length xs) ≡ Some x
last_of [] x = refl
last_of (y ∷ xs) x = last_of xs x

pub before_last : {A : Type 0} (xs : List A) (x : A) (k : ℕ) (y : A) → slice_get xs k ≡ Some y → slice_get (xs ++ x ∷ []) k ≡ Some y
before_last [] x k y e = cc
before_last (z ∷ xs) x zero y e = e
before_last (z ∷ xs) x (suc k) y e = before_last xs x k y e

-- what a pop gave, and what it left
pub popped : {A : Type 0} (xs ys : List A) (x : A) → xs ≡ ys ++ x ∷ [] → slice_get xs (length ys) ≡ Some x
popped xs ys x e = subst (λ l. slice_get l (length ys) ≡ Some x) (sym e) (last_of ys x)

pub left_by_pop : {A : Type 0} (xs ys : List A) (x : A) (k : ℕ) (y : A) → xs ≡ ys ++ x ∷ [] → slice_get ys k ≡ Some y → slice_get xs k ≡ Some y
left_by_pop xs ys x k y e h = subst (λ l. slice_get l k ≡ Some y) (sym e) (before_last ys x k y h)
