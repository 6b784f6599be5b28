-- Seats at which nothing has happened hold nothing.
use Rattle.std.proofs.Common.{◌≡◌, ◌<◌, ℕ, zero, suc, List, [], ◌∷◌, length, map, refl, sym, ap, subst, ◌∙◌, arith, Some, None}
use Rattle.std.proofs.lemmas.List.Elements.{All-push, All-head, All-tail}
use Rattle.std.specs.Prelude.{slice_get, ◌+◌, ◌-◌, ◌++◌, take, Bool, true, cond, All}
use Rattle.hx_base.specs.declared.numbers.SessionNo.{SessionNo}
use Rattle.hx_base.specs.declared.numbers.ThreadNo.{ThreadNo}
use Rattle.hx_config.specs.declared.parts.Server.{Server}
use Rattle.hx_config.specs.Limits.{IsWithin, all_servers}
use Rattle.hx_config.specs.Meaning.{Meaning}
use Rattle.hx_plain.specs.PlainSeat.{first_thread}
use Rattle.hx_pool.specs.declared.entries.Note.{Note}
use Rattle.hx_pool.specs.Held.{held_by}
use Rattle.hx_pool.specs.SeatView.{About, History, IsOneHistory, StandsInOneHistory}
use Rattle.hx_connecting.specs.Around.{abouts}
use Rattle.hx_connecting.specs.Journals.{JournalRoom, room_of}
use Rattle.hx_pool.specs.History.{marks_of}
use Rattle.hx_pool.specs.Journal.{Journal, journal_from}
use Rattle.hx_session.specs.Fits.{SeatsServe}
use Rattle.hx_worker.specs.Workers.{Each, HasSeats, new_worker}
use Rattle.hx_run.specs.Begins.{BeginsFor, BeginFor}
use Rattle.hx_run.specs.Overs.{AreAlone, IsKept}
use Rattle.hx_run.specs.Runs.{IsWorking}

some_is : {A : Type 0} (a b : A) → Some a ≡ Some b → a ≡ b
some_is a b e = cc

nothing_yet : (a : About) → a.thread ≡ first_thread → a.threads ≡ 1 → IsOneHistory a [] []
nothing_yet a t n = record {
  legal = tt;
  mode = tt;
  limit = tt;
  own_part = refl;
  threads = tt;
  inside = (omega (arith, ap (λ (x : ThreadNo). x.0) t, n), omega (arith, n));
}

one_begins : (s : Server) (h : History) → BeginsFor s h → StandsInOneHistory h
one_begins s h b =
    subst (λ (xs : List Note). IsOneHistory h.about xs h.mine) (sym b.unused.seen)
    (subst (λ (xs : List Note). IsOneHistory h.about [] xs) (sym b.unused.mine)
    (nothing_yet h.about (ap (λ (a : About). a.thread) b.about) (ap (λ (a : About). a.threads) b.about)))

serve_begin : (ss : List Server) (hs : List History) → BeginFor ss hs → SeatsServe first_thread hs ss
serve_begin [] [] b = tt
serve_begin [] (h ∷ hs) b = elim b [ ]
serve_begin (s ∷ ss) [] b = elim b [ ]
serve_begin (s ∷ ss) (h ∷ hs) b =
    (ap (λ (a : About). a.thread) b.0.about, ap (λ (a : About). a.rules) b.0.about, ap (λ (a : About). a.server) b.0.about, serve_begin ss hs b.1)

each_begin : (ss : List Server) (hs : List History) → BeginFor ss hs → Each StandsInOneHistory hs
each_begin [] [] b = tt
each_begin [] (h ∷ hs) b = elim b [ ]
each_begin (s ∷ ss) [] b = elim b [ ]
each_begin (s ∷ ss) (h ∷ hs) b = (one_begins s h b.0, each_begin ss hs b.1)

none_held : (ss : List Server) (hs : List History) (i : ℕ) (h : History) (n : SessionNo) → BeginFor ss hs → slice_get hs i ≡ Some h → held_by h.mine n ≡ []
none_held [] [] i h n b e = cc
none_held [] (k ∷ hs) i h n b e = elim b [ ]
none_held (s ∷ ss) [] i h n b e = elim b [ ]
none_held (s ∷ ss) (k ∷ hs) zero h n b e = ap (λ (xs : List Note). held_by xs n) (ap (λ (x : History). x.mine) (sym (some_is k h e)) ∙ b.0.unused.mine)
none_held (s ∷ ss) (k ∷ hs) (suc i) h n b e = none_held ss hs i h n b.1 e

pub begin_seats : (config : Meaning) (hs : List History) (js : List JournalRoom) → BeginFor (all_servers config.backs) hs → HasSeats (new_worker first_thread config hs js)
begin_seats config hs js b = record {
  serve = serve_begin (all_servers config.backs) hs b;
  owns = λ i h n e. none_held (all_servers config.backs) hs i h n b e;
  one = each_begin (all_servers config.backs) hs b;
}

begin_next : (ss : List Server) (hs : List History) (i : ℕ) (s : Server) (h : History) → BeginFor (take i ss) hs → slice_get ss i ≡ Some s → BeginsFor s h
    → BeginFor (take (suc i) ss) (hs ++ h ∷ [])
begin_next [] hs i s h b e one = cc
begin_next (x ∷ ss) [] zero s h b e one = (subst (λ (y : Server). BeginsFor y h) (sym (some_is x s e)) one, tt)
begin_next (x ∷ ss) (k ∷ hs) zero s h b e one = elim b [ ]
begin_next (x ∷ ss) [] (suc i) s h b e one = elim b [ ]
begin_next (x ∷ ss) (k ∷ hs) (suc i) s h b e one = (b.0, begin_next ss hs i s h b.1 e one)

-- one more
pub begin_more : (ss : List Server) (hs : List History) (i : ℕ) (s : Server) (h : History) → BeginFor (take i ss) hs → slice_get ss i ≡ Some s → BeginsFor s h
    → BeginFor (take (i + 1) ss) (hs ++ h ∷ [])
begin_more ss hs i s h b e one =
    let same : suc i ≡ i + 1 = omega arith in
    subst (λ (n : ℕ). BeginFor (take n ss) (hs ++ h ∷ [])) same (begin_next ss hs i s h b e one)

-- behind the last server
pub begin_all : (ss : List Server) (hs : List History) (i : ℕ) → BeginFor (take i ss) hs → slice_get ss i ≡ None → BeginFor ss hs
begin_all [] [] i b e = tt
begin_all [] (k ∷ hs) zero b e = elim b [ ]
begin_all [] (k ∷ hs) (suc i) b e = elim b [ ]
begin_all (x ∷ ss) hs zero b e = cc
begin_all (x ∷ ss) [] (suc i) b e = elim b [ ]
begin_all (x ∷ ss) (k ∷ hs) (suc i) b e = (b.0, begin_all ss hs i b.1 e)

-- a server that is there
pub there_below : (ss : List Server) (i : ℕ) (s : Server) → slice_get ss i ≡ Some s → i < length ss
there_below [] i s e = cc
there_below (x ∷ ss) zero s e = omega arith
there_below (x ∷ ss) (suc i) s e = omega (arith, there_below ss i s e)

-- one whole journal more
pub whole_more : (js : List Journal) (j : Journal) → All (λ (k : Journal). k.whole ≡ true) js → j.whole ≡ true → All (λ (k : Journal). k.whole ≡ true) (js ++ j ∷ [])
whole_more js j w one = All-push (λ (k : Journal). k.whole ≡ true) js j w one

alone_begin : (ss : List Server) (hs : List History) → BeginFor ss hs → AreAlone ss (abouts hs)
alone_begin [] [] b = tt
alone_begin [] (h ∷ hs) b = elim b [ ]
alone_begin (s ∷ ss) [] b = elim b [ ]
alone_begin (s ∷ ss) (h ∷ hs) b = (b.0.about, alone_begin ss hs b.1)

no_less : (n : ℕ) → 0 - n ≡ 0
no_less n = omega arith

-- a journal that is whole and has no mark, behind no entry, is whole from the beginning
kept_begin : (j : Journal) → j.history.mine ≡ [] → j.whole ≡ true → journal_from j ≡ Some 0
kept_begin j m w =
    ap (λ (b : Bool). cond b (Some (length (marks_of j.history.mine) - length j.stored)) None) w
    ∙ (ap (λ (xs : List Note). Some (length (marks_of xs) - length j.stored)) m ∙ ap (λ (k : ℕ). Some k) (no_less (length j.stored)))

all_head : (j : Journal) (js : List Journal) → All (λ (j : Journal). j.whole ≡ true) (j ∷ js) → j.whole ≡ true
all_head j js w = All-head (λ (j : Journal). j.whole ≡ true) j js w

all_tail : (j : Journal) (js : List Journal) → All (λ (j : Journal). j.whole ≡ true) (j ∷ js) → All (λ (j : Journal). j.whole ≡ true) js
all_tail j js w = All-tail (λ (j : Journal). j.whole ≡ true) j js w

kept_all : (ss : List Server) (js : List Journal) → BeginFor ss (map (λ (j : Journal). j.history) js) → All (λ (j : Journal). j.whole ≡ true) js
    → Each IsKept (map (room_of journal_from (λ (j : Journal). j.room)) js)
kept_all [] [] b w = tt
kept_all [] (j ∷ js) b w = elim b [ ]
kept_all (s ∷ ss) [] b w = elim b [ ]
kept_all (s ∷ ss) (j ∷ js) b w = (kept_begin j b.0.unused.mine (all_head j js w), kept_all ss js b.1 (all_tail j js w))

pub begin_working : (config : Meaning) (js : List Journal) → IsWithin config.threads config.fronts config.backs → BeginFor (all_servers config.backs) (map (λ (j : Journal). j.history) js)
    → All (λ (j : Journal). j.whole ≡ true) js
    → IsWorking (new_worker first_thread config (map (λ (j : Journal). j.history) js) (map (room_of journal_from (λ (j : Journal). j.room)) js))
begin_working config js within b w = record {
  thread = refl;
  config = within;
  seats = begin_seats config _ _ b;
  alone = alone_begin (all_servers config.backs) _ b;
  whole = kept_all (all_servers config.backs) js b w;
}
