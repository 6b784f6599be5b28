-- The servers of a run that is over are true.
use Rattle.std.proofs.Common.{◌≡◌, ◌-◌, Bool, true, false, cond, List, [], ◌∷◌, ◌++◌, map, length, drop, All, refl, sym, ap, ◌∙◌, subst, arith, eq-eqb, Some, None}
use Rattle.std.specs.List.{AllZip}
use Rattle.std.proofs.lemmas.List.Elements.{All-head, All-tail}
use Rattle.hx_base.specs.declared.numbers.ThreadNo.{ThreadNo}
use Rattle.hx_base.specs.declared.rules.PoolRules.{PoolRules}
use Rattle.hx_config.specs.declared.parts.Back.{Back}
use Rattle.hx_config.specs.declared.parts.Server.{Server}
use Rattle.hx_config.specs.Limits.{all_servers}
use Rattle.hx_pool.specs.declared.entries.Note.{Note}
use Rattle.hx_pool.specs.History.{thread_of, is_by, own_of, marks_of, entries_of}
use Rattle.hx_pool.specs.Journal.{Journal, journal_from}
use Rattle.hx_pool.specs.Rules.{KeepsMode, KeepsLimit}
use Rattle.hx_pool.specs.SeatView.{About, AllBelow}
use Rattle.hx_pool.specs.Totals.{totals_of}
use Rattle.hx_run.specs.Overs.{IsOver, AreOver}
use Rattle.hx_script.specs.TrueTranscript.{IsTrueServer, AreTrueServers}
use Rattle.hx_told.specs.declared.servers.Named.{Named}
use Rattle.hx_told.specs.Servers.{named_of, named_servers, part_of, parts_of, IsWhole, sums_of, all_sums}

all_own : (t : ThreadNo) (xs : List Note) → t.0 ≡ 0 → AllBelow 1 xs → own_of t xs ≡ xs
all_own t [] z b = refl
all_own t (x ∷ xs) z b =
    let low = b.0 in
    let is : is_by t x ≡ true = eq-eqb (thread_of x.entry).0 t.0 (omega arith) in
    rw is (ap (λ (ys : List Note). x ∷ ys) (all_own t xs z b.1))

-- the seat made all that was observed
pub all_mine : (s : Server) (j : Journal) → IsOver s j → j.history.seen ≡ j.history.mine
all_mine s j o =
    let below : AllBelow 1 j.history.seen = subst (λ n. AllBelow n j.history.seen) (ap (λ (a : About). a.threads) o.about) o.one.threads in
    sym (all_own j.history.about.thread j.history.seen (ap (λ (a : About). a.thread.0) o.about) below) ∙ o.one.own_part

-- the journal has all marks
from_start : (j : Journal) (b : Bool) → b ≡ true → cond b (Some (length (marks_of j.history.mine) - length j.stored)) None ≡ Some 0
    → length (marks_of j.history.mine) - length j.stored ≡ 0
from_start j true w e = cc
from_start j false w e = absurd (cc)

pub all_stored : (j : Journal) → IsWhole j → journal_from j ≡ Some 0 → j.stored ≡ marks_of j.history.mine
all_stored j w k = w.recounts ∙ ap (λ n. drop n (marks_of j.history.mine)) (from_start j j.whole w.whole k)

true_server : (n : Named) (s : Server) (j : Journal) → n.rules ≡ s.rules → IsOver s j → IsWhole j → IsTrueServer (part_of n j) (sums_of j)
true_server n s j rules o w =
    let mine = all_mine s j o in
    let same : j.history.about.rules ≡ n.rules = ap (λ (a : About). a.rules) o.about ∙ sym rules in
    record {
      history = j.history.seen;
      legal = o.one.legal;
      mode = subst (λ (r : PoolRules). KeepsMode r j.history.seen) same o.one.mode;
      limit = subst (λ (r : PoolRules). KeepsLimit r j.history.seen) same o.one.limit;
      marks = all_stored j w o.kept ∙ ap marks_of (sym mine);
      closed = o.closed;
      totals_are = ap (λ (xs : List Note). totals_of (entries_of xs)) (sym mine);
    }

-- the server has its own rules by these names
abbrev pub HasRules : Named → Server → Type 0
HasRules n s = n.rules ≡ s.rules

true_seats : (names : List Named) (servers : List Server) (seats : List Journal) → AllZip HasRules names servers → AreOver servers seats → All IsWhole seats
    → AreTrueServers (parts_of names seats) (all_sums seats)
true_seats [] [] [] r o w = tt
true_seats [] [] (j ∷ seats) r o w = absurd o
true_seats [] (s ∷ servers) seats r o w = absurd r
true_seats (n ∷ names) [] seats r o w = absurd r
true_seats (n ∷ names) (s ∷ servers) [] r o w = absurd o
true_seats (n ∷ names) (s ∷ servers) (j ∷ seats) r o w =
    (true_server n s j r.0 o.0 (All-head IsWhole j seats w), true_seats names servers seats r.1 o.1 (All-tail IsWhole j seats w))

zip_both : (ns ms : List Named) (ss ts : List Server) → AllZip HasRules ns ss → AllZip HasRules ms ts → AllZip HasRules (ns ++ ms) (ss ++ ts)
zip_both [] ms [] ts r q = q
zip_both [] ms (s ∷ ss) ts r q = absurd r
zip_both (n ∷ ns) ms [] ts r q = absurd r
zip_both (n ∷ ns) ms (s ∷ ss) ts r q = (r.0, zip_both ns ms ss ts r.1 q)

back_rules : (b : Back) (servers : List Server) → AllZip HasRules (map (named_of b) servers) servers
back_rules b [] = tt
back_rules b (s ∷ servers) = (refl, back_rules b servers)

pub all_rules : (backs : List Back) → AllZip HasRules (named_servers backs) (all_servers backs)
all_rules [] = tt
all_rules (b ∷ backs) = zip_both (map (named_of b) b.servers) (named_servers backs) b.servers (all_servers backs) (back_rules b b.servers) (all_rules backs)

pub true_servers : (backs : List Back) (seats : List Journal) → AreOver (all_servers backs) seats → All IsWhole seats
    → AreTrueServers (parts_of (named_servers backs) seats) (all_sums seats)
true_servers backs seats o w = true_seats (named_servers backs) (all_servers backs) seats (all_rules backs) o w
