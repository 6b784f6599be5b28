-- The servers of a run that is over were cared for as their script asks.
use Rattle.std.proofs.Common.{◌≡◌, ℕ, zero, suc, ◌+◌, List, [], ◌∷◌, All, refl, sym, ap, ◌∙◌, subst, arith, Some, Result, Ok, Err}
use Rattle.std.specs.Prelude.{IfOk, slice_get}
use Rattle.std.specs.List.{AllZip}
use Rattle.std.proofs.lemmas.List.Elements.{All-head, All-tail}
use Rattle.hx_base.specs.declared.numbers.NoMemory.{NoMemory}
use Rattle.hx_base.specs.declared.rules.PoolRules.{PoolRules}
use Rattle.hx_cares.proofs.Asking.{marks_asked}
use Rattle.hx_cares.proofs.ReplayCares.{cares_hold}
use Rattle.hx_cares.specs.Cared.{Cared}
use Rattle.hx_config.specs.declared.parts.Back.{Back}
use Rattle.hx_config.specs.declared.parts.Server.{Server}
use Rattle.hx_config.specs.Limits.{all_servers}
use Rattle.hx_link.specs.Nets.{NetState}
use Rattle.hx_pool.specs.declared.entries.Entry.{Entry}
use Rattle.hx_pool.specs.History.{marks_of}
use Rattle.hx_pool.specs.Journal.{Journal}
use Rattle.hx_pool.specs.SeatView.{About, History}
use Rattle.hx_record.specs.declared.served.Told.{Told}
use Rattle.hx_run.specs.Cares.{Care, all_cares}
use Rattle.hx_run.specs.Courses.{MakesFewer}
use Rattle.hx_run.specs.Overs.{AreOver, histories}
use Rattle.hx_script.specs.declared.transcript.ServerPart.{ServerPart}
use Rattle.hx_script.specs.declared.transcript.Transcript.{Transcript}
use Rattle.hx_script_parts.specs.Meaning.{Meaning}
use Rattle.hx_told.specs.declared.servers.Named.{Named}
use Rattle.hx_told.specs.CaredFor.{AreCaredFor, IsCaredFor}
use Rattle.hx_told.specs.Servers.{named_servers, part_of, parts_of, IsWhole}
use Rattle.hx_told.proofs.Overs.{HasRules, all_rules, all_stored}

-- each seat, whose number is counted on from k
abbrev AllCared : List Care → ℕ → List Journal → Type 0
AllCared cares k seats = (i : ℕ) (h : History) → slice_get (histories seats) i ≡ Some h → Cared (k + i) h.about.rules.delay.0 cares (marks_of h.mine)

at_zero : (k : ℕ) → k + 0 ≡ k
at_zero k = omega arith

at_next : (k i : ℕ) → k + suc i ≡ (k + 1) + i
at_next k i = omega arith

part_cared : (cares : List Care) (k : ℕ) (n : Named) (j : Journal) → j.history.about.rules ≡ n.rules → j.stored ≡ marks_of j.history.mine → Cared k j.history.about.rules.delay.0 cares (marks_of j.history.mine) → IsCaredFor cares k (part_of n j)
part_cared cares k n j rules marks c =
    let is : Cared k n.rules.delay.0 cares j.stored =
    subst (λ (r : PoolRules). Cared k r.delay.0 cares j.stored) rules (subst (λ (l : List Entry). Cared k j.history.about.rules.delay.0 cares l) (sym marks) c) in
    let asked = marks_asked k n.rules.delay.0 cares j.stored is in
    record { cared = is; gates = asked.0; rounds = asked.1 }

parts_cared : (cares : List Care) (k : ℕ) (names : List Named) (servers : List Server) (seats : List Journal) → AllZip HasRules names servers → AreOver servers seats → All IsWhole seats → AllCared cares k seats
    → AreCaredFor cares k (parts_of names seats)
parts_cared cares k [] [] [] r o w c = tt
parts_cared cares k [] [] (j ∷ seats) r o w c = absurd o
parts_cared cares k [] (s ∷ servers) seats r o w c = absurd r
parts_cared cares k (n ∷ names) [] seats r o w c = absurd r
parts_cared cares k (n ∷ names) (s ∷ servers) [] r o w c = absurd o
parts_cared cares k (n ∷ names) (s ∷ servers) (j ∷ seats) r o w c = (
  part_cared cares k n j (ap (λ (a : About). a.rules) o.0.about ∙ sym r.0) (all_stored j (All-head IsWhole j seats w) o.0.kept)
      (subst (λ (m : ℕ). Cared m j.history.about.rules.delay.0 cares (marks_of j.history.mine)) (at_zero k) (c 0 j.history refl)),
  parts_cared cares (k + 1) names servers seats r.1 o.1 (All-tail IsWhole j seats w)
      (λ i h e. subst (λ (m : ℕ). Cared m h.about.rules.delay.0 cares (marks_of h.mine)) (at_next k i) (c (suc i) h e)),
)

-- a transcript of these parts tells so
pub ok_cared : (script : Meaning) (most : ℕ) (records : List Told) (net : NetState) (backs : List Back) (seats : List Journal) (r : Result Transcript NoMemory) → MakesFewer script most records net (histories seats)
    → AreOver (all_servers backs) seats → All IsWhole seats → IfOk r (λ t. t.servers ≡ parts_of (named_servers backs) seats) → IfOk r (λ t. AreCaredFor (all_cares script) 0 t.servers)
ok_cared script most records net backs seats (Ok t) m o w is =
    let h = m.replays.come in
    let cared : AllCared (all_cares script) 0 seats = λ i k e.
    subst (λ (n : ℕ). Cared n k.about.rules.delay.0 (all_cares script) (marks_of k.mine)) (from_zero i)
    (cares_hold script.plans script.moments h.0 (all_cares script) m.run.worker m.run.net.state m.run.records h.2.0 m.run.turns h.2.3 i k (ap (λ (l : List History). slice_get l i) m.seats_are ∙ e)) in
    subst (λ (l : List ServerPart). AreCaredFor (all_cares script) 0 l) (sym is) (parts_cared (all_cares script) 0 (named_servers backs) (all_servers backs) seats (all_rules backs) o w cared)
  where
    from_zero : (i : ℕ) → i ≡ 0 + i
    from_zero i = omega arith
ok_cared script most records net backs seats (Err e) m o w is = tt
