-- The replay of any script.
use Rattle.std.proofs.Common.{◌≡◌, ℕ, suc, ◌+◌, ◌<◌, ◌≤◌, List, [], ◌∷◌, ◌++◌, length, map, refl, sym, ap, ◌∙◌, subst, arith, lt-ltb, Result, Ok, Err, inl, inr}
use native.Mathlib.Decide.{dec_lt}
use mathlib.Core.Logic.{dite}
use Rattle.hx_config.specs.declared.parts.Server.{Server}
use Rattle.hx_config.specs.declared.config.Config.{Config}
use Rattle.hx_pool.specs.Journal.{Journal}
use Rattle.hx_script.specs.Printed.{Spells}
use Rattle.hx_script.specs.TrueTranscript.{Ends, IsTrueTranscript}
use Rattle.hx_script.specs.declared.transcript.Transcript.{Transcript}
use Rattle.hx_script_parts.specs.Views.{meaning}
use Rattle.hx_script_parts.specs.declared.script.Script.{Script}
use Rattle.hx_script_parts.specs.Meaning.{Meaning, longest_text, meaning_of}
use Rattle.hx_script_parts.specs.Faults.{code_of, fault_of, IsFaultOf}
use Rattle.hx_script_parts.specs.declared.fault.TextFault.TheVariants as fault
use Rattle.hx_script_parts.specs.declared.fault.Flaw.{Flaw}
use Rattle.hx_script_parts.specs.declared.fault.Flaw.TheVariants as flaw
use Rattle.hx_script_parts.specs.declared.fault.Rule.TheVariants.{TooLong}
use Rattle.hx_config.specs.Limits.{all_servers}
use Rattle.hx_link.specs.Nets.{NetState}
use Rattle.hx_record.specs.declared.served.Told.{Told}
use Rattle.hx_run.specs.Cares.{all_cares}
use Rattle.hx_run.specs.Courses.{MakesFewer}
use Rattle.hx_run.specs.Overs.{AreOver, histories}
use Rattle.hx_run.specs.Cares.{all_cares}
use Rattle.hx_told.specs.CaredFor.{AreCaredFor}
use Rattle.hx_told.specs.Caused.{CausedByScript}
use Rattle.hx_told.specs.Follows.{FollowsScript}
use Rattle.hx_told.specs.Quiet.{QuietByScript}
use Rattle.hx_told.specs.Servers.{named_servers, parts_of}
use Rattle.std.specs.Prelude.{IfOk}
use Rattle.hx_base.specs.declared.numbers.NoMemory.{NoMemory}
use Rattle.hx_plays.specs.declared.plays.Replay.{Replay}
use Rattle.hx_plays.specs.declared.plays.Replay.TheVariants as replay
use Rattle.hx_plays.specs.Plays.{TellsServers, HasScriptFault, most_turns, EndsWithin, IsRunOf, IsPlayOf}

too_long : (text : List ℕ) → longest_text < length text → meaning_of text ≡ Err (flaw.Line 1 TooLong)
unfolding meaning_of
too_long text long = rw (lt-ltb longest_text (length text) long) refl

-- a text that was read isn't too long
pub read_is_short : (text : List ℕ) (m : Meaning) → meaning_of text ≡ Ok m → length text ≤ longest_text
read_is_short text m reads = dite (dec_lt longest_text (length text))
    (λ long. absurd (let both : ◌≡◌ {A = Result Meaning Flaw} (Ok m) (Err (flaw.Line 1 TooLong)) = sym reads ∙ too_long text long in cc))
    (λ short. omega (arith, short))

-- one seat a server
pub over_count : (servers : List Server) (seats : List Journal) → AreOver servers seats → length seats ≡ length servers
over_count [] [] o = refl
over_count [] (j ∷ seats) o = absurd o
over_count (s ∷ servers) [] o = absurd o
over_count (s ∷ servers) (j ∷ seats) o = ap suc (over_count servers seats o.1)

-- the seats of a replay are over, as the teller asks it
pub over_ran : (a b : Config) (seats : List Journal) → b ≡ a → AreOver (all_servers a.backs) seats → AreOver (all_servers b.backs) seats
over_ran a b seats e o = subst (λ (c : Config). AreOver (all_servers c.backs) seats) (sym e) o

-- what is told of a replay that is over
tells_of : (script : Script) (config : Config) (seats : List Journal) (t : Transcript) (text : List ℕ) (ends : Ends) → config ≡ script.config
    → AreOver (all_servers script.config.backs) seats → t.servers ≡ parts_of (named_servers config.backs) seats → IsTrueTranscript t ends
    → FollowsScript script.clients script.plans ends t.clients t.conns → CausedByScript (meaning script) ends t → QuietByScript (meaning script) t → AreCaredFor (all_cares (meaning script)) 0 t.servers → Spells text t
    → TellsServers (meaning script) text
tells_of script config seats t text ends e o s a f b q d p = record {
  transcript = t;
  spells = p;
  seats = seats;
  each = over_count (all_servers script.config.backs) seats o;
  servers = s ∙ ap (λ (c : Config). parts_of (named_servers c.backs) seats) e;
  script_told = record { ends = ends; is_true = a; follows = f; causes = b; quiet = q; cared = d };
}

-- and of the replay that told it
pub tells_run : (script : Script) (config : Config) (seats : List Journal) (t : Transcript) (text : List ℕ) (ends : Ends) (most : ℕ) (records : List Told) (net : NetState) → config ≡ script.config
    → AreOver (all_servers script.config.backs) seats → t.servers ≡ parts_of (named_servers config.backs) seats → IsTrueTranscript t ends
    → FollowsScript script.clients script.plans ends t.clients t.conns → CausedByScript (meaning script) ends t → QuietByScript (meaning script) t → AreCaredFor (all_cares (meaning script)) 0 t.servers → Spells text t
    → t.records ≡ records → MakesFewer (meaning script) most records net (histories seats)
    → (tells : TellsServers (meaning script) text) × EndsWithin (meaning script) most tells.transcript.records tells.seats
unfolding tells_of
tells_run script config seats t text ends most records net e o s a f b q d p same m =
    (tells_of script config seats t text ends e o s a f b q d p, (net, subst (λ (l : List Told). MakesFewer (meaning script) most l net (histories seats)) (sym same) m))

at_flaw : (bytes : List ℕ) (line rule : ℕ) (f : Flaw) → meaning_of bytes ≡ Err f → fault.At line rule ≡ fault_of f → HasScriptFault bytes line rule
at_flaw bytes line rule (flaw.Line l broken) e g =
    let line_is : line ≡ l = cc in let rule_is : rule ≡ code_of broken = cc in
    inl (broken, subst (λ (k : ℕ). meaning_of bytes ≡ Err (flaw.Line k broken)) (sym line_is) e, rule_is)
at_flaw bytes line rule (flaw.Config l broken) e g = absurd (let both : fault.At line rule ≡ fault.Config l broken = g in cc)

-- the first fault of a line
pub fault_at : (bytes : List ℕ) (line rule : ℕ) → IsFaultOf (fault.At line rule) (meaning_of bytes) → HasScriptFault bytes line rule
fault_at bytes line rule is =
    let go : (r : Result Meaning Flaw) → meaning_of bytes ≡ r → IsFaultOf (fault.At line rule) r → HasScriptFault bytes line rule =
    λ r. elim r as (λ r. meaning_of bytes ≡ r → IsFaultOf (fault.At line rule) r → HasScriptFault bytes line rule) [
      | Ok m ↦ λ e f. absurd f
      | Err f ↦ λ e g. at_flaw bytes line rule f e g
    ] in go (meaning_of bytes) refl is

-- several threads
pub threads_fault : (bytes : List ℕ) (m : Meaning) → meaning_of bytes ≡ Ok m → 1 < m.config.threads → HasScriptFault bytes 2 7
threads_fault bytes m e several = inr (record { script = m; reads = e; several = several; line_is = refl; rule_is = refl })

-- what a script of one thread is replayed to
run_plays : (bytes : List ℕ) (m : Meaning) (most : ℕ) (r : Replay) → meaning_of bytes ≡ Ok m → m.config.threads ≡ 1 → most ≡ most_turns (length bytes) (length m.clients)
    → IsRunOf m most r → IsPlayOf bytes r
run_plays bytes m most (replay.Text text) e one is p = record {
  script = m;
  reads = e;
  one = one;
  tells = p.0;
  within = subst (λ (n : ℕ). EndsWithin m n p.0.transcript.records p.0.seats) is p.1;
}
run_plays bytes m most (replay.ConfigFault line rule) e one is p = absurd p
run_plays bytes m most (replay.ScriptFault line rule) e one is p = absurd p
run_plays bytes m most (replay.Overrun turns) e one is p = record { script = m; reads = e; one = one; most = p.0 ∙ is; made = p.1 }

pub runs_play : (bytes : List ℕ) (m : Meaning) (most : ℕ) (r : Result Replay NoMemory) → meaning_of bytes ≡ Ok m → m.config.threads ≡ 1 → most ≡ most_turns (length bytes) (length m.clients)
    → IfOk r (IsRunOf m most) → IfOk r (IsPlayOf bytes)
runs_play bytes m most (Ok r) e one is p = run_plays bytes m most r e one is p
runs_play bytes m most (Err x) e one is p = tt
