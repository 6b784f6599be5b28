-- The transcript of a replay that ends a course is true.
use Rattle.std.proofs.Common.{◌≡◌, List, All, sym, subst, Result, Ok, Err}
use Rattle.std.specs.Prelude.{IfOk}
use Rattle.hx_base.specs.declared.numbers.NoMemory.{NoMemory}
use Rattle.hx_base.specs.declared.totals.Totals.{Totals}
use Rattle.hx_link.specs.MemoryNets.{MemoryNetNow}
use Rattle.hx_record.specs.declared.bytes.ClientBytes.{ClientBytes}
use Rattle.hx_record.specs.declared.bytes.ConnBytes.{ConnBytes}
use Rattle.hx_record.specs.declared.served.Told.{Told}
use Rattle.hx_script.specs.PrintedForm.{Rises, ConnBefore}
use Rattle.hx_script.specs.TrueTranscript.{AreTrueServers, IsTrueTranscript}
use Rattle.hx_script.specs.declared.transcript.ServerPart.{ServerPart}
use Rattle.hx_script.specs.declared.transcript.Transcript.{Transcript}
use Rattle.hx_course.specs.Endings.{TellsGraves}
use Rattle.hx_course.proofs.EndLemmas.{records_end, clients_end, conns_end}
use Rattle.hx_run.specs.Courses.{EndsCourse}
use Rattle.hx_told.specs.Ends.{ends_of, EndsByPlan}
use Rattle.hx_told.specs.Telling.{TellsLinks}
use Rattle.hx_told.proofs.Dials.{ends_planned}
use Rattle.hx_told.proofs.Ending.{clients_told, conns_told, no_client_else, no_conn_else}

-- each link that was buried is told, and no other
all_told : (net : MemoryNetNow) (t : Transcript) → (e : EndsCourse t.records net.state) → TellsLinks t.records net t.clients t.conns → Rises ConnBefore t.conns
    → TellsGraves e.graves t (ends_of net.links)
all_told net t e tells rise =
    let owners = e.course.owners in record {
      clients = clients_told t.records net t.clients t.conns e.graves tells e.course.buried owners.dials owners.lefts rise;
      conns = conns_told t.records net t.clients t.conns e.graves tells e.course.buried owners.dials owners.lefts rise;
      no_client = no_client_else t.records net t.clients t.conns e.graves tells e.course.buried owners.dials owners.lefts rise;
      no_conn = no_conn_else t.records net t.clients t.conns e.graves tells e.course.buried owners.dials owners.lefts rise;
    }

true_told : (net : MemoryNetNow) (t : Transcript) → AreTrueServers t.servers t.totals → EndsCourse t.records net.state → TellsLinks t.records net t.clients t.conns → Rises ConnBefore t.conns
    → IsTrueTranscript t (ends_of net.links)
true_told net t servers e tells rise =
    let told = all_told net t e tells rise in record {
      servers = servers;
      records = records_end e.worker net.state e.graves t (ends_of net.links) e.course e.empty told;
      clients = clients_end e.worker net.state e.graves t (ends_of net.links) e.course e.empty told;
      conns = conns_end e.worker net.state e.graves t (ends_of net.links) e.course e.empty told;
    }

module _ (net : MemoryNetNow) (records : List Told) (clients : List ClientBytes) (conns : List ConnBytes) (tells : TellsLinks records net clients conns) (rise : Rises ConnBefore conns) where
  -- a transcript of these parts is true
  pub ok_true : (r : Result Transcript NoMemory) (servers : List ServerPart) (totals : List Totals) → IfOk r (λ t. t.servers ≡ servers) → IfOk r (λ t. t.totals ≡ totals)
      → IfOk r (λ t. t.records ≡ records) → IfOk r (λ t. t.clients ≡ clients) → IfOk r (λ t. t.conns ≡ conns) → AreTrueServers servers totals → EndsCourse records net.state
      → IfOk r (λ t. IsTrueTranscript t (ends_of net.links))
  ok_true (Ok t) servers totals s u x y z are_true course =
      true_told net t (subst (λ (ps : List ServerPart). AreTrueServers ps t.totals) (sym s) (subst (λ (ss : List Totals). AreTrueServers servers ss) (sym u) are_true))
      (subst (λ (rs : List Told). EndsCourse rs net.state) (sym x) course)
      (subst (λ (rs : List Told). TellsLinks rs net t.clients t.conns) (sym x)
      (subst (λ (cs : List ClientBytes). TellsLinks records net cs t.conns) (sym y) (subst (λ (cs : List ConnBytes). TellsLinks records net clients cs) (sym z) tells)))
      (subst (λ (cs : List ConnBytes). Rises ConnBefore cs) (sym z) rise)
  ok_true (Err e) servers totals s u x y z are_true course = tt

  -- and its ends are by plan
  pub ok_ended : (r : Result Transcript NoMemory) → IfOk r (λ t. t.conns ≡ conns) → IfOk r (λ t. All (EndsByPlan net.links) t.conns)
  ok_ended (Ok t) z = subst (λ (cs : List ConnBytes). All (EndsByPlan net.links) cs) (sym z) (ends_planned records net clients conns tells rise)
  ok_ended (Err e) z = tt
