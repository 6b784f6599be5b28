-- Nothing was left to do for a session that was stopped.
use Rattle.std.proofs.Common.{◌≡◌, ◌⊎◌, inl, inr, ⊎_elim, ℕ, zero, suc, ◌-◌, ◌++◌, true, List, [], ◌∷◌, length, map, refl, sym, ap, ◌∙◌, subst, arith, Option, Some, None, Result, Ok, Err}
use Rattle.std.specs.Prelude.{Contains, IfOk, IfSome, drop, reverse, slice_get}
use Rattle.std.proofs.lemmas.List.{append-nil}
use Rattle.hx_base.specs.Counts.{Rose}
use Rattle.hx_base.specs.declared.numbers.Millis.{Millis}
use Rattle.hx_base.specs.declared.numbers.NoMemory.{NoMemory}
use Rattle.hx_base.specs.declared.numbers.SessionNo.{SessionNo}
use Rattle.hx_base.specs.declared.numbers.ThreadNo.{ThreadNo}
use Rattle.hx_base.specs.declared.plan.Plan.{Plan}
use Rattle.hx_conn.specs.Conns.{BusyNow}
use Rattle.hx_conn.specs.WhatTold.{what_of_link}
use Rattle.hx_connecting.specs.Sessions.{SessionNow, Holding, Resting, Exchanging}
use Rattle.hx_course.specs.Endings.{TellsClient, TellsConn}
use Rattle.hx_course.specs.Graves.{AreBuried, Grave, OfClient, OfConn, grave}
use Rattle.hx_course.specs.Lines.{lefts_of}
use Rattle.hx_course.specs.Places.{IsInGrave}
use Rattle.hx_link.specs.MemoryLinks.{KeepsPlan, MemoryLinkNow, WaitsFor}
use Rattle.hx_link.specs.MemoryNets.{MemoryNetNow}
use Rattle.hx_link.specs.Nets.{NetState}
use Rattle.hx_link.specs.Told.{IsCounted, LinkState}
use Rattle.hx_message.specs.Partial.{HasWholeRequest}
use Rattle.hx_planned.specs.Plans.{FollowsId, FollowsNumber, nth_plan}
use Rattle.hx_pool.specs.SeatView.{History}
use Rattle.hx_quiet.proofs.Stopping.{stood_still}
use Rattle.hx_quiet.specs.Stopped.{EndsBehind, IsAsItStood, WasCut, WasCutOff, WasStopped}
use Rattle.hx_record.specs.declared.bytes.ClientBytes.{ClientBytes}
use Rattle.hx_record.specs.declared.bytes.ConnBytes.{ConnBytes}
use Rattle.hx_record.specs.declared.served.Left.{Left}
use Rattle.hx_record.specs.declared.served.LeftCause.TheVariants as left
use Rattle.hx_record.specs.declared.served.Told.{Told}
use Rattle.hx_record.specs.declared.served.Told.TheVariants as line
use Rattle.hx_run.specs.Cares.{all_cares}
use Rattle.hx_run.specs.Courses.{MakesFewer, plan_of}
use Rattle.hx_script.specs.PrintedForm.{Rises, ConnBefore}
use Rattle.hx_script.specs.declared.transcript.Transcript.{Transcript}
use Rattle.hx_script_parts.specs.Meaning.{Meaning}
use Rattle.hx_script_parts.specs.declared.script.ClientLine.{ClientLine}
use Rattle.hx_session.specs.Bad.{WantsMore}
use Rattle.hx_session.specs.Standstill.{AnswerPassed, AskPassed, ReadWaits, StandsBy, StandsIdle, StandsInExchange, WriteWaits}
use Rattle.hx_told.proofs.Ending.{buried_link, clients_told, conns_told}
use Rattle.hx_told.proofs.Follows.{line_at}
use Rattle.hx_told.specs.Ends.{ends_of}
use Rattle.hx_told.specs.Links.{TellsBytes}
use Rattle.hx_told.specs.Quiet.{IsWaiting, StoodIdle, StoodInExchange, IsQuiet, QuietByScript}
use Rattle.hx_told.specs.Telling.{TellsLinks}

some_same : {A : Type 0} (a b : A) → Some a ≡ Some b → a ≡ b
some_same a b e = cc

-- a count that stands at 0 didn't rise
rose_none : (before : ℕ) → Rose before 0 → ⊥
rose_none before r = omega (arith, r)

-- a link as it stood, which is a link in memory's
module _ (now : Millis) (before stood buried : LinkState) (m : MemoryLinkNow) (as_it : IsAsItStood stood buried) (is : m.state ≡ buried) (keeps : KeepsPlan m) where
  state : m.state ≡ record stood { on_loop = None; faults = buried.faults }
  state = is ∙ as_it

  -- none of its writes had to wait
  no_write : WriteWaits before stood now.0 → ⊥
  no_write w =
      let none : stood.write_waits ≡ 0 = sym (ap (λ (l : LinkState). l.write_waits) state) ∙ keeps.writes in
      rose_none before.write_waits (subst (λ (k : ℕ). Rose before.write_waits k) none w.waits)

  -- where a read had to wait nothing was due
  read_waits : (plan : Plan) (took sent : List ℕ) → m.plan ≡ plan → m.state.taken_count ≡ length took → m.state.sent_count ≡ length sent → ReadWaits before stood now.0 → IsWaiting plan took sent now
  read_waits plan took sent follows taken given r =
      let waited : m.state.read_waited ≡ true = ap (λ (l : LinkState). l.read_waited) state ∙ r.waited in
      let at : m.state.read_wait_at ≡ now.0 = ap (λ (l : LinkState). l.read_wait_at) state ∙ r.at in
      subst (λ (p : Plan). WaitsFor p (length took) (length sent) now.0) follows
      (subst (λ (n : ℕ). WaitsFor m.plan n (length sent) now.0) taken
      (subst (λ (n : ℕ). WaitsFor m.plan m.state.taken_count n now.0) given
      (subst (λ (n : ℕ). WaitsFor m.plan m.state.taken_count m.state.sent_count n) at (keeps.waits waited))))

-- as many bytes are told as it counts
counted_taken : (l : LinkState) (bytes : List ℕ) → l.taken ≡ Some bytes → IsCounted l → l.taken_count ≡ length bytes
counted_taken l bytes e c = sym (subst (λ (o : Option (List ℕ)). IfSome o (λ bytes. length bytes ≡ l.taken_count)) e c.taken)

counted_sent : (l : LinkState) (bytes : List ℕ) → l.sent ≡ Some bytes → IsCounted l → l.sent_count ≡ length bytes
counted_sent l bytes e c = sym (subst (λ (o : Option (List ℕ)). IfSome o (λ bytes. length bytes ≡ l.sent_count)) e c.sent)

module _ (script : Meaning) (most : ℕ) (seats : List History) (records : List Told) (net : MemoryNetNow) (clients : List ClientBytes) (conns : List ConnBytes) (m : MakesFewer script most records net.state seats)
    (tells : TellsLinks records net clients conns) (rise : Rises ConnBefore conns) (t : Transcript) (told_records : t.records ≡ records) (told_clients : t.clients ≡ clients) (told_conns : t.conns ≡ conns) where
  came : List ClientLine
  came = m.replays.come.0

  all_came : m.replays.come.0 ≡ m.replays.ordered
  all_came = sym (append-nil m.replays.come.0) ∙ (ap (λ (l : List ClientLine). m.replays.come.0 ++ reverse l) (sym m.whole) ∙ sym m.replays.come.1)

  abbrev graves : List Grave
  graves = m.replays.come.2.0

  link_is : (g : Grave) → Contains m.replays.come.2.0 g → (x : MemoryLinkNow) × (x.state ≡ g.link) × TellsBytes x
  link_is g there =
      let course = m.replays.come.2.1 in
      let owned = course.owners in
      buried_link records net clients conns m.replays.come.2.0 tells (subst (λ (s : NetState). AreBuried m.replays.come.2.0 s) m.left course.buried) owned.dials (owned.lefts ∙ ap lefts_of m.told) rise g there

  client_told : (u : ThreadNo) (n : SessionNo) (l : LinkState) → Contains m.replays.come.2.0 (grave (OfClient u n) l) → (c : ClientBytes) × Contains clients c × TellsClient u n l c
  client_told u n l there =
      let course = m.replays.come.2.1 in
      let owned = course.owners in
      clients_told records net clients conns m.replays.come.2.0 tells (subst (λ (s : NetState). AreBuried m.replays.come.2.0 s) m.left course.buried) owned.dials (owned.lefts ∙ ap lefts_of m.told) rise u n l there

  conn_told : (server : _) (id : _) (l : LinkState) → Contains m.replays.come.2.0 (grave (OfConn server id) l) → (c : ConnBytes) × Contains conns c × TellsConn (ends_of net.links) server id l c
  conn_told server id l there =
      let course = m.replays.come.2.1 in
      let owned = course.owners in
      conns_told records net clients conns m.replays.come.2.0 tells (subst (λ (s : NetState). AreBuried m.replays.come.2.0 s) m.left course.buried) owned.dials (owned.lefts ∙ ap lefts_of m.told) rise server id l there

  plan_same : (x : MemoryLinkNow) (l : LinkState) (p : Plan) → x.state ≡ l → KeepsPlan x → l.plan ≡ Some p → x.plan ≡ p
  plan_same x l p e keeps is = some_same x.plan p (sym keeps.told ∙ (ap (λ (y : LinkState). y.plan) e ∙ is))

  -- of one session
  module _ (l : Left) (w : WasStopped script.moments m.replays.come.2.0 records l) where
    abbrev s : SessionNow
    s = w.session

    abbrev now : Millis
    now = w.stood.now

    abbrev c : ClientBytes
    c = (client_told l.worker l.session w.client w.buried).0

    c_tells : TellsClient l.worker l.session w.client c
    c_tells = (client_told l.worker l.session w.client w.buried).2

    abbrev x : MemoryLinkNow
    x = (link_is (grave (OfClient l.worker l.session) w.client) w.buried).0

    x_is : x.state ≡ w.client
    x_is = (link_is (grave (OfClient l.worker l.session) w.client) w.buried).1

    x_keeps : KeepsPlan x
    x_keeps = (link_is (grave (OfClient l.worker l.session) w.client) w.buried).2.keeps

    thread : l.worker ≡ m.run.worker.thread
    thread = (m.replays.come.2.1.clients.buried l.worker l.session w.client w.buried).thread

    its_number : FollowsNumber (map plan_of m.replays.come.0) l.session w.client.plan
    its_number = m.replays.come.2.2.clients l.session w.client (inr (subst (λ (u : ThreadNo). Contains m.replays.come.2.0 (grave (OfClient u l.session) w.client)) thread w.buried))

    its_line : (y : ClientLine) × (slice_get m.replays.come.0 (l.session.0 - 1) ≡ Some y) × (y.plan ≡ its_number.plan.0)
    its_line = line_at m.replays.come.0 (l.session.0 - 1) its_number.plan.0 its_number.plan.1

    client_plan : x.plan ≡ its_line.0.plan
    client_plan = plan_same x w.client its_number.plan.0 x_is x_keeps its_number.plan.2 ∙ sym its_line.2

    x_taken : x.state.taken_count ≡ length c.took
    x_taken = ap (λ (y : LinkState). y.taken_count) x_is ∙ counted_taken w.client c.took c_tells.took c_tells.counted

    x_sent : x.state.sent_count ≡ length c.gave
    x_sent = ap (λ (y : LinkState). y.sent_count) x_is ∙ counted_sent w.client c.gave c_tells.gave c_tells.counted

    no_client_write : (before : LinkState) → WriteWaits before s.client now.0 → ⊥
    no_client_write before = no_write now before s.client w.client x w.as_it_stood x_is x_keeps

    client_waits : (before : LinkState) → ReadWaits before s.client now.0 → IsWaiting its_line.0.plan c.took c.gave now
    client_waits before r = read_waits now before s.client w.client x w.as_it_stood x_is x_keeps its_line.0.plan c.took c.gave client_plan x_taken x_sent r

    taken_is : s.client.taken ≡ Some c.took
    taken_is = sym (ap (λ (y : LinkState). y.taken) w.as_it_stood) ∙ c_tells.took

    sent_is : s.client.sent ≡ Some c.gave
    sent_is = sym (ap (λ (y : LinkState). y.sent) w.as_it_stood) ∙ c_tells.gave

    idle : (before : SessionNow) → l.ask.from ≡ s.asked → StandsIdle before s now.0 → StoodIdle its_line.0 c l now
    idle before from k = record {
      client = client_waits before.client k.client;
      more = subst (λ (n : ℕ). WantsMore (drop n c.took)) (sym from) (subst (λ (o : Option (List ℕ)). IfSome o (λ taken. WantsMore (drop s.asked taken))) taken_is k.more);
    }

    busy : (before : SessionNow) (a b : BusyNow) → WasCutOff m.replays.come.2.0 records s b → StandsInExchange before s a b now.0 → StoodInExchange script t its_line.0 c l now
    busy before a b g k =
        let told = conn_told b.server b.id g.link g.buried in
        let y = link_is (grave (OfConn b.server b.id) g.link) g.buried in
        let in_grave : IsInGrave m.replays.come.2.0 b.server b.id (what_of_link g.link) = record { link = g.link; there = g.buried; tells = refl } in
        let its : FollowsId script.plans b.server b.id g.link.plan = m.replays.come.2.2.conns b.server b.id (what_of_link g.link) (inr (inr in_grave)) in
        let plan : y.0.plan ≡ its.plan.0 = plan_same y.0 g.link its.plan.0 y.1 y.2.keeps its.plan.2 in
        let taken : y.0.state.taken_count ≡ length told.0.took = counted_taken y.0.state told.0.took (ap (λ (z : LinkState). z.taken) y.1 ∙ told.2.took) y.2.counted in
        let sent : y.0.state.sent_count ≡ length told.0.sent = counted_sent y.0.state told.0.sent (ap (λ (z : LinkState). z.sent) y.1 ∙ told.2.sent) y.2.counted in
        let no_conn_write : WriteWaits a.link b.link now.0 → ⊥ = no_write now a.link b.link g.link y.0 g.as_it_stood y.1 y.2.keeps in
        let link_taken : b.link.taken ≡ Some told.0.took = sym (ap (λ (z : LinkState). z.taken) g.as_it_stood) ∙ told.2.took in
        let link_sent : b.link.sent ≡ Some told.0.sent = sym (ap (λ (z : LinkState). z.sent) g.as_it_stood) ∙ told.2.sent in
        record {
          record_ = g.record_;
          told = subst (λ (l : List Told). Contains l (line.Served g.record_)) (sym told_records) g.told;
          worker = g.worker ∙ w.worker;
          session = g.session ∙ w.number;
          carried = g.carried;
          cut_off = g.cut_off;
          conn = told.0;
          there = subst (λ (l : List ConnBytes). Contains l told.0) (sym told_conns) told.1;
          server_is = told.2.server_is ∙ sym g.its.server;
          id_is = told.2.id_is ∙ sym g.its.id;
          plan = its.plan.0;
          its_plan = subst (λ (i : _). nth_plan i (g.carried.id.0 - 1) script.plans ≡ Some its.plan.0) (sym g.its.server) (subst (λ (i : _). nth_plan b.server (i.0 - 1) script.plans ≡ Some its.plan.0) (sym g.its.id) its.plan.1);
          server = ⊎_elim (λ (r : ReadWaits a.link b.link now.0). read_waits now a.link b.link g.link y.0 g.as_it_stood y.1 y.2.keeps its.plan.0 told.0.took told.0.sent plan taken sent r)
              (λ (z : WriteWaits before.client s.client now.0). absurd (no_client_write before.client z)) k.server;
          client = ⊎_elim (λ z. absurd (no_conn_write z))
              (λ ask.
              let there = subst (λ (o : Option (List ℕ)). IfSome o (λ taken. ((n : ℕ) → HasWholeRequest (drop s.asked taken) n → ⊥) → ReadWaits before.client s.client now.0)) taken_is ask in
              λ none. client_waits before.client (there (subst (λ (i : ℕ). (n : ℕ) → HasWholeRequest (drop i c.took) n → ⊥) g.begins none))) k.client;
          goes_out = ⊎_elim (λ z. absurd (no_conn_write z))
              (λ out.
              let there = subst (λ (o : Option (List ℕ)). IfSome o (λ sent. AskPassed (drop s.asked c.took) (drop b.exchange.sent_from sent))) link_sent
              (subst (λ (o : Option (List ℕ)). IfSome o (λ taken. IfSome b.link.sent (λ sent. AskPassed (drop s.asked taken) (drop b.exchange.sent_from sent)))) taken_is out) in
              subst (λ (i : ℕ). AskPassed (drop i c.took) (drop g.carried.sent.from told.0.sent)) (sym g.begins) (subst (λ (i : ℕ). AskPassed (drop s.asked c.took) (drop i told.0.sent)) (sym g.its.sent) there)) k.goes_out;
          comes_back = ⊎_elim (λ z. absurd (no_client_write before.client z))
              (λ back.
              let there = subst (λ (o : Option (List ℕ)). IfSome o (λ given. AnswerPassed b.exchange.method s.closing (drop b.exchange.taken_from told.0.took) (drop s.gave given))) sent_is
              (subst (λ (o : Option (List ℕ)). IfSome o (λ took. IfSome s.client.sent (λ given. AnswerPassed b.exchange.method s.closing (drop b.exchange.taken_from took) (drop s.gave given)))) link_taken back) in (
                b.exchange.method,
                subst (λ (z : _). AnswerPassed b.exchange.method z (drop g.carried.took.from told.0.took) (drop g.record_.gave.from c.gave)) (sym g.closing)
                    (subst (λ (i : ℕ). AnswerPassed b.exchange.method s.closing (drop i told.0.took) (drop g.record_.gave.from c.gave)) (sym g.its.took)
                    (subst (λ (i : ℕ). AnswerPassed b.exchange.method s.closing (drop b.exchange.taken_from told.0.took) (drop i c.gave)) (sym g.gave) there)),
              )) k.comes_back;
        }

    stood : (before : SessionNow) (o : Option ℕ) (h : Option Holding) → s.own ≡ o → StandsBy before s o h now.0 → WasCut m.replays.come.2.0 records s h → EndsBehind s h l → StoodIdle its_line.0 c l now ⊎ StoodInExchange script t its_line.0 c l now
    stood before (Some status) h e k cut ends = absurd (no_client_write before.client k)
    stood before None None e k cut ends = inl (idle before (ends e) k)
    stood before None (Some (Resting r)) e k cut ends = inl (idle before (ends e) k)
    stood before None (Some (Exchanging b)) e k cut ends = inr (busy before k.0 b (cut e) k.2)

    is_quiet : IsQuiet script m.replays.ordered t l
    is_quiet = record {
      earlier = w.stood.earlier;
      now = now;
      last = w.stood.last;
      client = c;
      there = subst (λ (cs : List ClientBytes). Contains cs c) (sym told_clients) (client_told l.worker l.session w.client w.buried).1;
      worker = c_tells.worker;
      session = c_tells.session;
      line_is = its_line.0;
      its = subst (λ (ls : List ClientLine). slice_get ls (l.session.0 - 1) ≡ Some its_line.0) all_came its_line.1;
      stood = stood w.stood.stood.0 s.own s.conn refl w.stood.stood.1 w.cut w.ends;
    }

  pub each_quiet : QuietByScript script t
  each_quiet = record {
    ordered = m.replays.ordered;
    in_order = m.replays.in_order;
    quiet = λ l there stop.
        let h = m.replays.come in
        let still = stood_still script.plans script.moments h.0 (all_cares script) m.run.worker m.run.net.state m.run.records h.2.0 m.run.turns h.2.3 in
        let here : Contains m.run.records (line.Left l) = subst (λ (rs : List Told). Contains rs (line.Left l)) (told_records ∙ sym m.told) there in
        is_quiet l (subst (λ (rs : List Told). WasStopped script.moments h.2.0 rs l) m.told (still l here stop));
  }

-- a transcript of these parts tells so
pub ok_quiet : (script : Meaning) (most : ℕ) (net : MemoryNetNow) (seats : List History) (records : List Told) (clients : List ClientBytes) (conns : List ConnBytes) (r : Result Transcript NoMemory) → TellsLinks records net clients conns
    → Rises ConnBefore conns → IfOk r (λ t. t.records ≡ records) → IfOk r (λ t. t.clients ≡ clients) → IfOk r (λ t. t.conns ≡ conns) → MakesFewer script most records net.state seats → IfOk r (QuietByScript script)
ok_quiet script most net seats records clients conns (Ok t) tells rise x y z m = each_quiet script most seats records net clients conns m tells rise t x y z
ok_quiet script most net seats records clients conns (Err e) tells rise x y z m = tt
