-- Each record that is told has its cause by the script.
use Rattle.std.proofs.Common.{◌≡◌, ⊎_elim, ℕ, ◌++◌, List, map, refl, sym, ap, ◌∙◌, subst, Option, Some, None, Result, Ok, Err}
use Rattle.std.specs.Prelude.{Contains, IfOk, reverse}
use Rattle.std.proofs.lemmas.List.{append-nil}
use Rattle.hx_base.specs.declared.numbers.NoMemory.{NoMemory}
use Rattle.hx_base.specs.declared.numbers.ConnId.{ConnId}
use Rattle.hx_base.specs.declared.numbers.ServerNo.{ServerNo}
use Rattle.hx_base.specs.declared.numbers.SessionNo.{SessionNo}
use Rattle.hx_base.specs.declared.numbers.ThreadNo.{ThreadNo}
use Rattle.hx_base.specs.declared.what.LinkTold.{LinkTold}
use Rattle.hx_causes.proofs.Going.{told_by}
use Rattle.hx_causes.proofs.ReplayCauses.{causes_hold}
use Rattle.hx_causes.specs.Causes.{CausedLine, IsOfLine, WasBuried, WentOn, scope}
use Rattle.hx_conn.specs.WhatTold.{what_of_link}
use Rattle.hx_connecting.specs.Sessions.{SessionNow}
use Rattle.hx_course.proofs.TableLemmas.{none_in}
use Rattle.hx_course.specs.Endings.{TellsClient}
use Rattle.hx_course.specs.Graves.{AreBuried, OfClient, OfConn, grave}
use Rattle.hx_course.specs.Lines.{lefts_of}
use Rattle.hx_course.specs.Places.{StandsBehind, ToldGrows}
use Rattle.hx_link.specs.MemoryLinks.{state_of}
use Rattle.hx_link.specs.MemoryNets.{MemoryNetNow}
use Rattle.hx_link.specs.Nets.{NetState}
use Rattle.hx_link.specs.Told.{LinkState}
use Rattle.hx_record.specs.declared.bytes.ClientBytes.{ClientBytes}
use Rattle.hx_record.specs.declared.bytes.ConnBytes.{ConnBytes}
use Rattle.hx_record.specs.declared.served.Told.{Told}
use Rattle.hx_run.specs.Cares.{all_cares}
use Rattle.hx_run.specs.Courses.{MakesFewer}
use Rattle.hx_pool.specs.SeatView.{History}
use Rattle.hx_script.specs.PrintedForm.{Rises, ConnBefore}
use Rattle.hx_script.specs.declared.transcript.Transcript.{Transcript}
use Rattle.hx_script_parts.specs.Meaning.{Meaning}
use Rattle.hx_script_parts.specs.declared.script.ClientLine.{ClientLine}
use Rattle.hx_told.specs.Caused.{CausedByScript, IsToldClient, IsToldConn}
use Rattle.hx_told.specs.Ends.{ends_of}
use Rattle.hx_told.specs.Telling.{TellsLinks}
use Rattle.hx_told.proofs.Ending.{clients_told, conns_told}

-- a link that told both its bytes, and what it had told before
told_is : (l : LinkState) (taken sent : List ℕ) → l.taken ≡ Some taken → l.sent ≡ Some sent → (x : LinkTold) × ((what_of_link l).told ≡ Some x) × (x.taken ≡ taken) × (x.sent ≡ sent)
told_is l taken sent e f = by_options l.taken l.sent e f
  where
    by_options : (a b : Option (List ℕ)) → a ≡ Some taken → b ≡ Some sent
        → (x : LinkTold) × ((what_of_link (record l { taken = a; sent = b })).told ≡ Some x) × (x.taken ≡ taken) × (x.sent ≡ sent)
    by_options (Some t) (Some s) e f = (record { taken = t; sent = s; ended = l.told_end }, refl, cc, cc)
    by_options None b e f = cc
    by_options (Some t) None e f = cc

none_told : (x : LinkTold) → None ≡ Some x → ⊥
none_told x e = cc

told_of_both : (l : LinkState) (x : LinkTold) → (what_of_link l).told ≡ Some x → (l.taken ≡ Some x.taken) × (l.sent ≡ Some x.sent)
told_of_both l x e = by_options l.taken l.sent e
  where
    by_options : (a b : Option (List ℕ)) → (what_of_link (record l { taken = a; sent = b })).told ≡ Some x → (a ≡ Some x.taken) × (b ≡ Some x.sent)
    by_options (Some t) (Some s) e =
        let is : record { taken = t; sent = s; ended = l.told_end } ≡ x = cc in
        (ap (λ (y : LinkTold). Some y.taken) is, ap (λ (y : LinkTold). Some y.sent) is)
    by_options None (Some s) e = absurd (none_told x e)
    by_options None None e = absurd (none_told x e)
    by_options (Some t) None e = absurd (none_told x e)

grown : (a : Option LinkTold) (b : Option LinkTold) (y : LinkTold) → b ≡ Some y → ToldGrows a b → (x : LinkTold) × (a ≡ Some x) × StandsBehind x y
grown a b y e g = subst (λ (o : Option LinkTold). ToldGrows a o) e g

-- the client of a link that is buried is told
client_of_grave : (clients : List ClientBytes) (t : ThreadNo) (n : SessionNo) (before link : LinkState) (c : ClientBytes) → Contains clients c → TellsClient t n link c → ToldGrows (what_of_link before).told (what_of_link link).told
    → IsToldClient clients t n before
client_of_grave clients t n before link c there tells grows =
    let y = told_is link c.took c.gave tells.took tells.gave in
    let x = grown (what_of_link before).told (what_of_link link).told y.0 y.1 grows in
    let b = told_of_both before x.0 x.1 in
    let taken = x.2.taken in
    let sent = x.2.sent in
    record {
      client = c;
      there = there;
      worker = tells.worker;
      session = tells.session;
      taken = (x.0.taken, taken.0, b.0, sym y.2 ∙ taken.1);
      sent = (x.0.sent, sent.0, b.1, sym y.3 ∙ sent.1);
    }

module _ (script : Meaning) (most : ℕ) (records : List Told) (net : MemoryNetNow) (clients : List ClientBytes) (conns : List ConnBytes) (seats : List History) (m : MakesFewer script most records net.state seats) (tells : TellsLinks records net clients conns) (rise : Rises ConnBefore conns) where
  came : List ClientLine
  came = m.replays.come.0

  known : (t : ThreadNo) (n : SessionNo) (l : LinkState) → WentOn m.run.worker.sessions m.replays.come.2.0 t n l → IsToldClient clients t n l
  known t n l w = ⊎_elim
      (λ there. absurd (none_in there.session (subst (λ (ss : List SessionNow). Contains ss there.session) m.over there.there)))
      (λ (buried : Contains m.replays.come.2.0 (grave (OfClient t n) w.link)).
      let course = m.replays.come.2.1 in
      let owned = course.owners in
      let told = clients_told records net clients conns m.replays.come.2.0 tells (subst (λ (s : NetState). AreBuried m.replays.come.2.0 s) m.left course.buried) owned.dials (owned.lefts ∙ ap lefts_of m.told) rise t n w.link buried in
      client_of_grave clients t n l w.link told.0 told.1 told.2 w.grows)
      w.is

  gone : (server : ServerNo) (id : ConnId) (l : LinkState) → WasBuried m.run.net.state.buried m.replays.come.2.0 server id l → IsToldConn conns (ends_of net.links) server id l
  gone server id l w = ⊎_elim
      (λ none. absurd (not_untold (map state_of tells.links) (sym tells.kept.buried ∙ (ap (λ (s : NetState). s.buried) (sym m.left) ∙ none))))
      (λ (buried : Contains m.replays.come.2.0 (grave (OfConn server id) l)).
      let course = m.replays.come.2.1 in
      let owned = course.owners in
      let told = conns_told records net clients conns m.replays.come.2.0 tells (subst (λ (s : NetState). AreBuried m.replays.come.2.0 s) m.left course.buried) owned.dials (owned.lefts ∙ ap lefts_of m.told) rise server id l buried in
      record { conn = told.0; there = told.1; server_is = told.2.server_is; id_is = told.2.id_is; taken = told.2.took; sent = told.2.sent; ended = told.2.ended })
      w
    where
      not_untold : (links : List LinkState) → Some links ≡ None → ⊥
      not_untold links e = cc

  all_came : m.replays.come.0 ≡ m.replays.ordered
  all_came = sym (append-nil m.replays.come.0) ∙ (ap (λ (l : List ClientLine). m.replays.come.0 ++ reverse l) (sym m.whole) ∙ sym m.replays.come.1)

  pub each_caused : (x : Told) → Contains records x → CausedLine (scope script.config script.moments m.replays.ordered) (IsToldClient clients) (IsToldConn conns (ends_of net.links)) x
  each_caused x there =
      let h = m.replays.come in
      let causes = causes_hold script.config script.plans script.moments h.0 (all_cares script) m.run.worker m.run.net.state m.run.records h.2.0 m.run.turns h.2.3 m.replays.config_is in
      told_by script.config script.moments h.0 m.replays.ordered (λ s line. subst (λ (l : List ClientLine). IsOfLine l s) all_came line) (WentOn m.run.worker.sessions h.2.0) (IsToldClient clients) known
      (WasBuried m.run.net.state.buried h.2.0) (IsToldConn conns (ends_of net.links)) gone x
      (causes.told x (subst (λ (l : List Told). Contains l x) (sym m.told) there))

-- a transcript of these parts tells so
pub ok_caused : (script : Meaning) (most : ℕ) (net : MemoryNetNow) (seats : List History) (records : List Told) (clients : List ClientBytes) (conns : List ConnBytes) (r : Result Transcript NoMemory) → TellsLinks records net clients conns → Rises ConnBefore conns
    → IfOk r (λ t. t.records ≡ records) → IfOk r (λ t. t.clients ≡ clients) → IfOk r (λ t. t.conns ≡ conns) → MakesFewer script most records net.state seats → IfOk r (CausedByScript script (ends_of net.links))
ok_caused script most net seats records clients conns (Ok t) tells rise x y z m = record {
  ordered = m.replays.ordered;
  in_order = m.replays.in_order;
  caused = λ v there.
      subst (λ (cs : List ClientBytes). CausedLine (scope script.config script.moments m.replays.ordered) (IsToldClient cs) (IsToldConn t.conns (ends_of net.links)) v) (sym y)
      (subst (λ (cs : List ConnBytes). CausedLine (scope script.config script.moments m.replays.ordered) (IsToldClient clients) (IsToldConn cs (ends_of net.links)) v) (sym z)
      (each_caused script most records net clients conns seats m tells rise v (subst (λ (rs : List Told). Contains rs v) x there)));
}
ok_caused script most net seats records clients conns (Err e) tells rise x y z m = tt
