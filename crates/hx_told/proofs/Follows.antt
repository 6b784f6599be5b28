-- The clients that are told are those of a script's lines, and the connections followed its plans.
use Rattle.std.proofs.Common.{◌≡◌, ℕ, zero, suc, ◌+◌, ◌-◌, ◌<◌, ◌≤◌, true, List, [], ◌∷◌, ◌++◌, length, map, take, drop, refl, sym, ap, ◌∙◌, subst, arith, Some, ⊎_elim, inl, inr, Result, Ok, Err}
use Rattle.std.specs.Prelude.{Contains, IfOk, IsSome, slice_get}
use Rattle.std.proofs.lemmas.Bool.{false≢true}
use Rattle.std.proofs.lemmas.List.{take_all, take-append-drop}
use Rattle.std.proofs.lemmas.List.Elements.{All-weaker, All-contains_itself}
use Rattle.hx_base.specs.declared.numbers.NoMemory.{NoMemory}
use Rattle.hx_base.specs.declared.numbers.SessionNo.{SessionNo}
use Rattle.hx_base.specs.declared.numbers.ThreadNo.{ThreadNo}
use Rattle.hx_base.specs.declared.plan.Plan.{Plan}
use Rattle.hx_connecting.specs.Sessions.{SessionNow}
use Rattle.hx_conn.specs.WhatTold.{what_of_link}
use Rattle.hx_link.specs.MemoryLinks.{MemoryLinkNow}
use Rattle.hx_link.specs.MemoryNets.{MemoryNetNow}
use Rattle.hx_link.specs.Planned.{planned}
use Rattle.hx_link.specs.Told.{LinkState}
use Rattle.hx_plain.specs.PlainSeat.{first_thread}
use Rattle.hx_planned.specs.Plans.{FollowsId, FollowsNumber}
use Rattle.hx_record.specs.declared.bytes.ClientBytes.{ClientBytes}
use Rattle.hx_record.specs.declared.bytes.ConnBytes.{ConnBytes}
use Rattle.hx_record.specs.declared.served.Told.{Told}
use Rattle.hx_course.specs.Graves.{OfClient, OfConn, Grave, grave}
use Rattle.hx_course.specs.Places.{IsInGrave}
use Rattle.hx_run.specs.Courses.{EndsPlanned, plan_of}
use Rattle.hx_script.specs.PrintedForm.{Rises, ClientBefore, ConnBefore}
use Rattle.hx_script.specs.declared.transcript.Transcript.{Transcript}
use Rattle.hx_script_parts.specs.declared.script.ClientLine.{ClientLine}
use Rattle.hx_worker.specs.Workers.{session_of}
use Rattle.hx_told.specs.Ends.{ends_of}
use Rattle.hx_told.specs.Follows.{AreClientsOf, FollowsPlan, FollowsScript, IsFrontOf}
use Rattle.hx_told.specs.Links.{TellsBytes}
use Rattle.hx_told.specs.Telling.{TellsLinks}
use Rattle.hx_told.proofs.Ending.{buried_link, clients_told, no_client_else, no_conn_else}
use Rattle.hx_told.proofs.Owned.{first_or_later, none_there}
use Rattle.hx_told.proofs.Each.{contains_first, contains_next}

some_same : {A : Type 0} (a b : A) → Some a ≡ Some b → a ≡ b
some_same a b e = cc

-- ---- a link in memory gave the first bytes of the plan that it tells

plan_is : (m : MemoryLinkNow) (l : LinkState) (p : Plan) → m.state ≡ l → TellsBytes m → l.plan ≡ Some p → m.plan ≡ p
plan_is m l p e b is = some_same m.plan p (sym b.keeps.told ∙ ap (λ (x : LinkState). x.plan) e ∙ is)

taken_is : (m : MemoryLinkNow) (l : LinkState) (took : List ℕ) → m.state ≡ l → TellsBytes m → l.taken ≡ Some took → took ≡ take m.state.taken_count (planned m.plan.pieces)
taken_is m l took e b told = some_same took (take m.state.taken_count (planned m.plan.pieces)) (sym told ∙ ap (λ (x : LinkState). x.taken) (sym e) ∙ b.keeps.taken)

front_is : (m : MemoryLinkNow) (l : LinkState) (p : Plan) (took : List ℕ) → m.state ≡ l → TellsBytes m → l.plan ≡ Some p → l.taken ≡ Some took → IsFrontOf p took
front_is m l p took e b is told =
    let all : List ℕ = planned m.plan.pieces in
    let count : ℕ = m.state.taken_count in
    subst (λ (x : Plan). IsFrontOf x took) (plan_is m l p e b is)
    (drop count all, sym (take-append-drop count all) ∙ ap (λ (bytes : List ℕ). bytes ++ drop count all) (sym (taken_is m l took e b told)))

end_is : (m : MemoryLinkNow) (l : LinkState) (p : Plan) (took : List ℕ) → m.state ≡ l → TellsBytes m → l.plan ≡ Some p → l.taken ≡ Some took → l.told_end ≡ true
    → IsSome p.end × (took ≡ planned p.pieces)
end_is m l p took e b is told ended =
    let all : List ℕ = planned m.plan.pieces in
    let by_plan = b.keeps.ended (ap (λ (x : LinkState). x.told_end) e ∙ ended) in
    subst (λ (x : Plan). IsSome x.end × (took ≡ planned x.pieces)) (plan_is m l p e b is)
    (by_plan.1, taken_is m l took e b told ∙ ap (λ (k : ℕ). take k all) by_plan.0 ∙ take_all (length all) all (omega arith))

-- ---- one client a line

-- the client is that of one of the lines, whose sessions have the numbers from n on
record IsAmong (n : ℕ) (lines : List ClientLine) (c : ClientBytes) : Type 0 where
  pub worker : c.worker ≡ first_thread
  pub low : n ≤ c.session.0
  pub line : ClientLine
  pub at : slice_get lines (c.session.0 - n) ≡ Some line
  pub took : IsFrontOf line.plan c.took

-- the session of each of the lines is told
abbrev EachTold : ℕ → List ClientLine → List ClientBytes → Type 0
EachTold n lines clients = (k : ℕ) → k < length lines → (c : ClientBytes) × Contains clients c × (c.session.0 ≡ n + k)

none_at : {A : Type 0} (k : ℕ) (x : A) → slice_get [] k ≡ Some x → ⊥
none_at k x e = cc

-- each one behind the first has a greater number
behind : (c : ClientBytes) (clients : List ClientBytes) → c.worker ≡ first_thread → Rises ClientBefore (c ∷ clients)
    → ((x : ClientBytes) → Contains clients x → x.worker ≡ first_thread) → (x : ClientBytes) → Contains clients x → c.session.0 < x.session.0
behind c [] own r all x there = absurd (none_there x there)
behind c (d ∷ clients) own r all x there =
    let its : d.worker ≡ first_thread = all d (contains_first d clients) in
    let next : c.session.0 < d.session.0 =
    ⊎_elim (λ (low : c.worker.0 < d.worker.0). absurd (omega (arith, low, ap (λ (t : ThreadNo). t.0) own, ap (λ (t : ThreadNo). t.0) its)))
    (λ same. same.1) r.0 in
    ⊎_elim (λ (here : d ≡ x). subst (λ (y : ClientBytes). c.session.0 < y.session.0) here next)
    (λ later. omega (arith, next, behind d clients its r.1 (λ y h. all y (contains_next d clients y h)) x later))
    (first_or_later d clients x there)

rest_rises : (c : ClientBytes) (clients : List ClientBytes) → Rises ClientBefore (c ∷ clients) → Rises ClientBefore clients
rest_rises c [] r = tt
rest_rises c (d ∷ clients) r = r.1

later_at : (line : ClientLine) (lines : List ClientLine) (k j : ℕ) (x : ClientLine) → k ≡ suc j → slice_get (line ∷ lines) k ≡ Some x → slice_get lines j ≡ Some x
later_at line lines k j x e at = subst (λ (i : ℕ). slice_get (line ∷ lines) i ≡ Some x) e at

first_at : (line : ClientLine) (lines : List ClientLine) (k : ℕ) (x : ClientLine) → k ≡ 0 → slice_get (line ∷ lines) k ≡ Some x → line ≡ x
first_at line lines k x e at = some_same line x (subst (λ (i : ℕ). slice_get (line ∷ lines) i ≡ Some x) e at)

one_each : (n : ℕ) (lines : List ClientLine) (clients : List ClientBytes) → Rises ClientBefore clients → ((c : ClientBytes) → Contains clients c → IsAmong n lines c) → EachTold n lines clients
    → AreClientsOf n lines clients
one_each n [] [] r among each = tt
one_each n [] (c ∷ clients) r among each = let k = among c (contains_first c clients) in absurd (none_at (c.session.0 - n) k.line k.at)
one_each n (line ∷ lines) [] r among each = let k = each 0 (omega arith) in absurd (none_there k.0 k.1)
one_each n (line ∷ lines) (c ∷ clients) r among each =
    let k : IsAmong n (line ∷ lines) c = among c (contains_first c clients) in
    let after = behind c clients k.worker r (λ x there. (among x (contains_next c clients x there)).worker) in
    let first = each 0 (omega arith) in
    let is : c.session.0 ≡ n =
    ⊎_elim (λ (here : c ≡ first.0). omega (arith, ap (λ (x : ClientBytes). x.session.0) here, first.2))
    (λ later. absurd (omega (arith, after first.0 later, first.2, k.low)))
    (first_or_later c clients first.0 first.1) in
    let own : line ≡ k.line = first_at line lines (c.session.0 - n) k.line (omega (arith, is)) k.at in (
      record { worker = k.worker; session = is; took = subst (λ (x : ClientLine). IsFrontOf x.plan c.took) (sym own) k.took },
      one_each (n + 1) lines clients (rest_rises c clients r)
          (λ x there.
          let q : IsAmong n (line ∷ lines) x = among x (contains_next c clients x there) in
          let low = after x there in
          record {
            worker = q.worker;
            low = omega (arith, low, is);
            line = q.line;
            at = later_at line lines (x.session.0 - n) (x.session.0 - (n + 1)) q.line (omega (arith, low, is)) q.at;
            took = q.took;
          })
          (λ i low.
          let q = each (i + 1) (omega (arith, low)) in
          ⊎_elim (λ (here : c ≡ q.0). absurd (omega (arith, ap (λ (x : ClientBytes). x.session.0) here, q.2, is)))
          (λ later. (q.0, later, omega (arith, q.2)))
          (first_or_later c clients q.0 q.1)),
    )

-- the line of a plan
pub line_at : (lines : List ClientLine) (k : ℕ) (p : Plan) → slice_get (map plan_of lines) k ≡ Some p → (line : ClientLine) × (slice_get lines k ≡ Some line) × (line.plan ≡ p)
line_at [] k p e = cc
line_at (line ∷ lines) zero p e = (line, refl, some_same line.plan p e)
line_at (line ∷ lines) (suc k) p e = line_at lines k p e

planned_count : (lines : List ClientLine) → length (map plan_of lines) ≡ length lines
planned_count [] = refl
planned_count (line ∷ lines) = ap suc (planned_count lines)

none_there_is : (sessions : List SessionNow) (n : ℕ) → sessions ≡ [] → IsSome (session_of sessions n) → ⊥
none_there_is sessions n none some = false≢true (subst (λ (l : List SessionNow). IsSome (session_of l n)) none some)

-- ---- what is told

module _ (lines : List ClientLine) (plans : List Plan) (records : List Told) (net : MemoryNetNow) (clients : List ClientBytes) (conns : List ConnBytes)
    (e : EndsPlanned lines plans records net.state) (tells : TellsLinks records net clients conns) (firsts : Rises ClientBefore clients) (rise : Rises ConnBefore conns) where
  -- the link of a grave
  link_is : (g : Grave) → Contains e.graves g → (m : MemoryLinkNow) × (m.state ≡ g.link) × TellsBytes m
  link_is g there = buried_link records net clients conns e.graves tells e.course.buried e.course.owners.dials e.course.owners.lefts rise g there

  client_among : (c : ClientBytes) → Contains clients c → IsAmong 1 e.ordered c
  client_among c there =
      let k = no_client_else records net clients conns e.graves tells e.course.buried e.course.owners.dials e.course.owners.lefts rise c there in
      let l : LinkState = k.0 in
      let m = link_is (grave (OfClient c.worker c.session) l) k.1 in
      let thread : c.worker ≡ e.worker.thread = (e.course.clients.buried c.worker c.session l k.1).thread in
      let its : FollowsNumber (map plan_of e.ordered) c.session l.plan =
      e.follows.clients c.session l (inr (subst (λ (t : ThreadNo). Contains e.graves (grave (OfClient t c.session) l)) thread k.1)) in
      let line = line_at e.ordered (c.session.0 - 1) its.plan.0 its.plan.1 in
      record {
        worker = thread ∙ e.one;
        low = its.low;
        line = line.0;
        at = line.1;
        took = front_is m.0 l line.0.plan c.took m.1 m.2 (its.plan.2 ∙ ap Some (sym line.2)) k.2.took;
      }

  each_told : EachTold 1 e.ordered clients
  each_told k low =
      let n : SessionNo = record { 0 = 1 + k } in
      let count : e.worker.last ≡ length e.ordered = e.follows.count ∙ planned_count e.ordered in
      ⊎_elim (λ some. absurd (none_there_is e.worker.sessions n.0 e.empty.sessions some))
      (λ buried.
      let c = clients_told records net clients conns e.graves tells e.course.buried e.course.owners.dials e.course.owners.lefts rise e.worker.thread n buried.0 buried.1 in
      (c.0, c.1, ap (λ (x : SessionNo). x.0) c.2.session))
      (e.course.owners.each n (omega arith) (omega (arith, low, count)))

  conn_follows : (c : ConnBytes) → Contains conns c → FollowsPlan plans (ends_of net.links) c
  conn_follows c there =
      let k = no_conn_else records net clients conns e.graves tells e.course.buried e.course.owners.dials e.course.owners.lefts rise c there in
      let l : LinkState = k.0 in
      let m = link_is (grave (OfConn c.server c.id) l) k.1 in
      let grave_is : IsInGrave e.graves c.server c.id (what_of_link l) = record { link = l; there = k.1; tells = refl } in
      let its : FollowsId plans c.server c.id l.plan =
      e.follows.conns c.server c.id (what_of_link l) (inr (inr grave_is)) in
      record {
        low = its.low;
        plan = its.plan.0;
        its = its.plan.1;
        took = front_is m.0 l its.plan.0 c.took m.1 m.2 its.plan.2 k.2.took;
        ended = λ ended. end_is m.0 l its.plan.0 c.took m.1 m.2 its.plan.2 k.2.took (sym k.2.ended ∙ ended);
      }

  pub follows_script : FollowsScript lines plans (ends_of net.links) clients conns
  follows_script = record {
    ordered = e.ordered;
    in_order = e.in_order;
    clients_are = one_each 1 e.ordered clients firsts client_among each_told;
    conns_are = All-weaker (Contains conns) (FollowsPlan plans (ends_of net.links)) conn_follows conns (All-contains_itself conns);
  }

-- a transcript of these parts tells so
pub ok_follows : (lines : List ClientLine) (plans : List Plan) (net : MemoryNetNow) (records : List Told) (clients : List ClientBytes) (conns : List ConnBytes) (r : Result Transcript NoMemory)
    → TellsLinks records net clients conns → Rises ClientBefore clients → Rises ConnBefore conns → IfOk r (λ t. t.clients ≡ clients) → IfOk r (λ t. t.conns ≡ conns)
    → EndsPlanned lines plans records net.state → IfOk r (λ t. FollowsScript lines plans (ends_of net.links) t.clients t.conns)
ok_follows lines plans net records clients conns (Ok t) tells firsts rise y z e =
    subst (λ (cs : List ClientBytes). FollowsScript lines plans (ends_of net.links) cs t.conns) (sym y)
    (subst (λ (cs : List ConnBytes). FollowsScript lines plans (ends_of net.links) clients cs) (sym z) (follows_script lines plans records net clients conns e tells firsts rise))
ok_follows lines plans net records clients conns (Err x) tells firsts rise y z e = tt
