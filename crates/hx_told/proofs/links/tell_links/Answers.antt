use Rattle.std.proofs.Common.{◌≡◌, ◌++◌, List, [], All, ap, sym, ◌∙◌, subst, arith}
use Rattle.std.proofs.lemmas.Grind.{common_steps}
use Rattle.std.proofs.lemmas.List.Elements.{All-nil, All-cons}
use Rattle.hx_link.specs.MemoryLinks.{MemoryLinkNow}
use Rattle.hx_told.specs.Links.{TellsBytes, conns_of}
use Rattle.hx_told.proofs.Clients.{HasClients, clients_more, clients_all, conns_more}
use Rattle.hx_told.proofs.links.tell_links.Goals as goal

pub loop-link-preserved : goal.loop-link-preserved
loop-link-preserved c =
    let all = c.args.links.items in let lefts = c.args.lefts.now in
    let told = c.loop-link.told in let e = c.in-Some.ensures.steps.0 in record {
      clients = clients_more lefts all c.next.new.self.rest.items c.in-Some.link told.clients.items c.add.new.self.clients.items
          (subst (λ (ms : List MemoryLinkNow). HasClients lefts all ms told.clients.items) e c.loop-link.invariant.clients) c.in_ok-add.ensures.clients;
      bytes = λ rest. c.loop-link.invariant.bytes (subst (λ (ms : List MemoryLinkNow). All TellsBytes ms) (sym e)
          (All-cons TellsBytes c.in-Some.link c.next.new.self.rest.items c.in_ok-add.ensures.bytes rest));
      conns = conns_more (conns_of all) told.conns.items c.in-Some.link c.next.new.self.rest.items c.add.new.self.conns.items
          (c.loop-link.invariant.conns ∙ ap (λ (ms : List MemoryLinkNow). told.conns.items ++ conns_of ms) e) c.in_ok-add.ensures.conns;
    }

pub returns-clause-clients : goal.returns-clause-clients
returns-clause-clients c =
    let none : c.loop-link.link-iterator.rest.items ≡ [] = grind (arith, common_steps) in
    clients_all c.args.lefts.now c.args.links.items c.loop-link.told.clients.items
    (subst (λ (ms : List MemoryLinkNow). HasClients c.args.lefts.now c.args.links.items ms c.loop-link.told.clients.items) none c.loop-link.invariant.clients)

pub returns-clause-bytes : goal.returns-clause-bytes
returns-clause-bytes c =
    let none : c.loop-link.link-iterator.rest.items ≡ [] = grind (arith, common_steps) in
    c.loop-link.invariant.bytes (subst (λ (ms : List MemoryLinkNow). All TellsBytes ms) (sym none) (All-nil TellsBytes))

pub returns-clause-each : goal.returns-clause-each
returns-clause-each c =
    let none : c.loop-link.link-iterator.rest.items ≡ [] = grind (arith, common_steps) in
    let h = subst (λ (ms : List MemoryLinkNow). HasClients c.args.lefts.now c.args.links.items ms c.loop-link.told.clients.items) none c.loop-link.invariant.clients in
    omega (arith, h.each)
