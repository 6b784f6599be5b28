use Rattle.std.proofs.Common.{All, Some, map, length, inl, refl, ap, ◌∙◌, subst, arith}
use Rattle.std.proofs.lemmas.List.Elements.{All-rest, All-head}
use Rattle.hx_link.specs.DialNotes.{where_told}
use Rattle.hx_doors.specs.Doors.{IsClient}
use Rattle.hx_doors.specs.MemoryDoors.{client_told}
use Rattle.hx_doors.proofs.Given.{drop_given, told_more}
use Rattle.hx_doors.proofs.memory_door.MemoryDoorDoor.accept.Goals as goal

pub invariant_of-self : goal.invariant_of-self
invariant_of-self g c =
    let items = c.in-Some.ensures.items in
    let more = ap length items in record {
      rest = drop_given c.self.inside.all.value.items c.self.inside.given _ _ (c.self.invariant.rest ∙ items);
      few = omega (arith, more, c.self.invariant.few);
      new = All-rest (λ x. IsClient (g.L.Link.state x.1)) _ _ _ items c.self.invariant.new;
    }

pub returns-in-Some-clause-accepts : goal.returns-in-Some-clause-accepts
returns-in-Some-clause-accepts g c =
    let items = c.in-Some.ensures.items in
    let told = told_more (client_told g.L.Link.state) c.self.inside.all.value.items c.self.inside.given _ _ (c.self.invariant.rest ∙ items) in
    rw (← c.self.view_is) (
      refl,
      inl (ap Some told),
      All-head (λ x. IsClient (g.L.Link.state x.1)) (c.in-Some.front, c.in-Some.link) _ (subst (All (λ x. IsClient (g.L.Link.state x.1))) items c.self.invariant.new),
    )

pub returns-in-Some-clause-answers : goal.returns-in-Some-clause-answers
returns-in-Some-clause-answers g c =
    let items = c.in-Some.ensures.items in
    let told = told_more (client_told g.L.Link.state) c.self.inside.all.value.items c.self.inside.given _ _ (c.self.invariant.rest ∙ items) in
    rw (← c.self.view_is) (
      ap (map (client_told g.L.Link.state)) items,
      λ i. record {
        faults = 0;
        waits = c.self.inside.waits;
        clients = Some (told i);
        listens = where_told c.self.inside.telling c.self.inside.listens.items;
      },
    )
