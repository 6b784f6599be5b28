use Rattle.std.proofs.Common.{◌+◌, All, map, take, drop, refl, sym, ap, subst}
use Rattle.std.proofs.lemmas.List.Elements.{All-append, All-take, All-drop}
use Rattle.hx_link.specs.MemorySources.{MemorySourceNow}
use Rattle.hx_doors.specs.MemoryCabinets.{IsUnread, bytes_of, file_told}
use Rattle.hx_doors.proofs.First.{found_first, found_holds, told_first, left_told}
use Rattle.hx_doors.proofs.memory_cabinet.MemoryCabinetCabinet.fetch.Goals as goal

pub new-requires : goal.new-requires
new-requires c =
    found_holds (λ f. IsUnread f.1) _ c.self.inside.files.items c.in-Some.i c.remove-source.result c.as_slice.ensures.value
    c.in-Some.ensures.within c.remove-source.ensures.value c.self.invariant

pub invariant_of-self : goal.invariant_of-self
invariant_of-self c =
    let files = c.self.inside.files.items in
    let i = c.in-Some.i in
    subst (All (λ f. IsUnread f.1)) (sym c.remove-source.ensures.by_index.2)
    (All-append (λ f. IsUnread f.1) (take i files) (drop (i + 1) files)
    (All-take (λ f. IsUnread f.1) i files c.self.invariant) (All-drop (λ f. IsUnread f.1) (i + 1) files c.self.invariant))

pub returns-in-Some-clause-fetches : goal.returns-in-Some-clause-fetches
returns-in-Some-clause-fetches c =
    let source = c.remove-source.result.1 in
    let files = c.self.inside.files.items in
    let first = found_first c.args.name.now _ files c.remove-source.new.self.items c.in-Some.i c.remove-source.result c.as_slice.ensures.value
    c.in-Some.ensures.within c.in-Some.ensures.named c.in-Some.ensures.earlier c.remove-source.ensures.value c.remove-source.ensures.by_index.2 in
    let unread = found_holds (λ f. IsUnread f.1) _ files c.in-Some.i c.remove-source.result c.as_slice.ensures.value
    c.in-Some.ensures.within c.remove-source.ensures.value c.self.invariant in
    rw (c.new.ensures, ← c.self.view_is) (
      refl,
      (bytes_of source.state.left, map file_told c.remove-source.new.self.items, refl, told_first _ source _ _ first, left_told source.state.left),
      record {
        faults = ap (λ (s : MemorySourceNow). s.state.faults) unread.2;
        told_end = ap (λ (s : MemorySourceNow). s.state.told_end) unread.2;
      },
    )

pub returns-in-Some-clause-answers : goal.returns-in-Some-clause-answers
returns-in-Some-clause-answers c =
    let files = c.self.inside.files.items in
    let first = found_first c.args.name.now _ files c.remove-source.new.self.items c.in-Some.i c.remove-source.result c.as_slice.ensures.value
    c.in-Some.ensures.within c.in-Some.ensures.named c.in-Some.ensures.earlier c.remove-source.ensures.value c.remove-source.ensures.by_index.2 in
    rw (c.new.ensures, ← c.self.view_is) first
