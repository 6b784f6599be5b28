use Rattle.std.proofs.Common.{◌≡◌, ◌+◌, ◌<◌, ◌++◌, ℕ, List, [], ◌∷◌, All, drop, get_or, length, length-append, take, ap, subst, sym, ◌∙◌, arith}
use Rattle.std.proofs.lemmas.List.{take_all}
use Rattle.std.proofs.lemmas.List.Elements.{All-more, All-push, All-tail}
use Rattle.std.proofs.lemmas.Grind.{common_steps}
use borrow.Author.Tests.{ltb-true}
use Rattle.hx_pool.specs.Journal.{Journal}
use Rattle.hx_script.specs.declared.transcript.ServerPart.{ServerPart}
use Rattle.hx_script.specs.PrintedForm.{IsToldServer}
use Rattle.hx_told.specs.declared.servers.Named.{Named}
use Rattle.hx_told.specs.Servers.{HasNames, IsWhole, part_of, parts_of}
use Rattle.hx_told.proofs.Parts.{parts_more}
use Rattle.hx_told.proofs.servers.tell_servers.Goals as goal

pub loop-named-preserved : goal.loop-named-preserved
loop-named-preserved g c =
    let all = c.args.names.items in
    let seats : List Journal = c.args.seats.now in
    let parts : List ServerPart = c.loop-named.parts.items in
    let rest : List Named = c.next.new.self.rest.items in
    let n = c.in-Some.named in
    let j : Journal = c.in-Some-get.seat.now in
    let e : c.loop-named.named-iterator.rest.items ≡ n ∷ rest = c.in-Some.ensures.steps.0 in
    let p = c.in_ok-server_part.field-0 in
    let len : c.len.result ≡ length parts = grind (arith, common_steps) in
    let inside : c.len.result < length seats = ltb-true c.len.result (length seats) (sym c.in-Some-get.ensures.lookup.0) in
    let low : length parts < length seats = omega (arith, len, inside) in
    let at : j ≡ get_or seats (length parts) j = subst (λ (k : ℕ). j ≡ get_or seats k j) len c.in-Some-get.ensures.lookup.1 in
    let is : p ≡ part_of n j = c.in_ok-server_part.ensures.part in
    let items : c.push.new.self.items ≡ parts ++ p ∷ [] = c.in_ok-push.ensures.items in
    let longer : length c.push.new.self.items ≡ length parts + 1 = ap length items ∙ length-append parts (p ∷ []) in
    record {
      so_far = subst (λ (ps : List ServerPart). parts_of all seats ≡ ps ++ parts_of rest (drop (length ps) seats)) (sym items)
          (subst (λ (q : ServerPart). parts_of all seats ≡ (parts ++ q ∷ []) ++ parts_of rest (drop (length (parts ++ q ∷ [])) seats)) (sym is)
          (subst (λ (k : ℕ). parts_of all seats ≡ (parts ++ part_of n j ∷ []) ++ parts_of rest (drop k seats)) (sym (length-append parts (part_of n j ∷ [])))
          (parts_more (parts_of all seats) parts n rest seats j (length parts)
          (c.loop-named.invariant.so_far ∙ ap (λ (ns : List Named). parts ++ parts_of ns (drop (length parts) seats)) e) low at)));
      within = omega (arith, longer, low);
      whole = subst (λ (k : ℕ). All IsWhole (take k seats)) (sym longer)
          (All-more IsWhole seats (length parts) j low c.loop-named.invariant.whole (subst IsWhole at c.in_ok-server_part.ensures.whole));
      told = subst (λ (ps : List ServerPart). All IsToldServer ps) (sym items)
          (All-push IsToldServer parts p c.loop-named.invariant.told c.in_ok-server_part.ensures.told);
      names = All-tail HasNames n rest (subst (λ (ns : List Named). All HasNames ns) e c.loop-named.invariant.names);
    }

pub returns-clause-whole : goal.returns-clause-whole
returns-clause-whole g c =
    let all : length c.loop-named.parts.items ≡ length c.args.seats.now = grind (arith, common_steps) in
    subst (λ (js : List Journal). All IsWhole js) (take_all (length c.loop-named.parts.items) c.args.seats.now (omega (arith, all))) c.loop-named.invariant.whole
