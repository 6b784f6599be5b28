use Rattle.std.proofs.Common.{◌≡◌, ℕ, ◌+◌, ◌==◌, List, Option, length, sym, ap, ◌∙◌}
use Rattle.std.specs.List.{flat_map}
use Rattle.std.specs.Option.{option_or}
use Rattle.std.proofs.lemmas.List.{length-append}
use Rattle.std.proofs.lemmas.List.Folds.{find-append}
use Rattle.hx_record.specs.Tiles.{carried_of, carried_if}
use Rattle.hx_record.specs.declared.served.Carried.{Carried}
use Rattle.hx_check_parts.specs.Tiling.{numbered}
use Rattle.hx_check_parts.proofs.NumberLemmas.{exchanges_more}
use Rattle.hx_check_parts.proofs.numbers.Exchanges.note.Goals as goal

pub returns-clause-keeps : goal.returns-clause-keeps
returns-clause-keeps c records keeps = record {
  counts = λ server id.
      let xs = carried_if server id c.in-Some.carried in
      let before = flat_map (carried_of server id) records in
      c.in_ok-note_count.ensures.more server id
      ∙ ap (λ (m : ℕ). m + length xs) (keeps.counts server id)
      ∙ sym (length-append before xs)
      ∙ ap (λ (x : List Carried). length x) (sym (exchanges_more server id records c.args.told xs (c.in-Some.ensures server id)));
  firsts = λ server id k.
      let xs = carried_if server id c.in-Some.carried in
      let before = flat_map (carried_of server id) records in
      c.in_ok-note_first.ensures server id k
      ∙ ap (λ (o : Option Carried). option_or o (numbered k xs)) (keeps.firsts server id k)
      ∙ sym (find-append (λ (x : Carried). x.nth == k) before xs)
      ∙ ap (λ (x : List Carried). numbered k x) (sym (exchanges_more server id records c.args.told xs (c.in-Some.ensures server id)));
}
