use Rattle.std.proofs.Common.{arith, refl, false, ◌++◌, ◌∷◌, [], Option, Some, List, ap, sym, ◌∙◌, subst}
use Rattle.atomic_table.specs.Table.{opening}
use Rattle.hx_pool.specs.declared.board.BoardTerms.{BoardTerms}
use Rattle.hx_resting.specs.declared.values.Rows.{Rows}
use Rattle.hx_lockboard.specs.Rule.{Kept}
use Rattle.hx_lockboard.specs.Views.{maker}
use Rattle.hx_lockboard.proofs.Moves.{starts}
use Rattle.hx_lockboard.proofs.Boards.{unused_after}
use Rattle.hx_lockboard.proofs.board.lock_board.Goals as goal

pub new-requires : goal.new-requires
new-requires g c =
    let b : BoardTerms = record { server = c.args.server; rules = c.args.rules; threads = c.args.threads; start = c.args.start } in
    let rows : Rows g.row.V.Denot = record { next = 1; draining = false; round = 0; resting = c.in-Ok.resting } in
    let room = c.in-Ok.ensures.capacity in
    let after = unused_after g.V.Faced.shows b rows refl refl refl c.in-Ok.ensures.items (omega arith) in
    let slots = c.push_reserved.ensures.items ∙ ap (λ (l : List (Option (Rows g.row.V.Denot))). l ++ Some rows ∷ []) c.in-Ok-with_capacity.ensures.items in
    subst (λ (l : List (Option (Rows g.row.V.Denot))). Kept g.V.Faced.shows b (opening (0 ∷ 0 ∷ []) l (maker b))) (sym slots) (starts g.V.Faced.shows b rows c.requires.threads.1 after)
