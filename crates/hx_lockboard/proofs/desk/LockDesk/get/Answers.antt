use Rattle.std.proofs.Common.{◌≡◌, ◌∷◌, Option, Some, ap, subst, sym, ◌∙◌, arith, ne_eqb}
use mathlib.Core.Option as maybe
use Rattle.std.specs.Prelude.{MatchBool}
use Rattle.atomic_table.specs.Table.{Me, step, rest}
use Rattle.hx_resting.specs.declared.values.Rows.{Rows}
use Rattle.hx_resting.specs.declared.roles.View.{View}
use Rattle.hx_lockboard.specs.Views.{Got, got}
use Rattle.hx_lockboard.specs.LockDesks.{carried_of, Gets}
use Rattle.hx_lockboard.proofs.Moves.{gets}
use Rattle.hx_lockboard.proofs.Desking.{slot_value, some_value, is_some_of, view_now, carried_now, gets_now}
use Rattle.hx_lockboard.proofs.desk.LockDesk.get.Goals as goal

pub compare_exchange-found-requires : goal.compare_exchange-found-requires
compare_exchange-found-requires g c =
    let l = c.loop.invariant in
    let i = c.self.invariant in
    let w = ap (λ x. x.now.table_id.words) l.shared ∙ i.1 in (
      l.table ∙ (i.0 ∙ sym (ap (λ x. x.now.table_id) l.shared)),
      omega arith,
      gets g.V.Faced.shows c.loop.self-inside.shared.now.key _ c.loop.self-inside.token.id c.loop.self-inside.token.me (ap (λ m. m.0.role) l.me ∙ i.4),
    )

pub exchange-requires : goal.exchange-requires
exchange-requires g c =
    let l = c.loop.invariant in
    let i = c.self.invariant in
    let won : Got g.V.Faced.shows c.loop.self-inside.token.me c.compare_exchange-found.new.seat.me = subst (λ n. got g.V.Faced.shows (step c.loop.self-inside.shared.now.table_id.slots 0 0 1 maybe.none) c.loop.self-inside.token.me n c.compare_exchange-found.new.seat.me) c.if-found-eq0.true c.compare_exchange-found.ensures.2 in (
      c.compare_exchange-found.ensures.0 ∙ (l.table ∙ (i.0 ∙ sym (ap (λ x. x.now.table_id) l.shared))),
      (Some won.rows, won.carried ∙ ap (λ x. (0, Some won.rows) ∷ x) (ap rest (sym won.carried))),
    )

pub unwrap-requires : goal.unwrap-requires
unwrap-requires g c =
    let won : Got g.V.Faced.shows c.loop.self-inside.token.me c.compare_exchange-found.new.seat.me = subst (λ n. got g.V.Faced.shows (step c.loop.self-inside.shared.now.table_id.slots 0 0 1 maybe.none) c.loop.self-inside.token.me n c.compare_exchange-found.new.seat.me) c.if-found-eq0.true c.compare_exchange-found.ensures.2 in
    is_some_of c.exchange.result won.rows (slot_value 0 c.exchange.result (Some won.rows) c.compare_exchange-found.new.seat.me.1 _ _ c.exchange.ensures.2 won.carried)

pub invariant_of-self : goal.invariant_of-self
invariant_of-self g c =
    let l = c.loop.invariant in
    let i = c.self.invariant in
    let won : Got g.V.Faced.shows c.loop.self-inside.token.me c.compare_exchange-found.new.seat.me = subst (λ n. got g.V.Faced.shows (step c.loop.self-inside.shared.now.table_id.slots 0 0 1 maybe.none) c.loop.self-inside.token.me n c.compare_exchange-found.new.seat.me) c.if-found-eq0.true c.compare_exchange-found.ensures.2 in
    let now = c.exchange.ensures.3 in
    let view = view_now g.V.Faced.shows _ _ _ won now in
    let home = rw (← c.self.view_is) at c.requires in
    let none = ap (λ m. m.1) l.me ∙ (i.5 ∙ ap carried_of home) in (
      c.exchange.ensures.0 ∙ (c.compare_exchange-found.ensures.0 ∙ (l.table ∙ (i.0 ∙ sym (ap (λ x. x.now.table_id) l.shared)))),
      ap (λ x. x.now.table_id.words) l.shared ∙ i.1,
      ap (λ x. x.now.table_id.slots) l.shared ∙ i.2,
      ap (λ x. x.now.key) l.shared ∙ (i.3 ∙ sym (ap (λ m. m.0.terms) l.me) ∙ sym (ap (λ v. v.terms) view)),
      ap (λ v. v.role) view ∙ (ap (λ m. m.0.role) l.me ∙ i.4),
      carried_now g.V.Faced.shows _ _ _ won now none,
    )

pub returns-then-found-eq0 : goal.returns-then-found-eq0
returns-then-found-eq0 g c =
    let l = c.loop.invariant in
    let won : Got g.V.Faced.shows c.loop.self-inside.token.me c.compare_exchange-found.new.seat.me = subst (λ n. got g.V.Faced.shows (step c.loop.self-inside.shared.now.table_id.slots 0 0 1 maybe.none) c.loop.self-inside.token.me n c.compare_exchange-found.new.seat.me) c.if-found-eq0.true c.compare_exchange-found.ensures.2 in
    let value = slot_value 0 c.exchange.result (Some won.rows) c.compare_exchange-found.new.seat.me.1 _ _ c.exchange.ensures.2 won.carried in
    let is = some_value won.rows c.unwrap.result (sym value ∙ c.unwrap.ensures) in
    let P : Me (Option (Rows g.row.V.Denot)) View → Type 0 = λ m. Gets g.V.Faced.shows (record { board = c.self.inside.token.table_id; view = m.0 }) (record { board = c.exchange.new.seat.table_id; view = c.exchange.new.seat.me.0 }) c.unwrap.result in
    rw (← c.self.view_is) (subst P l.me (gets_now g.V.Faced.shows _ _ _ won c.exchange.ensures.3 c.self.inside.token.table_id c.exchange.new.seat.table_id c.unwrap.result (c.exchange.ensures.0 ∙ (c.compare_exchange-found.ensures.0 ∙ l.table)) is))

pub loop-preserved : goal.loop-preserved
loop-preserved g c =
    let l = c.loop.invariant in
    let lost : c.compare_exchange-found.new.seat.me ≡ c.loop.self-inside.token.me = subst (λ b. MatchBool b (Got g.V.Faced.shows c.loop.self-inside.token.me c.compare_exchange-found.new.seat.me) (c.compare_exchange-found.new.seat.me ≡ c.loop.self-inside.token.me)) (ne_eqb c.compare_exchange-found.result 0 c.if-found-eq0.false) c.compare_exchange-found.ensures.2 in record {
      can = tt;
      ends = tt;
      shared = l.shared;
      table = c.compare_exchange-found.ensures.0 ∙ l.table;
      me = lost ∙ l.me;
    }
