use Rattle.std.proofs.Common.{◌≡◌, ap, sym, ◌∙◌}
use Rattle.hx_base.specs.declared.numbers.Face.{Face}
use Rattle.hx_pool.specs.Table.{Holds}
use Rattle.hx_resting.specs.declared.values.Rest.{Rest}
use Rattle.hx_resting.specs.Rows.{Rested}
use Rattle.hx_resting.specs.Row.{is_wanted}
use Rattle.hx_resting.proofs.Removals.{removed}
use Rattle.hx_resting.proofs.row.wanted_at.Goals as goal

holds_same : (f g : Face) → Holds f ≡ Holds g → f ≡ g
holds_same f g e = cc

pub returns-then-wants : goal.returns-then-wants
returns-then-wants g c =
    let cut = c.in-Some.ensures in
    let r = removed g.V.Faced.shows c.args.resting.now c.in-Some.i c.index-resting-i.result cut.before cut.chosen cut.behind cut.parts cut.index c.index-resting-i.is in
    record { cut = cut; good = ap (λ (x : Rested). is_wanted c.args.wanted x.shown.face.uses) r.0 ∙ (ap (λ (y : Rest g.row.V.Denot). is_wanted c.args.wanted (g.V.Faced.shows y.v).face.uses) c.index-resting-i.is ∙ sym (c.wants.ensures ∙ ap (λ (f : Face). is_wanted c.args.wanted f.uses) c.face-uses.ensures) ∙ c.if-wants.true) }

pub returns-else-wants : goal.returns-else-wants
returns-else-wants g c f h =
    let cut = c.in-Some.ensures in
    let r = removed g.V.Faced.shows c.args.resting.now c.in-Some.i c.index-resting-i.result cut.before cut.chosen cut.behind cut.parts cut.index c.index-resting-i.is in
    let same = holds_same f cut.chosen.shown.face (sym h ∙ cut.stands) in
    ap (λ (x : Face). is_wanted c.args.wanted x.uses) same ∙ (ap (λ (x : Rested). is_wanted c.args.wanted x.shown.face.uses) r.0 ∙ (ap (λ (y : Rest g.row.V.Denot). is_wanted c.args.wanted (g.V.Faced.shows y.v).face.uses) c.index-resting-i.is ∙ sym (c.wants.ensures ∙ ap (λ (x : Face). is_wanted c.args.wanted x.uses) c.face-uses.ensures) ∙ c.if-wants.false))
