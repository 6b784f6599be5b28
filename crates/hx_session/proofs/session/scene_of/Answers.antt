use Rattle.std.proofs.Common.{◌∙◌, List, length, get_or, ap, arith}
use Rattle.hx_config.specs.declared.parts.Back.{Back}
use Rattle.hx_config.specs.declared.parts.Front.{Front}
use Rattle.hx_session.proofs.EntryLemmas.{back_there, below, read_at}
use Rattle.hx_session.proofs.session.scene_of.Goals as goal

pub bounds-backs-place : goal.bounds-backs-place
bounds-backs-place c =
    let f : Front = c.index-fronts-front.result in
    let is = c.index-fronts-front.is ∙ ap (λ (xs : List Front). get_or xs c.args.front f) c.as_slice-fronts.ensures in
    let at = read_at c.args.config.now.fronts c.args.front f c.requires.there is in
    let b = back_there c.args.config.now.fronts c.args.config.now.backs c.args.front f c.args.config.now.within.served at in
    omega (arith, below c.args.config.now.backs f.back b.0 b.1, ap (λ (xs : List Back). length xs) c.as_slice-backs.ensures)

pub returns-clause-front : goal.returns-clause-front
returns-clause-front c =
    let f : Front = c.index-fronts-front.result in
    let is = c.index-fronts-front.is ∙ ap (λ (xs : List Front). get_or xs c.args.front f) c.as_slice-fronts.ensures in
    read_at c.args.config.now.fronts c.args.front f c.requires.there is

pub returns-clause-back : goal.returns-clause-back
returns-clause-back c =
    let f : Front = c.index-fronts-front.result in
    let k : Back = c.index-backs-place.result in
    let is = c.index-fronts-front.is ∙ ap (λ (xs : List Front). get_or xs c.args.front f) c.as_slice-fronts.ensures in
    let at = read_at c.args.config.now.fronts c.args.front f c.requires.there is in
    let b = back_there c.args.config.now.fronts c.args.config.now.backs c.args.front f c.args.config.now.within.served at in
    read_at c.args.config.now.backs f.back k (below c.args.config.now.backs f.back b.0 b.1) (c.index-backs-place.is ∙ ap (λ (xs : List Back). get_or xs f.back k) c.as_slice-backs.ensures)
