use Rattle.std.proofs.Common.{◌++◌, ◌∙◌, ℕ, List, arith, sym, ap, subst, take}
use Rattle.hx_base.specs.declared.address.Address.{Address}
use Rattle.hx_config.specs.declared.parts.Front.{Front}
use Rattle.hx_startup.specs.Listens.{Listens, binds_of, binds_at}
use Rattle.hx_startup.proofs.ListenLemmas.{listens_first, listens_more, front_more}
use Rattle.hx_startup.proofs.listening.listen_all.Goals as goal

pub loop-i-init : goal.loop-i-init
loop-i-init g c = listens_first _

pub loop-i-preserved : goal.loop-i-preserved
loop-i-preserved g c =
    let fs = c.args.fronts.now in let i = c.loop-i.i in let d = c.index-fronts-i.result in
    subst (λ (l : List (ℕ × Address)). Listens (g.D.Door.state c.args.door.now) (g.D.Door.state c.listen_front.new.door) l)
    (ap (λ (l : List Address). binds_of 0 (take i fs) ++ binds_at i l) (c.as_slice.ensures ∙ ap (λ (f : Front). f.binds) c.index-fronts-i.is)
    ∙ sym (front_more fs i d (omega (arith, c.loop-i-test.true))))
    (listens_more (g.D.Door.state c.args.door.now) (g.D.Door.state c.loop-i.door) (g.D.Door.state c.listen_front.new.door) (binds_of 0 (take i fs)) (binds_at i c.as_slice.result.now)
    c.loop-i.invariant c.in_ok-listen_front.ensures.listens)
