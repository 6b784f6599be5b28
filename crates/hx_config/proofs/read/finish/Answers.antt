use Rattle.std.proofs.Common.{◌≡◌, List, Ok, sym, subst, map}
use Rattle.hx_config.specs.declared.parts.Front.{Front}
use Rattle.hx_config.specs.declared.parts.Back.{Back}
use Rattle.hx_config.specs.declared.sections.Backend.{Backend}
use Rattle.hx_config.specs.Limits.{IsWithin}
use Rattle.hx_config.specs.Meaning.{all_placed, all_served}
use Rattle.hx_config.proofs.Whole.{config_within}
use Rattle.hx_config.proofs.read.finish.Goals as goal

pub invariant_of-result : goal.invariant_of-result
invariant_of-result c =
    let r = c.args.reading in
    let fronts = c.in_ok-fronts.fronts.items in
    let placed : all_placed r.backs r.fronts ≡ Ok fronts = cc (c.in_ok-fronts.ensures, c.deref.ensures.value, c.into_vec-backs.ensures, c.into_vec.ensures) in
    let served : all_served 0 fronts r.backs ≡ Ok tt = cc (c.in_ok-serve_all.ensures, c.deref-2.ensures.value, c.deref-3.ensures.value, c.into_vec-backs.ensures) in
    let backs : c.from_vec-2.result ≡ map (λ (b : Backend). b.back) r.backs = cc (c.from_vec-2.ensures, c.in_ok-backs_of.ensures, c.into_vec-backs.ensures) in
    let within : IsWithin r.threads fronts (map (λ (b : Backend). b.back) r.backs) = config_within r fronts c.requires.sound c.requires.over placed served in
    let P : List Front → List Back → Type 0 = λ xs ys. IsWithin r.threads xs ys in
    record { within = subst (λ (ys : List Back). P c.from_vec.result ys) (sym backs) (subst (λ (xs : List Front). P xs (map (λ (b : Backend). b.back) r.backs)) (sym c.from_vec.ensures) within) }
