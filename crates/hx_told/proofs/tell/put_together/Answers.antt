use Rattle.std.proofs.Common.{◌≡◌, ◌<◌, ℕ, List, All, arith, length, ap, subst, sym, ◌∙◌}
use Rattle.std.proofs.lemmas.Grind.{common_steps}
use Rattle.hx_record.specs.declared.bytes.ClientBytes.{ClientBytes}
use Rattle.hx_record.specs.declared.bytes.ConnBytes.{ConnBytes}
use Rattle.hx_record.specs.declared.served.Told.{Told}
use Rattle.hx_base.specs.declared.totals.Totals.{Totals}
use Rattle.hx_script.specs.declared.transcript.ServerPart.{ServerPart}
use Rattle.hx_script.specs.PrintedForm.{IsToldServer, IsToldRecord, OtherNames, Rises, ClientBefore, ConnBefore}
use Rattle.hx_told.proofs.tell.put_together.Goals as goal

pub invariant_of-result : goal.invariant_of-result
invariant_of-result c =
    let own = c.have_own_names.ensures.own c.if-not-have_own_names.false in
    let told = c.are_told.ensures.told c.if-not-are_told.false in
    let named = c.are_named.ensures.named c.if-not-are_named.false in
    let n : c.len-count.result ≡ length c.from_vec.result = grind (arith, common_steps) in
    record {
      form = ∣ record {
        servers_told = subst (λ (ps : List ServerPart). All IsToldServer ps) (sym c.from_vec.ensures) c.requires.told;
        other_names = subst OtherNames (c.as_slice.ensures.value ∙ sym c.from_vec.ensures) own;
        records_told = subst (λ (k : ℕ). All (IsToldRecord k) c.args.records) n (subst (λ (rs : List Told). All (IsToldRecord c.len-count.result) rs) c.as_slice-else-not-have_own_names.ensures told);
        clients_rise = subst (λ (cs : List ClientBytes). Rises ClientBefore cs) (sym c.from_vec-2.ensures) c.requires.clients;
        conns_rise = subst (λ (cs : List ConnBytes). Rises ConnBefore cs) (sym c.from_vec-3.ensures) c.requires.conns;
        conns_named = subst (λ (k : ℕ). All (λ (x : ConnBytes). x.server.0 < k) c.from_vec-3.result) n
            (subst (λ (cs : List ConnBytes). All (λ (x : ConnBytes). x.server.0 < c.len-count.result) cs) (c.as_slice-else-not-are_told.ensures.value ∙ sym c.from_vec-3.ensures) named);
        totals_each = ap (λ (ts : List Totals). length ts) c.from_vec-4.ensures ∙ c.requires.totals ∙ ap (λ (ps : List ServerPart). length ps) (sym c.from_vec.ensures);
      } ∣₁;
    }
