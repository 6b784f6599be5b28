use Rattle.std.proofs.Common.{◌≡◌, ◌<◌, ℕ, List, [], ◌∷◌, All, sym, subst, refl, ◌∙◌, arith}
use Rattle.std.specs.Prelude.{codes}
use Rattle.std.proofs.lemmas.List.Elements.{All-nil, All-cons}
use Rattle.hx_base.specs.declared.totals.Totals.{Totals}
use Rattle.hx_record.specs.declared.bytes.ClientBytes.{ClientBytes}
use Rattle.hx_record.specs.declared.bytes.ConnBytes.{ConnBytes}
use Rattle.hx_record.specs.declared.served.Told.{Told}
use Rattle.hx_script.specs.declared.transcript.ServerPart.{ServerPart}
use Rattle.hx_script.specs.PrintedForm.{IsName, IsToldMark, IsToldServer, IsToldRecord, OtherName, HasPrintedForm}
use Rattle.hx_text_tests.proofs.tests.transcripts.transcript.Goals as goal

one_of_each : (p : ServerPart) (records : List Told) (client : ClientBytes) (conn : ConnBytes) (totals : Totals)
    → IsToldServer p → All (IsToldRecord 1) records → conn.server.0 ≡ 0
    → HasPrintedForm (p ∷ []) records (client ∷ []) (conn ∷ []) (totals ∷ [])
one_of_each p records client conn totals server told is = record {
  servers_told = All-cons IsToldServer p [] server (All-nil IsToldServer);
  other_names = (All-nil (OtherName p), tt);
  records_told = told;
  clients_rise = tt;
  conns_rise = tt;
  conns_named = All-cons (λ (c : ConnBytes). c.server.0 < 1) conn [] (omega arith) (All-nil (λ (c : ConnBytes). c.server.0 < 1));
  totals_each = refl;
}

web : (name : List ℕ) → name ≡ codes "web" → IsName name
web name is = rw is (omega arith, refl)

s1 : (name : List ℕ) → name ≡ codes "s1" → IsName name
s1 name is = rw is (omega arith, refl)

put_together : (p : ServerPart) (client : ClientBytes) (conn : ConnBytes) (t : Totals)
    (servers : List ServerPart) (records : List Told) (clients : List ClientBytes) (conns : List ConnBytes) (totals : List Totals)
    → servers ≡ p ∷ [] → clients ≡ client ∷ [] → conns ≡ conn ∷ [] → totals ≡ t ∷ []
    → IsToldServer p → All (IsToldRecord 1) records → conn.server.0 ≡ 0
    → HasPrintedForm servers records clients conns totals
put_together p client conn t servers records clients conns totals a b d e server told is =
    rw (a, b, d, e) (one_of_each p records client conn t server told is)

pub invariant_of-result : goal.invariant_of-result
invariant_of-result c = record {
  form = ∣ put_together _ _ _ _ _ _ _ _ _
      (c.from_vec-servers.ensures ∙ c.in_ok-vec.ensures.items)
      (c.from_vec-clients.ensures ∙ c.in_ok-vec-2.ensures.items)
      (c.from_vec-conns.ensures ∙ c.in_ok-vec-3.ensures.items)
      (c.from_vec-totals.ensures ∙ c.in_ok-vec-4.ensures.items) (
        web _ c.in_ok-bytes.ensures,
        s1 _ c.in_ok-bytes-2.ensures,
        subst (All IsToldMark) (sym c.from_vec.ensures) c.requires.marks,
      )
      (subst (All (IsToldRecord 1)) (sym c.from_vec-2.ensures) c.requires.records)
      refl ∣₁;
}
