-- Lines where totals stand.
use Rattle.std.proofs.Common.{◌≡◌, ℕ, ◌<◌, List, [], ◌∷◌, ◌++◌, length, drop, Some, Ok, sym, ap, subst, ◌∙◌, arith, append_assoc}
use Rattle.std.specs.Prelude.{codes, not, ◌==◌, slice_get}
use Rattle.std.proofs.lemmas.Bool.{eqb-true}
use Rattle.std.proofs.lemmas.List.{append-nil}
use Rattle.hx_base.specs.declared.totals.Totals.{Totals}
use Rattle.hx_script.specs.declared.transcript.ServerPart.{ServerPart}
use Rattle.hx_script.specs.LinkLines.{totals_text, totals_lines}
use Rattle.hx_script.specs.MarkLines.{full_name}
use Rattle.hx_script.specs.RecordLines.{name_or_none}
use Rattle.hx_transcripts_parts.specs.declared.fault.Rule.TheVariants.{WrongOrder, NoSuchName}
use Rattle.hx_transcripts_parts.specs.Faults.{unless, or_broken}
use Rattle.hx_transcripts_parts.specs.Lexical.{Rest, rest_text, read_word, at_end}
use Rattle.hx_transcripts_parts.specs.Pieces.{name_in, server_from}
use Rattle.hx_transcripts_parts.specs.ReadBack.{FitsNames}
use Rattle.hx_transcripts_parts.specs.Records.{totals_at}
use Rattle.hx_transcripts_parts.proofs.PieceLemmas.{names_read, server_sound}
use Rattle.hx_transcripts_parts.proofs.TotalsLemmas.{totals_sound}
use Rattle.hx_transcripts_parts.proofs.WordLemmas.{ok_is, bind_ok, there_is, not_broken, word_reads, end_sound}
use Rattle.hx_transcripts.specs.declared.form.Form.{Form}
use Rattle.hx_transcripts.specs.declared.form.Form.TheVariants as form
use Rattle.hx_transcripts.specs.declared.reading.TotalsRead.{TotalsRead}
use Rattle.hx_transcripts.specs.declared.reading.Reading.{Reading}
use Rattle.hx_transcripts.specs.declared.reading.Reading.TheVariants as reading
use Rattle.hx_transcripts.specs.Sums as means
use Rattle.hx_transcripts.proofs.FormLemmas.{IsWordOf}
use Rattle.hx_transcripts.proofs.ListLemmas.{on, no_totals}
use Rattle.hx_transcripts.proofs.Told.{conns_told, totals_told, Adds, IsGood}

pub totals_more : (servers : List ServerPart) (totals : List Totals) (t : Totals) → length totals < length servers
    → totals_lines servers (totals ++ t ∷ []) ≡ totals_lines servers totals ++ (name_or_none (slice_get servers (length totals)) ++ totals_text t)
totals_more [] totals t lt = absurd (omega arith)
totals_more (p ∷ servers) [] t lt =
    ap (λ (x : List ℕ). (full_name p ++ totals_text t) ++ x) (no_totals servers) ∙ append-nil (full_name p ++ totals_text t)
totals_more (p ∷ servers) (u ∷ totals) t lt =
    ap (λ (x : List ℕ). (full_name p ++ totals_text u) ++ x) (totals_more servers totals t (omega (arith, lt)))
    ∙ sym (append_assoc (full_name p ++ totals_text u) (totals_lines servers totals) (name_or_none (slice_get servers (length totals)) ++ totals_text t))

pub record IsNamed (servers : List ServerPart) (l : List ℕ) (x : ℕ × Rest) : Type 0 where
  pub within : x.0 < length servers
  pub text : l ≡ name_or_none (slice_get servers x.0) ++ rest_text x.1

named_sound : (servers : List ServerPart) (l : List ℕ) (x : ℕ × Rest) → means.named_at servers (Some l) ≡ Ok x → IsNamed servers l x
named_sound servers l x is =
    let y = bind_ok (read_word name_in (Some l)) _ x is in
    let k = bind_ok (or_broken NoSuchName (server_from 0 y.0.0.0 y.0.0.1 servers)) _ x y.2 in
    let names = (word_reads name_in (λ z. z.0 ++ codes "/" ++ z.1) FitsNames names_read).sound (Some l) y.0 y.1 in
    let found = server_sound 0 k.0 y.0.0.0 y.0.0.1 servers (there_is NoSuchName (server_from 0 y.0.0.0 y.0.0.1 servers) k.0 k.1) in
    let at : found.n ≡ k.0 = omega (arith, found.at) in
    subst (IsNamed servers l) (ok_is (k.0, y.0.1) x k.2)
    (record {
      within = subst (λ (n : ℕ). n < length servers) at found.within;
      text = ap (λ (t : List ℕ). drop 1 t) names.1 ∙ ap (λ (t : List ℕ). t ++ rest_text y.0.1) (sym found.named)
          ∙ ap (λ (n : ℕ). name_or_none (slice_get servers n) ++ rest_text y.0.1) at;
    })

total_adds : (r : TotalsRead) (l : List ℕ) (s : Reading) → IsGood (reading.Totals r) → means.total_line r l ≡ Ok s
    → Adds (reading.Totals r) (l ++ codes "\n") s
total_adds r l s good is =
    let i = bind_ok (means.named_at r.servers (Some l)) _ s is in
    let next = bind_ok (unless (not (i.0.0 == length r.totals)) WrongOrder) _ s i.2 in
    let t = bind_ok (totals_at i.0.1) _ s next.2 in
    let name = named_sound r.servers l i.0 i.1 in
    let at : i.0.0 ≡ length r.totals = eqb-true i.0.0 (length r.totals) (on _ (not_broken _ WrongOrder next.0 next.1)) in
    let total = totals_sound i.0.1 t.0 t.1 in
    let front = conns_told r.servers r.records r.clients r.conns in
    let lt = subst (λ (n : ℕ). n < length r.servers) at name.within in
    let here = name_or_none (slice_get r.servers (length r.totals)) in
    let line : here ++ totals_text t.0 ≡ l ++ codes "\n" =
    ap (λ (x : List ℕ). here ++ x) (sym total.1) ∙ sym (append_assoc here (rest_text i.0.1) (codes "\n"))
    ∙ ap (λ (n : ℕ). (name_or_none (slice_get r.servers n) ++ rest_text i.0.1) ++ codes "\n") (sym at)
    ∙ ap (λ (x : List ℕ). x ++ codes "\n") (sym name.text) in
    subst (Adds (reading.Totals r) (l ++ codes "\n")) (ok_is _ s t.2)
    (record {
      good = good;
      text = ap (λ (x : List ℕ). front ++ (codes "totals\n" ++ x)) (totals_more r.servers r.totals t.0 lt ∙ ap (λ (x : List ℕ). totals_lines r.servers r.totals ++ x) line)
          ∙ sym (append_assoc front (codes "totals\n" ++ totals_lines r.servers r.totals) (l ++ codes "\n"));
    })

end_adds : (r : TotalsRead) (ws : Rest) (s : Reading) → IsGood (reading.Totals r) → means.end_line r ws ≡ Ok s
    → Adds (reading.Totals r) (codes "end" ++ rest_text ws ++ codes "\n") s
end_adds r ws s good is =
    let all = bind_ok (unless (not (length r.totals == length r.servers)) WrongOrder) _ s is in
    let e = bind_ok (at_end ws) _ s all.2 in
    let none = end_sound ws e.0 e.1 in
    let front = totals_told r.servers r.records r.clients r.conns r.totals in
    subst (Adds (reading.Totals r) (codes "end" ++ rest_text ws ++ codes "\n")) (ok_is _ s e.2)
    (record {
      good = record {
        servers_told = good.before.before.named.told;
        other_names = good.before.before.named.others;
        records_told = good.before.before.each;
        clients_rise = good.before.rise;
        conns_rise = good.rise;
        conns_named = good.named;
        totals_each = eqb-true (length r.totals) (length r.servers) (on _ (not_broken _ WrongOrder all.0 all.1));
      };
      text = ap (λ (t : List ℕ). front ++ (codes "end" ++ t ++ codes "\n")) (sym none);
    })

pub totals_add : (r : TotalsRead) (f : Form) (l w : List ℕ) (ws : Rest) (s : Reading) → IsWordOf w f → l ≡ w ++ rest_text ws → IsGood (reading.Totals r)
    → means.totals_said r f l ws ≡ Ok s → Adds (reading.Totals r) (l ++ codes "\n") s
unfolding means.totals_said
totals_add r form.Total l w ws s word stands good is = total_adds r l s good is
totals_add r form.End l w ws s word stands good is =
    subst (λ (t : List ℕ). Adds (reading.Totals r) t s)
    (sym (append_assoc (codes "end") (rest_text ws) (codes "\n")) ∙ ap (λ (t : List ℕ). (t ++ rest_text ws) ++ codes "\n") (sym word) ∙ ap (λ (t : List ℕ). t ++ codes "\n") (sym stands))
    (end_adds r ws s good is)
totals_add r (form.Record k) l w ws s word stands good is = cc
totals_add r form.Links l w ws s word stands good is = cc
totals_add r form.Server l w ws s word stands good is = cc
totals_add r (form.Mark m) l w ws s word stands good is = cc
totals_add r form.Records l w ws s word stands good is = cc
totals_add r form.Version l w ws s word stands good is = cc
totals_add r form.Client l w ws s word stands good is = cc
totals_add r form.Conn l w ws s word stands good is = cc
totals_add r form.Totals l w ws s word stands good is = cc
