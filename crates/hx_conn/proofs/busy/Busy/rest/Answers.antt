use Rattle.std.proofs.Common.{◌≡◌, ◌+◌, ◌∙◌, ap, sym, subst}
use Rattle.std.specs.Prelude.{ℕ, None}
use Rattle.hx_link.specs.Told.{LinkState}
use Rattle.hx_conn.specs.Causes.{rest_cause}
use Rattle.hx_conn.specs.Conns.{BusyNow, IsRested}
use Rattle.hx_conn.specs.Steps.{refusal}
use Rattle.hx_conn.specs.Views.{rested_now, busy_now}
use Rattle.hx_conn.proofs.ConnLemmas.{rests}
use Rattle.hx_conn.proofs.busy.Busy.rest.Goals as goal

pub of-requires : goal.of-requires
of-requires g c =
    let is = c.self.invariant in
    let conn = c.self.inside.conn in
    let b : BusyNow = busy_now (g.L.Link.state conn.link) conn.id conn.server conn.uses c.self.inside.exchange in
    let none : refusal b ≡ None =
    sym (c.in-None.ensures ∙ ap (λ (n : ℕ). rest_cause c.self.inside.exchange n conn.uses) is.taken) in
    let free = c.detach.ensures.detaches.1 in
    record {
      meaning = subst (λ (l : LinkState). IsRested (rested_now l conn.id conn.server (conn.uses + 1))) (sym free) (rests b none is.meaning);
      sent = is.sent ∙ sym (ap (λ (l : LinkState). l.sent_count) free);
      taken = is.taken ∙ sym (ap (λ (l : LinkState). l.taken_count) free);
    }
