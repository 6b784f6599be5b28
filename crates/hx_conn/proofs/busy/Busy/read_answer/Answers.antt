use Rattle.std.proofs.Common.{◌+◌, ◌∙◌, ap, sym, subst}
use Rattle.std.specs.Prelude.{Bool, ℕ}
use Rattle.hx_conn.specs.Conns.{IsBusy}
use Rattle.hx_conn.specs.Views.{busy_now}
use Rattle.hx_conn.proofs.ConnLemmas.{read_keeps, count_taken, count_sent}
use Rattle.hx_conn.proofs.busy.Busy.read_answer.Goals as goal

pub invariant_of-self : goal.invariant_of-self
invariant_of-self g c =
    let is = c.self.invariant in
    let reads = c.read_into-got.ensures.reads.reads in
    let counted = c.read_into-got.ensures.counted is.meaning.counted in
    let conn = c.self.inside.conn in
    let before = g.L.Link.state conn.link in
    let after = g.L.Link.state c.read_into-got.new.link in
    let P : Bool → Type 0 = λ failed. IsBusy (busy_now after conn.id conn.server conn.uses (record c.self.inside.exchange { failed = failed })) in
    record {
      meaning = subst P (sym c.has_failed-self-inside.ensures) (read_keeps _ after _ _ _ reads counted is.meaning);
      sent = is.sent ∙ sym (count_sent before after _ _ _ reads);
      taken = ap (λ (n : ℕ). n + c.count_of.result) is.taken
          ∙ ap (λ (n : ℕ). before.taken_count + n) c.count_of.ensures ∙ sym (count_taken before after _ _ _ reads);
    }

pub returns-clause-meaning : goal.returns-clause-meaning
returns-clause-meaning g c =
    let is = c.self.invariant.meaning in
    let read = c.read_into-got.ensures in
    let conn = c.self.inside.conn in
    let after = g.L.Link.state c.read_into-got.new.link in
    let P : Bool → Type 0 = λ failed. IsBusy (busy_now after conn.id conn.server conn.uses (record c.self.inside.exchange { failed = failed })) in
    subst P (sym c.has_failed-self-inside.ensures) (read_keeps _ after _ _ _ read.reads.reads (read.counted is.counted) is)
