-- Where a server's next plan stands among the plans that are left.
use Rattle.std.proofs.Common.{◌≡◌, ℕ, ◌+◌, ◌<◌, List, [], ◌∷◌, ◌++◌, length, take, drop, get_or, Some, refl, sym, ap, ◌∙◌, append_assoc}
use Rattle.std.specs.Prelude.{true, false}
use Rattle.std.proofs.lemmas.List.{take_more, drop_more}
use Rattle.hx_base.specs.declared.numbers.ServerNo.{ServerNo}
use Rattle.hx_base.specs.declared.plan.Plan.{Plan}
use Rattle.hx_link.specs.MemoryNets.{is_server, next_plan, without_next}

-- a plan of another server is passed
next_past : (server : ServerNo) (p : Plan) (plans : List Plan) → is_server server p.server ≡ false
    → next_plan server (p ∷ plans) ≡ next_plan server plans
next_past server p plans other = rw other

without_past : (server : ServerNo) (p : Plan) (plans : List Plan) → is_server server p.server ≡ false
    → without_next server (p ∷ plans) ≡ p ∷ without_next server plans
without_past server p plans other = rw other

-- one of the server is the next
next_here : (server : ServerNo) (p : Plan) (plans : List Plan) → is_server server p.server ≡ true
    → next_plan server (p ∷ plans) ≡ Some p
next_here server p plans is = rw is

without_here : (server : ServerNo) (p : Plan) (plans : List Plan) → is_server server p.server ≡ true
    → without_next server (p ∷ plans) ≡ plans
without_here server p plans is = rw is

-- the first i plans are of other servers
pub record IsPassed (server : ServerNo) (plans : List Plan) (i : ℕ) : Type 0 where
  pub next : next_plan server plans ≡ next_plan server (drop i plans)
  pub others : without_next server plans ≡ take i plans ++ without_next server (drop i plans)

pub passed_none : (server : ServerNo) (plans : List Plan) → IsPassed server plans 0
passed_none server plans = record { next = refl; others = refl }

pub passes_one : (server : ServerNo) (plans : List Plan) (i : ℕ) (p : Plan) → i < length plans → p ≡ get_or plans i p
    → is_server server p.server ≡ false → IsPassed server plans i → IsPassed server plans (i + 1)
passes_one server plans i p lt is other passed =
    let more : drop i plans ≡ p ∷ drop (i + 1) plans =
    drop_more plans i p lt ∙ ap (λ (q : Plan). q ∷ drop (i + 1) plans) (sym is) in
    let front : take (i + 1) plans ≡ take i plans ++ (p ∷ []) =
    take_more plans i p lt ∙ ap (λ (q : Plan). take i plans ++ (q ∷ [])) (sym is) in
    record {
      next = passed.next ∙ ap (next_plan server) more ∙ next_past server p (drop (i + 1) plans) other;
      others = passed.others ∙ ap (λ (ps : List Plan). take i plans ++ without_next server ps) more
          ∙ ap (λ (ps : List Plan). take i plans ++ ps) (without_past server p (drop (i + 1) plans) other)
          ∙ sym (append_assoc (take i plans) (p ∷ []) (without_next server (drop (i + 1) plans)))
          ∙ ap (λ (ps : List Plan). ps ++ without_next server (drop (i + 1) plans)) (sym front);
    }

pub next_found : (server : ServerNo) (plans : List Plan) (i : ℕ) (p : Plan) → i < length plans → p ≡ get_or plans i p
    → is_server server p.server ≡ true → IsPassed server plans i → next_plan server plans ≡ Some p
next_found server plans i p lt is here passed =
    let more : drop i plans ≡ p ∷ drop (i + 1) plans =
    drop_more plans i p lt ∙ ap (λ (q : Plan). q ∷ drop (i + 1) plans) (sym is) in
    passed.next ∙ ap (next_plan server) more ∙ next_here server p (drop (i + 1) plans) here

pub others_found : (server : ServerNo) (plans : List Plan) (i : ℕ) (p : Plan) → i < length plans → p ≡ get_or plans i p
    → is_server server p.server ≡ true → IsPassed server plans i → without_next server plans ≡ take i plans ++ drop (i + 1) plans
others_found server plans i p lt is here passed =
    let more : drop i plans ≡ p ∷ drop (i + 1) plans =
    drop_more plans i p lt ∙ ap (λ (q : Plan). q ∷ drop (i + 1) plans) (sym is) in
    passed.others ∙ ap (λ (ps : List Plan). take i plans ++ without_next server ps) more
    ∙ ap (λ (ps : List Plan). take i plans ++ ps) (without_here server p (drop (i + 1) plans) here)
