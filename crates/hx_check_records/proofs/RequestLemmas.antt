-- Requests with a head that stands at the front.
use Rattle.std.proofs.Common.{◌≡◌, ℕ, List, [], ◌++◌, drop, Ok, Err, sym, ap, subst, ◌∙◌, inl, inr}
use Rattle.httparse.specs.Grammar as grammar
use Rattle.httparse.proofs.GrammarLemmas.{request_unique}
use Rattle.hx_message.specs.declared.MethodKind.{MethodKind}
use Rattle.hx_message.specs.declared.MethodKind.TheVariants.{Connect}
use Rattle.hx_message.specs.declared.BodyKind.{BodyKind}
use Rattle.hx_message.specs.declared.FrameFault.{FrameFault}
use Rattle.hx_message.specs.Body.{Framed, kind_of_method, request_kind, IsBody}
use Rattle.hx_message.specs.Forwarded.{forwarded_request}
use Rattle.hx_message.specs.Partial.{IsPrefix}
use Rattle.hx_head.specs.declared.head.RequestHead.{RequestHead}
use Rattle.hx_check_records.specs.Exchanges.{GoesOut, BeginsOut}
use Rattle.hx_check_records.specs.Looks.{RequestStands, NoRequestStands}

same_ok : (r : Framed) (k l : BodyKind) → r ≡ Ok k → r ≡ Ok l → k ≡ l
same_ok r k l a b = cc

no_fault : (r : Framed) (k : BodyKind) (fault : FrameFault) → r ≡ Ok k → Err fault ≡ r → ⊥
no_fault r k fault a b = cc

module _ (ask sent : List ℕ) (h : RequestHead) (g : grammar.RequestHead) (stands : RequestStands ask h g) where
  -- the same head and what is behind it
  one_head : (m : MethodKind) (x : GoesOut m ask sent) → (x.head ≡ g) × (x.body ≡ drop h.length ask)
  one_head m x = request_unique ask x.head g x.body (drop h.length ask) x.begins.reads stands.begins.reads

  pub one_method : (m : MethodKind) → GoesOut m ask sent → m ≡ h.method
  one_method m x =
      sym x.is_method ∙ ap (λ (k : grammar.RequestHead). kind_of_method k.method) (one_head m x).0 ∙ sym stands.at.kind

  pub out_kind : (m : MethodKind) (x : GoesOut m ask sent) → request_kind g ≡ Ok x.kind
  out_kind m x = ap request_kind (sym (one_head m x).0) ∙ x.framed

  pub out_parts : (m : MethodKind) (kind : BodyKind) → Ok kind ≡ request_kind g → GoesOut m ask sent
      → IsBody kind (drop h.length ask) × (sent ≡ forwarded_request g ++ drop h.length ask)
  out_parts m kind framed x =
      let u = one_head m x in
      let same = same_ok (request_kind g) x.kind kind (out_kind m x) (sym framed) in (
        subst (λ (k : BodyKind). IsBody k (drop h.length ask)) same (subst (λ (b : List ℕ). IsBody x.kind b) u.1 x.whole),
        x.sent_is ∙ ap (λ (k : grammar.RequestHead). forwarded_request k ++ x.body) u.0 ∙ ap (λ (b : List ℕ). forwarded_request g ++ b) u.1,
      )

  pub out_from : (kind : BodyKind) → (h.method ≡ Connect → ⊥) → Ok kind ≡ request_kind g → IsBody kind (drop h.length ask)
      → sent ≡ forwarded_request g ++ drop h.length ask → GoesOut h.method ask sent
  out_from kind not_connect framed whole is = record {
    head = g;
    body = drop h.length ask;
    begins = stands.begins;
    short = stands.short;
    is_method = sym stands.at.kind;
    not_connect = not_connect;
    kind = kind;
    framed = sym framed;
    whole = whole;
    sent_is = is;
  }

  pub out_fault : (m : MethodKind) (fault : FrameFault) → Err fault ≡ request_kind g → GoesOut m ask sent → ⊥
  out_fault m fault is x = no_fault (request_kind g) x.kind fault (out_kind m x) is

  -- a beginning of what goes out
  pub begins_parts : (sent ≡ [] → ⊥) → BeginsOut ask sent → IsPrefix sent (forwarded_request g ++ drop h.length ask)
  begins_parts some (inl none) = absurd (some none)
  begins_parts some (inr (k, body, begins, short, prefix)) =
      let u = request_unique ask k g body (drop h.length ask) begins.reads stands.begins.reads in
      subst (λ (b : List ℕ). IsPrefix sent (forwarded_request g ++ b)) u.1
      (subst (λ (x : grammar.RequestHead). IsPrefix sent (forwarded_request x ++ body)) u.0 prefix)

  pub begins_from : IsPrefix sent (forwarded_request g ++ drop h.length ask) → BeginsOut ask sent
  begins_from prefix = inr (g, drop h.length ask, stands.begins, stands.short, prefix)

-- where no head stands nothing goes out
pub none_out : (ask sent : List ℕ) (m : MethodKind) → NoRequestStands ask → GoesOut m ask sent → ⊥
none_out ask sent m none x = none x.head x.body x.begins x.short

pub none_begins : (ask sent : List ℕ) → NoRequestStands ask → BeginsOut ask sent → sent ≡ []
none_begins ask sent none (inl is) = is
none_begins ask sent none (inr (k, body, begins, short, prefix)) = absurd (none k body begins short)

-- a request has one method
pub same_method : (ask sent : List ℕ) (m n : MethodKind) → GoesOut m ask sent → GoesOut n ask sent → m ≡ n
same_method ask sent m n x y =
    let u = request_unique ask x.head y.head x.body y.body x.begins.reads y.begins.reads in
    sym x.is_method ∙ ap (λ (k : grammar.RequestHead). kind_of_method k.method) u.0 ∙ y.is_method
