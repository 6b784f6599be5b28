-- What a link keeps while it is sent bytes and answers them.
use Rattle.std.proofs.Common.{◌≡◌, ℕ, ◌+◌, ◌≤◌, arith, List, [], ◌∷◌, ◌++◌, length, take, drop, refl, sym, ap, ◌∙◌, subst, append_assoc}
use Rattle.std.specs.Prelude.{Bool, false, IfNone, OnSome, Option, Some, None}
use Rattle.std.specs.List.{flat_map}
use Rattle.std.proofs.Math.Seq.{take-add}
use Rattle.std.proofs.lemmas.List.{take-append-le, flat_map_more, length-drop, length-append, append-nil}
use Rattle.std.proofs.lemmas.List.Elements.{All-append, All-cons, All-nil}
use Rattle.hx_drill_parts.specs.declared.ask.Ask.{Ask}
use Rattle.hx_drill_parts.specs.Load.{forwarded_text, answer_text}
use Rattle.hx_drill_parts.specs.declared.counts.Counts.{Counts}
use Rattle.hx_drill_parts.specs.declared.counts.Owner.{Owner}
use Rattle.hx_drill_parts.specs.declared.counts.Owner.TheVariants.{Client, Server}
use Rattle.hx_drill_parts.specs.Mirrors.{AreAnswers, IsHeard, IsMirror, MayPass, MirrorNow, StaysEnd, client_of, mirror_now}
use Rattle.hx_link.specs.Told.{LinkState}
use Rattle.hx_link.specs.Links.{LinkReads}
use Rattle.hx_link.specs.declared.answers.Got.{Got}
use Rattle.hx_link.specs.declared.answers.Got.TheVariants as got

-- a server's answer
abbrev kept_text : Ask → List ℕ
kept_text ask = answer_text ask false

-- one request more was heard whole, and answered
pub one_more : (shuts : ℕ → Bool) (sent gives text : List ℕ) (answered n : ℕ) (ask : Ask)
    → AreAnswers shuts (take answered sent) gives → take n (drop answered sent) ≡ forwarded_text ask
    → text ≡ answer_text ask false → MayPass shuts ask → AreAnswers shuts (take (answered + n) sent) (gives ++ text)
one_more shuts sent gives text answered n ask a heard is pass = record {
  asks = a.asks ++ ask ∷ [];
  heard_is = take-add answered n sent
      ∙ (ap (λ (xs : List ℕ). xs ++ take n (drop answered sent)) a.heard_is
      ∙ (ap (λ (xs : List ℕ). flat_map forwarded_text a.asks ++ xs) heard ∙ flat_map_more forwarded_text [] a.asks ask));
  gives_is = ap (λ (xs : List ℕ). xs ++ text) a.gives_is
      ∙ (ap (λ (xs : List ℕ). flat_map kept_text a.asks ++ xs) is ∙ flat_map_more kept_text [] a.asks ask);
  pass = All-append (MayPass shuts) a.asks (ask ∷ []) a.pass (All-cons (MayPass shuts) ask [] pass (All-nil (MayPass shuts)));
}

answers_more : (owner : Owner) (shuts : ℕ → Bool) (sent gives text : List ℕ) (answered n : ℕ) (ask : Ask)
    → IfNone (client_of owner) (AreAnswers shuts (take answered sent) gives) → take n (drop answered sent) ≡ forwarded_text ask
    → text ≡ answer_text ask false → MayPass shuts ask
    → IfNone (client_of owner) (AreAnswers shuts (take (answered + n) sent) (gives ++ text))
answers_more (Client session) shuts sent gives text answered n ask a heard is pass = tt
answers_more (Server server id) shuts sent gives text answered n ask a heard is pass = one_more shuts sent gives text answered n ask a heard is pass

-- the same of a link
pub mirror_more : {T : Type 0} (shuts : T → ℕ → Bool) (c : Counts) (owner : Owner) (taken answered n : ℕ) (sent gives gives' text : List ℕ) (gate : T)
    (ask : Ask) → IsMirror shuts (mirror_now c owner taken answered sent gives gate) → IsHeard (drop answered sent) ask n
    → text ≡ answer_text ask false → gives' ≡ gives ++ text → MayPass (shuts gate) ask
    → IsMirror shuts (mirror_now c owner taken (answered + n) sent gives' gate)
mirror_more shuts c owner taken answered n sent gives gives' text gate ask m heard is grown pass = record {
  sent = refl;
  taken = refl;
  within = omega (arith, m.within, ap length grown, length-append gives text);
  inside = omega (arith, m.inside, heard.1, length-drop answered sent);
  answers = subst (λ (xs : List ℕ). IfNone (client_of owner) (AreAnswers (shuts gate) (take (answered + n) sent) xs)) (sym grown)
      (answers_more owner (shuts gate) sent gives text answered n ask m.answers heard.0 is pass);
}

-- and by what contracts see of it before
pub mirror_step : {T : Type 0} (shuts : T → ℕ → Bool) (c : Counts) (owner : Owner) (taken answered n : ℕ) (sent gives gives' text : List ℕ) (gate : T)
    (ask : Ask) (old : MirrorNow T) → mirror_now c owner taken answered sent gives gate ≡ old
    → IsMirror shuts (mirror_now c owner taken answered sent gives gate) → IsHeard (drop old.answered old.sent) ask n
    → text ≡ answer_text ask false → gives' ≡ gives ++ text → MayPass (shuts old.gate) ask
    → IsMirror shuts (mirror_now c owner taken (answered + n) sent gives' gate)
mirror_step {T} shuts c owner taken answered n sent gives gives' text gate ask old view m heard is grown pass =
    mirror_more shuts c owner taken answered n sent gives gives' text gate ask m
    (subst (λ (o : MirrorNow T). IsHeard (drop o.answered o.sent) ask n) (sym view) heard) is grown
    (subst (λ (o : MirrorNow T). MayPass (shuts o.gate) ask) (sym view) pass)

-- what was added is that text
pub grown_by : (old new added text : List ℕ) → new ≡ old ++ added → added ≡ text → new ≡ old ++ text
grown_by old new added text grown is = grown ∙ ap (λ (xs : List ℕ). old ++ xs) is

on_some : (o : Option ℕ) (A : Type 0) → A → OnSome o A
on_some None A a = tt
on_some (Some s) A a = a

-- a link to which nothing was added stays as it was
pub stays_unchanged : {T : Type 0} (c : Counts) (owner : Owner) (taken answered : ℕ) (sent gives gives' : List ℕ) (gate : T) (old : MirrorNow T)
    → mirror_now c owner taken answered sent gives gate ≡ old → gives' ≡ gives
    → StaysEnd old (mirror_now c owner taken answered sent gives' gate)
stays_unchanged {T} c owner taken answered sent gives gives' gate old view same =
    subst (λ (o : MirrorNow T). StaysEnd o (mirror_now c owner taken answered sent gives' gate)) view
    (record {
      client = refl;
      gate = refl;
      gives = ([], same ∙ sym (append-nil gives));
      fixed = on_some (client_of owner) (gives' ≡ gives) same;
    })

-- bytes that are sent later change nothing of what was answered
pub sent_more : (shuts : ℕ → Bool) (sent more gives : List ℕ) (answered : ℕ) → answered ≤ length sent
    → AreAnswers shuts (take answered sent) gives → AreAnswers shuts (take answered (sent ++ more)) gives
sent_more shuts sent more gives answered le a =
    subst (λ (xs : List ℕ). AreAnswers shuts xs gives) (sym (take-append-le answered sent more le)) a

-- what was taken is the same where there is more to give
pub taken_same : (taken : ℕ) (gives more : List ℕ) → taken ≤ length gives → take taken (gives ++ more) ≡ take taken gives
taken_same taken gives more le = take-append-le taken gives more le

-- so many more were taken
pub taken_more : (taken n : ℕ) (gives into : List ℕ) → take n into ≡ take n (drop taken gives)
    → take (taken + n) gives ≡ take taken gives ++ take n into
taken_more taken n gives into given = take-add taken n gives ∙ ap (λ (xs : List ℕ). take taken gives ++ xs) (sym given)

-- no request was answered yet
pub none_yet : (shuts : ℕ → Bool) → AreAnswers shuts [] []
none_yet shuts = record { asks = []; heard_is = refl; gives_is = refl; pass = All-nil (MayPass shuts) }

-- a read behind a call that left all but the length that was asked for
pub reads_behind : (old mid new : LinkState) (now : ℕ) (r : Got) (into : List ℕ) → mid ≡ record old { read_length = mid.read_length }
    → LinkReads mid new now r into → LinkReads old new now r into
reads_behind old mid new now (got.Bytes n) into e l = subst (λ (m : LinkState). LinkReads m new now (got.Bytes n) into) e l
reads_behind old mid new now got.NotYet into e l = subst (λ (m : LinkState). LinkReads m new now got.NotYet into) e l
reads_behind old mid new now got.End into e l = subst (λ (m : LinkState). LinkReads m new now got.End into) e l
reads_behind old mid new now got.Failed into e l = subst (λ (m : LinkState). LinkReads m new now got.Failed into) e l

fixed_along : (o p : Option ℕ) (xs ys zs : List ℕ) → p ≡ o → OnSome o (ys ≡ xs) → OnSome p (zs ≡ ys) → OnSome o (zs ≡ xs)
fixed_along None p xs ys zs e f g = tt
fixed_along (Some s) p xs ys zs e f g = subst (λ (q : Option ℕ). OnSome q (zs ≡ ys)) e g ∙ f

-- one call behind another
pub stays_along : {T : Type 0} (a b c : MirrorNow T) → StaysEnd a b → StaysEnd b c → StaysEnd a c
stays_along a b c x y = record {
  client = y.client ∙ x.client;
  gate = y.gate ∙ x.gate;
  gives = (x.gives.0 ++ y.gives.0, y.gives.1 ∙ (ap (λ (xs : List ℕ). xs ++ y.gives.0) x.gives.1 ∙ append_assoc a.gives x.gives.0 y.gives.0));
  fixed = fixed_along a.client b.client a.gives b.gives c.gives x.client x.fixed y.fixed;
}

-- what begins at the same end, with the same gate and the same to give, whatever was counted before
pub stays_from : {T : Type 0} (c : Counts) (owner : Owner) (taken answered : ℕ) (sent gives : List ℕ) (gate : T) (old mid new : MirrorNow T)
    → mirror_now c owner taken answered sent gives gate ≡ old → mid.client ≡ client_of owner → mid.gate ≡ gate → mid.gives ≡ gives
    → StaysEnd mid new → StaysEnd old new
stays_from {T} c owner taken answered sent gives gate old mid new view client its same s =
    subst (λ (o : MirrorNow T). StaysEnd o new) view
    (stays_along (mirror_now c owner taken answered sent gives gate) mid new
    (record { client = client; gate = its; gives = ([], same ∙ sym (append-nil gives)); fixed = on_some (client_of owner) (mid.gives ≡ gives) same })
    s)
