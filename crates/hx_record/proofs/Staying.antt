-- A record stays true as its links go on.
use Rattle.std.proofs.Common.{◌≡◌, ℕ, ◌-◌, ◌≤◌, true, List, ◌++◌, length, take, drop, sym, ap, ◌∙◌, subst, arith, length-append}
use Rattle.std.specs.Prelude.{◌↔◌, ◌⊎◌}
use Rattle.std.proofs.lemmas.List.{length-drop, drop-append-le, take-append-le}
use Rattle.hx_base.specs.declared.numbers.Span.{Span}
use Rattle.hx_base.specs.Spans.{bytes_in, LiesIn, span_size}
use Rattle.hx_message.specs.Body.{kind_of_method}
use Rattle.hx_message.specs.Exchanges.{AreExchanges}
use Rattle.hx_message.specs.Forwarded.{BeginsRequest, ForwardsRequest, ForwardsAnswer}
use Rattle.hx_message.specs.Message.{IsRequest, IsWholeAnswer, WantsClose, RunsToEnd}
use Rattle.hx_message.specs.Partial.{IsPrefix, EndsRequest, EndsAnswer, HasFinalHead, BeginsForwardedRequest, BeginsForwardedAnswer}
use Rattle.hx_record.specs.Carriage.{Carriage}
use Rattle.hx_record.specs.GoingOn.{GoesOn, ReadsNoMore, MayGoOn}
use Rattle.hx_record.specs.Truth.{HasRanges, IsTruePassed, IsTrueCut, LeftBeforeAll, IsTrueOwn, RecountsBytes}
use Rattle.hx_record.specs.declared.served.Carried.{Carried}
use Rattle.hx_record.specs.declared.served.CutCause.{CutCause}
use Rattle.hx_record.specs.declared.served.Kind.{Kind}
use Rattle.hx_record.specs.declared.served.Kind.TheVariants as kind
use Rattle.hx_record.specs.declared.served.LeftCause.{LeftCause}
use Rattle.hx_record.specs.declared.served.Served.{Served}

-- ---- ranges

lies_on : (xs ys more : List ℕ) (s : Span) → ys ≡ xs ++ more → LiesIn s xs → LiesIn s ys
lies_on xs ys more s is l =
    let size : length ys ≡ length (xs ++ more) = ap length is in
    let sum = length-append xs more in
    let in_xs = l.1 in
    (l.0, omega arith)

range_on : (xs ys more : List ℕ) (s : Span) → ys ≡ xs ++ more → LiesIn s xs → bytes_in ys s ≡ bytes_in xs s
range_on xs ys more s is l =
    let rises = l.0 in
    let inside = l.1 in
    let size = length-drop s.from xs in
    let short : s.to - s.from ≤ length (drop s.from xs) = omega arith in
    let low : s.from ≤ length xs = omega arith in
    ap (λ (zs : List ℕ). bytes_in zs s) is
    ∙ (ap (λ (zs : List ℕ). take (s.to - s.from) zs) (drop-append-le s.from xs more low)
    ∙ take-append-le (s.to - s.from) (drop s.from xs) more short)

front_on : (xs ys more : List ℕ) (n : ℕ) → ys ≡ xs ++ more → n ≤ length xs → take n ys ≡ take n xs
front_on xs ys more n is low = ap (take n) is ∙ take-append-le n xs more low

ranges_on : (s : Served) (c : Carried) (client client' conn conn' : Carriage) → GoesOn client client' → GoesOn conn conn' → HasRanges s c client conn → HasRanges s c client' conn'
ranges_on s c client client' conn conn' a b r = record {
  first = r.first;
  ask = lies_on client.taken client'.taken a.taken.0 s.ask a.taken.1 r.ask;
  gave = lies_on client.sent client'.sent a.sent.0 s.gave a.sent.1 r.gave;
  sent = lies_on conn.sent conn'.sent b.sent.0 c.sent b.sent.1 r.sent;
  took = lies_on conn.taken conn'.taken b.taken.0 c.took b.taken.1 r.took;
}

low_of : (s : Span) (xs : List ℕ) → LiesIn s xs → s.from ≤ length xs
low_of s xs l = let a = l.0 in let b = l.1 in omega arith

-- ---- passed

-- the link had told its end behind the answer, and still has
abbrev EndsThere : Carried → Carriage → Type 0
EndsThere c conn = (conn.ended ≡ true) × (c.took.to ≡ length conn.taken)

end_on : (c : Carried) (conn conn' : Carriage) → GoesOn conn conn' → EndsThere c conn → EndsThere c conn'
end_on c conn conn' b e = let still = b.ended e.0 in (still.0, e.1 ∙ ap length (sym still.1))

-- a passed record stays true as both links go on
pub passed_stays : (s : Served) (c : Carried) (client client' conn conn' : Carriage) → GoesOn client client' → GoesOn conn conn' → IsTruePassed s c client conn → IsTruePassed s c client' conn'
passed_stays s c client client' conn conn' a b p =
    let r = p.ranges in
    let ask : bytes_in client.taken s.ask ≡ bytes_in client'.taken s.ask = sym (range_on client.taken client'.taken a.taken.0 s.ask a.taken.1 r.ask) in
    let gave : bytes_in client.sent s.gave ≡ bytes_in client'.sent s.gave = sym (range_on client.sent client'.sent a.sent.0 s.gave a.sent.1 r.gave) in
    let sent : bytes_in conn.sent c.sent ≡ bytes_in conn'.sent c.sent = sym (range_on conn.sent conn'.sent b.sent.0 c.sent b.sent.1 r.sent) in
    let took : bytes_in conn.taken c.took ≡ bytes_in conn'.taken c.took = sym (range_on conn.taken conn'.taken b.taken.0 c.took b.taken.1 r.took) in
    let sent_before = sym (front_on conn.sent conn'.sent b.sent.0 c.sent.from b.sent.1 (low_of c.sent conn.sent r.sent)) in
    let took_before = sym (front_on conn.taken conn'.taken b.taken.0 c.took.from b.taken.1 (low_of c.took conn.taken r.took)) in
    record {
      ranges = ranges_on s c client client' conn conn' a b r;
      method = p.method;
      ask = subst (λ (x : List ℕ). IsRequest x p.method) ask p.ask;
      sent = subst (λ (x : List ℕ). ForwardsRequest x (bytes_in conn'.sent c.sent)) ask (subst (ForwardsRequest (bytes_in client.taken s.ask)) sent p.sent);
      answer = subst (λ (x : List ℕ). IsWholeAnswer p.method x (EndsThere c conn')) took
          (p.answer.0, p.answer.1, p.answer.2, λ runs. end_on c conn conn' b (p.answer.3 runs));
      gave = subst (λ (x : List ℕ). ForwardsAnswer x c.closing (bytes_in client'.sent s.gave)) took (subst (ForwardsAnswer (bytes_in conn.taken c.took) c.closing) gave p.gave);
      closing = subst (λ (x : List ℕ). (c.closing ≡ true) ↔ (WantsClose x ⊎ RunsToEnd p.method (bytes_in conn'.taken c.took))) ask
          (subst (λ (y : List ℕ). (c.closing ≡ true) ↔ (WantsClose (bytes_in client.taken s.ask) ⊎ RunsToEnd p.method y)) took p.closing);
      before = subst (λ (x : List ℕ). AreExchanges x (take c.took.from conn'.taken) (c.nth - 1)) sent_before
          (subst (λ (y : List ℕ). AreExchanges (take c.sent.from conn.sent) y (c.nth - 1)) took_before p.before);
    }

-- ---- cut

-- a cut record stays true as the client is given more
pub cut_stays : (s : Served) (c : Carried) (why : CutCause) (client client' conn conn' : Carriage) → GoesOn client client' → ReadsNoMore client client'
    → GoesOn conn conn' → ReadsNoMore conn conn' → conn'.sent ≡ conn.sent → IsTrueCut s c why client conn → IsTrueCut s c why client' conn'
cut_stays s c why client client' conn conn' a asked b took sent p =
    let r = p.ranges in
    let gave : bytes_in client.sent s.gave ≡ bytes_in client'.sent s.gave = sym (range_on client.sent client'.sent a.sent.0 s.gave a.sent.1 r.gave) in
    record {
      ranges = ranges_on s c client client' conn conn' a b r;
      head = p.head;
      rest = p.rest;
      begins = subst (λ (x : List ℕ). BeginsRequest (bytes_in x s.ask) p.head p.rest) (sym asked) p.begins;
      ask = subst (λ (x : List ℕ). EndsRequest (drop s.ask.from x) (span_size s.ask)) (sym asked) p.ask;
      sent = subst (λ (x : List ℕ). BeginsForwardedRequest (bytes_in x s.ask) (bytes_in conn'.sent c.sent)) (sym asked)
          (subst (λ (y : List ℕ). BeginsForwardedRequest (bytes_in client.taken s.ask) (bytes_in y c.sent)) (sym sent) p.sent);
      all_sent = p.all_sent ∙ ap length (sym sent);
      took = subst (λ (x : List ℕ). EndsAnswer (kind_of_method p.head.method) (drop c.took.from x) (span_size c.took)) (sym took) p.took;
      gave = subst (λ (x : List ℕ). BeginsForwardedAnswer (bytes_in x c.took) c.closing (bytes_in client'.sent s.gave)) (sym took)
          (subst (BeginsForwardedAnswer (bytes_in conn.taken c.took) c.closing) gave p.gave);
      closing = λ e. subst (λ (x : List ℕ). HasFinalHead (bytes_in x c.took)) (sym took) (p.closing e);
      early = λ e.
          let was = p.early e in
          let ended : IsWholeAnswer (kind_of_method p.head.method) (bytes_in conn.taken c.took) (conn'.ended ≡ true) = (was.1.0, was.1.1, was.1.2, λ runs. (b.ended (was.1.3 runs)).0) in (
            was.0,
            subst (λ (x : List ℕ). IsWholeAnswer (kind_of_method p.head.method) (bytes_in x c.took) (conn'.ended ≡ true)) (sym took) ended,
            subst (λ (x : List ℕ). ForwardsAnswer (bytes_in x c.took) true (bytes_in client'.sent s.gave)) (sym took)
                (subst (ForwardsAnswer (bytes_in conn.taken c.took) true) gave was.2),
          );
    }

-- ---- own

-- the record of an own answer stays true as the client is given more
pub own_stays : (s : Served) (status : ℕ) (client client' : Carriage) (why : LeftCause) → GoesOn client client' → ReadsNoMore client client' → IsTrueOwn s status client why → IsTrueOwn s status client' why
own_stays s status client client' why a asked p =
    let gave : bytes_in client.sent s.gave ≡ bytes_in client'.sent s.gave = sym (range_on client.sent client'.sent a.sent.0 s.gave a.sent.1 p.gave) in
    record {
      ask = subst (LiesIn s.ask) (sym asked) p.ask;
      gave = lies_on client.sent client'.sent a.sent.0 s.gave a.sent.1 p.gave;
      all_taken = p.all_taken ∙ ap length (sym asked);
      text = p.text;
      own = p.own;
      gives = subst (λ (x : List ℕ). (x ≡ p.text) ⊎ (IsPrefix x p.text × LeftBeforeAll why)) gave p.gives;
    }

-- a record of each kind stays true as its links may go on
pub record_stays : (k : Kind) (s : Served) (client client' conn conn' : Carriage) (why : LeftCause) → MayGoOn k client client' conn conn'
    → RecountsBytes k s client conn why → RecountsBytes k s client' conn' why
record_stays (kind.Passed c) s client client' conn conn' why m p = passed_stays s c client client' conn conn' m.0 m.1 p
record_stays (kind.Cut c cause) s client client' conn conn' why m p = cut_stays s c cause client client' conn conn' m.0 m.1 m.2 m.3 m.4 p
record_stays (kind.Own status) s client client' conn conn' why m p = own_stays s status client client' why m.0 m.1 p
