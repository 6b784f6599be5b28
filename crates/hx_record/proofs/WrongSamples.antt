-- What is wrong in one place is refused.
use Rattle.std.proofs.Common.{◌≡◌, ℕ, zero, suc, List, [], ◌∷◌, ◌++◌, length, get_or, false, refl, sym, ap, ◌∙◌, subst, arith, inl, inr, length-append}
use Rattle.std.specs.Prelude.{codes, All, Contains, ◌⊎◌}
use Rattle.std.specs.List.{flat_map}
use Rattle.std.proofs.lemmas.List.Elements.{All-head, All-tail}
use Rattle.httparse.specs.Grammar.{RequestHead, ReadsRequest}
use Rattle.httparse.proofs.GrammarLemmas.{request_unique, ReadsRequest-append}
use Rattle.hx_message.proofs.Unique.{one_text}
use Rattle.hx_message.specs.Body.{kind_of_method}
use Rattle.hx_message.specs.Message.{IsRequest, WantsClose, RunsToEnd}
use Rattle.hx_message.specs.declared.MethodKind.{MethodKind}
use Rattle.hx_message.specs.declared.MethodKind.TheVariants.{Other}
use Rattle.hx_record.specs.declared.served.Carried.{Carried}
use Rattle.hx_record.specs.declared.served.Left.{Left}
use Rattle.hx_record.specs.declared.served.LeftCause.TheVariants as cause
use Rattle.hx_record.specs.declared.served.Told.{Told}
use Rattle.hx_record.specs.declared.served.Told.TheVariants as told
use Rattle.hx_record.specs.Tiles.{ask_of, left_of, InOrder, TilesClient, TilesConn}
use Rattle.hx_record.specs.Samples.{client, ask, answer, other_answer, closing_answer, range, moved, one_asked, one_carried, two_asked, two_carried, first, first_moved, second, second_as, gave_too_short, ask_too_short, closed_untold, gap_in_asks, gap_in_sent, told_after_end, left_twice, begins_at_two, leaves_out_two, Recounts}
use Rattle.hx_record.proofs.TrueSamples.{ask_head, asked, answer_goes_out, not_closing}

-- ---- records

pub gave : ¬ Recounts gave_too_short one_asked one_carried
gave r =
    let same = one_text answer false answer (codes "HTTP/1.1 200 OK\r\nContent-Length: 2\r\n\r\nh") answer_goes_out r.gave in
    omega (arith, ap length same)

pub other_given : ¬ Recounts first (client ask other_answer) one_carried
other_given r =
    let same = one_text answer false answer other_answer answer_goes_out r.gave in
    let last = ap (λ (xs : List ℕ). get_or xs 39 0) same in
    omega (arith, last)

-- no front of the request is a request
whole_ask : (front more : List ℕ) (g : RequestHead) (rest : List ℕ) → front ++ more ≡ ask → ReadsRequest front g rest → rest ++ more ≡ []
whole_ask front more g rest is reads =
    let longer = subst (λ (b : List ℕ). ReadsRequest b g (rest ++ more)) is (ReadsRequest-append front g rest more reads) in
    (request_unique ask g ask_head (rest ++ more) [] longer asked.reads).1

none_behind : (rest : List ℕ) (b : ℕ) → rest ++ b ∷ [] ≡ [] → ⊥
none_behind [] b e = cc
none_behind (x ∷ rest) b e = cc

pub ask_short : ¬ Recounts ask_too_short one_asked one_carried
ask_short r =
    let front = codes "GET /a HTTP/1.1\r\nHost: h\r\n\r" in
    none_behind r.ask.1 10 (whole_ask front (10 ∷ []) r.ask.0 r.ask.1 refl r.ask.2.begins.reads)

pub too_low : ¬ Recounts (second_as 1) two_asked two_carried
too_low r = omega (arith, ap length r.before.0)

no_rest : (xs ys : List ℕ) → xs ++ ys ≡ [] → ys ≡ []
no_rest [] ys e = e
no_rest (x ∷ xs) ys e = cc

-- the request is not two requests
not_two : (a b : List ℕ) (g h : RequestHead) (r q : List ℕ) → a ++ b ≡ ask → ReadsRequest a g r → ReadsRequest b h q → ⊥
not_two a b g h r q is one two =
    let none : b ≡ [] = no_rest r b (whole_ask a b g r is one) in
    let again = ReadsRequest-append [] h q ask (subst (λ (x : List ℕ). ReadsRequest x h q) none two) in
    let past : q ++ ask ≡ [] = (request_unique ask h ask_head (q ++ ask) [] again asked.reads).1 in
    let e : ask ≡ [] = no_rest q ask past in
    omega (arith, ap length e)

pub too_high : ¬ Recounts (second_as 3) two_asked two_carried
too_high r =
    let two = r.before in
    let one = two.10 in
    let parts : one.1 ++ two.1 ≡ ask = sym (two.5 ∙ ap (λ (x : List ℕ). x ++ two.1) (one.5 ∙ ap (λ (x : List ℕ). x ++ one.1) one.10.0)) in
    not_two one.1 two.1 one.7.0 two.7.0 one.7.1 two.7.1 parts one.7.2.begins.reads two.7.2.begins.reads

-- the request's method is no other
same_method : (m : MethodKind) → IsRequest ask m → m ≡ Other
same_method m (g, body, is, of) = sym of ∙ ap (λ (x : RequestHead). kind_of_method x.method) (request_unique ask g ask_head body [] is.begins.reads asked.reads).0

pub closing_untold : ¬ Recounts closed_untold (client ask closing_answer) one_carried
closing_untold r = not_closing (subst (λ (m : MethodKind). WantsClose ask ⊎ RunsToEnd m answer) (same_method r.method r.ask) (r.closing.0 refl))

-- ---- ranges

pub asks_gap : ¬ TilesClient gap_in_asks two_asked
asks_gap t = omega (arith, t.asks.2.0)

one_of_two : (a b x : Carried) → Contains (a ∷ b ∷ []) x → (a ≡ x) ⊎ (b ≡ x)
one_of_two a b x (zero, lt, is) = inl is
one_of_two a b x (suc zero, lt, is) = inr is
one_of_two a b x (suc (suc k), lt, is) = absurd (omega arith)

numbered_one : (b x : Carried) → b.nth ≡ 2 → x.nth ≡ 1 → (first_moved ≡ x) ⊎ (b ≡ x) → first_moved ≡ x
numbered_one b x two one (inl is) = is
numbered_one b x two one (inr is) = absurd (omega (arith, ap (λ (c : Carried). c.nth) is))

numbered_two : (b x : Carried) → x.nth ≡ 2 → (first_moved ≡ x) ⊎ (b ≡ x) → b ≡ x
numbered_two b x two (inl is) = absurd (omega (arith, ap (λ (c : Carried). c.nth) is))
numbered_two b x two (inr is) = is

leaves_gap : (b : Carried) (xs : List Carried) → b.nth ≡ 2 → length xs ≡ 2 → All (Contains (first_moved ∷ b ∷ [])) xs → InOrder 1 0 0 xs → b.sent.from ≡ 28
leaves_gap b [] two count told order = absurd (omega arith)
leaves_gap b (x ∷ []) two count told order = absurd (omega arith)
leaves_gap b (x ∷ y ∷ xs) two count told order =
    let P = Contains (first_moved ∷ b ∷ []) in
    let one = numbered_one b x two order.0 (one_of_two first_moved b x (All-head P x (y ∷ xs) told)) in
    let other = numbered_two b y order.5.0 (one_of_two first_moved b y (All-head P y xs (All-tail P x (y ∷ xs) told))) in
    ap (λ (c : Carried). c.sent.from) other ∙ order.5.1 ∙ sym (ap (λ (c : Carried). c.sent.to) one)

pub sent_gap : ¬ TilesConn gap_in_sent two_carried
sent_gap t = omega (arith, leaves_gap (moved 2 (range 29 56) (range 40 80)) t.exchanges refl t.count t.told t.order)

-- the last Left is followed by no record of its session
late_served : (front back : List Told) (l : Left) → told_after_end ≡ front ++ told.Left l ∷ back
    → flat_map (ask_of two_asked.worker two_asked.session) back ≡ [] → ⊥
late_served [] back l is none = cc
late_served (x ∷ []) back l is none =
    let same : back ≡ told.Served second ∷ [] = cc in
    let some = ap (flat_map (ask_of two_asked.worker two_asked.session)) same in
    omega (arith, ap length (sym some ∙ none))
late_served (x ∷ y ∷ []) back l is none = cc
late_served (x ∷ y ∷ z ∷ front) back l is none = omega (arith, ap length is, length-append front (told.Left l ∷ back))

pub late_record : ¬ TilesClient told_after_end two_asked
late_record t = late_served t.left.0 t.left.2 t.left.1 t.left.3 t.left.6

-- of two Lefts one stands before or behind the other
two_ends : (front back : List Told) (l : Left) → left_twice ≡ front ++ told.Left l ∷ back
    → flat_map (left_of one_asked.worker one_asked.session) front ≡ []
    → flat_map (ask_of one_asked.worker one_asked.session) back ≡ [] → ⊥
two_ends [] back l is before behind = cc
two_ends (x ∷ []) back l is before behind =
    let same : back ≡ told.Left (record { worker = record { 0 = 0 }; session = record { 0 = 1 }; ask = range 28 28; cause = cause.End }) ∷ [] = cc in
    let some = ap (flat_map (ask_of one_asked.worker one_asked.session)) same in
    omega (arith, ap length (sym some ∙ behind))
two_ends (x ∷ y ∷ []) back l is before behind =
    let one : x ≡ told.Served first = cc in
    let two : y ≡ told.Left (record { worker = record { 0 = 0 }; session = record { 0 = 1 }; ask = range 28 28; cause = cause.End }) = cc in
    let some = ap (λ (xs : List Told). flat_map (left_of one_asked.worker one_asked.session) xs) (ap (λ (a : Told). a ∷ y ∷ []) one ∙ ap (λ (b : Told). told.Served first ∷ b ∷ []) two) in
    omega (arith, ap length (sym some ∙ before))
two_ends (x ∷ y ∷ z ∷ front) back l is before behind = omega (arith, ap length is, length-append front (told.Left l ∷ back))

pub ends_twice : ¬ TilesClient left_twice one_asked
ends_twice t = two_ends t.left.0 t.left.2 t.left.1 t.left.3 t.left.5 t.left.6

-- ---- numbers

pub first_is_two : ¬ TilesClient begins_at_two one_asked
first_is_two t = omega (arith, t.numbers.0)

pub second_is_three : ¬ TilesClient leaves_out_two two_asked
second_is_three t = omega (arith, t.numbers.1.0)
