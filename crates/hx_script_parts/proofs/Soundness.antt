-- Each line keeps the limits.
use Rattle.std.proofs.Common.{◌≡◌, ℕ, ◌+◌, ◌<◌, ◌≤◌, Bool, true, false, List, [], ◌∷◌, ◌++◌, length, Option, Some, None, Result, Ok, Err, refl, sym, ap, subst, ◌∙◌, arith, inl, inr}
use Rattle.std.specs.Prelude.{IfOk, ⊤, ◌⊎◌, ◌&&◌, ◌==◌, nat_le, nat_lt, is_some, cond, bytes_eq, slice_get}
use Rattle.std.specs.List.{list_all, list_any}
use Rattle.std.specs.Ordering.{nat_cmp, match_ordering}
use Rattle.std.specs.declared.cmp.Ordering.{Ordering}
use Rattle.std.specs.declared.cmp.Ordering.TheVariants.{Less, Equal, Greater}
use Rattle.std.specs.BTreeSet.{insert_key}
use Rattle.std.proofs.lemmas.List.{length-append}
use Rattle.std.proofs.lemmas.List.Folds.{list_any-append}
use Rattle.std.proofs.lemmas.Bool.{cases_Bool, and_parts, and_from, or_left, or_right, eq-eqb, lt-ltb, ltb-true, leb-false, eqb-true, eqb-false, ltb-false, cond_both, cond-true, cond-false}
use Rattle.std.proofs.lemmas.Result.{IfOk-at_ok}
use Rattle.hx_base.specs.declared.numbers.Millis.{Millis}
use Rattle.hx_base.specs.declared.numbers.ServerNo.{ServerNo}
use Rattle.hx_base.specs.declared.numbers.ThreadNo.{ThreadNo}
use Rattle.hx_base.specs.declared.order.Order.{Order}
use Rattle.hx_config.specs.Limits.{all_servers}
use Rattle.hx_config.specs.Meaning as config
use Rattle.hx_config_parts.specs.Tables.{found, or_else}
use Rattle.hx_config.specs.declared.parts.Back.{Back}
use Rattle.hx_config.specs.declared.parts.Front.{Front}
use Rattle.hx_config.specs.declared.parts.Server.{Server}
use Rattle.hx_base.specs.declared.plan.Plan.{Plan}
use Rattle.hx_base.specs.declared.plan.Piece.{Piece}
use Rattle.hx_link.specs.Planned.{planned}
use Rattle.hx_script_parts.proofs.Sizes.{size, sizes, word_small, number_small, moment_small, text_small, client_pushed, plan_pushed, piece_pushed, lines_sized}
use Rattle.hx_script_parts.specs.declared.fault.Rule.{Rule}
use Rattle.hx_script_parts.specs.declared.fault.Rule.TheVariants.{BadNumber, BadLine, BadWorker, WrongPlace, MomentFalls, TooMany, NoSuchFrontend, NoSuchServer}
use Rattle.hx_script_parts.specs.declared.fault.Flaw.{Flaw}
use Rattle.hx_script_parts.specs.declared.keywords.FirstWord.{FirstWord}
use Rattle.hx_script_parts.specs.declared.keywords.FirstWord.TheVariants as first
use Rattle.hx_script_parts.specs.declared.keywords.OrderWord.{OrderWord}
use Rattle.hx_script_parts.specs.declared.keywords.OrderWord.TheVariants as ordered
use Rattle.hx_script_parts.specs.declared.reading.Owner.{Owner}
use Rattle.hx_script_parts.specs.declared.reading.Owner.TheVariants as owner
use Rattle.hx_script_parts.specs.declared.reading.OpenLink.{OpenLink}
use Rattle.hx_script_parts.specs.declared.reading.Reading.{Reading}
use Rattle.hx_script_parts.specs.declared.script.ClientLine.{ClientLine}
use Rattle.hx_script_parts.specs.Faults.{◌>>=◌, unless, located}
use Rattle.hx_script_parts.specs.Keywords.{first_words}
use Rattle.hx_script_parts.specs.Lexical.{Rest, lines_of, word_at, text_at, at_end}
use Rattle.hx_script_parts.specs.Limits.{is_positive, is_client_of, is_server_of, is_plan_of, server_of, is_order_of, comes_before, are_rising, longest_text, client_bytes, plan_bytes, IsWithin}
use Rattle.hx_script_parts.specs.Meaning.{lines_read}
use Rattle.hx_script_parts.specs.Names.{found_or, front_from, is_named, server_in, server_among, front_at, server_at, worker_below, worker_at}
use Rattle.hx_script_parts.specs.Numbers.{greatest, is_decimal, number_in, number_at, moment_at}
use Rattle.hx_script_parts.specs.Reading.{with_moment, as_moments, empty_link, plan_of, with_plan, ended, closed, with_link, at_moment, is_refused, link_of, link_at, nothing_read}
use Rattle.hx_script_parts.specs.Sound.{clients_in, plans_in, is_owner_of, clients_open, plans_open, is_link_of, bytes_open, IsSound}
use Rattle.hx_script_parts.specs.Statements as means
use Rattle.hx_config_parts.specs.Numbers.{value}

-- what is read is sound, where something is read
abbrev pub Keeps : config.Meaning → ℕ → Result Reading Rule → Type 0
Keeps c n x = IfOk x (IsSound c n)

-- a reading after another one
then_keeps : {A : Type 0} (c : config.Meaning) (n : ℕ) (q : Result A Rule) (f : A → Result Reading Rule) → ((a : A) → q ≡ Ok a → Keeps c n (f a)) → Keeps c n (q >>= f)
then_keeps c n (Ok a) f h = h a refl
then_keeps c n (Err e) f h = tt

bind_ok : {A B E : Type 0} (r : Result A E) (f : A → Result B E) (y : B) → (r >>= f) ≡ Ok y → (x : A) × (r ≡ Ok x) × (f x ≡ Ok y)
bind_ok (Ok x) f y e = (x, refl, e)
bind_ok (Err d) f y e = absurd (cc)

ok_inj : {A E : Type 0} (x y : A) → ◌≡◌ {A = Result A E} (Ok x) (Ok y) → x ≡ y
ok_inj x y is = cc

some_inj : {A : Type 0} (x y : A) → Some x ≡ Some y → x ≡ y
some_inj x y is = cc

passed_ok : {A E : Type 0} (b : Bool) (x y : A) (e : E) → cond b (Err e) (Ok x) ≡ Ok y → x ≡ y
passed_ok true x y e is = absurd (cc)
passed_ok false x y e is = cc

test_ok : {A E : Type 0} (b : Bool) (x y : A) (e : E) → cond b (Ok x) (Err e) ≡ Ok y → (b ≡ true) × (x ≡ y)
test_ok true x y e is = (refl, cc)
test_ok false x y e is = absurd (cc)

held : (b : Bool) (rule : Rule) (t : ⊤) → unless b rule ≡ Ok t → b ≡ false
held true rule t is = absurd (cc)
held false rule t is = refl

-- what words that were read show

number_low : (low high : ℕ) (ws : Rest) (x : ℕ × Rest) → number_at low high ws ≡ Ok x → nat_le low x.0 ≡ true
number_low low high ws x is =
    let word = bind_ok (word_at ws) (λ w. number_in low high w.0 >>= λ n. Ok (n, w.1)) x is in
    let number = bind_ok (number_in low high word.0.0) (λ n. Ok (n, word.0.1)) x word.2 in
    let v = value word.0.0 in
    let test = test_ok (is_decimal word.0.0 && (nat_le low v && nat_le v high)) v number.0 BadNumber number.1 in
    let parts = and_parts (is_decimal word.0.0) (nat_le low v && nat_le v high) test.0 in
    let low_is = (and_parts (nat_le low v) (nat_le v high) parts.1).0 in
    let same : number.0 ≡ x.0 = ap (λ (y : ℕ × Rest). y.0) (ok_inj (number.0, word.0.1) x number.2) in
    ap (nat_le low) (sym (test.1 ∙ same)) ∙ low_is

found_is : {A : Type 0} (rule : Rule) (o : Option A) (x : A) → found_or rule o ≡ Ok x → o ≡ Some x
found_is rule None x is = absurd (cc)
found_is rule (Some y) x is = ap Some (ok_inj y x is)

front_within : (i : ℕ) (name : List ℕ) (fs : List Front) (k : ℕ) → front_from i name fs ≡ Some k → k < i + length fs
unfolding front_from
front_within i name [] k is = absurd (cc)
front_within i name (f ∷ fs) k is = elim (cases_Bool (bytes_eq f.name name)) [
  | inl here ↦ (let same : i ≡ k = some_inj i k (sym (cond-true _ _ _ here) ∙ is) in omega arith)
  | inr later ↦ (let ih = front_within (i + 1) name fs k (sym (cond-false _ _ _ later) ∙ is) in omega (arith, ih))
]

front_in : (c : config.Meaning) (ws : Rest) (x : ℕ × Rest) → front_at c ws ≡ Ok x → nat_lt x.0 (length c.fronts) ≡ true
front_in c ws x is =
    let word = bind_ok (word_at ws) (λ w. found_or NoSuchFrontend (front_from 0 w.0 c.fronts) >>= λ f. Ok (f, w.1)) x is in
    let front = bind_ok (found_or NoSuchFrontend (front_from 0 word.0.0 c.fronts)) (λ f. Ok (f, word.0.1)) x word.2 in
    let within = front_within 0 word.0.0 c.fronts front.0 (found_is NoSuchFrontend (front_from 0 word.0.0 c.fronts) front.0 front.1) in
    let same : front.0 ≡ x.0 = ap (λ (y : ℕ × Rest). y.0) (ok_inj (front.0, word.0.1) x front.2) in
    ap (λ (n : ℕ). nat_lt n (length c.fronts)) (sym same) ∙ lt-ltb front.0 (length c.fronts) (omega (arith, within))

worker_in : (c : config.Meaning) (ws : Rest) (x : ThreadNo × Rest) → worker_at c ws ≡ Ok x → nat_lt x.0.0 c.threads ≡ true
worker_in c ws x is =
    let number = bind_ok (number_at 0 greatest ws) (λ n. worker_below c.threads n.0 >>= λ t. Ok (t, n.1)) x is in
    let worker = bind_ok (worker_below c.threads number.0.0) (λ t. Ok (t, number.0.1)) x number.2 in
    let test = test_ok (nat_lt number.0.0 c.threads) (record { 0 = number.0.0 }) worker.0 BadWorker worker.1 in
    let same : worker.0 ≡ x.0 = ap (λ (y : ThreadNo × Rest). y.0) (ok_inj (worker.0, number.0.1) x worker.2) in
    ap (λ (t : ThreadNo). nat_lt t.0 c.threads) (sym (test.1 ∙ same)) ∙ test.0

server_has : (word back : List ℕ) (ss : List Server) (n : ServerNo) → server_in word back ss ≡ Some n → list_any (λ (s : Server). s.no.0 == n.0) ss ≡ true
unfolding server_in
server_has word back [] n is = absurd (cc)
server_has word back (s ∷ ss) n is = elim (cases_Bool (is_named word back s.name)) [
  | inl here ↦ (let same : s.no ≡ n = some_inj s.no n (sym (cond-true _ _ _ here) ∙ is) in or_left _ _ (eq-eqb s.no.0 n.0 (ap (λ (x : ServerNo). x.0) same)))
  | inr later ↦ or_right (s.no.0 == n.0) _ (server_has word back ss n (sym (cond-false _ _ _ later) ∙ is))
]

either : {A : Type 0} (o p : Option A) (x : A) → or_else o p ≡ Some x → (o ≡ Some x) ⊎ (p ≡ Some x)
either None p x is = inr is
either (Some y) p x is = inl is

servers_have : (word : List ℕ) (bs : List Back) (n : ServerNo) → server_among word bs ≡ Some n → list_any (λ (s : Server). s.no.0 == n.0) (all_servers bs) ≡ true
unfolding server_among
servers_have word [] n is = absurd (cc)
servers_have word (b ∷ bs) n is =
    let p : Server → Bool = λ s. s.no.0 == n.0 in
    list_any-append p b.servers (all_servers bs)
    ∙ elim (either (server_in word b.name b.servers) (server_among word bs) n is) [
      | inl here ↦ or_left (list_any p b.servers) _ (server_has word b.name b.servers n here)
      | inr later ↦ or_right (list_any p b.servers) _ (servers_have word bs n later)
    ]

server_is_of : (c : config.Meaning) (ws : Rest) (x : ServerNo × Rest) → server_at c ws ≡ Ok x → is_server_of c x.0 ≡ true
server_is_of c ws x is =
    let word = bind_ok (word_at ws) (λ w. found_or NoSuchServer (server_among w.0 c.backs) >>= λ s. Ok (s, w.1)) x is in
    let server = bind_ok (found_or NoSuchServer (server_among word.0.0 c.backs)) (λ s. Ok (s, word.0.1)) x word.2 in
    let same : server.0 ≡ x.0 = ap (λ (y : ServerNo × Rest). y.0) (ok_inj (server.0, word.0.1) x server.2) in
    ap (is_server_of c) (sym same)
    ∙ servers_have word.0.0 c.backs server.0 (found_is NoSuchServer (server_among word.0.0 c.backs) server.0 server.1)

ordered_server : (what : OrderWord) (s : ServerNo) → server_of (means.order_of what s) ≡ s
ordered_server ordered.Drain s = refl
ordered_server ordered.Ready s = refl

link_there : (o : Option OpenLink) (l : OpenLink) → link_of o ≡ Ok l → o ≡ Some l
link_there None l is = absurd (cc)
link_there (Some k) l is = ap Some (passed_ok (is_refused k.owner) k l WrongPlace is)

link_at_there : (m : Millis) (o : Option OpenLink) (l : OpenLink) → link_at m o ≡ Ok l → o ≡ Some l
link_at_there m o l is =
    let there = bind_ok (link_of o) (λ k. unless (is_some k.end) WrongPlace >>= λ t. unless (nat_lt m.0 k.latest.0) MomentFalls >>= λ u. Ok k) l is in
    let k = there.0 in
    let goes_on = bind_ok (unless (is_some k.end) WrongPlace) (λ t. unless (nat_lt m.0 k.latest.0) MomentFalls >>= λ u. Ok k) l there.2 in
    let rises = bind_ok (unless (nat_lt m.0 k.latest.0) MomentFalls) (λ u. Ok k) l goes_on.2 in
    link_there o k there.1 ∙ ap Some (ok_inj k l rises.2)

-- moments

in_order : (k y : ℕ) (P : Ordering → Type 0) → (k < y → P Less) → (k ≡ y → P Equal) → (y < k → P Greater) → P (nat_cmp k y)
in_order k y P less same more =
    cond_both (nat_lt k y) Less (cond (k == y) Equal Greater) P (λ is. less (ltb-true k y is))
    (λ is. cond_both (k == y) Equal Greater P (λ eq. same (eqb-true k y eq))
    (λ ne. let not_less = ltb-false k y is in let other = eqb-false k y ne in more (omega (arith, not_less, other))))

before_insert : (x k : ℕ) (ms : List ℕ) → x < k → comes_before (record { 0 = x }) (as_moments ms) ≡ true
    → comes_before (record { 0 = x }) (as_moments (insert_key nat_cmp ms k)) ≡ true
before_insert x k [] lt before = lt-ltb x k lt
before_insert x k (y ∷ ys) lt before =
    in_order k y (λ o. comes_before (record { 0 = x }) (as_moments (match_ordering o (k ∷ y ∷ ys) (y ∷ ys) (y ∷ insert_key nat_cmp ys k))) ≡ true)
    (λ _. lt-ltb x k lt) (λ _. before) (λ _. before)

rising_insert : (ms : List ℕ) (k : ℕ) → are_rising (as_moments ms) ≡ true → are_rising (as_moments (insert_key nat_cmp ms k)) ≡ true
rising_insert [] k rising = refl
rising_insert (y ∷ ys) k rising =
    let parts = and_parts (comes_before (record { 0 = y }) (as_moments ys)) (are_rising (as_moments ys)) rising in
    in_order k y (λ o. are_rising (as_moments (match_ordering o (k ∷ y ∷ ys) (y ∷ ys) (y ∷ insert_key nat_cmp ys k))) ≡ true)
    (λ lt. and_from _ _ (lt-ltb k y lt) rising) (λ _. rising)
    (λ gt. and_from _ _ (before_insert y k ys gt parts.0) (rising_insert ys k parts.1))

zero_first : (ms : List ℕ) → slice_get (as_moments (insert_key nat_cmp ms 0)) 0 ≡ Some (record { 0 = 0 })
zero_first [] = refl
zero_first (y ∷ ys) =
    in_order 0 y (λ o. slice_get (as_moments (match_ordering o (0 ∷ y ∷ ys) (y ∷ ys) (y ∷ insert_key nat_cmp ys 0))) 0 ≡ Some (record { 0 = 0 }))
    (λ _. refl) (λ same. ap (λ (n : ℕ). Some (record { 0 = n })) (sym same)) (λ gt. absurd (omega (arith, gt)))

kept_moment : (c : config.Meaning) (n : ℕ) (m : Millis) (r : Reading) → IsSound c n r → IsSound c n (at_moment m r)
kept_moment c n m r h = record {
  clients = h.clients;
  plans = h.plans;
  clients_hold = h.clients_hold;
  plans_hold = h.plans_hold;
  orders_hold = h.orders_hold;
  current = h.current;
  bytes = h.bytes;
  rising = rising_insert r.moments m.0 h.rising;
}

-- a link that ends

all_pushed : {A : Type 0} (p : A → Bool) (xs : List A) (x : A) → list_all p xs ≡ true → p x ≡ true → list_all p (xs ++ x ∷ []) ≡ true
all_pushed p [] x each here = and_from _ _ here refl
all_pushed p (y ∷ ys) x each here = let parts = and_parts (p y) (list_all p ys) each in and_from _ _ parts.0 (all_pushed p ys x parts.1 here)

plan_added : (c : config.Meaning) (n : ℕ) (w : Owner) (l : OpenLink) (r : Reading) → length r.clients + clients_in w ≤ 1000 → length r.plans + plans_in w ≤ 4096
    → list_all (is_client_of c) r.clients ≡ true → list_all (is_plan_of c) r.plans ≡ true → list_all (is_order_of c) r.orders ≡ true → is_owner_of c w ≡ true
    → (is_positive l.room && is_positive l.fail) ≡ true → client_bytes r.clients + plan_bytes r.plans + length (planned l.pieces) ≤ n
    → are_rising (as_moments r.moments) ≡ true → IsSound c n (with_plan w l (record r { current = None }))
plan_added c n (owner.Client front worker moment) l r clients plans clients_hold plans_hold orders_hold own limits bytes rising =
    let x : ClientLine = record { front = front; worker = worker; moment = moment; plan = plan_of None false l } in
    record {
      clients = omega (arith, length-append r.clients (x ∷ []));
      plans = plans;
      clients_hold = all_pushed (is_client_of c) r.clients x clients_hold (and_from _ _ own (and_from _ _ refl limits));
      plans_hold = plans_hold;
      orders_hold = orders_hold;
      current = refl;
      bytes = omega (arith, client_pushed r.clients x);
      rising = rising;
    }
plan_added c n (owner.Server server refuse) l r clients plans clients_hold plans_hold orders_hold own limits bytes rising =
    let x : Plan = plan_of (Some server) refuse l in
    record {
      clients = clients;
      plans = omega (arith, length-append r.plans (x ∷ []));
      clients_hold = clients_hold;
      plans_hold = all_pushed (is_plan_of c) r.plans x plans_hold (and_from _ _ own limits);
      orders_hold = orders_hold;
      current = refl;
      bytes = omega (arith, plan_pushed r.plans x);
      rising = rising;
    }

ended_sound : (c : config.Meaning) (n : ℕ) (o : Option OpenLink) (r : Reading) → IsSound c n (record r { current = o }) → IsSound c n (ended o (record r { current = None }))
ended_sound c n None r h = h
ended_sound c n (Some l) r h =
    let parts = and_parts (is_owner_of c l.owner) (is_positive l.room && is_positive l.fail) h.current in
    plan_added c n l.owner l r h.clients h.plans h.clients_hold h.plans_hold h.orders_hold parts.0 parts.1 h.bytes h.rising

closed_sound : (c : config.Meaning) (n : ℕ) (r : Reading) → IsSound c n r → IsSound c n (closed r)
closed_sound c n r h = ended_sound c n r.current r h

-- a link that begins

begun_sound : (c : config.Meaning) (n : ℕ) (line : ℕ) (w : Owner) (r : Reading) → IsSound c n r → length r.clients + clients_in w ≤ 1000
    → length r.plans + plans_in w ≤ 4096 → is_owner_of c w ≡ true → IsSound c n (with_link (empty_link line w) r)
begun_sound c n line w r h clients plans own = record {
  clients = clients;
  plans = plans;
  clients_hold = h.clients_hold;
  plans_hold = h.plans_hold;
  orders_hold = h.orders_hold;
  current = and_from _ _ own refl;
  bytes = omega (arith, h.bytes);
  rising = h.rising;
}

-- a link that goes on

link_kept : (c : config.Meaning) (n m j : ℕ) (r : Reading) (l k : OpenLink) → length (planned k.pieces) ≤ length (planned l.pieces) + j → n + j ≤ m → IsSound c n r → r.current ≡ Some l → k.owner ≡ l.owner
    → (is_positive k.room && is_positive k.fail) ≡ true → IsSound c m (with_link k r)
link_kept c n m j r l k more le h is own limits =
    let clients : clients_open r.current ≡ clients_in k.owner = ap clients_open is ∙ ap clients_in (sym own) in
    let plans : plans_open r.current ≡ plans_in k.owner = ap plans_open is ∙ ap plans_in (sym own) in
    let parts = and_parts (is_owner_of c l.owner) (is_positive l.room && is_positive l.fail) (sym (ap (is_link_of c) is) ∙ h.current) in
    record {
      clients = omega (arith, h.clients, clients);
      plans = omega (arith, h.plans, plans);
      clients_hold = h.clients_hold;
      plans_hold = h.plans_hold;
      orders_hold = h.orders_hold;
      current = and_from _ _ (ap (is_owner_of c) own ∙ parts.0) limits;
      bytes = (let open' : bytes_open r.current ≡ length (planned l.pieces) = ap bytes_open is in omega (arith, h.bytes, open', more, le));
      rising = h.rising;
    }

limits_of : (c : config.Meaning) (n : ℕ) (r : Reading) (l : OpenLink) → IsSound c n r → r.current ≡ Some l → (is_positive l.room ≡ true) × (is_positive l.fail ≡ true)
limits_of c n r l h is =
    let parts = and_parts (is_owner_of c l.owner) (is_positive l.room && is_positive l.fail) (sym (ap (is_link_of c) is) ∙ h.current) in
    and_parts (is_positive l.room) (is_positive l.fail) parts.1

-- the lines

client_keeps : (c : config.Meaning) (n : ℕ) (line : ℕ) (r : Reading) (ws : Rest) → IsSound c n r → Keeps c n (means.client_line c line r ws)
client_keeps c n line r ws h =
    let k = closed_sound c n r h in
    then_keeps c n (front_at c ws) _ (λ front front_is. then_keeps c n (worker_at c front.1) _ (λ worker worker_is.
    then_keeps c n (moment_at worker.1) _ (λ m _. then_keeps c n (at_end m.1) _ (λ e _.
    then_keeps c n (unless (nat_le 1000 (length (closed r).clients)) TooMany) _ (λ few few_is.
    let lt = leb-false 1000 (length (closed r).clients) (held _ TooMany few few_is) in
    kept_moment c n m.0 (with_link (empty_link line (owner.Client front.0 worker.0 m.0)) (closed r))
    (begun_sound c n line (owner.Client front.0 worker.0 m.0) (closed r) k (omega (arith, lt)) (omega (arith, k.plans))
    (and_from _ _ (front_in c ws front front_is) (worker_in c front.1 worker worker_is))))))))

server_keeps : (c : config.Meaning) (n : ℕ) (line : ℕ) (r : Reading) (ws : Rest) → IsSound c n r → Keeps c n (means.server_line c line r ws)
server_keeps c n line r ws h =
    let k = closed_sound c n r h in
    then_keeps c n (server_at c ws) _ (λ server server_is. then_keeps c n (means.refuse_at server.1) _ (λ refuse _.
    then_keeps c n (unless (nat_le 4096 (length (closed r).plans)) TooMany) _ (λ few few_is.
    let lt = leb-false 4096 (length (closed r).plans) (held _ TooMany few few_is) in
    begun_sound c n line (owner.Server server.0 refuse) (closed r) k (omega (arith, k.clients)) (omega (arith, lt)) (server_is_of c ws server server_is))))

piece_keeps : (c : config.Meaning) (n m : ℕ) (r : Reading) (ws : Rest) → n + size ws ≤ m → IsSound c n r → Keeps c m (means.piece_line r ws)
piece_keeps c n m r ws le h =
    then_keeps c m (moment_at ws) _ (λ t t_is. then_keeps c m (number_at 0 greatest t.1) _ (λ sent sent_is.
    then_keeps c m (text_at sent.1) _ (λ bytes bytes_is. then_keeps c m (at_end bytes.1) _ (λ e _.
    then_keeps c m (link_at t.0 r.current) _ (λ l l_is.
    let there = link_at_there t.0 r.current l l_is in
    let limits = limits_of c n r l h there in
    let a : size t.1 ≤ size ws = IfOk-at_ok (λ (x : Millis × Rest). size x.1 ≤ size ws) t_is (moment_small ws) in
    let b : size sent.1 ≤ size t.1 = IfOk-at_ok (λ (x : ℕ × Rest). size x.1 ≤ size t.1) sent_is (number_small 0 greatest t.1) in
    let d : length bytes.0 ≤ size sent.1 = IfOk-at_ok (λ (x : List ℕ × Rest). length x.0 ≤ size sent.1) bytes_is (text_small sent.1) in
    let piece : Piece = record { at = t.0; after = sent.0; bytes = bytes.0 } in
    let more : OpenLink = record l { pieces = l.pieces ++ piece ∷ []; latest = t.0 } in
    kept_moment c m t.0 (with_link more r) (link_kept c n m (length bytes.0) r l more (omega (arith, piece_pushed l.pieces piece)) (omega arith) h there refl (and_from _ _ limits.0 limits.1)))))))

end_keeps : (c : config.Meaning) (n : ℕ) (r : Reading) (ws : Rest) → IsSound c n r → Keeps c n (means.end_line r ws)
end_keeps c n r ws h =
    then_keeps c n (moment_at ws) _ (λ m _. then_keeps c n (number_at 0 greatest m.1) _ (λ sent _. then_keeps c n (at_end sent.1) _ (λ e _.
    then_keeps c n (link_at m.0 r.current) _ (λ l l_is.
    let there = link_at_there m.0 r.current l l_is in
    let limits = limits_of c n r l h there in
    let more : OpenLink = record l { end = Some (m.0, sent.0) } in
    kept_moment c n m.0 (with_link more r) (link_kept c n n 0 r l more (omega arith) (omega arith) h there refl (and_from _ _ limits.0 limits.1))))))

room_keeps : (c : config.Meaning) (n : ℕ) (r : Reading) (ws : Rest) → IsSound c n r → Keeps c n (means.room_line r ws)
room_keeps c n r ws h =
    then_keeps c n (number_at 1 greatest ws) _ (λ k k_is. then_keeps c n (at_end k.1) _ (λ e _. then_keeps c n (link_of r.current) _ (λ l l_is.
    then_keeps c n (unless (is_some l.room) WrongPlace) _ (λ once _.
    let there = link_there r.current l l_is in
    link_kept c n n 0 r l (record l { room = Some k.0 }) (omega arith) (omega arith) h there refl (and_from _ _ (number_low 1 greatest ws k k_is) (limits_of c n r l h there).1)))))

fail_keeps : (c : config.Meaning) (n : ℕ) (r : Reading) (ws : Rest) → IsSound c n r → Keeps c n (means.fail_line r ws)
fail_keeps c n r ws h =
    then_keeps c n (number_at 1 greatest ws) _ (λ k k_is. then_keeps c n (at_end k.1) _ (λ e _. then_keeps c n (link_of r.current) _ (λ l l_is.
    then_keeps c n (unless (is_some l.fail) WrongPlace) _ (λ once _.
    let there = link_there r.current l l_is in
    link_kept c n n 0 r l (record l { fail = Some k.0 }) (omega arith) (omega arith) h there refl (and_from _ _ (limits_of c n r l h there).0 (number_low 1 greatest ws k k_is))))))

order_keeps : (what : OrderWord) (c : config.Meaning) (n : ℕ) (r : Reading) (ws : Rest) → IsSound c n r → Keeps c n (means.order_line what c r ws)
order_keeps what c n r ws h =
    then_keeps c n (moment_at ws) _ (λ m _. then_keeps c n (server_at c m.1) _ (λ server server_is. then_keeps c n (at_end server.1) _ (λ e _.
    let more : Reading = record r { orders = r.orders ++ (m.0, means.order_of what server.0) ∷ [] } in
    kept_moment c n m.0 more (record {
      clients = h.clients;
      plans = h.plans;
      clients_hold = h.clients_hold;
      plans_hold = h.plans_hold;
      orders_hold = all_pushed (is_order_of c) r.orders (m.0, means.order_of what server.0) h.orders_hold (ap (is_server_of c) (ordered_server what server.0) ∙ server_is_of c m.1 server server_is);
      current = h.current;
      bytes = h.bytes;
      rising = h.rising;
    }))))

tick_keeps : (c : config.Meaning) (n : ℕ) (r : Reading) (ws : Rest) → IsSound c n r → Keeps c n (means.tick_line r ws)
tick_keeps c n r ws h = then_keeps c n (moment_at ws) _ (λ m _. then_keeps c n (at_end m.1) _ (λ e _. kept_moment c n m.0 r h))

-- room for more bytes
more_room : (c : config.Meaning) (n m : ℕ) (r : Reading) → n ≤ m → IsSound c n r → IsSound c m r
more_room c n m r le h = record {
  clients = h.clients;
  plans = h.plans;
  clients_hold = h.clients_hold;
  plans_hold = h.plans_hold;
  orders_hold = h.orders_hold;
  current = h.current;
  bytes = omega (arith, h.bytes, le);
  rising = h.rising;
}

other_keeps : (f : FirstWord) (c : config.Meaning) (n m line : ℕ) (r : Reading) (ws : Rest) → n + size ws ≤ m → IsSound c n r → IsSound c m r
    → Keeps c m (means.said f c line r ws)
unfolding means.said
other_keeps first.Client c n m line r ws le h k = client_keeps c m line r ws k
other_keeps first.Server c n m line r ws le h k = server_keeps c m line r ws k
other_keeps first.Piece c n m line r ws le h k = piece_keeps c n m r ws le h
other_keeps first.End c n m line r ws le h k = end_keeps c m r ws k
other_keeps first.Room c n m line r ws le h k = room_keeps c m r ws k
other_keeps first.Fail c n m line r ws le h k = fail_keeps c m r ws k
other_keeps first.Drain c n m line r ws le h k = order_keeps ordered.Drain c m r ws k
other_keeps first.Ready c n m line r ws le h k = order_keeps ordered.Ready c m r ws k
other_keeps first.Tick c n m line r ws le h k = tick_keeps c m r ws k

said_keeps : (f : FirstWord) (c : config.Meaning) (n m line : ℕ) (r : Reading) (ws : Rest) → n + size ws ≤ m → IsSound c n r
    → Keeps c m (means.said f c line r ws)
said_keeps f c n m line r ws le h = other_keeps f c n m line r ws le h (more_room c n m r (omega (arith, le)) h)

line_keeps : (c : config.Meaning) (n line : ℕ) (r : Reading) (l : List ℕ) → IsSound c n r → Keeps c (n + length l) (means.line_read c line r l)
unfolding means.line_read
line_keeps c n line r l h =
    let m = n + length l in
    then_keeps c m (word_at (Some l)) _ (λ x x_is. then_keeps c m (found_or BadLine (found first_words x.0)) _ (λ f _.
    let small : size x.1 ≤ length l = IfOk-at_ok (λ (y : List ℕ × Rest). size y.1 ≤ length l) x_is (word_small (Some l)) in
    said_keeps f c n m line r x.1 (omega (arith, small)) h))

-- the whole text

located_keeps : (c : config.Meaning) (n m line : ℕ) (x : Result Reading Rule) (f : Reading → Result Reading Flaw) → Keeps c n x
    → ((s : Reading) → IsSound c n s → IfOk (f s) (IsSound c m)) → IfOk (located line x >>= f) (IsSound c m)
located_keeps c n m line (Ok s) f k h = h s k
located_keeps c n m line (Err e) f k h = tt

lines_keep : (c : config.Meaning) (n m line : ℕ) (r : Reading) (ls : List (List ℕ)) → n + sizes ls ≤ m → IsSound c n r
    → IfOk (lines_read c line r ls) (IsSound c m)
unfolding lines_read
lines_keep c n m line r [] le h = more_room c n m r (omega (arith, le)) h
lines_keep c n m line r (l ∷ ls) le h =
    located_keeps c (n + length l) m line (means.line_read c line r l) (λ s. lines_read c (line + 1) s ls) (line_keeps c n line r l h)
    (λ s k. lines_keep c (n + length l) m (line + 1) s ls (omega (arith, le)) k)

nothing_sound : (c : config.Meaning) → IsSound c 0 nothing_read
nothing_sound c = record {
  clients = omega arith;
  plans = omega arith;
  clients_hold = refl;
  plans_hold = refl;
  orders_hold = refl;
  current = refl;
  bytes = omega arith;
  rising = refl;
}

pub text_sound : (c : config.Meaning) (most line : ℕ) (text : List ℕ) (r : Reading) → length text ≤ most
    → lines_read c line nothing_read (lines_of text) ≡ Ok r → IsSound c most r
text_sound c most line text r short is =
    IfOk-at_ok (IsSound c most) is (lines_keep c 0 most line nothing_read (lines_of text) (omega (arith, short, lines_sized text)) (nothing_sound c))

pub script_within : (c : config.Meaning) (r : Reading) → IsSound c longest_text r
    → IsWithin c (closed r).clients (closed r).plans (closed r).orders (as_moments (with_moment (record { 0 = 0 }) (closed r).moments))
script_within c r h =
    let k = closed_sound c longest_text r h in
    record {
      clients_in = omega (arith, k.clients);
      plans_in = omega (arith, k.plans);
      clients_hold = k.clients_hold;
      plans_hold = k.plans_hold;
      orders_hold = k.orders_hold;
      bytes_in = omega (arith, k.bytes);
      begins = zero_first (closed r).moments;
      rising = rising_insert (closed r).moments 0 k.rising;
    }

-- the same of what calls left and gave
pub given_within : (c : config.Meaning) (r t : Reading) (u : List ℕ) (clients : List ClientLine) (plans : List Plan) (orders : List (Millis × Order)) (moments : List Millis) → IsSound c longest_text r
    → ◌≡◌ {A = Result Reading Rule} (Ok (closed r)) (Ok t) → ◌≡◌ {A = Result (List ℕ) Rule} (Ok (with_moment (record { 0 = 0 }) t.moments)) (Ok u)
    → clients ≡ t.clients → plans ≡ t.plans → orders ≡ t.orders → ◌≡◌ {A = Result (List Millis) Rule} (Ok (as_moments u)) (Ok moments) → IsWithin c clients plans orders moments
given_within c r t u clients plans orders moments h over added clients_is plans_is orders_is moments_is =
    let k = script_within c r h in
    let over_is : closed r ≡ t = ok_inj (closed r) t over in
    let all : as_moments (with_moment (record { 0 = 0 }) (closed r).moments) ≡ moments =
    ap (λ (x : Reading). as_moments (with_moment (record { 0 = 0 }) x.moments)) over_is ∙ ap as_moments (ok_inj _ u added) ∙ ok_inj (as_moments u) moments moments_is in
    let P : List Millis → Type 0 = λ ms. IsWithin c (closed r).clients (closed r).plans (closed r).orders ms in
    let Q : List ClientLine → Type 0 = λ xs. IsWithin c xs (closed r).plans (closed r).orders moments in
    let R : List Plan → Type 0 = λ ps. IsWithin c clients ps (closed r).orders moments in
    let S : List (Millis × Order) → Type 0 = λ os. IsWithin c clients plans os moments in
    subst S (ap (λ (x : Reading). x.orders) over_is ∙ sym orders_is)
    (subst R (ap (λ (x : Reading). x.plans) over_is ∙ sym plans_is)
    (subst Q (ap (λ (x : Reading). x.clients) over_is ∙ sym clients_is) (subst P all k)))
