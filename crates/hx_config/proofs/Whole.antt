-- What was read within the limits makes a configuration within them.
use Rattle.std.proofs.Common.{◌≡◌, ℕ, zero, suc, ◌+◌, ◌<◌, Bool, true, false, List, [], ◌∷◌, ◌++◌, length, map, Option, Some, None, Result, Ok, Err, refl, sym, ap, ◌∙◌, arith, inl, inr}
use Rattle.std.specs.Prelude.{◌&&◌, ◌==◌, nat_le, nat_lt, slice_get, bytes_eq}
use Rattle.std.specs.List.{list_all, list_any}
use Rattle.std.proofs.lemmas.Bool.{cases_Bool, and_parts, and_from, and_cases, eq-eqb, lt-ltb, ltb-true, cond-true, cond-false, or_left, or_right, not_from_false}
use Rattle.std.proofs.lemmas.List.{length-map, append-nil}
use Rattle.hx_config_parts.specs.declared.fault.Rule.TheVariants.{NoSuchBackend, NoServer}
use Rattle.hx_config_parts.specs.declared.fault.Flaw.{Flaw}
use Rattle.hx_config.specs.declared.parts.Front.{Front}
use Rattle.hx_config.specs.declared.parts.Server.{Server}
use Rattle.hx_config.specs.declared.sections.Frontend.{Frontend}
use Rattle.hx_config.specs.declared.sections.Backend.{Backend}
use Rattle.hx_config.specs.declared.reading.Reading.{Reading}
use Rattle.hx_base.specs.Names.{is_name}
use Rattle.hx_config_parts.specs.Faults.{◌>>=◌}
use Rattle.hx_config.specs.Limits.{has_few_binds, all_servers, are_numbered, serves, are_served, are_fronts_named, has_names, IsWithin}
use Rattle.hx_config.specs.Sound.{ended_servers, servers_so_far, few_binds, IsSound}
use Rattle.hx_config.specs.Sections.{closed}
use Rattle.hx_config.specs.Meaning.{place_from, place_of, at_place, placed, all_placed, is_idle, all_served}

bind_ok : {A B E : Type 0} (r : Result A E) (f : A → Result B E) (y : B) → (r >>= f) ≡ Ok y → (x : A) × (r ≡ Ok x) × (f x ≡ Ok y)
bind_ok (Ok x) f y e = (x, refl, e)
bind_ok (Err d) f y e = absurd (cc)

ok_same : {A E : Type 0} (r : Result A E) (x y : A) → r ≡ Ok x → r ≡ Ok y → x ≡ y
ok_same r x y p q = cc

never_ok : {A E : Type 0} (r : Result A E) (d : E) (y : A) → r ≡ Err d → r ≡ Ok y → ⊥
never_ok r d y p q = cc

some_same : {A : Type 0} (o : Option A) (x y : A) → o ≡ Some x → o ≡ Some y → x ≡ y
some_same o x y p q = cc

never_some : {A : Type 0} (o : Option A) (y : A) → o ≡ None → o ≡ Some y → ⊥
never_some o y p q = cc

-- a place that was found is one of the list
found_within : (i : ℕ) (name : List ℕ) (bs : List Backend) (k : ℕ) → place_from i name bs ≡ Some k → k < i + length bs
unfolding place_from
found_within i name [] k e = absurd (never_some (place_from i name []) k refl e)
found_within i name (b ∷ bs) k e = elim (cases_Bool (bytes_eq b.back.name name)) [
  | inl here ↦ (let same : i ≡ k = some_same (place_from i name (b ∷ bs)) i k (cond-true _ _ _ here) e in omega arith)
  | inr later ↦ (let ih = found_within (i + 1) name bs k (sym (cond-false _ _ _ later) ∙ e) in omega (arith, ih))
]

wanted_within : (wants : Option (List ℕ)) (bs : List Backend) (k : ℕ) → place_of wants bs ≡ Some k → k < length bs
wanted_within None bs k e = absurd (never_some (place_of None bs) k refl e)
wanted_within (Some name) bs k e = omega (arith, found_within 0 name bs k e)

-- a frontend that was placed
pub record IsPlaced (backs : List Backend) (f : Frontend) (x : Front) : Type 0 where
  pub name : x.name ≡ f.name
  pub binds : x.binds ≡ f.binds
  pub within : x.back < length backs

placed_is : (backs : List Backend) (f : Frontend) (o : Option ℕ) (x : Front) → ((k : ℕ) → o ≡ Some k → k < length backs) → at_place f o ≡ Ok x → IsPlaced backs f x
placed_is backs f None x there e = absurd (never_ok (at_place f None) (record { line = f.line; rule = NoSuchBackend }) x refl e)
placed_is backs f (Some i) x there e =
    let front : Front = record { name = f.name; binds = f.binds; back = i; client = f.client; keep_alive = f.keep_alive } in
    let is : front ≡ x = ok_same (at_place f (Some i)) front x refl e in
    record { name = sym (ap (λ (y : Front). y.name) is); binds = sym (ap (λ (y : Front). y.binds) is); within = (let k : i ≡ x.back = ap (λ (y : Front). y.back) is in omega (arith, there i refl)) }

pub record ArePlaced (backs : List Backend) (fs : List Frontend) (xs : List Front) : Type 0 where
  pub len : length xs ≡ length fs
  pub binds : few_binds fs ≡ true → has_few_binds xs ≡ true
  pub named : list_all (λ f. is_name f.name) fs ≡ true → are_fronts_named xs ≡ true
  pub within : list_all (λ x. nat_lt x.back (length backs)) xs ≡ true

all_placed_are : (backs : List Backend) (fs : List Frontend) (xs : List Front) → all_placed backs fs ≡ Ok xs → ArePlaced backs fs xs
unfolding all_placed
all_placed_are backs [] xs e =
    let is : [] ≡ xs = ok_same (all_placed backs []) [] xs refl e in
    record {
      len = ap (λ (ys : List Front). length ys) (sym is);
      binds = λ h. ap has_few_binds (sym is);
      named = λ h. ap are_fronts_named (sym is);
      within = ap (list_all (λ (x : Front). nat_lt x.back (length backs))) (sym is);
    }
all_placed_are backs (f ∷ fs) xs e =
    let one = bind_ok (placed backs f) (λ (x : Front). all_placed backs fs >>= λ (ys : List Front). Ok (x ∷ ys)) xs e in
    let two = bind_ok (all_placed backs fs) (λ (ys : List Front). Ok (one.0 ∷ ys)) xs one.2 in
    let here = placed_is backs f (place_of f.wants backs) one.0 (wanted_within f.wants backs) one.1 in
    let rest = all_placed_are backs fs two.0 two.1 in
    let last : Result (List Front) Flaw = Ok (one.0 ∷ two.0) in
    let is : one.0 ∷ two.0 ≡ xs = ok_same last (one.0 ∷ two.0) xs refl two.2 in
    record {
      len = ap (λ (ys : List Front). length ys) (sym is) ∙ ap suc rest.len;
      binds = λ h. (let parts = and_parts (nat_le (length f.binds) 16) (few_binds fs) h in
          ap has_few_binds (sym is) ∙ and_from _ _ (ap (λ (bs : List _). nat_le (length bs) 16) here.binds ∙ parts.0) (rest.binds parts.1));
      named = λ h. (let parts = and_parts (is_name f.name) (list_all (λ (g : Frontend). is_name g.name) fs) h in
          ap are_fronts_named (sym is) ∙ and_from _ _ (ap is_name here.name ∙ parts.0) (rest.named parts.1));
      within = ap (list_all (λ (x : Front). nat_lt x.back (length backs))) (sym is) ∙ and_from _ _ (lt-ltb one.0.back (length backs) here.within) rest.within;
    }

-- a backend that a frontend has, has a server
served_here : (n : ℕ) (fronts : List Front) (bs : List Backend) (k : ℕ) → all_served n fronts bs ≡ Ok tt → k < length bs
    → list_any (λ (f : Front). f.back == n + k) fronts ≡ true → serves (slice_get (map (λ (b : Backend). b.back) bs) k) ≡ true
unfolding all_served
served_here n fronts [] k e lt wanted = absurd (omega arith)
served_here n fronts (b ∷ bs) zero e lt wanted = elim (cases_Bool (is_idle n fronts b)) [
  | inl idle ↦ absurd (never_ok (all_served n fronts (b ∷ bs)) (record { line = b.line; rule = NoServer }) tt (cond-true _ _ _ idle) e)
  | inr busy ↦ elim (and_cases (length b.back.servers == 0) (list_any (λ (f : Front). f.back == n) fronts) busy) [
    | inl some ↦ not_from_false _ some
    | inr none ↦ absurd (
        let n_is : n + 0 ≡ n = omega arith in
        let never : true ≡ false = sym wanted ∙ ap (λ (m : ℕ). list_any (λ (f : Front). f.back == m) fronts) n_is ∙ none in cc)
  ]
]
served_here n fronts (b ∷ bs) (suc k) e lt wanted = elim (cases_Bool (is_idle n fronts b)) [
  | inl idle ↦ absurd (never_ok (all_served n fronts (b ∷ bs)) (record { line = b.line; rule = NoServer }) tt (cond-true _ _ _ idle) e)
  | inr busy ↦
      let n_is : n + 1 + k ≡ n + suc k = omega arith in
      served_here (n + 1) fronts bs k (sym (cond-false _ _ _ busy) ∙ e) (omega arith)
      (ap (λ (m : ℕ). list_any (λ (f : Front). f.back == m) fronts) n_is ∙ wanted)
]

each_served : (fronts : List Front) (backs : List Backend) (gs : List Front) → all_served 0 fronts backs ≡ Ok tt
    → list_all (λ (x : Front). nat_lt x.back (length backs)) gs ≡ true
    → ((k : ℕ) → list_any (λ (f : Front). f.back == k) gs ≡ true → list_any (λ (f : Front). f.back == k) fronts ≡ true)
    → are_served gs (map (λ (b : Backend). b.back) backs) ≡ true
each_served fronts backs [] e within some = refl
each_served fronts backs (g ∷ gs) e within some =
    let parts = and_parts (nat_lt g.back (length backs)) (list_all (λ (x : Front). nat_lt x.back (length backs)) gs) within in
    let here : list_any (λ (f : Front). f.back == g.back) (g ∷ gs) ≡ true = or_left _ _ (eq-eqb g.back g.back refl) in
    let n_is : g.back ≡ 0 + g.back = omega arith in
    let wanted = ap (λ (m : ℕ). list_any (λ (f : Front). f.back == m) fronts) (sym n_is) ∙ some g.back here in
    and_from _ _ (served_here 0 fronts backs g.back e (ltb-true g.back (length backs) parts.0) wanted)
    (each_served fronts backs gs e parts.1 (λ k h. some k (or_right (g.back == k) _ h)))

servers_of_backs : (backs : List Backend) → all_servers (map (λ (b : Backend). b.back) backs) ≡ ended_servers backs
servers_of_backs [] = refl
servers_of_backs (b ∷ bs) = ap (λ (ss : List Server). b.back.servers ++ ss) (servers_of_backs bs)

backs_named_of : (backs : List Backend) → list_all has_names (map (λ (b : Backend). b.back) backs) ≡ list_all (λ (b : Backend). has_names b.back) backs
backs_named_of [] = refl
backs_named_of (b ∷ bs) = ap (λ (t : Bool). has_names b.back && t) (backs_named_of bs)

-- with no section open
pub config_within : (r : Reading) (fronts : List Front) → IsSound r → r.current.servers ≡ [] → all_placed r.backs r.fronts ≡ Ok fronts → all_served 0 fronts r.backs ≡ Ok tt
    → IsWithin r.threads fronts (map (λ (b : Backend). b.back) r.backs)
config_within r fronts h closed placed served =
    let p = all_placed_are r.backs r.fronts fronts placed in
    let all : servers_so_far r ≡ all_servers (map (λ (b : Backend). b.back) r.backs) =
    ap (λ (ss : List Server). ended_servers r.backs ++ ss) closed ∙ append-nil (ended_servers r.backs) ∙ sym (servers_of_backs r.backs) in
    record {
      threads_in = h.threads;
      fronts_in = omega (arith, h.fronts, p.len);
      backs_in = omega (arith, h.backs, length-map r.backs (λ (b : Backend). b.back));
      binds_in = p.binds h.binds;
      servers_in = (let n : length (servers_so_far r) ≡ length (all_servers (map (λ (b : Backend). b.back) r.backs)) = ap (λ (ss : List Server). length ss) all in omega (arith, n, h.count, h.few));
      numbered = ap (are_numbered 0) (sym all) ∙ h.numbered;
      served = each_served fronts r.backs fronts served p.within (λ k x. x);
      fronts_named = p.named h.names.fronts_named;
      backs_named = backs_named_of r.backs ∙ h.names.backs_named;
    }
