-- What stays of a head's fields stays again, and with it the kind of body.
use Rattle.std.proofs.Common.{◌≡◌, ℕ, List, [], ◌∷◌, length, map, filter, All, cond, Bool, true, false, ◌&&◌, ◌||◌, not, refl, sym, ap, ◌∙◌, arith}
use Rattle.std.specs.Prelude.{codes, if◌then◌else◌, ◌==◌, Ok, Err}
use Rattle.std.specs.List.{list_any}
use Rattle.std.specs.Str.{str_eq_ignore_ascii_case, str_to_ascii_lowercase, bytes_eq}
use Rattle.std.proofs.lemmas.Slice.Eq.{bytes_eq-Decides}
use Rattle.std.proofs.lemmas.List.Elements.{All-head, All-tail, All-cons, All-weaker, All-filter}
use Rattle.hx_message.specs.Fields.{NameAndValue, is_named, values_of, connection_options, is_of_connection, is_kept, is_optional, goes_on, staying}
use Rattle.hx_message.specs.declared.FrameFault.TheVariants.{BadHost}
use Rattle.hx_message.specs.Body.{Framed, with_host, field_kind}

-- ---- what stays, stays

filter_passes : {X : Type 0} (p : X → Bool) (xs : List X) → All (λ x. p x ≡ true) (filter p xs)
filter_passes p [] = All-filter p (λ x. p x ≡ true) [] (λ k d lt. absurd (omega (arith, lt)))
filter_passes p (x ∷ xs) = by_test (p x) refl (filter_passes p xs)
  where
    by_test : (t : Bool) → p x ≡ t → All (λ y. p y ≡ true) (filter p xs) → All (λ y. p y ≡ true) (cond t (x ∷ filter p xs) (filter p xs))
    by_test true pass later = All-cons (λ y. p y ≡ true) x (filter p xs) pass later
    by_test false other later = later

pub filter_whole : {X : Type 0} (p : X → Bool) (xs : List X) → All (λ x. p x ≡ true) xs → filter p xs ≡ xs
filter_whole p [] all = refl
filter_whole p (x ∷ xs) all =
    ap (λ (t : Bool). cond t (x ∷ filter p xs) (filter p xs)) (All-head (λ y. p y ≡ true) x xs all)
    ∙ ap (λ (ys : List _). x ∷ ys) (filter_whole p xs (All-tail (λ y. p y ≡ true) x xs all))

pub filter_none : {X : Type 0} (p : X → Bool) (xs : List X) → All (λ x. p x ≡ false) xs → filter p xs ≡ []
filter_none p [] all = refl
filter_none p (x ∷ xs) all =
    ap (λ (t : Bool). cond t (x ∷ filter p xs) (filter p xs)) (All-head (λ y. p y ≡ false) x xs all)
    ∙ filter_none p xs (All-tail (λ y. p y ≡ false) x xs all)

false_true : false ≡ true → ⊥
false_true e = cc

-- a filter that lets through all that the other wants changes nothing for it
filter_twice : {X : Type 0} (p q : X → Bool) (xs : List X) → ((x : X) → q x ≡ true → p x ≡ true) → filter q (filter p xs) ≡ filter q xs
filter_twice p q [] lets = refl
filter_twice p q (x ∷ xs) lets = by_test (q x) refl (p x) refl (filter_twice p q xs lets)
  where
    by_test : (s : Bool) → q x ≡ s → (t : Bool) → p x ≡ t → filter q (filter p xs) ≡ filter q xs
        → filter q (cond t (x ∷ filter p xs) (filter p xs)) ≡ cond s (x ∷ filter q xs) (filter q xs)
    by_test true want true pass later =
        ap (λ (b : Bool). cond b (x ∷ filter q (filter p xs)) (filter q (filter p xs))) want ∙ ap (λ (ys : List _). x ∷ ys) later
    by_test true want false none later = absurd (false_true (sym none ∙ lets x want))
    by_test false other true pass later =
        ap (λ (b : Bool). cond b (x ∷ filter q (filter p xs)) (filter q (filter p xs))) other ∙ later
    by_test false other false none later = later

or_left : (a b : Bool) → (a || b) ≡ false → a ≡ false
or_left true b e = e
or_left false b e = refl

and_not : (a b : Bool) → (not a && b) ≡ true → a ≡ false
and_not true b e = sym e
and_not false b e = refl

not_connection : (fields : List NameAndValue) (f : NameAndValue) → goes_on fields f ≡ true → is_of_connection f.0 ≡ false
unfolding goes_on
not_connection fields f on = and_not (is_of_connection f.0) _ on

pub not_named : (f : NameAndValue) → is_of_connection f.0 ≡ false → is_named (codes "Connection") f ≡ false
unfolding is_of_connection
not_named f none = or_left (is_named (codes "Connection") f) _ none

-- fields that are of no connection have no options
no_values : (fields : List NameAndValue) → All (λ f. is_of_connection f.0 ≡ false) fields → values_of (codes "Connection") fields ≡ []
no_values fields none =
    ap (map (λ (f : NameAndValue). f.1)) (filter_none (is_named (codes "Connection")) fields
    (All-weaker (λ (f : NameAndValue). is_of_connection f.0 ≡ false) (λ (f : NameAndValue). is_named (codes "Connection") f ≡ false) not_named fields none))

no_options : (fields : List NameAndValue) → All (λ f. is_of_connection f.0 ≡ false) fields → connection_options fields ≡ []
unfolding connection_options
no_options fields none = rw (no_values fields none) refl

pub goes_without : (fields : List NameAndValue) (f : NameAndValue) → is_optional fields f.0 ≡ false → is_of_connection f.0 ≡ false → goes_on fields f ≡ true
unfolding goes_on
goes_without fields f options none = rw (options, none) (or_true (is_kept f.0))
  where
    or_true : (b : Bool) → (b || true) ≡ true
    or_true true = refl
    or_true false = refl

pub staying_not_connection : (fields : List NameAndValue) → All (λ f. is_of_connection f.0 ≡ false) (staying fields)
unfolding staying
staying_not_connection fields =
    All-weaker (λ (f : NameAndValue). goes_on fields f ≡ true) (λ (f : NameAndValue). is_of_connection f.0 ≡ false) (not_connection fields) (filter (goes_on fields) fields)
    (filter_passes (goes_on fields) fields)

stay_all : (fields : List NameAndValue) → All (λ f. is_of_connection f.0 ≡ false) fields → staying fields ≡ fields
unfolding staying
stay_all fields none =
    let options : (f : NameAndValue) → is_optional fields f.0 ≡ false = λ f. ap (list_any (λ option. str_eq_ignore_ascii_case option f.0)) (no_options fields none) in
    filter_whole (goes_on fields) fields
    (All-weaker (λ (f : NameAndValue). is_of_connection f.0 ≡ false) (λ (f : NameAndValue). goes_on fields f ≡ true)
    (λ (f : NameAndValue) (is : is_of_connection f.0 ≡ false). goes_without fields f (options f) is) fields none)

pub staying_twice : (fields : List NameAndValue) → staying (staying fields) ≡ staying fields
staying_twice fields = stay_all (staying fields) (staying_not_connection fields)

-- ---- the kind of body stays

-- a name that is that of a framing field, letter case ignored, goes on
abbrev pub IsFramingName : List ℕ → Type 0
IsFramingName name = (f : NameAndValue) → is_named name f ≡ true → (is_of_connection f.0 ≡ false) × (is_kept f.0 ≡ true)

lower_is : (name other : List ℕ) → str_eq_ignore_ascii_case name other ≡ true → str_to_ascii_lowercase name ≡ str_to_ascii_lowercase other
lower_is name other same = (bytes_eq-Decides (str_to_ascii_lowercase name) (str_to_ascii_lowercase other)).0 same

-- what a name has by its lower case, each name of the same lower case has
framing_by_lower : (name : List ℕ) → is_of_connection name ≡ false → is_kept name ≡ true → IsFramingName name
unfolding is_of_connection is_kept
framing_by_lower name none kept f same =
    let e = lower_is name f.0 same in
    let tests = λ (names : List (List ℕ)) (lower : List ℕ). list_any (λ n. bytes_eq (str_to_ascii_lowercase n) lower) names in (
      sym (ap (tests (codes "Connection" ∷ codes "Keep-Alive" ∷ codes "Proxy-Connection" ∷ codes "TE" ∷ codes "Upgrade" ∷ [])) e) ∙ none,
      sym (ap (tests (codes "Host" ∷ codes "Content-Length" ∷ codes "Transfer-Encoding" ∷ [])) e) ∙ kept,
    )

host_is_framing : IsFramingName (codes "Host")
unfolding is_of_connection is_kept
host_is_framing = framing_by_lower (codes "Host") refl refl

pub length_is_framing : IsFramingName (codes "Content-Length")
unfolding is_of_connection is_kept
length_is_framing = framing_by_lower (codes "Content-Length") refl refl

pub coding_is_framing : IsFramingName (codes "Transfer-Encoding")
unfolding is_of_connection is_kept
coding_is_framing = framing_by_lower (codes "Transfer-Encoding") refl refl

goes_kept : (fields : List NameAndValue) (f : NameAndValue) → (is_of_connection f.0 ≡ false) × (is_kept f.0 ≡ true) → goes_on fields f ≡ true
unfolding goes_on
goes_kept fields f is = rw (is.0, is.1) refl

pub values_stay : (name : List ℕ) (fields : List NameAndValue) → IsFramingName name → values_of name (staying fields) ≡ values_of name fields
unfolding staying
values_stay name fields framing =
    ap (map (λ (f : NameAndValue). f.1))
    (filter_twice (goes_on fields) (is_named name) fields (λ f same. goes_kept fields f (framing f same)))

-- the kind by the values of the three framing fields
by_host : List (List ℕ) → Framed → Framed
by_host hosts (Err fault) = Err fault
by_host hosts (Ok kind) = if length hosts == 1 then Ok kind else Err BadHost

by_host_is : (fields : List NameAndValue) (framed : Framed) → with_host fields framed ≡ by_host (values_of (codes "Host") fields) framed
unfolding by_host
by_host_is fields (Err fault) = refl
by_host_is fields (Ok kind) = refl

unfoldable pub by_values : List NameAndValue → List NameAndValue → Type 0
by_values xs ys =
    with_host xs (field_kind (values_of (codes "Transfer-Encoding") xs) (values_of (codes "Content-Length") xs))
    ≡ with_host ys (field_kind (values_of (codes "Transfer-Encoding") ys) (values_of (codes "Content-Length") ys))

pub kind_stays : (fields : List NameAndValue) → by_values (staying fields) fields
unfolding by_values
kind_stays fields =
    let kind = λ (codings lengths : List (List ℕ)). field_kind codings lengths in
    by_host_is (staying fields) (kind (values_of (codes "Transfer-Encoding") (staying fields)) (values_of (codes "Content-Length") (staying fields)))
    ∙ ap (λ (hosts : List (List ℕ)). by_host hosts (kind (values_of (codes "Transfer-Encoding") (staying fields)) (values_of (codes "Content-Length") (staying fields))))
    (values_stay (codes "Host") fields host_is_framing)
    ∙ ap (λ (codings : List (List ℕ)). by_host (values_of (codes "Host") fields) (kind codings (values_of (codes "Content-Length") (staying fields))))
    (values_stay (codes "Transfer-Encoding") fields coding_is_framing)
    ∙ ap (λ (lengths : List (List ℕ)). by_host (values_of (codes "Host") fields) (kind (values_of (codes "Transfer-Encoding") fields) lengths))
    (values_stay (codes "Content-Length") fields length_is_framing)
    ∙ sym (by_host_is fields (kind (values_of (codes "Transfer-Encoding") fields) (values_of (codes "Content-Length") fields)))
