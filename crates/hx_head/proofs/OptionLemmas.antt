-- The options of a value and of a head.
use Rattle.std.proofs.Common.{◌≡◌, ◌≢◌, ℕ, suc, ◌+◌, ◌<◌, List, [], ◌∷◌, length, take, drop, map, get_or, Bool, true, false, ◌&&◌, ◌||◌, refl, ap, ◌∙◌}
use Rattle.std.specs.Prelude.{codes}
use Rattle.std.specs.List.{list_any}
use Rattle.std.specs.Str.{str_eq_ignore_ascii_case}
use Rattle.std.proofs.lemmas.List.{drop_more}
use Rattle.std.proofs.lemmas.List.Folds.{list_any-append}
use Rattle.httparse.specs.Grammar.{trim_ows}
use Rattle.hx_message.specs.Fields.{NameAndValue, parts_of, is_named, connection_options}
use Rattle.hx_head.specs.declared.head.FieldSpan.{FieldSpan}
use Rattle.hx_head.specs.Heads.{field_in}
use Rattle.hx_head.specs.Options.{lists_option, has_option}
use Rattle.hx_head.proofs.StayingLemmas.{parts_at, parts_whole, or_false}

-- an option of a value is its first one, or among the later ones
pub option_at : (option xs : List ℕ) (i : ℕ) → i < length xs → get_or xs i 0 ≡ 44 → ((k : ℕ) → k < i → get_or xs k 0 ≢ 44)
    → lists_option option xs ≡ (str_eq_ignore_ascii_case option (trim_ows (take i xs)) || lists_option option (drop (suc i) xs))
option_at option xs i inside comma before =
    ap (λ (parts : List (List ℕ)). list_any (str_eq_ignore_ascii_case option) (map trim_ows parts)) (parts_at xs i inside comma before)

-- without a comma there is one option
pub option_whole : (option xs : List ℕ) → ((k : ℕ) → k < length xs → get_or xs k 0 ≢ 44)
    → lists_option option xs ≡ str_eq_ignore_ascii_case option (trim_ows xs)
option_whole option xs none =
    ap (λ (parts : List (List ℕ)). list_any (str_eq_ignore_ascii_case option) (map trim_ows parts)) (parts_whole xs none)
    ∙ or_false (str_eq_ignore_ascii_case option (trim_ows xs))

-- the option is one of the first field, or of the others
pub has_option_cons : (option : List ℕ) (f : NameAndValue) (fields : List NameAndValue)
    → has_option option (f ∷ fields) ≡ ((is_named (codes "Connection") f && lists_option option f.1) || has_option option fields)
unfolding connection_options
has_option_cons option f fields = by_test (is_named (codes "Connection") f) refl
  where
    by_test : (t : Bool) → is_named (codes "Connection") f ≡ t
        → has_option option (f ∷ fields) ≡ ((is_named (codes "Connection") f && lists_option option f.1) || has_option option fields)
    by_test true is = rw is (list_any-append (str_eq_ignore_ascii_case option) (map trim_ows (parts_of f.1)) (connection_options fields))
    by_test false is = rw is refl

-- no field has an option
pub has_option_none : (option : List ℕ) → has_option option [] ≡ false
unfolding connection_options
has_option_none option = refl

-- the options of the fields from one on
pub has_option_at : (option bytes : List ℕ) (fields : List FieldSpan) (i : ℕ) (none : FieldSpan) (named listed : Bool) → i < length fields
    → is_named (codes "Connection") (field_in bytes (get_or fields i none)) ≡ named
    → lists_option option (field_in bytes (get_or fields i none)).1 ≡ listed
    → has_option option (map (field_in bytes) (drop i fields)) ≡ ((named && listed) || has_option option (map (field_in bytes) (drop (i + 1) fields)))
has_option_at option bytes fields i none named listed inside named_is listed_is =
    ap (λ (fs : List FieldSpan). has_option option (map (field_in bytes) fs)) (drop_more fields i none inside)
    ∙ has_option_cons option (field_in bytes (get_or fields i none)) (map (field_in bytes) (drop (i + 1) fields))
    ∙ ap (λ (t : Bool). (t && lists_option option (field_in bytes (get_or fields i none)).1) || has_option option (map (field_in bytes) (drop (i + 1) fields))) named_is
    ∙ ap (λ (t : Bool). (named && t) || has_option option (map (field_in bytes) (drop (i + 1) fields))) listed_is

-- a field of another name has no options
pub has_option_other : (option bytes : List ℕ) (fields : List FieldSpan) (i : ℕ) (none : FieldSpan) → i < length fields
    → is_named (codes "Connection") (field_in bytes (get_or fields i none)) ≡ false
    → has_option option (map (field_in bytes) (drop i fields)) ≡ has_option option (map (field_in bytes) (drop (i + 1) fields))
has_option_other option bytes fields i none inside named_is =
    has_option_at option bytes fields i none false (lists_option option (field_in bytes (get_or fields i none)).1) inside named_is refl
