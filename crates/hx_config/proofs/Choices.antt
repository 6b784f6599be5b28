-- Options one after the other.
use Rattle.std.proofs.Common.{◌≡◌, ◌≢◌, ℕ, ◌<◌, List, [], ◌∷◌, length, Result, Ok, Err, refl, sym, ap, ◌∙◌, arith}
use Rattle.std.specs.Prelude.{IfOk}
use Rattle.std.proofs.lemmas.Result.{IfOk-at_ok}
use Rattle.hx_config_parts.specs.declared.fault.Rule.{Rule}
use Rattle.hx_config_parts.specs.declared.fault.Rule.TheVariants.{MissingValue}
use Rattle.hx_config_parts.specs.declared.fault.Refusal.{Refusal}
use Rattle.hx_config_parts.specs.declared.fault.Refusal.TheVariants as refusal
use Rattle.hx_config.specs.declared.options.ServerOption.{ServerOption}
use Rattle.hx_config.specs.declared.options.ServerOption.TheVariants as option
use Rattle.hx_config.specs.declared.options.Chosen.{Chosen}
use Rattle.hx_config_parts.specs.Faults.{◌>>=◌, Refuses}
use Rattle.hx_config_parts.specs.Lexical.{with_rest, word_at, ascii_word}
use Rattle.hx_config.specs.Options.{known, option_words, after_option, one_option, going_on, with_value, chosen_by}
use Rattle.hx_config_parts.specs.Tables.{found}

-- a value was read, or not
inner : (r : Result Chosen Rule) (ws : List (List ℕ)) → (r >>= λ d. chosen_by d ws) ≡ ((with_rest ws r) >>= λ d. chosen_by d.0 d.1)
inner (Ok d) ws = refl
inner (Err e) ws = refl

valued : (r : Result (List ℕ) Rule) (f : List ℕ → Result Chosen Rule) (ws : List (List ℕ))
    → (with_rest [] r >>= λ x. f x.0 >>= λ d. chosen_by d ws)
    ≡ ((with_rest ws r >>= λ x. with_rest x.1 (f x.0)) >>= λ d. chosen_by d.0 d.1)
valued (Ok x) f ws = inner (f x) ws
valued (Err e) f ws = refl

-- an option and its value, where the words behind it are read on
behind : (o : ServerOption) (c : Chosen) (v : List ℕ) (ws : List (List ℕ))
    → going_on o c v (λ d. chosen_by d (v ∷ ws)) (λ d. chosen_by d ws) ≡ (after_option o c (v ∷ ws) >>= λ d. chosen_by d.0 d.1)
behind option.Check c v ws = refl
behind option.MaxConn c v ws = valued (ascii_word v) (with_value option.MaxConn c) ws
behind option.LowConn c v ws = valued (ascii_word v) (with_value option.LowConn c) ws
behind option.PurgeDelay c v ws = valued (ascii_word v) (with_value option.PurgeDelay c) ws
behind option.Inter c v ws = valued (ascii_word v) (with_value option.Inter c) ws
behind option.Count c v ws = valued (ascii_word v) (with_value option.Count c) ws

named_last : (c : Chosen) (k : Result ServerOption Rule)
    → ((with_rest [] k >>= λ o. after_option o.0 c o.1) >>= λ d. Ok d.0)
    ≡ ((with_rest [] k >>= λ o. after_option o.0 c o.1) >>= λ d. chosen_by d.0 d.1)
unfolding chosen_by
named_last c (Err e) = refl
named_last c (Ok option.Check) = refl
named_last c (Ok option.MaxConn) = refl
named_last c (Ok option.LowConn) = refl
named_last c (Ok option.PurgeDelay) = refl
named_last c (Ok option.Inter) = refl
named_last c (Ok option.Count) = refl

last : (c : Chosen) (r : Result (List ℕ) Rule)
    → (((with_rest [] r >>= λ x. with_rest x.1 (known (found option_words x.0))) >>= λ o. after_option o.0 c o.1) >>= λ d. Ok d.0)
    ≡ (((with_rest [] r >>= λ x. with_rest x.1 (known (found option_words x.0))) >>= λ o. after_option o.0 c o.1) >>= λ d. chosen_by d.0 d.1)
last c (Err e) = refl
last c (Ok x) = named_last c (known (found option_words x))

named : (c : Chosen) (v : List ℕ) (ws : List (List ℕ)) (k : Result ServerOption Rule)
    → (with_rest [] k >>= λ o. going_on o.0 c v (λ d. chosen_by d (v ∷ ws)) (λ d. chosen_by d ws))
    ≡ ((with_rest (v ∷ ws) k >>= λ o. after_option o.0 c o.1) >>= λ d. chosen_by d.0 d.1)
named c v ws (Err e) = refl
named c v ws (Ok o) = behind o c v ws

next : (c : Chosen) (v : List ℕ) (ws : List (List ℕ)) (r : Result (List ℕ) Rule)
    → ((with_rest [] r >>= λ x. with_rest x.1 (known (found option_words x.0))) >>= λ o. going_on o.0 c v (λ d. chosen_by d (v ∷ ws)) (λ d. chosen_by d ws))
    ≡ (((with_rest (v ∷ ws) r >>= λ x. with_rest x.1 (known (found option_words x.0))) >>= λ o. after_option o.0 c o.1) >>= λ d. chosen_by d.0 d.1)
next c v ws (Err e) = refl
next c v ws (Ok x) = named c v ws (known (found option_words x))

-- one option, then the others
one_then : (c : Chosen) (w : List ℕ) (ws : List (List ℕ)) → chosen_by c (w ∷ ws) ≡ (one_option c (w ∷ ws) >>= λ d. chosen_by d.0 d.1)
unfolding chosen_by
one_then c w [] = last c (ascii_word w)
one_then c w (v ∷ ws) = next c v ws (ascii_word w)

pub goes_on : (c d : Chosen) (ws after : List (List ℕ)) (total : Result Chosen Rule) → ws ≢ [] → one_option c ws ≡ Ok (d, after)
    → chosen_by c ws ≡ total → chosen_by d after ≡ total
goes_on c d [] after total some is so_far = absurd (some refl)
goes_on c d (w ∷ ws) after total some is so_far =
    sym (one_then c w ws ∙ ap (λ (r : Result (Chosen × List (List ℕ)) Rule). r >>= λ x. chosen_by x.0 x.1) is) ∙ so_far

pub stops : (e : Refusal) (c : Chosen) (ws : List (List ℕ)) (total : Result Chosen Rule) → ws ≢ [] → Refuses e (one_option c ws)
    → chosen_by c ws ≡ total → Refuses e total
stops refusal.Memory c ws total some is so_far = tt
stops (refusal.Fault rule) c [] total some is so_far = absurd (some refl)
stops (refusal.Fault rule) c (w ∷ ws) total some is so_far =
    sym so_far ∙ one_then c w ws ∙ ap (λ (r : Result (Chosen × List (List ℕ)) Rule). r >>= λ x. chosen_by x.0 x.1) is

pub is_over : (c : Chosen) (ws : List (List ℕ)) (total : Result Chosen Rule) → ws ≡ [] → chosen_by c ws ≡ total → total ≡ Ok c
unfolding chosen_by
is_over c ws total none so_far = sym so_far ∙ ap (chosen_by c) none

-- fewer words are left
abbrev IsShorter : ℕ → Result (Chosen × List (List ℕ)) Rule → Type 0
IsShorter n r = IfOk r (λ (d : Chosen × List (List ℕ)). length d.1 < n)

-- an option takes a word at least
shorter_value : (r : Result Chosen Rule) (ws : List (List ℕ)) (n : ℕ) → length ws < n → IsShorter n (with_rest ws r)
shorter_value (Ok d) ws n h = h
shorter_value (Err e) ws n h = tt

shorter_word : (r : Result (List ℕ) Rule) (f : List ℕ → Result Chosen Rule) (ws : List (List ℕ)) (n : ℕ) → length ws < n
    → IsShorter n (with_rest ws r >>= λ x. with_rest x.1 (f x.0))
shorter_word (Ok x) f ws n h = shorter_value (f x) ws n h
shorter_word (Err e) f ws n h = tt

shorter_words : (f : List ℕ → Result Chosen Rule) (ws : List (List ℕ)) (n : ℕ) → length ws < n
    → IsShorter n (word_at ws >>= λ x. with_rest x.1 (f x.0))
shorter_words f [] n h = tt
shorter_words f (v ∷ ws) n h = shorter_word (ascii_word v) f ws n (omega arith)

shorter_after : (o : ServerOption) (c : Chosen) (ws : List (List ℕ)) (n : ℕ) → length ws < n → IsShorter n (after_option o c ws)
shorter_after option.Check c ws n h = h
shorter_after option.MaxConn c ws n h = shorter_words (with_value option.MaxConn c) ws n h
shorter_after option.LowConn c ws n h = shorter_words (with_value option.LowConn c) ws n h
shorter_after option.PurgeDelay c ws n h = shorter_words (with_value option.PurgeDelay c) ws n h
shorter_after option.Inter c ws n h = shorter_words (with_value option.Inter c) ws n h
shorter_after option.Count c ws n h = shorter_words (with_value option.Count c) ws n h

shorter_named : (c : Chosen) (k : Result ServerOption Rule) (ws : List (List ℕ)) (n : ℕ) → length ws < n
    → IsShorter n (with_rest ws k >>= λ o. after_option o.0 c o.1)
shorter_named c (Ok o) ws n h = shorter_after o c ws n h
shorter_named c (Err e) ws n h = tt

shorter_first : (c : Chosen) (r : Result (List ℕ) Rule) (ws : List (List ℕ)) (n : ℕ) → length ws < n
    → IsShorter n ((with_rest ws r >>= λ x. with_rest x.1 (known (found option_words x.0))) >>= λ o. after_option o.0 c o.1)
shorter_first c (Ok x) ws n h = shorter_named c (known (found option_words x)) ws n h
shorter_first c (Err e) ws n h = tt

pub shorter : (c d : Chosen) (ws after : List (List ℕ)) → one_option c ws ≡ Ok (d, after) → length after < length ws
shorter c d [] after is = absurd (let no : Err MissingValue ≡ Ok (d, after) = is in cc)
shorter c d (w ∷ ws) after is =
    IfOk-at_ok (λ (x : Chosen × List (List ℕ)). length x.1 < length (w ∷ ws)) is (shorter_first c (ascii_word w) ws (length (w ∷ ws)) (omega arith))
