-- Lines are words with values between them, and a text is a line of one list of values alone.
use Rattle.std.proofs.Common.{◌≡◌, ℕ, Bool, true, false, ◌&&◌, ◌||◌, List, [], ◌∷◌, ◌++◌, All, Option, Some, None, get_or, drop, refl, sym, ap, ap₂, subst, ◌∙◌}
use Rattle.std.specs.Prelude.{decimal, codes, ◌==◌, not, ⊤}
use Rattle.std.specs.List.{list_all}
use Rattle.std.specs.Char.{is_ascii_digit}
use Rattle.std.specs.Str.{all_ascii_digits}
use Rattle.std.specs.Str.Parse.{digits_value}
use Rattle.std.proofs.lemmas.Bool.{and_parts}
use Rattle.std.proofs.lemmas.List.{append_cancel_left}
use Rattle.std.proofs.lemmas.Fmt.{decimal_injective, digits_decimal}
use Rattle.std.proofs.lemmas.Str.Parse.{IsNumeralModel, numerals_by_value, tells_all_ascii_digits}
use Rattle.hx_script_parts.specs.ByteText.{quoted}
use Rattle.hx_script.specs.MarkLines.{max_text}
use Rattle.hx_script.specs.PrintedForm.{is_name_byte}
use Rattle.hx_script.specs.Numbers.{IsNumber, IsByte, IsLimit}
use Rattle.hx_script_parts.proofs.ByteTextLemmas.{same_byte_text, spelling_quotes}

-- ---- values

-- what stands between the words of a line
pub data Value : Type 0 where
  number : ℕ → Value
  limit : Option ℕ → Value
  name : List ℕ → Value
  bytes : List ℕ → Value

pub data Class : Type 0 where
  a_number a_limit a_name some_bytes : Class

abbrev pub shown : Value → List ℕ
shown (number n) = decimal n
shown (limit max) = max_text max
shown (name word) = word
shown (bytes xs) = quoted xs

abbrev pub IsOf : Class → Value → Type 0
IsOf a_number (number n) = IsNumber n
IsOf a_limit (limit max) = IsLimit max
IsOf a_name (name word) = list_all is_name_byte word ≡ true
IsOf some_bytes (bytes xs) = All IsByte xs
IsOf k v = ⊥

-- a digit, or the sign of no limit
abbrev is_limit_byte : ℕ → Bool
is_limit_byte b = is_ascii_digit b || b == 45

-- the word behind a value begins with no byte of it
abbrev pub stops : Class → List ℕ → Bool
stops a_number [] = false
stops a_number (b ∷ word) = not (is_ascii_digit b)
stops a_limit [] = false
stops a_limit (b ∷ word) = not (is_limit_byte b)
stops a_name [] = false
stops a_name (b ∷ word) = not (is_name_byte b)
stops some_bytes word = true

-- ---- one value

off : (b : Bool) → not b ≡ true → b ≡ false
off true is = cc
off false is = refl

-- the longest front of bytes that pass
same_front : (test : ℕ → Bool) (c : ℕ) (xs ys r s : List ℕ) → list_all test xs ≡ true → list_all test ys ≡ true → test c ≡ false
    → xs ++ c ∷ r ≡ ys ++ c ∷ s → (xs ≡ ys) × (r ≡ s)
same_front test c [] [] r s x y stop is = (refl, cc)
same_front test c [] (b ∷ ys) r s x y stop is =
    let one : c ≡ b = cc in
    let passes : test b ≡ true = (and_parts (test b) (list_all test ys) y).0 in
    absurd (let e = sym stop ∙ ap test one ∙ passes in cc)
same_front test c (a ∷ xs) [] r s x y stop is =
    let one : a ≡ c = cc in
    let passes : test a ≡ true = (and_parts (test a) (list_all test xs) x).0 in
    absurd (let e = sym stop ∙ ap test (sym one) ∙ passes in cc)
same_front test c (a ∷ xs) (b ∷ ys) r s x y stop is =
    let one : a ≡ b = cc in
    let more : xs ++ c ∷ r ≡ ys ++ c ∷ s = cc in
    let rest = same_front test c xs ys r s (and_parts (test a) (list_all test xs) x).1 (and_parts (test b) (list_all test ys) y).1 stop more in
    (cc, rest.1)

-- with a word behind
same_stopped : (test : ℕ → Bool) (word xs ys r s : List ℕ) → list_all test xs ≡ true → list_all test ys ≡ true
    → (c : ℕ) (more : List ℕ) → word ≡ c ∷ more → test c ≡ false → xs ++ (word ++ r) ≡ ys ++ (word ++ s) → (xs ≡ ys) × (r ≡ s)
same_stopped test word xs ys r s x y c more so stop is =
    let front = same_front test c xs ys (more ++ r) (more ++ s) x y stop
    (ap (λ (w : List ℕ). xs ++ (w ++ r)) (sym so) ∙ is ∙ ap (λ (w : List ℕ). ys ++ (w ++ s)) so) in
    (front.0, append_cancel_left more r s front.1)

all_digits : (xs : List ℕ) → all_ascii_digits xs ≡ true → list_all is_ascii_digit xs ≡ true
all_digits [] is = refl
all_digits (b ∷ xs) is =
    let parts = and_parts (is_ascii_digit b) (all_ascii_digits xs) is in
    rw parts.0 (all_digits xs parts.1)

by_value : IsNumeralModel (λ ds. all_ascii_digits ds ≡ true) (λ ds. digits_value 10 ds)
by_value = numerals_by_value (λ ds. all_ascii_digits ds ≡ true) tells_all_ascii_digits

number_digits : (n : ℕ) → IsNumber n → list_all is_ascii_digit (decimal n) ≡ true
number_digits n lt = all_digits (decimal n) (digits_decimal by_value n lt)

limit_from_digits : (xs : List ℕ) → list_all is_ascii_digit xs ≡ true → list_all is_limit_byte xs ≡ true
limit_from_digits [] is = refl
limit_from_digits (b ∷ xs) is =
    let parts = and_parts (is_ascii_digit b) (list_all is_ascii_digit xs) is in
    rw parts.0 (limit_from_digits xs parts.1)

limit_bytes : (max : Option ℕ) → IsLimit max → list_all is_limit_byte (max_text max) ≡ true
limit_bytes None is = refl
limit_bytes (Some n) is = limit_from_digits (decimal n) (number_digits n is)

no_sign : (n : ℕ) → IsNumber n → codes "-1" ≡ decimal n → ⊥
no_sign n lt is = let e : list_all is_ascii_digit (codes "-1") ≡ true = ap (list_all is_ascii_digit) is ∙ number_digits n lt in cc

same_limit : (a b : Option ℕ) → IsLimit a → IsLimit b → max_text a ≡ max_text b → a ≡ b
same_limit None None x y is = refl
same_limit None (Some n) x y is = absurd (no_sign n y is)
same_limit (Some m) None x y is = absurd (no_sign m x (sym is))
same_limit (Some m) (Some n) x y is = ap (λ (k : ℕ). Some k) (decimal_injective m n x y is)

same_bytes : (xs ys r s : List ℕ) → All IsByte xs → All IsByte ys → quoted xs ++ r ≡ quoted ys ++ s → (xs ≡ ys) × (r ≡ s)
same_bytes xs ys r s x y is =
    same_byte_text (quoted xs ++ r) xs r ys s (quoted xs, spelling_quotes xs x, refl) (quoted ys, spelling_quotes ys y, is)

same_value : (k : Class) (word : List ℕ) (a b : Value) (r s : List ℕ) → stops k word ≡ true → IsOf k a → IsOf k b
    → shown a ++ (word ++ r) ≡ shown b ++ (word ++ s) → (a ≡ b) × (r ≡ s)
same_value a_number (c ∷ word) (number m) (number n) r s stop x y is =
    let same = same_stopped is_ascii_digit (c ∷ word) (decimal m) (decimal n) r s (number_digits m x) (number_digits n y) c word refl (off (is_ascii_digit c) stop) is in
    (ap (λ (k : ℕ). number k) (decimal_injective m n x y same.0), same.1)
same_value a_limit (c ∷ word) (limit m) (limit n) r s stop x y is =
    let same = same_stopped is_limit_byte (c ∷ word) (max_text m) (max_text n) r s (limit_bytes m x) (limit_bytes n y) c word refl (off (is_limit_byte c) stop) is in
    (ap (λ (k : Option ℕ). limit k) (same_limit m n x y same.0), same.1)
same_value a_name (c ∷ word) (name xs) (name ys) r s stop x y is =
    let same = same_stopped is_name_byte (c ∷ word) xs ys r s x y c word refl (off (is_name_byte c) stop) is in
    (ap (λ (k : List ℕ). name k) same.0, same.1)
same_value some_bytes word (bytes xs) (bytes ys) r s stop x y is =
    let same = same_bytes xs ys (word ++ r) (word ++ s) x y is in
    (ap (λ (k : List ℕ). bytes k) same.0, append_cancel_left word r s same.1)
same_value k word a b r s stop x y is = absurd (first_of (assumption, cc))

-- ---- lines

-- each value, by its class, and the word behind it
abbrev pub Form : Type 0
Form = List (Class × List ℕ)

abbrev pub is_form : Form → Bool
is_form [] = true
is_form (field ∷ form) = stops field.0 field.1 && is_form form

-- the values between their words, and then the rest
abbrev pub text : Form → List Value → List ℕ → List ℕ
text [] values rest = rest
text (field ∷ form) [] rest = rest
text (field ∷ form) (v ∷ values) rest = shown v ++ (field.1 ++ text form values rest)

abbrev pub AreOf : Form → List Value → Type 0
AreOf [] [] = ⊤
AreOf (field ∷ form) (v ∷ values) = IsOf field.0 v × AreOf form values
AreOf form values = ⊥

pub same_values : (form : Form) (xs ys : List Value) (r s : List ℕ) → is_form form ≡ true → AreOf form xs → AreOf form ys
    → text form xs r ≡ text form ys s → (xs ≡ ys) × (r ≡ s)
same_values [] [] [] r s ok x y is = (refl, is)
same_values (field ∷ form) (a ∷ xs) (b ∷ ys) r s ok x y is =
    let parts = and_parts (stops field.0 field.1) (is_form form) ok in
    let one = same_value field.0 field.1 a b (text form xs r) (text form ys s) parts.0 x.0 y.0 is in
    let more = same_values form xs ys r s parts.1 x.1 y.1 one.1 in
    (ap₂ (λ (v : Value) (vs : List Value). v ∷ vs) one.0 more.0, more.1)
same_values form xs ys r s ok x y is = absurd (first_of (assumption, cc))

-- the k-th value, read as a number, and as a word
abbrev pub number_of : Value → ℕ
number_of (number n) = n
number_of _ = 0

abbrev pub name_of : Value → List ℕ
name_of (name word) = word
name_of _ = []

abbrev pub number_at : ℕ → List Value → ℕ
number_at k values = number_of (get_or values k (name []))

abbrev pub name_at : ℕ → List Value → List ℕ
name_at k values = name_of (get_or values k (name []))

-- lines of several kinds, told apart by their first byte: what is printed for each, and how it is read back
pub record IsLines {A : Type 0} (V : A → Type 0) (line : A → List ℕ) : Type 0 where
  pub first : A → ℕ
  pub word : ℕ → List ℕ
  pub form : ℕ → Form
  pub values : A → List Value
  pub back : ℕ → List Value → A
  pub is : (a : A) (r : List ℕ) → V a → line a ++ r ≡ first a ∷ word (first a) ++ text (form (first a)) (values a) r
  pub formed : (a : A) → V a → is_form (form (first a)) ≡ true
  pub fits : (a : A) → V a → AreOf (form (first a)) (values a)
  pub backed : (a : A) → V a → back (first a) (values a) ≡ a

-- equal texts, whatever follows, are one line and one rest
abbrev pub TellsLines : {A : Type 0} → (A → Type 0) → (A → List ℕ) → Type 0
TellsLines {A} V line = (a b : A) (r s : List ℕ) → V a → V b → line a ++ r ≡ line b ++ s → (a ≡ b) × (r ≡ s)

pub same_line : {A : Type 0} (V : A → Type 0) (line : A → List ℕ) → IsLines V line → TellsLines V line
same_line {A} V line ls a b r s x y same =
    let e = sym (ls.is a r x) ∙ same ∙ ls.is b s y in
    let n : ls.first a ≡ ls.first b = ap (λ (xs : List ℕ). get_or xs 0 0) e in
    let tail : ls.word (ls.first a) ++ text (ls.form (ls.first a)) (ls.values a) r ≡ ls.word (ls.first b) ++ text (ls.form (ls.first b)) (ls.values b) s = ap (drop 1) e in
    let here : ls.word (ls.first a) ++ text (ls.form (ls.first a)) (ls.values a) r ≡ ls.word (ls.first a) ++ text (ls.form (ls.first a)) (ls.values b) s =
    tail ∙ ap (λ (k : ℕ). ls.word k ++ text (ls.form k) (ls.values b) s) (sym n) in
    let fit = subst (λ (k : ℕ). AreOf (ls.form k) (ls.values b)) (sym n) (ls.fits b y) in
    let one = same_values (ls.form (ls.first a)) (ls.values a) (ls.values b) r s (ls.formed a x) (ls.fits a x) fit
    (append_cancel_left (ls.word (ls.first a)) (text (ls.form (ls.first a)) (ls.values a) r) (text (ls.form (ls.first a)) (ls.values b) s) here) in
    (sym (ls.backed a x) ∙ ap₂ ls.back n one.0 ∙ ls.backed b y, one.1)
