-- Numbers are read from their digits, and from no other word.
use Rattle.std.proofs.Common.{◌≡◌, ◌≢◌, ℕ, zero, suc, ◌^◌, ◌<◌, ◌≤◌, true, false, Bool, cond, ◌&&◌, List, [], ◌∷◌, ◌++◌, length, get_or, Option, Some, None, Ok, Err, refl, sym, ap, ap₂, subst, ◌∙◌, arith, rules, inl, inr}
use Rattle.std.specs.Prelude.{◌==◌, not, nat_le, bytes_eq, decimal, codes, ⊤}
use Rattle.std.specs.List.{list_all}
use Rattle.std.proofs.lemmas.Bool.{eqb-true, eq-eqb, ne_eqb, cases_Bool, cond-true, cond-false, and_parts, and_from, leb-true, le-leb}
use Rattle.std.proofs.lemmas.Slice.Eq.{bytes_eq-Decides}
use Rattle.std.proofs.lemmas.Fmt.{decimal-digits_value, digits_decimal, digits_value-decimal, decimal_nonempty, decimal_digit, first_decimal}
use Rattle.std.proofs.lemmas.Str.Parse.{IsNumeralModel, IsDigitsTest, numerals_by_fold}
use Rattle.hx_config_parts.specs.Addresses.{is_plain}
use Rattle.hx_config_parts.specs.Numbers.{is_digit, is_number, value, value_from}
use Rattle.hx_script_parts.specs.Numbers.{is_decimal}
use Rattle.hx_script.specs.MarkLines.{max_text}
use Rattle.hx_transcripts_parts.specs.declared.fault.Rule.TheVariants.{BadNumber, BadLine}
use Rattle.hx_transcripts_parts.specs.Faults.{◌>>=◌, or_broken}
use Rattle.hx_transcripts_parts.specs.Lexical.{is_inside}
use Rattle.hx_transcripts_parts.specs.Numbers.{number_in, limit_in, with_first, cut_at, most_32}
use Rattle.hx_transcripts_parts.specs.Pieces.{pair_in}
use Rattle.hx_transcripts_parts.specs.ReadBack.{ReadsWord}
use Rattle.hx_transcripts_parts.proofs.WordLemmas.{ok_is, bind_ok, bind_is, there_is}

-- ---- bytes of words

-- what passes one test passes a wider one
pub wider : (p q : ℕ → Bool) (w : List ℕ) → ((b : ℕ) → p b ≡ true → q b ≡ true) → list_all p w ≡ true → list_all q w ≡ true
wider p q [] go each = refl
wider p q (b ∷ w) go each =
    let parts = and_parts (p b) (list_all p w) each in
    and_from (q b) (list_all q w) (go b parts.0) (wider p q w go parts.1)

pub both_pass : (p : ℕ → Bool) (xs ys : List ℕ) → list_all p xs ≡ true → list_all p ys ≡ true → list_all p (xs ++ ys) ≡ true
both_pass p [] ys x y = y
both_pass p (b ∷ xs) ys x y =
    let parts = and_parts (p b) (list_all p xs) x in
    and_from (p b) (list_all p (xs ++ ys)) parts.0 (both_pass p xs ys parts.1 y)

-- a byte that passes isn't one that doesn't
pub is_other : (p : ℕ → Bool) (mark b : ℕ) → p mark ≡ false → p b ≡ true → not (b == mark) ≡ true
is_other p mark b fails passes = elim (cases_Bool (b == mark)) [
  | inl same ↦ absurd (let e : true ≡ false = sym passes ∙ ap p (eqb-true b mark same) ∙ fails in cc)
  | inr other ↦ ap not other
]

-- ---- digits

digits_test : IsDigitsTest (λ ds. list_all is_digit ds ≡ true)
digits_test = record {
  empty = refl;
  parts = λ c cs h.
      let here = and_parts (is_digit c) (list_all is_digit cs) h in
      let in_range = and_parts (nat_le 48 c) (nat_le c 57) here.0 in
      ((leb-true 48 c in_range.0, leb-true c 57 in_range.1), here.1);
  more = λ c cs r h. and_from (is_digit c) (list_all is_digit cs) (and_from (nat_le 48 c) (nat_le c 57) (le-leb 48 c r.0) (le-leb c 57 r.1)) h;
}

own : IsNumeralModel (λ ds. list_all is_digit ds ≡ true) (value_from 0)
unfolding value_from
own = numerals_by_fold _ digits_test value_from (search rules)

pub number_digits : (n : ℕ) → n < 2 ^ 64 → list_all is_digit (decimal n) ≡ true
number_digits n lt = digits_decimal own n lt

pub passed : {A E : Type 0} (t : Bool) (x y : A) (e : E) → cond t (Ok x) (Err e) ≡ Ok y → (t ≡ true) × (x ≡ y)
passed true x y e is = (refl, ok_is x y is)
passed false x y e is = cc

one_zero : (w : List ℕ) → 0 < length w → is_plain w ≡ true → get_or w 0 0 ≡ 48 → length w ≡ 1
one_zero [] some plain first = absurd (omega arith)
one_zero (b ∷ []) some plain first = refl
one_zero (b ∷ c ∷ w) some plain first = absurd (let e : true ≡ false = sym plain ∙ ap (λ (x : ℕ). not (x == 48)) first in cc)

plain_from : (w : List ℕ) → 48 < get_or w 0 0 → is_plain w ≡ true
plain_from [] more = refl
plain_from (b ∷ []) more = refl
plain_from (b ∷ c ∷ w) more = elim (cases_Bool (b == 48)) [
  | inl same ↦ absurd (let e = eqb-true b 48 same in omega (arith, e, more))
  | inr other ↦ ap not other
]

plain_decimal : (n : ℕ) → n < 2 ^ 64 → is_plain (decimal n) ≡ true
plain_decimal zero lt = ap is_plain (decimal_digit 0 (omega arith))
plain_decimal (suc n) lt = plain_from (decimal (suc n)) (first_decimal (suc n) (omega arith) lt)

pub some_bytes : (w : List ℕ) → not (length w == 0) ≡ true → 0 < length w
some_bytes [] is = cc
some_bytes (b ∷ w) is = omega arith

pub some_length : (w : List ℕ) → 0 < length w → not (length w == 0) ≡ true
some_length [] is = absurd (omega arith)
some_length (b ∷ w) is = let more : length (b ∷ w) ≢ 0 = omega arith in ap not (ne_eqb (length (b ∷ w)) 0 more)

decimal_of_value : (w : List ℕ) → is_decimal w ≡ true → value w < 2 ^ 64 → w ≡ decimal (value w)
decimal_of_value w is lt =
    let parts = and_parts (is_number w) (is_plain w) is in
    let digits = and_parts (not (length w == 0)) (list_all is_digit w) parts.0 in
    let some = some_bytes w digits.0 in
    sym (decimal-digits_value own w digits.1 some (one_zero w some parts.1) lt)

decimal_is_number : (n : ℕ) → n < 2 ^ 64 → is_decimal (decimal n) ≡ true
decimal_is_number n lt =
    and_from (is_number (decimal n)) (is_plain (decimal n))
    (and_from (not (length (decimal n) == 0)) (list_all is_digit (decimal n)) (some_length (decimal n) (decimal_nonempty n lt)) (number_digits n lt))
    (plain_decimal n lt)

pub digit_inside : (b : ℕ) → is_digit b ≡ true → is_inside b ≡ true
digit_inside b is = is_other is_digit 32 b refl is

pub number_reads : (most : ℕ) → most < 2 ^ 64 → ReadsWord (number_in most) decimal (λ n. n ≤ most)
number_reads most small = record {
  sound = λ w n is.
      let parts = passed (is_decimal w && nat_le (value w) most) (value w) n BadNumber is in
      let tests = and_parts (is_decimal w) (nat_le (value w) most) parts.0 in
      let le = leb-true (value w) most tests.1 in
      (subst (λ (k : ℕ). k ≤ most) parts.1 le, decimal_of_value w tests.0 (omega (arith, le, small)) ∙ ap decimal parts.1);
  whole = λ n le.
      let lt : n < 2 ^ 64 = omega (arith, le, small) in
      let same : value (decimal n) ≡ n = digits_value-decimal own n lt in
      let test : (is_decimal (decimal n) && nat_le (value (decimal n)) most) ≡ true =
      and_from (is_decimal (decimal n)) _ (decimal_is_number n lt) (le-leb (value (decimal n)) most (omega (arith, same, le))) in
      cond-true _ _ _ test ∙ ap (λ (k : ℕ). Ok k) same;
  inside = λ n le. wider is_digit is_inside (decimal n) digit_inside (number_digits n (omega (arith, le, small)));
}

-- ---- a limit

abbrev pub FitsLimit : Option ℕ → Type 0
FitsLimit None = ⊤
FitsLimit (Some n) = n ≤ most_32

no_sign : (n : ℕ) → n ≤ most_32 → bytes_eq (decimal n) (codes "-1") ≡ false
no_sign n le = elim (cases_Bool (bytes_eq (decimal n) (codes "-1"))) [
  | inl same ↦ absurd (let e : list_all is_digit (codes "-1") ≡ true = ap (list_all is_digit) (sym ((bytes_eq-Decides (decimal n) (codes "-1")).0 same)) ∙ number_digits n (omega (arith, le)) in cc)
  | inr other ↦ other
]

limit_sound : (w : List ℕ) (max : Option ℕ) (t : Bool) → bytes_eq w (codes "-1") ≡ t
    → cond t (Ok None) (number_in most_32 w >>= λ n. Ok (Some n)) ≡ Ok max → FitsLimit max × (w ≡ max_text max)
limit_sound w max true test is = subst (λ (m : Option ℕ). FitsLimit m × (w ≡ max_text m)) (ok_is None max is) (tt, (bytes_eq-Decides w (codes "-1")).0 test)
limit_sound w max false test is =
    let n = bind_ok (number_in most_32 w) _ max is in
    subst (λ (m : Option ℕ). FitsLimit m × (w ≡ max_text m)) (ok_is (Some n.0) max n.2) ((number_reads most_32 (omega arith)).sound w n.0 n.1)

limit_whole : (max : Option ℕ) → FitsLimit max → limit_in (max_text max) ≡ Ok max
limit_whole None fits = refl
limit_whole (Some n) le =
    cond-false _ _ _ (no_sign n le) ∙ bind_is (λ (k : ℕ). Ok (Some k)) ((number_reads most_32 (omega arith)).whole n le)

limit_inside : (max : Option ℕ) → FitsLimit max → list_all is_inside (max_text max) ≡ true
limit_inside None fits = refl
limit_inside (Some n) le = (number_reads most_32 (omega arith)).inside n le

pub limit_reads : ReadsWord limit_in max_text FitsLimit
limit_reads = record {
  sound = λ w max is. limit_sound w max (bytes_eq w (codes "-1")) refl is;
  whole = limit_whole;
  inside = limit_inside;
}

-- ---- cut at a mark

pub some_is : {A : Type 0} (x y : A) → ◌≡◌ {A = Option A} (Some x) (Some y) → x ≡ y
some_is x y is = cc

same_byte : (b : ℕ) → (b == b) ≡ true
same_byte b = eq-eqb b b refl

un_not : (t : Bool) → not t ≡ true → t ≡ false
un_not true is = cc
un_not false is = refl

first_is : (b : ℕ) (o : Option (List ℕ × List ℕ)) (x : List ℕ × List ℕ) → with_first b o ≡ Some x
    → (y : List ℕ × List ℕ) × (o ≡ Some y) × (x ≡ (b ∷ y.0, y.1))
first_is b None x is = cc
first_is b (Some y) x is = (y, refl, cc)

pub cut_sound : (mark : ℕ) (w : List ℕ) (x : List ℕ × List ℕ) → cut_at mark w ≡ Some x → w ≡ x.0 ++ (mark ∷ []) ++ x.1
unfolding cut_at
cut_sound mark [] x is = cc
cut_sound mark (b ∷ w) x is = elim (cases_Bool (b == mark)) [
  | inl same ↦
      let e : ◌≡◌ {A = Option (List ℕ × List ℕ)} (Some ([], w)) (Some x) = sym (cond-true (b == mark) _ _ same) ∙ is in
      subst (λ (y : List ℕ × List ℕ). b ∷ w ≡ y.0 ++ (mark ∷ []) ++ y.1) (some_is ([], w) x e) (ap (λ (c : ℕ). c ∷ w) (eqb-true b mark same))
  | inr other ↦
      let y = first_is b (cut_at mark w) x (sym (cond-false (b == mark) _ _ other) ∙ is) in
      subst (λ (z : List ℕ × List ℕ). b ∷ w ≡ z.0 ++ (mark ∷ []) ++ z.1) (sym y.2) (ap (λ (ys : List ℕ). b ∷ ys) (cut_sound mark w y.0 y.1))
]

pub cut_whole : (mark : ℕ) (a b : List ℕ) → list_all (λ x. not (x == mark)) a ≡ true → cut_at mark (a ++ (mark ∷ []) ++ b) ≡ Some (a, b)
unfolding cut_at
cut_whole mark [] b each = cond-true _ _ _ (same_byte mark)
cut_whole mark (x ∷ a) b each =
    let parts = and_parts (not (x == mark)) (list_all (λ y. not (y == mark)) a) each in
    cond-false _ _ _ (un_not (x == mark) parts.0) ∙ ap (with_first x) (cut_whole mark a b parts.1)

-- ---- two numbers

pub pair_reads : (mark most most' : ℕ) → is_digit mark ≡ false → is_inside mark ≡ true → most < 2 ^ 64 → most' < 2 ^ 64
    → ReadsWord (pair_in mark most most') (λ x. decimal x.0 ++ (mark ∷ []) ++ decimal x.1) (λ x. (x.0 ≤ most) × (x.1 ≤ most'))
pair_reads mark most most' apart within small small' =
    let one = number_reads most small in
    let two = number_reads most' small' in
    record {
      sound = λ w y is.
          let x = bind_ok (or_broken BadLine (cut_at mark w)) _ y is in
          let a = bind_ok (number_in most x.0.0) _ y x.2 in
          let b = bind_ok (number_in most' x.0.1) _ y a.2 in
          let l = one.sound x.0.0 a.0 a.1 in
          let r = two.sound x.0.1 b.0 b.1 in
          let text = cut_sound mark w x.0 (there_is BadLine (cut_at mark w) x.0 x.1)
          ∙ ap₂ (λ (u v : List ℕ). u ++ (mark ∷ []) ++ v) l.1 r.1 in
          subst (λ (z : ℕ × ℕ). ((z.0 ≤ most) × (z.1 ≤ most')) × (w ≡ decimal z.0 ++ (mark ∷ []) ++ decimal z.1)) (ok_is (a.0, b.0) y b.2) ((l.0, r.0), text);
      whole = λ x fits.
          let digits = number_digits x.0 (omega (arith, fits.0, small)) in
          let cut = cut_whole mark (decimal x.0) (decimal x.1) (wider is_digit (λ b. not (b == mark)) (decimal x.0) (λ b d. is_other is_digit mark b apart d) digits) in
          bind_is (λ (z : List ℕ × List ℕ). number_in most z.0 >>= λ a. number_in most' z.1 >>= λ b. Ok (a, b)) (ap (or_broken BadLine) cut)
          ∙ bind_is (λ (a : ℕ). number_in most' (decimal x.1) >>= λ b. Ok (a, b)) (one.whole x.0 fits.0)
          ∙ bind_is (λ (b : ℕ). Ok (x.0, b)) (two.whole x.1 fits.1);
      inside = λ x fits. both_pass is_inside (decimal x.0 ++ mark ∷ []) (decimal x.1)
          (both_pass is_inside (decimal x.0) (mark ∷ []) (one.inside x.0 fits.0) (and_from (is_inside mark) true within refl)) (two.inside x.1 fits.1);
    }
