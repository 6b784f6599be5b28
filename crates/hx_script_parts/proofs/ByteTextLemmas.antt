-- Reading finds the byte text at the front of a text, and no text has two of them there.
use Rattle.std.proofs.Common.{◌≡◌, ℕ, ◌+◌, ◌*◌, ◌/◌, ◌%◌, ◌<◌, Bool, true, false, cond, ◌&&◌, ◌||◌, List, [], ◌∷◌, ◌++◌, map, Option, Some, None, All, refl, sym, ap, ◌∙◌, append_assoc, arith, inl, inr}
use Rattle.std.specs.Prelude.{◌==◌, nat_le, nat_lt, MatchOption, ⊤}
use Rattle.std.specs.List.{flat_map}
use Rattle.std.specs.Option.{option_map}
use Rattle.std.proofs.lemmas.Bool.{cond_both, cond-true, eqb-true, ltb-true, lt-ltb, and_parts, or_cases, and_from}
use Rattle.std.proofs.lemmas.List.Elements.{All-nil, All-cons, All-head, All-tail}
use Rattle.std.proofs.lemmas.Bool.Decides.{nat_tests}
use Rattle.hx_script_parts.specs.declared.quoted.ReadMode.{ReadMode}
use Rattle.hx_script_parts.specs.declared.quoted.ReadMode.TheVariants.{InText, AfterBackslash, AfterX, AfterDigit}
use Rattle.hx_script_parts.specs.declared.quoted.Step.{Step}
use Rattle.hx_script_parts.specs.declared.quoted.Step.TheVariants.{End, Bad, Byte, Mode}
use Rattle.hx_script_parts.specs.ByteText.{Letter, plain, escape, cr, lf, hex, hex_digit, is_plain, IsLetter, print_letter, byte_of, escaped, quoted, Quotes, BeginsQuoted, NoQuoted}
use Rattle.hx_script_parts.specs.QuotedReading.{Read, hex_value, first_digit, second_digit, step, with_front, after, read_from, quoted_at}

-- ---- each letter is read as its byte

value_of_digit : (d : ℕ) → d < 16 → hex_value (hex_digit d) ≡ d
value_of_digit d lt = grind (arith, nat_tests)

plain_step : (b : ℕ) → is_plain b ≡ true → step InText b ≡ Byte b
plain_step b is = grind (arith, nat_tests)

first_step : (h : ℕ) → h < 16 → step AfterX (hex_digit h) ≡ Mode (AfterDigit h)
first_step h lt = ap first_digit (value_of_digit h lt) ∙ cond-true (nat_lt h 16) _ _ (lt-ltb h 16 lt)

second_step : (h l : ℕ) → h < 16 → l < 16 → step (AfterDigit h) (hex_digit l) ≡ Byte (16 * h + l)
second_step h l high low =
    ap (second_digit h) (value_of_digit l low)
    ∙ cond-true (nat_lt h 16 && nat_lt l 16) _ _ (and_from _ _ (lt-ltb h 16 high) (lt-ltb l 16 low))

letter_read : (l : Letter) (xs : List ℕ) → IsLetter l
    → read_from InText (print_letter l ++ xs) ≡ with_front (byte_of l ∷ []) (read_from InText xs)
unfolding read_from
letter_read (plain b) xs is = ap (λ (s : Step). after s (λ n. read_from n xs) xs) (plain_step b is)
letter_read (escape b) xs (inl is) = rw is refl
letter_read (escape b) xs (inr is) = rw is refl
letter_read cr xs is = refl
letter_read lf xs is = refl
letter_read (hex h l) xs is =
    ap (λ (s : Step). after s (λ n. read_from n (hex_digit l ∷ xs)) (hex_digit l ∷ xs)) (first_step h is.0)
    ∙ ap (λ (s : Step). after s (λ n. read_from n xs) xs) (second_step h l is.0 is.1)

letters_read : (letters : List Letter) (rest : List ℕ) → All IsLetter letters
    → read_from InText (flat_map print_letter letters ++ 34 ∷ rest) ≡ Some (map byte_of letters, rest)
unfolding read_from
letters_read [] rest each = refl
letters_read (l ∷ letters) rest each =
    rw append_assoc (letter_read l (flat_map print_letter letters ++ 34 ∷ rest) (All-head IsLetter l letters each)
    ∙ ap (with_front (byte_of l ∷ [])) (letters_read letters rest (All-tail IsLetter l letters each)))

-- ---- what is read is written so

-- what a mode has read of a letter
abbrev opening : ReadMode → List ℕ
opening InText = []
opening AfterBackslash = 92 ∷ []
opening AfterX = 92 ∷ 120 ∷ []
opening (AfterDigit h) = 92 ∷ 120 ∷ hex_digit h ∷ []

abbrev IsMode : ReadMode → Type 0
IsMode InText = ⊤
IsMode AfterBackslash = ⊤
IsMode AfterX = ⊤
IsMode (AfterDigit h) = h < 16

-- what a step tells of the bytes up to it
abbrev Tells : List ℕ → Step → Type 0
Tells front End = front ≡ 34 ∷ []
Tells front Bad = ⊤
Tells front (Byte c) = (l : Letter) × IsLetter l × (front ≡ print_letter l) × (byte_of l ≡ c)
Tells front (Mode n) = IsMode n × (front ≡ opening n)

plain_from : (b : ℕ) → (b == 34) ≡ false → (b == 92) ≡ false → (nat_le 32 b && nat_le b 126) ≡ true → is_plain b ≡ true
plain_from b quote slash range = grind (arith, nat_tests)

digit_of_value : (b : ℕ) → hex_value b < 16 → hex_digit (hex_value b) ≡ b
digit_of_value b lt = grind (arith, nat_tests)

in_text : (b : ℕ) → Tells (b ∷ []) (step InText b)
in_text b =
    cond_both (b == 34) _ _ (Tells (b ∷ [])) (λ is. ap (λ (x : ℕ). x ∷ []) (eqb-true b 34 is))
    (λ quote. cond_both (b == 92) _ _ (Tells (b ∷ [])) (λ is. (tt, ap (λ (x : ℕ). x ∷ []) (eqb-true b 92 is)))
    (λ slash. cond_both (nat_le 32 b && nat_le b 126) _ _ (Tells (b ∷ []))
    (λ range. (plain b, plain_from b quote slash range, refl, refl)) (λ _. tt)))

escaped_one : (b : ℕ) → (b == 34 || b == 92) ≡ true → IsLetter (escape b)
escaped_one b is =
    elim (or_cases (b == 34) (b == 92) is) [ inl quote ↦ inl (eqb-true b 34 quote) | inr slash ↦ inr (eqb-true b 92 slash) ]

after_backslash : (b : ℕ) → Tells (92 ∷ b ∷ []) (step AfterBackslash b)
after_backslash b =
    let same = λ (n : ℕ) (is : (b == n) ≡ true). ap (λ (x : ℕ). 92 ∷ x ∷ []) (eqb-true b n is) in
    let P = Tells (92 ∷ b ∷ []) in
    cond_both (b == 34 || b == 92) _ _ P (λ is. (escape b, escaped_one b is, refl, refl))
    (λ _. cond_both (b == 114) _ _ P (λ is. (cr, tt, same 114 is, refl))
    (λ _. cond_both (b == 110) _ _ P (λ is. (lf, tt, same 110 is, refl))
    (λ _. cond_both (b == 120) _ _ P (λ is. (tt, same 120 is)) (λ _. tt))))

after_x : (b : ℕ) → Tells (92 ∷ 120 ∷ b ∷ []) (step AfterX b)
after_x b =
    cond_both (nat_lt (hex_value b) 16) _ _ (Tells (92 ∷ 120 ∷ b ∷ []))
    (λ is. let lt = ltb-true (hex_value b) 16 is in
    (lt, ap (λ (d : ℕ). 92 ∷ 120 ∷ d ∷ []) (sym (digit_of_value b lt))))
    (λ _. tt)

after_digit : (h b : ℕ) → h < 16 → Tells (92 ∷ 120 ∷ hex_digit h ∷ b ∷ []) (step (AfterDigit h) b)
after_digit h b high =
    cond_both (nat_lt h 16 && nat_lt (hex_value b) 16) _ _ (Tells (92 ∷ 120 ∷ hex_digit h ∷ b ∷ []))
    (λ is. let low = ltb-true (hex_value b) 16 (and_parts (nat_lt h 16) (nat_lt (hex_value b) 16) is).1 in
    (hex h (hex_value b), (high, low), ap (λ (d : ℕ). 92 ∷ 120 ∷ hex_digit h ∷ d ∷ []) (sym (digit_of_value b low)), refl))
    (λ _. tt)

step_tells : (m : ReadMode) (b : ℕ) → IsMode m → Tells (opening m ++ b ∷ []) (step m b)
step_tells InText b is = in_text b
step_tells AfterBackslash b is = after_backslash b
step_tells AfterX b is = after_x b
step_tells (AfterDigit h) b is = after_digit h b is

-- the text from a mode on is letters, then the closing quote
abbrev Found : ReadMode → List ℕ → List ℕ → List ℕ → Type 0
Found m text bytes rest =
    (letters : List Letter) × All IsLetter letters
    × (opening m ++ text ≡ flat_map print_letter letters ++ 34 ∷ rest) × (bytes ≡ map byte_of letters)

front_of : Read → List ℕ
front_of None = []
front_of (Some r) = r.0

rest_of : Read → List ℕ
rest_of None = []
rest_of (Some r) = r.1

same_parts : (bytes rest more left : List ℕ) → ◌≡◌ {A = Read} (Some (bytes, rest)) (Some (more, left)) → (bytes ≡ more) × (rest ≡ left)
unfolding front_of rest_of
same_parts bytes rest more left is = (ap front_of is, ap rest_of is)

fronted : (c : ℕ) (r : Read) (bytes rest : List ℕ) → with_front (c ∷ []) r ≡ Some (bytes, rest)
    → (more : List ℕ) × (r ≡ Some (more, rest)) × (bytes ≡ c ∷ more)
fronted c None bytes rest is = cc
fronted c (Some r) bytes rest is =
    let parts = same_parts (c ∷ r.0) r.1 bytes rest is in
    (r.0, ap (λ (xs : List ℕ). Some (r.0, xs)) parts.1, sym parts.0)

joined : (front xs : List ℕ) (b : ℕ) → front ++ b ∷ xs ≡ (front ++ b ∷ []) ++ xs
joined front xs b = sym (append_assoc front (b ∷ []) xs)

step_found : (m : ReadMode) (b : ℕ) (xs bytes rest : List ℕ) (s : Step) → Tells (opening m ++ b ∷ []) s
    → ((n : ReadMode) (more : List ℕ) → IsMode n → read_from n xs ≡ Some (more, rest) → Found n xs more rest)
    → after s (λ n. read_from n xs) xs ≡ Some (bytes, rest) → Found m (b ∷ xs) bytes rest
step_found m b xs bytes rest End tells go is =
    let parts = same_parts [] xs bytes rest is in (
      [],
      All-nil IsLetter,
      joined (opening m) xs b ∙ ap (λ (ys : List ℕ). ys ++ xs) tells ∙ ap (λ (ys : List ℕ). 34 ∷ ys) parts.1,
      sym parts.0,
    )
step_found m b xs bytes rest Bad tells go is = cc
step_found m b xs bytes rest (Byte c) tells go is =
    let front = fronted c (read_from InText xs) bytes rest is in
    let found = go InText front.0 tt front.1 in
    let l = tells.0 in
    let text = joined (opening m) xs b ∙ ap (λ (ys : List ℕ). ys ++ xs) tells.2
    ∙ ap (λ (ys : List ℕ). print_letter l ++ ys) found.2
    ∙ sym (append_assoc (print_letter l) (flat_map print_letter found.0) (34 ∷ rest)) in (
      l ∷ found.0,
      All-cons IsLetter l found.0 tells.1 found.1,
      text,
      front.2 ∙ ap (λ (x : ℕ). x ∷ front.0) (sym tells.3) ∙ ap (λ (ys : List ℕ). byte_of l ∷ ys) found.3,
    )
step_found m b xs bytes rest (Mode n) tells go is =
    let found = go n bytes tells.0 is in
    (found.0, found.1, joined (opening m) xs b ∙ ap (λ (ys : List ℕ). ys ++ xs) tells.1 ∙ found.2, found.3)

found_from : (m : ReadMode) (text bytes rest : List ℕ) → IsMode m → read_from m text ≡ Some (bytes, rest) → Found m text bytes rest
unfolding read_from
found_from m [] bytes rest ok is = cc
found_from m (b ∷ xs) bytes rest ok is =
    step_found m b xs bytes rest (step m b) (step_tells m b ok) (λ n more fits reads. found_from n xs more rest fits reads) is

-- ---- byte texts at the front

pub read_at_front : (text bytes rest : List ℕ) → BeginsQuoted text bytes rest → quoted_at text ≡ Some (bytes, rest)
read_at_front text bytes rest begins =
    let written = begins.1 in
    let letters = flat_map print_letter written.letters in
    let is : text ≡ 34 ∷ letters ++ 34 ∷ rest =
    begins.2 ∙ ap (λ (ys : List ℕ). ys ++ rest) written.is ∙ ap (λ (ys : List ℕ). 34 ∷ ys) (append_assoc letters (34 ∷ []) rest) in
    ap quoted_at is ∙ letters_read written.letters rest written.each ∙ ap (λ (ys : List ℕ). Some (ys, rest)) (sym written.stands)

at_quote : (t : Bool) (r : Read) (x : List ℕ × List ℕ) → cond t r None ≡ Some x → (t ≡ true) × (r ≡ Some x)
at_quote true r x is = (refl, is)
at_quote false r x is = cc

pub found_at_front : (text bytes rest : List ℕ) → quoted_at text ≡ Some (bytes, rest) → BeginsQuoted text bytes rest
found_at_front [] bytes rest is = cc
found_at_front (b ∷ xs) bytes rest is =
    let quote = at_quote (b == 34) (read_from InText xs) (bytes, rest) is in
    let found = found_from InText xs bytes rest tt quote.1 in
    let letters = flat_map print_letter found.0 in (
      34 ∷ letters ++ 34 ∷ [],
      record { letters = found.0; each = found.1; is = refl; stands = found.3 },
      ap (λ (x : ℕ). x ∷ xs) (eqb-true b 34 quote.0)
          ∙ ap (λ (ys : List ℕ). 34 ∷ ys) (found.2 ∙ sym (append_assoc letters (34 ∷ []) rest)),
    )

front_read : (text : List ℕ) (r : Read) → r ≡ quoted_at text → MatchOption r (NoQuoted text) (λ x. BeginsQuoted text x.0 x.1)
front_read text None is = λ bytes rest begins. let reads = is ∙ read_at_front text bytes rest begins in cc
front_read text (Some r) is = found_at_front text r.0 r.1 (sym is)

-- what reading answers tells whether a byte text stands there, and which
pub read_tells : {X : Type 0} (text : List ℕ) (read : X → List ℕ × List ℕ) (o : Option X) → option_map read o ≡ quoted_at text
    → MatchOption o (NoQuoted text) (λ x. BeginsQuoted text (read x).0 (read x).1)
read_tells text read None is = front_read text None is
read_tells text read (Some x) is = front_read text (Some (read x)) is

-- a text begins with one byte text alone
pub same_byte_text : (text bytes rest more left : List ℕ)
    → BeginsQuoted text bytes rest → BeginsQuoted text more left → (bytes ≡ more) × (rest ≡ left)
same_byte_text text bytes rest more left one other =
    same_parts bytes rest more left (sym (read_at_front text bytes rest one) ∙ read_at_front text more left other)

-- ---- the one spelling is a byte text

abbrev IsSpelling : ℕ → List ℕ → Type 0
IsSpelling b text = (l : Letter) × IsLetter l × (text ≡ print_letter l) × (b ≡ byte_of l)

plain_here : (b : ℕ) → (b == 34 || b == 92) ≡ false → (nat_le 32 b && nat_le b 126) ≡ true → is_plain b ≡ true
plain_here b marks range = grind (arith, nat_tests)

spells_letter : (b : ℕ) → b < 256 → IsSpelling b (escaped b)
unfolding escaped
spells_letter b lt =
    let P = IsSpelling b in
    cond_both (b == 34 || b == 92) _ _ P (λ is. (escape b, escaped_one b is, refl, refl))
    (λ marks. cond_both (b == 13) _ _ P (λ is. (cr, tt, refl, eqb-true b 13 is))
    (λ _. cond_both (b == 10) _ _ P (λ is. (lf, tt, refl, eqb-true b 10 is))
    (λ _. cond_both (nat_le 32 b && nat_le b 126) _ _ P
    (λ range. (plain b, plain_here b marks range, refl, refl))
    (λ _. (hex (b / 16) (b % 16), (omega arith, omega arith), refl, omega arith)))))

spells_letters : (bytes : List ℕ) → All (λ (b : ℕ). b < 256) bytes
    → (letters : List Letter) × All IsLetter letters
    × (flat_map escaped bytes ≡ flat_map print_letter letters) × (bytes ≡ map byte_of letters)
spells_letters [] each = ([], All-nil IsLetter, refl, refl)
spells_letters (b ∷ bytes) each =
    let one = spells_letter b (All-head (λ (x : ℕ). x < 256) b bytes each) in
    let more = spells_letters bytes (All-tail (λ (x : ℕ). x < 256) b bytes each) in (
      one.0 ∷ more.0,
      All-cons IsLetter one.0 more.0 one.1 more.1,
      ap (λ (xs : List ℕ). xs ++ flat_map escaped bytes) one.2 ∙ ap (λ (xs : List ℕ). print_letter one.0 ++ xs) more.2,
      ap (λ (x : ℕ). x ∷ bytes) one.3 ∙ ap (λ (xs : List ℕ). byte_of one.0 ∷ xs) more.3,
    )

-- bytes in their one spelling are a byte text
pub spelling_quotes : (bytes : List ℕ) → All (λ (b : ℕ). b < 256) bytes → Quotes (quoted bytes) bytes
spelling_quotes bytes each =
    let spelled = spells_letters bytes each in
    record {
      letters = spelled.0;
      each = spelled.1;
      is = ap (λ (xs : List ℕ). 34 ∷ xs ++ 34 ∷ []) spelled.2;
      stands = spelled.3;
    }
