-- A word, a number and a byte text have no more bytes than what they are read from.
use Rattle.std.proofs.Common.{◌≡◌, ℕ, suc, ◌+◌, ◌≤◌, Bool, true, false, cond, List, [], ◌∷◌, ◌++◌, length, drop, Option, Some, None, Result, Ok, Err, refl, arith}
use Rattle.std.specs.Prelude.{IfOk, ◌==◌}
use Rattle.std.specs.List.{prefix_len}
use Rattle.std.proofs.lemmas.List.{length-append, length-drop}
use Rattle.std.proofs.lemmas.Result.{IfOk-at_ok}
use Rattle.hx_base.specs.declared.numbers.Millis.{Millis}
use Rattle.hx_base.specs.declared.plan.Piece.{Piece}
use Rattle.hx_base.specs.declared.plan.Plan.{Plan}
use Rattle.hx_link.specs.Planned.{planned}
use Rattle.hx_script_parts.specs.Faults.{◌>>=◌}
use Rattle.hx_script_parts.specs.Lexical.{Rest, on_first, lines_of, is_inside, behind_word, word_at, behind_text, read_text, text_at}
use Rattle.hx_script_parts.specs.Limits.{client_bytes, plan_bytes}
use Rattle.hx_script_parts.specs.Numbers.{number_in, number_at, moment_at}
use Rattle.hx_script_parts.specs.QuotedReading.{Read, step, with_front, after, read_from, quoted_at}
use Rattle.hx_script_parts.specs.declared.fault.Rule.{Rule}
use Rattle.hx_script_parts.specs.declared.fault.Rule.TheVariants.{BadText}
use Rattle.hx_script_parts.specs.declared.quoted.ReadMode.{ReadMode}
use Rattle.hx_script_parts.specs.declared.quoted.ReadMode.TheVariants.{InText}
use Rattle.hx_script_parts.specs.declared.quoted.Step.{Step}
use Rattle.hx_script_parts.specs.declared.quoted.Step.TheVariants.{End, Bad, Byte, Mode}
use Rattle.hx_script_parts.specs.declared.script.ClientLine.{ClientLine}

-- ---- byte texts

abbrev IsSmall : ℕ → Read → Type 0
IsSmall most None = Unit {0}
IsSmall most (Some x) = length x.0 ≤ most

with_front_small : (most c : ℕ) (r : Read) → IsSmall most r → IsSmall (suc most) (with_front (c ∷ []) r)
with_front_small most c None h = tt
with_front_small most c (Some x) h = omega (arith, h)

more_small : (most : ℕ) (r : Read) → IsSmall most r → IsSmall (suc most) r
more_small most None h = tt
more_small most (Some x) h = omega (arith, h)

after_small : (s : Step) (go : ReadMode → Read) (rest : List ℕ) → ((m : ReadMode) → IsSmall (length rest) (go m)) → IsSmall (suc (length rest)) (after s go rest)
after_small End go rest h = omega arith
after_small Bad go rest h = tt
after_small (Byte c) go rest h = with_front_small (length rest) c (go InText) (h InText)
after_small (Mode m) go rest h = more_small (length rest) (go m) (h m)

read_small : (text : List ℕ) (m : ReadMode) → IsSmall (length text) (read_from m text)
unfolding read_from
read_small [] m = tt
read_small (b ∷ rest) m = after_small (step m b) (λ n. read_from n rest) rest (λ n. read_small rest n)

if_small : (b : Bool) (most : ℕ) (r : Read) → IsSmall most r → IsSmall (suc most) (cond b r None)
if_small true most r h = more_small most r h
if_small false most r h = tt

quoted_small : (text : List ℕ) → IsSmall (length text) (quoted_at text)
quoted_small [] = tt
quoted_small (b ∷ rest) = if_small (b == 34) (length rest) (read_from InText rest) (read_small rest InText)

-- ---- words

-- how many bytes are left of a line
abbrev pub size : Rest → ℕ
size None = 0
size (Some bs) = length bs

behind_word_small : (bs : List ℕ) → size (behind_word bs) ≤ length bs
behind_word_small [] = omega arith
behind_word_small (b ∷ bs) = omega arith

pub word_small : (ws : Rest) → IfOk (word_at ws) (λ x. size x.1 ≤ size ws)
word_small None = tt
word_small (Some bs) =
    omega (arith, behind_word_small (drop (prefix_len is_inside bs) bs), length-drop (prefix_len is_inside bs) bs)

-- ---- readings

then_ok : {A B : Type 0} (P : B → Type 0) (q : Result A Rule) (f : A → Result B Rule) → ((a : A) → q ≡ Ok a → IfOk (f a) P) → IfOk (q >>= f) P
then_ok P (Ok a) f h = h a refl
then_ok P (Err e) f h = tt

pub number_small : (low high : ℕ) (ws : Rest) → IfOk (number_at low high ws) (λ x. size x.1 ≤ size ws)
number_small low high ws =
    let P : ℕ × Rest → Type 0 = λ x. size x.1 ≤ size ws in
    then_ok P (word_at ws) (λ w. number_in low high w.0 >>= λ n. Ok (n, w.1)) (λ w is.
    then_ok P (number_in low high w.0) (λ n. Ok (n, w.1)) (λ n _. IfOk-at_ok (λ (x : List ℕ × Rest). size x.1 ≤ size ws) is (word_small ws)))

pub moment_small : (ws : Rest) → IfOk (moment_at ws) (λ x. size x.1 ≤ size ws)
moment_small ws =
    let P : Millis × Rest → Type 0 = λ x. size x.1 ≤ size ws in
    then_ok P (number_at 0 2147483647 ws) (λ x. Ok (record { 0 = x.0 }, x.1)) (λ x is. IfOk-at_ok (λ (y : ℕ × Rest). size y.1 ≤ size ws) is (number_small 0 2147483647 ws))

blank_small : (t : Bool) (bytes bs : List ℕ) (most : ℕ) → length bytes ≤ most → IfOk {T = List ℕ × Rest} (cond t (Ok (bytes, Some bs)) (Err BadText)) (λ x. length x.0 ≤ most)
blank_small true bytes bs most h = h
blank_small false bytes bs most h = tt

behind_text_small : (bytes : List ℕ) (most : ℕ) (bs : List ℕ) → length bytes ≤ most → IfOk (behind_text bytes bs) (λ x. length x.0 ≤ most)
behind_text_small bytes most [] h = h
behind_text_small bytes most (b ∷ bs) h = blank_small (b == 32) bytes bs most h

read_text_small : (most : ℕ) (r : Read) → IsSmall most r → IfOk (read_text r) (λ x. length x.0 ≤ most)
read_text_small most None h = tt
read_text_small most (Some x) h = behind_text_small x.0 most x.1 h

pub text_small : (ws : Rest) → IfOk (text_at ws) (λ x. length x.0 ≤ size ws)
text_small None = tt
text_small (Some bs) = read_text_small (length bs) (quoted_at bs) (quoted_small bs)

-- ---- links

pub client_pushed : (xs : List ClientLine) (x : ClientLine) → client_bytes (xs ++ x ∷ []) ≡ client_bytes xs + length (planned x.plan.pieces)
client_pushed [] x = omega arith
client_pushed (y ∷ ys) x = omega (arith, client_pushed ys x)

pub plan_pushed : (xs : List Plan) (x : Plan) → plan_bytes (xs ++ x ∷ []) ≡ plan_bytes xs + length (planned x.pieces)
plan_pushed [] x = omega arith
plan_pushed (y ∷ ys) x = omega (arith, plan_pushed ys x)

pub piece_pushed : (ps : List Piece) (p : Piece) → length (planned (ps ++ p ∷ [])) ≡ length (planned ps) + length p.bytes
piece_pushed [] p = omega (arith, length-append p.bytes [])
piece_pushed (q ∷ ps) p =
    omega (arith, piece_pushed ps p, length-append q.bytes (planned (ps ++ p ∷ [])), length-append q.bytes (planned ps))

-- ---- lines

-- how many bytes the lines have
abbrev pub sizes : List (List ℕ) → ℕ
sizes [] = 0
sizes (l ∷ ls) = length l + sizes ls

first_sized : (b : ℕ) (ls : List (List ℕ)) → sizes (on_first b ls) ≤ suc (sizes ls)
first_sized b [] = omega arith
first_sized b (l ∷ ls) = omega arith

line_sized : (t : Bool) (b n : ℕ) (ls : List (List ℕ)) → sizes ls ≤ n → sizes (cond t ([] ∷ ls) (on_first b ls)) ≤ suc n
line_sized true b n ls h = omega arith
line_sized false b n ls h = omega (arith, first_sized b ls)

pub lines_sized : (text : List ℕ) → sizes (lines_of text) ≤ length text
unfolding lines_of
lines_sized [] = omega arith
lines_sized (b ∷ bs) = line_sized (b == 10) b (length bs) (lines_of bs) (lines_sized bs)
