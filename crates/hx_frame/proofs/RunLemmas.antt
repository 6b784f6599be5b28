-- Reading in a loop: data by its count, other bytes one at a time.
use Rattle.std.proofs.Common.{◌≡◌, ◌≢◌, ℕ, zero, suc, ◌+◌, ◌*◌, ◌-◌, ◌^◌, ◌<◌, ◌≤◌, Bool, true, false, cond, List, [], ◌∷◌, length, drop, get_or, IsTrue, refl, sym, ap, ◌∙◌, arith}
use Rattle.std.specs.Prelude.{◌==◌, nat_lt, nat_le}
use Rattle.std.specs.Char.{is_ascii_hexdigit, digit_value}
use Rattle.std.proofs.Math.Nat.{pow-suc}
use Rattle.std.proofs.lemmas.Bool.{and_from, lt-ltb, le-leb, eqb-false}
use Rattle.std.proofs.lemmas.Bool.Decides.{nat_tests}
use Rattle.std.proofs.lemmas.List.{drop_all, drop-drop}
use Rattle.hx_frame.specs.declared.state.ChunkState.{ChunkState}
use Rattle.hx_frame.specs.declared.state.ChunkState.TheVariants.{Start, Size, Extension, SizeEnd, Data, DataEnd, TrailerStart, Trailer, TrailerEnd, LastEnd, Done, Bad}
use Rattle.hx_frame.specs.declared.state.ChunksRead.{ChunksRead}
use Rattle.hx_frame.specs.Chunks.{is_extension_front, after_digits, in_size, expect, step, is_small, is_over, is_bad, chunks_read, read_on, read_chunks, used_before}
use Rattle.hx_frame.proofs.SmallLemmas.{few_digits}

by_test : {X : Type 0} (P : X → Type 0) (t : Bool) (x y : X) → (t ≡ true → P x) → (t ≡ false → P y) → P (cond t x y)
by_test P true x y yes' no' = yes' refl
by_test P false x y yes' no' = no' refl

digit_small : (b : ℕ) → is_ascii_hexdigit b ≡ true → digit_value b < 16
digit_small b hex = grind (arith, nat_tests)

small_more : (size room b : ℕ) → room ≢ 0 → is_ascii_hexdigit b ≡ true → IsTrue (is_small (Size size room)) → IsTrue (is_small (Size (size * 16 + digit_value b) (room - 1)))
small_more size room b some hex small =
    let f = few_digits size room small in
    let low : digit_value b < 16 = digit_small b hex in
    let longer : 16 - (room - 1) ≡ suc (16 - room) = omega (arith, f.0) in
    let power : 16 ^ (16 - (room - 1)) ≡ 16 ^ (16 - room) * 16 = ap (λ (n : ℕ). 16 ^ n) longer ∙ pow-suc 16 (16 - room) in
    and_from (nat_le (room - 1) 15) (nat_lt (size * 16 + digit_value b) (16 ^ (16 - (room - 1))))
    (le-leb (room - 1) 15 (omega (arith, f.0))) (lt-ltb (size * 16 + digit_value b) (16 ^ (16 - (room - 1))) (omega (arith, f.1, low, power)))

-- a size that fits does so with a further digit
pub small_size : (size room b : ℕ) → IsTrue (is_small (Size size room)) → IsTrue (is_small (in_size size room b))
small_size size room b small =
    let Fits : ChunkState → Type 0 = λ s. IsTrue (is_small s) in
    by_test Fits (is_ascii_hexdigit b) (cond (room == 0) Bad (Size (size * 16 + digit_value b) (room - 1))) (after_digits size room b)
    (λ hex. by_test Fits (room == 0) Bad (Size (size * 16 + digit_value b) (room - 1)) (λ none. refl) (λ some. small_more size room b (eqb-false room 0 some) hex small))
    (λ other. by_test Fits (b == 13) (SizeEnd size) (cond (is_extension_front b) (Extension size (4077 + room)) Bad) (λ e. refl)
    (λ e. by_test Fits (is_extension_front b) (Extension size (4077 + room)) Bad (λ f. refl) (λ f. refl)))

pub is_bad_only : (s : ChunkState) → is_bad s ≡ true → s ≡ Bad
is_bad_only Start is = cc
is_bad_only (Size size room) is = cc
is_bad_only (Extension size room) is = cc
is_bad_only (SizeEnd size) is = cc
is_bad_only (Data left) is = cc
is_bad_only DataEnd is = cc
is_bad_only (TrailerStart room) is = cc
is_bad_only (Trailer room) is = cc
is_bad_only (TrailerEnd room) is = cc
is_bad_only LastEnd is = cc
is_bad_only Done is = cc
is_bad_only Bad is = refl

-- nothing is read where the body is over
pub read_over : (s : ChunkState) (xs : List ℕ) → is_over s ≡ true → read_chunks s xs ≡ chunks_read 0 s
unfolding read_chunks
read_over s [] over = refl
read_over s (b ∷ bs) over = rw over refl

pub read_none : (s : ChunkState) → read_chunks s [] ≡ chunks_read 0 s
unfolding read_chunks
read_none s = refl

same_read : (u v : ℕ) (s : ChunkState) → u ≡ v → chunks_read u s ≡ chunks_read v s
same_read u v s is = ap (λ (n : ℕ). chunks_read n s) is

-- a good byte is used
pub read_byte : (s next : ChunkState) (b : ℕ) (bs : List ℕ) → is_over s ≡ false → step s b ≡ next → is_bad next ≡ false
    → read_chunks s (b ∷ bs) ≡ used_before 1 (read_chunks next bs)
unfolding read_chunks
read_byte s next b bs on_it is good =
    let r = read_chunks next bs in
    ap (λ (t : Bool). read_on t (is_bad (step s b)) s (read_chunks (step s b) bs)) on_it
    ∙ ap (λ (n : ChunkState). read_on false (is_bad n) s (read_chunks n bs)) is
    ∙ ap (λ (t : Bool). read_on false t s r) good
    ∙ same_read (r.used + 1) (1 + r.used) r.state (omega arith)

-- and a bad one is not
pub read_bad : (s next : ChunkState) (b : ℕ) (bs : List ℕ) → is_over s ≡ false → step s b ≡ next → is_bad next ≡ true
    → read_chunks s (b ∷ bs) ≡ used_before 0 (read_chunks next (b ∷ bs))
unfolding read_chunks
read_bad s next b bs on_it is bad =
    let over : next ≡ Bad = is_bad_only next bad in
    ap (λ (t : Bool). read_on t (is_bad (step s b)) s (read_chunks (step s b) bs)) on_it
    ∙ ap (λ (n : ChunkState). read_on false (is_bad n) s (read_chunks n bs)) is
    ∙ ap (λ (t : Bool). read_on false t s (read_chunks next bs)) bad
    ∙ sym (ap (λ (n : ChunkState). used_before 0 (read_chunks n (b ∷ bs))) over)

-- data is passed over by its count
pub read_data : (n left : ℕ) (xs : List ℕ) → n ≤ left → n ≤ length xs
    → read_chunks (Data left) xs ≡ used_before n (read_chunks (Data (left - n)) (drop n xs))
read_data zero left xs below inside =
    let r = read_chunks (Data left) xs in
    let same : left ≡ left - 0 = omega arith in
    same_read r.used (0 + r.used) r.state (omega arith)
    ∙ ap (λ (k : ℕ). used_before 0 (read_chunks (Data k) xs)) same
read_data (suc n) left [] below inside = absurd (omega (arith, inside))
read_data (suc n) left (b ∷ bs) below inside =
    let some : 0 < left = omega (arith, below) in
    let next : step (Data left) b ≡ Data (left - 1) = ap (λ (t : Bool). cond t (Data (left - 1)) (expect b 13 DataEnd)) (lt-ltb 0 left some) in
    let later = read_data n (left - 1) bs (omega (arith, below)) (omega (arith, inside)) in
    let q = read_chunks (Data (left - 1 - n)) (drop n bs) in
    let same : left - 1 - n ≡ left - suc n = omega arith in
    read_byte (Data left) (Data (left - 1)) b bs refl next refl
    ∙ ap (used_before 1) later
    ∙ same_read (1 + (n + q.used)) (suc n + q.used) q.state (omega arith)
    ∙ ap (λ (k : ℕ). used_before (suc n) (read_chunks (Data k) (drop n bs))) same

-- reading goes on from where it stands
pub read_later : (a n : ℕ) (r : ChunksRead) → used_before a (used_before n r) ≡ used_before (a + n) r
read_later a n r = same_read (a + (n + r.used)) (a + n + r.used) r.state (omega arith)

pub first_good : (s next : ChunkState) (xs : List ℕ) → 0 < length xs → is_over s ≡ false → next ≡ step s (get_or xs 0 0) → is_bad next ≡ false
    → read_chunks s xs ≡ used_before 1 (read_chunks next (drop 1 xs))
first_good s next [] some on_it is good = absurd (omega (arith, some))
first_good s next (b ∷ bs) some on_it is good = read_byte s next b bs on_it (sym is) good

pub first_bad : (s next : ChunkState) (xs : List ℕ) → 0 < length xs → is_over s ≡ false → next ≡ step s (get_or xs 0 0) → is_bad next ≡ true
    → read_chunks s xs ≡ used_before 0 (read_chunks next xs)
first_bad s next [] some on_it is bad = absurd (omega (arith, some))
first_bad s next (b ∷ bs) some on_it is bad = read_bad s next b bs on_it (sym is) bad

-- where reading stops
pub stops_over : (used : ℕ) (s : ChunkState) (xs : List ℕ) → is_over s ≡ true → used_before used (read_chunks s xs) ≡ chunks_read used s
stops_over used s xs over = ap (used_before used) (read_over s xs over) ∙ same_read (used + 0) used s (omega arith)

pub stops_whole : (used : ℕ) (s : ChunkState) (xs : List ℕ) → length xs ≤ used → used_before used (read_chunks s (drop used xs)) ≡ chunks_read used s
stops_whole used s xs whole =
    ap (λ (ys : List ℕ). used_before used (read_chunks s ys)) (drop_all used xs whole)
    ∙ ap (used_before used) (read_none s) ∙ same_read (used + 0) used s (omega arith)

-- the loop's step
pub reads_next : (whole : ChunksRead) (used : ℕ) (s : ChunkState) (xs : List ℕ) (n : ℕ) (t : ChunkState)
    → whole ≡ used_before used (read_chunks s (drop used xs))
    → read_chunks s (drop used xs) ≡ used_before n (read_chunks t (drop n (drop used xs)))
    → whole ≡ used_before (used + n) (read_chunks t (drop (used + n) xs))
reads_next whole used s xs n t before next =
    before ∙ ap (used_before used) next ∙ read_later used n (read_chunks t (drop n (drop used xs)))
    ∙ ap (λ (ys : List ℕ). used_before (used + n) (read_chunks t ys)) (drop-drop n used xs)
