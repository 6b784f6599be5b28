-- The bytes of a pipe in its memory.
use Rattle.std.proofs.Common.{◌≡◌, ℕ, ◌+◌, ◌-◌, ◌≤◌, zero, suc, List, [], ◌∷◌, ◌++◌, length, take, drop, ◌∙◌, ap, sym, refl, arith, append_assoc, length-append}
use Rattle.std.proofs.lemmas.List.{take-append-le, take_all, drop-take, drop-drop, drop-append-le}
use Rattle.std.proofs.lemmas.Grind.{common_steps}
use Rattle.std.proofs.Math.Seq.{take-append-add}
use Rattle.std.specs.List.{refill, length_refill}
use Rattle.hx_link.specs.Pipes.{pipe, held_in}

pub pipe_is : (xs ys zs : List ℕ) (n capacity : ℕ) → xs ≡ ys → ys ≡ zs → n ≡ capacity → pipe xs n ≡ pipe zs capacity
pipe_is xs ys zs n capacity e f g = let whole : xs ≡ zs = e ∙ f in λ i. pipe (whole i) (g i)

pub take-take : (n m : ℕ) (xs : List ℕ) → n ≤ m → take n (take m xs) ≡ take n xs
take-take zero m xs le = refl
take-take (suc n) zero xs le = absurd (omega (arith, le))
take-take (suc n) (suc m) [] le = refl
take-take (suc n) (suc m) (x ∷ xs) le = ap (λ (ys : List ℕ). x ∷ ys) (take-take n m xs (omega (arith, le)))

-- of the bytes behind, those past n are never seen
pub refill_short : (n : ℕ) (ws xs : List ℕ) → take n (ws ++ drop (length ws) (take n xs)) ≡ take n (ws ++ drop (length ws) xs)
refill_short zero ws xs = refl
refill_short (suc n) [] xs = take-take (suc n) (suc n) xs (omega arith)
refill_short (suc n) (w ∷ ws) [] = refl
refill_short (suc n) (w ∷ ws) (x ∷ xs) = ap (λ (ys : List ℕ). w ∷ ys) (refill_short n ws xs)

-- a part of a list that goes on
pub held_seam : (start len n : ℕ) (xs ys : List ℕ) → length xs ≡ start + len → n ≤ length ys
    → take (len + n) (drop start (xs ++ ys)) ≡ drop start xs ++ take n ys
held_seam start len n xs ys size le =
    let front_size : length (drop start xs) ≡ len = grind (arith, common_steps) in
    ap (λ (zs : List ℕ). take (len + n) zs) (drop-append-le start xs ys (omega (arith, size)))
    ∙ ap (λ (k : ℕ). take (k + n) (drop start xs ++ ys)) (sym front_size)
    ∙ take-append-add (drop start xs) ys n

-- the memory after its bytes from i on were lent and left as ws
abbrev pub written : ℕ → ℕ → List ℕ → List ℕ → List ℕ
written size i items ws =
    let front : List ℕ = take i items ++ (ws ++ drop (length ws) (drop i items)) in
    take size (front ++ drop (length front) items)

pub length-written : (size i : ℕ) (items ws : List ℕ) → size ≡ length items → length (written size i items ws) ≡ size
length-written size i items ws e = sym (length_refill size items (take i items ++ (ws ++ drop (length ws) (drop i items))) e)

-- the memory's end is behind them
pub held_within : (start len size : ℕ) (xs : List ℕ) → start + len ≤ size → held_in start len (take size xs) ≡ held_in start len xs
held_within start len size xs le =
    let parts : size ≡ start + (size - start) = omega arith in
    ap (λ (k : ℕ). take len (drop start (take k xs))) parts
    ∙ ap (λ (ys : List ℕ). take len ys) (drop-take start (size - start) xs)
    ∙ take-take len (size - start) (drop start xs) (omega (arith, le))

pub length-held : (start len : ℕ) (items : List ℕ) → start + len ≤ length items → length (held_in start len items) ≡ len
length-held start len items le = grind (arith, common_steps)

-- the bytes behind the first n
pub rest_is : (n start len : ℕ) (items : List ℕ) → n ≤ len → held_in (start + n) (len - n) items ≡ drop n (held_in start len items)
rest_is n start len items le =
    let parts : len ≡ n + (len - n) = omega arith in
    ap (λ (ys : List ℕ). take (len - n) ys) (sym (drop-drop n start items))
    ∙ sym (ap (λ (k : ℕ). drop n (take k (drop start items))) parts ∙ drop-take n (len - n) (drop start items))

-- the bytes held and n more of it
pub grown_is : (start len n size : ℕ) (items ws room : List ℕ) → size ≡ length items → start + len + n ≤ size
    → room ≡ take n (drop (start + len) items)
    → held_in start (len + n) (written size (start + len) items ws) ≡ held_in start len items ++ refill (length room) room ws
grown_is start len n size items ws room e le r =
    let rest : List ℕ = drop (start + len) items in
    let front : List ℕ = take (start + len) items in
    let new : List ℕ = ws ++ drop (length ws) rest in
    let past : List ℕ = drop (length (front ++ new)) items in
    let front_size : length front ≡ start + len = grind (arith, common_steps) in
    let rest_size : length rest ≡ size - (start + len) = grind (arith, common_steps) in
    let enough : n ≤ length new = grind (arith, common_steps) in
    let enough' : n ≤ length (new ++ past) = omega (arith, length-append new past, enough) in
    let room_size : length room ≡ n = ap length r ∙ grind (arith, common_steps) in
    held_within start (len + n) size ((front ++ new) ++ past) (omega (arith, le))
    ∙ ap (λ (xs : List ℕ). held_in start (len + n) xs) (append_assoc front new past)
    ∙ held_seam start len n front (new ++ past) front_size enough'
    ∙ ap (λ (xs : List ℕ). drop start front ++ xs) (take-append-le n new past enough ∙ sym (refill_short n ws rest))
    ∙ ap (λ (xs : List ℕ). xs ++ take n (ws ++ drop (length ws) (take n rest))) (drop-take start len items)
    ∙ sym (ap (λ (k : ℕ). held_in start len items ++ take k (ws ++ drop (length ws) room)) room_size
    ∙ ap (λ (xs : List ℕ). held_in start len items ++ take n (ws ++ drop (length ws) xs)) r)

pub refill_all : (room ws : List ℕ) → length ws ≡ length room → refill (length room) room ws ≡ ws
refill_all room ws size =
    take-append-le (length room) ws (drop (length ws) room) (omega (arith, size)) ∙ take_all (length room) ws (omega (arith, size))

-- of the bytes that were lent and left as ws, the first stay
pub kept_is : (xs room ws : List ℕ) (n count : ℕ) → length room ≡ n → length ws ≡ length room → count ≤ n
    → let all = xs ++ refill (length room) room ws in take (length all - (n - count)) all ≡ xs ++ take count ws
kept_is xs room ws n count room_size size le =
    let parts : length (xs ++ ws) - (n - count) ≡ length xs + count = omega (arith, length-append xs ws, room_size, size, le) in
    ap (λ (ys : List ℕ). take (length (xs ++ ys) - (n - count)) (xs ++ ys)) (refill_all room ws size)
    ∙ ap (λ (k : ℕ). take k (xs ++ ws)) parts
    ∙ take-append-add xs ws count
