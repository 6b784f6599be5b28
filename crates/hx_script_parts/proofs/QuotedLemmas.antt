-- Reading a byte text, one byte after the other; what is read is spelled so, and what is spelled so is read.
use Rattle.std.proofs.Common.{◌≡◌, ℕ, ◌+◌, ◌<◌, ◌≤◌, List, [], ◌∷◌, ◌++◌, length, drop, get_or, Some, None, refl, sym, ap, ◌∙◌, append_assoc}
use Rattle.std.proofs.lemmas.List.{drop_more, drop_all, append-nil}
use Rattle.hx_script_parts.specs.declared.quoted.ReadMode.{ReadMode}
use Rattle.hx_script_parts.specs.declared.quoted.ReadMode.TheVariants.{InText}
use Rattle.hx_script_parts.specs.declared.quoted.Step.{Step}
use Rattle.hx_script_parts.specs.declared.quoted.Step.TheVariants.{End, Bad, Byte, Mode}
use Rattle.hx_script_parts.specs.QuotedReading.{Read, step, with_front, after, read_from}

one_byte : (m : ReadMode) (text : List ℕ) (i : ℕ) (s : Step) → i < length text → step m (get_or text i 0) ≡ s
    → read_from m (drop i text) ≡ after s (λ n. read_from n (drop (i + 1) text)) (drop (i + 1) text)
unfolding read_from
one_byte m text i s lt is = rw (drop_more text i 0 lt) (ap (λ (t : Step). after t (λ n. read_from n (drop (i + 1) text)) (drop (i + 1) text)) is)

pub ended : (m : ReadMode) (text front : List ℕ) (i : ℕ) (total : Read) → i < length text → step m (get_or text i 0) ≡ End
    → with_front front (read_from m (drop i text)) ≡ total → Some (front, drop (i + 1) text) ≡ total
ended m text front i total lt is so_far =
    ap (λ (xs : List ℕ). Some (xs, drop (i + 1) text)) (sym (append-nil front)) ∙ sym (ap (with_front front) (one_byte m text i End lt is)) ∙ so_far

pub spoilt : (m : ReadMode) (text front : List ℕ) (i : ℕ) (total : Read) → i < length text → step m (get_or text i 0) ≡ Bad
    → with_front front (read_from m (drop i text)) ≡ total → None ≡ total
spoilt m text front i total lt is so_far = sym (ap (with_front front) (one_byte m text i Bad lt is)) ∙ so_far

regroup : (front : List ℕ) (c : ℕ) (r : Read) → with_front front (with_front (c ∷ []) r) ≡ with_front (front ++ c ∷ []) r
regroup front c None = refl
regroup front c (Some r) = ap (λ (xs : List ℕ). Some (xs, r.1)) (sym (append_assoc front (c ∷ []) r.0))

pub read_byte : (m : ReadMode) (text front : List ℕ) (i c : ℕ) (total : Read) → i < length text → step m (get_or text i 0) ≡ Byte c
    → with_front front (read_from m (drop i text)) ≡ total → with_front (front ++ c ∷ []) (read_from InText (drop (i + 1) text)) ≡ total
read_byte m text front i c total lt is so_far =
    sym (regroup front c (read_from InText (drop (i + 1) text))) ∙ sym (ap (with_front front) (one_byte m text i (Byte c) lt is)) ∙ so_far

pub changed_mode : (m n : ReadMode) (text front : List ℕ) (i : ℕ) (total : Read) → i < length text → step m (get_or text i 0) ≡ Mode n
    → with_front front (read_from m (drop i text)) ≡ total → with_front front (read_from n (drop (i + 1) text)) ≡ total
changed_mode m n text front i total lt is so_far = sym (ap (with_front front) (one_byte m text i (Mode n) lt is)) ∙ so_far

pub no_end : (m : ReadMode) (text front : List ℕ) (i : ℕ) (total : Read) → length text ≤ i → with_front front (read_from m (drop i text)) ≡ total → None ≡ total
unfolding read_from
no_end m text front i total past so_far = sym (ap (λ (xs : List ℕ). with_front front (read_from m xs)) (drop_all i text past)) ∙ so_far
