-- The counts of a line of totals and the rules of a server's line are read back.
use Rattle.std.proofs.Common.{◌≡◌, ℕ, ◌≤◌, List, [], ◌∷◌, ◌++◌, Option, None, Ok, refl, subst, ◌∙◌, append_assoc, arith}
use Rattle.std.specs.Prelude.{codes, decimal, ⊤}
use Rattle.std.proofs.lemmas.List.{append-nil}
use Rattle.hx_base.specs.declared.rules.Mode.{Mode}
use Rattle.hx_base.specs.declared.rules.PoolRules.{PoolRules}
use Rattle.hx_base.specs.declared.totals.Totals.{Totals}
use Rattle.hx_script.specs.LinkLines.{totals_text}
use Rattle.hx_script.specs.MarkLines.{mode_text, max_text}
use Rattle.hx_transcripts_parts.specs.Faults.{◌>>=◌}
use Rattle.hx_transcripts_parts.specs.Keywords.{mode_words}
use Rattle.hx_transcripts_parts.specs.Lexical.{Rest, rest_text, read_word, is_word, at_end}
use Rattle.hx_transcripts_parts.specs.MarkLaws.{FitsMax, FitsRules, rules_text}
use Rattle.hx_transcripts_parts.specs.Marks.{one_of, rules_at}
use Rattle.hx_transcripts_parts.specs.Numbers.{number_in, limit_in, most_32, most_64}
use Rattle.hx_transcripts_parts.specs.Pieces.{count_at}
use Rattle.hx_transcripts_parts.specs.ReadBack.{ReadsNext, ReadsLine}
use Rattle.hx_transcripts_parts.specs.RecordLaws.{FitsTotals}
use Rattle.hx_transcripts_parts.specs.Records.{totals_at}
use Rattle.hx_transcripts_parts.proofs.WordLemmas.{bind_is, word_reads, word_is}
use Rattle.hx_transcripts_parts.proofs.NumberLemmas.{limit_reads}
use Rattle.hx_transcripts_parts.proofs.TableLemmas.{modes_read}
use Rattle.hx_transcripts_parts.proofs.LineLemmas.{next_sound, last_sound, label_read}
use Rattle.hx_transcripts_parts.proofs.MarkLemmas.{next_number}

-- ---- rules

next_mode : ReadsNext (read_word (one_of mode_words)) mode_text (λ x. ⊤)
next_mode = word_reads (one_of mode_words) mode_text (λ x. ⊤) modes_read

next_max : ReadsNext (read_word limit_in) max_text FitsMax
next_max = word_reads limit_in max_text FitsMax limit_reads

next_32 : ReadsNext (read_word (number_in most_32)) decimal (λ n. n ≤ most_32)
next_32 = next_number most_32 (omega arith)

next_64 : ReadsNext (read_word (number_in most_64)) decimal (λ n. n ≤ most_64)
next_64 = next_number most_64 (omega arith)

four_words : (z a b c d : List ℕ) → z ++ (a ++ (z ++ (b ++ (z ++ (c ++ (z ++ (d ++ []))))))) ≡ z ++ a ++ z ++ b ++ z ++ c ++ z ++ d
four_words z a b c d = rw (append-nil d) (simp append_assoc)

abbrev rules_of : Mode → Option ℕ → ℕ → ℕ → PoolRules
rules_of mode max low delay = record { mode = mode; max = max; low = low; delay = record { 0 = delay } }

rules_sound : (ws : Rest) (r : PoolRules) → rules_at ws ≡ Ok r → FitsRules r × (rest_text ws ≡ rules_text r)
rules_sound ws r is =
    let m = next_sound (read_word (one_of mode_words)) mode_text (λ x. ⊤) next_mode ws _ r is in
    let x = next_sound (read_word limit_in) max_text FitsMax next_max m.rest _ r m.more in
    let l = next_sound (read_word (number_in most_32)) decimal (λ n. n ≤ most_32) next_32 x.rest _ r x.more in
    let d = next_sound (read_word (number_in most_64)) decimal (λ n. n ≤ most_64) next_64 l.rest _ r l.more in
    let e = last_sound d.rest (rules_of m.x x.x l.x d.x) r d.more in
    subst (λ (y : PoolRules). FitsRules y × (rest_text ws ≡ rules_text y)) e.1
    ((x.fits, l.fits, d.fits), rw (m.stands, x.stands, l.stands, d.stands, e.0) (four_words (codes " ") (mode_text m.x) (max_text x.x) (decimal l.x) (decimal d.x)))

rules_whole : (r : PoolRules) → FitsRules r → (ws : Rest) × (rest_text ws ≡ rules_text r) × (rules_at ws ≡ Ok r)
rules_whole r fits =
    let d = next_64.whole r.delay.0 None fits.2 in
    let l = next_32.whole r.low d.0 fits.1 in
    let x = next_max.whole r.max l.0 fits.0 in
    let m = next_mode.whole r.mode x.0 tt in (
      m.0,
      rw (m.1, x.1, l.1, d.1) (four_words (codes " ") (mode_text r.mode) (max_text r.max) (decimal r.low) (decimal r.delay.0)),
      bind_is (λ (u : Mode × Rest). read_word limit_in u.1 >>= λ v. read_word (number_in most_32) v.1 >>= λ w. read_word (number_in most_64) w.1 >>= λ y. at_end y.1 >>= λ e.
          Ok (rules_of u.0 v.0 w.0 y.0)) m.2
          ∙ bind_is (λ (v : Option ℕ × Rest). read_word (number_in most_32) v.1 >>= λ w. read_word (number_in most_64) w.1 >>= λ y. at_end y.1 >>= λ e. Ok (rules_of r.mode v.0 w.0 y.0)) x.2
          ∙ bind_is (λ (w : ℕ × Rest). read_word (number_in most_64) w.1 >>= λ y. at_end y.1 >>= λ e. Ok (rules_of r.mode r.max w.0 y.0)) l.2
          ∙ bind_is (λ (y : ℕ × Rest). at_end y.1 >>= λ e. Ok (rules_of r.mode r.max r.low y.0)) d.2,
    )

pub rules_read : ReadsLine rules_at rules_text FitsRules
rules_read = record { sound = rules_sound; whole = rules_whole }

-- ---- totals

abbrev counted : List ℕ → ℕ → List ℕ
counted label n = label ++ codes " " ++ decimal n

abbrev Counts : List ℕ → Type 0
Counts label = ReadsNext (count_at label) (counted label) (λ n. n ≤ most_64)

counts : (label : List ℕ) → ReadsNext (read_word (is_word label)) (λ (x : ⊤). label) (λ (x : ⊤). ⊤) → Counts label
counts label h = label_read label (read_word (is_word label)) (read_word (number_in most_64)) decimal (λ n. n ≤ most_64) h next_64

opens : Counts (codes "open")
opens = counts (codes "open") (word_reads (is_word (codes "open")) (λ (x : ⊤). codes "open") (λ (x : ⊤). ⊤) (word_is (codes "open") refl))

parks : Counts (codes "park")
parks = counts (codes "park") (word_reads (is_word (codes "park")) (λ (x : ⊤). codes "park") (λ (x : ⊤). ⊤) (word_is (codes "park") refl))

takes : Counts (codes "take")
takes = counts (codes "take") (word_reads (is_word (codes "take")) (λ (x : ⊤). codes "take") (λ (x : ⊤). ⊤) (word_is (codes "take") refl))

overs : Counts (codes "over")
overs = counts (codes "over") (word_reads (is_word (codes "over")) (λ (x : ⊤). codes "over") (λ (x : ⊤). ⊤) (word_is (codes "over") refl))

cares : Counts (codes "care")
cares = counts (codes "care") (word_reads (is_word (codes "care")) (λ (x : ⊤). codes "care") (λ (x : ⊤). ⊤) (word_is (codes "care") refl))

closeds : Counts (codes "close")
closeds = counts (codes "close") (word_reads (is_word (codes "close")) (λ (x : ⊤). codes "close") (λ (x : ⊤). ⊤) (word_is (codes "close") refl))

six_counts : (z a m b n c o d p e q f r t : List ℕ)
    → z ++ (a ++ z ++ m ++ (z ++ (b ++ z ++ n ++ (z ++ (c ++ z ++ o ++ (z ++ (d ++ z ++ p ++ (z ++ (e ++ z ++ q ++ (z ++ (f ++ z ++ r ++ []))))))))))) ++ t
    ≡ (z ++ a ++ z) ++ m ++ (z ++ b ++ z) ++ n ++ (z ++ c ++ z) ++ o ++ (z ++ d ++ z) ++ p ++ (z ++ e ++ z) ++ q ++ (z ++ f ++ z) ++ r ++ t
six_counts z a m b n c o d p e q f r t = rw (append-nil (f ++ z ++ r)) (simp append_assoc)

totals_is : (t : Totals)
    → 32 ∷ (counted (codes "open") t.opened ++ (32 ∷ (counted (codes "park") t.parked ++ (32 ∷ (counted (codes "take") t.taken ++ (32 ∷ (counted (codes "over") t.over
    ++ (32 ∷ (counted (codes "care") t.care ++ (32 ∷ (counted (codes "close") t.closed ++ []))))))))))) ++ codes "\n" ≡ totals_text t
unfolding totals_text
totals_is t = six_counts (codes " ") (codes "open") (decimal t.opened) (codes "park") (decimal t.parked) (codes "take") (decimal t.taken)
    (codes "over") (decimal t.over) (codes "care") (decimal t.care) (codes "close") (decimal t.closed) (codes "\n")

abbrev IsTotals : Rest → Totals → Type 0
IsTotals ws t = FitsTotals t × (rest_text ws ++ codes "\n" ≡ totals_text t)

pub totals_sound : (ws : Rest) (t : Totals) → totals_at ws ≡ Ok t → FitsTotals t × (rest_text ws ++ codes "\n" ≡ totals_text t)
unfolding totals_at
totals_sound ws t is =
    let fits = λ (n : ℕ). n ≤ most_64 in
    let a = next_sound (count_at (codes "open")) (counted (codes "open")) fits opens ws _ t is in
    let b = next_sound (count_at (codes "park")) (counted (codes "park")) fits parks a.rest _ t a.more in
    let c = next_sound (count_at (codes "take")) (counted (codes "take")) fits takes b.rest _ t b.more in
    let d = next_sound (count_at (codes "over")) (counted (codes "over")) fits overs c.rest _ t c.more in
    let e = next_sound (count_at (codes "care")) (counted (codes "care")) fits cares d.rest _ t d.more in
    let f = next_sound (count_at (codes "close")) (counted (codes "close")) fits closeds e.rest _ t e.more in
    let x : Totals = record { opened = a.x; parked = b.x; taken = c.x; over = d.x; care = e.x; closed = f.x } in
    let end = last_sound f.rest x t f.more in
    let fit : FitsTotals x = record { opened = a.fits; parked = b.fits; taken = c.fits; over = d.fits; care = e.fits; closed = f.fits } in
    subst (IsTotals ws) end.1 (fit, rw (a.stands, b.stands, c.stands, d.stands, e.stands, f.stands, end.0) (totals_is x))

pub totals_whole : (t : Totals) → FitsTotals t → (ws : Rest) × (rest_text ws ++ codes "\n" ≡ totals_text t) × (totals_at ws ≡ Ok t)
unfolding totals_at
totals_whole t fits =
    let f = closeds.whole t.closed None fits.closed in
    let e = cares.whole t.care f.0 fits.care in
    let d = overs.whole t.over e.0 fits.over in
    let c = takes.whole t.taken d.0 fits.taken in
    let b = parks.whole t.parked c.0 fits.parked in
    let a = opens.whole t.opened b.0 fits.opened in (
      a.0,
      rw (a.1, b.1, c.1, d.1, e.1, f.1) (totals_is t),
      bind_is (λ (u : ℕ × Rest). count_at (codes "park") u.1 >>= λ v. count_at (codes "take") v.1 >>= λ w. count_at (codes "over") w.1 >>= λ x. count_at (codes "care") x.1
          >>= λ y. count_at (codes "close") y.1 >>= λ z. at_end z.1 >>= λ k. Ok (record { opened = u.0; parked = v.0; taken = w.0; over = x.0; care = y.0; closed = z.0 })) a.2
          ∙ bind_is (λ (v : ℕ × Rest). count_at (codes "take") v.1 >>= λ w. count_at (codes "over") w.1 >>= λ x. count_at (codes "care") x.1
          >>= λ y. count_at (codes "close") y.1 >>= λ z. at_end z.1 >>= λ k. Ok (record { opened = t.opened; parked = v.0; taken = w.0; over = x.0; care = y.0; closed = z.0 })) b.2
          ∙ bind_is (λ (w : ℕ × Rest). count_at (codes "over") w.1 >>= λ x. count_at (codes "care") x.1
          >>= λ y. count_at (codes "close") y.1 >>= λ z. at_end z.1 >>= λ k. Ok (record { opened = t.opened; parked = t.parked; taken = w.0; over = x.0; care = y.0; closed = z.0 })) c.2
          ∙ bind_is (λ (x : ℕ × Rest). count_at (codes "care") x.1
          >>= λ y. count_at (codes "close") y.1 >>= λ z. at_end z.1 >>= λ k. Ok (record { opened = t.opened; parked = t.parked; taken = t.taken; over = x.0; care = y.0; closed = z.0 })) d.2
          ∙ bind_is (λ (y : ℕ × Rest). count_at (codes "close") y.1 >>= λ z. at_end z.1 >>= λ k. Ok (record { opened = t.opened; parked = t.parked; taken = t.taken; over = t.over; care = y.0; closed = z.0 })) e.2
          ∙ bind_is (λ (z : ℕ × Rest). at_end z.1 >>= λ k. Ok (record { opened = t.opened; parked = t.parked; taken = t.taken; over = t.over; care = t.care; closed = z.0 })) f.2,
    )
