-- What a place's word shows, as a function of the word. The entries of the steps at it are picked by it.
use Rattle.std.proofs.Common.{◌≡◌, ◌≢◌, ℕ, ◌-◌, ◌/◌, ◌%◌, ◌≤◌, ltb, eqb, cond, true, false, refl, ap}
use Rattle.std.proofs.Common.{◌∙◌, arith, lt-ltb, le-ltb, eq-eqb, ne_eqb}
use Rattle.hx_base.specs.declared.numbers.ThreadNo.{ThreadNo}
use Rattle.hx_base.specs.declared.numbers.PlaceNo.{PlaceNo}
use Rattle.hx_base.specs.declared.numbers.Face.{Face}
use Rattle.hx_base.specs.declared.place_word.PlaceState.{PlaceState}
use Rattle.hx_base.specs.declared.place_word.PlaceState.TheVariants as state
use Rattle.hx_base.specs.PlaceWords.{IsFace, IsPlaceState, place_word, resting_word}
use Rattle.hx_base.proofs.PlaceWordLemmas.{one_state}
use Rattle.hx_pool.specs.declared.entries.Entry.TheVariants.{Look}
use Rattle.hx_pool.specs.declared.entries.Found.{Found}
use Rattle.hx_pool.specs.declared.entries.Found.TheVariants.{Empty, Resting, Leaving}
use Rattle.hx_pool.specs.declared.entries.Note.{Note}
use Rattle.hx_pool.specs.Table.{found_of}
use Rattle.hx_pool.specs.History.{plain}
use Rattle.hx_places.specs.Words.{spot_of}

-- the face that a word of a resting connection has
abbrev pub face_in : ℕ → Face
face_in word =
    record { id = record { 0 = (word - 9223372036854775808) / 65536 }; uses = (word - 9223372036854775808) % 65536 }

-- what a word shows
abbrev pub found_in : ℕ → Found
found_in word =
    cond (ltb word 9223372036854775808) Empty (cond (ltb word 13835058055282163712) (Resting (face_in word)) Leaving)

found_resting : (word : ℕ) (f : Face) → IsFace f → word ≡ resting_word f.id.0 f.uses → found_in word ≡ Resting f
found_resting word f fine is =
    let high : ltb word 9223372036854775808 ≡ false = le-ltb word _ (omega arith) in
    let low : ltb word 13835058055282163712 ≡ true = lt-ltb word _ (omega arith) in
    let x : (word - 9223372036854775808) / 65536 ≡ f.id.0 = omega arith in
    let y : (word - 9223372036854775808) % 65536 ≡ f.uses = omega arith in
    rw (high, low) (λ j. Resting (record { id = record { 0 = x j }; uses = y j }))

found_leaving : (word : ℕ) → 13835058055282163712 ≤ word → found_in word ≡ Leaving
found_leaving word is =
    let high : ltb word 9223372036854775808 ≡ false = le-ltb word _ (omega arith) in
    let higher : ltb word 13835058055282163712 ≡ false = le-ltb word _ is in
    rw (high, higher) refl

-- the word of a state shows what stands there
pub found_word : (c : PlaceState) → IsPlaceState c → found_in (place_word c) ≡ found_of (spot_of c)
found_word state.Vacant fine = refl
found_word state.Filling fine = refl
found_word (state.Resting f) fine = found_resting (resting_word f.id.0 f.uses) f fine refl
found_word (state.Taken t) fine = found_leaving (place_word (state.Taken t)) (omega arith)

-- a look's entry, by the word
abbrev pub look_note : ThreadNo → PlaceNo → ℕ → Note
look_note t place word = plain (Look t place (found_in word))

pub look_said : (t : ThreadNo) (place : PlaceNo) (c : PlaceState) → IsPlaceState c
    → look_note t place (place_word c) ≡ plain (Look t place (found_of (spot_of c)))
look_said t place c fine = ap (λ (f : Found). plain (Look t place f)) (found_word c fine)

-- a take's entry, by the word: this one where the word is the face's, else a look's
abbrev pub take_note : Note → ThreadNo → PlaceNo → Face → ℕ → Note
take_note e t place f word = cond (eqb word (resting_word f.id.0 f.uses)) e (look_note t place word)

pub take_won : (e : Note) (t : ThreadNo) (place : PlaceNo) (f : Face)
    → take_note e t place f (place_word (state.Resting f)) ≡ e
take_won e t place f =
    ap (λ c. cond c e (look_note t place (resting_word f.id.0 f.uses)))
    (eq-eqb (resting_word f.id.0 f.uses) (resting_word f.id.0 f.uses) refl)

pub take_lost : (e : Note) (t : ThreadNo) (place : PlaceNo) (f : Face) → IsFace f → (c : PlaceState) → IsPlaceState c
    → c ≢ state.Resting f
    → take_note e t place f (place_word c) ≡ plain (Look t place (found_of (spot_of c)))
take_lost e t place f face c fine other =
    ap (λ b. cond b e (look_note t place (place_word c)))
    (ne_eqb (place_word c) (resting_word f.id.0 f.uses)
    (λ same. other (one_state c (state.Resting f) fine face same)))
    ∙ look_said t place c fine
