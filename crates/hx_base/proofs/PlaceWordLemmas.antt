-- Two states of a place have two words.
use Rattle.std.proofs.Common.{◌≡◌, ℕ, ◌<◌, ◌*◌, ◌+◌, refl, ap, ◌∙◌, arith}
use Rattle.hx_base.specs.declared.numbers.ConnId.{ConnId}
use Rattle.hx_base.specs.declared.numbers.Face.{Face}
use Rattle.hx_base.specs.declared.numbers.ThreadNo.{ThreadNo}
use Rattle.hx_base.specs.declared.place_word.PlaceState.{PlaceState}
use Rattle.hx_base.specs.declared.place_word.PlaceState.TheVariants.{Vacant, Filling, Resting, Taken}
use Rattle.hx_base.specs.PlaceWords.{IsPlaceState, place_word}

same_id : (i j u v : ℕ) → u < 65536 → v < 65536 → i * 65536 + u ≡ j * 65536 + v → i ≡ j
same_id i j u v a b e = omega (arith, a, b, e)

-- a connection, a face and a thread by their numbers
abbrev conn_of : ℕ → ConnId
conn_of n = record { 0 = n }

abbrev face_of : ConnId → ℕ → Face
face_of id uses = record { id = id; uses = uses }

abbrev thread_of : ℕ → ThreadNo
thread_of n = record { 0 = n }

-- the word tells the state
pub one_state : (s t : PlaceState) → IsPlaceState s → IsPlaceState t → place_word s ≡ place_word t → s ≡ t
one_state Vacant Vacant p q e = refl
one_state Vacant Filling p q e = absurd (omega (arith, e))
one_state Vacant (Resting g) p q e = absurd (omega (arith, e))
one_state Vacant (Taken u) p q e = absurd (omega (arith, e))
one_state Filling Vacant p q e = absurd (omega (arith, e))
one_state Filling Filling p q e = refl
one_state Filling (Resting g) p q e = absurd (omega (arith, e))
one_state Filling (Taken u) p q e = absurd (omega (arith, e))
one_state (Resting f) Vacant p q e = absurd (omega (arith, e))
one_state (Resting f) Filling p q e = absurd (omega (arith, e))
one_state (Resting f) (Resting g) p q e =
    let id : f.id.0 ≡ g.id.0 = same_id f.id.0 g.id.0 f.uses g.uses p.3 q.3 (omega (arith, e)) in
    let uses : f.uses ≡ g.uses = omega (arith, e, id) in
    ap (λ (x : Face). Resting x)
    (ap (λ (n : ℕ). face_of (conn_of n) f.uses) id ∙ ap (λ (n : ℕ). face_of g.id n) uses)
one_state (Resting f) (Taken u) p q e = absurd (omega (arith, e, p.1, p.3))
one_state (Taken t) Vacant p q e = absurd (omega (arith, e))
one_state (Taken t) Filling p q e = absurd (omega (arith, e))
one_state (Taken t) (Resting g) p q e = absurd (omega (arith, e, q.1, q.3))
one_state (Taken t) (Taken u) p q e =
    let n : t.0 ≡ u.0 = omega (arith, e) in
    ap (λ (k : ℕ). Taken (thread_of k)) n
