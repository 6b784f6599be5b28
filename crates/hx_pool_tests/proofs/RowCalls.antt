-- What a test keeps of a thread's seat and its row, from call to call.
use Rattle.std.proofs.Common.{◌≡◌, ℕ, Bool, List, [], ◌∷◌, ◌++◌, sym, ap, ◌∙◌, subst, Option, Some, length, slice_get}
use Rattle.std.specs.Prelude.{option_to_list}
use Rattle.std.proofs.lemmas.List.{append-nil}
use Rattle.hx_base.specs.declared.numbers.SessionNo.{SessionNo}
use Rattle.hx_base.specs.declared.numbers.PlaceNo.{PlaceNo}
use Rattle.hx_base.specs.declared.numbers.Face.{Face}
use Rattle.hx_base.specs.declared.numbers.ConnId.{ConnId}
use Rattle.hx_base.specs.declared.numbers.ThreadNo.{ThreadNo}
use Rattle.hx_base.specs.Shown.{Shown}
use Rattle.hx_pool.specs.declared.board.BoardTerms.{BoardTerms}
use Rattle.hx_pool.specs.declared.entries.Entry.TheVariants.{Free, Down, Open}
use Rattle.hx_pool.specs.declared.entries.Note.{Note}
use Rattle.hx_pool.specs.Table.{Vacant, Holds}
use Rattle.hx_pool.specs.History.{plain}
use Rattle.hx_pool.specs.Held.{Has}
use Rattle.hx_pool.specs.SeatView.{About, about_of}
use Rattle.hx_pool.specs.Taking.{taken}
use Rattle.hx_pool.proofs.Calls.{has_opened}
use Rattle.atomic_table.specs.Seated.{TableId}
use Rattle.hx_places.specs.declared.view.View.{View}
use Rattle.hx_places.specs.Turns.{first_turn, turn_from}
use Rattle.hx_places.specs.Seats.{PlaceView, about, turn, Notes, TakesAt, Told, first_seat}
use Rattle.hx_rows.specs.declared.stays.Stay.{Stay}
use Rattle.hx_rows.specs.Stays.{Follows}
use Rattle.hx_rows.specs.Row.{RowView, IsRowOf}
use Rattle.hx_rows.specs.Steps.{Steps, IsAtRest}
use Rattle.hx_rows.proofs.Resting.{NoParks}
use Rattle.hx_rows.proofs.Stepping.{notes_steps, note_steps, steps_both, takes_steps, turn_steps}
use Rattle.hx_rows.proofs.Taking.{row_then}
use Rattle.hx_pool_tests.specs.Owners.{IsOwner}
use Rattle.hx_pool_tests.proofs.ThreeSeats.{last_is, front_is}

pub about_steps : (a b : PlaceView) (added : List Note) → Steps a b added → about b ≡ about a
about_steps a b added s = λ i. about_of (s.terms i) (s.thread i) (s.board i)

-- steps that park nothing and leave nothing under way
pub owner_steps : (s0 s1 : PlaceView) (r : RowView) (added : List Note) → IsOwner s0 r → Steps s0 s1 added → NoParks added → turn_from first_turn added ≡ first_turn → IsOwner s1 r
owner_steps s0 s1 r added o S none calm = record {
  rest = record { turn_is = turn_steps s0 s1 added first_turn S o.rest.turn_is ∙ calm; idle = S.hand ∙ o.rest.idle };
  row = row_then s0 s1 added r.stays S none o.row;
  server = ap (λ (b : BoardTerms). b.server) S.terms ∙ o.server;
}

pub owner_note : (s0 s1 : PlaceView) (r : RowView) (e : Note) → IsOwner s0 r → Notes s0 s1 e → NoParks (e ∷ []) → turn_from first_turn (e ∷ []) ≡ first_turn → IsOwner s1 r
owner_note s0 s1 r e o n none calm = owner_steps s0 s1 r (e ∷ []) o (notes_steps s0 s1 e n) none calm

pub about_note : (s0 s1 : PlaceView) (e : Note) → Notes s0 s1 e → about s1 ≡ about s0
about_note s0 s1 e n = about_steps s0 s1 (e ∷ []) (notes_steps s0 s1 e n)

-- a call that leaves the seat at rest and the row its own
pub owner_about : (s0 s1 : PlaceView) (r : RowView) → IsAtRest s1 → IsRowOf r.stays s1 → about s1 ≡ about s0 → s0.view.terms.server ≡ record { 0 = 0 } → IsOwner s1 r
owner_about s0 s1 r rest row same ours = record { rest = rest; row = row; server = ap (λ (a : About). a.server) same ∙ ours }

-- the session has what it opened
pub note_has : (s0 s1 : PlaceView) (t : ThreadNo) (n : SessionNo) (id : ConnId) → Notes s0 s1 (plain (Open t n id)) → Has s1.view.mine n id.0 0
note_has s0 s1 t n id m = subst (λ (l : List Note). Has l n id.0 0) (sym (notes_steps s0 s1 (plain (Open t n id)) m).mine) (has_opened s0.view.mine t n id)

-- a take at a place, and the count down
pub took_steps : (s0 s1 s2 : PlaceView) (n : SessionNo) (first : Bool) (place : PlaceNo) (f : Face) (v : Shown) (count : ℕ) → TakesAt s0 s1 n first place f v
    → Notes s1 s2 (plain (Down s1.view.thread count)) → Steps s0 s2 (taken s0.view.thread n first place f ∷ plain (Free s0.view.thread place) ∷ plain (Down s0.view.thread count) ∷ [])
took_steps s0 s1 s2 n first place f v count t d =
    let added : List Note = taken s0.view.thread n first place f ∷ plain (Free s0.view.thread place) ∷ [] in
    let S = takes_steps s0 s1 n first place f v t in
    steps_both s0 s1 s2 added (plain (Down s0.view.thread count) ∷ []) S (note_steps s0 s1 s2 added (λ u. plain (Down u count)) S d)

-- a seat that was told made no entry
pub told_steps : (first old new : PlaceView) → Told first old new → Steps old new []
told_steps first old new t =
    let h = t.hears in record {
      board = t.board;
      terms = ap (λ (v : View). v.terms) h.view;
      thread = ap (λ (v : View). v.thread) h.view;
      hand = ap (λ (v : View). v.hand) h.view;
      mine = ap (λ (v : View). v.mine) h.view ∙ sym (append-nil old.view.mine);
      between = h.between;
      seen = ap (λ (v : View). v.seen) h.view;
      was = t.was;
      one = t.one;
    }

vacant_holds : (f : Face) → Vacant ≡ Holds f → ⊥
vacant_holds f e = cc

-- a seat that has made and seen nothing, and a new row
pub owner_first : (b : BoardTerms) (t : ThreadNo) (board : TableId) (s : PlaceView) (r : RowView) → s ≡ first_seat b t board → b.server ≡ record { 0 = 0 } → r.stays ≡ [] → IsOwner s r
owner_first b t board s r is ours none = record {
  rest = record { turn_is = ap turn is; idle = ap (λ (x : PlaceView). x.view.hand) is };
  row = subst (λ (z : PlaceView × List Stay). Follows z.1 z.0.view.thread.0 z.0.view.seen) (λ i. (sym is i, sym none i)) (record { listed = λ x h. absurd (vacant_holds x.face h.1); order = tt });
  server = ap (λ (x : PlaceView). x.view.terms.server) is ∙ ours;
}

-- the two elements that were popped of a list of two
pub two_of : {A : Type 0} (xs ys zs : List A) (oa ob : Option A) (a b : A) → xs ≡ ys ++ option_to_list ob → ob ≡ Some b → ys ≡ zs ++ option_to_list oa → oa ≡ Some a → length xs ≡ 2
    → (slice_get xs 0 ≡ Some a) × (slice_get xs 1 ≡ Some b)
two_of xs ys zs oa ob a b e f e' f' long =
    let one : xs ≡ ys ++ b ∷ [] = e ∙ ap (λ o. ys ++ option_to_list o) f in
    let two : ys ≡ zs ++ a ∷ [] = e' ∙ ap (λ o. zs ++ option_to_list o) f' in
    let last = last_is xs ys b 1 one long in
    let first = last_is ys zs a 0 two last.1 in
    (ap (λ l. slice_get l 0) one ∙ front_is ys (b ∷ []) 0 a first.0, last.0)
