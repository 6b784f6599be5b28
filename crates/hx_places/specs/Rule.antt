-- Private: the rule of a board, which holds between any two steps. There is one history, which the rules allow; the
-- words show the table after it, and each seat has seen a beginning of it.
use Rattle.std.specs.Prelude.{◌≡◌, ◌≢◌, ℕ, ◌+◌, ◌*◌, ◌/◌, ◌<◌, ◌≤◌, List, [], ◌∷◌, ◌++◌, length, slice_index}
use Rattle.std.specs.Prelude.{Option, Some, None}
use mathlib.Core.Option.{some, none}
use mathlib.Core.Option as maybe
use lib.ListN.{get_elem?}
use Rattle.atomic_table.specs.Table.{State}
use Rattle.hx_base.specs.declared.numbers.ThreadNo.{ThreadNo}
use Rattle.hx_base.specs.declared.numbers.ServerNo.{ServerNo}
use Rattle.hx_base.specs.declared.numbers.Face.{Face}
use Rattle.hx_base.specs.declared.what.What.{What}
use Rattle.hx_base.specs.declared.place_word.PlaceState.{PlaceState}
use Rattle.hx_base.specs.declared.place_word.PlaceState.TheVariants as state
use Rattle.hx_base.specs.Shown.{Shown}
use Rattle.hx_base.specs.PlaceWords.{IsFace, place_word}
use Rattle.hx_pool.specs.declared.board.BoardTerms.{BoardTerms}
use Rattle.hx_pool.specs.declared.entries.Note.{Note}
use Rattle.hx_pool.specs.Table.{Spot}
use Rattle.hx_pool.specs.History.{thread_of, own_of, table_after}
use Rattle.hx_places.specs.declared.view.View.{View}
use Rattle.hx_places.specs.declared.view.Role.{Role}
use Rattle.hx_places.specs.declared.view.Role.TheVariants.{Makes, Works, Copy, Spent}
use Rattle.hx_places.specs.declared.view.Hand.{Hand}
use Rattle.hx_places.specs.declared.view.Hand.TheVariants.{Claims}
use Rattle.hx_places.specs.Right.{IsRight}
use Rattle.hx_places.specs.Words.{spot_of, HeadsOf}

-- a slot as the table tells it: outside of the table, or at home with a value or without one
abbrev pub Home : Type 0 → Type 0
Home V = maybe.Option (maybe.Option (Option V))

module _ {V : Type 0} (shows : V → Shown) where
  -- a value of this face is at home, is to the server, and shows what stands beside the last Park of its connection
  pub record Rests (server : ServerNo) (whats : ℕ → Option What) (home : Home V) (f : Face) : Type 0 where
    pub v : V
    pub home_is : home ≡ some (some (Some v))
    pub face_is : (shows v).face ≡ f
    pub server_is : (shows v).server ≡ server
    pub what_is : whats f.id.0 ≡ Some (shows v).what
    pub fine : IsFace f

  -- the slot of a place of this state: at home where it is vacant or a connection rests, else with the thread that
  -- fills it or took from it
  abbrev pub Lies : ServerNo → (ℕ → Option What) → Home V → PlaceState → Type 0
  Lies server whats home state.Vacant = home ≡ some (some None)
  Lies server whats home state.Filling = home ≡ some none
  Lies server whats home (state.Resting f) = Rests server whats home f
  Lies server whats home (state.Taken t) = (home ≡ some none) × (t.0 < 16)

  -- the place has this state: its word shows it, the table has what stands there, and its slot lies so
  pub record PlaceOk (server : ServerNo) (whats : ℕ → Option What) (word : ℕ) (home : Home V) (spot : Spot)
      (s : PlaceState) : Type 0 where
    pub shown : word ≡ place_word s
    pub stands : spot ≡ spot_of s
    pub lies : Lies server whats home s

-- the history begins with the list
abbrev pub Begins : List Note → List Note → Type 0
Begins log seen = (rest : List Note) × (log ≡ seen ++ rest)

-- each entry is by this thread
abbrev pub AllBy : ThreadNo → List Note → Type 0
AllBy t [] = Unit {0}
AllBy t (x ∷ xs) = (thread_of x.entry ≡ t) × AllBy t xs

-- the seat's beginning of the history, after which it added nothing
pub record Sees (log : List Note) (v : View) : Type 0 where
  pub rest : List Note
  pub whole : log ≡ v.seen ++ rest
  pub others : own_of v.thread rest ≡ []
  pub own : v.mine ≡ own_of v.thread v.seen
  pub told : Begins log v.told

-- of the places in the thread's row that one alone is being filled which its seat claims
pub record Fills (states : ℕ → PlaceState) (t : ThreadNo) (hand : Hand) : Type 0 where
  pub claimed : (q : ℕ) → hand ≡ Claims q → (q / 64 ≡ t.0) × (states q ≡ state.Filling)
  pub only : (p : ℕ) → p / 64 ≡ t.0 → states p ≡ state.Filling → hand ≡ Claims p

-- what a seat of each role stands for: the board's own gives the next thread its seat, and a thread has one seat
abbrev pub Knows : ℕ → List Note → (ℕ → PlaceState) → (ℕ → ℕ) → ℕ → View → Role → Type 0
Knows given log states owner seat v Makes = (seat ≡ 0) × (v.thread.0 ≡ given)
Knows given log states owner seat v Works =
    (v.thread.0 < given) × (owner v.thread.0 ≡ seat) × Sees log v × Fills states v.thread v.hand
Knows given log states owner seat v Copy = Begins log v.seen
Knows given log states owner seat v Spent = Unit {0}

-- the same, by the seat's own role, with the terms of the board
pub record Sits (b : BoardTerms) (given : ℕ) (log : List Note) (states : ℕ → PlaceState) (owner : ℕ → ℕ)
    (seat : ℕ) (v : View) : Type 0 where
  pub knows : Knows given log states owner seat v v.role
  pub terms : v.role ≡ Works → v.terms ≡ b
  pub makes : v.role ≡ Makes → v.terms ≡ b

-- a thread that has no seat yet made no entry and fills no place
pub record IsNew (log : List Note) (states : ℕ → PlaceState) (t : ThreadNo) : Type 0 where
  pub silent : own_of t log ≡ []
  pub empty : (p : ℕ) → p / 64 ≡ t.0 → states p ≢ state.Filling

-- the rule: the history, the state of each place, which seat each thread has, and how many threads have one
pub record Kept {V : Type 0} (shows : V → Shown) (b : BoardTerms) (s : State (Option V) View) : Type 0 where
  pub log : List Note
  pub states : ℕ → PlaceState
  pub owner : ℕ → ℕ
  pub given : ℕ
  pub right : IsRight b log
  pub wide : length s.words ≡ 64 * b.threads + 4
  pub deep : length s.homes ≡ 64 * b.threads
  pub few_threads : (given ≤ b.threads) × (b.threads ≤ 16)
  pub heads : HeadsOf s.words (table_after log)
  pub each_place : (p : ℕ) → p < 64 * b.threads → PlaceOk shows b.server (table_after log).whats
      (slice_index s.words (p + 4)) (get_elem? s.homes p) ((table_after log).spots p) (states p)
  pub each_seat : (j : ℕ) (v : View) → get_elem? s.views j ≡ some v → Sits b given log states owner j v
  pub not_given : (t : ThreadNo) → given ≤ t.0 → IsNew log states t
