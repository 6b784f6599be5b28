-- What a seat's view says, and what its steps tell.
use Rattle.std.specs.Prelude.{◌≡◌, ◌≢◌, ℕ, ◌+◌, ◌<◌, false, List, [], ◌∷◌, ◌++◌, Option, Some, None}
use Rattle.atomic_table.specs.Table.{Step, Me, rest}
use Rattle.hx_base.specs.declared.numbers.ThreadNo.{ThreadNo}
use Rattle.hx_base.specs.declared.rules.Mode.TheVariants as mode
use Rattle.hx_base.specs.Shown.{Shown}
use Rattle.hx_base.specs.PlaceWords.{IsFace}
use Rattle.hx_pool.specs.declared.board.BoardTerms.{BoardTerms}
use Rattle.hx_pool.specs.declared.entries.Note.{Note}
use Rattle.hx_pool.specs.declared.entries.Entry.TheVariants.{Gate}
use Rattle.hx_pool.specs.Table.{Holds}
use Rattle.hx_pool.specs.History.{own_of, table_after, what_of}
use Rattle.hx_places.specs.declared.view.View.{View}
use Rattle.hx_places.specs.declared.view.Hand.{Hand}
use Rattle.hx_places.specs.declared.view.Hand.TheVariants.{Idle, Claims}
use Rattle.hx_places.specs.declared.view.Role.{Role}
use Rattle.hx_places.specs.declared.view.Role.TheVariants.{Makes, Works, Copy, Spent}
use Rattle.hx_places.specs.Right.{IsRight}
use Rattle.hx_places.specs.Words.{IsPlaceWord}

-- the view of a seat that has made and seen nothing
abbrev pub unused : Role → BoardTerms → ThreadNo → View
unused role b t = record {
  role = role;
  terms = b;
  thread = t;
  hand = Idle;
  seen = [];
  mine = [];
  claimed = [];
  told = [];
}

-- the view of the board's own seat, which gives the threads theirs
abbrev pub maker : BoardTerms → View
maker b = unused Makes b (record { 0 = 0 })

-- the view of a thread's new seat
abbrev pub worker : BoardTerms → ThreadNo → View
worker b t = unused Works b t

-- the next thread has its seat
abbrev pub more_given : View → View
more_given v = record v { thread = record { 0 = v.thread.0 + 1 } }

-- a seat that has seen what v had seen
abbrev pub copy_of : View → View
copy_of v = record (unused Copy v.terms v.thread) { seen = v.seen }

-- v was told what w has seen
abbrev pub told_by : View → View → View
told_by v w = record v { told = w.seen }

-- terms that stand for none
abbrev pub no_terms : BoardTerms
no_terms = record {
  server = record { 0 = 0 };
  rules = record { mode = mode.Never; max = None; low = 0; delay = record { 0 = 0 } };
  threads = 0;
  start = record { 0 = 0 };
}

-- the view of a seat that was joined to another
abbrev pub spent : View
spent = unused Spent no_terms (record { 0 = 0 })

-- a note that stands for none
abbrev pub no_note : Note
no_note = record { entry = Gate (record { 0 = 0 }) false; what = None }

-- the slots that go with a hand
abbrev pub carried_of : {V : Type 0} → Hand → List (ℕ × Option V)
carried_of Idle = []
carried_of (Claims p) = (p, None) ∷ []

-- the view with this hand, which has seen H and then made e
abbrev pub noting : View → Hand → List Note → Note → View
noting v hand H e = record v { hand = hand; seen = H ++ e ∷ []; mine = v.mine ++ e ∷ [] }

-- the view once a place is claimed
abbrev pub claiming : View → ℕ → View
claiming v p = record v { hand = Claims p; claimed = v.mine }

-- e was made behind all that was seen and what others added since, and the history is right with it
pub record Adds (hand : Hand) (v w : View) (e : Note) : Type 0 where
  pub between : List Note
  pub others : own_of v.thread between ≡ []
  pub view : w ≡ noting v hand (v.seen ++ between) e
  pub right : IsRight v.terms ((v.seen ++ between) ++ e ∷ [])

module _ {S : Type 0} where
  -- a step that makes one entry, by the number that it finds, and moves no slot
  abbrev pub noted : (ℕ → Note) → Step S → Me S View → ℕ → Me S View → Type 0
  noted entry st m found m' = (m'.1 ≡ m.1) × Adds m.0.hand m.0 m'.0 (entry found)

  -- draw: the number is one that a place's word can show
  abbrev pub drew : (ℕ → Note) → Step S → Me S View → ℕ → Me S View → Type 0
  drew entry st m found m' = noted entry st m found m' × (0 < found) × (found < 1099511627776)

  -- look: the word is that of a state
  abbrev pub looked : (ℕ → Note) → Step S → Me S View → ℕ → Me S View → Type 0
  looked entry st m found m' = noted entry st m found m' × IsPlaceWord found

  -- publish: the slot went back with the entry, and the hand is free
  abbrev pub published : (ℕ → Note) → Step S → Me S View → ℕ → Me S View → Type 0
  published entry st m stored m' = (m'.1 ≡ rest m.1) × Adds Idle m.0 m'.0 (entry stored)

  -- vacate: the slot went back with the entry
  abbrev pub vacated : (ℕ → Note) → Step S → Me S View → ℕ → Me S View → Type 0
  vacated entry st m stored m' = (m'.1 ≡ rest m.1) × Adds m.0.hand m.0 m'.0 (entry stored)

-- the value rests at the place after H: it shows the face that stands there, was dialled for the server, and shows what
-- stood beside the last Park of its connection
pub record WasThere (b : BoardTerms) (H : List Note) (p : ℕ) (v : Shown) : Type 0 where
  pub stood : (table_after H).spots p ≡ Holds v.face
  pub server : v.server ≡ b.server
  pub what : what_of H v.face.id.0 ≡ Some v.what
  pub face : IsFace v.face

module _ {V : Type 0} where
  -- the seat has the place's slot, with what rested there
  pub record Won (shows : V → Shown) (p : ℕ) (m m' : Me (Option V) View) (e : Note) : Type 0 where
    pub v : V
    pub carried : m'.1 ≡ (p, Some v) ∷ m.1
    pub adds : Adds m.0.hand m.0 m'.0 e
    pub there : WasThere m.0.terms (m.0.seen ++ adds.between) p (shows v)

  -- take: where the word was as expected the seat won the slot of the word's place; else it looked
  abbrev pub took : (V → Shown) → (ℕ → Note) → Step (Option V) → Me (Option V) View → ℕ → Me (Option V) View → Type 0
  took shows entry st m found m' =
      (found ≡ st.first → (p : ℕ) → st.word ≡ p + 4 → Won shows p m m' (entry found))
      × (found ≢ st.first → looked entry st m found m')

  -- claim: the seat has the slot of the word's place, which is being filled, and saw no more
  abbrev pub claimed : Step (Option V) → Me (Option V) View → ℕ → Me (Option V) View → Type 0
  claimed st m stored m' = (p : ℕ) → st.word ≡ p + 4 → (m'.0 ≡ claiming m.0 p) × (m'.1 ≡ (p, None) ∷ m.1)

-- the seat has seen the whole history, which begins with what it was told of
pub record Hears (v w : View) : Type 0 where
  pub between : List Note
  pub more : List Note
  pub view : w ≡ record v { seen = v.seen ++ between; told = [] }
  pub told : v.seen ++ between ≡ v.told ++ more
  pub others : own_of v.thread between ≡ []
  pub right : IsRight v.terms (v.seen ++ between)

-- a load after a join: the seat has seen what it was told
abbrev pub heard : {S : Type 0} → Step S → Me S View → ℕ → Me S View → Type 0
heard st m found m' = (m'.1 ≡ m.1) × Hears m.0 m'.0
