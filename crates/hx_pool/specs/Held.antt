-- What sessions hold, by their thread's own entries.
use Rattle.std.specs.Prelude.{◌≡◌, ◌≢◌, ℕ, ◌==◌, cond, List, [], ◌∷◌, ◌++◌, Option, Some, None, MatchOption}
use Rattle.hx_base.specs.declared.numbers.SessionNo.{SessionNo}
use Rattle.hx_base.specs.declared.numbers.ConnId.{ConnId}
use Rattle.hx_base.specs.declared.numbers.Face.{Face}
use Rattle.hx_base.specs.declared.rules.Mode.TheVariants.{Never}
use Rattle.hx_pool.specs.declared.entries.Entry.{Entry}
use Rattle.hx_pool.specs.declared.entries.Entry.TheVariants.{Open, Park, Take, Close}
use Rattle.hx_pool.specs.declared.entries.Note.{Note}
use Rattle.hx_pool.specs.Table.{face_of}
use Rattle.hx_pool.specs.SeatView.{History}

-- a session has a connection that was used so often
pub record Hold : Type 0 where
  pub session : SessionNo
  pub uses : ℕ

-- held by this session with so many uses
abbrev pub hold : SessionNo → ℕ → Option Hold
hold n uses = Some (record { session = n; uses = uses })

-- who holds the connection, after one entry more
abbrev pub hold_after : ℕ → Option Hold → Entry → Option Hold
hold_after i o (Open t n id) = cond (id.0 == i) (hold n 0) o
hold_after i o (Take t n first place id uses) = cond (id.0 == i) (hold n uses) o
hold_after i o (Park t n id place uses) = cond (id.0 == i) None o
hold_after i o (Close t n id) = cond (id.0 == i) None o
hold_after i o _ = o

-- the same after these notes more
abbrev pub hold_from : ℕ → Option Hold → List Note → Option Hold
hold_from i o [] = o
hold_from i o (x ∷ xs) = hold_from i (hold_after i o x.entry) xs

-- which session of this thread has the connection
abbrev pub hold_of : List Note → ℕ → Option Hold
hold_of mine i = hold_from i None mine

-- session n has the connection, which was used so often
abbrev pub Has : List Note → SessionNo → ℕ → ℕ → Type 0
Has mine n i uses = hold_of mine i ≡ hold n uses

-- the faces without a connection
abbrev pub without : ConnId → List Face → List Face
without id [] = []
without id (f ∷ fs) = cond (f.id.0 == id.0) (without id fs) (f ∷ without id fs)

-- what the session holds, after one entry more
abbrev pub held_after : SessionNo → List Face → Entry → List Face
held_after n fs (Open t m id) = cond (m.0 == n.0) (fs ++ face_of id 0 ∷ []) fs
held_after n fs (Take t m first place id uses) = cond (m.0 == n.0) (fs ++ face_of id uses ∷ []) fs
held_after n fs (Park t m id place uses) = cond (m.0 == n.0) (without id fs) fs
held_after n fs (Close t m id) = cond (m.0 == n.0) (without id fs) fs
held_after n fs _ = fs

-- the same after these notes more
abbrev pub held_from : SessionNo → List Face → List Note → List Face
held_from n fs [] = fs
held_from n fs (x ∷ xs) = held_from n (held_after n fs x.entry) xs

-- the connections that mine opened or took for the session, less those that it parked or closed for it later
abbrev pub held_by : List Note → SessionNo → List Face
held_by mine n = held_from n [] mine

-- the session has just this connection, or none
abbrev pub HoldsJust : List Note → SessionNo → Option Face → Type 0
HoldsJust mine n o = MatchOption o (held_by mine n ≡ []) (λ f. held_by mine n ≡ f ∷ [])

-- the seat holds for the session just the connection with this face, or none; where the mode never shares, a session may
-- use its connection again without a Park, and the entries don't say how often it was used
abbrev pub HasJust : History → SessionNo → Option Face → Type 0
HasJust h n None = held_by h.mine n ≡ []
HasJust h n (Some f) =
    (uses : ℕ) × (held_by h.mine n ≡ face_of f.id uses ∷ []) × (h.about.rules.mode ≢ Never → uses ≡ f.uses)

-- the entry opens, parks, takes or closes nothing for the session
abbrev pub IsApart : SessionNo → Entry → Type 0
IsApart n (Open t m id) = m.0 ≢ n.0
IsApart n (Park t m id place uses) = m.0 ≢ n.0
IsApart n (Take t m first place id uses) = m.0 ≢ n.0
IsApart n (Close t m id) = m.0 ≢ n.0
IsApart n _ = Unit {0}

-- each of the entries is such
abbrev pub AllApart : SessionNo → List Note → Type 0
AllApart n [] = Unit {0}
AllApart n (x ∷ xs) = IsApart n x.entry × AllApart n xs

-- the entry parks another connection, or none
abbrev pub ParksOther : ConnId → Entry → Type 0
ParksOther id (Park t n parked place uses) = parked.0 ≢ id.0
ParksOther id _ = Unit {0}

-- each of the entries is such
abbrev pub AllParkOther : ConnId → List Note → Type 0
AllParkOther id [] = Unit {0}
AllParkOther id (x ∷ xs) = ParksOther id x.entry × AllParkOther id xs
