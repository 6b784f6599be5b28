-- How links go on behind a record, so that it stays true.
use Rattle.std.specs.Prelude.{◌≡◌, true, List, ◌++◌, ℕ}
use Rattle.hx_record.specs.Carriage.{Carriage}
use Rattle.hx_record.specs.declared.served.Kind.{Kind}
use Rattle.hx_record.specs.declared.served.Kind.TheVariants as kind

-- bytes came behind bytes, and a link that had told its end told it still and gave no byte more
pub record GoesOn (old new : Carriage) : Type 0 where
  pub taken : (more : List ℕ) × (new.taken ≡ old.taken ++ more)
  pub sent : (more : List ℕ) × (new.sent ≡ old.sent ++ more)
  pub ended : old.ended ≡ true → (new.ended ≡ true) × (new.taken ≡ old.taken)

-- the link was read no further
abbrev pub ReadsNoMore : Carriage → Carriage → Type 0
ReadsNoMore old new = new.taken ≡ old.taken

-- both links may go on behind a passed record; behind one that was cut off, the client is read no more, and the connection
-- carries nothing more; behind an own answer, the client is read no more
abbrev pub MayGoOn : Kind → Carriage → Carriage → Carriage → Carriage → Type 0
MayGoOn (kind.Passed c) client client' conn conn' = GoesOn client client' × GoesOn conn conn'
MayGoOn (kind.Cut c why) client client' conn conn' =
    GoesOn client client' × ReadsNoMore client client'
    × GoesOn conn conn' × ReadsNoMore conn conn' × (conn'.sent ≡ conn.sent)
MayGoOn (kind.Own status) client client' conn conn' = GoesOn client client' × ReadsNoMore client client'
