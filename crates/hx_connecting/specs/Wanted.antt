-- A connection that a step opened was wanted.
use Rattle.std.specs.Prelude.{◌≡◌, Bool, List, [], ◌∷◌, ◌++◌}
use Rattle.hx_base.specs.declared.numbers.SessionNo.{SessionNo}
use Rattle.hx_base.specs.declared.numbers.ConnId.{ConnId}
use Rattle.hx_pool.specs.declared.entries.Entry.TheVariants.{Open}
use Rattle.hx_pool.specs.declared.entries.Note.{Note}
use Rattle.hx_pool.specs.History.{plain}
use Rattle.hx_pool.specs.SeatView.{History, Makes}
use Rattle.hx_pool.specs.Takeover.{AllowsSome}
use Rattle.hx_pool.specs.Wants.{WantsNewConn}

-- the Open stands in what was seen behind H, and among the entries of the step behind these; where the mode allows the
-- request some connection, it was wanted there
pub record OpensWanted (old new : History) (n : SessionNo) (first : Bool) (id : ConnId) : Type 0 where
  pub before : List Note
  pub makes : Makes old new (before ++ plain (Open old.about.thread n id) ∷ [])
  pub H : List Note
  pub later : List Note
  pub seen : new.seen ≡ H ++ plain (Open old.about.thread n id) ∷ later
  pub wanted : AllowsSome new first → WantsNewConn new first H before

-- each Open stands in what was seen behind some H, where it was wanted, if the mode allows the request some connection
abbrev pub OpensWereWanted : History → Bool → List Note → List Note → Type 0
OpensWereWanted h first before [] = Unit {0}
OpensWereWanted h first before (x ∷ xs) =
    ((id : ConnId) (n : SessionNo) → x ≡ plain (Open h.about.thread n id)
    → (H : List Note) × (later : List Note) × (h.seen ≡ H ++ x ∷ later) × (AllowsSome h first → WantsNewConn h first H before))
    × OpensWereWanted h first (before ++ x ∷ []) xs
