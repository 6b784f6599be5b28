-- The servers of a configuration, and a seat for each.
use Rattle.std.proofs.Common.{◌≡◌, ◌<◌, ℕ, zero, suc, List, [], ◌∷◌, length, refl, ap, arith, Some}
use Rattle.std.specs.Prelude.{slice_get}
use Rattle.hx_base.specs.declared.numbers.ThreadNo.{ThreadNo}
use Rattle.hx_config.specs.declared.parts.Server.{Server}
use Rattle.hx_pool.specs.SeatView.{History}
use Rattle.hx_session.specs.Fits.{SeatsServe}

-- a server that is there
pub there_below : (ss : List Server) (i : ℕ) (s : Server) → slice_get ss i ≡ Some s → i < length ss
there_below [] i s e = cc
there_below (x ∷ ss) zero s e = omega arith
there_below (x ∷ ss) (suc i) s e = omega (arith, there_below ss i s e)

-- there are as many seats as servers
pub as_many : (t : ThreadNo) (hs : List History) (ss : List Server) → SeatsServe t hs ss → length hs ≡ length ss
as_many t [] [] s = refl
as_many t [] (x ∷ ss) s = elim s [ ]
as_many t (h ∷ hs) [] s = elim s [ ]
as_many t (h ∷ hs) (x ∷ ss) s = ap (λ n. suc n) (as_many t hs ss s.3)
