-- Seats at which nothing has happened.
use Rattle.std.specs.Prelude.{◌≡◌, List, [], ◌∷◌, ⊤}
use Rattle.hx_base.specs.declared.numbers.Millis.{Millis}
use Rattle.hx_config.specs.declared.parts.Server.{Server}
use Rattle.hx_plain.specs.PlainSeat.{about_alone, IsUnused}
use Rattle.hx_pool.specs.SeatView.{History}

-- when rounds are counted from
abbrev pub start : Millis
start = record { 0 = 0 }

-- a seat of the server under its rules, at which nothing has happened
pub record BeginsFor (s : Server) (h : History) : Type 0 where
  pub about : h.about ≡ about_alone s.no s.rules start h.about.board
  pub unused : IsUnused h

-- one for each server, in order
abbrev pub BeginFor : List Server → List History → Type 0
BeginFor [] [] = ⊤
BeginFor (s ∷ servers) (h ∷ seats) = BeginsFor s h × BeginFor servers seats
BeginFor servers seats = ⊥
