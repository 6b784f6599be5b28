-- The seats with which a worker begins.
use Rattle.std.specs.Prelude.{◌≡◌, ◌<◌, ◌≤◌, List, [], ◌∷◌, ⊤}
use Rattle.hx_base.specs.declared.numbers.ServerNo.{ServerNo}
use Rattle.hx_base.specs.declared.numbers.ThreadNo.{ThreadNo}
use Rattle.hx_base.specs.declared.rules.PoolRules.{PoolRules}
use Rattle.hx_config.specs.Meaning.{Meaning}
use Rattle.hx_config.specs.declared.parts.Server.{Server}
use Rattle.hx_pool.specs.SeatView.{History}
use Rattle.hx_places.specs.Seats.{PlaceView}
use Rattle.hx_places.specs.declared.view.Hand.TheVariants.{Idle}

-- a thread's seat at that server's board of words and slots, which has seen and made nothing, and claims no place
pub record IsNew (server : ServerNo) (s : PlaceView) : Type 0 where
  pub server_is : s.view.terms.server ≡ server
  pub seen : s.view.seen ≡ []
  pub mine : s.view.mine ≡ []
  pub idle : s.view.hand ≡ Idle

-- a seat of that thread at that server's board under these rules, at which nothing has happened
pub record BeginsFor (thread : ThreadNo) (server : ServerNo) (rules : PoolRules) (h : History) : Type 0 where
  pub thread_is : h.about.thread ≡ thread
  pub server_is : h.about.server ≡ server
  pub rules_are : h.about.rules ≡ rules
  pub inside : (h.about.thread.0 < h.about.threads) × (h.about.threads ≤ 16)
  pub seen : h.seen ≡ []
  pub mine : h.mine ≡ []

-- one of that thread for each server, in order
abbrev pub BeginFor : ThreadNo → List Server → List History → Type 0
BeginFor t [] [] = ⊤
BeginFor t (s ∷ servers) (h ∷ seats) = BeginsFor t s.no s.rules h × BeginFor t servers seats
BeginFor t servers seats = ⊥

-- the seats of one worker
pub record SeatsNow : Type 0 where
  pub thread : ThreadNo
  pub config : Meaning
  pub seats : List History

-- seats with these histories
abbrev pub seats_now : ThreadNo → Meaning → List History → SeatsNow
seats_now thread config seats = record { thread = thread; config = config; seats = seats }
