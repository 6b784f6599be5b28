-- What is told of the servers: names, rules, marks and totals.
use Rattle.std.specs.Prelude.{◌≡◌, ◌-◌, true, List, [], ◌∷◌, map, length, drop}
use Rattle.std.specs.List.{flat_map}
use Rattle.hx_base.specs.Names.{IsName}
use Rattle.hx_base.specs.declared.totals.Totals.{Totals}
use Rattle.hx_config.specs.declared.parts.Back.{Back}
use Rattle.hx_config.specs.declared.parts.Server.{Server}
use Rattle.hx_pool.specs.History.{entries_of, marks_of}
use Rattle.hx_pool.specs.Journal.{Journal}
use Rattle.hx_pool.specs.Totals.{totals_of}
use Rattle.hx_script.specs.declared.transcript.ServerPart.{ServerPart}
use Rattle.hx_told.specs.declared.servers.Named.{Named}

-- a server with its backend's name
abbrev pub named_of : Back → Server → Named
named_of b s = record { back = b.name; server = s.name; rules = s.rules }

-- the servers of all backends, in order
abbrev pub named_servers : List Back → List Named
named_servers backs = flat_map (λ (b : Back). map (named_of b) b.servers) backs

-- both names are names
pub record HasNames (n : Named) : Type 0 where
  pub back : IsName n.back
  pub server : IsName n.server

-- a server, and the marks of its journal
abbrev pub part_of : Named → Journal → ServerPart
part_of n j = record { back = n.back; server = n.server; rules = n.rules; marks = j.stored }

-- each server with the journal of its seat, in order
abbrev pub parts_of : List Named → List Journal → List ServerPart
parts_of [] seats = []
parts_of (n ∷ names) [] = []
parts_of (n ∷ names) (j ∷ seats) = part_of n j ∷ parts_of names seats

-- each mark was stored since the journal began
pub record IsWhole (j : Journal) : Type 0 where
  pub whole : j.whole ≡ true
  pub recounts : j.stored ≡ drop (length (marks_of j.history.mine) - length j.stored) (marks_of j.history.mine)

-- what the seat counted of its own entries
abbrev pub sums_of : Journal → Totals
sums_of j = totals_of (entries_of j.history.mine)

-- the totals of the seats, in order
abbrev pub all_sums : List Journal → List Totals
all_sums seats = map sums_of seats
