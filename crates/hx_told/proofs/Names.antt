-- The names of a configuration are names.
use Rattle.std.proofs.Common.{◌≡◌, ℕ, ◌<◌, true, List, [], ◌∷◌, map, length, All, arith}
use Rattle.std.specs.Prelude.{◌==◌, not}
use Rattle.std.specs.List.{list_all}
use Rattle.std.proofs.lemmas.Bool.{and_parts}
use Rattle.std.proofs.lemmas.List.Elements.{All-nil, All-cons, All-append}
use Rattle.hx_base.specs.Names.{is_name_byte, is_name, IsName}
use Rattle.hx_config.specs.declared.parts.Back.{Back}
use Rattle.hx_config.specs.declared.parts.Server.{Server}
use Rattle.hx_config.specs.Limits.{are_servers_named, has_names}
use Rattle.hx_told.specs.Servers.{named_of, named_servers, HasNames}

filled : (w : List ℕ) → not (length w == 0) ≡ true → 0 < length w
filled [] e = absurd (cc)
filled (b ∷ w) e = omega arith

name_is : (w : List ℕ) → is_name w ≡ true → IsName w
name_is w e = let parts = and_parts (not (length w == 0)) (list_all is_name_byte w) e in (filled w parts.0, parts.1)

back_named : (b : Back) (servers : List Server) → IsName b.name → are_servers_named servers ≡ true → All HasNames (map (named_of b) servers)
back_named b [] n e = All-nil HasNames
back_named b (s ∷ servers) n e =
    let parts = and_parts (is_name s.name) (are_servers_named servers) e in
    All-cons HasNames (named_of b s) (map (named_of b) servers) (record { back = n; server = name_is s.name parts.0 }) (back_named b servers n parts.1)

pub all_named : (backs : List Back) → list_all has_names backs ≡ true → All HasNames (named_servers backs)
all_named [] e = All-nil HasNames
all_named (b ∷ backs) e =
    let parts = and_parts (has_names b) (list_all has_names backs) e in
    let one = and_parts (is_name b.name) (are_servers_named b.servers) parts.0 in
    All-append HasNames (map (named_of b) b.servers) (named_servers backs) (back_named b b.servers (name_is b.name one.0) one.1) (all_named backs parts.1)
