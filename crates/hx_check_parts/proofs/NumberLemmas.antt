-- The exchanges of a connection, with one record more.
use Rattle.std.proofs.Common.{◌≡◌, List, [], ◌∷◌, ◌++◌, ap, ◌∙◌}
use Rattle.std.specs.List.{flat_map}
use Rattle.std.proofs.lemmas.List.{append-nil}
use Rattle.std.proofs.lemmas.Grind.{flat_map-append}
use Rattle.hx_base.specs.declared.numbers.ServerNo.{ServerNo}
use Rattle.hx_base.specs.declared.numbers.ConnId.{ConnId}
use Rattle.hx_record.specs.Tiles.{carried_of}
use Rattle.hx_record.specs.declared.served.Carried.{Carried}
use Rattle.hx_record.specs.declared.served.Told.{Told}

pub exchanges_more : (server : ServerNo) (id : ConnId) (records : List Told) (r : Told) (xs : List Carried)
    → carried_of server id r ≡ xs
    → flat_map (carried_of server id) (records ++ r ∷ []) ≡ flat_map (carried_of server id) records ++ xs
exchanges_more server id records r xs is =
    flat_map-append (carried_of server id) records (r ∷ [])
    ∙ ap (λ (x : List Carried). flat_map (carried_of server id) records ++ x) (append-nil (carried_of server id r) ∙ is)
