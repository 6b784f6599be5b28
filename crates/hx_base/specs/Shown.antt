-- What a connection value shows to contracts.
use Rattle.hx_base.specs.declared.numbers.Face.{Face}
use Rattle.hx_base.specs.declared.numbers.ServerNo.{ServerNo}
use Rattle.hx_base.specs.declared.what.What.{What}

-- its face, the server for which it was dialled, and what its link tells
pub record Shown : Type 0 where
  pub face : Face
  pub server : ServerNo
  pub what : What
