-- Where a body breaks whose meter is bad.
use Rattle.std.specs.Prelude.{ℕ, ◌<◌, List, ◌++◌, length, take}
use Rattle.hx_frame.specs.Meters.{NoBodyBegins}
use Rattle.hx_message.specs.declared.BodyKind.{BodyKind}

-- behind these bytes of a body the first byte that waits is one after which no body of that kind follows
pub record BreaksHere (kind : BodyKind) (body waiting : List ℕ) : Type 0 where
  pub some : 0 < length waiting
  pub none : NoBodyBegins kind (body ++ take 1 waiting)
