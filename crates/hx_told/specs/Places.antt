-- Where a client or a connection that is told comes from.
use Rattle.std.specs.Prelude.{◌≡◌, ℕ, List, Contains, Some, slice_get}
use Rattle.hx_link.specs.MemoryLinks.{MemoryLinkNow}
use Rattle.hx_record.specs.declared.bytes.ClientBytes.{ClientBytes}
use Rattle.hx_record.specs.declared.bytes.ConnBytes.{ConnBytes}
use Rattle.hx_record.specs.declared.served.Left.{Left}
use Rattle.hx_told.specs.Links.{client_of, conn_of}

-- the client of the session and the link at one place
pub record IsClientAt (lefts : List Left) (links : List MemoryLinkNow) (c : ClientBytes) : Type 0 where
  pub at : ℕ
  pub left : Left
  pub link : MemoryLinkNow
  pub left_at : slice_get lefts at ≡ Some left
  pub link_at : slice_get links at ≡ Some link
  pub is : c ≡ client_of left link

-- the connection of a link that was dialled
pub record IsConnOf (links : List MemoryLinkNow) (c : ConnBytes) : Type 0 where
  pub link : MemoryLinkNow
  pub dial : ℕ × ℕ
  pub there : Contains links link
  pub dialled : link.state.dial ≡ Some dial
  pub is : c ≡ conn_of dial link
