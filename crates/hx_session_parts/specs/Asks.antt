-- Requests at the front of a client's pipe, and their heads as they go out (RFC 9112, sections 2 to 6).
use Rattle.std.specs.Prelude.{◌≡◌, ◌⊎◌, ℕ, ◌+◌, ◌<◌, ◌≤◌, List, [], ◌++◌, length, drop, Ok, Err}
use Rattle.httparse.specs.Grammar.{RequestHead, NeverHasRequest, HasNoRequest, MayBecomeRequest}
use Rattle.hx_message.specs.declared.MethodKind.TheVariants.{Connect}
use Rattle.hx_message.specs.declared.BodyKind.{BodyKind}
use Rattle.hx_message.specs.declared.FrameFault.{FrameFault}
use Rattle.hx_message.specs.declared.FrameFault.TheVariants.{UnknownCoding, BothLengths, SeveralLengths, BadLength, BadHost}
use Rattle.hx_message.specs.Body.{kind_of_method, request_kind, wants_close}
use Rattle.hx_message.specs.Forwarded.{BeginsRequest, forwarded_request}
use Rattle.hx_head.specs.declared.refusal.Refusal.{Refusal}
use Rattle.hx_head.specs.declared.refusal.Refusal.TheVariants as refusal
use Rattle.hx_head.specs.Causes.{HasOldRequest, RefusesRequest}
use Rattle.hx_head.specs.Heads.{IsRequestAt}
use Rattle.hx_message.specs.Limits.{head_limit, IsShort}
use Rattle.hx_head.specs.Reads.{front}
use Rattle.hx_frame.specs.declared.meter.Meter.{Meter}
use Rattle.hx_frame.specs.Meters.{HasUsed}
use Rattle.hx_link.specs.Pipes.{PipeNow, pipe}
use Rattle.hx_session_parts.specs.declared.asks.Asked.{Asked}
use Rattle.hx_session_parts.specs.declared.asks.AskLook.{AskLook}
use Rattle.hx_session_parts.specs.declared.asks.AskLook.TheVariants.{Whole, More, Refused}
use Rattle.hx_session_parts.specs.declared.fault.AskFault.{AskFault}
use Rattle.hx_session_parts.specs.declared.fault.AskFault.TheVariants.{Bad, TooLarge, NotImplemented, Version}

-- the most bytes of a head that goes out: 16,384, and two more a field and a few
abbrev pub most_text : ℕ
most_text = 18432

-- the status of the proxy's own answer (RFC 9110, section 15)
abbrev pub status_of : AskFault → ℕ
status_of Bad = 400
status_of TooLarge = 431
status_of NotImplemented = 501
status_of Version = 505

-- a head within the limits is at the front of the bytes
abbrev pub HasHead : List ℕ → RequestHead → Type 0
HasHead bytes g = (rest : List ℕ) × BeginsRequest bytes g rest × IsShort bytes rest (length g.fields)

-- why the proxy answers a request itself
abbrev pub RefusesAsk : AskFault → List ℕ → Type 0
RefusesAsk Bad bytes =
    NeverHasRequest (front bytes)
    ⊎ ((g : RequestHead) × (fault : FrameFault) × HasHead bytes g × (request_kind g ≡ Err fault)
    × (fault ≡ UnknownCoding → ⊥))
RefusesAsk TooLarge bytes = RefusesRequest refusal.TooLong bytes ⊎ RefusesRequest refusal.TooManyFields bytes
RefusesAsk NotImplemented bytes =
    (g : RequestHead) × HasHead bytes g
    × ((request_kind g ≡ Err UnknownCoding)
    ⊎ ((kind : BodyKind) × (request_kind g ≡ Ok kind) × (kind_of_method g.method ≡ Connect)))
RefusesAsk Version bytes = HasOldRequest (front bytes)

-- the fault of a head that was refused for the cause
abbrev pub fault_of_cause : Refusal → AskFault
fault_of_cause refusal.NotAHead = Bad
fault_of_cause refusal.TooLong = TooLarge
fault_of_cause refusal.TooManyFields = TooLarge
fault_of_cause refusal.Version = Version
fault_of_cause refusal.Status = Bad

-- the fault of a head whose framing has the fault
abbrev pub fault_of_framing : FrameFault → AskFault
fault_of_framing BothLengths = Bad
fault_of_framing SeveralLengths = Bad
fault_of_framing BadLength = Bad
fault_of_framing UnknownCoding = NotImplemented
fault_of_framing BadHost = Bad

-- the ranges name a head g of at most 16,384 bytes, whose framing has no fault and whose method isn't CONNECT
pub record IsAskOf (bytes : List ℕ) (a : Asked) (g : RequestHead) : Type 0 where
  pub at : IsRequestAt bytes a.head g
  pub short : a.head.length ≤ head_limit
  pub framed : request_kind g ≡ Ok a.kind
  pub method : kind_of_method g.method ≡ Connect → ⊥
  pub close : a.wants_close ≡ wants_close g

-- the ranges name some such head
abbrev pub IsAsked : List ℕ → Asked → Type 0
IsAsked bytes a = (g : RequestHead) × IsAskOf bytes a g

-- a request that can be served is at the front of the bytes
abbrev pub HasAsked : List ℕ → Type 0
HasAsked bytes = (a : Asked) × IsAsked bytes a

-- each answer has its cause
abbrev pub AskLooks : List ℕ → AskLook → Type 0
AskLooks bytes (Whole a) = IsAsked bytes a
AskLooks bytes More = (length bytes < head_limit) × HasNoRequest bytes × MayBecomeRequest bytes
AskLooks bytes (Refused fault) = RefusesAsk fault bytes

-- the head went from one pipe to the other, spelled anew
abbrev pub SpellsAsk : PipeNow → PipeNow → PipeNow → PipeNow → Asked → Type 0
SpellsAsk from from' to to' a =
    (from' ≡ pipe (drop a.head.length from.bytes) from.capacity)
    × ((g : RequestHead) → IsRequestAt from.bytes a.head g
    → to' ≡ pipe (to.bytes ++ forwarded_request g) to.capacity)

-- the text doesn't fit
abbrev pub HasNoRoom : List ℕ → PipeNow → Asked → Type 0
HasNoRoom bytes to a =
    (g : RequestHead) → IsRequestAt bytes a.head g
    → to.capacity < length to.bytes + length (forwarded_request g)

-- the head went, and the meter stands at the front of the body
abbrev pub SpellsAskWith : PipeNow → PipeNow → PipeNow → PipeNow → Asked → Meter → Type 0
SpellsAskWith from from' to to' a meter = SpellsAsk from from' to to' a × HasUsed a.kind [] meter

-- nothing changed, since the text doesn't fit
abbrev pub LeavesAsk : PipeNow → PipeNow → PipeNow → PipeNow → Asked → Type 0
LeavesAsk from from' to to' a = (from' ≡ from) × (to' ≡ to) × HasNoRoom from.bytes to a
