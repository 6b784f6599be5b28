-- What never happens to a whole request within the limits on its way.
use Rattle.std.specs.Prelude.{◌≡◌, ◌↔◌, ℕ, true, List, [], ◌∷◌, ◌++◌, Ok}
use Rattle.httparse.specs.Grammar.{RequestHead, HasNoRequest}
use Rattle.hx_message.specs.declared.MethodKind.{MethodKind}
use Rattle.hx_message.specs.declared.BodyKind.{BodyKind}
use Rattle.hx_message.specs.Body.{request_kind, wants_close}
use Rattle.hx_message.specs.Forwarded.{BeginsRequest}
use Rattle.hx_message.specs.Message.{IsRequest, WantsClose}
use Rattle.hx_frame.specs.Meters.{IsProperPart, NoBodyBegins}
use Rattle.hx_session_parts.specs.declared.fault.AskFault.{AskFault}
use Rattle.hx_session_parts.specs.Asks.{RefusesAsk}
use Rattle.hx_message.specs.Limits.{IsShortRequest}

-- no front of it is refused
abbrev pub RequestsAreFound : Type 0
RequestsAreFound =
    (bytes more : List ℕ) (m : MethodKind) (fault : AskFault) → IsRequest (bytes ++ more) m
    → IsShortRequest (bytes ++ more) → RefusesAsk fault bytes → ⊥

-- all of it has a head
abbrev pub RequestsHaveHeads : Type 0
RequestsHaveHeads = (bytes : List ℕ) (m : MethodKind) → IsRequest bytes m → HasNoRequest bytes → ⊥

-- where all of it was taken, its body doesn't go on
abbrev pub RequestsEnd : Type 0
RequestsEnd =
    (taken : List ℕ) (m : MethodKind) (g : RequestHead) (kind : BodyKind) (body : List ℕ) → IsRequest taken m
    → BeginsRequest taken g body → request_kind g ≡ Ok kind → IsProperPart kind body → ⊥

-- no byte of it is one after which no body follows
abbrev pub RequestsNeverBreak : Type 0
RequestsNeverBreak =
    (taken later : List ℕ) (next : ℕ) (m : MethodKind) (g : RequestHead) (kind : BodyKind) (body : List ℕ)
    → IsRequest (taken ++ next ∷ later) m → BeginsRequest taken g body → request_kind g ≡ Ok kind
    → NoBodyBegins kind (body ++ next ∷ []) → ⊥

-- a whole request at its front is all of it
abbrev pub RequestsEndOnce : Type 0
RequestsEndOnce =
    (taken rest : List ℕ) (m n : MethodKind) → IsRequest taken m → IsRequest (taken ++ rest) n → (rest ≡ []) × (m ≡ n)

-- its head tells whether it wants the connection closed
abbrev pub RequestsTellClose : Type 0
RequestsTellClose =
    (bytes rest : List ℕ) (g : RequestHead) → BeginsRequest bytes g rest → WantsClose bytes ↔ (wants_close g ≡ true)
