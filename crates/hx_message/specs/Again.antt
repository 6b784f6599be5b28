-- What goes out for a head is a head again (RFC 9110, section 7.6.1; RFC 9112, sections 3 to 5).
use Rattle.std.specs.Prelude.{◌≡◌, Bool, true, false, List, [], ◌∷◌, ◌++◌, All, if◌then◌else◌, codes}
use Rattle.httparse.specs.Grammar.{RequestHead, ResponseHead, ReadsRequest, ReadsResponse, status_code, reason_phrase}
use Rattle.hx_message.specs.Fields.{NameAndValue, read_fields, is_named, staying}
use Rattle.hx_message.specs.Body.{request_kind}
use Rattle.hx_message.specs.Forwarded.{forwarded_request, forwarded_answer}

-- what goes out for g is the head k, with the same method, target and kind of body and the fields that stay;
-- and k goes out as it is
pub record IsForwardedRequest (g k : RequestHead) : Type 0 where
  pub reads : ReadsRequest (forwarded_request g) k []
  pub version : k.minor ≡ 1
  pub method : k.method ≡ g.method
  pub target : k.target ≡ g.target
  pub fields : read_fields k.fields ≡ staying (read_fields g.fields)
  pub kind : request_kind k ≡ request_kind g
  pub again : forwarded_request k ≡ forwarded_request g

-- the field that tells the client of the end
abbrev pub closing_fields : Bool → List NameAndValue
closing_fields closing = if closing then (codes "Connection", codes "close") ∷ [] else []

-- where the end is told, no other field that stays has the name close, which the new option would take away
abbrev pub KeepsNoClose : Bool → List NameAndValue → Type 0
KeepsNoClose closing fields =
    closing ≡ true → All (λ f. is_named (codes "close") f ≡ false) (staying fields)

-- the same for an answer; k goes out as g does, whether or not the end is told then
pub record IsForwardedAnswer (g k : ResponseHead) (closing : Bool) : Type 0 where
  pub reads : ReadsResponse (forwarded_answer g closing) k []
  pub version : k.minor ≡ 1
  pub status : status_code k ≡ status_code g
  pub reason : reason_phrase k.reason ≡ reason_phrase g.reason
  pub fields : read_fields k.fields ≡ staying (read_fields g.fields) ++ closing_fields closing
  pub again : KeepsNoClose closing (read_fields g.fields)
      → (later : Bool) → forwarded_answer k later ≡ forwarded_answer g later
