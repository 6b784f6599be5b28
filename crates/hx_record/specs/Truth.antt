-- When a record is true of the bytes of its client's link and of its connection's link.
use Rattle.std.specs.Prelude.{◌≡◌, ◌⊎◌, ◌↔◌, ℕ, ◌-◌, ◌≤◌, Bool, true, List, length, take, drop}
use Rattle.hx_base.specs.Spans.{bytes_in, LiesIn, span_size}
use Rattle.httparse.specs.Grammar.{RequestHead}
use Rattle.hx_message.specs.declared.MethodKind.{MethodKind}
use Rattle.hx_message.specs.Body.{kind_of_method}
use Rattle.hx_message.specs.Forwarded.{ForwardsRequest, ForwardsAnswer, BeginsRequest}
use Rattle.hx_message.specs.Message.{IsRequest, IsWholeAnswer, WantsClose, RunsToEnd}
use Rattle.hx_message.specs.Exchanges.{AreExchanges}
use Rattle.hx_message.specs.Partial.{IsPrefix, EndsRequest, EndsAnswer, HasFinalHead, BeginsForwardedRequest, BeginsForwardedAnswer}
use Rattle.hx_message.specs.OwnAnswer.{IsOwnAnswer}
use Rattle.hx_record.specs.Carriage.{Carriage}
use Rattle.hx_record.specs.declared.served.Carried.{Carried}
use Rattle.hx_record.specs.declared.served.CutCause.{CutCause}
use Rattle.hx_record.specs.declared.served.CutCause.TheVariants as cut
use Rattle.hx_record.specs.declared.served.LeftCause.{LeftCause}
use Rattle.hx_record.specs.declared.served.LeftCause.TheVariants as cause
use Rattle.hx_record.specs.declared.served.Served.{Served}
use Rattle.hx_record.specs.declared.served.Kind.{Kind}
use Rattle.hx_record.specs.declared.served.Kind.TheVariants as kind

-- the four ranges lie in the bytes of their links, and exchanges are counted from 1
pub record HasRanges (s : Served) (c : Carried) (client conn : Carriage) : Type 0 where
  pub first : 1 ≤ c.nth
  pub ask : LiesIn s.ask client.taken
  pub gave : LiesIn s.gave client.sent
  pub sent : LiesIn c.sent conn.sent
  pub took : LiesIn c.took conn.taken

-- passed: a whole request went out spelled anew, and the whole answer that was read for it on this
-- connection, behind whole exchanges, went to the client spelled anew
pub record IsTruePassed (s : Served) (c : Carried) (client conn : Carriage) : Type 0 where
  pub ranges : HasRanges s c client conn
  pub method : MethodKind
  pub ask : IsRequest (bytes_in client.taken s.ask) method
  pub sent : ForwardsRequest (bytes_in client.taken s.ask) (bytes_in conn.sent c.sent)
  pub answer :
      IsWholeAnswer method (bytes_in conn.taken c.took) ((conn.ended ≡ true) × (c.took.to ≡ length conn.taken))
  pub gave : ForwardsAnswer (bytes_in conn.taken c.took) c.closing (bytes_in client.sent s.gave)
  pub closing :
      (c.closing ≡ true)
      ↔ (WantsClose (bytes_in client.taken s.ask) ⊎ RunsToEnd method (bytes_in conn.taken c.took))
  pub before : AreExchanges (take c.sent.from conn.sent) (take c.took.from conn.taken) (c.nth - 1)

-- an early answer was whole, and went to the client whole with closing
abbrev pub IsEarly : MethodKind → Bool → List ℕ → List ℕ → Bool → Type 0
IsEarly method closing answer gave ended =
    (closing ≡ true) × IsWholeAnswer method answer (ended ≡ true) × ForwardsAnswer answer true gave

-- cut: what was sent and given are beginnings of the texts that go out, up to where the exchange ended
pub record IsTrueCut (s : Served) (c : Carried) (why : CutCause) (client conn : Carriage) : Type 0 where
  pub ranges : HasRanges s c client conn
  pub head : RequestHead
  pub rest : List ℕ
  pub begins : BeginsRequest (bytes_in client.taken s.ask) head rest
  pub ask : EndsRequest (drop s.ask.from client.taken) (span_size s.ask)
  pub sent : BeginsForwardedRequest (bytes_in client.taken s.ask) (bytes_in conn.sent c.sent)
  pub all_sent : c.sent.to ≡ length conn.sent
  pub took : EndsAnswer (kind_of_method head.method) (drop c.took.from conn.taken) (span_size c.took)
  pub gave : BeginsForwardedAnswer (bytes_in conn.taken c.took) c.closing (bytes_in client.sent s.gave)
  pub closing : c.closing ≡ true → HasFinalHead (bytes_in conn.taken c.took)
  pub early :
      why ≡ cut.Early
      → IsEarly (kind_of_method head.method) c.closing (bytes_in conn.taken c.took) (bytes_in client.sent s.gave) conn.ended

-- the session left before all of its own answer was given
abbrev pub LeftBeforeAll : LeftCause → Type 0
LeftBeforeAll why = (why ≡ cause.Fault) ⊎ (why ≡ cause.Idle) ⊎ (why ≡ cause.Stop)

-- own: all bytes taken of the client, and the own answer of that status, or a beginning of it
pub record IsTrueOwn (s : Served) (status : ℕ) (client : Carriage) (why : LeftCause) : Type 0 where
  pub ask : LiesIn s.ask client.taken
  pub gave : LiesIn s.gave client.sent
  pub all_taken : s.ask.to ≡ length client.taken
  pub text : List ℕ
  pub own : IsOwnAnswer status text
  pub gives :
      (bytes_in client.sent s.gave ≡ text) ⊎ (IsPrefix (bytes_in client.sent s.gave) text × LeftBeforeAll why)

-- a record of this kind is true of the client's link and of its connection's link, where it has one;
-- its session left for that cause
abbrev pub RecountsBytes : Kind → Served → Carriage → Carriage → LeftCause → Type 0
RecountsBytes (kind.Passed c) s client conn why = IsTruePassed s c client conn
RecountsBytes (kind.Cut c cut_why) s client conn why = IsTrueCut s c cut_why client conn
RecountsBytes (kind.Own status) s client conn why = IsTrueOwn s status client why
