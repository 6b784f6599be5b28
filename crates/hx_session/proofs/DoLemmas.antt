-- What an exchange does next.
use Rattle.std.proofs.Common.{◌≡◌, [], refl, inl, inr, ⊎_elim}
use Rattle.hx_frame.specs.declared.progress.MeterState.TheVariants.{Going}
use Rattle.hx_session.specs.declared.answers.Do.{Do}
use Rattle.hx_session.specs.declared.answers.Do.TheVariants.{BadAsk, BadAnswer, PassAsk, ClientEnded, LookForHead, PassAnswer, Finish, ServerEnded, Nothing}
use Rattle.hx_session.specs.declared.exchange.AnswerWay.TheVariants.{Body}
use Rattle.hx_session.specs.declared.exchange.BodyWay.{BodyWay}
use Rattle.hx_session.specs.Desks.{DeskNow}
use Rattle.hx_session.specs.Exchanged.{ExchangeNow}
use Rattle.hx_session.specs.Finishing.{MayDo, DoesAtEnd, DoesAsk, DoesAnswer}
use Rattle.hx_session.specs.Waiting.{AskIdle}

pub at_end : (d : DeskNow) (e : ExchangeNow) (b : BodyWay) (x : Do) → e.answer ≡ Body b → b.state ≡ Going → d.down.bytes ≡ [] → DoesAtEnd e b d.to x → DoesAnswer d e x
at_end d e b BadAsk is going none k = absurd k
at_end d e b BadAnswer is going none k = absurd k
at_end d e b PassAsk is going none k = absurd k
at_end d e b ClientEnded is going none k = absurd k
at_end d e b LookForHead is going none k = absurd k
at_end d e b PassAnswer is going none k = absurd k
at_end d e b Finish is going none k = record { body = b; is = is; ends = inr (k.0, (k.1, none)); given = k.2 }
at_end d e b ServerEnded is going none k = record { body = b; is = is; going = going; not_so = k.0; none = none; ended = k.1 }
at_end d e b Nothing is going none k = ⊎_elim (λ open_. inr (inr (open_, (b, is, going, none)))) (λ some. inl some) k

-- the request first
pub asks_do : (d : DeskNow) (e : ExchangeNow) (x : Do) → DoesAsk d e x → (x ≡ Nothing → ⊥) → MayDo d e x
asks_do d e BadAsk k not = k
asks_do d e BadAnswer k not = absurd k
asks_do d e PassAsk k not = k
asks_do d e ClientEnded k not = k
asks_do d e LookForHead k not = absurd k
asks_do d e PassAnswer k not = absurd k
asks_do d e Finish k not = absurd k
asks_do d e ServerEnded k not = absurd k
asks_do d e Nothing k not = absurd (not refl)

-- then the answer
pub answers_do : (d : DeskNow) (e : ExchangeNow) (x : Do) → AskIdle d e → DoesAnswer d e x → MayDo d e x
answers_do d e BadAsk idle k = absurd k
answers_do d e BadAnswer idle k = absurd k
answers_do d e PassAsk idle k = absurd k
answers_do d e ClientEnded idle k = absurd k
answers_do d e LookForHead idle k = (k, idle)
answers_do d e PassAnswer idle k = tt
answers_do d e Finish idle k = k
answers_do d e ServerEnded idle k = k
answers_do d e Nothing idle k = (idle, k)
