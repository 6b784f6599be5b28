-- Messages on their way.
use Rattle.std.proofs.Common.{◌≡◌, ◌≤◌, ℕ, Bool, false, List, [], ◌∷◌, ◌++◌, length, take, refl, sym, ap, subst, ◌∙◌, inl, append_assoc, arith}
use Rattle.std.specs.List.{flat_map}
use Rattle.std.proofs.lemmas.List.{append-nil, length-append, length-take}
use Rattle.httparse.specs.Grammar.{ResponseHead, ReadsResponse}
use Rattle.httparse.proofs.GrammarLemmas.{ReadsRequest-append, ReadsResponse-append}
use Rattle.hx_message.specs.declared.MethodKind.{MethodKind}
use Rattle.hx_message.specs.declared.BodyKind.{BodyKind}
use Rattle.hx_message.specs.declared.BodyKind.TheVariants.{ToEnd}
use Rattle.hx_message.specs.Forwarded.{IsInterim, BeginsInterims, ForwardsAnswer, forwarded_request, forwarded_answer}
use Rattle.hx_message.specs.Message.{IsAnswerWith}
use Rattle.hx_message.specs.Body.{IsBody}
use Rattle.hx_head.specs.declared.head.AnswerHead.{AnswerHead}
use Rattle.hx_head.specs.Heads.{IsAnswerAt}
use Rattle.hx_message.specs.Limits.{head_limit, field_limit, IsShort, BeginsShortInterims, IsShortAnswer}
use Rattle.hx_frame.specs.declared.meter.Meter.{Meter}
use Rattle.hx_frame.specs.declared.progress.MeterState.{MeterState}
use Rattle.hx_frame.specs.Meters.{MeterFits}
use Rattle.hx_session_parts.specs.Answers.{IsShortHead}
use Rattle.hx_session_parts.proofs.GrowthLemmas.{few_fields, few_answer_fields}
use Rattle.hx_session_parts.specs.OnWay.{AskBegins, AskGoesOn, AskEnds, IsAnswerOnWay, InterimsGoOn, AnswerBegins, AnswerGoesOn, AnswerEnds, AnswerRunsToEnd}

-- ---- limits

-- a head within the limits, and nothing behind it
short_front : (bytes : List ℕ) (n fields : ℕ) → n ≤ head_limit → fields ≤ field_limit → IsShort (take n bytes) [] fields
short_front bytes n fields size few = record { size = omega (arith, size, length-take n bytes); fields_few = few }

pub short_more : (bytes rest more : List ℕ) (fields : ℕ) → IsShort bytes rest fields → IsShort (bytes ++ more) (rest ++ more) fields
short_more bytes rest more fields short =
    record { size = omega (arith, short.size, length-append bytes more, length-append rest more); fields_few = short.fields_few }

-- ---- requests

pub ask_begins : AskBegins
ask_begins bytes a g meter is used =
    record {
      body = [];
      begins = record { reads = is.at.reads; version = is.at.version };
      short = short_front bytes a.head.length (length g.fields) is.short (few_fields bytes a.head g is.at);
      put_is = sym (append-nil (forwarded_request g));
      framed = is.framed;
      method = is.method;
      used = used;
    }

unfoldable pub ask_goes_on : AskGoesOn
ask_goes_on taken put moved g kind old new way on =
    record {
      body = way.body ++ moved;
      begins = record { reads = ReadsRequest-append taken g way.body moved way.begins.reads; version = way.begins.version };
      short = short_more taken way.body moved (length g.fields) way.short;
      put_is = ap (λ (xs : List ℕ). xs ++ moved) way.put_is ∙ append_assoc (forwarded_request g) way.body moved;
      framed = way.framed;
      method = way.method;
      used = on way.body way.used;
    }

pub ask_ends : AskEnds
ask_ends taken put g kind meter way done =
    let whole = subst (λ (s : MeterState). MeterFits kind way.body s) done way.used.fits in (
      (g, way.body, record { begins = way.begins; method = way.method; kind = kind; framed = way.framed; whole = whole.0 }, refl),
      (g, way.body, way.begins, way.short),
      inl (g, way.body, way.begins, way.put_is),
    )

-- ---- answers

-- interim heads within the limits are interim heads
pub begins_interims : (gs : List ResponseHead) (bytes rest : List ℕ) → BeginsShortInterims bytes gs rest → BeginsInterims bytes gs rest
begins_interims [] bytes rest is = is
begins_interims (g ∷ gs) bytes rest (middle, reads, interim, short, after) = (middle, reads, interim, begins_interims gs middle rest after)

-- with more bytes behind them
pub short_interims_more : (gs : List ResponseHead) (bytes rest more : List ℕ) → BeginsShortInterims bytes gs rest → BeginsShortInterims (bytes ++ more) gs (rest ++ more)
short_interims_more [] bytes rest more is = ap (λ (xs : List ℕ). xs ++ more) is
short_interims_more (g ∷ gs) bytes rest more (middle, reads, interim, short, after) = (
  middle ++ more,
  ReadsResponse-append bytes g middle more reads,
  interim,
  short_more bytes middle more (length g.fields) short,
  short_interims_more gs middle rest more after,
)

one_more : (gs : List ResponseHead) (bytes rest : List ℕ) (g : ResponseHead) → BeginsShortInterims bytes gs rest → ReadsResponse rest g [] → IsInterim g → IsShort rest [] (length g.fields)
    → BeginsShortInterims bytes (gs ++ g ∷ []) []
one_more [] bytes rest g is reads interim short =
    ([], subst (λ (xs : List ℕ). ReadsResponse xs g []) (sym is) reads, interim, subst (λ (xs : List ℕ). IsShort xs [] (length g.fields)) (sym is) short, refl)
one_more (k ∷ gs) bytes rest g (middle, head, first, few, after) reads interim short = (middle, head, first, few, one_more gs middle rest g after reads interim short)

abbrev texts : List ResponseHead → List ℕ
texts gs = flat_map (λ g. forwarded_answer g false) gs

texts_more : (gs : List ResponseHead) (g : ResponseHead) → texts (gs ++ g ∷ []) ≡ texts gs ++ forwarded_answer g false
texts_more [] g = append-nil (forwarded_answer g false)
texts_more (k ∷ gs) g =
    ap (λ (xs : List ℕ). forwarded_answer k false ++ xs) (texts_more gs g) ∙ sym (append_assoc (forwarded_answer k false) (texts gs) (forwarded_answer g false))

short_head : (bytes : List ℕ) (h : AnswerHead) (g : ResponseHead) → IsAnswerAt bytes h g → IsShortHead h → IsShort (take h.length bytes) [] (length g.fields)
short_head bytes h g at short = short_front bytes h.length (length g.fields) short (few_answer_fields bytes h g at)

pub interims_go_on : InterimsGoOn
interims_go_on taken put bytes h g (gs, begins, is) at short interim = (
  gs ++ g ∷ [],
  one_more gs (taken ++ take h.length bytes) (take h.length bytes) g (short_interims_more gs taken [] (take h.length bytes) begins) at.reads interim (short_head bytes h g at short),
  ap (λ (xs : List ℕ). xs ++ forwarded_answer g false) is ∙ sym (texts_more gs g),
)

pub answer_begins : AnswerBegins
answer_begins method closing taken put bytes a g meter (gs, begins, is) to used =
    record {
      interims = gs;
      rest = take a.head.length bytes;
      begins = short_interims_more gs taken [] (take a.head.length bytes) begins;
      body = [];
      reads = to.at.reads;
      final = to.final;
      short = short_head bytes a.head g to.at to.short;
      put_is = ap (λ (xs : List ℕ). xs ++ forwarded_answer g closing) is ∙ ap (λ (xs : List ℕ). texts gs ++ xs) (sym (append-nil (forwarded_answer g closing)));
      framed = to.framed;
      used = used;
    }

unfoldable pub answer_goes_on : AnswerGoesOn
answer_goes_on method closing taken put moved g kind old new way on =
    let head = forwarded_answer g closing in
    record {
      interims = way.interims;
      rest = way.rest ++ moved;
      begins = short_interims_more way.interims taken way.rest moved way.begins;
      body = way.body ++ moved;
      reads = ReadsResponse-append way.rest g way.body moved way.reads;
      final = way.final;
      short = short_more way.rest way.body moved (length g.fields) way.short;
      put_is =
          ap (λ (xs : List ℕ). xs ++ moved) way.put_is ∙ append_assoc (texts way.interims) (head ++ way.body) moved
          ∙ ap (λ (xs : List ℕ). texts way.interims ++ xs) (append_assoc head way.body moved);
      framed = way.framed;
      used = on way.body way.used;
    }

goes_out : (method : MethodKind) (closing : Bool) (taken put : List ℕ) (g : ResponseHead) (kind : BodyKind) (meter : Meter)
    → IsAnswerOnWay method closing taken put g kind meter → ForwardsAnswer taken closing put
goes_out method closing taken put g kind meter way =
    (way.interims, way.rest, begins_interims way.interims taken way.rest way.begins, forwarded_answer g closing ++ way.body, inl (g, way.body, way.reads, way.final, refl), way.put_is)

is_with : (method : MethodKind) (closing : Bool) (taken put : List ℕ) (g : ResponseHead) (kind : BodyKind) (meter : Meter)
    → (way : IsAnswerOnWay method closing taken put g kind meter) → IsBody kind way.body → IsAnswerWith method taken g kind
is_with method closing taken put g kind meter way whole =
    record {
      interims = way.interims;
      rest = way.rest;
      begins = begins_interims way.interims taken way.rest way.begins;
      body = way.body;
      reads = way.reads;
      final = way.final;
      framed = way.framed;
      whole = whole;
    }

is_short : (method : MethodKind) (closing : Bool) (taken put : List ℕ) (g : ResponseHead) (kind : BodyKind) (meter : Meter)
    → IsAnswerOnWay method closing taken put g kind meter → IsShortAnswer taken
is_short method closing taken put g kind meter way =
    record { interims = way.interims; rest = way.rest; begins = way.begins; head = g; body = way.body; reads = way.reads; final = way.final; short = way.short }

pub answer_ends : AnswerEnds
answer_ends method closing taken put g kind meter way done =
    let whole = subst (λ (s : MeterState). MeterFits kind way.body s) done way.used.fits in
    (is_with method closing taken put g kind meter way whole.0, whole.1, is_short method closing taken put g kind meter way, goes_out method closing taken put g kind meter way)

pub answer_runs_to_end : AnswerRunsToEnd
answer_runs_to_end method closing taken put g meter way =
    (is_with method closing taken put g ToEnd meter way tt, is_short method closing taken put g ToEnd meter way, goes_out method closing taken put g ToEnd meter way)
