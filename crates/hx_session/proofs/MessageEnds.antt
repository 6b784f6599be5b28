-- Where a message ends of which a part is on its way.
use Rattle.std.proofs.Common.{◌≡◌, ℕ, ◌+◌, ◌<◌, ◌≤◌, Bool, List, [], ◌∷◌, ◌++◌, length, take, drop, Ok, refl, sym, ap, subst, ◌∙◌, inl, inr, append_assoc, arith, length-append, Some, None, ⊎_elim}
use Rattle.std.proofs.lemmas.List.{append-nil, take-append-drop, take-append-le, take_all, length-take}
use Rattle.std.proofs.lemmas.Bool.{cases_lt}
use Rattle.std.proofs.Math.Seq.{take-append-add, take-append_seam}
use Rattle.httparse.specs.Grammar.{RequestHead, ResponseHead, ReadsRequest, ReadsResponse}
use Rattle.httparse.proofs.GrammarLemmas.{request_unique, ReadsRequest-append, ReadsResponse-append}
use Rattle.hx_message.specs.declared.MethodKind.{MethodKind}
use Rattle.hx_message.specs.declared.BodyKind.{BodyKind}
use Rattle.hx_message.specs.declared.BodyKind.TheVariants.{Nothing, Length, Chunked, ToEnd}
use Rattle.hx_message.specs.Body.{Framed, IsBody, kind_of_method, request_kind, answer_kind}
use Rattle.hx_message.specs.Forwarded.{BeginsInterims, IsFinal}
use Rattle.hx_message.specs.Limits.{IsShortAnswer}
use Rattle.hx_message.specs.Message.{IsRequest, IsAnswerWith}
use Rattle.hx_message.specs.Partial.{HasWholeRequest, HasShortAnswer, HasWholeAnswer}
use Rattle.hx_frame.specs.declared.meter.Meter.{Meter}
use Rattle.hx_frame.specs.declared.progress.MeterState.{MeterState}
use Rattle.hx_frame.specs.declared.progress.MeterState.TheVariants.{Going, Done, Bad}
use Rattle.hx_frame.specs.Meters.{MeterFits, IsProperPart, NoBodyBegins, FeedSays}
use Rattle.hx_frame.proofs.EndLemmas.{one_body_end, one_request_end, interims_more, one_final_body}
use Rattle.hx_session_parts.specs.OnWay.{IsAskOnWay, IsAnswerOnWay}
use Rattle.hx_session_parts.proofs.OnWayLemmas.{short_more, begins_interims, short_interims_more}
use Rattle.hx_session.specs.Breaking.{BreaksHere}
use Rattle.hx_session.specs.Cutting.{EndsBodyIn, EndsAsk}

-- a body behind which more bytes belong to a body runs to the end
proper_none : (kind : BodyKind) (front more : List ℕ) → IsBody kind front → IsBody kind (front ++ more) → 0 < length more → kind ≡ ToEnd
proper_none Nothing front more x y some = absurd (omega (arith, some, ap length (one_body_end Nothing front more (λ e. cc) x y)))
proper_none (Length k) front more x y some = absurd (omega (arith, some, ap length (one_body_end (Length k) front more (λ e. cc) x y)))
proper_none Chunked front more x y some = absurd (omega (arith, some, ap length (one_body_end Chunked front more (λ e. cc) x y)))
proper_none ToEnd front more x y some = refl

pub going_none : (kind : BodyKind) (whole front more : List ℕ) → IsProperPart kind whole → whole ≡ front ++ more → IsBody kind front → kind ≡ ToEnd
going_none kind whole front more part is body =
    let m = part.0 in
    proper_none kind front (more ++ m) body (subst (λ (xs : List ℕ). IsBody kind xs) (ap (λ (xs : List ℕ). xs ++ m) is ∙ append_assoc front more m) part.2)
    (omega (arith, part.1, length-append more m))

-- of two fronts of one list the longer one begins with the other
fronts : (a b c d : List ℕ) → a ++ b ≡ c ++ d → length a ≤ length c → (m : List ℕ) × (c ≡ a ++ m)
fronts a b c d e le =
    let same : take (length a) c ≡ a = sym (take-append-le (length a) c d le) ∙ (ap (λ (xs : List ℕ). take (length a) xs) (sym e) ∙ take-append_seam a b) in
    (drop (length a) c, sym (take-append-drop (length a) c) ∙ ap (λ (xs : List ℕ). xs ++ drop (length a) c) same)

-- where the next byte breaks the body
breaks_none : (kind : BodyKind) (before waiting : List ℕ) (n : ℕ) → IsProperPart kind (before ++ take n waiting) → n < length waiting → NoBodyBegins kind (before ++ take (n + 1) waiting)
    → EndsBodyIn kind before waiting None
breaks_none kind before waiting n part low none = λ front more is body.
    let used = before ++ take n waiting in
    let broken = before ++ take (n + 1) waiting in
    let split : used ++ drop n waiting ≡ before ++ waiting = append_assoc before (take n waiting) (drop n waiting) ∙ ap (λ (xs : List ℕ). before ++ xs) (take-append-drop n waiting) in
    let split1 : broken ++ drop (n + 1) waiting ≡ before ++ waiting = append_assoc before (take (n + 1) waiting) (drop (n + 1) waiting) ∙ ap (λ (xs : List ℕ). before ++ xs) (take-append-drop (n + 1) waiting) in
    ⊎_elim
    (λ longer.
    let m = fronts broken (drop (n + 1) waiting) front more (split1 ∙ is) (omega (arith, longer, low, length-append before (take n waiting), length-append before (take (n + 1) waiting), length-take n waiting, length-take (n + 1) waiting)) in
    absurd (none m.0 (subst (λ (xs : List ℕ). IsBody kind xs) m.1 body)))
    (λ shorter.
    let m = fronts front more used (drop n waiting) (sym (split ∙ is)) shorter in
    going_none kind used front m.0 part m.1 body)
    (cases_lt (length used) (length front))

-- what a feed says of the end of the body
pub feed_done : (kind : BodyKind) (old now : MeterState) (before waiting : List ℕ) (n : ℕ) → FeedSays kind old now before waiting n → now ≡ Done → EndsBodyIn kind before waiting (Some n)
feed_done kind old now before waiting n says is =
    let fits = subst (λ (s : MeterState). MeterFits kind (before ++ take n waiting) s) is says.fits in
    (says.within, fits.0, fits.1)

all_used : (kind : BodyKind) (before waiting : List ℕ) (n : ℕ) → n ≡ length waiting → IsProperPart kind (before ++ take n waiting) → IsProperPart kind (before ++ waiting)
all_used kind before waiting n all part = subst (λ (xs : List ℕ). IsProperPart kind (before ++ xs)) (take_all n waiting (omega (arith, all))) part

pub feed_none : (kind : BodyKind) (old now : MeterState) (before waiting : List ℕ) (n : ℕ) → FeedSays kind old now before waiting n → (old ≡ Bad → BreaksHere kind before waiting) → (now ≡ Done → ⊥)
    → EndsBodyIn kind before waiting None
feed_none kind Going Going before waiting n says bad not = λ front more is body. going_none kind (before ++ waiting) front more (all_used kind before waiting n (says.going refl) says.fits) is body
feed_none kind Going Bad before waiting n says bad not = let ends = says.going refl in breaks_none kind before waiting n says.fits.0 ends.0 ends.1
feed_none kind Going Done before waiting n says bad not = absurd (not refl)
feed_none kind Done now before waiting n says bad not = absurd (not (says.ended (λ e. cc)).1)
feed_none kind Bad now before waiting n says bad not =
    let ended = says.ended (λ e. cc) in
    let fits = subst (λ (s : MeterState). MeterFits kind (before ++ take n waiting) s) ended.1 says.fits in
    let b = bad refl in
    breaks_none kind before waiting 0 (subst (λ (k : ℕ). IsProperPart kind (before ++ take k waiting)) ended.0 fits.0) b.some b.none

-- a request tells its own end
ask_more : (taken put more : List ℕ) (g : RequestHead) (kind : BodyKind) (meter : Meter) (w : IsAskOnWay taken put g kind meter) → IsBody kind (w.body ++ more) → IsRequest (taken ++ more) (kind_of_method g.method)
ask_more taken put more g kind meter w whole = (
  g,
  w.body ++ more,
  record {
    begins = record { reads = ReadsRequest-append taken g w.body more w.begins.reads; version = w.begins.version };
    method = w.method;
    kind = kind;
    framed = w.framed;
    whole = whole;
  },
  refl,
)

ask_tells : (taken put : List ℕ) (g : RequestHead) (kind : BodyKind) (meter : Meter) → IsAskOnWay taken put g kind meter → kind ≡ ToEnd → ⊥
ask_tells taken put g kind meter w e =
    let m = kind_of_method g.method in
    let one : List ℕ = 0 ∷ [] in
    let none : List ℕ = [] in
    let bytes = taken ++ one in
    let first : HasWholeRequest bytes (length taken) = (
      omega (arith, length-append taken one),
      (
        m,
        subst (λ (xs : List ℕ). IsRequest xs m) (sym (take-append_seam taken one))
            (subst (λ (xs : List ℕ). IsRequest xs m) (append-nil taken) (ask_more taken put none g kind meter w (subst (λ (k : BodyKind). IsBody k (w.body ++ none)) (sym e) tt))),
      ),
    ) in
    let then : HasWholeRequest bytes (length taken + 1) = (
      omega (arith, length-append taken one),
      (
        m,
        subst (λ (xs : List ℕ). IsRequest xs m) (sym (take-append-add taken one 1))
            (ask_more taken put one g kind meter w (subst (λ (k : BodyKind). IsBody k (w.body ++ one)) (sym e) tt)),
      ),
    ) in
    omega (arith, one_request_end bytes (length taken) (length taken + 1) first then)

same_kind : (k l : BodyKind) (r s : Framed) → r ≡ s → r ≡ Ok k → s ≡ Ok l → k ≡ l
same_kind k l r s e a b = cc

pub ask_whole : (taken put waiting : List ℕ) (g : RequestHead) (kind : BodyKind) (meter : Meter) (n : ℕ) (w : IsAskOnWay taken put g kind meter) → EndsBodyIn kind w.body waiting (Some n)
    → HasWholeRequest (taken ++ waiting) (length taken + n)
ask_whole taken put waiting g kind meter n w ends = (
  omega (arith, ends.0, length-append taken waiting),
  (kind_of_method g.method, subst (λ (xs : List ℕ). IsRequest xs (kind_of_method g.method)) (sym (take-append-add taken waiting n)) (ask_more taken put (take n waiting) g kind meter w ends.1)),
)

pub ask_none : (taken put waiting : List ℕ) (g : RequestHead) (kind : BodyKind) (meter : Meter) (w : IsAskOnWay taken put g kind meter) → EndsBodyIn kind w.body waiting None
    → (k : ℕ) → HasWholeRequest (taken ++ waiting) k → ⊥
ask_none taken put waiting g kind meter w ends k (inside, (m, (g', body', x, is))) =
    let all = taken ++ waiting in
    let more = drop k all in
    let theirs : ReadsRequest all g' (body' ++ more) = subst (λ (b : List ℕ). ReadsRequest b g' (body' ++ more)) (take-append-drop k all) (ReadsRequest-append (take k all) g' body' more x.begins.reads) in
    let mine : ReadsRequest all g (w.body ++ waiting) = ReadsRequest-append taken g w.body waiting w.begins.reads in
    let u = request_unique all g g' (w.body ++ waiting) (body' ++ more) mine theirs in
    let same = same_kind kind x.kind (request_kind g) (request_kind g') (ap request_kind u.0) w.framed x.framed in
    ask_tells taken put g kind meter w (ends body' more u.1 (subst (λ (l : BodyKind). IsBody l body') (sym same) x.whole))

pub ask_ended : (taken put waiting : List ℕ) (g : RequestHead) (kind : BodyKind) (meter : Meter) (n : ℕ) (w : IsAskOnWay taken put g kind meter) → EndsBodyIn kind w.body waiting (Some n) → EndsAsk taken waiting n
ask_ended taken put waiting g kind meter n w ends = record { within = ends.0; ends = inl (ask_whole taken put waiting g kind meter n w ends) }

pub ask_cut : (taken put waiting : List ℕ) (g : RequestHead) (kind : BodyKind) (meter : Meter) (w : IsAskOnWay taken put g kind meter) → EndsBodyIn kind w.body waiting None → EndsAsk taken waiting (length waiting)
ask_cut taken put waiting g kind meter w ends = record { within = omega arith; ends = inr (ask_none taken put waiting g kind meter w ends, sym (length-append taken waiting)) }

-- an answer whose final head went on
answer_more : (m : MethodKind) (taken more : List ℕ) (interims : List ResponseHead) (rest body : List ℕ) (g : ResponseHead) (kind : BodyKind) → BeginsInterims taken interims rest → ReadsResponse rest g body
    → IsFinal g → answer_kind m g ≡ Ok kind → IsBody kind (body ++ more) → IsAnswerWith m (taken ++ more) g kind
answer_more m taken more interims rest body g kind begins reads final framed whole = record {
  interims = interims;
  rest = rest ++ more;
  begins = interims_more interims taken rest more begins;
  body = body ++ more;
  reads = ReadsResponse-append rest g body more reads;
  final = final;
  framed = framed;
  whole = whole;
}

pub answer_ended : (m : MethodKind) (closing : Bool) (taken put waiting : List ℕ) (g : ResponseHead) (kind : BodyKind) (meter : Meter) (n : ℕ) (w : IsAnswerOnWay m closing taken put g kind meter)
    → EndsBodyIn kind w.body waiting (Some n) → HasShortAnswer m (taken ++ waiting) (length taken + n)
answer_ended m closing taken put waiting g kind meter n w ends =
    let more = take n waiting in
    let same = sym (take-append-add taken waiting n) in (
      (
        omega (arith, ends.0, length-append taken waiting),
        (g, kind, subst (λ (xs : List ℕ). IsAnswerWith m xs g kind) same (answer_more m taken more w.interims w.rest w.body g kind (begins_interims w.interims taken w.rest w.begins) w.reads w.final w.framed ends.1), ends.2),
      ),
      subst IsShortAnswer same (record {
        interims = w.interims;
        rest = w.rest ++ more;
        begins = short_interims_more w.interims taken w.rest more w.begins;
        head = g;
        body = w.body ++ more;
        reads = ReadsResponse-append w.rest g w.body more w.reads;
        final = w.final;
        short = short_more w.rest w.body more (length g.fields) w.short;
      }),
    )

pub answer_unwhole : (m : MethodKind) (closing : Bool) (taken put waiting : List ℕ) (g : ResponseHead) (kind : BodyKind) (meter : Meter) (w : IsAnswerOnWay m closing taken put g kind meter)
    → EndsBodyIn kind w.body waiting None → (k : ℕ) → HasWholeAnswer m (taken ++ waiting) k → ⊥
answer_unwhole m closing taken put waiting g kind meter w ends k (inside, (g', kind', x, own)) =
    let all = taken ++ waiting in
    let more = drop k all in
    let back = take-append-drop k all in
    let theirs : BeginsInterims all x.interims (x.rest ++ more) = subst (λ (b : List ℕ). BeginsInterims b x.interims (x.rest ++ more)) back (interims_more x.interims (take k all) x.rest more x.begins) in
    let mine : BeginsInterims all w.interims (w.rest ++ waiting) = interims_more w.interims taken w.rest waiting (begins_interims w.interims taken w.rest w.begins) in
    let u = one_final_body w.interims x.interims all (w.rest ++ waiting) (x.rest ++ more) (w.body ++ waiting) (x.body ++ more) g g' mine (ReadsResponse-append w.rest g w.body waiting w.reads) w.final
    theirs (ReadsResponse-append x.rest g' x.body more x.reads) x.final in
    let same = same_kind kind kind' (answer_kind m g) (answer_kind m g') (ap (answer_kind m) u.0) w.framed x.framed in
    own (sym same ∙ ends x.body more u.1 (subst (λ (l : BodyKind). IsBody l x.body) (sym same) x.whole))

pub answer_none : (m : MethodKind) (closing : Bool) (taken put waiting : List ℕ) (g : ResponseHead) (kind : BodyKind) (meter : Meter) (w : IsAnswerOnWay m closing taken put g kind meter)
    → EndsBodyIn kind w.body waiting None → (k : ℕ) → HasShortAnswer m (taken ++ waiting) k → ⊥
answer_none m closing taken put waiting g kind meter w ends k h = answer_unwhole m closing taken put waiting g kind meter w ends k h.0
