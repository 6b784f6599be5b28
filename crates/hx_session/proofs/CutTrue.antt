-- The record of an exchange that is cut off is true.
use Rattle.std.proofs.Common.{◌≡◌, ◌+◌, ◌-◌, ◌≤◌, ℕ, Bool, true, false, List, [], ◌++◌, length, take, drop, sym, ap, subst, ◌∙◌, inl, inr, append_assoc, arith, Some, ⊎_elim}
use Rattle.std.specs.List.{flat_map}
use Rattle.std.proofs.lemmas.List.{append-nil, length-append, length-take, take-append-drop}
use Rattle.std.proofs.Math.Seq.{drop-append_seam}
use Rattle.httparse.specs.Grammar.{ResponseHead}
use Rattle.httparse.proofs.GrammarLemmas.{ReadsRequest-append, ReadsResponse-append}
use Rattle.hx_base.specs.Spans.{bytes_in, span_size}
use Rattle.hx_message.specs.declared.MethodKind.{MethodKind}
use Rattle.hx_message.specs.Forwarded.{BeginsRequest, ForwardsAnswer, forwarded_answer}
use Rattle.hx_message.specs.Body.{IsBody}
use Rattle.hx_message.specs.Message.{IsWholeAnswer}
use Rattle.hx_frame.specs.declared.progress.MeterState.{MeterState}
use Rattle.hx_frame.specs.Meters.{MeterFits}
use Rattle.hx_message.specs.Partial.{EndsRequest, EndsAnswer, HasFinalHead, BeginsForwardedRequest, BeginsForwardedAnswer}
use Rattle.hx_frame.proofs.EndLemmas.{interims_more, one_answer_end}
use Rattle.hx_record.specs.Truth.{IsTrueCut, IsEarly}
use Rattle.hx_record.specs.declared.served.CutCause.{CutCause}
use Rattle.hx_record.specs.declared.served.CutCause.TheVariants as cut
use Rattle.hx_record.specs.declared.served.Kind.TheVariants.{Cut}
use Rattle.hx_record.specs.declared.served.LeftCause.{LeftCause}
use Rattle.hx_session_parts.proofs.OnWayLemmas.{begins_interims}
use Rattle.hx_session.specs.declared.exchange.AnswerWay.{AnswerWay}
use Rattle.hx_session.specs.declared.exchange.AnswerWay.TheVariants.{Heads, Body}
use Rattle.hx_session.specs.Answering.{CarriesAnswer}
use Rattle.hx_session.specs.Asking.{IsAskCarried}
use Rattle.hx_session.specs.Carried.{IsCarried}
use Rattle.hx_session.specs.Desks.{DeskNow}
use Rattle.hx_session.specs.Exchanged.{ExchangeNow}
use Rattle.hx_session.specs.Over.{IsTold, carried_by, carried_of, served_of, closing_of, early_of}
use Rattle.hx_session.specs.Finishing.{IsAnswerGiven}
use Rattle.hx_session.specs.Cutting.{EndsBodyIn}
use Rattle.hx_session.proofs.PassedLemmas.{in_middle, lies_in, told_all, body_of, whole_way}
use Rattle.hx_session.proofs.MessageEnds.{answer_ended}

-- a list in three parts
three : (before taken waiting : List ℕ) (j : ℕ) → before ++ (taken ++ waiting) ≡ before ++ ((taken ++ take j waiting) ++ drop j waiting)
three before taken waiting j = ap (λ (xs : List ℕ). before ++ xs) (ap (λ (xs : List ℕ). taken ++ xs) (sym (take-append-drop j waiting)) ∙ sym (append_assoc taken (take j waiting) (drop j waiting)))

part_size : (from to j : ℕ) (taken waiting : List ℕ) → to ≡ from + length taken + j → j ≤ length waiting → to ≡ from + length (taken ++ take j waiting)
part_size from to j taken waiting is low = omega (arith, is, low, length-append taken (take j waiting), length-take j waiting)

-- of a list that is told, what stands behind a place
behind : (all before rest : List ℕ) (from : ℕ) → all ≡ before ++ rest → length before ≡ from → drop from all ≡ rest
behind all before rest from is size = ap (λ (k : ℕ). drop k all) (sym size) ∙ (ap (λ (xs : List ℕ). drop (length before) xs) is ∙ drop-append_seam before rest)

-- the request's text begins with what was sent
ask_sent : (d : DeskNow) (e : ExchangeNow) (more : List ℕ) (a : IsAskCarried d e) → BeginsForwardedRequest (a.taken ++ more) a.sent
ask_sent d e more a = (
  a.put ++ more,
  inl (
    a.head,
    a.way.body ++ more,
    record { reads = ReadsRequest-append a.taken a.head a.way.body more a.way.begins.reads; version = a.way.begins.version },
    ap (λ (xs : List ℕ). xs ++ more) a.way.put_is ∙ append_assoc _ a.way.body more,
  ),
  (d.up.bytes ++ more, ap (λ (xs : List ℕ). xs ++ more) a.back ∙ append_assoc a.sent d.up.bytes more),
)

-- and the answer's with what was given
answer_gave : (a : AnswerWay) (wants written : Bool) (m : MethodKind) (taken put gave to more : List ℕ) → CarriesAnswer a wants written m taken put → put ≡ gave ++ to → BeginsForwardedAnswer (taken ++ more) (closing_of a) gave
answer_gave Heads wants written m taken put gave to more (gs, begins, is) back =
    (gs, more, interims_more gs taken [] more (begins_interims gs taken [] begins), inl (to, sym is ∙ back))
answer_gave (Body b) wants written m taken put gave to more k back =
    let w = k.way in
    let texts = flat_map (λ (g : ResponseHead). forwarded_answer g false) w.interims in
    let head = forwarded_answer k.head b.closing in (
      w.interims,
      w.rest ++ more,
      interims_more w.interims taken w.rest more (begins_interims w.interims taken w.rest w.begins),
      inr (
        k.head,
        w.body ++ more,
        ReadsResponse-append w.rest k.head w.body more w.reads,
        w.final,
        (to ++ more, sym (ap (λ (xs : List ℕ). texts ++ xs) (append_assoc head w.body more)) ∙ (sym (append_assoc texts (head ++ w.body) more) ∙ (ap (λ (xs : List ℕ). xs ++ more) (sym w.put_is ∙ back) ∙ append_assoc gave to more))),
      ),
    )

answer_final : (a : AnswerWay) (wants written : Bool) (m : MethodKind) (taken put more : List ℕ) → CarriesAnswer a wants written m taken put → closing_of a ≡ true → HasFinalHead (taken ++ more)
answer_final Heads wants written m taken put more k e = absurd (not_true e)
  where
    not_true : false ≡ true → ⊥
    not_true x = cc
answer_final (Body b) wants written m taken put more k e =
    let w = k.way in
    (w.interims, w.rest ++ more, interims_more w.interims taken w.rest more (begins_interims w.interims taken w.rest w.begins), k.head, w.body ++ more, ReadsResponse-append w.rest k.head w.body more w.reads, w.final)

pub cut_true : (d : DeskNow) (e : ExchangeNow) (w : CutCause) (why : LeftCause) (ask_to took_to j i : ℕ) → (c : IsCarried d e) → ask_to ≡ d.ask_from + length c.ask.taken + j → j ≤ length d.from.bytes
    → took_to ≡ e.busy.exchange.taken_from + length c.answer.taken + i → i ≤ length d.down.bytes → EndsRequest (c.ask.taken ++ d.from.bytes) (length c.ask.taken + j)
    → EndsAnswer e.busy.exchange.method (c.answer.taken ++ d.down.bytes) (length c.answer.taken + i)
    → (w ≡ cut.Early → IsEarly e.busy.exchange.method (closing_of e.answer) (c.answer.taken ++ take i d.down.bytes) c.answer.gave e.busy.link.told_end)
    → IsTold d.client e.busy.link why (served_of d (Cut (carried_of e took_to) w) ask_to)
cut_true d e w why ask_to took_to j i c asks low takes few ask_ends answer_ends early =
    let a = c.ask in
    let r = c.answer in
    let m = e.busy.exchange.method in
    let s = served_of d (Cut (carried_of e took_to) w) ask_to in
    let k = carried_of e took_to in
    let asked = a.taken ++ take j d.from.bytes in
    let took = r.taken ++ take i d.down.bytes in
    let ask_size : ask_to ≡ d.ask_from + length asked = part_size d.ask_from ask_to j a.taken d.from.bytes asks low in
    let took_size : took_to ≡ e.busy.exchange.taken_from + length took = part_size e.busy.exchange.taken_from took_to i r.taken d.down.bytes takes few in
    told_all d.client.taken d.client.sent e.busy.link.taken e.busy.link.sent d.client.taken_count d.client.sent_count e.busy.link.taken_count e.busy.link.sent_count
    d.ask_from d.gave_from e.busy.exchange.taken_from e.busy.exchange.sent_from (a.taken ++ d.from.bytes) r.gave (r.taken ++ d.down.bytes) a.sent
    (λ ct cs st ss. IsTrueCut s k w (carried_by ct cs d.client.told_end) (carried_by st ss e.busy.link.told_end)) a.front r.gives r.front a.sends
    (λ ct cs st ss is_ct is_ss is_st tc tg tt_ ts.
    let ct_is : ct ≡ tc.before ++ (asked ++ drop j d.from.bytes) = tc.is ∙ three tc.before a.taken d.from.bytes j in
    let st_is : st ≡ tt_.before ++ (took ++ drop i d.down.bytes) = tt_.is ∙ three tt_.before r.taken d.down.bytes i in
    let gave_whole : cs ≡ tg.before ++ (r.gave ++ []) = tg.is ∙ ap (λ (xs : List ℕ). tg.before ++ xs) (sym (append-nil r.gave)) in
    let sent_whole : ss ≡ ts.before ++ (a.sent ++ []) = ts.is ∙ ap (λ (xs : List ℕ). ts.before ++ xs) (sym (append-nil a.sent)) in
    let gave_size : d.given ≡ d.gave_from + length r.gave = c.desk.given ∙ r.gives.count in
    let q : bytes_in ct s.ask ≡ asked = in_middle ct tc.before asked (drop j d.from.bytes) s.ask ct_is tc.size ask_size in
    let g : bytes_in cs s.gave ≡ r.gave = in_middle cs tg.before r.gave [] s.gave gave_whole tg.size gave_size in
    let t : bytes_in st k.took ≡ took = in_middle st tt_.before took (drop i d.down.bytes) k.took st_is tt_.size took_size in
    let o : bytes_in ss k.sent ≡ a.sent = in_middle ss ts.before a.sent [] k.sent sent_whole ts.size a.sends.count in
    let ask_from : drop d.ask_from ct ≡ a.taken ++ d.from.bytes = behind ct tc.before (a.taken ++ d.from.bytes) d.ask_from tc.is tc.size in
    let took_from : drop e.busy.exchange.taken_from st ≡ r.taken ++ d.down.bytes = behind st tt_.before (r.taken ++ d.down.bytes) e.busy.exchange.taken_from tt_.is tt_.size in
    let ask_span : ask_to - d.ask_from ≡ length a.taken + j = omega (arith, asks) in
    let took_span : took_to - e.busy.exchange.taken_from ≡ length r.taken + i = omega (arith, takes) in
    record {
      ranges = record {
        first = omega arith;
        ask = lies_in ct tc.before asked (drop j d.from.bytes) s.ask ct_is tc.size ask_size;
        gave = lies_in cs tg.before r.gave [] s.gave gave_whole tg.size gave_size;
        sent = lies_in ss ts.before a.sent [] k.sent sent_whole ts.size a.sends.count;
        took = lies_in st tt_.before took (drop i d.down.bytes) k.took st_is tt_.size took_size;
      };
      head = a.head;
      rest = a.way.body ++ take j d.from.bytes;
      begins = subst (λ (xs : List ℕ). BeginsRequest xs a.head (a.way.body ++ take j d.from.bytes)) (sym q)
          (record { reads = ReadsRequest-append a.taken a.head a.way.body (take j d.from.bytes) a.way.begins.reads; version = a.way.begins.version });
      ask = subst (λ (n : ℕ). EndsRequest (drop d.ask_from ct) n) (sym ask_span) (subst (λ (xs : List ℕ). EndsRequest xs (length a.taken + j)) (sym ask_from) ask_ends);
      sent = subst (λ (xs : List ℕ). BeginsForwardedRequest xs (bytes_in ss k.sent)) (sym q) (subst (λ (xs : List ℕ). BeginsForwardedRequest asked xs) (sym o) (ask_sent d e (take j d.from.bytes) a));
      all_sent = omega (arith, ts.size, ap length ts.is, length-append ts.before a.sent, a.sends.count);
      took = subst (λ (x : MethodKind). EndsAnswer x (drop e.busy.exchange.taken_from st) (span_size k.took)) (sym a.method)
          (subst (λ (n : ℕ). EndsAnswer m (drop e.busy.exchange.taken_from st) n) (sym took_span) (subst (λ (xs : List ℕ). EndsAnswer m xs (length r.taken + i)) (sym took_from) answer_ends));
      gave = subst (λ (xs : List ℕ). BeginsForwardedAnswer xs (closing_of e.answer) (bytes_in cs s.gave)) (sym t) (subst (λ (xs : List ℕ). BeginsForwardedAnswer took (closing_of e.answer) xs) (sym g)
          (answer_gave e.answer e.ask.wants_close e.ask.written m r.taken r.put r.gave d.to.bytes (take i d.down.bytes) r.way r.back));
      closing = λ x. subst HasFinalHead (sym t) (answer_final e.answer e.ask.wants_close e.ask.written m r.taken r.put (take i d.down.bytes) r.way x);
      early = λ x. subst (λ (n : MethodKind). IsEarly n (closing_of e.answer) (bytes_in st k.took) (bytes_in cs s.gave) e.busy.link.told_end) (sym a.method)
          (subst (λ (xs : List ℕ). IsEarly m (closing_of e.answer) xs (bytes_in cs s.gave) e.busy.link.told_end) (sym t) (subst (λ (xs : List ℕ). IsEarly m (closing_of e.answer) took xs e.busy.link.told_end) (sym g) (early x)));
    })

-- an early answer was whole, and went on whole
pub early_true : (d : DeskNow) (e : ExchangeNow) (i : ℕ) (c : IsCarried d e) → IsAnswerGiven d e → early_of e.answer ≡ true → EndsAnswer e.busy.exchange.method (c.answer.taken ++ d.down.bytes) (length c.answer.taken + i) → i ≤ length d.down.bytes
    → IsEarly e.busy.exchange.method (closing_of e.answer) (c.answer.taken ++ take i d.down.bytes) c.answer.gave e.busy.link.told_end
early_true d e i c whole early answer_end low =
    let r = c.answer in
    let m = e.busy.exchange.method in
    let b = whole.body in
    let body = body_of e.answer b e r.taken r.put whole.is r.way in
    let End : Type 0 = (e.ended ≡ true) × (d.down.bytes ≡ []) in
    let ends = whole_way b m r.taken r.put body.head body.kind End body.way body.state body.to_end whole.ends in
    let closes : b.closing ≡ true = body.closes (sym (ap early_of whole.is) ∙ early) in
    let none : i ≡ 0 = ⊎_elim
    (λ done.
    let fits = subst (λ (s : MeterState). MeterFits body.kind body.way.body s) (sym body.state ∙ done) body.way.used.fits in
    let here : EndsBodyIn body.kind body.way.body d.down.bytes (Some 0) = (omega arith, subst (λ (xs : List ℕ). IsBody body.kind xs) (sym (append-nil body.way.body)) fits.0, fits.1) in
    let h = answer_ended m b.closing r.taken r.put d.down.bytes body.head body.kind b.meter 0 body.way here in
    ⊎_elim (λ x. let same = one_answer_end m (r.taken ++ d.down.bytes) (length r.taken + i) (length r.taken + 0) x.0 h.0 in omega (arith, same)) (λ x. absurd (x.0 (length r.taken + 0) h)) answer_end)
    (λ to_end. omega (arith, low, ap (λ (xs : List ℕ). length xs) to_end.1.1))
    whole.ends in
    let took : r.taken ++ take i d.down.bytes ≡ r.taken = ap (λ (k : ℕ). r.taken ++ take k d.down.bytes) none ∙ append-nil r.taken in
    let gave : r.put ≡ r.gave = r.back ∙ ap (λ (xs : List ℕ). r.gave ++ xs) whole.given ∙ append-nil r.gave in (
      ap closing_of whole.is ∙ closes,
      subst (λ (xs : List ℕ). IsWholeAnswer m xs (e.busy.link.told_end ≡ true)) (sym took) (body.head, body.kind, ends.0, λ x. c.ended (ends.1 x).0),
      subst (λ (xs : List ℕ). ForwardsAnswer xs true r.gave) (sym took) (subst (λ (x : Bool). ForwardsAnswer r.taken x r.gave) closes (subst (λ (xs : List ℕ). ForwardsAnswer r.taken b.closing xs) gave ends.2)),
    )
