-- A session that didn't move stands.
use Rattle.std.proofs.Common.{◌≡◌, ◌⊎◌, ℕ, ◌<◌, ◌≤◌, ◌+◌, Bool, true, false, List, [], ◌∷◌, ◌++◌, length, take, drop, refl, sym, ap, subst, ◌∙◌, inl, inr, arith, Option, Some, None, ⊎_elim}
use Rattle.std.specs.Prelude.{IfSome}
use Rattle.std.specs.List.{flat_map}
use Rattle.std.proofs.lemmas.List.{append-nil, take_all, take-append-drop}
use Rattle.std.proofs.Math.Seq.{take-append_seam}
use Rattle.httparse.specs.Grammar.{ResponseHead, ReadsResponse, HasNoResponse}
use Rattle.httparse.proofs.GrammarLemmas.{response_unique, ReadsResponse-append}
use Rattle.hx_conn.specs.Conns.{RestedNow}
use Rattle.hx_frame.specs.declared.progress.MeterState.{MeterState}
use Rattle.hx_frame.specs.declared.progress.MeterState.TheVariants.{Going, Done}
use Rattle.hx_frame.specs.Meters.{MeterFits, IsProperPart}
use Rattle.hx_frame.proofs.EndLemmas.{one_request_end, interims_more}
use Rattle.hx_link.specs.Told.{LinkState}
use Rattle.hx_message.specs.declared.MethodKind.{MethodKind}
use Rattle.hx_message.specs.Body.{IsBody}
use Rattle.hx_message.specs.Forwarded.{BeginsInterims, IsFinal, ForwardsRequest, forwarded_answer}
use Rattle.hx_message.specs.Partial.{HasWholeRequest, HasWholeAnswer}
use Rattle.hx_message.proofs.Unique.{interim_final}
use Rattle.hx_session_parts.specs.Answers.{AnswerLooks}
use Rattle.hx_session_parts.specs.declared.answers.AnswerLook.TheVariants as answer
use Rattle.hx_session_parts.specs.OnWay.{AreInterimsOnWay}
use Rattle.hx_session_parts.proofs.OnWayLemmas.{begins_interims}
use Rattle.hx_connecting.specs.Around.{resting}
use Rattle.hx_session.specs.declared.exchange.AnswerWay.{AnswerWay}
use Rattle.hx_session.specs.declared.exchange.AnswerWay.TheVariants.{Heads, Body}
use Rattle.hx_session.specs.declared.exchange.BodyWay.{BodyWay}
use Rattle.hx_session.specs.Answering.{CarriesAnswer, IsBodyCarried, IsAnswerCarried}
use Rattle.hx_session.specs.Asking.{IsAskCarried}
use Rattle.hx_session.specs.Bad.{WantsMore}
use Rattle.hx_session.specs.Carried.{IsCarried}
use Rattle.hx_session.specs.Cutting.{EndsBodyIn}
use Rattle.hx_session.specs.Desks.{DeskNow, IsDesk}
use Rattle.hx_session.specs.Exchanged.{ExchangeNow}
use Rattle.hx_session.specs.Over.{closing_of}
use Rattle.hx_session.specs.Seen.{session_seen}
use Rattle.hx_session.specs.Since.{HasSince}
use Rattle.hx_session.specs.Stages.{StageNow, StandsSo, IsBetween, Reading, Choosing, Exchanging, Answering, Left}
use Rattle.hx_session.specs.Standstill.{AnswerPassed, AskPassed, ReadWaits, Stands, StandsBy, StandsIdle, StandsInExchange, WriteWaits}
use Rattle.hx_session.specs.Still.{ReadWaited, WriteWaited, CannotGive, CannotRead, StageStill}
use Rattle.hx_session.specs.Waiting.{AnswerIdle, AskIdle, CannotReadServer, CannotSend, HeadIdle, NothingLeft, StandsStill}
use Rattle.hx_session.proofs.MessageEnds.{going_none, ask_none, ask_whole, answer_unwhole}
use Rattle.hx_session.proofs.PassedLemmas.{body_of}

-- a call that had to wait is one for which a session stands
waits_so : (a b : LinkState) (now : ℕ) → ReadWaited a b now → ReadWaits a b now
waits_so a b now w = record { waits = w.0.1; at = w.1; waited = w.2 }

writes_so : (a b : LinkState) (now : ℕ) → WriteWaited a b now → WriteWaits a b now
writes_so a b now w = record { waits = w.0.1; at = w.1 }

-- behind the front there are these bytes
drop_front : (before bytes : List ℕ) → drop (length before) (before ++ bytes) ≡ bytes
drop_front [] bytes = refl
drop_front (x ∷ xs) bytes = drop_front xs bytes

pub since_bytes : (P : List ℕ → Type 0) (told : Option (List ℕ)) (total from : ℕ) (bytes : List ℕ) → HasSince told total from bytes → P bytes → IfSome told (λ all. P (drop from all))
since_bytes P None total from bytes h p = tt
since_bytes P (Some all) total from bytes h p =
    let b = h.bytes_are in
    subst P (sym (ap (λ (xs : List ℕ). drop from xs) b.2 ∙ (ap (λ (k : ℕ). drop k (b.0 ++ bytes)) (sym b.1) ∙ drop_front b.0 bytes))) p

-- the same of two links
pub since_both : (P : List ℕ → List ℕ → Type 0) (a b : Option (List ℕ)) (n m i j : ℕ) (xs ys : List ℕ) → HasSince a n i xs → HasSince b m j ys → P xs ys
    → IfSome a (λ x. IfSome b (λ y. P (drop i x) (drop j y)))
since_both P a b n m i j xs ys h k p = since_bytes (λ x. IfSome b (λ y. P x (drop j y))) a n i xs h (since_bytes (λ y. P xs y) b m j ys k p)

ended_not : (b : Bool) → b ≡ false → b ≡ true → ⊥
ended_not b f t = cc

-- bytes that wait for the client had to wait
none_some : (bytes : List ℕ) → bytes ≡ [] → 1 ≤ length bytes → ⊥
none_some bytes e some = omega (arith, some, ap length e)

pub gives_waits : (d0 d : DeskNow) (now : ℕ) → CannotGive d0 d now → 1 ≤ length d.to.bytes → WriteWaits d0.client d.client now
gives_waits d0 d now gave some = ⊎_elim (λ none. absurd (none_some d.to.bytes none some)) (λ w. writes_so d0.client d.client now w) gave

-- while a head is read: the client is waited for, and more of it is wanted
reads_idle : (d0 d : DeskNow) (held : Option RestedNow) (now : ℕ) → IsDesk d → CannotRead d0 d (Reading held) now → length d.from.bytes < 16384 → d.ended ≡ false → ReadWaits d0.client d.client now
reads_idle d0 d held now desk cannot few open_ = ⊎_elim
    (λ e. absurd (ended_not d.ended open_ e))
    (λ r. ⊎_elim (λ full. absurd (omega (arith, few, full, desk.from))) (λ w. waits_so d0.client d.client now w) r)
    (cannot tt)

stands_reading : (front : ℕ) (d0 d : DeskNow) (s0 : StageNow) (held : Option RestedNow) (now : ℕ) → IsBetween d → CannotRead d0 d (Reading held) now → NothingLeft d (Reading held)
    → Stands (session_seen front d0 s0) (session_seen front d (Reading held)) now
stands_reading front d0 d s0 held now between cannot (open_, more) =
    by_held held (record {
      client = reads_idle d0 d held now between.anew.desk cannot more.0 open_;
      more = since_bytes (λ bytes. WantsMore bytes) d.client.taken d.client.taken_count d.ask_from d.from.bytes between.anew.taken more;
    })
  where
    by_held : (h : Option RestedNow) → StandsIdle (session_seen front d0 s0) (session_seen front d (Reading held)) now
        → StandsBy (session_seen front d0 s0) (session_seen front d (Reading held)) None (resting h) now
    by_held None i = i
    by_held (Some r) i = i

-- in an exchange: what waits for the server went out, and nothing more of the answer is there
waits_server : (d0 d : DeskNow) (e f : ExchangeNow) (now : ℕ) → IsDesk d → CannotGive d0 d now → CannotReadServer d e f now → AnswerIdle d f ⊎ HeadIdle d f → ReadWaits e.busy.link f.busy.link now ⊎ WriteWaits d0.client d.client now
waits_server d0 d e f now desk gave cannot idle = ⊎_elim
    (λ a. ⊎_elim
    (λ some. inr (gives_waits d0 d now gave some))
    (λ k. ⊎_elim
    (λ full. inr (gives_waits d0 d now gave (omega (arith, full, desk.to))))
    (λ b. inl (open_waits b.0 (omega (arith, ap (λ (xs : List ℕ). length xs) b.1.3))))
    k)
    a)
    (λ h. inl (open_waits h.0 (omega (arith, h.2.0))))
    idle
  where
    open_waits : f.ended ≡ false → length d.down.bytes < 18432 → ReadWaits e.busy.link f.busy.link now
    open_waits open_ few = ⊎_elim
        (λ x. absurd (ended_not f.ended open_ x))
        (λ r. ⊎_elim (λ full. absurd (omega (arith, full, few, desk.down))) (λ w. waits_so e.busy.link f.busy.link now w) r)
        cannot

-- a request whose meter is done is whole
whole_there : (d : DeskNow) (e : ExchangeNow) (a : IsAskCarried d e) → e.ask.state ≡ Done → HasWholeRequest (a.taken ++ d.from.bytes) (length a.taken + 0)
whole_there d e a done =
    let fits = subst (λ (x : MeterState). MeterFits a.kind a.way.body x) (sym a.state ∙ done) a.way.used.fits in
    let here : EndsBodyIn a.kind a.way.body d.from.bytes (Some 0) = (omega arith, subst (λ (xs : List ℕ). IsBody a.kind xs) (sym (append-nil a.way.body)) fits.0, fits.1) in
    ask_whole a.taken a.put d.from.bytes a.head a.kind e.ask.meter 0 a.way here

-- one that goes on, of which nothing is at hand, isn't
pub none_there : (d : DeskNow) (e : ExchangeNow) (a : IsAskCarried d e) → e.ask.state ≡ Going → (k : ℕ) → HasWholeRequest (a.taken ++ []) k → ⊥
none_there d e a going =
    let part : IsProperPart a.kind a.way.body = subst (λ (x : MeterState). MeterFits a.kind a.way.body x) (sym a.state ∙ going) a.way.used.fits in
    ask_none a.taken a.put [] a.head a.kind e.ask.meter a.way (λ front more is body. going_none a.kind a.way.body front more part (sym (append-nil a.way.body) ∙ is) body)

-- the client is waited for, unless the request is whole
waits_client : (d0 d : DeskNow) (e0 e : ExchangeNow) (now : ℕ) (c : IsCarried d e) → CannotSend d e0 e now → CannotRead d0 d (Exchanging e) now → AskIdle d e
    → WriteWaits e0.busy.link e.busy.link now
    ⊎ IfSome d.client.taken (λ taken. ((n : ℕ) → HasWholeRequest (drop d.ask_from taken) n → ⊥) → ReadWaits d0.client d.client now)
waits_client d0 d e0 e now c sent cannot idle = ⊎_elim
    (λ up. inr (since_bytes (λ bytes. ((n : ℕ) → HasWholeRequest bytes n → ⊥) → ReadWaits d0.client d.client now) d.client.taken d.client.taken_count d.ask_from (c.ask.taken ++ d.from.bytes) c.ask.front
    (λ none. ⊎_elim
    (λ done. absurd (none (length c.ask.taken + 0) (whole_there d e c.ask done)))
    (λ k. ⊎_elim
    (λ full. absurd (omega (arith, full, ap (λ (xs : List ℕ). length xs) up, c.desk.up)))
    (λ r. ⊎_elim
    (λ x. absurd (ended_not d.ended r.1 x))
    (λ y. ⊎_elim (λ full. absurd (omega (arith, full, ap (λ (xs : List ℕ). length xs) r.0, c.desk.from))) (λ w. waits_so d0.client d.client now w) y)
    (cannot k.0))
    k.1)
    idle)))
    (λ w. inl (writes_so e0.busy.link e.busy.link now w))
    sent

-- all bytes of the request went out
ask_passed : (d : DeskNow) (e : ExchangeNow) (c : IsCarried d e) → d.up.bytes ≡ [] → AskIdle d e → AskPassed (c.ask.taken ++ d.from.bytes) c.ask.sent
ask_passed d e c up idle = λ n ends. ⊎_elim
    (λ done. ⊎_elim
    (λ whole.
    let same : n ≡ length a.taken + 0 = one_request_end (a.taken ++ d.from.bytes) n (length a.taken + 0) whole (whole_there d e a done) in
    here n (ap (λ (k : ℕ). take k (a.taken ++ d.from.bytes)) (omega (arith, same)) ∙ take-append_seam a.taken d.from.bytes))
    (λ none. absurd (none.0 (length a.taken + 0) (whole_there d e a done)))
    ends)
    (λ k. ⊎_elim
    (λ full. absurd (omega (arith, full, ap (λ (xs : List ℕ). length xs) up, c.desk.up)))
    (λ r.
    let all : a.taken ++ d.from.bytes ≡ a.taken = ap (λ (xs : List ℕ). a.taken ++ xs) r.0 ∙ append-nil a.taken in
    ⊎_elim
    (λ whole. absurd (none_there d e a k.0 n (subst (λ (xs : List ℕ). HasWholeRequest (a.taken ++ xs) n) r.0 whole)))
    (λ none. here n (take_all n (a.taken ++ d.from.bytes) (omega (arith, none.1)) ∙ all))
    ends)
    k.1)
    idle
  where
    a : IsAskCarried d e
    a = c.ask

    sent_is : a.put ≡ a.sent
    sent_is = a.back ∙ (ap (λ (xs : List ℕ). a.sent ++ xs) up ∙ append-nil a.sent)

    here : (n : ℕ) → take n (a.taken ++ d.from.bytes) ≡ a.taken → ForwardsRequest (take n (a.taken ++ d.from.bytes)) a.sent
    here n is = subst (λ (xs : List ℕ). ForwardsRequest xs a.sent) (sym is) (inl (a.head, a.way.body, a.way.begins, sym sent_is ∙ a.way.put_is))

-- where no head stands behind the interim ones, there is no final head
pub no_final : (gs hs : List ResponseHead) (bytes rest rest' body : List ℕ) (g : ResponseHead) → BeginsInterims bytes gs rest → HasNoResponse rest → BeginsInterims bytes hs rest' → ReadsResponse rest' g body → IsFinal g → ⊥
no_final [] [] bytes rest rest' body g x none y reads final = none g body (subst (λ (xs : List ℕ). ReadsResponse xs g body) (sym y ∙ x) reads)
no_final [] (k ∷ hs) bytes rest rest' body g x none (m, q, i, y) reads final = none k m (subst (λ (xs : List ℕ). ReadsResponse xs k m) x q)
no_final (k ∷ gs) [] bytes rest rest' body g (m, q, i, x) none y reads final =
    interim_final k g (response_unique bytes k g m body q (subst (λ (xs : List ℕ). ReadsResponse xs g body) (sym y) reads)).0 i final
no_final (k ∷ gs) (l ∷ hs) bytes rest rest' body g (m, q, i, x) none (n, q', i', y) reads final =
    let u = response_unique bytes k l m n q q' in
    no_final gs hs m rest rest' body g x none (subst (λ (xs : List ℕ). BeginsInterims xs hs rest') (sym u.1) y) reads final

-- so no answer is whole
pub no_whole : (m : MethodKind) (gs : List ResponseHead) (bytes rest : List ℕ) (n : ℕ) → BeginsInterims bytes gs rest → HasNoResponse rest → HasWholeAnswer m bytes n → ⊥
no_whole m gs bytes rest n begins none (inside, (g, kind, x, own)) =
    let back = take-append-drop n bytes in
    no_final gs x.interims bytes rest (x.rest ++ drop n bytes) (x.body ++ drop n bytes) g begins none
    (subst (λ (xs : List ℕ). BeginsInterims xs x.interims (x.rest ++ drop n bytes)) back (interims_more x.interims (take n bytes) x.rest (drop n bytes) x.begins))
    (ReadsResponse-append x.rest g x.body (drop n bytes) x.reads)
    x.final

-- all bytes of the answer were given: interim heads, behind which none is at hand
heads_passed : (m : MethodKind) (taken put gave waiting : List ℕ) → AreInterimsOnWay taken put → put ≡ gave → AnswerLooks m waiting answer.More → AnswerPassed m false (taken ++ waiting) gave
heads_passed m taken put gave waiting (gs, short, is) all (few, none, may) =
    let begins = interims_more gs taken [] waiting (begins_interims gs taken [] short) in
    let texts = flat_map (λ (g : ResponseHead). forwarded_answer g false) gs in
    record {
      comes_back = (gs, waiting, begins, [], inr (λ g rest reads k. none g rest reads, refl), sym all ∙ (is ∙ sym (append-nil texts)));
      not_whole = λ n whole. no_whole m gs (taken ++ waiting) waiting n begins none whole;
      goes_on = (gs, waiting, begins, inl (few, none, may));
    }

-- or a body that goes on
body_passed : (b : BodyWay) (wants written : Bool) (m : MethodKind) (taken put gave : List ℕ) → IsBodyCarried b wants written m taken put → b.state ≡ Going → put ≡ gave → AnswerPassed m b.closing taken gave
body_passed b wants written m taken put gave k going all =
    let w = k.way in
    let begins = begins_interims w.interims taken w.rest w.begins in
    let part : IsProperPart k.kind w.body = subst (λ (x : MeterState). MeterFits k.kind w.body x) (sym k.state ∙ going) w.used.fits in
    record {
      comes_back = (w.interims, w.rest, begins, forwarded_answer k.head b.closing ++ w.body, inl (k.head, w.body, w.reads, w.final, refl), sym all ∙ w.put_is);
      not_whole = λ n whole. answer_unwhole m b.closing taken put [] k.head k.kind b.meter w
          (λ front more is body. going_none k.kind w.body front more part (sym (append-nil w.body) ∙ is) body) n (subst (λ (xs : List ℕ). HasWholeAnswer m xs n) (sym (append-nil taken)) whole);
      goes_on = (w.interims, w.rest, begins, inr (k.head, w.body, k.kind, w.reads, w.final, w.framed, part));
    }

answer_passed : (d : DeskNow) (e : ExchangeNow) (c : IsCarried d e) → d.to.bytes ≡ [] → AnswerIdle d e ⊎ HeadIdle d e → AnswerPassed e.busy.exchange.method (closing_of e.answer) (c.answer.taken ++ d.down.bytes) c.answer.gave
answer_passed d e c none idle = ⊎_elim
    (λ a. ⊎_elim
    (λ some. absurd (none_some d.to.bytes none some))
    (λ k. ⊎_elim
    (λ full. absurd (omega (arith, full, ap (λ (xs : List ℕ). length xs) none, c.desk.to)))
    (λ b. by_body b.1.0 b.1.1 b.1.2 b.1.3)
    k)
    a)
    (λ h. by_heads e.answer r.way h.1 h.2)
    idle
  where
    r : IsAnswerCarried d e
    r = c.answer

    m : MethodKind
    m = e.busy.exchange.method

    gave_is : r.put ≡ r.gave
    gave_is = r.back ∙ (ap (λ (xs : List ℕ). r.gave ++ xs) none ∙ append-nil r.gave)

    by_heads : (x : AnswerWay) → CarriesAnswer x e.ask.wants_close e.ask.written m r.taken r.put → x ≡ Heads → AnswerLooks m d.down.bytes answer.More → AnswerPassed m (closing_of x) (r.taken ++ d.down.bytes) r.gave
    by_heads Heads way is more = heads_passed m r.taken r.put r.gave d.down.bytes way gave_is more
    by_heads (Body b) way is more = absurd (other is)
      where
        other : Body b ≡ Heads → ⊥
        other z = cc

    by_body : (b : BodyWay) → e.answer ≡ Body b → b.state ≡ Going → d.down.bytes ≡ [] → AnswerPassed m (closing_of e.answer) (r.taken ++ d.down.bytes) r.gave
    by_body b is going nil =
        let k = body_of e.answer b e r.taken r.put is r.way in
        let whole = body_passed b e.ask.wants_close e.ask.written m r.taken r.put r.gave k going gave_is in
        subst (λ (x : AnswerWay). AnswerPassed m (closing_of x) (r.taken ++ d.down.bytes) r.gave) (sym is)
        (subst (λ (xs : List ℕ). AnswerPassed m b.closing xs r.gave) (sym (ap (λ (xs : List ℕ). r.taken ++ xs) nil ∙ append-nil r.taken)) whole)

-- an exchange that stands
stands_exchange : (front : ℕ) (d0 d : DeskNow) (s0 : StageNow) (e0 e : ExchangeNow) (now : ℕ) (c : IsCarried d e) → CannotGive d0 d now → CannotSend d e0 e now → CannotRead d0 d (Exchanging e) now → CannotReadServer d e0 e now
    → NothingLeft d (Exchanging e) → StandsInExchange (session_seen front d0 s0) (session_seen front d (Exchanging e)) e0.busy e.busy now
stands_exchange front d0 d s0 e0 e now c gave sent read server (idle, left) = record {
  server = waits_server d0 d e0 e now c.desk gave server left;
  client = waits_client d0 d e0 e now c sent read idle;
  goes_out = ⊎_elim
      (λ up. inr (since_both AskPassed d.client.taken e.busy.link.sent d.client.taken_count e.busy.link.sent_count d.ask_from e.busy.exchange.sent_from (c.ask.taken ++ d.from.bytes) c.ask.sent c.ask.front c.ask.sends (ask_passed d e c up idle)))
      (λ w. inl (writes_so e0.busy.link e.busy.link now w))
      sent;
  comes_back = ⊎_elim
      (λ none. inr (since_both (AnswerPassed e.busy.exchange.method (closing_of e.answer)) e.busy.link.taken d.client.sent e.busy.link.taken_count d.client.sent_count e.busy.exchange.taken_from d.gave_from
      (c.answer.taken ++ d.down.bytes) c.answer.gave c.answer.front c.answer.gives (answer_passed d e c none left)))
      (λ w. inl (writes_so d0.client d.client now w))
      gave;
}

-- as the worker sees it
pub stands_so : (front : ℕ) (d0 d : DeskNow) (s0 s : StageNow) (now : ℕ) → StandsSo d s → StandsStill d0 s0 d s now → Stands (session_seen front d0 s0) (session_seen front d s) now
stands_so front d0 d s0 (Reading held) now stands k = stands_reading front d0 d s0 held now stands k.unread.read k.unread.idle.nothing
stands_so front d0 d s0 (Choosing x) now stands k = absurd k.unread.idle.nothing
stands_so front d0 d s0 (Answering a) now stands k = gives_waits d0 d now k.unread.idle.paused.given.gave k.unread.idle.nothing
stands_so front d0 d s0 Left now stands k = absurd k.unread.idle.nothing
stands_so front d0 d s0 (Exchanging e) now stands k = by_start s0 refl k.unread.idle.paused.given.still.stage
  where
    by_start : (t : StageNow) → s0 ≡ t → StageStill t (Exchanging e) → Stands (session_seen front d0 s0) (session_seen front d (Exchanging e)) now
    by_start (Reading held) is still = absurd (other still)
      where
        other : Exchanging e ≡ Reading held → ⊥
        other z = cc
    by_start (Choosing x) is still = absurd (other still)
      where
        other : Exchanging e ≡ Choosing x → ⊥
        other z = cc
    by_start (Answering a) is still = absurd (other still)
      where
        other : Exchanging e ≡ Answering a → ⊥
        other z = cc
    by_start Left is still = absurd (other still)
      where
        other : Exchanging e ≡ Left → ⊥
        other z = cc
    by_start (Exchanging e0) is still = (
      e0.busy,
      ap (λ (x : StageNow). (session_seen front d0 x).conn) is,
      stands_exchange front d0 d s0 e0 e now stands k.unread.idle.paused.given.gave (k.unread.idle.paused.sent e0 e is refl) k.unread.read (k.server e0 e is refl) k.unread.idle.nothing,
    )
