-- Where an answer ends whose heads are looked for in the bytes that wait.
use Rattle.std.proofs.Common.{◌≡◌, ◌⊎◌, ℕ, ◌+◌, ◌-◌, ◌≤◌, Bool, true, false, List, [], ◌∷◌, ◌++◌, length, take, drop, Ok, Err, refl, sym, ap, subst, ◌∙◌, inl, inr, append_assoc, arith, length-append, Option, Some, None, ⊎_elim}
use Rattle.std.specs.List.{flat_map}
use Rattle.std.proofs.lemmas.List.{append-nil, take-append-drop, length-drop, length-take}
use Rattle.std.proofs.Math.Seq.{take-append-add}
use Rattle.httparse.specs.Grammar.{ResponseHead, ReadsResponse, HasNoResponse, print_response, status_code}
use Rattle.httparse.proofs.GrammarLemmas.{response_unique, ReadsResponse-append}
use Rattle.hx_message.specs.declared.BodyKind.{BodyKind}
use Rattle.hx_message.specs.declared.FrameFault.{FrameFault}
use Rattle.hx_message.specs.declared.MethodKind.{MethodKind}
use Rattle.hx_message.specs.Body.{Framed, answer_kind}
use Rattle.hx_message.specs.Forwarded.{BeginsInterims, IsInterim, IsFinal, forwarded_answer}
use Rattle.hx_message.specs.Limits.{BeginsShortInterims, IsShort, head_limit}
use Rattle.hx_message.specs.Partial.{HasShortAnswer}
use Rattle.hx_message.proofs.Unique.{interim_final}
use Rattle.hx_head.specs.Causes.{RefusesAnswer}
use Rattle.hx_head.specs.declared.head.AnswerHead.{AnswerHead}
use Rattle.hx_head.specs.declared.refusal.Refusal.{Refusal}
use Rattle.hx_head.specs.declared.refusal.Refusal.TheVariants.{NotAHead, TooLong, TooManyFields, Version, Status}
use Rattle.hx_frame.specs.declared.meter.Meter.{Meter}
use Rattle.hx_frame.specs.Meters.{HasUsed, state_of}
use Rattle.hx_frame.specs.declared.progress.MeterState.TheVariants.{Bad}
use Rattle.hx_session_parts.specs.declared.answers.Answered.{Answered}
use Rattle.hx_session_parts.specs.Answers.{AnswerLooks, BreaksAnswer, IsInterimAt, IsAnswerTo}
use Rattle.hx_session_parts.specs.OnWay.{AreInterimsOnWay, IsAnswerOnWay}
use Rattle.hx_session_parts.proofs.GrowthLemmas.{few_answer_fields}
use Rattle.hx_session_parts.proofs.OnWayLemmas.{short_more, short_interims_more, interims_go_on}
use Rattle.hx_session_parts.specs.declared.answers.AnswerLook.{AnswerLook}
use Rattle.hx_session_parts.specs.declared.answers.AnswerLook.TheVariants.{More, Broken}
use Rattle.hx_session.specs.declared.exchange.AskWay.{AskWay}
use Rattle.hx_session.specs.declared.exchange.BodyWay.{BodyWay}
use Rattle.hx_session.specs.declared.exchange.AnswerWay.{AnswerWay}
use Rattle.hx_session.specs.declared.exchange.AnswerWay.TheVariants.{Heads, Body}
use Rattle.hx_session.specs.Answering.{CarriesAnswer, BreaksCarried}
use Rattle.hx_session.specs.Carried.{IsCarried}
use Rattle.hx_session.specs.Desks.{DeskNow}
use Rattle.hx_session.specs.Exchanged.{ExchangeNow}
use Rattle.hx_session.specs.Breaking.{BreaksHere}
use Rattle.hx_session.specs.Cutting.{EndsBodyIn, EndsAnswerIn, Drops, DropsHeads, EndsAskAt, EndsAnswerFrom}
use Rattle.hx_session.proofs.HeadEnds.{heads_none}
use Rattle.hx_session.proofs.MessageEnds.{ask_ended, ask_cut, answer_ended, answer_none}

-- the first head of an answer within the limits
record FirstHead (m : MethodKind) (bytes : List ℕ) : Type 0 where
  head : ResponseHead
  body : List ℕ
  reads : ReadsResponse bytes head body
  short : IsShort bytes body (length head.fields)
  kind : IsInterim head ⊎ (IsFinal head × ((k : BodyKind) × (answer_kind m head ≡ Ok k)))

first_more : (m : MethodKind) (front more : List ℕ) → FirstHead m front → FirstHead m (front ++ more)
first_more m front more f = record {
  head = f.head;
  body = f.body ++ more;
  reads = ReadsResponse-append front f.head f.body more f.reads;
  short = short_more front f.body more (length f.head.fields) f.short;
  kind = f.kind;
}

first_head : (m : MethodKind) (bytes : List ℕ) (k : ℕ) → HasShortAnswer m bytes k → FirstHead m bytes
first_head m bytes k ((inside, (g, kind, x, own)), y) =
    subst (FirstHead m) (take-append-drop k bytes) (first_more m (take k bytes) (drop k bytes) (by_interims y.interims y.begins))
  where
    by_first : (gs : List ResponseHead) → BeginsInterims (take k bytes) gs x.rest → ReadsResponse (take k bytes) y.head y.body → (kd : BodyKind) × (answer_kind m y.head ≡ Ok kd)
    by_first [] begins reads =
        let here : ReadsResponse (take k bytes) g x.body = subst (λ (xs : List ℕ). ReadsResponse xs g x.body) (sym begins) x.reads in
        (kind, ap (answer_kind m) (response_unique (take k bytes) y.head g y.body x.body reads here).0 ∙ x.framed)
    by_first (h ∷ hs) (middle, first, interim, later) reads = absurd (interim_final h y.head (response_unique (take k bytes) h y.head middle y.body first reads).0 interim y.final)

    by_interims : (gs : List ResponseHead) → BeginsShortInterims (take k bytes) gs y.rest → FirstHead m (take k bytes)
    by_interims [] begins =
        let reads : ReadsResponse (take k bytes) y.head y.body = subst (λ (xs : List ℕ). ReadsResponse xs y.head y.body) (sym begins) y.reads in
        record {
          head = y.head;
          body = y.body;
          reads = reads;
          short = subst (λ (xs : List ℕ). IsShort xs y.body (length y.head.fields)) (sym begins) y.short;
          kind = inr (y.final, by_first x.interims x.begins reads);
        }
    by_interims (h ∷ hs) (middle, reads, interim, short, later) = record { head = h; body = middle; reads = reads; short = short; kind = inl interim }

-- bytes with no head have no answer
pub more_none : (m : MethodKind) (bytes : List ℕ) (k : ℕ) → HasNoResponse bytes → HasShortAnswer m bytes k → ⊥
more_none m bytes k none h = let f = first_head m bytes k h in none f.head f.body f.reads

-- a head within the limits stands among the first bytes
in_front : (bytes rest : List ℕ) (g : ResponseHead) → ReadsResponse bytes g rest → IsShort bytes rest (length g.fields) → (r : List ℕ) × ReadsResponse (take head_limit bytes) g r
in_front bytes rest g reads short =
    let text = print_response g in
    let few : length text ≤ head_limit = omega (arith, short.size, ap length reads.1, length-append text rest) in
    let size : head_limit ≡ length text + (head_limit - length text) = omega (arith, few) in (
      take (head_limit - length text) rest,
      (reads.0, ap (take head_limit) reads.1 ∙ (ap (λ (n : ℕ). take n (text ++ rest)) size ∙ take-append-add text rest (head_limit - length text))),
    )

-- nor has a refused head's
refused_none : (m : MethodKind) (bytes : List ℕ) (why : Refusal) → RefusesAnswer why bytes → FirstHead m bytes → ⊥
refused_none m bytes NotAHead never f =
    let r = in_front bytes f.body f.head f.reads f.short in
    never [] f.head r.0 (subst (λ (xs : List ℕ). ReadsResponse xs f.head r.0) (sym (append-nil (take head_limit bytes))) r.1)
refused_none m bytes TooLong (long, none, may) f = let r = in_front bytes f.body f.head f.reads f.short in none f.head r.0 r.1
refused_none m bytes TooManyFields (over, exceeds) f =
    let r = in_front bytes f.body f.head f.reads f.short in
    let many = over [] f.head r.0 (subst (λ (xs : List ℕ). ReadsResponse xs f.head r.0) (sym (append-nil (take head_limit bytes))) r.1) in
    omega (arith, many, f.short.fields_few)
refused_none m bytes Version why f = absurd why
refused_none m bytes Status (g, rest, reads, low, few) f =
    let r = in_front bytes f.body f.head f.reads f.short in
    let same = (response_unique (take head_limit bytes) g f.head rest r.0 reads r.1).0 in
    ⊎_elim (λ i. omega (arith, ap status_code same, low, i.0)) (λ l. omega (arith, ap status_code same, low, l.0)) f.kind

not_both : (f g : Framed) (k : BodyKind) (fault : FrameFault) → f ≡ g → f ≡ Err fault → g ≡ Ok k → ⊥
not_both f g k fault e a b = cc

pub broken_none : (m : MethodKind) (bytes : List ℕ) (k : ℕ) → BreaksAnswer m bytes → HasShortAnswer m bytes k → ⊥
broken_none m bytes k (inl (why, refuses)) h = refused_none m bytes why refuses (first_head m bytes k h)
broken_none m bytes k (inr (g, (rest, reads, short), why)) h =
    let f = first_head m bytes k h in
    let same = (response_unique bytes g f.head rest f.body reads f.reads).0 in
    ⊎_elim
    (λ (is : status_code g ≡ 101). ⊎_elim (λ i. i.2 (sym (ap status_code same) ∙ is)) (λ l. omega (arith, ap status_code same, is, l.0)) f.kind)
    (λ bad. ⊎_elim (λ i. interim_final f.head g (sym same) i bad.0) (λ l. not_both (answer_kind m g) (answer_kind m f.head) l.1.0 bad.1.0 (ap (answer_kind m) same) bad.1.1 l.1.1) f.kind)
    why

-- behind interim heads there is none where none is in the bytes that wait
pub interims_none : (m : MethodKind) (taken put waiting : List ℕ) → AreInterimsOnWay taken put → ((k : ℕ) → HasShortAnswer m waiting k → ⊥) → (k : ℕ) → HasShortAnswer m (taken ++ waiting) k → ⊥
interims_none m taken put waiting (gs, begins, is) none = λ k h. let j = heads_none m gs (taken ++ waiting) waiting k (short_interims_more gs taken [] waiting begins) h in none j.0 j.1

-- an answer whose body's end is looked for
pub body_ends : (m : MethodKind) (closing : Bool) (taken put waiting : List ℕ) (g : ResponseHead) (kind : BodyKind) (meter : Meter) (r : Option ℕ) (w : IsAnswerOnWay m closing taken put g kind meter) → EndsBodyIn kind w.body waiting r
    → EndsAnswerIn m taken waiting r
body_ends m closing taken put waiting g kind meter (Some n) w ends = (ends.0, answer_ended m closing taken put waiting g kind meter n w ends)
body_ends m closing taken put waiting g kind meter None w ends = answer_none m closing taken put waiting g kind meter w ends

begun : (m : MethodKind) (taken put bytes : List ℕ) (a : Answered) (g : ResponseHead) (meter : Meter) → AreInterimsOnWay taken put → IsAnswerTo m bytes a g → HasUsed a.kind [] meter
    → (w : IsAnswerOnWay m false (taken ++ take a.head.length bytes) (put ++ forwarded_answer g false) g a.kind meter) × (w.body ≡ [])
begun m taken put bytes a g meter (gs, begins, is) to used = (
  record {
    interims = gs;
    rest = take a.head.length bytes;
    begins = short_interims_more gs taken [] (take a.head.length bytes) begins;
    body = [];
    reads = to.at.reads;
    final = to.final;
    short = record { size = omega (arith, to.short, length-take a.head.length bytes); fields_few = few_answer_fields bytes a.head g to.at };
    put_is = ap (λ (xs : List ℕ). xs ++ forwarded_answer g false) is ∙ ap (λ (xs : List ℕ). flat_map (λ (k : ResponseHead). forwarded_answer k false) gs ++ xs) (sym (append-nil (forwarded_answer g false)));
    framed = to.framed;
    used = used;
  },
  refl,
)

pub final_ends : (m : MethodKind) (taken put bytes : List ℕ) (a : Answered) (g : ResponseHead) (meter : Meter) (r : Option ℕ) → AreInterimsOnWay taken put → IsAnswerTo m bytes a g → HasUsed a.kind [] meter
    → EndsBodyIn a.kind [] (drop a.head.length bytes) r → EndsAnswerIn m (taken ++ take a.head.length bytes) (drop a.head.length bytes) r
final_ends m taken put bytes a g meter r on to used ends =
    let w = begun m taken put bytes a g meter on to used in
    body_ends m false (taken ++ take a.head.length bytes) _ (drop a.head.length bytes) g a.kind meter r w.0 (subst (λ (xs : List ℕ). EndsBodyIn a.kind xs (drop a.head.length bytes) r) (sym w.1) ends)

back : (taken bytes : List ℕ) (n : ℕ) → (taken ++ take n bytes) ++ drop n bytes ≡ taken ++ bytes
back taken bytes n = append_assoc taken (take n bytes) (drop n bytes) ∙ ap (λ (xs : List ℕ). taken ++ xs) (take-append-drop n bytes)

-- the final head was dropped, and so many bytes behind it
pub drops_found : (m : MethodKind) (taken put bytes new : List ℕ) (a : Answered) (g : ResponseHead) (meter : Meter) (n : ℕ) → AreInterimsOnWay taken put → IsAnswerTo m bytes a g → HasUsed a.kind [] meter
    → EndsBodyIn a.kind [] (drop a.head.length bytes) (Some n) → new ≡ drop n (drop a.head.length bytes) → Drops m taken bytes new true
drops_found m taken put bytes new a g meter n on to used ends is =
    let h = final_ends m taken put bytes a g meter (Some n) on to used ends in
    let size : length (taken ++ take a.head.length bytes) + n ≡ length taken + (length bytes - length new) =
    omega (arith, length-append taken (take a.head.length bytes), length-take a.head.length bytes, to.at.there, ends.0, ap length is, length-drop n (drop a.head.length bytes), length-drop a.head.length bytes) in
    record {
      ends = λ e. subst (λ (k : ℕ). HasShortAnswer m (taken ++ bytes) k) size (subst (λ (xs : List ℕ). HasShortAnswer m xs (length (taken ++ take a.head.length bytes) + n)) (back taken bytes a.head.length) h.1);
      none = λ (e : true ≡ false). cc;
    }

pub drops_lost : (m : MethodKind) (taken put bytes new : List ℕ) (a : Answered) (g : ResponseHead) (meter : Meter) → AreInterimsOnWay taken put → IsAnswerTo m bytes a g → HasUsed a.kind [] meter
    → EndsBodyIn a.kind [] (drop a.head.length bytes) None → Drops m taken bytes new false
drops_lost m taken put bytes new a g meter on to used ends =
    let h = final_ends m taken put bytes a g meter None on to used ends in
    record {
      ends = λ (e : false ≡ true). cc;
      none = λ e. λ k s. h k (subst (λ (xs : List ℕ). HasShortAnswer m xs k) (sym (back taken bytes a.head.length)) s);
    }

-- heads that were dropped in front
pub drops_behind : (m : MethodKind) (taken used old now new : List ℕ) (b : Bool) → old ≡ used ++ now → length new ≤ length now → Drops m (taken ++ used) now new b → Drops m taken old new b
drops_behind m taken used old now new b is fewer d =
    let whole : (taken ++ used) ++ now ≡ taken ++ old = append_assoc taken used now ∙ ap (λ (xs : List ℕ). taken ++ xs) (sym is) in
    let size : length (taken ++ used) + (length now - length new) ≡ length taken + (length old - length new) = omega (arith, length-append taken used, ap length is, length-append used now, fewer) in
    record {
      ends = λ e. subst (λ (k : ℕ). HasShortAnswer m (taken ++ old) k) size (subst (λ (xs : List ℕ). HasShortAnswer m xs (length (taken ++ used) + (length now - length new))) whole (d.ends e));
      none = λ e. λ k s. d.none e k (subst (λ (xs : List ℕ). HasShortAnswer m xs k) (sym whole) s);
    }

pub drops_none : (m : MethodKind) (taken put old : List ℕ) → AreInterimsOnWay taken put → ((k : ℕ) → HasShortAnswer m old k → ⊥) → (new : List ℕ) → Drops m taken old new false
drops_none m taken put old on none new = record { ends = λ (e : false ≡ true). cc; none = λ e. interims_none m taken put old on none }

-- no head was dropped yet
pub no_heads : (bytes : List ℕ) → DropsHeads bytes bytes
no_heads bytes = record { heads = []; is = refl; on = λ taken put on. (put, subst (λ (xs : List ℕ). AreInterimsOnWay xs put) (sym (append-nil taken)) on) }

-- one head more was dropped
pub more_heads : (old now new : List ℕ) (h : AnswerHead) → DropsHeads old now → IsInterimAt now h → new ≡ drop h.length now → DropsHeads old new
more_heads old now new h d (g, at, short, interim) is = record {
  heads = d.heads ++ take h.length now;
  is = d.is ∙ (ap (λ (xs : List ℕ). d.heads ++ xs) (sym (take-append-drop h.length now)) ∙ (sym (append_assoc d.heads (take h.length now) (drop h.length now)) ∙ ap (λ (xs : List ℕ). (d.heads ++ take h.length now) ++ xs) (sym is)));
  on = λ taken put on.
      let k = d.on taken put on in
      (k.0 ++ forwarded_answer g false, subst (λ (xs : List ℕ). AreInterimsOnWay xs (k.0 ++ forwarded_answer g false)) (append_assoc taken d.heads (take h.length now)) (interims_go_on (taken ++ d.heads) k.0 now h g k.1 at short interim));
}

-- the answer behind those heads
pub heads_then : (m : MethodKind) (taken put old now new : List ℕ) (found : Bool) → DropsHeads old now → length new ≤ length now → AreInterimsOnWay taken put
    → ((xs put' : List ℕ) → AreInterimsOnWay xs put' → Drops m xs now new found) → Drops m taken old new found
heads_then m taken put old now new found d fewer on ends =
    let k = d.on taken put on in
    drops_behind m taken d.heads old now new found d.is fewer (ends (taken ++ d.heads) k.0 k.1)

-- what was found, by how many bytes are left
pub found_in : (m : MethodKind) (taken old new : List ℕ) (n : ℕ) → Drops m taken old new true → n ≡ length old - length new → EndsAnswerIn m taken old (Some n)
found_in m taken old new n d is = (omega (arith, is), subst (λ (k : ℕ). HasShortAnswer m (taken ++ old) (length taken + k)) (sym is) (d.ends refl))

pub lost_in : (m : MethodKind) (taken old new : List ℕ) → Drops m taken old new false → EndsAnswerIn m taken old None
lost_in m taken old new d = d.none refl

-- the ends of the two ranges
pub ask_at : (d : DeskNow) (e : ExchangeNow) (n used : ℕ) (c : IsCarried d e) → EndsBodyIn c.ask.kind c.ask.way.body d.from.bytes (Some used) → n + length d.from.bytes ≡ d.taken + used → EndsAskAt d c.ask.taken n
ask_at d e n used c ends is =
    let a = c.ask in
    record {
      used = used;
      within = ends.0;
      is = omega (arith, is, a.front.count, c.desk.taken, length-append a.taken d.from.bytes);
      ends = (ask_ended a.taken a.put d.from.bytes a.head a.kind e.ask.meter used a.way ends).ends;
    }

pub ask_all : (d : DeskNow) (e : ExchangeNow) (n : ℕ) (c : IsCarried d e) → EndsBodyIn c.ask.kind c.ask.way.body d.from.bytes None → n ≡ d.taken → EndsAskAt d c.ask.taken n
ask_all d e n c ends is =
    let a = c.ask in
    record {
      used = length d.from.bytes;
      within = omega arith;
      is = omega (arith, is, a.front.count, c.desk.taken, length-append a.taken d.from.bytes);
      ends = (ask_cut a.taken a.put d.from.bytes a.head a.kind e.ask.meter a.way ends).ends;
    }

pub answer_at : (m : MethodKind) (from n used : ℕ) (taken waiting : List ℕ) → EndsAnswerIn m taken waiting (Some used) → n ≡ from + length taken + used → EndsAnswerFrom m from taken waiting n
answer_at m from n used taken waiting ends is = record { used = used; within = ends.0; is = is; ends = inl ends.1 }

pub answer_all : (m : MethodKind) (from n : ℕ) (taken waiting : List ℕ) → EndsAnswerIn m taken waiting None → n ≡ from + length (taken ++ waiting) → EndsAnswerFrom m from taken waiting n
answer_all m from n taken waiting ends is = record { used = length waiting; within = omega arith; is = omega (arith, is, length-append taken waiting); ends = inr (ends, sym (length-append taken waiting)) }

-- what the meters say of the bodies' ends
pub ask_found : (d : DeskNow) (e : ExchangeNow) (ask : AskWay) (bytes : List ℕ) (r : Option ℕ) (c : IsCarried d e) → e.ask ≡ ask → (ask.state ≡ Bad → BreaksHere c.ask.kind c.ask.way.body d.from.bytes) → bytes ≡ d.from.bytes
    → ((kind : BodyKind) (before : List ℕ) → HasUsed kind before ask.meter → (state_of ask.meter ≡ Bad → BreaksHere kind before bytes) → EndsBodyIn kind before bytes r) → EndsBodyIn c.ask.kind c.ask.way.body d.from.bytes r
ask_found d e ask bytes r c same bad is ends =
    let a = c.ask in
    subst (λ (xs : List ℕ). EndsBodyIn a.kind a.way.body xs r) is
    (ends a.kind a.way.body (subst (λ (x : AskWay). HasUsed a.kind a.way.body x.meter) same a.way.used)
    (λ b. subst (λ (xs : List ℕ). BreaksHere a.kind a.way.body xs) (sym is) (bad (sym (ap (λ (x : AskWay). x.state) same) ∙ (a.state ∙ (ap (λ (x : AskWay). state_of x.meter) same ∙ b))))))

pub body_found : (a : AnswerWay) (b : BodyWay) (wants written : Bool) (m : MethodKind) (taken put waiting bytes : List ℕ) (r : Option ℕ) (k : CarriesAnswer a wants written m taken put) → a ≡ Body b
    → BreaksCarried a wants written m taken put waiting k → bytes ≡ waiting
    → ((kind : BodyKind) (before : List ℕ) → HasUsed kind before b.meter → (state_of b.meter ≡ Bad → BreaksHere kind before bytes) → EndsBodyIn kind before bytes r) → EndsAnswerIn m taken waiting r
body_found Heads b wants written m taken put waiting bytes r k is bad same ends = cc
body_found (Body x) b wants written m taken put waiting bytes r k is bad same ends =
    let way : b ≡ x = cc in
    let here = subst (λ (y : BodyWay). (kind : BodyKind) (before : List ℕ) → HasUsed kind before y.meter → (state_of y.meter ≡ Bad → BreaksHere kind before bytes) → EndsBodyIn kind before bytes r) way ends in
    body_ends m x.closing taken put waiting k.head k.kind x.meter r k.way
    (subst (λ (xs : List ℕ). EndsBodyIn k.kind k.way.body xs r) same (here k.kind k.way.body k.way.used (λ z. subst (λ (xs : List ℕ). BreaksHere k.kind k.way.body xs) (sym same) (bad (k.state ∙ z)))))

-- the same for the method that the exchange has
pub ends_by : (a : AnswerWay) (m m' : MethodKind) (waiting : List ℕ) (r : Option ℕ) → m' ≡ m
    → ((wants written : Bool) (taken put : List ℕ) (c : CarriesAnswer a wants written m' taken put) → BreaksCarried a wants written m' taken put waiting c → EndsAnswerIn m' taken waiting r)
    → (wants written : Bool) (taken put : List ℕ) (c : CarriesAnswer a wants written m taken put) → BreaksCarried a wants written m taken put waiting c → EndsAnswerIn m taken waiting r
ends_by a m m' waiting r same f =
    subst (λ (n : MethodKind). (wants written : Bool) (taken put : List ℕ) (c : CarriesAnswer a wants written n taken put) → BreaksCarried a wants written n taken put waiting c → EndsAnswerIn n taken waiting r) same f

-- what was looked at and is no head
pub looked_none : (m : MethodKind) (bytes : List ℕ) (look : AnswerLook) → AnswerLooks m bytes look → (look ≡ More) ⊎ (look ≡ Broken) → (k : ℕ) → HasShortAnswer m bytes k → ⊥
looked_none m bytes look looks (inl e) = λ k h. more_none m bytes k (subst (λ (l : AnswerLook). AnswerLooks m bytes l) e looks).1 h
looked_none m bytes look looks (inr e) = λ k h. broken_none m bytes k (subst (λ (l : AnswerLook). AnswerLooks m bytes l) e looks) h
