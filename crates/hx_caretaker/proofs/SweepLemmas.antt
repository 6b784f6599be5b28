-- Sweeps, one after the other.
use Rattle.std.proofs.Common.{◌≡◌, ◌≢◌, ℕ, ◌+◌, ◌*◌, ◌≤◌, false, List, [], ◌∷◌, ◌++◌, length, refl, sym, ap, ◌∙◌, subst, arith, Option, Some, None, inl, inr, ⊎_elim, append_assoc}
use Rattle.std.specs.Prelude.{option_map}
use Rattle.std.proofs.lemmas.List.{append-nil, length-append}
use Rattle.std.proofs.lemmas.Grind.{flat_map-append}
use Rattle.hx_base.specs.declared.numbers.ThreadNo.{ThreadNo}
use Rattle.hx_base.specs.declared.numbers.SessionNo.{SessionNo}
use Rattle.hx_base.specs.declared.numbers.PlaceNo.{PlaceNo}
use Rattle.hx_base.specs.declared.numbers.ConnId.{ConnId}
use Rattle.hx_base.specs.declared.numbers.Face.{Face}
use Rattle.hx_base.specs.declared.numbers.ServerNo.{ServerNo}
use Rattle.hx_conn.specs.Conns.{RestedNow}
use Rattle.hx_conn.specs.WhatTold.{shown}
use Rattle.hx_link.specs.Told.{LinkState}
use Rattle.hx_link.specs.Nets.{NetState, NetBuries, TellsDial, StaysTold}
use Rattle.hx_pool.specs.declared.entries.Entry.TheVariants.{Close}
use Rattle.hx_pool.specs.declared.entries.Entry.{Entry}
use Rattle.hx_pool.specs.declared.entries.Note.{Note}
use Rattle.hx_pool.specs.Causes.{caretaker, AllLooks}
use Rattle.hx_pool.specs.Held.{AllApart}
use Rattle.hx_pool.specs.History.{plain, marks_of}
use Rattle.hx_pool.specs.Opening.{Closes}
use Rattle.hx_pool.specs.SeatView.{About, History, Makes, Grows, Stores, StandsInOneHistory}
use Rattle.hx_pool.specs.Taking.{taken, taking, Takes}
use Rattle.hx_pool.proofs.Calls.{makes_both, marks_taking, looks_marks}
use Rattle.hx_pool.proofs.Caretaking.{told_marks, kept_within}
use Rattle.hx_pool.proofs.HeldCalls.{held_apart, apart-append, looks_apart, takes_just, closes_just}
use Rattle.hx_pool.proofs.Histories.{marks_of-append}
use Rattle.hx_connecting.specs.Journals.{JournalRoom, JournalStays}
use Rattle.hx_connecting.specs.Links.{GainsAll}
use Rattle.hx_caretaker.specs.Sweeps.{Swept, swept_marks, sweep_marks, RestedSo, IsItsLink, AreTheirLinks, BuriesAll, Sweep, no_sweep}
use Rattle.hx_caretaker.specs.Sites.{Site, ClosesTaken, Sweeping}
use Rattle.hx_caretaker.proofs.Balance.{balances_both, balances_looks}

-- ---- burials

gains_none : {A : Type 0} (o : Option (List A)) → o ≡ option_map (λ xs. xs ++ []) o
gains_none None = refl
gains_none (Some xs) = ap Some (sym (append-nil xs))

map_both : {A : Type 0} (o : Option (List A)) (xs ys : List A) → option_map (λ l. l ++ ys) (option_map (λ l. l ++ xs) o) ≡ option_map (λ l. l ++ (xs ++ ys)) o
map_both None xs ys = refl
map_both (Some l) xs ys = ap Some (append_assoc l xs ys)

gains_both : {A : Type 0} (xs ys : List A) (a b c : Option (List A)) → GainsAll xs a b → GainsAll ys b c → GainsAll (xs ++ ys) a c
gains_both xs ys a b c g h = ⊎_elim
    (λ (k : c ≡ option_map (λ l. l ++ ys) b). ⊎_elim
    (λ (j : b ≡ option_map (λ l. l ++ xs) a). inl (k ∙ (ap (option_map (λ l. l ++ ys)) j ∙ map_both a xs ys)))
    (λ (n : b ≡ None). inr (k ∙ ap (option_map (λ l. l ++ ys)) n)) g)
    (λ (n : c ≡ None). inr n) h

stays_both : {A : Type 0} (a b c : Option (List A)) → StaysTold a b → StaysTold b c → StaysTold a c
stays_both a b c g h = ⊎_elim
    (λ (k : c ≡ b). ⊎_elim (λ (j : b ≡ a). inl (k ∙ j)) (λ (n : b ≡ None). inr (k ∙ n)) g)
    (λ (n : c ≡ None). inr n) h

pub buries_both : (xs ys : List LinkState) (a b c : NetState) → BuriesAll xs a b → BuriesAll ys b c → BuriesAll (xs ++ ys) a c
buries_both xs ys a b c g h = let f = g.faults in let e = h.faults in record {
  buried = gains_both xs ys a.buried b.buried c.buried g.buried h.buried;
  dials = stays_both a.dials b.dials c.dials g.dials h.dials;
  loop = h.loop ∙ g.loop;
  course = h.course ∙ g.course;
  faults = omega arith;
}

pub buries_none : (a : NetState) → BuriesAll [] a a
buries_none a = record { buried = inl (gains_none a.buried); dials = inl refl; loop = refl; course = refl; faults = omega arith }

buries_one : (a b : NetState) (l : LinkState) → NetBuries a b l → BuriesAll (l ∷ []) a b
buries_one a b l n = record {
  buried = n.3;
  dials = n.2;
  loop = ap (λ (s : NetState). s.loop_no) n.0;
  course = ap (λ (s : NetState). s.course) n.0;
  faults = n.1;
}

-- ---- journals

-- a journal by the marks of a call
pub journal_by : (old new : History) (k k' : Option ℕ) (s s' : ℕ) (last : List Entry) (es : List Note) (n : ℕ) → Makes old new es → Grows old new last → Stores k k' s s' last
    → length (marks_of es) ≤ n → JournalStays n (record { kept = k; spare = s }) (record { kept = k'; spare = s' })
journal_by old new k k' s s' last es n m g stores few room =
    let same : length last ≡ length (marks_of es) = ap length (told_marks old new last es m g) in
    kept_within k k' s s' last n stores (omega arith) room

pub room_both : (m n : ℕ) (a b c : JournalRoom) → JournalStays m a b → JournalStays n b c → JournalStays (m + n) a c
room_both m n a b c g h low =
    let p = g (omega arith) in let p0 = p.0 in let p1 = p.1 in
    let q = h (omega arith) in let q1 = q.1 in
    (q.0 ∙ p0, omega arith)

pub room_more : (m n : ℕ) (a b : JournalRoom) → m ≤ n → JournalStays m a b → JournalStays n a b
room_more m n a b le g low = let p = g (omega arith) in let p1 = p.1 in (p.0, omega arith)

pub room_same : (n : ℕ) (a : JournalRoom) → JournalStays n a a
room_same n a low = (refl, omega arith)

-- ---- links

rested_later : (seen later : List Note) (t : ThreadNo) (x : Swept) (l : LinkState) (more : List Note) → later ≡ seen ++ more → RestedSo seen t x l → RestedSo later t x l
rested_later seen later t x l more e r = record {
  before = r.before;
  behind = r.behind ++ more;
  parts = e ∙ (ap (λ s. s ++ more) r.parts ∙ append_assoc r.before (taken t caretaker false x.place x.face ∷ r.behind) more);
  what = r.what;
}

link_later : (a b : History) (x : Swept) (l : LinkState) (more : List Note) → b.about ≡ a.about → b.seen ≡ a.seen ++ more → IsItsLink a x l → IsItsLink b x l
link_later a b x l more e s k = record {
  dial = subst (λ (h : About). TellsDial h.server x.face.id l) (sym e) k.dial;
  no_loop = k.no_loop;
  rested = subst (λ (h : About). RestedSo b.seen h.thread x l) (sym e) (rested_later a.seen b.seen a.about.thread x l more s k.rested);
}

-- what was closed is still what it was, as more is seen
links_later : (a b : History) (xs : List Swept) (ls : List LinkState) (more : List Note) → b.about ≡ a.about → b.seen ≡ a.seen ++ more → AreTheirLinks a xs ls → AreTheirLinks b xs ls
links_later a b [] [] more e s k = tt
links_later a b [] (l ∷ ls) more e s k = absurd k
links_later a b (x ∷ xs) [] more e s k = absurd k
links_later a b (x ∷ xs) (l ∷ ls) more e s k = (link_later a b x l more e s k.0, links_later a b xs ls more e s k.1)

links_both : (h : History) (xs ys : List Swept) (ls ms : List LinkState) → AreTheirLinks h xs ls → AreTheirLinks h ys ms → AreTheirLinks h (xs ++ ys) (ls ++ ms)
links_both h [] ys [] ms k j = j
links_both h [] ys (l ∷ ls) ms k j = absurd k
links_both h (x ∷ xs) ys [] ms k j = absurd k
links_both h (x ∷ xs) ys (l ∷ ls) ms k j = (k.0, links_both h xs ys ls ms k.1 j)

-- ---- sweeps

abbrev pub both : Sweep → Sweep → Sweep
both x y = record { added = x.added ++ y.added; swept = x.swept ++ y.swept; links = x.links ++ y.links }

-- two sweeps, one after the other
pub sweeping_both : (a b c : Site) (x y : Sweep) → Sweeping a b x → Sweeping b c y → Sweeping a c (both x y)
sweeping_both a b c x y g h = record {
  makes = makes_both a.seat b.seat c.seat x.added y.added g.makes h.makes;
  marks =
      marks_of-append x.added y.added
      ∙ (ap (λ m. m ++ marks_of y.added) g.marks
      ∙ (ap (λ m. sweep_marks a.seat.about.thread x.swept ++ m) (h.marks ∙ ap (λ (k : About). sweep_marks k.thread y.swept) g.makes.about)
      ∙ sym (flat_map-append (swept_marks a.seat.about.thread) x.swept y.swept)));
  own = λ n ne. apart-append n x.added y.added (g.own n ne) (h.own n ne);
  balances = λ n. balances_both n n x.added y.added (g.balances n) h.balances;
  links = links_both c.seat x.swept y.swept x.links y.links (links_later b.seat c.seat x.swept x.links h.makes.seen.0 h.makes.about h.makes.seen.1 g.links) h.links;
  buries = buries_both x.links y.links a.net b.net c.net g.buries h.buries;
  journal =
      let n : length (x.swept ++ y.swept) ≡ length x.swept + length y.swept = length-append x.swept y.swept in
      room_more (2 * length x.swept + 2 * length y.swept) (2 * length (x.swept ++ y.swept)) a.room c.room (omega arith)
      (room_both (2 * length x.swept) (2 * length y.swept) a.room b.room c.room g.journal h.journal);
  lets_go = λ none. h.lets_go (g.lets_go none);
}

abbrev pub looked : List Note → Sweep
looked looks = record { added = looks; swept = []; links = [] }

-- a call that only looked
pub sweeps_looks : (a b : Site) (looks : List Note) → AllLooks a.seat.about.thread looks → Makes a.seat b.seat looks → b.net ≡ a.net → JournalStays 0 a.room b.room → Sweeping a b (looked looks)
sweeps_looks a b looks l m n r = record {
  makes = m;
  marks = looks_marks a.seat.about.thread looks l;
  own = λ k ne. looks_apart k a.seat.about.thread looks l;
  balances = balances_looks a.seat.about.thread looks l;
  links = tt;
  buries = subst (λ (net : NetState). BuriesAll [] a.net net) (sym n) (buries_none a.net);
  journal = r;
  lets_go = λ none. held_apart a.seat b.seat caretaker looks m (looks_apart caretaker a.seat.about.thread looks l) ∙ none;
}

pub makes_none : (h : History) → StandsInOneHistory h → Makes h h []
makes_none h one = record { about = refl; mine = sym (append-nil h.mine); seen = ([], sym (append-nil h.seen)); was = one; one = one; even = refl }

-- nothing was done yet
pub sweeps_none : (a : Site) → StandsInOneHistory a.seat → Sweeping a a no_sweep
sweeps_none a one = sweeps_looks a a [] tt (makes_none a.seat one) refl (room_same 0 a.room)

-- what a take, its closing, and the burial of its link do
abbrev pub take_one : ThreadNo → List Note → PlaceNo → RestedNow → ℕ → Sweep
take_one t looks place r count = record {
  added = (looks ++ taking t caretaker false place (shown r).face count) ++ plain (Close t caretaker r.id) ∷ [];
  swept = record { place = place; face = (shown r).face } ∷ [];
  links = r.link ∷ [];
}

-- the closing, by the thread of the seat before the take
closes_mine : (old mid new : History) (es : List Note) (id : ConnId) → Makes old mid es → Closes mid new caretaker id → Makes mid new (plain (Close old.about.thread caretaker id) ∷ [])
closes_mine old mid new es id m c = subst (λ (b : About). Makes mid new (plain (Close b.thread caretaker id) ∷ [])) m.about c.makes

-- the entries that follow the looks are the caretaker's
taking_apart : (t : ThreadNo) (place : PlaceNo) (f : Face) (count : ℕ) (n : SessionNo) → n.0 ≢ 0 → AllApart n (taking t caretaker false place f count)
taking_apart t place f count n ne = ((λ e. ne (sym e)), (tt, (tt, tt)))

pub sweeps_take : (a m b : Site) (place : PlaceNo) (r : RestedNow) (takes : Takes a.seat m.seat [] caretaker false place (shown r)) → m.net ≡ a.net → JournalStays 1 a.room m.room → ClosesTaken m b r
    → Sweeping a b (take_one a.seat.about.thread takes.looks place r takes.count)
sweeps_take a m b place r takes net room closed =
    let t : ThreadNo = a.seat.about.thread in
    let f : Face = (shown r).face in
    let own : List Note = takes.looks ++ taking t caretaker false place f takes.count in
    let last : List Note = plain (Close t caretaker r.id) ∷ [] in
    let x : Swept = record { place = place; face = f } in
    let shut : Makes m.seat b.seat last = closes_mine a.seat m.seat b.seat own r.id takes.makes closed.closes in
    let makes : Makes a.seat b.seat (own ++ last) = makes_both a.seat m.seat b.seat own last takes.makes shut in
    let rested : RestedSo m.seat.seen t x r.link = record { before = a.seat.seen ++ takes.between; behind = takes.behind; parts = takes.seen; what = takes.what } in
    let dial : TellsDial a.seat.about.server r.id r.link = subst (λ (s : ServerNo). TellsDial s r.id r.link) takes.server closed.rested.dial in
    record {
      makes = makes;
      marks = marks_of-append own last ∙ ap (λ k. k ++ Close t caretaker r.id ∷ []) (marks_taking takes.looks t caretaker false place f takes.count takes.looked);
      own = λ n ne. apart-append n own last (apart-append n takes.looks (taking t caretaker false place f takes.count) (looks_apart n t takes.looks takes.looked) (taking_apart t place f takes.count n ne)) ((λ e. ne (sym e)), tt);
      balances = λ c. balances_both c c own last
          (balances_both c c takes.looks (taking t caretaker false place f takes.count) (balances_looks t takes.looks takes.looked c) (λ d. refl))
          (λ d. refl);
      links = (
        record {
          dial = subst (λ (h : About). TellsDial h.server r.id r.link) (sym makes.about) dial;
          no_loop = closed.rested.no_loop;
          rested = subst (λ (h : About). RestedSo b.seat.seen h.thread x r.link) (sym makes.about) (rested_later m.seat.seen b.seat.seen t x r.link shut.seen.0 shut.seen.1 rested);
        },
        tt,
      );
      buries = subst (λ (n : NetState). BuriesAll (r.link ∷ []) n b.net) net (buries_one m.net b.net r.link closed.buries);
      journal = room_both 1 1 a.room m.room b.room room closed.journal;
      lets_go = λ none. closes_just m.seat b.seat caretaker f closed.closes (takes_just a.seat m.seat [] caretaker false place (shown r) takes tt none);
    }
