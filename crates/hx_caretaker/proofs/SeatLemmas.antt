-- The caretaker's work at one seat: a first call, and a sweep behind it.
use Rattle.std.proofs.Common.{◌≡◌, ◌≢◌, ℕ, ◌+◌, ◌-◌, ◌*◌, ◌<◌, ◌≤◌, true, false, List, [], ◌∷◌, ◌++◌, length, refl, sym, ap, ◌∙◌, subst, arith, inl, inr, ⊎_elim}
use Rattle.std.proofs.lemmas.List.{length-append}
use Rattle.hx_base.specs.declared.numbers.ThreadNo.{ThreadNo}
use Rattle.hx_base.specs.declared.numbers.SessionNo.{SessionNo}
use Rattle.hx_base.specs.declared.numbers.ServerNo.{ServerNo}
use Rattle.hx_base.specs.declared.numbers.Millis.{Millis}
use Rattle.hx_base.specs.declared.order.Order.TheVariants.{Drain, Ready}
use Rattle.hx_link.specs.Nets.{NetState}
use Rattle.hx_pool.specs.declared.budget.Quota.{Quota}
use Rattle.hx_pool.specs.declared.entries.Entry.TheVariants.{SetGate}
use Rattle.hx_pool.specs.declared.entries.Note.{Note}
use Rattle.hx_pool.specs.Causes.{caretaker, AllCovered}
use Rattle.hx_pool.specs.Held.{AllApart}
use Rattle.hx_pool.specs.History.{plain, marks_of}
use Rattle.hx_pool.specs.Opening.{SetsDrain, SetsReady}
use Rattle.hx_pool.specs.Purge.{round_at, round_raised, quota_of, GivesQuota, GivesNoQuota, IsUnderQuota, UsesQuota}
use Rattle.hx_pool.specs.SeatView.{About, History, Makes}
use Rattle.hx_pool.specs.Takeover.{counted}
use Rattle.hx_pool.proofs.Calls.{makes_both}
use Rattle.hx_pool.proofs.Caretaking.{fresh_stands, round_marks}
use Rattle.hx_pool.proofs.HeldCalls.{held_apart, apart-append}
use Rattle.hx_pool.proofs.Histories.{marks_of-append}
use Rattle.hx_connecting.specs.Journals.{JournalStays}
use Rattle.hx_connecting.specs.Touches.{Balances}
use Rattle.hx_caretaker.specs.Sweeps.{Swept, swept_marks, sweep_marks, Sweep, Sweeps, BuriesAll, ClosesThem, care_marks}
use Rattle.hx_caretaker.specs.Caring.{CaresFor}
use Rattle.hx_caretaker.specs.Owners.{HoldsOn}
use Rattle.hx_caretaker.specs.Rounds.{Ticks}
use Rattle.hx_caretaker.specs.Orders.{Obeys}
use Rattle.hx_caretaker.specs.Sites.{Site, Sweeping, PurgesAll, DrainsAll}
use Rattle.hx_caretaker.proofs.Balance.{balances_both}
use Rattle.hx_caretaker.proofs.DrainLemmas.{set_since}
use Rattle.hx_caretaker.proofs.SweepLemmas.{buries_none, room_both, room_more, looked}

-- what a call at one seat owes
pub record Tends (P : History → List Note → List Swept → Type 0) (a b : Site) (count : ℕ) : Type 0 where
  pub cares : CaresFor (Sweeps P) a.seat b.seat a.net b.net count
  pub holds : HoldsOn a.seat b.seat
  pub journal : JournalStays care_marks a.room b.room

-- none of these entries is in any session's name
abbrev NoneIs : List Note → Type 0
NoneIs es = (n : SessionNo) → AllApart n es

-- a call that closed nothing
tends_still : (P : History → List Note → List Swept → Type 0) (a b : Site) (es : List Note) → Makes a.seat b.seat es → NoneIs es → Balances 0 0 es → length (marks_of es) ≤ 1
    → b.net ≡ a.net → JournalStays 1 a.room b.room → P a.seat es [] → Tends P a b 0
tends_still P a b es m apart even few net room does = record {
  cares = record {
    sweep = looked es;
    does = record { makes = m; does = does; own = λ n ne. apart n; balances = even; few = omega arith; few_marks = omega arith; links = tt };
    buries = subst (λ (n : NetState). BuriesAll [] a.net n) (sym net) (buries_none a.net);
    counts = refl;
  };
  holds = record {
    about = m.about;
    one = λ one. m.one;
    others = λ n ne. held_apart a.seat b.seat n es m (apart n);
    lets_go = λ none. held_apart a.seat b.seat caretaker es m (apart caretaker) ∙ none;
  };
  journal = room_more 1 care_marks a.room b.room (omega arith) room;
}

-- a take and a closing are two marks
two_each : (t : ThreadNo) (swept : List Swept) → length (sweep_marks t swept) ≡ 2 * length swept
two_each t [] = refl
two_each t (x ∷ swept) = let more = two_each t swept in let size = length-append (swept_marks t x) (sweep_marks t swept) in omega arith

abbrev pub behind : List Note → Sweep → Sweep
behind head x = record { added = head ++ x.added; swept = x.swept; links = x.links }

-- a call and a sweep behind it
tends_swept : (P : History → List Note → List Swept → Type 0) (a m b : Site) (head : List Note) (x : Sweep) (count : ℕ) → Makes a.seat m.seat head → NoneIs head → Balances 0 0 head
    → length (marks_of head) ≤ 1 → m.net ≡ a.net → JournalStays 1 a.room m.room → Sweeping m b x → length x.swept ≤ 64 * m.seat.about.threads → count ≡ length x.swept
    → P a.seat (head ++ x.added) x.swept → Tends P a b count
tends_swept P a m b head x count h apart even few net room s places counts does =
    let makes : Makes a.seat b.seat (head ++ x.added) = makes_both a.seat m.seat b.seat head x.added h s.makes in
    let own : (n : SessionNo) → n.0 ≢ 0 → AllApart n (head ++ x.added) = λ n ne. apart-append n head x.added (apart n) (s.own n ne) in
    let threads = s.makes.was.inside.1 in
    let most : length x.swept ≤ 1024 = omega arith in
    let size : length (marks_of (head ++ x.added)) ≡ length (marks_of head) + 2 * length x.swept =
    ap length (marks_of-append head x.added) ∙ (length-append (marks_of head) (marks_of x.added) ∙ ap (λ k. length (marks_of head) + k) (ap length s.marks ∙ two_each m.seat.about.thread x.swept)) in
    record {
      cares = record {
        sweep = behind head x;
        does = record {
          makes = makes;
          does = does;
          own = own;
          balances = balances_both 0 0 head x.added even s.balances;
          few = most;
          few_marks = omega arith;
          links = s.links;
        };
        buries = subst (λ (n : NetState). BuriesAll x.links n b.net) net s.buries;
        counts = counts;
      };
      holds = record {
        about = makes.about;
        one = λ one. makes.one;
        others = λ n ne. held_apart a.seat b.seat n (head ++ x.added) makes (own n ne);
        lets_go = λ none. s.lets_go (held_apart a.seat m.seat caretaker head h (apart caretaker) ∙ none);
      };
      journal = room_more (1 + 2 * length x.swept) care_marks a.room b.room (omega arith) (room_both 1 (2 * length x.swept) a.room m.room b.room room s.journal);
    }

-- what a sweep closed, by the seat before the first call
closes_them : (a m b : Site) (x : Sweep) → m.seat.about ≡ a.seat.about → Sweeping m b x → length x.swept ≤ 64 * m.seat.about.threads → ClosesThem a.seat x.added x.swept
closes_them a m b x same s places = record {
  marks = s.marks ∙ ap (λ (h : About). sweep_marks h.thread x.swept) same;
  few = subst (λ (h : About). length x.swept ≤ 64 * h.threads) same places;
}

-- ---- rounds

-- a round that closes nothing
pub tick_none : (a b : Site) (now : Millis) → GivesNoQuota a.seat b.seat now → b.net ≡ a.net → ((es : List Note) → Makes a.seat b.seat es → length (marks_of es) ≤ 1 → JournalStays 1 a.room b.room)
    → Tends (Ticks now) a b 0
tick_none a b now g net room = ⊎_elim
    (λ s. tends_still (Ticks now) a b [] s.1.makes (λ n. tt) refl (omega arith) net (room [] s.1.makes (omega arith)) (inl (s.0, refl, refl)))
    (λ s.
    let f = s.1 in
    let es : List Note = round_raised a.seat.about now f.was ∷ [] in
    let few : length (marks_of es) ≤ 1 = round_marks a.seat.about now f.was [] refl in
    tends_still (Ticks now) a b es f.makes.makes (λ n. (tt, tt)) refl few net (room es f.makes.makes few)
    (inr (s.0, record { was = f.was; more = []; raises = refl; purges = inl (f.early, refl, refl) })))
    g

-- a round that purges
pub tick_some : (a m b : Site) (now : Millis) (q : Quota) (n : ℕ) → GivesQuota a.seat m.seat now q → m.net ≡ a.net → ((es : List Note) → Makes a.seat m.seat es → length (marks_of es) ≤ 1 → JournalStays 1 a.room m.room)
    → PurgesAll m b q n → Tends (Ticks now) a b n
tick_some a m b now q n g net room p =
    let same : m.seat.about ≡ a.seat.about = g.makes.makes.about in
    let head : List Note = round_raised a.seat.about now g.was ∷ counted a.seat.about.thread g.c ∷ [] in
    let few : length (marks_of head) ≤ 1 = round_marks a.seat.about now g.was (counted a.seat.about.thread g.c ∷ []) refl in
    let k : ℕ = round_at a.seat.about now - g.was in
    let under : IsUnderQuota m.seat.about g.c k q [] = record {
      stands = fresh_stands a.seat m.seat now q g;
      left = ap (λ (r : Quota). 0 + r.left) g.answer ∙ zero_plus (quota_of g.c k);
      covered = λ i h. absurd (no_seen i q g.answer h);
    } in
    tends_swept (Ticks now) a m b head p.x n g.makes.makes (λ n. (tt, (tt, tt))) (refl, refl) few net (room head g.makes.makes few) p.sweeps p.few p.counts
    (inr (
      g.while_,
      record {
        was = g.was;
        more = counted a.seat.about.thread g.c ∷ p.x.added;
        raises = refl;
        purges = inr (
          g.late,
          record {
            c = g.c;
            more = p.x.added;
            counts = refl;
            closes = closes_them a m b p.x same p.sweeps p.few;
            used = subst (λ (h : About). UsesQuota h g.c k p.x.added) same (p.used g.c k [] under);
          },
        );
      },
    ))
  where
    zero_plus : (n : ℕ) → 0 + n ≡ n
    zero_plus n = omega arith

    no_seen : (i : ℕ) (q : Quota) {left row : ℕ} → q ≡ record { left = left; row = row; place = 0; seen = 0 } → i < q.seen → ⊥
    no_seen i q e h = let z : q.seen ≡ 0 = ap (λ (r : Quota). r.seen) e in omega arith

-- ---- orders

pub drain_tends : (a m b : Site) (s : ServerNo) (n : ℕ) → SetsDrain a.seat m.seat → m.net ≡ a.net → JournalStays 1 a.room m.room → DrainsAll m b n → Tends (Obeys (Drain s)) a b n
drain_tends a m b s n d net room p =
    let same : m.seat.about ≡ a.seat.about = d.makes.about in
    let head : List Note = plain (SetGate a.seat.about.thread true) ∷ [] in
    tends_swept (Obeys (Drain s)) a m b head p.x n d.makes (λ n. (tt, tt)) refl (omega arith) net room p.sweeps p.few p.counts
    (record {
      more = p.x.added;
      sets = refl;
      closes = closes_them a m b p.x same p.sweeps p.few;
      all = subst (λ (h : About). AllCovered h p.x.added) same (p.all [] (set_since a.seat m.seat d));
    })

pub ready_tends : (a b : Site) (s : ServerNo) → SetsReady a.seat b.seat → b.net ≡ a.net → JournalStays 1 a.room b.room → Tends (Obeys (Ready s)) a b 0
ready_tends a b s r net room =
    tends_still (Obeys (Ready s)) a b (plain (SetGate a.seat.about.thread false) ∷ []) r.makes (λ n. (tt, tt)) refl (omega arith) net room (refl, refl)
