-- The calls of a drain, one after the other.
use Rattle.std.proofs.Common.{◌≡◌, ℕ, ◌+◌, ◌≤◌, true, false, List, [], ◌∷◌, ◌++◌, refl, sym, ap, ◌∙◌, subst, arith, Option, Some, None, append_assoc}
use Rattle.std.specs.Prelude.{IfSome}
use Rattle.std.proofs.lemmas.List.{append-nil, length-append}
use Rattle.hx_base.specs.declared.numbers.ThreadNo.{ThreadNo}
use Rattle.hx_base.specs.declared.numbers.PlaceNo.{PlaceNo}
use Rattle.hx_conn.specs.Conns.{RestedNow}
use Rattle.hx_conn.specs.WhatTold.{shown}
use Rattle.hx_pool.specs.declared.entries.Entry.TheVariants.{Close, SetGate}
use Rattle.hx_pool.specs.declared.entries.Note.{Note}
use Rattle.hx_pool.specs.Causes.{caretaker, AllCovered, nth_place}
use Rattle.hx_pool.specs.Drain.{since_drain, DrainsOne, DrainsNone}
use Rattle.hx_pool.specs.History.{plain, marks_of}
use Rattle.hx_pool.specs.Opening.{SetsDrain}
use Rattle.hx_pool.specs.SeatView.{About, History, Makes}
use Rattle.hx_pool.specs.Taking.{taking}
use Rattle.hx_pool.proofs.Calls.{looks_marks}
use Rattle.hx_pool.proofs.Caretaking.{since_by, no_gate_both, no_gate_looks}
use Rattle.hx_pool.proofs.Histories.{since_from-append}
use Rattle.hx_connecting.specs.Journals.{JournalStays}
use Rattle.hx_caretaker.specs.Sweeps.{no_sweep}
use Rattle.hx_caretaker.specs.Sites.{Site, ClosesTaken, IsDraining, DrainGoesOn, DrainEnds, DrainsTo, DrainsAll}
use Rattle.hx_caretaker.proofs.SweepLemmas.{sweeping_both, both, looked, sweeps_looks, sweeps_none, sweeps_take, take_one}

pub set_since : (old new : History) → SetsDrain old new → since_drain new.mine ≡ Some []
set_since old new s = ap since_drain s.makes.mine ∙ since_from-append None old.mine (plain (SetGate old.about.thread true) ∷ [])

-- a drain that was just set
pub drain_begun : (old new : History) → SetsDrain old new → IsDraining new
drain_begun old new s = record {
  one = s.makes.one;
  at = 0;
  passed = s.passed;
  inside = omega arith;
  es = [];
  since = set_since old new s;
}

pub drain_takes : (a m b : Site) (v : RestedNow) → DrainsOne a.seat m.seat (shown v) → m.net ≡ a.net → JournalStays 1 a.room m.room → ClosesTaken m b v → DrainGoesOn a b
drain_takes a m b v p net room closed =
    let t : ThreadNo = a.seat.about.thread in
    let place : PlaceNo = nth_place t a.seat.about.threads p.at in
    let took : List Note = taking t caretaker false place (shown v).face p.takes.count in
    let last : List Note = plain (Close t caretaker v.id) ∷ [] in
    let sweeps = sweeps_take a m b place v p.takes net room closed in
    let below = p.below in let inside = p.inside in record {
      x = take_one t p.takes.looks place v p.takes.count;
      sweeps = sweeps;
      one = refl;
      from = p.from;
      to = p.at + 1;
      was = p.was;
      now = closed.closes.passed ∙ p.passed;
      goes = omega arith;
      inside = omega arith;
      since = since_by a.seat b.seat ((p.takes.looks ++ took) ++ last) sweeps.makes
          (no_gate_both (p.takes.looks ++ took) last (no_gate_both p.takes.looks took (no_gate_looks t p.takes.looks p.takes.looked) (tt, (tt, (tt, tt)))) (tt, tt));
    }

pub drain_ends : (a b : Site) → DrainsNone a.seat b.seat → b.net ≡ a.net → ((es : List Note) → Makes a.seat b.seat es → marks_of es ≡ [] → JournalStays 0 a.room b.room) → DrainEnds a b
drain_ends a b p net room =
    let t : ThreadNo = a.seat.about.thread in
    let looks : List Note = p.looks.looks in let m : Makes a.seat b.seat looks = p.looks.makes in record {
      x = looked looks;
      sweeps = sweeps_looks a b looks p.looks.looked m net (room looks m (looks_marks t looks p.looks.looked));
      none = refl;
      since = since_by a.seat b.seat looks m (no_gate_looks t looks p.looks.looked);
      all = p.all;
    }

pub drains_start : (a : Site) → IsDraining a.seat → DrainsTo a a 0
drains_start a d = record {
  x = no_sweep;
  sweeps = sweeps_none a d.one;
  counts = refl;
  from = d.at;
  to = d.at;
  was = d.passed;
  now = d.passed;
  goes = omega arith;
  inside = d.inside;
  since = λ es e. e ∙ ap Some (sym (append-nil es));
}

some_is : (m n : ℕ) (o : Option ℕ) → o ≡ Some m → o ≡ Some n → m ≡ n
some_is m n o e k = cc

pub drains_on : (a b c : Site) (n : ℕ) → DrainsTo a b n → DrainGoesOn b c → DrainsTo a c (n + 1)
drains_on a b c n p t =
    let same : b.seat.about ≡ a.seat.about = p.sweeps.makes.about in
    let at : p.to ≡ t.from = some_is p.to t.from b.seat.passed p.now t.was in
    let rows : b.seat.about.threads ≡ a.seat.about.threads = ap (λ (h : About). h.threads) same in
    let size = length-append p.x.swept t.x.swept in let one = t.one in let counts = p.counts in let goes = p.goes in let more = t.goes in let inside = t.inside in record {
      x = both p.x t.x;
      sweeps = sweeping_both a b c p.x t.x p.sweeps t.sweeps;
      counts = omega arith;
      from = p.from;
      to = t.to;
      was = p.was;
      now = t.now;
      goes = omega arith;
      inside = omega arith;
      since = λ es e. t.since (es ++ p.x.added) (p.since es e) ∙ ap Some (append_assoc es p.x.added t.x.added);
    }

pub drains_done : (a b c : Site) (n : ℕ) → DrainsTo a b n → DrainEnds b c → DrainsAll a c n
drains_done a b c n p t =
    let same : b.seat.about ≡ a.seat.about = p.sweeps.makes.about in
    let size = length-append p.x.swept t.x.swept in let none = t.none in let counts = p.counts in let goes = p.goes in let inside = p.inside in record {
      x = both p.x t.x;
      sweeps = sweeping_both a b c p.x t.x p.sweeps t.sweeps;
      counts = omega arith;
      few = omega arith;
      all = λ es e.
          let since : since_drain c.seat.mine ≡ Some (es ++ (p.x.added ++ t.x.added)) = t.since (es ++ p.x.added) (p.since es e) ∙ ap Some (append_assoc es p.x.added t.x.added) in
          subst (λ (h : About). AllCovered h (es ++ (p.x.added ++ t.x.added))) same
          (subst (λ (o : Option (List Note)). IfSome o (λ m. AllCovered b.seat.about m)) since t.all);
    }

-- how many were closed stays small
pub drains_few : (a b : Site) (n : ℕ) → DrainsTo a b n → n ≤ 1024
drains_few a b n p = let counts = p.counts in let goes = p.goes in let inside = p.inside in let threads = p.sweeps.makes.was.inside.1 in omega arith

-- the drain goes on
pub draining_still : (a b : Site) (n : ℕ) → IsDraining a.seat → DrainsTo a b n → IsDraining b.seat
draining_still a b n d p =
    let rows : b.seat.about.threads ≡ a.seat.about.threads = ap (λ (h : About). h.threads) p.sweeps.makes.about in let inside = p.inside in record {
      one = p.sweeps.makes.one;
      at = p.to;
      passed = p.now;
      inside = omega arith;
      es = d.es ++ p.x.added;
      since = p.since d.es d.since;
    }
