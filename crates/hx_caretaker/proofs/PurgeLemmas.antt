-- The calls of a purge, one after the other.
use Rattle.std.proofs.Common.{◌≡◌, ℕ, ◌+◌, ◌≤◌, false, List, [], ◌∷◌, ◌++◌, refl, sym, subst, arith, ⊎_elim, append_assoc}
use Rattle.std.proofs.lemmas.List.{append-nil, length-append}
use Rattle.hx_base.specs.declared.numbers.ThreadNo.{ThreadNo}
use Rattle.hx_base.specs.declared.numbers.PlaceNo.{PlaceNo}
use Rattle.hx_base.specs.Shown.{Shown}
use Rattle.hx_conn.specs.Conns.{RestedNow}
use Rattle.hx_conn.specs.WhatTold.{shown}
use Rattle.hx_pool.specs.declared.budget.Quota.{Quota}
use Rattle.hx_pool.specs.declared.entries.Entry.{Entry}
use Rattle.hx_pool.specs.declared.entries.Entry.TheVariants.{Close}
use Rattle.hx_pool.specs.declared.entries.Note.{Note}
use Rattle.hx_pool.specs.Causes.{caretaker, nth_place}
use Rattle.hx_pool.specs.Held.{Has}
use Rattle.hx_pool.specs.History.{plain, marks_of, takes_of}
use Rattle.hx_pool.specs.Opening.{HasConn}
use Rattle.hx_pool.specs.Purge.{StandsAt, PurgesOne, PurgesNone, KeepsQuota, IsUnderQuota, UsesQuota}
use Rattle.hx_pool.specs.SeatView.{About, History, Makes, StandsInOneHistory}
use Rattle.hx_pool.specs.Taking.{taking, Takes}
use Rattle.hx_pool.proofs.Calls.{has_taken, looks_marks}
use Rattle.hx_pool.proofs.Coverage.{quota_used}
use Rattle.hx_pool.proofs.Purges.{takes_of-append, covered_left}
use Rattle.hx_connecting.specs.Journals.{JournalStays}
use Rattle.hx_caretaker.specs.Sweeps.{no_sweep}
use Rattle.hx_caretaker.specs.Sites.{Site, ClosesTaken, PurgeGoesOn, PurgeEnds, PurgesTo, PurgesAll}
use Rattle.hx_caretaker.proofs.SweepLemmas.{sweeping_both, both, looked, sweeps_looks, sweeps_none, sweeps_take, take_one}

-- who took a connection has it
pub takes_has : (old new : History) (place : PlaceNo) (v : Shown) → Takes old new [] caretaker false place v → HasConn new caretaker v.face.id
takes_has old new place v t = (v.face.uses, subst (λ l. Has l caretaker v.face.id.0 v.face.uses) (sym t.makes.mine) (has_taken old.mine t.looks old.about.thread caretaker false place v.face t.count))

-- a closing under a quota takes nothing
under_close : (a : About) (c i : ℕ) (r : Quota) (es : List Note) (e : Entry) → takes_of (plain e ∷ []) ≡ 0 → IsUnderQuota a c i r es → IsUnderQuota a c i r (es ++ plain e ∷ [])
under_close a c i r es e none u =
    let sum = takes_of-append es (plain e ∷ []) in let l = u.left in record {
      stands = u.stands;
      left = omega arith;
      covered = λ j h. covered_left a.thread es (plain e ∷ []) (nth_place a.thread a.threads j) (u.covered j h);
    }

pub purge_takes : (a m b : Site) (q r : Quota) (v : RestedNow) → PurgesOne a.seat m.seat q r (shown v) → KeepsQuota a.seat m.seat q r → m.net ≡ a.net → JournalStays 1 a.room m.room → ClosesTaken m b v
    → PurgeGoesOn a b q r
purge_takes a m b q r v p keeps net room closed =
    let t : ThreadNo = a.seat.about.thread in
    let place : PlaceNo = nth_place t a.seat.about.threads p.at in
    let own : List Note = p.takes.looks ++ taking t caretaker false place (shown v).face p.takes.count in
    let s = p.seen in let below = p.below in record {
      x = take_one t p.takes.looks place v p.takes.count;
      sweeps = sweeps_take a m b place v p.takes net room closed;
      one = refl;
      goes = omega arith;
      stands = p.stands;
      under = λ c i es u.
          subst (λ l. IsUnderQuota a.seat.about c i r l) (append_assoc es own (plain (Close t caretaker v.id) ∷ []))
          (under_close a.seat.about c i r (es ++ own) (Close t caretaker v.id) refl (keeps c i es own p.takes.makes.mine u));
    }

pub purge_ends : (a b : Site) (q r : Quota) → PurgesNone a.seat b.seat q r → b.net ≡ a.net → ((es : List Note) → Makes a.seat b.seat es → marks_of es ≡ [] → JournalStays 0 a.room b.room) → PurgeEnds a b q
purge_ends a b q r p net room = ⊎_elim
    (λ s. record {
      x = looked [];
      sweeps = sweeps_looks a b [] tt s.2.makes net (room [] s.2.makes refl);
      none = refl;
      used = λ c i es u. quota_used a.seat b.seat q r c i es [] s.2.makes.was.inside.0 s.2.makes.mine p u;
    })
    (λ s.
    let looks : List Note = s.1.looks in let m : Makes a.seat b.seat looks = s.1.makes.makes in record {
      x = looked looks;
      sweeps = sweeps_looks a b looks s.1.looked m net (room looks m (looks_marks a.seat.about.thread looks s.1.looked));
      none = refl;
      used = λ c i es u. quota_used a.seat b.seat q r c i es looks m.was.inside.0 m.mine p u;
    })
    p

pub purges_start : (a : Site) (q : Quota) → StandsInOneHistory a.seat → StandsAt a.seat.about q → PurgesTo a a q q 0
purges_start a q one stands = record {
  x = no_sweep;
  sweeps = sweeps_none a one;
  counts = refl;
  goes = omega arith;
  stands = stands;
  under = λ c i es u. subst (λ m. IsUnderQuota a.seat.about c i q m) (sym (append-nil es)) u;
}

pub purges_on : (a b c : Site) (q r s : Quota) (n : ℕ) → PurgesTo a b q r n → PurgeGoesOn b c r s → PurgesTo a c q s (n + 1)
purges_on a b c q r s n p t =
    let same : b.seat.about ≡ a.seat.about = p.sweeps.makes.about in
    let size = length-append p.x.swept t.x.swept in let one = t.one in let counts = p.counts in let goes = p.goes in let more = t.goes in record {
      x = both p.x t.x;
      sweeps = sweeping_both a b c p.x t.x p.sweeps t.sweeps;
      counts = omega arith;
      goes = omega arith;
      stands = subst (λ (h : About). StandsAt h s) same t.stands;
      under = λ k i es u.
          subst (λ m. IsUnderQuota a.seat.about k i s m) (append_assoc es p.x.added t.x.added)
          (subst (λ (h : About). IsUnderQuota h k i s ((es ++ p.x.added) ++ t.x.added)) same
          (t.under k i (es ++ p.x.added) (subst (λ (h : About). IsUnderQuota h k i r (es ++ p.x.added)) (sym same) (p.under k i es u))));
    }

pub purges_done : (a b c : Site) (q r : Quota) (n : ℕ) → PurgesTo a b q r n → PurgeEnds b c r → PurgesAll a c q n
purges_done a b c q r n p t =
    let same : b.seat.about ≡ a.seat.about = p.sweeps.makes.about in
    let size = length-append p.x.swept t.x.swept in let none = t.none in let counts = p.counts in let goes = p.goes in let inside = p.stands.inside in record {
      x = both p.x t.x;
      sweeps = sweeping_both a b c p.x t.x p.sweeps t.sweeps;
      counts = omega arith;
      few = omega arith;
      used = λ k i es u.
          subst (λ m. UsesQuota a.seat.about k i m) (append_assoc es p.x.added t.x.added)
          (subst (λ (h : About). UsesQuota h k i ((es ++ p.x.added) ++ t.x.added)) same
          (t.used k i (es ++ p.x.added) (subst (λ (h : About). IsUnderQuota h k i r (es ++ p.x.added)) (sym same) (p.under k i es u))));
    }

-- how many were closed stays small
pub purges_few : (a b : Site) (q r : Quota) (n : ℕ) → PurgesTo a b q r n → n ≤ 1024
purges_few a b q r n p = let counts = p.counts in let goes = p.goes in let inside = p.stands.inside in let threads = p.sweeps.makes.was.inside.1 in omega arith
