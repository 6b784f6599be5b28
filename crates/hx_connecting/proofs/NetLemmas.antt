-- What a net keeps through calls, and what it buries.
use Rattle.std.proofs.Common.{◌≡◌, ◌≤◌, Bool, true, false, List, [], ◌∷◌, ◌++◌, refl, sym, ap, subst, ◌∙◌, inl, inr, arith, Option, Some, None, ⊎_elim, append_assoc}
use Rattle.std.specs.Prelude.{IfSome, option_map, option_to_list}
use Rattle.hx_base.specs.declared.numbers.ThreadNo.{ThreadNo}
use Rattle.hx_base.specs.declared.numbers.SessionNo.{SessionNo}
use Rattle.hx_base.specs.declared.what.What.{What}
use Rattle.hx_link.specs.Told.{LinkState}
use Rattle.hx_link.specs.Courses.{Course, without_next}
use Rattle.hx_link.specs.Nets.{NetState, NetBuries, OnlyFaults, DialTold, told_dial}
use Rattle.hx_pool.specs.declared.entries.Note.{Note}
use Rattle.hx_pool.specs.SeatView.{History}
use Rattle.hx_record.specs.declared.served.Served.{Served}
use Rattle.hx_connecting.specs.Closings.{ClosesFor, call_of}
use Rattle.hx_connecting.specs.Outcomes.{Outcome}
use Rattle.hx_connecting.proofs.CauseLemmas.{causes_on, cause_faults, rose_on}
use Rattle.hx_connecting.specs.Links.{GainsAll, CourseStays, LeavesPlans, DialFollows, DialsFor, plans_of}
use Rattle.hx_connecting.specs.Sessions.{Holding}
use Rattle.hx_connecting.specs.Touches.{Touch, Came, Had, Opened, Took}
use Rattle.hx_connecting.specs.Ways.{NetStays, WayOf, WayFor}
use Rattle.hx_connecting.proofs.WayLemmas.{gains_eq, course_stays, bury_dials, bury_gains}

gains_both : {A : Type 0} (xs ys : List A) (a b c : Option (List A)) → GainsAll xs a b → GainsAll ys b c → GainsAll (xs ++ ys) a c
gains_both {A = A} xs ys a b c x y = ⊎_elim
    (λ (e : b ≡ option_map (λ l. l ++ xs) a). ⊎_elim (λ (f : c ≡ option_map (λ l. l ++ ys) b). inl (f ∙ (ap (λ o. option_map (λ l. l ++ ys) o) e ∙ twice a))) (λ (f : c ≡ None). inr f) y)
    (λ (e : b ≡ None). ⊎_elim (λ (f : c ≡ option_map (λ l. l ++ ys) b). inr (f ∙ ap (λ o. option_map (λ l. l ++ ys) o) e)) (λ (f : c ≡ None). inr f) y)
    x
  where
    twice : (o : Option (List A)) → option_map (λ l. l ++ ys) (option_map (λ l. l ++ xs) o) ≡ option_map (λ l. l ++ (xs ++ ys)) o
    twice None = refl
    twice (Some l) = ap (λ m. Some m) (append_assoc l xs ys)

course_then : (a b c : NetState) → CourseStays a b → CourseStays b c → CourseStays a c
course_then a b c x y = by_course a.course x
  where
    by_course : (o : Option Course) → LeavesPlans (plans_of o) o b.course → LeavesPlans (plans_of o) o c.course
    by_course None k = tt
    by_course (Some q) k =
        let z = subst (λ (p : Option Course). LeavesPlans (plans_of p) p c.course) k.1 y in
        (z.0, z.1, z.2 ∙ k.2, λ e. z.3 (k.3 e))

pub net_then : (a b c : NetState) → NetStays a b → NetStays b c → NetStays a c
net_then a b c x y = record {
  course = course_then a b c x.course y.course;
  dials = gains_both [] [] a.dials b.dials c.dials x.dials y.dials;
  buries = gains_both [] [] a.buried b.buried c.buried x.buries y.buries;
  faults = omega (arith, x.faults, y.faults);
}

pub net_same : (a : NetState) → NetStays a a
net_same a = record { course = course_stays a.course; dials = gains_eq a.dials a.dials refl; buries = gains_eq a.buried a.buried refl; faults = omega arith }

pub net_is : (a b : NetState) → b ≡ a → NetStays a b
net_is a b e = subst (λ (s : NetState). NetStays a s) (sym e) (net_same a)

pub net_faults : (a b : NetState) → OnlyFaults a b → NetStays a b
net_faults a b k = record {
  course = subst (λ (o : Option Course). LeavesPlans (plans_of a.course) a.course o) (sym (ap (λ (s : NetState). s.course) k.0)) (course_stays a.course);
  dials = gains_eq a.dials b.dials (ap (λ (s : NetState). s.dials) k.0);
  buries = gains_eq a.buried b.buried (ap (λ (s : NetState). s.buried) k.0);
  faults = k.1;
}

-- one link is buried, and none is dialled
pub record NetEnds (old new : NetState) (l : LinkState) : Type 0 where
  pub course : CourseStays old new
  pub dials : GainsAll [] old.dials new.dials
  pub buries : GainsAll (l ∷ []) old.buried new.buried
  pub faults : old.faults ≤ new.faults

pub net_buries : (a b : NetState) (l : LinkState) → NetBuries a b l → NetEnds a b l
net_buries a b l k =
    let d = bury_dials a a b l refl (course_stays a.course) k in
    record { course = d.1; dials = d.0; buries = bury_gains a.buried a.buried b.buried l refl k.3; faults = k.1 }

pub ends_after : (a b c : NetState) (l : LinkState) → NetStays a b → NetEnds b c l → NetEnds a c l
ends_after a b c l x y = record {
  course = course_then a b c x.course y.course;
  dials = gains_both [] [] a.dials b.dials c.dials x.dials y.dials;
  buries = gains_both [] (l ∷ []) a.buried b.buried c.buried x.buries y.buries;
  faults = omega (arith, x.faults, y.faults);
}

pub ends_before : (a b c : NetState) (l : LinkState) → NetEnds a b l → NetStays b c → NetEnds a c l
ends_before a b c l x y = record {
  course = course_then a b c x.course y.course;
  dials = gains_both [] [] a.dials b.dials c.dials x.dials y.dials;
  buries = gains_both (l ∷ []) [] a.buried b.buried c.buried x.buries y.buries;
  faults = omega (arith, x.faults, y.faults);
}

-- a way, and then a fault of the net or none
follows_on : (x : Touch) (c : Course) (new new' : NetState) (answered : Bool) (w : Option What) → new'.dials ≡ new.dials → DialFollows x c new answered w → DialFollows x c new' answered w
follows_on x c new new' true w e f = f
follows_on x c new new' false w e f = ⊎_elim (λ z. inl z) (λ z. inr (e ∙ z)) f

follow_on : (x : Touch) (o : Option Course) (new new' : NetState) (answered : Bool) (w : Option What) → new'.dials ≡ new.dials → IfSome o (λ c. DialFollows x c new answered w) → IfSome o (λ c. DialFollows x c new' answered w)
follow_on x None new new' answered w e f = tt
follow_on x (Some c) new new' answered w e f = follows_on x c new new' answered w e f

dials_on : (x : Touch) (came : Came) (old new new' : NetState) (w : Option What) → OnlyFaults new new' → DialsFor x came old new w → DialsFor x came old new' w
dials_on x Had old new new' w k d =
    (subst (λ o. GainsAll [] old.dials o) (sym (ap (λ (s : NetState). s.dials) k.0)) d.0, subst (λ o. LeavesPlans (plans_of old.course) old.course o) (sym (ap (λ (s : NetState). s.course) k.0)) d.1)
dials_on x (Took place uses) old new new' w k d =
    (subst (λ o. GainsAll [] old.dials o) (sym (ap (λ (s : NetState). s.dials) k.0)) d.0, subst (λ o. LeavesPlans (plans_of old.course) old.course o) (sym (ap (λ (s : NetState). s.course) k.0)) d.1)
dials_on x Opened old new new' w k (answered, tag, gains, follows, leaves, end) =
    let dials : new'.dials ≡ new.dials = ap (λ (s : NetState). s.dials) k.0 in
    let course : new'.course ≡ new.course = ap (λ (s : NetState). s.course) k.0 in (
      answered,
      tag,
      subst (λ (o : Option (List DialTold)). GainsAll (told_dial x.server x.id answered tag ∷ []) old.dials o) (sym dials) gains,
      follow_on x old.course new new' answered w dials follows,
      subst (λ (o : Option Course). LeavesPlans (without_next x.server (plans_of old.course)) old.course o) (sym course) leaves,
      ⊎_elim (λ z. inl z) (λ z. inr (z.0, z.1, rose_on old.faults new.faults new'.faults z.2 k.1)) end,
    )

pub way_faults : (t : ThreadNo) (n : SessionNo) (c c' : Option Holding) (z : Outcome) (h : History) (es : List Note) (old new new' : NetState) (x : Touch) (served : Option Served) → OnlyFaults new new'
    → WayOf t n c c' z h es old new x served → WayOf t n c c' z h es old new' x served
way_faults t n c c' z h es old new new' x served k way = λ s s' was is by named.
    let y = way s s' was is by named in
    let g = y.0 in (
      record {
        before = g.before;
        after = g.after;
        gone = g.gone;
        was = g.was;
        is = g.is;
        same = g.same;
        dials = dials_on x x.came old new new' g.after k g.dials;
        buries = subst (λ (o : Option (List LinkState)). GainsAll (option_to_list g.gone) old.buried o) (sym (ap (λ (s : NetState). s.buried) k.0)) g.buries;
      },
      y.1,
      y.2,
      λ closed left number comes.
          causes_on (λ m id b. ClosesFor (call_of s s' old new h b x g.before g.after served left)) (λ m id b. ClosesFor (call_of s s' old new' h b x g.before g.after served left))
          (λ m id b. cause_faults s s' old new new' h b x g.before g.after served left k.1) [] es (y.3 closed left number comes),
    )

pub for_faults : (t : ThreadNo) (n : SessionNo) (c c' : Option Holding) (z : Outcome) (news : List History) (added : List (List Note)) (old new new' : NetState) (x : Option Touch) (served : Option Served) → OnlyFaults new new'
    → WayFor t n c c' z news added old new x served → WayFor t n c c' z news added old new' x served
for_faults t n c c' z news added old new new' None served k way = (way.0, net_then old new new' way.1 (net_faults new new' k))
for_faults t n c c' z news added old new new' (Some x) served k way = record {
  history = way.history;
  es = way.es;
  seat = way.seat;
  entries = way.entries;
  faults = omega (arith, way.faults, k.1);
  way = way_faults t n c c' z way.history way.es old new new' x served k way.way;
}
