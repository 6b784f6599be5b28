-- The kinds of step keep the rule.
use Rattle.std.proofs.Common.{◌≡◌, ◌≢◌, ℕ, zero, suc, ◌+◌, ◌%◌, ◌^◌, ◌<◌, ◌≤◌, eqb, true, false, List, [], ◌∷◌, ◌++◌, length, get_or, set, cond, eq-eqb, ne_eqb, inl, inr, ◌⊎◌, ⊎_elim, sym, refl, ap, ◌∙◌, subst, arith, Option, Some, None, append_assoc, length-set, get_or-set_other, get_or-set_same, length-append}
use Rattle.std.proofs.lemmas.List.{append-nil, set-get_or}
use Rattle.std.proofs.lemmas.Bool.{cases_eq}
use mathlib.Core.Option.{some, none, some-injective, some-ne-none}
use mathlib.Core.Option as maybe
use prog.Atomic.{either}
use lib.ListN.{get_elem?}
use Rattle.atomic_table.specs.Table.{State, Me, Act, keeps, takes, gives, step, stepped, Valid, Allows, Splits, Joins, opening, carried_after, put_back}
use Rattle.atomic_table.proofs.Lists.{at_set, set_again, set_else, at_snoc, at_longer}
use Rattle.hx_base.specs.Shown.{Shown}
use Rattle.hx_pool.specs.declared.board.BoardTerms.{BoardTerms}
use Rattle.hx_pool.specs.declared.entries.Note.{Note}
use Rattle.hx_pool.specs.History.{own_of}
use Rattle.hx_pool.proofs.Histories.{own_of-append}
use Rattle.hx_resting.specs.declared.values.Rows.{Rows}
use Rattle.hx_resting.specs.declared.roles.View.{View}
use Rattle.hx_resting.specs.declared.roles.Role.{Role}
use Rattle.hx_resting.specs.declared.roles.Role.TheVariants.{Makes, Works, Copy, Spent}
use Rattle.hx_resting.specs.Rows.{IsRight, IsAfter}
use Rattle.hx_resting.specs.Desks.{noting}
use Rattle.hx_lockboard.specs.Views.{maker, worker, more_given, copy_of, told_by, spent, got, wrote, settled, gave, heard}
use Rattle.hx_lockboard.specs.Rule.{AllBy, Sees, Knows, Sits, Holds, Lies}
use Rattle.hx_lockboard.proofs.Owners.{own_all}
use Rattle.hx_lockboard.proofs.Frame.{Rule, St, knows, moved, set_there}

some_same : {A : Type 0} (a c : A) → Some a ≡ Some c → a ≡ c
some_same a c e = cc

module _ {V : Type 0} (shows : V → Shown) (b : BoardTerms) where
  abbrev R : State (Option (Rows V)) View → Type 0
  R = Rule shows b

  abbrev M : Type 0
  M = Me (Option (Rows V)) View

  sees_at : (s : St shows b) (r : R s) (id : ℕ) (v : View) → get_elem? s.views id ≡ some v → v.role ≡ Works → Sees r.log v
  sees_at s r id v here works = (knows shows b s r id v Works here works).2

  terms_at : (s : St shows b) (r : R s) (id : ℕ) (v : View) → get_elem? s.views id ≡ some v → v.role ≡ Works → v.terms ≡ b
  terms_at s r id v here works = (r.each_seat id v here).terms works

  -- all that the history has of the seat's thread
  whole_own : (log : List Note) (v : View) → (k : Sees log v) → v.mine ≡ own_of v.thread (v.seen ++ k.rest)
  whole_own log v k = k.own ∙ (sym (append-nil (own_of v.thread v.seen)) ∙ (ap (λ l. own_of v.thread v.seen ++ l) (sym k.others) ∙ sym (own_of-append v.thread v.seen k.rest)))

  -- the value is away with a seat that has it
  away : (s : St shows b) (r : R s) (id : ℕ) (v : View) → get_elem? s.views id ≡ some v → v.out ≡ true
      → (get_or s.words 0 0 ≡ 1) × (s.homes ≡ none ∷ []) × Holds r.log r.noted v × (r.holder ≡ Some id)
  away s r id v here out =
      let held = (r.each_seat id v here).holds out in
      let l : Lies shows b s r.log r.noted (Some id) = subst (Lies shows b s r.log r.noted) held r.lies in
      let same : l.2.0 ≡ v = some-injective l.2.0 v (sym l.2.1 ∙ here) in
      (l.0, l.1, subst (Holds r.log r.noted) same l.2.2, held)

  abbrev Goes : ℕ → M → (s : St shows b) → (ℕ → ℕ) → ℕ → (ℕ → M → Type 0) → ℕ → Type 0
  Goes id me s f i then n = (w : View) × (a : Act (Option (Rows V))) × Valid s.homes me.1 a × R (stepped s i (f n) id me.1 w a) × then n (w, carried_after me.1 a)

  abbrev won : ℕ → ℕ
  won n = either (eqb n 0) 1 n

  pub gets : (slots id : ℕ) (me : M) → me.0.role ≡ Works → Allows R slots id me 0 won (got shows (step slots 0 0 1 none) me)
  gets slots id me works s r deep here small = by_holder r.holder refl r.lies
    where
      v : View
      v = me.0

      then : ℕ → M → Type 0
      then = got shows (step slots 0 0 1 none) me

      by_holder : (h : Option ℕ) → r.holder ≡ h → Lies shows b s r.log r.noted h → Goes id me s won 0 then (get_or s.words 0 0)
      by_holder None at l =
          let k = sees_at s r id me.0 here works in
          let w : View = record me.0 { out = true; seen = r.log; noted = [] } in
          let rows : Rows V = l.2.0 in
          let hs : List (maybe.Option (Option (Rows V))) = set s.homes 0 none in
          let two = r.two in
          let sees : Sees r.log w = record { rest = []; whole = sym (append-nil r.log); others = refl; own = whole_own r.log me.0 k ∙ ap (own_of me.0.thread) (sym k.whole); told = k.told } in
          subst (Goes id me s won 0 (got shows (step slots 0 0 1 none) me)) (sym l.0) (
            w,
            takes 0 (Some rows),
            ap (λ h. get_elem? h 0) l.2.1,
            moved shows b s r id me.0 w r.log [] (set s.words 0 1) hs (Some id) r.noted here works works refl (terms_at s r id me.0 here works) (sym (append-nil r.log)) sees tt (λ _. refl)
                (λ j ne e. let no = sym at ∙ e in cc) r.right
                (length-set s.words 0 1 ∙ two)
                (get_or-set_other s.words 0 1 1 0 (λ e. omega arith) ∙ r.counts)
                (get_or-set_same s.words 0 1 0 (omega arith), ap (λ h. set h 0 none) l.2.1, (w, set_there s.views id me.0 w here, record { works = works; out = refl; whole = refl; count = let c = l.1 in omega arith })),
            record {
              rows = rows;
              carried = refl;
              between = k.rest;
              view = ap (λ x. record me.0 { out = true; seen = x; noted = [] }) k.whole;
              others = k.others;
              own = whole_own r.log me.0 k;
              after = subst (λ (x : BoardTerms). IsAfter shows x (me.0.seen ++ k.rest) rows) (sym (terms_at s r id me.0 here works)) (subst (λ x. IsAfter shows b x rows) k.whole l.2.2);
            },
          )
      by_holder (Some j) at l =
          let same : R (stepped s 0 1 id me.1 me.0 keeps) =
          subst (λ (z : List ℕ × List View). R record { words = z.0; homes = s.homes; views = z.1 })
          (λ i. ((sym (ap (λ (n : ℕ). set s.words 0 n) (sym l.0) ∙ set-get_or s.words 0 0)) i, sym (set_again s.views id me.0 here) i)) r in
          subst (Goes id me s won 0 (got shows (step slots 0 0 1 none) me)) (sym l.0) (me.0, keeps, tt, same, refl)

  -- the table with other views
  viewed : (s : St shows b) (r : R s) (views : List View) → Lies shows b (record { words = s.words; homes = s.homes; views = views }) r.log r.noted r.holder → ((j : ℕ) (v : View) → get_elem? views j ≡ some v → Sits b r.given r.log r.owner r.holder j v)
      → R record { words = s.words; homes = s.homes; views = views }
  viewed s r views lies each = record {
    log = r.log;
    given = r.given;
    owner = r.owner;
    holder = r.holder;
    noted = r.noted;
    right = r.right;
    two = r.two;
    counts = r.counts;
    lies = lies;
    each_seat = each;
    not_given = r.not_given;
    few_threads = r.few_threads;
  }

  -- the value lies where it lay, if its holder's view is still there
  lies_on : (s : St shows b) (views : List View) (log : List Note) (noted : ℕ) (h : Option ℕ) → Lies shows b s log noted h → ((j : ℕ) (v : View) → h ≡ Some j → get_elem? s.views j ≡ some v → Holds log noted v → (w : View) × (get_elem? views j ≡ some w) × Holds log noted w)
      → Lies shows b (record { words = s.words; homes = s.homes; views = views }) log noted h
  lies_on s views log noted None l keep = l
  lies_on s views log noted (Some j) l keep = (l.0, l.1, keep j l.2.0 refl l.2.1 l.2.2)

  more_mod : (n m : ℕ) → n ≡ m % 2 ^ 64 → (n + 1) % 2 ^ 64 ≡ (m + 1) % 2 ^ 64
  more_mod n m e = omega arith

  pub notes : (slots id : ℕ) (me : M) (x : Note) → me.0.role ≡ Works → me.0.out ≡ true → Allows R slots id me 1 (λ n. (n + 1) % 2 ^ 64) (wrote x (step slots 1 1 0 none) me)
  notes slots id me x works out s r deep here small =
      let k = sees_at s r id me.0 here works in
      let held = away s r id me.0 here out in
      let w : View = noting me.0 x in
      let two = r.two in
      let sees : Sees r.log w = record { rest = k.rest; whole = k.whole; others = k.others; own = k.own; told = k.told } in
      let c = held.2.count in
      let ws : List ℕ = set s.words 1 ((get_or s.words 1 0 + 1) % 2 ^ 64) in
      let lies : Lies shows b (record { words = ws; homes = s.homes; views = set s.views id w }) r.log (r.noted + 1) (Some id) = (
        get_or-set_other s.words 1 0 ((get_or s.words 1 0 + 1) % 2 ^ 64) 0 (λ e. omega arith) ∙ held.0,
        held.1,
        (w, set_there s.views id me.0 w here, record { works = works; out = out; whole = held.2.whole; count = omega (arith, length-append me.0.noted (x ∷ [])) }),
      ) in (
        w,
        keeps,
        tt,
        moved shows b s r id me.0 w r.log [] ws s.homes (Some id) (r.noted + 1) here works works refl (terms_at s r id me.0 here works) (sym (append-nil r.log)) sees tt (λ _. refl)
            (λ j ne e. sym held.3 ∙ e) r.right
            (length-set s.words 1 ((get_or s.words 1 0 + 1) % 2 ^ 64) ∙ two)
            (get_or-set_same s.words 1 ((get_or s.words 1 0 + 1) % 2 ^ 64) 0 (omega arith) ∙ more_mod (get_or s.words 1 0) r.noted r.counts)
            lies,
        refl,
      )

  pub returns_value : (slots id : ℕ) (me : M) (rows : Rows V) (more : List (ℕ × Option (Rows V))) → me.0.role ≡ Works → me.0.out ≡ true → me.1 ≡ (0, Some rows) ∷ more → IsAfter shows me.0.terms (me.0.seen ++ me.0.noted) rows → AllBy me.0.thread me.0.noted
      → Allows R slots id me 0 (λ _. 0) (λ _. gave (step slots 0 0 0 none) me 0)
  returns_value slots id me rows more works out has after all s r deep here small =
      let v : View = me.0 in
      let k = sees_at s r id v here works in
      let held = away s r id v here out in
      let w : View = settled v in
      let two = r.two in
      let terms = terms_at s r id v here works in
      let log : List Note = v.seen ++ v.noted in
      let grown : log ≡ r.log ++ v.noted = ap (λ l. l ++ v.noted) held.2.whole in
      let sees : Sees log w = record {
        rest = [];
        whole = sym (append-nil log);
        others = refl;
        own = ap (λ l. l ++ v.noted) k.own ∙ (ap (λ l. own_of v.thread v.seen ++ l) (sym (own_all v.thread v.noted all)) ∙ sym (own_of-append v.thread v.seen v.noted));
        told = (k.told.0 ++ v.noted, grown ∙ (ap (λ l. l ++ v.noted) k.told.1 ∙ append_assoc v.told k.told.0 v.noted));
      } in
      let hs : List (maybe.Option (Option (Rows V))) = put_back s.homes me.1 in
      let ws : List ℕ = set s.words 0 0 in
      let home : hs ≡ some (Some rows) ∷ [] = ap (put_back s.homes) has ∙ ap (λ h. set h 0 (some (Some rows))) held.1 in
      let c = held.2.count in
      let whole = ap length held.2.whole in
      let right : IsRight b log = subst (λ (x : BoardTerms). IsRight x log) terms after.stands.right in
      let lies : Lies shows b (record { words = ws; homes = hs; views = set s.views id w }) log r.noted None = (
        get_or-set_same s.words 0 0 0 (omega arith),
        omega (arith, length-append v.seen v.noted),
        (rows, home, subst (λ (x : BoardTerms). IsAfter shows x log rows) terms after),
      ) in (
        w,
        gives,
        tt,
        moved shows b s r id v w log v.noted ws hs None r.noted here works works refl terms grown sees all (λ o. cc)
            (λ j ne e. let no = some_same id j (sym held.3 ∙ e) in absurd (ne (sym no))) right
            (length-set s.words 0 0 ∙ two)
            (get_or-set_other s.words 0 1 0 0 (λ e. omega arith) ∙ r.counts)
            lies,
        refl,
      )

  pub copies : (id : ℕ) (v : View) → v.role ≡ Works → Splits R id v v (copy_of v)
  copies id v works s r here =
      let k = sees_at s r id v here works in
      let views : List View = set s.views id v ++ copy_of v ∷ [] in
      viewed s r views
      (lies_on s views r.log r.noted r.holder r.lies (λ j x _ e h. (x, at_longer (set s.views id v) (copy_of v ∷ []) j x (subst (λ (l : List View). get_elem? l j ≡ some x) (sym (set_again s.views id v here)) e), h)))
      (λ j x e. ⊎_elim
      (λ (e' : get_elem? (set s.views id v) j ≡ some x). r.each_seat j x (subst (λ (l : List View). get_elem? l j ≡ some x) (set_again s.views id v here) e'))
      (λ (e' : copy_of v ≡ x). subst (Sits b r.given r.log r.owner r.holder j) e' record { knows = (k.rest, k.whole); terms = λ z. cc; makes = λ z. cc; holds = λ z. cc })
      (at_snoc (set s.views id v) (copy_of v) x j e))

  pub joins : (id : ℕ) (v : View) (other : ℕ) (w : View) → v.role ≡ Works → w.role ≡ Copy → Joins R id v other w (told_by v w) spent
  joins id v other w works copy s r here apart there =
      let both : View = told_by v w in
      let sits = r.each_seat id v here in
      let kn = knows shows b s r id v Works here works in
      let k = kn.2 in
      let was : get_elem? s.views other ≡ some w = ⊎_elim (λ (t : (other ≡ id) × (both ≡ w)). absurd (apart t.0)) (λ (t : (other ≢ id) × (get_elem? s.views other ≡ some w)). t.1) (at_set s.views id other both w there) in
      let c = knows shows b s r other w Copy was copy in
      let views : List View = set (set s.views id both) other spent in
      viewed s r views
      (lies_on s views r.log r.noted r.holder r.lies (λ j x _ e h. by_seat j x e h))
      (λ j x e. ⊎_elim
      (λ (t : (j ≡ other) × (spent ≡ x)). subst (Sits b r.given r.log r.owner r.holder j) t.1 record { knows = tt; terms = λ z. cc; makes = λ z. cc; holds = λ z. cc })
      (λ (t : (j ≢ other) × (get_elem? (set s.views id both) j ≡ some x)). ⊎_elim
      (λ (u : (j ≡ id) × (both ≡ x)). subst (λ (z : ℕ × View). Sits b r.given r.log r.owner r.holder z.0 z.1) (λ i. (sym u.0 i, u.1 i)) record {
        knows = subst (Knows r.given r.log r.owner id both) (sym works) (kn.0, kn.1, record { rest = k.rest; whole = k.whole; others = k.others; own = k.own; told = c });
        terms = sits.terms;
        makes = sits.makes;
        holds = sits.holds;
      })
      (λ (u : (j ≢ id) × (get_elem? s.views j ≡ some x)). r.each_seat j x u.1)
      (at_set s.views id j both x t.1))
      (at_set (set s.views id both) other j spent x e))
    where
      at_other : (l : List View) (i j : ℕ) (a y : View) → j ≢ i → get_elem? l j ≡ some y → get_elem? (set l i a) j ≡ some y
      at_other l i j a y ne e = set_else l i j a ne ∙ e

      by_seat : (j : ℕ) (x : View) → get_elem? s.views j ≡ some x → Holds r.log r.noted x → (y : View) × (get_elem? (set (set s.views id (told_by v w)) other spent) j ≡ some y) × Holds r.log r.noted y
      by_seat j x e h =
          let was : get_elem? s.views other ≡ some w = ⊎_elim (λ (t : (other ≡ id) × (told_by v w ≡ w)). absurd (apart t.0)) (λ (t : (other ≢ id) × (get_elem? s.views other ≡ some w)). t.1) (at_set s.views id other (told_by v w) w there) in
          let far : j ≢ other = λ same. let q : x ≡ w = some-injective x w (sym e ∙ (ap (λ n. get_elem? s.views n) same ∙ was)) in let a = ap (λ (z : View). z.role) q in let d = h.works in cc in
          ⊎_elim
          (λ (same : j ≡ id).
          let q : x ≡ v = some-injective x v (sym e ∙ (ap (λ n. get_elem? s.views n) same ∙ here)) in
          let d : Holds r.log r.noted v = subst (Holds r.log r.noted) q h in
          (told_by v w, at_other (set s.views id (told_by v w)) other j spent (told_by v w) far (ap (λ n. get_elem? (set s.views id (told_by v w)) n) same ∙ set_there s.views id v (told_by v w) here), record { works = d.works; out = d.out; whole = d.whole; count = d.count }))
          (λ (ne : j ≢ id). (x, at_other (set s.views id (told_by v w)) other j spent x far (at_other s.views id j (told_by v w) x ne e), h))
          (cases_eq j id)

  pub hears : (slots id : ℕ) (me : M) → me.0.role ≡ Works → me.0.out ≡ false → Allows R slots id me 0 (λ n. n) (heard (step slots 0 0 0 none) me)
  hears slots id me works home s r deep here small =
      let v : View = me.0 in
      let k = sees_at s r id v here works in
      let terms = terms_at s r id v here works in
      let w : View = record v { seen = r.log; told = [] } in
      let sees : Sees r.log w = record { rest = []; whole = sym (append-nil r.log); others = refl; own = whole_own r.log v k ∙ ap (own_of v.thread) (sym k.whole); told = (r.log, refl) } in
      let views : List View = set s.views id w in
      let done = moved shows b s r id v w r.log [] s.words s.homes r.holder r.noted here works works refl terms (sym (append-nil r.log)) sees tt (λ o. let no = sym home ∙ o in cc) (λ j ne e. e) r.right r.two r.counts
      (lies_on s views r.log r.noted r.holder r.lies (λ j x held e h. ⊎_elim
      (λ (same : j ≡ id). let q : x ≡ v = some-injective x v (sym e ∙ (ap (λ n. get_elem? s.views n) same ∙ here)) in let o = ap (λ (z : View). z.out) q in let d = h.out in absurd (let no = sym home ∙ (sym o ∙ d) in cc))
      (λ (ne : j ≢ id). (x, set_else s.views id j w ne ∙ e, h))
      (cases_eq j id))) in (
        w,
        keeps,
        tt,
        subst (λ (ws : List ℕ). R record { words = ws; homes = s.homes; views = views }) (sym (set-get_or s.words 0 0)) done,
        (
          refl,
          record {
            between = k.rest;
            more = k.told.0;
            view = ap (λ x. record v { seen = x; told = [] }) k.whole;
            told = sym k.whole ∙ k.told.1;
            others = k.others;
            own = whole_own r.log v k;
            right = subst (λ (x : BoardTerms). IsRight x (v.seen ++ k.rest)) (sym terms) (subst (λ x. IsRight b x) k.whole r.right);
          },
        ),
      )

  pub starts : (rows : Rows V) → b.threads ≤ 16 → IsAfter shows b [] rows → R (opening (0 ∷ 0 ∷ []) (Some rows ∷ []) (maker b))
  starts rows few after = record {
    log = [];
    given = 0;
    owner = λ _. 0;
    holder = None;
    noted = 0;
    right = after.stands.right;
    two = refl;
    counts = refl;
    lies = (refl, refl, (rows, refl, after));
    each_seat = first;
    not_given = λ t l. refl;
    few_threads = (omega arith, few);
  }
    where
      first : (j : ℕ) (v : View) → get_elem? (maker b ∷ []) j ≡ some v → Sits b 0 [] (λ _. 0) None j v
      first zero v e = subst (Sits b 0 [] (λ _. 0) None 0) (some-injective (maker b) v e) record { knows = (refl, refl); terms = λ z. cc; makes = λ z. refl; holds = λ z. cc }
      first (suc j) v e = absurd (some-ne-none v (sym e))

  put_at : (ℕ → ℕ) → ℕ → ℕ → ℕ → ℕ
  put_at f k x j = cond (eqb j k) x (f j)

  put_here : (f : ℕ → ℕ) (k x j : ℕ) → j ≡ k → put_at f k x j ≡ x
  unfolding put_at
  put_here f k x j e = ap (λ c. cond c x (f j)) (eq-eqb j k e)

  put_else : (f : ℕ → ℕ) (k x j : ℕ) → j ≢ k → put_at f k x j ≡ f j
  unfolding put_at
  put_else f k x j ne = ap (λ c. cond c x (f j)) (ne_eqb j k ne)

  one_more_given : (given : ℕ) (log : List Note) (owner : ℕ → ℕ) (last seat : ℕ) (v : View) → seat ≢ 0 → (role : Role) → Knows given log owner seat v role → Knows (given + 1) log (put_at owner given last) seat v role
  one_more_given given log owner last seat v other Makes k = absurd (other k.0)
  one_more_given given log owner last seat v other Works k = (omega arith, put_else owner given last v.thread.0 (λ same. let low = k.0 in omega arith) ∙ k.1, k.2)
  one_more_given given log owner last seat v other Copy k = k
  one_more_given given log owner last seat v other Spent k = tt

  pub gives_seat : (id : ℕ) (v : View) → v.role ≡ Makes → v.out ≡ false → v.thread.0 < b.threads → Splits R id v (more_given v) (worker v.terms v.thread)
  gives_seat id v makes home room s r here =
      let kn = knows shows b s r id v Makes here makes in
      let sits = r.each_seat id v here in
      let left : View = more_given v in
      let right : View = worker v.terms v.thread in
      let g : ℕ = r.given in
      let last : ℕ = length s.views in
      let is : v.thread.0 ≡ g = kn.1 in
      let few = r.few_threads in
      let views : List View = set s.views id left ++ right ∷ [] in
      record {
        log = r.log;
        given = g + 1;
        owner = put_at r.owner g last;
        holder = r.holder;
        noted = r.noted;
        right = r.right;
        two = r.two;
        counts = r.counts;
        lies = lies_on s views r.log r.noted r.holder r.lies (λ j x held e h.
            let ne : j ≢ id = λ same. let q : x ≡ v = some-injective x v (sym e ∙ (ap (λ n. get_elem? s.views n) same ∙ here)) in let a = ap (λ (z : View). z.role) q in let d = h.works in cc in
            (x, at_longer (set s.views id left) (right ∷ []) j x (set_else s.views id j left ne ∙ e), h));
        each_seat = λ j x e. ⊎_elim
            (λ (e' : get_elem? (set s.views id left) j ≡ some x). ⊎_elim
            (λ (t : (j ≡ id) × (left ≡ x)). subst (λ (z : ℕ × View). Sits b (g + 1) r.log (put_at r.owner g last) r.holder z.0 z.1) (λ i. (sym t.0 i, t.1 i)) record {
              knows = subst (Knows (g + 1) r.log (put_at r.owner g last) id left) (sym makes) (kn.0, omega arith);
              terms = sits.terms;
              makes = sits.makes;
              holds = sits.holds;
            })
            (λ (t : (j ≢ id) × (get_elem? s.views j ≡ some x)). let was = r.each_seat j x t.1 in record { knows = one_more_given g r.log r.owner last j x (λ z. t.0 (z ∙ sym kn.0)) x.role was.knows; terms = was.terms; makes = was.makes; holds = was.holds })
            (at_set s.views id j left x e'))
            (λ (t : (j ≡ length (set s.views id left)) × (right ≡ x)). subst (λ (z : ℕ × View). Sits b (g + 1) r.log (put_at r.owner g last) r.holder z.0 z.1) (λ i. (sym (t.0 ∙ length-set s.views id left) i, t.1 i)) record {
              knows = (omega arith, put_here r.owner g last v.thread.0 is, record { rest = r.log; whole = refl; others = r.not_given v.thread (omega arith); own = refl; told = (r.log, refl) });
              terms = λ _. sits.makes makes;
              makes = λ z. cc;
              holds = λ z. cc;
            })
            (at_end (set s.views id left) right x j e);
        not_given = λ t l. r.not_given t (omega arith);
        few_threads = (omega arith, few.1);
      }
    where
      at_end : {A : Type 0} (l : List A) (a c : A) (j : ℕ) → get_elem? (l ++ a ∷ []) j ≡ some c → (get_elem? l j ≡ some c) ⊎ ((j ≡ length l) × (a ≡ c))
      at_end [] a c zero e = inr (refl, some-injective a c e)
      at_end [] a c (suc j) e = absurd (some-ne-none c (sym e))
      at_end (x ∷ xs) a c zero e = inl e
      at_end (x ∷ xs) a c (suc j) e = ⊎_elim inl (λ t. inr (ap suc t.0, t.1)) (at_end xs a c j e)
