-- The steps that move a slot: claim, publish, take and vacate.
use Rattle.std.proofs.Common.{◌≡◌, ◌≢◌, ℕ, ◌+◌, ◌-◌, ◌*◌, ◌/◌, ◌%◌, ◌<◌, ◌≤◌, List, [], ◌∷◌, ◌++◌, Bool, get_or, set}
use Rattle.std.proofs.Common.{eqb, true, ◌⊎◌, inl, inr, ⊎_elim, sym, refl, ap, ◌∙◌, subst}
use Rattle.std.proofs.Common.{arith, Option, Some, None, length-set, get_or-set_other, get_or-set_same}
use Rattle.std.proofs.lemmas.List.{append-nil}
use mathlib.Core.Option.{some, none}
use mathlib.Core.Option as maybe
use lib.ListN.{get_elem?}
use lib.Seq.{set-get_or}
use prog.Atomic.{either}
use Rattle.atomic_table.specs.Table.{State, Me, Act, step, keeps, takes, gives, stepped, Allows, Valid, homes_after}
use Rattle.atomic_table.specs.Table.{carried_after}
use Rattle.atomic_table.proofs.Lists.{set_here, set_else, exchanged}
use Rattle.hx_base.specs.declared.numbers.ThreadNo.{ThreadNo}
use Rattle.hx_base.specs.declared.numbers.SessionNo.{SessionNo}
use Rattle.hx_base.specs.declared.numbers.PlaceNo.{PlaceNo}
use Rattle.hx_base.specs.declared.numbers.Face.{Face}
use Rattle.hx_base.specs.declared.what.What.{What}
use Rattle.hx_base.specs.declared.rules.Mode.TheVariants as mode
use Rattle.hx_base.specs.Shown.{Shown}
use Rattle.hx_base.specs.PlaceWords.{IsFace, IsPlaceState, resting_word, taken_word, place_word}
use Rattle.hx_base.proofs.PlaceWordLemmas.{one_state}
use Rattle.hx_pool.specs.declared.board.BoardTerms.{BoardTerms}
use Rattle.hx_pool.specs.declared.entries.Found.{Found}
use Rattle.hx_pool.specs.declared.entries.Found.TheVariants.{Resting}
use mathlib.Core.Logic.{dite}
use native.Mathlib.Decide.{dec_lt}
use Rattle.hx_pool.specs.declared.entries.Entry.TheVariants.{Park, Take, Free, Look}
use Rattle.hx_pool.specs.declared.entries.Note.{Note}
use Rattle.hx_pool.specs.Table.{Table, IdleAt, Spot, Vacant, Holds, Leaves, put, after, spot_no, found_of, IsInRow}
use Rattle.hx_pool.specs.History.{plain, table_after}
use Rattle.hx_pool.specs.Rules.{allows}
use Rattle.hx_pool.specs.Held.{Has}
use Rattle.hx_pool.specs.Causes.{place_of}
use Rattle.hx_pool.specs.Parking.{parked}
use Rattle.hx_pool.proofs.Tables.{put_same, put_other, sound_at}
use Rattle.hx_places.specs.declared.view.View.{View}
use Rattle.hx_places.specs.declared.view.Hand.{Hand}
use Rattle.hx_places.specs.declared.view.Hand.TheVariants.{Idle, Claims}
use Rattle.hx_places.specs.declared.view.Role.TheVariants.{Works}
use Rattle.hx_places.specs.Turns.{turn_of, MayTurn}
use Rattle.hx_places.specs.Known.{known_of, KnowsIn, SeenVacant, HasEmptied}
use Rattle.hx_places.specs.Views.{noting, claiming, claimed, published, vacated, WasThere, took}
use Rattle.hx_base.specs.declared.place_word.PlaceState.{PlaceState}
use Rattle.hx_base.specs.declared.place_word.PlaceState.TheVariants as state
use Rattle.hx_places.specs.Words.{spot_of, word_no}
use Rattle.hx_places.specs.Rule.{Rests, Lies, Sees, Fills}
use Rattle.hx_places.proofs.Opens.{next_small}
use Rattle.hx_places.proofs.Knowing.{known_at, rests_known, held_drawn}
use Rattle.hx_places.proofs.Frame.{Only, only_same, St, Homes, Rule, Ok, Places, knows, terms_at, steps, one_step}
use Rattle.hx_places.proofs.Frame.{whole_own, heads_place}
use Rattle.hx_places.proofs.Heads.{has_at, state_fine}

-- another state shows another thing
pub found_other : (c : PlaceState) (f : Face) → c ≢ state.Resting f → found_of (spot_of c) ≢ Resting f
found_other state.Vacant f other = λ e. cc
found_other state.Filling f other = λ e. cc
found_other (state.Resting g) f other = λ e. other (cc)
found_other (state.Taken t) f other = λ e. cc

put_with : {A : Type 0} (F : A → Type 0) (f : ℕ → A) (i : ℕ) (a : A) (j : ℕ) → (j ≡ i → F a) → (j ≢ i → F (f j))
    → F (put f i a j)
put_with F f i a j here other = mathlib.Core.Logic.dite (native.Mathlib.Decide.ℕ_discrete j i)
    (λ e. subst F (sym (put_same f i a j e)) (here e)) (λ n. subst F (sym (put_other f i a j n)) (other n))

-- a cell that is at an empty spot
at_empty : (c : PlaceState) → Vacant ≡ spot_of c → (c ≡ state.Vacant) ⊎ (c ≡ state.Filling)
at_empty state.Vacant e = inl refl
at_empty state.Filling e = inr refl
at_empty (state.Resting f) e = absurd (cc)
at_empty (state.Taken t) e = absurd (cc)

-- one place has a new cell, which is not in another thread's row or was and is not being filled
only_one : (t : ThreadNo) (p : ℕ) (states : ℕ → PlaceState) (c : PlaceState)
    → (p / 64 ≢ t.0 → (states p ≢ state.Filling) × (c ≢ state.Filling)) → Only t states (put states p c)
only_one t p states c far = record {
  stays = λ q row is. put_with (λ x. x ≡ state.Filling) states p c q
      (λ same. absurd ((far (λ r. row (ap (λ (z : ℕ). z / 64) same ∙ r))).0 (ap states (sym same) ∙ is))) (λ _. is);
  no_new = λ q row. put_with (λ x. x ≡ state.Filling → states q ≡ state.Filling) states p c q
      (λ same is. absurd ((far (λ r. row (ap (λ (z : ℕ). z / 64) same ∙ r))).1 is)) (λ _ is. is);
}

-- nothing is being filled once the claimed place is full
fills_idle : (t : ThreadNo) (p : ℕ) (states : ℕ → PlaceState) (hand : Hand) (c : PlaceState) → Fills states t hand
    → hand ≡ Claims p → c ≢ state.Filling → Fills (put states p c) t Idle
fills_idle t p states hand c f is other = record {
  claimed = λ q e. absurd (cc);
  only = λ q row. put_with (λ x. x ≡ state.Filling → Idle ≡ Claims q) states p c q (λ _ e. absurd (other e))
      (λ apart e. absurd (let h = f.only q row e in apart (cc)));
}

-- a place that is not being filled, and isn't then
fills_same : (t : ThreadNo) (p : ℕ) (states : ℕ → PlaceState) (hand : Hand) (c : PlaceState) → Fills states t hand
    → states p ≢ state.Filling → c ≢ state.Filling → Fills (put states p c) t hand
fills_same t p states hand c f was is = record {
  claimed = λ q e. let k = f.claimed q e in
      (k.0, put_other states p c q (λ same. was (ap states (sym same) ∙ k.1)) ∙ k.1);
  only = λ q row. put_with (λ x. x ≡ state.Filling → hand ≡ Claims q) states p c q (λ _ e. absurd (is e))
      (λ _ e. f.only q row e);
}

fills_claim : (t : ThreadNo) (p : ℕ) (states : ℕ → PlaceState) (hand : Hand) → Fills states t hand → hand ≡ Idle
    → p / 64 ≡ t.0 → Fills (put states p state.Filling) t (Claims p)
fills_claim t p states hand f is row = record {
  claimed = λ q e. let same : q ≡ p = (cc) in
      (ap (λ (z : ℕ). z / 64) same ∙ row, put_same states p state.Filling q same);
  only = λ q row'. put_with (λ x. x ≡ state.Filling → Claims p ≡ Claims q) states p state.Filling q
      (λ same _. ap Claims (sym same)) (λ _ e. absurd (let h = f.only q row' e in (cc)));
}

module _ {V : Type 0} (shows : V → Shown) (b : BoardTerms) where
  abbrev R : State (Option V) View → Type 0
  R = Rule shows b

  abbrev M : Type 0
  M = Me (Option V) View

  abbrev Fine : (ℕ → Option What) → ℕ → maybe.Option (maybe.Option (Option V)) → Spot → PlaceState → Type 0
  Fine = Ok shows b

  -- a cell stands where what is beside its connection's last Park stays
  lies_on : (whats whats' : ℕ → Option What) (home : maybe.Option (maybe.Option (Option V))) (c : PlaceState)
      → ((f : Face) → c ≡ state.Resting f → whats' f.id.0 ≡ whats f.id.0) → Lies shows b.server whats home c
      → Lies shows b.server whats' home c
  lies_on whats whats' home state.Vacant same l = l
  lies_on whats whats' home state.Filling same l = l
  lies_on whats whats' home (state.Resting f) same l =
      record {
        v = l.v;
        home_is = l.home_is;
        face_is = l.face_is;
        server_is = l.server_is;
        what_is = same f refl
            ∙ l.what_is;
        fine = l.fine;
      }
  lies_on whats whats' home (state.Taken t) same l = l

  -- one place changes, with its word and its slot
  one_place : (s : St shows b) (r : R s) (p x : ℕ) (hs : Homes shows b) (T : Table) (c : PlaceState)
      → p < 64 * b.threads → ((q : ℕ) → q ≢ p → get_elem? hs q ≡ get_elem? s.homes q)
      → ((q : ℕ) → q ≢ p → T.spots q ≡ (table_after r.log).spots q)
      → ((q : ℕ) (f : Face) → q < 64 * b.threads → q ≢ p → r.states q ≡ state.Resting f
      → T.whats f.id.0 ≡ (table_after r.log).whats f.id.0) → Fine T.whats x (get_elem? hs p) (T.spots p) c
      → Places shows b T (set s.words (p + 4) x) hs (put r.states p c)
  one_place s r p x hs T c inside homes other whats here q l = let wide = r.wide in
      put_with (Fine T.whats (get_or (set s.words (p + 4) x) (q + 4) 0) (get_elem? hs q) (T.spots q)) r.states p c q
      (λ same. subst
      (λ (z : ℕ). Fine T.whats (get_or (set s.words (p + 4) x) (z + 4) 0) (get_elem? hs z) (T.spots z) c) (sym same)
      (subst (λ (z : ℕ). Fine T.whats z (get_elem? hs p) (T.spots p) c)
      (sym (get_or-set_same s.words (p + 4) x 0 (omega arith))) here))
      (λ apart. subst (λ (z : ℕ). Fine T.whats z (get_elem? hs q) (T.spots q) (r.states q))
      (sym (get_or-set_other s.words (p + 4) (q + 4) x 0 (λ e. apart (omega arith))))
      (subst (λ (z : maybe.Option (maybe.Option (Option V)) × Spot). Fine T.whats (get_or s.words (q + 4) 0) z.0 z.1
      (r.states q)) (λ i. (sym (homes q apart) i, sym (other q apart) i))
      (let was = r.each_place q l in
      record {
        shown = was.shown;
        stands = was.stands;
        lies =
            lies_on (table_after r.log).whats T.whats (get_elem? s.homes q) (r.states q)
            (λ f e. whats q f l apart e) was.lies;
      })))

  -- an own place that the seat last saw vacant is vacant
  vacant_at : (s : St shows b) (r : R s) (v : View) (p : ℕ) → Sees r.log v → known_of v.mine p ≡ SeenVacant
      → p / 64 ≡ v.thread.0 → (table_after r.log).spots p ≡ Vacant
  vacant_at s r v p k seen row =
      (subst (KnowsIn (table_after r.log) v.thread p) seen
      (known_at r.log v.thread p v.mine r.right.legal (whole_own r.log v k))) row

  pub claims : (slots id : ℕ) (me : M) (p i x : ℕ) → me.0.role ≡ Works → i ≡ p + 4 → x ≡ place_word state.Filling
      → p < 64 * b.threads → p / 64 ≡ me.0.thread.0 → known_of me.0.mine p ≡ SeenVacant → me.0.hand ≡ Idle
      → Allows R slots id me i (λ _. x) (λ _. claimed (step slots i x 0 none) me x)
  claims slots id me p i x works at_i is_x inside row seen idle s r deep here small =
      let v : View = me.0 in
      let kn = knows shows b s r id v Works here works in
      let ok = r.each_place p inside in
      let deep' = r.deep in
      let empty = vacant_at s r v p kn.2 seen row in
      let hs : Homes shows b = set s.homes p none in
      let w : View = claiming v p in
      let is : r.states p ≡ state.Vacant =
      ⊎_elim (λ (e : r.states p ≡ state.Vacant). e)
      (λ (e : r.states p ≡ state.Filling). absurd (let h = kn.3.only p row e in (cc)))
      (at_empty (r.states p) (sym empty ∙ ok.stands)) in
      let lies : get_elem? s.homes p ≡ some (some None) =
      subst (Lies shows b.server (table_after r.log).whats (get_elem? s.homes p)) is ok.lies in
      let sees = kn.2 in
      subst (λ (z : ℕ). (y : View) × (a : Act (Option V)) × Valid s.homes me.1 a × R (stepped s z x id me.1 y a)
      × claimed (step slots z x 0 none) me x (y, carried_after me.1 a)) (sym at_i) (
        w,
        takes p None,
        lies,
        steps shows b s r id v w r.log [] (set s.words (p + 4) x) hs
            (put r.states p state.Filling) here works works refl (terms_at shows b s r id v here works)
            (sym (append-nil r.log))
            record { rest = sees.rest; whole = sees.whole; others = sees.others; own = sees.own; told = sees.told }
            tt r.right (length-set s.words (p + 4) x) (length-set s.homes p none)
            (heads_place s.words p x _ _ _ _ r.heads)
            (one_place s r p x hs (table_after r.log) state.Filling inside
            (λ q apart. set_else s.homes p q none apart) (λ q _. refl) (λ q f _ _ _. refl)
            record { shown = is_x; stands = empty; lies = set_here s.homes p none (omega arith) })
            (fills_claim v.thread p r.states v.hand kn.3 idle row)
            (only_one v.thread p r.states state.Filling (λ far. absurd (far row))),
        (λ q e. let same : p ≡ q = omega arith in
            subst (λ (z : ℕ). (w ≡ claiming v z) × ((p, None) ∷ me.1 ≡ (z, None) ∷ me.1)) same (refl, refl)),
      )

  rests_full : (s : St shows b) (r : R s) (q : ℕ) (g : Face) → q < 64 * b.threads → r.states q ≡ state.Resting g
      → (table_after r.log).conns g.id.0 ≡ IdleAt (place_of (q / 64) (q % 64))
  rests_full s r q g l is_full =
      (rests_known (table_after r.log) (sound_at r.log r.right.legal) q g
      ((r.each_place q l).stands ∙ ap spot_of is_full)).0

  pub publishes : (slots id : ℕ) (me : M) (entry : ℕ → Note) (n : SessionNo) (place : PlaceNo) (c : V)
      (more : List (ℕ × Option V)) (word x : ℕ) → me.0.role ≡ Works → word ≡ word_no place
      → spot_no place < 64 * b.threads
      → me.0.hand ≡ Claims (spot_no place) → me.1 ≡ (spot_no place, Some c) ∷ more → place.row ≡ me.0.thread.0
      → IsInRow place → n.0 ≢ 0 → Has me.0.mine n (shows c).face.id.0 ((shows c).face.uses - 1)
      → 1 ≤ (shows c).face.uses → (shows c).face.uses ≤ 65535
      → (shows c).server ≡ b.server → x ≡ resting_word (shows c).face.id.0 (shows c).face.uses
      → ((y : ℕ) → entry y ≡ parked me.0.thread n place (shows c)) → b.rules.mode ≢ mode.Never
      → MayTurn b.rules.max (turn_of me.0.mine) (Park me.0.thread n (shows c).face.id place (shows c).face.uses)
      → Allows R slots id me word (λ _. x) (λ _. published entry (step slots word x 0 none) me x)
  publishes slots id me entry n place c more word x works at_i inside hand slot row in_row nonzero has used most srv
      is_x is shares turn s r deep here small =
      let v : View = me.0 in
      let p : ℕ = spot_no place in
      let f : Face = (shows c).face in
      let kn = knows shows b s r id v Works here works in
      let deep' = r.deep in
      let fl = kn.3.claimed p hand in
      let T : Table = table_after r.log in
      let e : Note = parked v.thread n place (shows c) in
      let hs : Homes shows b = set s.homes p (some (Some c)) in
      let w : View = noting v Idle r.log e in
      let cell : PlaceState = state.Resting f in
      let empty : T.spots p ≡ Vacant = (r.each_place p inside).stands ∙ ap spot_of fl.1 in
      let held = has_at r.log v b n f.id.0 (f.uses - 1) r.right kn.2 has in
      let drawn = held_drawn r.log f.id.0 v.thread n r.right.legal held.0 in
      let threads = r.few_threads in
      let low = next_small b r.log r.right threads.1 in
      let fine : IsFace f = (drawn.0, (let d = drawn.1 in omega arith), omega arith, omega arith) in
      let not : cell ≢ state.Filling = λ q. (cc) in
      let did = one_step shows b s r id v Idle e (entry x) (set s.words (p + 4) x) hs
      (put r.states p cell) here works record {
        mine = refl;
        need = record {
          held = held.0;
          session = nonzero;
          row = row;
          inside = in_row;
          vacant = empty;
          used =
              (let u = held.1 in omega arith);
          most = most;
        };
        mode = shares;
        turn = turn;
        room = λ no. absurd (cc);
        beside = tt;
        wide = length-set s.words (p + 4) x;
        deep = length-set s.homes p (some (Some c));
        heads = heads_place s.words p x _ _ _ _ r.heads;
        places = one_place s r p x hs (after T e) cell inside (λ q apart. set_else s.homes p q (some (Some c)) apart)
            (λ q apart. put_other T.spots p (Holds f) q apart)
            (λ q g l apart is_full. put_other T.whats f.id.0 (Some (shows c).what) g.id.0
            (λ same. let k = rests_full s r q g l is_full in let is = ap T.conns same in let h = held.0 in (cc)))
            record {
              shown = is_x;
              stands = put_same T.spots p (Holds f) p refl;
              lies =
                  record {
                    v = c;
                    home_is = set_here s.homes p (some (Some c)) (omega arith);
                    face_is = refl;
                    server_is = srv;
                    what_is = put_same T.whats f.id.0 (Some (shows c).what) f.id.0 refl;
                    fine = fine;
                  };
            };
        fills = fills_idle v.thread p r.states v.hand cell kn.3 hand not;
        only = only_one v.thread p r.states cell (λ far. absurd (far fl.0));
      } (is x) in
      subst (λ (z : ℕ). (y : View) × (a : Act (Option V)) × Valid s.homes me.1 a × R (stepped s z x id me.1 y a)
      × published entry (step slots z x 0 none) me x (y, carried_after me.1 a)) (sym at_i) (
        w,
        gives,
        tt,
        subst (λ (z : Homes shows b). R record {
          words = set s.words (p + 4) x;
          homes = z;
          views =
              set s.views id w;
        }) (ap (λ (z : List (ℕ × Option V)). homes_after s.homes z gives) (sym slot)) did.0,
        (refl, did.1.0),
      )

  pub takes_at : (slots id : ℕ) (me : M) (entry : ℕ → Note) (n : SessionNo) (first : Bool) (f : Face)
      (place : PlaceNo) (word old new : ℕ) → me.0.role ≡ Works → word ≡ word_no place
      → spot_no place < 64 * b.threads → IsInRow place
      → IsFace f → old ≡ resting_word f.id.0 f.uses → new ≡ taken_word me.0.thread.0
      → entry (place_word (state.Resting f)) ≡ plain (Take me.0.thread n first place f.id f.uses)
      → ((c : PlaceState) → IsPlaceState c → c ≢ state.Resting f
      → entry (place_word c) ≡ plain (Look me.0.thread place (found_of (spot_of c))))
      → (n.0 ≢ 0 → allows b.rules.mode first f.uses ≡ true)
      → MayTurn b.rules.max (turn_of me.0.mine) (Take me.0.thread n first place f.id f.uses)
      → ((found : Found) → found ≢ Resting f → MayTurn b.rules.max (turn_of me.0.mine) (Look me.0.thread place found))
      → Allows R slots id me word (λ y. either (eqb y old) new y) (took shows entry (step slots word old new none) me)
  takes_at slots id me entry n first f place word old new works at_i inside in_row fine is_old is_new won lost may
      turn turn_look s r deep here small =
      let v : View = me.0 in
      let p : ℕ = spot_no place in
      let T : Table = table_after r.log in
      let kn = knows shows b s r id v Works here works in
      let deep' = r.deep in
      let threads = r.few_threads in
      let low = kn.0 in
      let ok = r.each_place p inside in
      let terms = terms_at shows b s r id v here works in
      let Go : ℕ → Type 0 = λ x. (w : View) × (a : Act (Option V)) × Valid s.homes me.1 a
      × R (stepped s word x id me.1 w a)
      × took shows entry (step slots word old new none) me (get_or s.words word 0) (w, carried_after me.1 a) in
      let y : ℕ = get_or s.words word 0 in
      let here_word : y ≡ get_or s.words (p + 4) 0 = ap (λ (z : ℕ). get_or s.words z 0) at_i in
      exchanged y old new Go
      (λ hit.
      let e : Note = plain (Take v.thread n first place f.id f.uses) in
      let w : View = noting v v.hand r.log e in
      let hs : Homes shows b = set s.homes p none in
      let cell : PlaceState = state.Taken v.thread in
      let is_full : r.states p ≡ state.Resting f =
      one_state (r.states p) (state.Resting f)
      (state_fine shows b T.whats (get_elem? s.homes p) (r.states p) ok.lies) fine
      (sym ok.shown ∙ (sym here_word ∙ (hit ∙ is_old))) in
      let lies : Rests shows b.server T.whats (get_elem? s.homes p) f =
      subst (Lies shows b.server T.whats (get_elem? s.homes p)) is_full ok.lies in
      let c : V = lies.v in
      let stood : T.spots p ≡ Holds f = ok.stands ∙ ap spot_of is_full in
      let was : r.states p ≢ state.Filling = λ q. (cc) in
      let not : cell ≢ state.Filling = λ q. (cc) in
      let said : entry y ≡ e = ap entry (hit ∙ is_old) ∙ won in
      let did = one_step shows b s r id v v.hand e (entry y) (set s.words (p + 4) new) hs
      (put r.states p cell) here works record {
        mine = refl;
        need = (in_row, stood);
        mode = may;
        turn = turn;
        room = λ no. absurd (cc);
        beside = refl;
        wide = length-set s.words (p + 4) new;
        deep = length-set s.homes p none;
        heads = heads_place s.words p new _ _ _ _ r.heads;
        places = one_place s r p new hs (after T e) cell inside (λ q apart. set_else s.homes p q none apart)
            (λ q apart. put_other T.spots p (Leaves v.thread) q apart) (λ q g _ _ _. refl)
            record {
              shown = is_new;
              stands = put_same T.spots p (Leaves v.thread) p refl;
              lies =
                  (set_here s.homes p none (omega arith), omega arith);
            };
        fills = fills_same v.thread p r.states v.hand cell kn.3 was not;
        only = only_one v.thread p r.states cell (λ _. (was, not));
      } said in (
        w,
        takes p (Some c),
        lies.home_is,
        subst (λ (z : ℕ). R record { words = set s.words z new; homes = hs; views = set s.views id w })
            (sym at_i) did.0,
        (
          (λ _ q at_q. let same : p ≡ q = omega arith in record {
            v = c;
            carried = ap (λ (z : ℕ). (z, Some c) ∷ me.1) same;
            adds = did.1.0;
            there = subst (λ (z : BoardTerms × ℕ). WasThere z.0 (v.seen ++ did.1.0.between) z.1 (shows c))
                (λ i. (sym terms i, same i))
                (subst (λ l. WasThere b l p (shows c)) did.1.1 record {
                  stood = stood ∙ ap Holds (sym lies.face_is);
                  server = lies.server_is;
                  what = ap (λ (g : Face). T.whats g.id.0) lies.face_is ∙ lies.what_is;
                  face = subst IsFace (sym lies.face_is) lies.fine;
                });
          }),
          (λ miss. absurd (miss hit)),
        ),
      ))
      (λ miss.
      let c : PlaceState = r.states p in
      let fine' = state_fine shows b T.whats (get_elem? s.homes p) c ok.lies in
      let is_word : place_word c ≡ y = sym ok.shown ∙ sym here_word in
      let other : c ≢ state.Resting f = λ same. miss (sym is_word ∙ (ap place_word same ∙ sym is_old)) in
      let e : Note = plain (Look v.thread place (found_of (spot_of c))) in
      let w : View = noting v v.hand r.log e in
      let said : entry y ≡ e = ap entry (sym is_word) ∙ lost c fine' other in
      let did = one_step shows b s r id v v.hand e (entry y) s.words s.homes r.states here works record {
        mine = refl;
        need = (in_row, sym (ap found_of ok.stands));
        mode = tt;
        turn = turn_look (found_of (spot_of c)) (found_other c f other);
        room = λ no. absurd (cc);
        beside = refl;
        wide = refl;
        deep = refl;
        heads = r.heads;
        places = r.each_place;
        fills = kn.3;
        only = only_same v.thread r.states;
      } said in (
        w,
        keeps,
        tt,
        subst (λ (ws : List ℕ). R record { words = ws; homes = s.homes; views = set s.views id w })
            (sym (set-get_or s.words word 0)) did.0,
        ((λ hit. absurd (miss hit)), (λ _. ((refl, did.1.0), (c, fine', is_word)))),
      ))

  pub vacates : (slots id : ℕ) (me : M) (entry : ℕ → Note) (place : PlaceNo) (more : List (ℕ × Option V))
      (word x : ℕ) → me.0.role ≡ Works → word ≡ word_no place → x ≡ place_word state.Vacant
      → spot_no place < 64 * b.threads → IsInRow place
      → me.1 ≡ (spot_no place, None) ∷ more → known_of me.0.mine (spot_no place) ≡ HasEmptied
      → ((y : ℕ) → entry y ≡ plain (Free me.0.thread place))
      → MayTurn b.rules.max (turn_of me.0.mine) (Free me.0.thread place)
      → Allows R slots id me word (λ _. x) (λ _. vacated entry (step slots word x 0 none) me x)
  vacates slots id me entry place more word x works at_i is_x inside in_row slot emptied is turn s r deep here small =
      let v : View = me.0 in
      let p : ℕ = spot_no place in
      let T : Table = table_after r.log in
      let kn = knows shows b s r id v Works here works in
      let deep' = r.deep in
      let e : Note = plain (Free v.thread place) in
      let hs : Homes shows b = set s.homes p (some None) in
      let w : View = noting v v.hand r.log e in
      let left : T.spots p ≡ Leaves v.thread =
      subst (KnowsIn T v.thread p) emptied
      (known_at r.log v.thread p v.mine r.right.legal (whole_own r.log v kn.2)) in
      let was : r.states p ≢ state.Filling = λ q. let f = (r.each_place p inside).stands in let g = ap spot_of q in
      (cc) in
      let not : state.Vacant ≢ state.Filling = λ q. (cc) in
      let did = one_step shows b s r id v v.hand e (entry x) (set s.words (p + 4) x) hs
      (put r.states p state.Vacant) here works record {
        mine = refl;
        need = (in_row, left);
        mode = tt;
        turn = turn;
        room = λ no. absurd (cc);
        beside = refl;
        wide = length-set s.words (p + 4) x;
        deep = length-set s.homes p (some None);
        heads = heads_place s.words p x _ _ _ _ r.heads;
        places = one_place s r p x hs (after T e) state.Vacant inside
            (λ q apart. set_else s.homes p q (some None) apart) (λ q apart. put_other T.spots p Vacant q apart)
            (λ q g _ _ _. refl)
            record {
              shown = is_x;
              stands = put_same T.spots p Vacant p refl;
              lies =
                  set_here s.homes p (some None) (omega arith);
            };
        fills = fills_same v.thread p r.states v.hand state.Vacant kn.3 was not;
        only = only_one v.thread p r.states state.Vacant (λ _. (was, not));
      } (is x) in
      subst (λ (z : ℕ). (y : View) × (a : Act (Option V)) × Valid s.homes me.1 a × R (stepped s z x id me.1 y a)
      × vacated entry (step slots z x 0 none) me x (y, carried_after me.1 a)) (sym at_i) (
        w,
        gives,
        tt,
        subst (λ (z : Homes shows b). R record {
          words = set s.words (p + 4) x;
          homes = z;
          views =
              set s.views id w;
        }) (ap (λ (z : List (ℕ × Option V)). homes_after s.homes z gives) (sym slot)) did.0,
        (refl, did.1.0),
      )
