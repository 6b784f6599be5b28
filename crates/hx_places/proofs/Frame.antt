-- What stays of a board's rule when one seat makes a step.
use Rattle.std.proofs.Common.{get_or-set_other, Bool, true, ◌≡◌, ◌≢◌, ℕ, ◌+◌, ◌*◌, ◌/◌, ◌<◌, ◌≤◌, List, [], ◌∷◌, ◌++◌}
use Rattle.std.proofs.Common.{length, get_or, set, ⊎_elim, sym, refl, ap, ◌∙◌, subst, arith, Option, append_assoc}
use Rattle.std.proofs.lemmas.List.{append-nil}
use mathlib.Core.Option.{some, none}
use mathlib.Core.Option as maybe
use lib.ListN.{get_elem?}
use Rattle.atomic_table.specs.Table.{State}
use Rattle.atomic_table.proofs.Lists.{at_set}
use Rattle.hx_base.specs.declared.numbers.ThreadNo.{ThreadNo}
use Rattle.hx_base.specs.declared.what.What.{What}
use Rattle.hx_base.specs.Shown.{Shown}
use Rattle.hx_pool.specs.declared.board.BoardTerms.{BoardTerms}
use Rattle.hx_pool.specs.declared.entries.Note.{Note}
use Rattle.hx_pool.specs.Table.{Table, Spot, Needs, after}
use Rattle.hx_pool.specs.History.{thread_of, own_of, table_after, opens_of, is_open}
use Rattle.hx_pool.specs.Rules.{MayFollow}
use Rattle.hx_pool.specs.Opening.{open_limit}
use Rattle.hx_pool.proofs.Histories.{own_of-append}
use Rattle.hx_places.specs.declared.view.View.{View}
use Rattle.hx_places.specs.declared.view.Role.{Role}
use Rattle.hx_places.specs.declared.view.Role.TheVariants.{Makes, Works, Copy, Spent}
use Rattle.hx_places.specs.declared.view.Hand.{Hand}
use Rattle.hx_places.specs.Turns.{turn_of, MayTurn}
use Rattle.hx_places.specs.Right.{IsPlainNote, IsRight}
use Rattle.hx_places.specs.Views.{noting, Adds}
use Rattle.hx_base.specs.declared.place_word.PlaceState.{PlaceState}
use Rattle.hx_base.specs.declared.place_word.PlaceState.TheVariants as state
use Rattle.hx_places.specs.Words.{Heads, HeadsOf}
use Rattle.hx_places.specs.Rule.{PlaceOk, AllBy, Sees, Fills, Knows, Sits, IsNew, Kept}
use Rattle.hx_places.proofs.Lists.{none_of, own_more, begins_more}
use Rattle.hx_places.proofs.Rightness.{table_more, right_more}

-- which places are being filled changes in the rows of t alone
pub record Only (t : ThreadNo) (states states' : ℕ → PlaceState) : Type 0 where
  pub stays : (p : ℕ) → p / 64 ≢ t.0 → states p ≡ state.Filling → states' p ≡ state.Filling
  pub no_new : (p : ℕ) → p / 64 ≢ t.0 → states' p ≡ state.Filling → states p ≡ state.Filling

pub only_same : (t : ThreadNo) (states : ℕ → PlaceState) → Only t states states
only_same t states = record { stays = λ p _ h. h; no_new = λ p _ h. h }

fills_stay : (t u : ThreadNo) (states states' : ℕ → PlaceState) (h : Hand) → u.0 ≢ t.0 → Only t states states'
    → Fills states u h → Fills states' u h
fills_stay t u states states' h other o f = record {
  claimed = λ q is. let k = f.claimed q is in (k.0, o.stays q (λ same. other (sym k.0 ∙ same)) k.1);
  only = λ p row is. f.only p row (o.no_new p (λ same. other (sym row ∙ same)) is);
}

others_know : (given : ℕ) (log es : List Note) (states states' : ℕ → PlaceState) (owner : ℕ → ℕ) (t : ThreadNo)
    (seat j : ℕ) (v : View) → owner t.0 ≡ j → seat ≢ j → AllBy t es → Only t states states'
    → (role : Role) → Knows given log states owner seat v role → Knows given (log ++ es) states' owner seat v role
others_know given log es states states' owner t seat j v owned apart all only Makes k = k
others_know given log es states states' owner t seat j v owned apart all only Works k =
    let other : v.thread.0 ≢ t.0 = λ same. apart (sym k.1 ∙ (ap owner same ∙ owned)) in
    let sees = k.2 in (
      k.0,
      k.1,
      record {
        rest = sees.rest ++ es;
        whole = ap (λ l. l ++ es) sees.whole ∙ append_assoc v.seen sees.rest es;
        others = own_of-append v.thread sees.rest es
            ∙ (ap (λ l. l ++ own_of v.thread es) sees.others ∙ none_of t v.thread es other all);
        own = sees.own;
        told = begins_more log es v.told sees.told;
      },
      fills_stay t v.thread states states' v.hand other only k.3,
    )
others_know given log es states states' owner t seat j v owned apart all only Copy k = begins_more log es v.seen k
others_know given log es states states' owner t seat j v owned apart all only Spent k = k

-- all that the history has of the seat's thread
pub whole_own : (log : List Note) (v : View) → Sees log v → v.mine ≡ own_of v.thread log
whole_own log v k = k.own
    ∙ (sym (append-nil (own_of v.thread v.seen))
    ∙ (ap (λ l. own_of v.thread v.seen ++ l) (sym k.others)
    ∙ (sym (own_of-append v.thread v.seen k.rest) ∙ ap (own_of v.thread) (sym k.whole))))

-- the view with its own entry behind the whole history
pub sees_own : (log : List Note) (v : View) (hand : Hand) (e : Note) → Sees log v → thread_of e.entry ≡ v.thread
    → Sees (log ++ e ∷ []) (noting v hand log e)
sees_own log v hand e k mine = record {
  rest = [];
  whole = sym (append-nil (log ++ e ∷ []));
  others = refl;
  own = ap (λ l. l ++ e ∷ []) (whole_own log v k) ∙ sym (own_more v.thread log e mine);
  told = begins_more log (e ∷ []) v.told k.told;
}

pub adds_own : (b : BoardTerms) (log : List Note) (v : View) (hand : Hand) (e e' : Note) → Sees log v → v.terms ≡ b
    → IsRight b (log ++ e ∷ []) → e' ≡ e → (a : Adds hand v (noting v hand log e) e') × (log ≡ v.seen ++ a.between)
adds_own b log v hand e e' k terms right is = (
  record {
    between = k.rest;
    others = k.others;
    view = ap (λ (z : Note). noting v hand log z) (sym is) ∙ ap (λ l. noting v hand l e') k.whole;
    right = subst (λ (x : BoardTerms). IsRight x ((v.seen ++ k.rest) ++ e' ∷ [])) (sym terms)
        (subst (λ (z : Note). IsRight b ((v.seen ++ k.rest) ++ z ∷ [])) (sym is)
        (subst (λ l. IsRight b (l ++ e ∷ [])) k.whole right));
  },
  k.whole,
)

-- the first words, when a place's word changes
pub heads_place : (ws : List ℕ) (p x : ℕ) (d : Bool) (n c r : ℕ) → Heads ws d n c r → Heads (set ws (p + 4) x) d n c r
heads_place ws p x d n c r h = record {
  gate_is = get_or-set_other ws (p + 4) 0 x 0 (λ e. omega arith) ∙ h.gate_is;
  next_is = get_or-set_other ws (p + 4) 1 x 0 (λ e. omega arith) ∙ h.next_is;
  count_is = get_or-set_other ws (p + 4) 2 x 0 (λ e. omega arith) ∙ h.count_is;
  round_is = get_or-set_other ws (p + 4) 3 x 0 (λ e. omega arith) ∙ h.round_is;
}

module _ {V : Type 0} (shows : V → Shown) (b : BoardTerms) where
  abbrev pub St : Type 0
  St = State (Option V) View

  abbrev pub Homes : Type 0
  Homes = List (maybe.Option (Option V))

  abbrev pub Rule : St → Type 0
  Rule s = Kept shows b s

  abbrev pub Ok : (ℕ → Option What) → ℕ → maybe.Option (maybe.Option (Option V)) → Spot → PlaceState → Type 0
  Ok = PlaceOk shows b.server

  abbrev pub Places : Table → List ℕ → Homes → (ℕ → PlaceState) → Type 0
  Places T ws hs states = (p : ℕ) → p < 64 * b.threads
      → Ok T.whats (get_or ws (p + 4) 0) (get_elem? hs p) (T.spots p) (states p)

  pub knows : (s : St) (r : Rule s) (j : ℕ) (v : View) (role : Role) → get_elem? s.views j ≡ some v → v.role ≡ role
      → Knows r.given r.log r.states r.owner j v role
  knows s r j v role at is = subst (Knows r.given r.log r.states r.owner j v) is (r.each_seat j v at).knows

  pub terms_at : (s : St) (r : Rule s) (j : ℕ) (v : View) → get_elem? s.views j ≡ some v → v.role ≡ Works → v.terms ≡ b
  terms_at s r j v at works = (r.each_seat j v at).terms works

  -- a step of a thread's seat, which adds these entries to the history
  pub steps : (s : St) (r : Rule s) (j : ℕ) (v w : View) (log es : List Note) (ws : List ℕ) (hs : Homes)
      (states' : ℕ → PlaceState)
      → get_elem? s.views j ≡ some v → v.role ≡ Works → w.role ≡ Works → w.thread ≡ v.thread → w.terms ≡ b
      → log ≡ r.log ++ es → Sees log w → AllBy v.thread es
      → IsRight b log → length ws ≡ length s.words → length hs ≡ length s.homes → HeadsOf ws (table_after log)
      → Places (table_after log) ws hs states'
      → Fills states' v.thread w.hand → Only v.thread r.states states'
      → Rule record { words = ws; homes = hs; views = set s.views j w }
  steps s r j v w log es ws hs states' here works works' thread terms grown sees' all right wide deep heads places
      fills only =
      let k = knows s r j v Works here works in
      let silent : (t : ThreadNo) → r.given ≤ t.0 → IsNew log states' t = λ t l.
      let none = r.not_given t l in
      let low = k.0 in
      let other : t.0 ≢ v.thread.0 = λ same. omega arith in record {
        silent = ap (own_of t) grown
            ∙ (own_of-append t r.log es ∙ (ap (λ y. y ++ own_of t es) none.silent ∙ none_of v.thread t es other all));
        empty = λ p row is. none.empty p row (only.no_new p (λ same. other (sym row ∙ same)) is);
      } in record {
        log = log;
        states = states';
        owner = r.owner;
        given = r.given;
        right = right;
        wide = wide ∙ r.wide;
        deep = deep ∙ r.deep;
        few_threads = r.few_threads;
        heads = heads;
        each_place = places;
        each_seat = λ i x e. ⊎_elim
            (λ (t : (i ≡ j) × (w ≡ x)). subst (λ (z : ℕ × View). Sits b r.given log states' r.owner z.0 z.1)
            (λ c. (sym t.0 c, t.1 c)) record {
              knows = subst (Knows r.given log states' r.owner j w) (sym works') (
                subst (λ (z : ThreadNo). z.0 < r.given) (sym thread) k.0,
                ap (λ (z : ThreadNo). r.owner z.0) thread ∙ k.1,
                sees',
                subst (λ (z : ThreadNo). Fills states' z w.hand) (sym thread) fills,
              );
              terms = λ _. terms;
              makes = λ _. terms;
            })
            (λ (t : (i ≢ j) × (get_elem? s.views i ≡ some x)).
            let was = r.each_seat i x t.1 in record {
              knows = subst (λ l. Knows r.given l states' r.owner i x x.role) (sym grown)
                  (others_know r.given r.log es r.states states' r.owner v.thread i j x k.1 t.0 all only x.role
                  was.knows);
              terms = was.terms;
              makes = was.makes;
            })
            (at_set s.views j i w x e);
        not_given = silent;
      }

  -- what a step with one entry of a thread's seat owes
  pub record Owes (s : St) (r : Rule s) (v : View) (hand : Hand) (e : Note) (ws : List ℕ) (hs : Homes)
      (states' : ℕ → PlaceState) : Type 0 where
    pub mine : thread_of e.entry ≡ v.thread
    pub need : Needs (table_after r.log) e.entry
    pub mode : MayFollow b.rules.mode (table_after r.log) e.entry
    pub turn : MayTurn b.rules.max (turn_of v.mine) e.entry
    pub room : is_open e ≡ true → opens_of v.mine < open_limit v.thread
    pub beside : IsPlainNote e
    pub wide : length ws ≡ length s.words
    pub deep : length hs ≡ length s.homes
    pub heads : HeadsOf ws (after (table_after r.log) e)
    pub places : Places (after (table_after r.log) e) ws hs states'
    pub fills : Fills states' v.thread hand
    pub only : Only v.thread r.states states'

  -- the rule after it, and what its seat learns
  pub one_step : (s : St) (r : Rule s) (j : ℕ) (v : View) (hand : Hand) (e e' : Note) (ws : List ℕ) (hs : Homes)
      (states' : ℕ → PlaceState) → get_elem? s.views j ≡ some v → v.role ≡ Works → Owes s r v hand e ws hs states'
      → e' ≡ e
      → Rule record { words = ws; homes = hs; views = set s.views j (noting v hand r.log e) }
      × ((a : Adds hand v (noting v hand r.log e) e') × (r.log ≡ v.seen ++ a.between)) × IsRight b (r.log ++ e ∷ [])
  one_step s r j v hand e e' ws hs states' here works o is =
      let k = knows s r j v Works here works in
      let own = whole_own r.log v k.2 in
      let terms = terms_at s r j v here works in
      let few = r.few_threads in
      let low : v.thread.0 < b.threads = (let l = k.0 in omega arith) in
      let log : List Note = r.log ++ e ∷ [] in
      let right : IsRight b log =
      right_more b v.thread low r.log r.right e o.mine o.need o.mode
      (subst (λ m. MayTurn b.rules.max (turn_of m) e.entry) own o.turn)
      (subst (λ m. is_open e ≡ true → opens_of m < open_limit v.thread) own o.room) o.beside in
      let m = table_more r.log e in (
        steps s r j v (noting v hand r.log e) log (e ∷ []) ws hs states' here works works refl terms refl
            (sees_own r.log v hand e k.2 o.mine) (o.mine, tt) right o.wide o.deep
            (subst (HeadsOf ws) (sym m) o.heads)
            (subst (λ (T : Table). Places T ws hs states') (sym m) o.places) o.fills o.only,
        adds_own b r.log v hand e e' k.2 terms right is,
        right,
      )
