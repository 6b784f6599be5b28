-- What a call of the seat keeps and does, whatever its entries are.
use Rattle.std.proofs.Common.{◌≡◌, ℕ, ◌+◌, ◌<◌, ◌≤◌, true, List, [], ◌++◌, length, refl, sym, ap, ◌∙◌, subst, arith, Option, None, append_assoc}
use Rattle.std.proofs.lemmas.List.{append-nil}
use Rattle.hx_base.specs.declared.numbers.ThreadNo.{ThreadNo}
use Rattle.hx_base.specs.declared.numbers.SessionNo.{SessionNo}
use Rattle.hx_base.specs.declared.totals.Totals.{Totals}
use Rattle.hx_base.specs.Shown.{Shown}
use Rattle.hx_pool.specs.declared.board.BoardTerms.{BoardTerms}
use Rattle.hx_pool.specs.declared.entries.Entry.{Entry}
use Rattle.hx_pool.specs.declared.entries.Note.{Note}
use Rattle.hx_pool.specs.Table.{HeldBy}
use Rattle.hx_pool.specs.History.{own_of, opens_of, entries_of, marks_of, table_after, IsEven}
use Rattle.hx_pool.specs.Held.{Has}
use Rattle.hx_pool.specs.SeatView.{IsOneHistory, Makes, Calls, Grows}
use Rattle.hx_pool.specs.Opening.{open_limit}
use Rattle.hx_pool.specs.Totals.{totals_from}
use Rattle.hx_pool.proofs.Histories.{own_of-append, opens_of-append, totals_more}
use Rattle.hx_pool.proofs.Holding.{has_with}
use Rattle.hx_resting.specs.declared.values.Rows.{Rows}
use Rattle.hx_resting.specs.Rows.{IsRight, IsAfter}
use Rattle.hx_lockboard.specs.Rule.{AllBy}
use Rattle.hx_resting.specs.Desks.{DeskView, adds_notes}
use Rattle.hx_lockboard.specs.LockDesks.{given_back, Gets}
use Rattle.hx_lockboard.specs.Seats.{about, history, Drains, KeepsAll, done}
use Rattle.hx_lockboard.proofs.Owners.{own_all}
use Rattle.hx_lockboard.proofs.Draining.{NoDrain, drains_more}

-- what the code knows once it has the value
module _ {V : Type 0} (shows : V → Shown) (b : BoardTerms) (t : ThreadNo) (d0 d1 : DeskView) (p : Option ℕ) (totals : Totals) (opened : ℕ) (s : KeepsAll b t d0 p totals opened) (rows : Rows V) (g : Gets shows d0 d1 rows) where
  abbrev pub H : List Note
  H = d0.view.seen ++ g.between

  pub got_after : IsAfter shows b H rows
  got_after = subst (λ (x : BoardTerms). IsAfter shows x H rows) s.terms g.after

  pub got_own : own_of t H ≡ d0.view.mine
  got_own = subst (λ (x : ThreadNo). own_of x H ≡ d0.view.mine) s.thread (sym g.own)

  pub got_low : t.0 < b.threads
  got_low = s.one.inside.0

  one_of : (H' mine : List Note) → IsRight b H' → own_of t H' ≡ mine → IsOneHistory (about b t d0) H' mine
  one_of H' mine r own = record { legal = r.legal; mode = r.mode; limit = r.limit; own_part = own; threads = r.threads; inside = s.one.inside }

  pub got_one : IsOneHistory (about b t d0) H d0.view.mine
  got_one = one_of H d0.view.mine got_after.stands.right got_own

  pub got_has : (m : SessionNo) (i uses : ℕ) → Has d0.view.mine m i uses → ((table_after H).conns i ≡ HeldBy t m) × ((table_after H).uses i ≡ uses)
  got_has m i uses has = has_with (record { about = about b t d0; seen = H; mine = d0.view.mine; passed = None }) m i uses got_one has

  pub got_opens : opens_of (own_of t H) ≡ opened
  got_opens = ap opens_of got_own ∙ sym s.opened_is

  module _ (d2 d3 : DeskView) (ys : List Note) (wrote : d2 ≡ adds_notes d1 ys) where
    noted_now : d2 ≡ record { board = d0.board; view = record d0.view { out = true; seen = H; noted = ys } }
    noted_now = wrote ∙ ap (λ (d : DeskView). adds_notes d ys) g.desk

    pub give_out : d2.view.out ≡ true
    give_out = ap (λ (d : DeskView). d.view.out) noted_now

    pub give_after : (rows' : Rows V) → IsAfter shows b (H ++ ys) rows' → IsAfter shows d2.view.terms (d2.view.seen ++ d2.view.noted) rows'
    give_after rows' a = subst (λ (d : DeskView). IsAfter shows d.view.terms (d.view.seen ++ d.view.noted) rows') (sym noted_now) (subst (λ (x : BoardTerms). IsAfter shows x (H ++ ys) rows') (sym s.terms) a)

    pub give_own : AllBy t ys → AllBy d2.view.thread d2.view.noted
    give_own all = subst (λ (d : DeskView). AllBy d.view.thread d.view.noted) (sym noted_now) (subst (λ (x : ThreadNo). AllBy x ys) (sym s.thread) all)

    module _ (back : d3 ≡ given_back d2) (all : AllBy t ys) (right : IsRight b (H ++ ys)) where
      pub done_is : d3 ≡ done d0 g.between ys
      done_is = back ∙ ap given_back noted_now

      one_now : IsOneHistory (about b t d0) (H ++ ys) (d0.view.mine ++ ys)
      one_now = one_of (H ++ ys) (d0.view.mine ++ ys) right (own_of-append t H ys ∙ (ap (λ l. l ++ own_of t ys) got_own ∙ ap (λ l. d0.view.mine ++ l) (own_all t ys all)))

      pub keeps_now : (q : Option ℕ) (totals' : Totals) (opened' : ℕ) → Drains (about b t d0) (d0.view.mine ++ ys) q → totals' ≡ totals_from totals (entries_of ys) → opened' ≡ opened + opens_of ys → opened' ≤ open_limit t → KeepsAll b t d3 q totals' opened'
      keeps_now q totals' opened' drains counted more few = subst (λ (d : DeskView). KeepsAll b t d q totals' opened') (sym done_is) record {
        home = refl;
        terms = s.terms;
        thread = s.thread;
        one = one_now;
        drains = drains;
        counted = counted ∙ (ap (λ (z : Totals). totals_from z (entries_of ys)) s.counted ∙ sym (totals_more d0.view.mine ys));
        opened_is = more ∙ (ap (λ (n : ℕ). n + opens_of ys) s.opened_is ∙ sym (opens_of-append d0.view.mine ys));
        few = few;
      }

      pub makes_now : IsEven ys → (q : Option ℕ) → Makes (history b t p d0) (history b t q d3) ys
      makes_now even q = subst (λ (d : DeskView). Makes (history b t p d0) (history b t q d) ys) (sym done_is) record {
        about = refl;
        mine = refl;
        seen = (g.between ++ ys, append_assoc d0.view.seen g.between ys);
        was = s.one;
        one = one_now;
        even = even;
      }

      pub calls_now : IsEven ys → Calls (history b t p d0) (history b t p d3) ys
      calls_now even = record { makes = makes_now even p; passed = refl }

      pub grows_now : IsEven ys → (q : Option ℕ) (last : List Entry) → last ≡ marks_of ys → length ys ≤ 4096 → Grows (history b t p d0) (history b t q d3) last
      grows_now even q last marks few = record { added = ys; makes = makes_now even q; marks = marks; few = few }

-- a call that has got the value
pub record Start {V : Type 0} (shows : V → Shown) : Type 0 where
  pub b : BoardTerms
  pub t : ThreadNo
  pub d0 : DeskView
  pub d1 : DeskView
  pub p : Option ℕ
  pub totals : Totals
  pub opened : ℕ
  pub s : KeepsAll b t d0 p totals opened
  pub rows : Rows V
  pub g : Gets shows d0 d1 rows

module _ {V : Type 0} (shows : V → Shown) (k : Start shows) where
  abbrev pub whole : List Note
  whole = k.d0.view.seen ++ k.g.between

  pub after_of : IsAfter shows k.b whole k.rows
  after_of = got_after shows k.b k.t k.d0 k.d1 k.p k.totals k.opened k.s k.rows k.g

  pub low_of : k.t.0 < k.b.threads
  low_of = k.s.one.inside.0

  pub few_of : k.b.threads ≤ 16
  few_of = k.s.one.inside.1

  pub has_of : (m : SessionNo) (i uses : ℕ) → Has k.d0.view.mine m i uses → ((table_after whole).conns i ≡ HeldBy k.t m) × ((table_after whole).uses i ≡ uses)
  has_of = got_has shows k.b k.t k.d0 k.d1 k.p k.totals k.opened k.s k.rows k.g

  pub one_with : (ys : List Note) → AllBy k.t ys → IsRight k.b (whole ++ ys) → IsOneHistory (about k.b k.t k.d0) (whole ++ ys) (k.d0.view.mine ++ ys)
  one_with ys all r = record {
    legal = r.legal;
    mode = r.mode;
    limit = r.limit;
    own_part = own_of-append k.t whole ys ∙ (ap (λ l. l ++ own_of k.t ys) (got_own shows k.b k.t k.d0 k.d1 k.p k.totals k.opened k.s k.rows k.g) ∙ ap (λ l. k.d0.view.mine ++ l) (own_all k.t ys all));
    threads = r.threads;
    inside = k.s.one.inside;
  }

  pub opens_of_own : opens_of (own_of k.t whole) ≡ k.opened
  opens_of_own = got_opens shows k.b k.t k.d0 k.d1 k.p k.totals k.opened k.s k.rows k.g

  module _ (d2 : DeskView) (ys : List Note) (wrote : d2 ≡ adds_notes k.d1 ys) where
    pub out_of : d2.view.out ≡ true
    out_of = give_out shows k.b k.t k.d0 k.d1 k.p k.totals k.opened k.s k.rows k.g d2 d2 ys wrote

    pub gives_after : (rows' : Rows V) → IsAfter shows k.b (whole ++ ys) rows' → IsAfter shows d2.view.terms (d2.view.seen ++ d2.view.noted) rows'
    gives_after = give_after shows k.b k.t k.d0 k.d1 k.p k.totals k.opened k.s k.rows k.g d2 d2 ys wrote

    pub gives_own : AllBy k.t ys → AllBy d2.view.thread d2.view.noted
    gives_own = give_own shows k.b k.t k.d0 k.d1 k.p k.totals k.opened k.s k.rows k.g d2 d2 ys wrote

    module _ (d3 : DeskView) (back : d3 ≡ given_back d2) (all : AllBy k.t ys) (rows' : Rows V) (after : IsAfter shows k.b (whole ++ ys) rows') where
      abbrev pub right_of : IsRight k.b (whole ++ ys)
      right_of = after.stands.right

      pub desk_of : d3 ≡ done k.d0 k.g.between ys
      desk_of = done_is shows k.b k.t k.d0 k.d1 k.p k.totals k.opened k.s k.rows k.g d2 d3 ys wrote back all right_of

      pub keeps_of : (q : Option ℕ) (totals' : Totals) (opened' : ℕ) → Drains (about k.b k.t k.d0) (k.d0.view.mine ++ ys) q → totals' ≡ totals_from k.totals (entries_of ys) → opened' ≡ k.opened + opens_of ys → opened' ≤ open_limit k.t → KeepsAll k.b k.t d3 q totals' opened'
      keeps_of = keeps_now shows k.b k.t k.d0 k.d1 k.p k.totals k.opened k.s k.rows k.g d2 d3 ys wrote back all right_of

      -- no drain is set and no connection opened
      pub keeps_on : (totals' : Totals) → NoDrain ys → totals' ≡ totals_from k.totals (entries_of ys) → opens_of ys ≡ 0 → KeepsAll k.b k.t d3 k.p totals' k.opened
      keeps_on totals' plainly counted none = keeps_of k.p totals' k.opened (drains_more (about k.b k.t k.d0) k.d0.view.mine ys k.p plainly k.s.drains) counted (omega arith) k.s.few

      pub makes_of : IsEven ys → (q : Option ℕ) → Makes (history k.b k.t k.p k.d0) (history k.b k.t q d3) ys
      makes_of = makes_now shows k.b k.t k.d0 k.d1 k.p k.totals k.opened k.s k.rows k.g d2 d3 ys wrote back all right_of

      pub calls_of : IsEven ys → Calls (history k.b k.t k.p k.d0) (history k.b k.t k.p d3) ys
      calls_of = calls_now shows k.b k.t k.d0 k.d1 k.p k.totals k.opened k.s k.rows k.g d2 d3 ys wrote back all right_of

      pub grows_of : IsEven ys → (q : Option ℕ) (last : List Entry) → last ≡ marks_of ys → length ys ≤ 4096 → Grows (history k.b k.t k.p k.d0) (history k.b k.t q d3) last
      grows_of = grows_now shows k.b k.t k.d0 k.d1 k.p k.totals k.opened k.s k.rows k.g d2 d3 ys wrote back all right_of

pub calls_none : (b : BoardTerms) (t : ThreadNo) (d : DeskView) (p : Option ℕ) (totals : Totals) (opened : ℕ) → KeepsAll b t d p totals opened → Calls (history b t p d) (history b t p d) []
calls_none b t d p totals opened s = record { makes = record { about = refl; mine = sym (append-nil d.view.mine); seen = ([], sym (append-nil d.view.seen)); was = s.one; one = s.one; even = refl }; passed = refl }

pub grows_none : (b : BoardTerms) (t : ThreadNo) (d : DeskView) (p : Option ℕ) (totals : Totals) (opened : ℕ) → KeepsAll b t d p totals opened → Grows (history b t p d) (history b t p d) []
grows_none b t d p totals opened s = record { added = []; makes = (calls_none b t d p totals opened s).makes; marks = refl; few = omega arith }
