-- A value is taken out, after looks and perhaps a count.
use Rattle.std.proofs.Common.{◌≡◌, ◌≢◌, ℕ, zero, suc, ◌+◌, ◌*◌, ◌<◌, ◌≤◌, Bool, true, List, [], ◌∷◌, ◌++◌, length, refl, sym, ap, ◌∙◌, subst, arith, Option, append_assoc}
use Rattle.std.proofs.lemmas.List.{append-nil}
use Rattle.std.specs.Vec.{vec_capacity}
use Rattle.hx_base.specs.declared.numbers.ThreadNo.{ThreadNo}
use Rattle.hx_base.specs.declared.numbers.SessionNo.{SessionNo}
use Rattle.hx_base.specs.declared.numbers.PlaceNo.{PlaceNo}
use Rattle.hx_base.specs.declared.numbers.Face.{Face}
use Rattle.hx_base.specs.Shown.{Shown}
use Rattle.hx_pool.specs.declared.board.BoardTerms.{BoardTerms}
use Rattle.hx_pool.specs.declared.entries.Entry.{Entry}
use Rattle.hx_pool.specs.declared.entries.Entry.TheVariants.{Take, Free, Down}
use Rattle.hx_pool.specs.declared.entries.Note.{Note}
use Rattle.hx_pool.specs.Table.{IsInRow}
use Rattle.hx_pool.specs.History.{plain, thread_of, what_of, IsEven}
use Rattle.hx_pool.specs.Rules.{allows}
use Rattle.hx_pool.specs.Causes.{AllLooks, nth_place}
use Rattle.hx_pool.specs.Taking.{taking, Takes}
use Rattle.hx_pool.proofs.Histories.{even-append}
use Rattle.hx_pool.proofs.Calls.{looks_even}
use Rattle.hx_resting.specs.declared.values.Rows.{Rows}
use Rattle.hx_resting.specs.Rows.{Rested, rests_of, AreKept, Known, Stands, IsAfter, known_of}
use Rattle.hx_resting.specs.Row.{nth_no, look_at, looks_run}
use Rattle.hx_lockboard.specs.Rule.{AllBy}
use Rattle.hx_resting.specs.Desks.{DeskView, adds_notes}
use Rattle.hx_lockboard.specs.LockDesks.{given_back}
use Rattle.hx_lockboard.specs.Seats.{history}
use Rattle.hx_lockboard.proofs.Owners.{all_by-append}
use Rattle.hx_resting.proofs.Shelves.{kept_mid}
use Rattle.hx_resting.proofs.Steps.{look_stands}
use Rattle.hx_resting.proofs.Rests.{take_stands}
use Rattle.hx_lockboard.proofs.Calls.{Start, whole, after_of, low_of, makes_of, desk_of}

pub looks_by : (t : ThreadNo) (xs : List Note) → AllLooks t xs → AllBy t xs
looks_by t [] l = tt
looks_by t (x ∷ xs) l = (ap (λ (y : Note). thread_of y.entry) l.0.2, looks_by t xs l.1)

-- a place of a thread's order is in a row
pub nth_inside : (t : ThreadNo) (threads q : ℕ) → IsInRow (nth_place t threads q)
nth_inside t threads q = omega arith

module _ (b : BoardTerms) (t : ThreadNo) (low : t.0 < b.threads) (H : List Note) (k : Known) (rests : List Rested) where
  pub run_stands : Stands b H k rests → (from c : ℕ) → Stands b (H ++ looks_run t b.threads rests from c) k rests
  unfolding looks_run
  run_stands s from zero = subst (λ hs. Stands b hs k rests) (sym (append-nil H)) s
  run_stands s from (suc c) = subst (λ hs. Stands b hs k rests) (append_assoc H (looks_run t b.threads rests from c) (look_at t b.threads rests (from + c) ∷ []))
      (look_stands b t low _ k rests (run_stands s from c) (nth_place t b.threads (from + c)) (nth_no t b.threads (from + c)) (nth_inside t b.threads (from + c)) refl)

-- the value after the entries, by its parts
pub after_as : {V : Type 0} (shows : V → Shown) (b : BoardTerms) (H : List Note) (k : Known) (rests : List Rested) (rows : Rows V) → Stands b H k rests → rows.next ≡ k.next → rows.draining ≡ k.draining → length rests ≡ k.count → rows.round ≡ k.round → rests_of shows rows.resting.items ≡ rests → 64 * b.threads ≤ vec_capacity rows.resting → IsAfter shows b H rows
after_as {V} shows b H k rests rows s next gate count round is roomy =
    let same : known_of shows rows ≡ k = λ i. record { next = next i; draining = gate i; count = (ap length is ∙ count) i; round = round i } in
    record { stands = subst (λ (z : Known × List Rested). Stands b H z.0 z.1) (λ i. (sym same i, sym is i)) s; roomy = roomy }

-- looks and a take leave the count as even as it was
pub took_even : (looks : List Note) (t : ThreadNo) (n : SessionNo) (first : Bool) (place : PlaceNo) (f : Face) (count : ℕ) → AllLooks t looks → IsEven (looks ++ taking t n first place f count)
took_even looks t n first place f count looked = even-append looks (taking t n first place f count) (looks_even t looks looked) refl

module _ {V : Type 0} (shows : V → Shown) (k : Start shows) (lead looks : List Note) (n : SessionNo) (first : Bool) (x : Rested) (before behind : List Rested) (rows' : Rows V)
    (st : Stands k.b (whole shows k ++ (lead ++ looks)) (known_of shows k.rows) (rests_of shows k.rows.resting.items))
    (parts : rests_of shows k.rows.resting.items ≡ before ++ x ∷ behind) (left : rests_of shows rows'.resting.items ≡ before ++ behind)
    (next : rows'.next ≡ k.rows.next) (gate : rows'.draining ≡ k.rows.draining) (round : rows'.round ≡ k.rows.round) (room : vec_capacity rows'.resting ≡ vec_capacity k.rows.resting)
    (may : n.0 ≢ 0 → allows k.b.rules.mode first x.shown.face.uses ≡ true) (looked : AllLooks k.t looks) (lead_by : AllBy k.t lead) (lead_even : IsEven lead) where
  abbrev H : List Note
  H = whole shows k

  abbrev rests : List Rested
  rests = rests_of shows k.rows.resting.items

  abbrev pub took_notes : List Note
  took_notes = lead ++ (looks ++ taking k.t n first x.place x.shown.face (length rests))

  abbrev before_take : List Note
  before_take = lead ++ looks

  pub shift : H ++ took_notes ≡ (H ++ before_take) ++ taking k.t n first x.place x.shown.face (length rests)
  shift = ap (λ l. H ++ l) (sym (append_assoc lead looks (taking k.t n first x.place x.shown.face (length rests)))) ∙ sym (append_assoc H before_take (taking k.t n first x.place x.shown.face (length rests)))

  gone : Stands k.b (H ++ took_notes) (record { next = k.rows.next; draining = k.rows.draining; count = length (before ++ behind); round = k.rows.round }) (before ++ behind)
  gone =
      let P : List Rested → Type 0 = λ l. Stands k.b (H ++ before_take) (record { next = k.rows.next; draining = k.rows.draining; count = length l; round = k.rows.round }) l → Stands k.b ((H ++ before_take) ++ taking k.t n first x.place x.shown.face (length l)) (record { next = k.rows.next; draining = k.rows.draining; count = length (before ++ behind); round = k.rows.round }) (before ++ behind) in
      let go : P (before ++ x ∷ behind) = λ s. take_stands k.b k.t (low_of shows k) (H ++ before_take) (record { next = k.rows.next; draining = k.rows.draining; count = length (before ++ x ∷ behind); round = k.rows.round }) before x behind s refl n first may in
      subst (λ hs. Stands k.b hs (record { next = k.rows.next; draining = k.rows.draining; count = length (before ++ behind); round = k.rows.round }) (before ++ behind)) (sym shift) (subst P (sym parts) go st)

  pub took_after : IsAfter shows k.b (H ++ took_notes) rows'
  took_after = let r = (after_of shows k).roomy in after_as shows k.b (H ++ took_notes) (record { next = k.rows.next; draining = k.rows.draining; count = length (before ++ behind); round = k.rows.round }) (before ++ behind) rows' gone next gate refl round left (omega arith)

  pub took_by : AllBy k.t took_notes
  took_by = all_by-append k.t lead _ lead_by (all_by-append k.t looks _ (looks_by k.t looks looked) (refl, (refl, (refl, tt))))

  abbrev pub took_takes : (d2 d3 : DeskView) (q : Option ℕ) → d2 ≡ adds_notes k.d1 took_notes → d3 ≡ given_back d2 → Takes (history k.b k.t k.p k.d0) (history k.b k.t q d3) lead n first x.place x.shown
  took_takes d2 d3 q wrote back =
      let kept = kept_mid k.b.threads (H ++ before_take) k.b.server before x behind (subst (λ l. AreKept (H ++ before_take) k.b.server l) parts st.kept) in
      let is = desk_of shows k d2 took_notes wrote d3 back took_by rows' took_after in
      let seen : H ++ took_notes ≡ (k.d0.view.seen ++ (k.g.between ++ before_take)) ++ taking k.t n first x.place x.shown.face (length rests) = shift ∙ ap (λ l. l ++ taking k.t n first x.place x.shown.face (length rests)) (append_assoc k.d0.view.seen k.g.between before_take) in record {
        looks = looks;
        count = length rests;
        looked = looked;
        makes = makes_of shows k d2 took_notes wrote d3 back took_by rows' took_after (even-append lead (looks ++ taking k.t n first x.place x.shown.face (length rests)) lead_even (took_even looks k.t n first x.place x.shown.face (length rests) looked)) q;
        server = kept.0;
        between = k.g.between ++ before_take;
        behind = plain (Free k.t x.place) ∷ plain (Down k.t (length rests)) ∷ [];
        seen = ap (λ (d : DeskView). d.view.seen) is ∙ seen;
        what = ap (λ hs. what_of hs x.shown.face.id.0) (sym (append_assoc k.d0.view.seen k.g.between before_take)) ∙ kept.1;
      }

-- the entry that the code makes of the value that it took
pub entry_as : (e : Entry) (t : ThreadNo) (n : SessionNo) (first : Bool) (place : PlaceNo) (f g : Face) → e ≡ Take t n first place f.id f.uses → f ≡ g → e ≡ Take t n first place g.id g.uses
entry_as e t n first place f g is same = is ∙ ap (λ (x : Face). Take t n first place x.id x.uses) same
