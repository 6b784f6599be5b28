-- A journal, one call on.
use Rattle.std.proofs.Common.{◌≡◌, ℕ, ◌+◌, ◌-◌, ◌≤◌, Bool, true, false, cond, List, [], ◌++◌, length, refl, sym, ap, ◌∙◌, arith, Some, None, inl, inr, append_assoc}
use Rattle.std.proofs.lemmas.List.{append-nil, length-append}
use Rattle.hx_pool.specs.declared.entries.Entry.{Entry}
use Rattle.hx_pool.specs.History.{marks_of}
use Rattle.hx_pool.specs.SeatView.{History, Grows, StillKept, Stores}
use Rattle.hx_pool.specs.Journal.{EndsWithStored}
use Rattle.hx_pool.proofs.Histories.{marks_of-append}

grown : (h k : History) (last : List Entry) → Grows h k last → marks_of k.mine ≡ marks_of h.mine ++ last
grown h k last g = ap marks_of g.makes.mine ∙ (marks_of-append h.mine g.added ∙ ap (λ l. marks_of h.mine ++ l) (sym g.marks))

pub kept_on : (h k : History) (last list : List Entry) (stored new : List Entry) (w v : Bool) → EndsWithStored h stored w → Grows h k last → list ≡ last
    → (v ≡ true → (w ≡ true) × (new ≡ stored ++ list)) → EndsWithStored k new v
kept_on h k last list stored new w v kept g same step is =
    let s = step is in
    let b = kept s.0 in
    (b.0, grown h k last g ∙ (ap (λ l. l ++ last) b.1 ∙ (append_assoc b.0 stored last ∙ ap (λ l. b.0 ++ l) (ap (λ l. stored ++ l) (sym same) ∙ sym s.1))))

still_kept : (h k : History) (last list : List Entry) (stored new : List Entry) (w v : Bool) → Grows h k last → list ≡ last → (v ≡ true → (w ≡ true) × (new ≡ stored ++ list))
    → StillKept (cond w (Some (length (marks_of h.mine) - length stored)) None) (cond v (Some (length (marks_of k.mine) - length new)) None)
still_kept h k last list stored new w false g same step = inr refl
still_kept h k last list stored new w true g same step =
    let s = step refl in
    let a = ap length (grown h k last g) in
    let b = ap length s.1 in
    let c = ap length same in
    let e : length (marks_of k.mine) - length new ≡ length (marks_of h.mine) - length stored = omega (arith, length-append (marks_of h.mine) last, length-append stored list) in
    inl (ap Some e ∙ sym (ap (λ z. cond z (Some (length (marks_of h.mine) - length stored)) None) s.0))

same_kept : (h k : History) (last list : List Entry) (stored new : List Entry) (w v : Bool) → Grows h k last → list ≡ last → (v ≡ true → (w ≡ true) × (new ≡ stored ++ list)) → v ≡ w
    → cond v (Some (length (marks_of k.mine) - length new)) None ≡ cond w (Some (length (marks_of h.mine) - length stored)) None
same_kept h k last list stored new w false g same step is = ap (λ z. cond z (Some (length (marks_of h.mine) - length stored)) None) is
same_kept h k last list stored new w true g same step is =
    let s = step refl in
    let a = ap length (grown h k last g) in
    let b = ap length s.1 in
    let c = ap length same in
    let e : length (marks_of k.mine) - length new ≡ length (marks_of h.mine) - length stored = omega (arith, length-append (marks_of h.mine) last, length-append stored list) in
    ap Some e ∙ sym (ap (λ z. cond z (Some (length (marks_of h.mine) - length stored)) None) s.0)

-- the journal stores what the call made, and is still whole where there was room
pub stores : (h k : History) (last list : List Entry) (stored new : List Entry) (w v : Bool) (room room' : ℕ) → Grows h k last → list ≡ last
    → (v ≡ true → (w ≡ true) × (new ≡ stored ++ list)) → (length list ≤ room → (v ≡ w) × (room ≤ room' + length list))
    → Stores (cond w (Some (length (marks_of h.mine) - length stored)) None) (cond v (Some (length (marks_of k.mine) - length new)) None) room room' last
stores h k last list stored new w v room room' g same step fits = record {
  still = still_kept h k last list stored new w v g same step;
  fits = λ few. let c : length list ≡ length last = ap length same in let f = fits (omega arith) in (same_kept h k last list stored new w v g same step f.0, omega arith);
}

pub kept_anew : (h : History) (stored : List Entry) (w : Bool) → stored ≡ [] → EndsWithStored h stored w
kept_anew h stored w e is = (marks_of h.mine, sym (append-nil (marks_of h.mine)) ∙ ap (λ l. marks_of h.mine ++ l) (sym e))
