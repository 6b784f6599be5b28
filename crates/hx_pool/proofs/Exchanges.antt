-- The four calls of an exchange, one after another.
use Rattle.std.proofs.Common.{◌≡◌, List, [], ◌∷◌, ◌++◌, false, sym, ap, ◌∙◌}
use Rattle.hx_base.specs.declared.numbers.ThreadNo.{ThreadNo}
use Rattle.hx_base.specs.declared.numbers.SessionNo.{SessionNo}
use Rattle.hx_base.specs.declared.numbers.ConnId.{ConnId}
use Rattle.hx_base.specs.declared.numbers.PlaceNo.{PlaceNo}
use Rattle.hx_base.specs.declared.numbers.Face.{Face}
use Rattle.hx_base.specs.Shown.{Shown}
use Rattle.hx_pool.specs.declared.entries.Entry.TheVariants.{Open, Park, Take, Close, Up}
use Rattle.hx_pool.specs.declared.entries.Note.{Note}
use Rattle.hx_pool.specs.Table.{face_of}
use Rattle.hx_pool.specs.History.{plain, marks_of}
use Rattle.hx_pool.specs.SeatView.{About, History, Calls}
use Rattle.hx_pool.specs.Opening.{Closes}
use Rattle.hx_pool.specs.Parking.{Parks, parked, gated}
use Rattle.hx_pool.specs.Taking.{TakesOwn, taking}
use Rattle.hx_pool.specs.Exchange.{Exchanges}
use Rattle.hx_pool.proofs.Histories.{marks_of-append}
use Rattle.hx_pool.proofs.Holding.{closed_at_exit}
use Rattle.hx_pool.proofs.Calls.{makes_both, marks_taking, marks_parked}

pub exchanged : (a b d e z : History) (n : SessionNo) (opened : ConnId) (put : PlaceNo) (v w : Shown) (last : ConnId)
    → Calls a b (plain (Open a.about.thread n opened) ∷ []) → Parks b d n put v → v.face ≡ face_of opened 1 → TakesOwn d e n false w → last ≡ w.face.id → Closes e z n last
    → Exchanges a z n last
exchanged a b d e z n opened put v w last m p is t same c =
    let s : ThreadNo = a.about.thread in
    let sb : b.about.thread ≡ s = ap (λ (x : About). x.thread) m.makes.about in
    let sd : d.about.thread ≡ s = ap (λ (x : About). x.thread) p.makes.makes.about ∙ sb in
    let se : e.about.thread ≡ s = ap (λ (x : About). x.thread) t.takes.makes.about ∙ sd in
    let one : List Note = plain (Open s n opened) ∷ [] in
    let two : List Note = gated b.about.thread p.looks (plain (Up b.about.thread p.count) ∷ parked b.about.thread n put v ∷ p.tail) in
    let three : List Note = t.takes.looks ++ taking d.about.thread n false t.place w.face t.takes.count in
    let four : List Note = plain (Close e.about.thread n last) ∷ [] in
    let two_marks : marks_of two ≡ Park s n opened put 1 ∷ [] = marks_parked p.looks b.about.thread n put v p.count p.tail p.looked p.settles
    ∙ (ap (λ (q : ThreadNo). Park q n v.face.id put v.face.uses ∷ []) sb ∙ ap (λ (f : Face). Park s n f.id put f.uses ∷ []) is) in
    let three_marks : marks_of three ≡ Take s n false t.place last w.face.uses ∷ [] = marks_taking t.takes.looks d.about.thread n false t.place w.face t.takes.count t.takes.looked
    ∙ (ap (λ (q : ThreadNo). Take q n false t.place w.face.id w.face.uses ∷ []) sd ∙ ap (λ (i : ConnId). Take s n false t.place i w.face.uses ∷ []) (sym same)) in
    let four_marks : marks_of four ≡ Close s n last ∷ [] = ap (λ (q : ThreadNo). Close q n last ∷ []) se in
    record {
      opened = opened;
      put = put;
      place = t.place;
      uses = w.face.uses;
      added = one ++ (two ++ (three ++ four));
      makes = makes_both a b z one (two ++ (three ++ four)) m.makes (makes_both b d z two (three ++ four) p.makes.makes (makes_both d e z three four t.takes.makes c.makes));
      made = ap (λ l. Open s n opened ∷ l) (marks_of-append two (three ++ four) ∙ (ap (λ l. l ++ marks_of (three ++ four)) two_marks
          ∙ ap (λ l. Park s n opened put 1 ∷ l) (marks_of-append three four ∙ (ap (λ l. l ++ marks_of four) three_marks ∙ ap (λ l. Take s n false t.place last w.face.uses ∷ l) four_marks))));
      closed = closed_at_exit e z n last c;
    }
