-- What the bytes used by a meter are.
use Rattle.std.proofs.Common.{◌≡◌, ◌≢◌, ℕ, zero, suc, ◌+◌, ◌-◌, ◌<◌, ◌↔◌, Bool, true, false, cond, List, [], ◌∷◌, ◌++◌, length, take, get_or, replicate, IsTrue, refl, sym, ap, subst, ◌∙◌, arith, ne_eqb, add-one, append_assoc, length-append}
use Rattle.std.specs.Prelude.{◌==◌, min}
use Rattle.std.proofs.lemmas.Bool.{eqb-true, eqb-false}
use Rattle.std.proofs.lemmas.List.{length-replicate, append-nil, nil_from_length, length-take, take_more}
use Rattle.hx_message.specs.declared.BodyKind.{BodyKind}
use Rattle.hx_message.specs.declared.BodyKind.TheVariants.{Nothing, Length, Chunked, ToEnd}
use Rattle.hx_message.specs.Body.{IsBody}
use Rattle.hx_frame.specs.declared.progress.MeterState.{MeterState}
use Rattle.hx_frame.specs.declared.progress.MeterState.TheVariants.{Going, Done, Bad}
use Rattle.hx_frame.specs.declared.state.ChunkState.{ChunkState}
use Rattle.hx_frame.specs.declared.state.ChunkState.TheVariants as chunk
use Rattle.hx_frame.specs.declared.state.BodyState.{BodyState}
use Rattle.hx_frame.specs.declared.state.BodyState.TheVariants.{Bytes, Chunks, All}
use Rattle.hx_frame.specs.Chunks.{is_over, is_bad, read_chunks}
use Rattle.hx_frame.specs.Endings.{EndsChunks}
use Rattle.hx_frame.specs.States.{state_at_front, progress_of, runs_to_end, EndsBody, LeadsOn}
use Rattle.hx_frame.specs.Meters.{IsProperPart, NoBodyBegins, MeterFits, FeedEnds, FeedSays, HasReached}
use Rattle.hx_frame.proofs.ReadLemmas.{reads, goes_on}

bytes_go_on : (n : ℕ) → progress_of (Bytes (suc n)) ≡ Going
bytes_go_on n = let apart : suc n ≢ 0 = λ e. absurd (omega (arith, e)) in ap (λ (t : Bool). cond t Done Going) (ne_eqb (suc n) 0 apart)

-- a body that goes on can end, with more bytes
ends_later : (s : BodyState) → progress_of s ≡ Going → (more : List ℕ) × (0 < length more) × EndsBody s more
ends_later (Bytes zero) going = absurd cc
ends_later (Bytes (suc n)) going = (replicate (suc n) 0, omega (arith, length-replicate {A = ℕ} (suc n) 0), length-replicate (suc n) 0)
ends_later (Chunks s) going = by_tests (is_bad s) (is_over s) refl refl going
  where
    by_tests : (bad over : Bool) → is_bad s ≡ bad → is_over s ≡ over → cond bad Bad (cond over Done Going) ≡ Going
        → (more : List ℕ) × (0 < length more) × EndsChunks s more
    by_tests true over is over_is e = absurd cc
    by_tests false true is over_is e = absurd cc
    by_tests false false is over_is e = goes_on s over_is
ends_later All going = (0 ∷ [], omega arith, tt)

-- a body that is done has ended
ended_now : (s : BodyState) → progress_of s ≡ Done → EndsBody s []
ended_now (Bytes zero) done = refl
ended_now (Bytes (suc n)) done = let going = bytes_go_on n in absurd cc
ended_now (Chunks s) done = of_state s done
  where
    of_state : (s : ChunkState) → cond (is_bad s) Bad (cond (is_over s) Done Going) ≡ Done → EndsChunks s []
    of_state chunk.Start done = absurd cc
    of_state (chunk.Size size room) done = absurd cc
    of_state (chunk.Extension size room) done = absurd cc
    of_state (chunk.SizeEnd size) done = absurd cc
    of_state (chunk.Data left) done = absurd cc
    of_state chunk.DataEnd done = absurd cc
    of_state (chunk.TrailerStart room) done = absurd cc
    of_state (chunk.Trailer room) done = absurd cc
    of_state (chunk.TrailerEnd room) done = absurd cc
    of_state chunk.LastEnd done = absurd cc
    of_state chunk.Done done = refl
    of_state chunk.Bad done = absurd cc
ended_now All done = absurd cc

not_to_end : (s : BodyState) → progress_of s ≡ Done → runs_to_end s ≡ true → ⊥
not_to_end (Bytes n) done runs = cc
not_to_end (Chunks s) done runs = cc
not_to_end All done runs = cc

-- the front of a body
pub front_reached : (kind : BodyKind) → HasReached kind [] (state_at_front kind)
front_reached Nothing = record {
  fits = (refl, λ e. absurd cc);
  waits = λ good more. ((λ is. ap length is), (λ is. nil_from_length more is));
  to_end = ((λ t. absurd cc), (λ t. absurd cc));
}
front_reached (Length zero) = record {
  fits = (refl, λ e. absurd cc);
  waits = λ good more. ((λ is. is), (λ is. is));
  to_end = ((λ t. absurd cc), (λ t. absurd cc));
}
front_reached (Length (suc n)) = record {
  fits = subst (MeterFits (Length (suc n)) []) (sym (bytes_go_on n)) (ends_later (Bytes (suc n)) (bytes_go_on n));
  waits = λ good more. ((λ is. is), (λ is. is));
  to_end = ((λ t. absurd cc), (λ t. absurd cc));
}
front_reached Chunked = record {
  fits = ends_later (Chunks chunk.Start) refl;
  waits = λ good more. ((λ is. is), (λ is. is));
  to_end = ((λ t. absurd cc), (λ t. absurd cc));
}
front_reached ToEnd = record {
  fits = ends_later All refl;
  waits = λ good more. ((λ is. is), (λ is. is));
  to_end = ((λ t. refl), (λ t. refl));
}

-- a piece that leads from one state to the next, behind bytes used before
module _ (kind : BodyKind) (before piece : List ℕ) (n : ℕ) (old new : BodyState) (h : HasReached kind before old) (f : LeadsOn old piece n new) where
  is_body_from : (progress_of old ≡ Bad → ⊥) → (front more : List ℕ) → EndsBody old (front ++ more) → IsBody kind ((before ++ front) ++ more)
  is_body_from good front more ends =
      subst (IsBody kind) (sym (append_assoc before front more)) ((h.waits good (front ++ more)).1 ends)

  ends_from_body : (progress_of old ≡ Bad → ⊥) → (front more : List ℕ) → IsBody kind ((before ++ front) ++ more) → EndsBody old (front ++ more)
  ends_from_body good front more body =
      (h.waits good (front ++ more)).0 (subst (IsBody kind) (append_assoc before front more) body)

  waits_on : progress_of old ≡ Going → (progress_of new ≡ Bad → ⊥) → (more : List ℕ) → IsBody kind (before ++ take n piece ++ more) ↔ EndsBody new more
  waits_on going good more =
      let fine : progress_of old ≡ Bad → ⊥ = λ bad. absurd cc in (
        (λ body. (f.ends good more).0 (ends_from_body fine (take n piece) more body)),
        (λ ends. is_body_from fine (take n piece) more ((f.ends good more).1 ends)),
      )

  proper : progress_of old ≡ Going → (more : List ℕ) × (0 < length more) × EndsBody old (take n piece ++ more) → IsProperPart kind (before ++ take n piece)
  proper going p =
      let fine : progress_of old ≡ Bad → ⊥ = λ bad. absurd cc in
      (p.0, p.1, is_body_from fine (take n piece) p.0 p.2)

  none_begins : progress_of old ≡ Going → progress_of new ≡ Bad → NoBodyBegins kind (before ++ take (n + 1) piece)
  none_begins going bad more body =
      let fine : progress_of old ≡ Bad → ⊥ = λ b. absurd cc in
      (f.bad going bad).2 more (ends_from_body fine (take (n + 1) piece) more body)

  to_end_on : IsTrue (runs_to_end new) ↔ (kind ≡ ToEnd)
  to_end_on = ((λ t. h.to_end.0 (sym f.same ∙ t)), (λ t. f.same ∙ h.to_end.1 t))

  abbrev HasFed : Type 0
  HasFed = HasReached kind (before ++ take n piece) new × FeedSays kind (progress_of old) (progress_of new) before piece n

  fed_over : (progress_of old ≡ Going → ⊥) → HasFed
  fed_over over =
      let e = f.ended over in
      let used_is : before ≡ before ++ take n piece = sym (ap (λ (k : ℕ). before ++ take k piece) e.0 ∙ append-nil before) in
      let reached : HasReached kind (before ++ take n piece) new =
      subst (λ (s : BodyState). HasReached kind (before ++ take n piece) s) (sym e.1) (subst (λ (u : List ℕ). HasReached kind u old) used_is h) in (
        reached,
        record {
          fits = reached.fits;
          within = f.within;
          going = λ going. absurd (over going);
          ended = λ o. (e.0, ap progress_of e.1);
        },
      )

  with_fits : progress_of old ≡ Going → {m : MeterState} → progress_of new ≡ m → MeterFits kind (before ++ take n piece) m
      → ((progress_of new ≡ Bad → ⊥) → (more : List ℕ) → IsBody kind (before ++ take n piece ++ more) ↔ EndsBody new more)
      → FeedEnds kind before piece n m → HasFed
  with_fits going {m = m} is fits waits ends = (
    record { fits = subst (MeterFits kind (before ++ take n piece)) (sym is) fits; waits = waits; to_end = to_end_on },
    record {
      fits = subst (MeterFits kind (before ++ take n piece)) (sym is) fits;
      within = f.within;
      going = λ g. subst (FeedEnds kind before piece n) (sym is) ends;
      ended = λ over. absurd (over going);
    },
  )

  fed_going : progress_of old ≡ Going → (m : MeterState) → progress_of new ≡ m → HasFed
  fed_going going Going is =
      let l = ends_later new is in
      let good : progress_of new ≡ Bad → ⊥ = λ bad. absurd cc in
      let fits : IsProperPart kind (before ++ take n piece) = (l.0, l.1, (waits_on going good l.0).1 l.2) in
      with_fits going is fits (λ g. waits_on going good) (f.whole is)
  fed_going going Done is =
      let good : progress_of new ≡ Bad → ⊥ = λ bad. absurd cc in
      let body : IsBody kind ((before ++ take n piece) ++ []) = (waits_on going good []).1 (ended_now new is) in
      let fits : MeterFits kind (before ++ take n piece) Done =
      (subst (IsBody kind) (append-nil (before ++ take n piece)) body, λ e. not_to_end new is (to_end_on.1 e)) in
      with_fits going is fits (λ g. waits_on going good) f.within
  fed_going going Bad is =
      let b = f.bad going is in
      let none = none_begins going is in
      let next = get_or piece n 0 in
      let longer : before ++ take (n + 1) piece ≡ (before ++ take n piece) ++ next ∷ [] =
      ap (λ (xs : List ℕ). before ++ xs) (take_more piece n 0 b.0) ∙ sym (append_assoc before (take n piece) (next ∷ [])) in
      let fits : MeterFits kind (before ++ take n piece) Bad =
      (proper going b.1, (next, subst (NoBodyBegins kind) longer none)) in
      with_fits going is fits (λ g. absurd (g is)) (b.0, none)

  pub has_fed : HasFed
  has_fed = by_progress (progress_of old) refl
    where
      by_progress : (m : MeterState) → progress_of old ≡ m → HasFed
      by_progress Going is = fed_going is (progress_of new) refl
      by_progress Done is = fed_over (λ going. absurd cc)
      by_progress Bad is = fed_over (λ going. absurd cc)

-- so many bytes are passed over
pub bytes_lead : (left n : ℕ) (piece : List ℕ) → n ≡ min left (length piece) → LeadsOn (Bytes left) piece n (Bytes (left - n))
bytes_lead left n piece is = record {
  within = omega arith;
  ended = λ over. by_zero (left == 0) refl over;
  whole = λ going. by_rest (left - n == 0) refl going;
  ends = λ good more. (
    (λ ends. omega (arith, ends, length-append (take n piece) more, length-take n piece)),
    (λ ends. omega (arith, ends, length-append (take n piece) more, length-take n piece)),
  );
  bad = λ going bad. absurd (never_bad (left - n == 0) bad);
  same = refl;
}
  where
    never_bad : (t : Bool) → cond t Done Going ≡ Bad → ⊥
    never_bad true e = cc
    never_bad false e = cc

    by_zero : (t : Bool) → (left == 0) ≡ t → (cond (left == 0) Done Going ≡ Going → ⊥) → (n ≡ 0) × (Bytes (left - n) ≡ Bytes left)
    by_zero true e over =
        let none : left ≡ 0 = eqb-true left 0 e in
        let used : n ≡ 0 = omega arith in
        let same : left - n ≡ left = omega arith in
        (used, ap Bytes same)
    by_zero false e over = absurd (over (ap (λ (t : Bool). cond t Done Going) e))

    by_rest : (t : Bool) → (left - n == 0) ≡ t → cond (left - n == 0) Done Going ≡ Going → n ≡ length piece
    by_rest true e going = absurd (let done = ap (λ (t : Bool). cond t Done Going) e in cc)
    by_rest false e going = let apart : left - n ≢ 0 = eqb-false (left - n) 0 e in omega arith

over_if : (s : ChunkState) → (progress_of (Chunks s) ≡ Going → ⊥) → is_over s ≡ true
over_if chunk.Start over = absurd (over refl)
over_if (chunk.Size size room) over = absurd (over refl)
over_if (chunk.Extension size room) over = absurd (over refl)
over_if (chunk.SizeEnd size) over = absurd (over refl)
over_if (chunk.Data left) over = absurd (over refl)
over_if chunk.DataEnd over = absurd (over refl)
over_if (chunk.TrailerStart room) over = absurd (over refl)
over_if (chunk.Trailer room) over = absurd (over refl)
over_if (chunk.TrailerEnd room) over = absurd (over refl)
over_if chunk.LastEnd over = absurd (over refl)
over_if chunk.Done over = refl
over_if chunk.Bad over = refl

open_if : (s : ChunkState) → progress_of (Chunks s) ≡ Going → is_over s ≡ false
open_if chunk.Start going = refl
open_if (chunk.Size size room) going = refl
open_if (chunk.Extension size room) going = refl
open_if (chunk.SizeEnd size) going = refl
open_if (chunk.Data left) going = refl
open_if chunk.DataEnd going = refl
open_if (chunk.TrailerStart room) going = refl
open_if (chunk.Trailer room) going = refl
open_if (chunk.TrailerEnd room) going = refl
open_if chunk.LastEnd going = refl
open_if chunk.Done going = absurd cc
open_if chunk.Bad going = absurd cc

by_bad : (s : ChunkState) (t : Bool) → is_bad s ≡ t → ((progress_of (Chunks s) ≡ Bad → ⊥) → is_bad s ≡ false) × (progress_of (Chunks s) ≡ Bad → is_bad s ≡ true)
by_bad s true is = ((λ good. absurd (good (ap (λ (t : Bool). cond t Bad (cond (is_over s) Done Going)) is))), (λ bad. is))
by_bad s false is = ((λ good. is), (λ bad. absurd (later (is_over s) (sym (ap (λ (t : Bool). cond t Bad (cond (is_over s) Done Going)) is) ∙ bad))))
  where
    later : (t : Bool) → cond t Done Going ≡ Bad → ⊥
    later true e = cc
    later false e = cc

pub chunks_lead : (s : ChunkState) (piece : List ℕ) → LeadsOn (Chunks s) piece (read_chunks s piece).used (Chunks (read_chunks s piece).state)
chunks_lead s piece =
    let r = read_chunks s piece in
    let t = reads piece s in
    record {
      within = t.within;
      ended = λ over. let e = t.ended (over_if s over) in (e.0, ap Chunks e.1);
      whole = λ going. t.whole (open_if r.state going);
      ends = λ good more. ((λ h. t.on more ((by_bad r.state (is_bad r.state) refl).0 good) h), (λ h. t.back more ((by_bad r.state (is_bad r.state) refl).0 good) h));
      bad = λ going bad. let b = t.bad (open_if s going) ((by_bad r.state (is_bad r.state) refl).1 bad) in
          (b.0, b.1, λ more h. b.2 more (subst (λ (k : ℕ). EndsChunks s (take k piece ++ more)) (add-one r.used) h));
      same = refl;
    }

pub all_lead : (piece : List ℕ) → LeadsOn All piece (length piece) All
all_lead piece = record {
  within = omega arith;
  ended = λ over. absurd (over refl);
  whole = λ going. refl;
  ends = λ good more. ((λ t. tt), (λ t. tt));
  bad = λ going bad. absurd cc;
  same = refl;
}
