-- The lines of marks and the rules of servers are read back.
use Rattle.std.proofs.Common.{◌≡◌, ℕ, ◌≤◌, Bool, true, false, List, [], ◌∷◌, ◌++◌, None, Ok, refl, sym, subst, ◌∙◌, append_assoc, arith}
use Rattle.std.specs.Prelude.{codes, decimal, ⊤}
use Rattle.std.proofs.lemmas.List.{append-nil}
use Rattle.hx_base.specs.declared.numbers.ThreadNo.{ThreadNo}
use Rattle.hx_base.specs.declared.numbers.SessionNo.{SessionNo}
use Rattle.hx_base.specs.declared.numbers.ConnId.{ConnId}
use Rattle.hx_base.specs.declared.numbers.PlaceNo.{PlaceNo}
use Rattle.hx_pool.specs.declared.entries.Entry.{Entry}
use Rattle.hx_pool.specs.declared.entries.Entry.TheVariants as entry
use Rattle.hx_script.specs.MarkLines.{who, who_conn, place_text, first_text, gate_text, round_line, mark_line}
use Rattle.hx_script.specs.PrintedForm.{IsToldMark}
use Rattle.hx_transcripts_parts.specs.declared.keywords.MarkWord.{MarkWord}
use Rattle.hx_transcripts_parts.specs.declared.keywords.MarkWord.TheVariants as mark
use Rattle.hx_transcripts_parts.specs.Faults.{◌>>=◌}
use Rattle.hx_transcripts_parts.specs.Keywords.{gate_words}
use Rattle.hx_transcripts_parts.specs.Lexical.{Rest, read_word, at_end}
use Rattle.hx_transcripts_parts.specs.Marks.{one_of, who_conn_at, rest_at, open_at, park_at, first_in, take_at, close_at, gate_at, round_at, mark_at}
use Rattle.hx_transcripts_parts.specs.MarkLaws.{FitsMark, IsMarkLine, IsMarkRead}
use Rattle.hx_transcripts_parts.specs.Numbers.{number_in, most_8, most_16, most_64}
use Rattle.hx_transcripts_parts.specs.Pieces.{who_in, place_in}
use Rattle.hx_transcripts_parts.specs.ReadBack.{ReadsNext, FitsWho, FitsPlace}
use Rattle.hx_transcripts_parts.proofs.WordLemmas.{bind_is, word_reads}
use Rattle.hx_transcripts_parts.proofs.NumberLemmas.{number_reads}
use Rattle.hx_transcripts_parts.proofs.PieceLemmas.{who_reads, place_reads}
use Rattle.hx_transcripts_parts.proofs.TableLemmas.{either, gates_read, first_reads}
use Rattle.hx_transcripts_parts.proofs.LineLemmas.{next_sound, last_sound, two_read}

abbrev Id : Type 0
Id = ThreadNo × SessionNo × ConnId

abbrev id_text : Id → List ℕ
id_text x = who_conn x.0 x.1 x.2

abbrev FitsId : Id → Type 0
FitsId x = FitsWho (x.0, x.1) × (x.2.0 ≤ most_64)

-- a number that is read as the next word
pub next_number : (most : ℕ) → most ≤ most_64 → ReadsNext (read_word (number_in most)) decimal (λ n. n ≤ most)
next_number most le = word_reads (number_in most) decimal (λ n. n ≤ most) (number_reads most (omega (arith, le)))

next_id : ReadsNext who_conn_at id_text FitsId
next_id = two_read (read_word who_in) (λ x. who x.0 x.1) FitsWho (read_word (number_in most_64)) decimal (λ n. n ≤ most_64)
    (λ (x : ThreadNo × SessionNo) (n : ℕ). (x.0, x.1, record { 0 = n })) (λ (z : Id). (z.0, z.1)) (λ (z : Id). z.2.0) (λ z. refl) (λ x y. refl) (λ x y. refl)
    (word_reads who_in (λ x. who x.0 x.1) FitsWho who_reads) (next_number most_64 (omega arith))

abbrev rest_words : PlaceNo × ℕ → List ℕ
rest_words x = place_text x.0 ++ codes " " ++ decimal x.1

abbrev FitsRest : PlaceNo × ℕ → Type 0
FitsRest x = FitsPlace x.0 × (x.1 ≤ most_16)

-- a take of the caretaker is a later one
abbrev IsTakeOf : SessionNo → Bool → Type 0
IsTakeOf n first = n.0 ≡ 0 → first ≡ false

next_first : (n : SessionNo) → ReadsNext (read_word (first_in n)) (either (codes "first") (codes "later")) (IsTakeOf n)
next_first n = word_reads (first_in n) (either (codes "first") (codes "later")) (IsTakeOf n) (first_reads n)

next_rest : ReadsNext rest_at rest_words FitsRest
next_rest = two_read (read_word place_in) place_text FitsPlace (read_word (number_in most_16)) decimal (λ n. n ≤ most_16)
    (λ (x : PlaceNo) (n : ℕ). (x, n)) (λ (z : PlaceNo × ℕ). z.0) (λ (z : PlaceNo × ℕ). z.1) (λ z. refl) (λ x y. refl) (λ x y. refl)
    (word_reads place_in place_text FitsPlace place_reads) (next_number most_16 (omega arith))

-- ---- what is read is the line

one_line : (word a : List ℕ) → word ++ codes " " ++ a ++ codes "\n" ≡ word ++ (32 ∷ (a ++ [])) ++ codes "\n"
one_line word a = rw (append-nil a) (simp append_assoc)

open_sound : (ws : Rest) (m : Entry) → open_at ws ≡ Ok m → IsMarkLine mark.Open ws m
unfolding mark_line
open_sound ws m is =
    let c = next_sound who_conn_at id_text FitsId next_id ws _ m is in
    let e = last_sound c.rest (entry.Open c.x.0 c.x.1 c.x.2) m c.more in
    subst (IsMarkLine mark.Open ws) e.1 (record {
      told = tt;
      fits = c.fits;
      line = rw (c.stands, e.0) (one_line (codes "open") (id_text c.x));
    })

close_sound : (ws : Rest) (m : Entry) → close_at ws ≡ Ok m → IsMarkLine mark.Close ws m
unfolding mark_line
close_sound ws m is =
    let c = next_sound who_conn_at id_text FitsId next_id ws _ m is in
    let e = last_sound c.rest (entry.Close c.x.0 c.x.1 c.x.2) m c.more in
    subst (IsMarkLine mark.Close ws) e.1 (record {
      told = tt;
      fits = c.fits;
      line = rw (c.stands, e.0) (one_line (codes "close") (id_text c.x));
    })

two_words : (w a b : List ℕ) → w ++ codes " " ++ a ++ (codes " " ++ b) ++ codes "\n" ≡ w ++ (codes " " ++ (a ++ (codes " " ++ (b ++ [])))) ++ codes "\n"
two_words w a b = rw (append-nil b) (simp append_assoc)

three_words : (w a b c : List ℕ) → w ++ codes " " ++ a ++ (codes " " ++ b) ++ (codes " " ++ c) ++ codes "\n"
    ≡ w ++ (codes " " ++ (a ++ (codes " " ++ (b ++ (codes " " ++ (c ++ [])))))) ++ codes "\n"
three_words w a b c = rw (append-nil c) (simp append_assoc)

park_line : (a place uses : List ℕ)
    → codes "park " ++ a ++ (codes " " ++ place ++ codes " " ++ uses) ++ codes "\n"
    ≡ codes "park" ++ (32 ∷ (a ++ (32 ∷ (place ++ codes " " ++ uses ++ [])))) ++ codes "\n"
park_line a place uses = two_words (codes "park") a (place ++ codes " " ++ uses)

park_sound : (ws : Rest) (m : Entry) → park_at ws ≡ Ok m → IsMarkLine mark.Park ws m
unfolding mark_line
park_sound ws m is =
    let c = next_sound who_conn_at id_text FitsId next_id ws _ m is in
    let r = next_sound rest_at rest_words FitsRest next_rest c.rest _ m c.more in
    let e = last_sound r.rest (entry.Park c.x.0 c.x.1 c.x.2 r.x.0 r.x.1) m r.more in
    subst (IsMarkLine mark.Park ws) e.1 (record {
      told = tt;
      fits = (c.fits.0, c.fits.1, r.fits.0, r.fits.1);
      line = rw (c.stands, r.stands, e.0) (park_line (id_text c.x) (place_text r.x.0) (decimal r.x.1));
    })

first_words : (first : Bool) → first_text first ≡ 32 ∷ (either (codes "first") (codes "later") first ++ codes "\n")
first_words true = refl
first_words false = refl

take_line : (a place uses first : List ℕ)
    → codes "take " ++ a ++ (codes " " ++ place ++ codes " " ++ uses) ++ (32 ∷ (first ++ codes "\n"))
    ≡ codes "take" ++ (32 ∷ (a ++ (32 ∷ (place ++ codes " " ++ uses ++ (32 ∷ (first ++ [])))))) ++ codes "\n"
take_line a place uses first =
    sym (append_assoc (codes "take " ++ a ++ (codes " " ++ place ++ codes " " ++ uses)) (codes " " ++ first) (codes "\n"))
    ∙ three_words (codes "take") a (place ++ codes " " ++ uses) first

take_sound : (ws : Rest) (m : Entry) → take_at ws ≡ Ok m → IsMarkLine mark.Take ws m
unfolding mark_line
take_sound ws m is =
    let c = next_sound who_conn_at id_text FitsId next_id ws _ m is in
    let r = next_sound rest_at rest_words FitsRest next_rest c.rest _ m c.more in
    let f = next_sound (read_word (first_in c.x.1)) (either (codes "first") (codes "later")) (IsTakeOf c.x.1) (next_first c.x.1) r.rest _ m r.more in
    let e = last_sound f.rest (entry.Take c.x.0 c.x.1 f.x r.x.0 c.x.2 r.x.1) m f.more in
    subst (IsMarkLine mark.Take ws) e.1 (record {
      told = f.fits;
      fits = (c.fits.0, c.fits.1, r.fits.0, r.fits.1);
      line = rw (c.stands, r.stands, f.stands, e.0, first_words f.x)
          (take_line (id_text c.x) (place_text r.x.0) (decimal r.x.1) (either (codes "first") (codes "later") f.x));
    })

gate_words_are : (draining : Bool) → gate_text draining ≡ 32 ∷ (either (codes "drain") (codes "ready") draining ++ codes "\n")
gate_words_are true = refl
gate_words_are false = refl

gate_line : (t gate : List ℕ) → codes "gate " ++ t ++ (32 ∷ (gate ++ codes "\n")) ≡ codes "gate" ++ (32 ∷ (t ++ (32 ∷ (gate ++ [])))) ++ codes "\n"
gate_line t gate = sym (append_assoc (codes "gate " ++ t) (codes " " ++ gate) (codes "\n")) ∙ two_words (codes "gate") t gate

next_gate : ReadsNext (read_word (one_of gate_words)) (either (codes "drain") (codes "ready")) (λ x. ⊤)
next_gate = word_reads (one_of gate_words) (either (codes "drain") (codes "ready")) (λ x. ⊤) gates_read

gate_sound : (ws : Rest) (m : Entry) → gate_at ws ≡ Ok m → IsMarkLine mark.Gate ws m
unfolding mark_line
gate_sound ws m is =
    let t = next_sound (read_word (number_in most_8)) decimal (λ n. n ≤ most_8) (next_number most_8 (omega arith)) ws _ m is in
    let g = next_sound (read_word (one_of gate_words)) (either (codes "drain") (codes "ready")) (λ x. ⊤) next_gate t.rest _ m t.more in
    let e = last_sound g.rest (entry.SetGate (record { 0 = t.x }) g.x) m g.more in
    subst (IsMarkLine mark.Gate ws) e.1 (record {
      told = tt;
      fits = t.fits;
      line = rw (t.stands, g.stands, e.0, gate_words_are g.x) (gate_line (decimal t.x) (either (codes "drain") (codes "ready") g.x));
    })

regroup3 : (w t k old : List ℕ) → w ++ codes " " ++ t ++ codes " " ++ k ++ codes " " ++ old ++ codes "\n"
    ≡ w ++ codes " " ++ t ++ (codes " " ++ k) ++ (codes " " ++ old) ++ codes "\n"
regroup3 w t k old = simp append_assoc

round_text : (t k old : List ℕ) → codes "round " ++ t ++ codes " " ++ k ++ codes " " ++ old ++ codes "\n"
    ≡ codes "round" ++ (32 ∷ (t ++ (32 ∷ (k ++ (32 ∷ (old ++ [])))))) ++ codes "\n"
round_text t k old = regroup3 (codes "round") t k old ∙ three_words (codes "round") t k old

round_sound : (ws : Rest) (m : Entry) → round_at ws ≡ Ok m → IsMarkLine mark.Round ws m
unfolding mark_line round_line
round_sound ws m is =
    let t = next_sound (read_word (number_in most_8)) decimal (λ n. n ≤ most_8) (next_number most_8 (omega arith)) ws _ m is in
    let k = next_sound (read_word (number_in most_64)) decimal (λ n. n ≤ most_64) (next_number most_64 (omega arith)) t.rest _ m t.more in
    let o = next_sound (read_word (number_in most_64)) decimal (λ n. n ≤ most_64) (next_number most_64 (omega arith)) k.rest _ m k.more in
    let e = last_sound o.rest (entry.Round (record { 0 = t.x }) k.x o.x) m o.more in
    subst (IsMarkLine mark.Round ws) e.1 (record {
      told = tt;
      fits = (t.fits, k.fits, o.fits);
      line = rw (t.stands, k.stands, o.stands, e.0) (round_text (decimal t.x) (decimal k.x) (decimal o.x));
    })

pub mark_sound : (first : MarkWord) (ws : Rest) (m : Entry) → mark_at first ws ≡ Ok m → IsMarkLine first ws m
unfolding mark_at
mark_sound mark.Open ws m is = open_sound ws m is
mark_sound mark.Park ws m is = park_sound ws m is
mark_sound mark.Take ws m is = take_sound ws m is
mark_sound mark.Close ws m is = close_sound ws m is
mark_sound mark.Gate ws m is = gate_sound ws m is
mark_sound mark.Round ws m is = round_sound ws m is

-- ---- each line is read

open_whole : (t : ThreadNo) (n : SessionNo) (id : ConnId) → FitsMark (entry.Open t n id) → IsMarkRead (entry.Open t n id)
unfolding mark_line mark_at
open_whole t n id fits =
    let c = next_id.whole (t, n, id) None fits in
    record {
      first = mark.Open;
      ws = c.0;
      line = rw c.1 (one_line (codes "open") (who_conn t n id));
      read = bind_is (λ (x : Id × Rest). at_end x.1 >>= λ e. Ok (entry.Open x.0.0 x.0.1 x.0.2)) c.2;
    }

close_whole : (t : ThreadNo) (n : SessionNo) (id : ConnId) → FitsMark (entry.Close t n id) → IsMarkRead (entry.Close t n id)
unfolding mark_line mark_at
close_whole t n id fits =
    let c = next_id.whole (t, n, id) None fits in
    record {
      first = mark.Close;
      ws = c.0;
      line = rw c.1 (one_line (codes "close") (who_conn t n id));
      read = bind_is (λ (x : Id × Rest). at_end x.1 >>= λ e. Ok (entry.Close x.0.0 x.0.1 x.0.2)) c.2;
    }

park_whole : (t : ThreadNo) (n : SessionNo) (id : ConnId) (place : PlaceNo) (uses : ℕ) → FitsMark (entry.Park t n id place uses)
    → IsMarkRead (entry.Park t n id place uses)
unfolding mark_line mark_at
park_whole t n id place uses fits =
    let r = next_rest.whole (place, uses) None (fits.2, fits.3) in
    let c = next_id.whole (t, n, id) r.0 (fits.0, fits.1) in
    record {
      first = mark.Park;
      ws = c.0;
      line = rw (c.1, r.1) (park_line (who_conn t n id) (place_text place) (decimal uses));
      read = bind_is (λ (x : Id × Rest). rest_at x.1 >>= λ y. at_end y.1 >>= λ e. Ok (entry.Park x.0.0 x.0.1 x.0.2 y.0.0 y.0.1)) c.2
          ∙ bind_is (λ (y : (PlaceNo × ℕ) × Rest). at_end y.1 >>= λ e. Ok (entry.Park t n id y.0.0 y.0.1)) r.2;
    }

take_whole : (t : ThreadNo) (n : SessionNo) (first : Bool) (place : PlaceNo) (id : ConnId) (uses : ℕ) → IsTakeOf n first
    → FitsMark (entry.Take t n first place id uses) → IsMarkRead (entry.Take t n first place id uses)
unfolding mark_line mark_at
take_whole t n first place id uses told fits =
    let f = (next_first n).whole first None told in
    let r = next_rest.whole (place, uses) f.0 (fits.2, fits.3) in
    let c = next_id.whole (t, n, id) r.0 (fits.0, fits.1) in
    record {
      first = mark.Take;
      ws = c.0;
      line = rw (c.1, r.1, f.1, first_words first) (take_line (who_conn t n id) (place_text place) (decimal uses) (either (codes "first") (codes "later") first));
      read = bind_is (λ (x : Id × Rest). rest_at x.1 >>= λ y. read_word (first_in x.0.1) y.1 >>= λ z. at_end z.1 >>= λ e. Ok (entry.Take x.0.0 x.0.1 z.0 y.0.0 x.0.2 y.0.1)) c.2
          ∙ bind_is (λ (y : (PlaceNo × ℕ) × Rest). read_word (first_in n) y.1 >>= λ z. at_end z.1 >>= λ e. Ok (entry.Take t n z.0 y.0.0 id y.0.1)) r.2
          ∙ bind_is (λ (z : Bool × Rest). at_end z.1 >>= λ e. Ok (entry.Take t n z.0 place id uses)) f.2;
    }

gate_whole : (t : ThreadNo) (draining : Bool) → t.0 ≤ most_8 → IsMarkRead (entry.SetGate t draining)
unfolding mark_line mark_at
gate_whole t draining fits =
    let g = next_gate.whole draining None tt in
    let a = (next_number most_8 (omega arith)).whole t.0 g.0 fits in
    record {
      first = mark.Gate;
      ws = a.0;
      line = rw (a.1, g.1, gate_words_are draining) (gate_line (decimal t.0) (either (codes "drain") (codes "ready") draining));
      read = bind_is (λ (x : ℕ × Rest). read_word (one_of gate_words) x.1 >>= λ y. at_end y.1 >>= λ e. Ok (entry.SetGate (record { 0 = x.0 }) y.0)) a.2
          ∙ bind_is (λ (y : Bool × Rest). at_end y.1 >>= λ e. Ok (entry.SetGate t y.0)) g.2;
    }

round_whole : (t : ThreadNo) (k old : ℕ) → FitsMark (entry.Round t k old) → IsMarkRead (entry.Round t k old)
unfolding mark_line round_line mark_at
round_whole t k old fits =
    let c = (next_number most_64 (omega arith)).whole old None fits.2 in
    let b = (next_number most_64 (omega arith)).whole k c.0 fits.1 in
    let a = (next_number most_8 (omega arith)).whole t.0 b.0 fits.0 in
    record {
      first = mark.Round;
      ws = a.0;
      line = rw (a.1, b.1, c.1) (round_text (decimal t.0) (decimal k) (decimal old));
      read = bind_is (λ (x : ℕ × Rest). read_word (number_in most_64) x.1 >>= λ y. read_word (number_in most_64) y.1 >>= λ z. at_end z.1 >>= λ e. Ok (entry.Round (record { 0 = x.0 }) y.0 z.0)) a.2
          ∙ bind_is (λ (y : ℕ × Rest). read_word (number_in most_64) y.1 >>= λ z. at_end z.1 >>= λ e. Ok (entry.Round t y.0 z.0)) b.2
          ∙ bind_is (λ (z : ℕ × Rest). at_end z.1 >>= λ e. Ok (entry.Round t k z.0)) c.2;
    }

pub mark_whole : (m : Entry) → IsToldMark m → FitsMark m → IsMarkRead m
mark_whole (entry.Open t n id) told fits = open_whole t n id fits
mark_whole (entry.Park t n id place uses) told fits = park_whole t n id place uses fits
mark_whole (entry.Take t n first place id uses) told fits = take_whole t n first place id uses told fits
mark_whole (entry.Close t n id) told fits = close_whole t n id fits
mark_whole (entry.SetGate t draining) told fits = gate_whole t draining fits
mark_whole (entry.Round t k old) told fits = round_whole t k old fits
mark_whole (entry.Free t place) told fits = absurd told
mark_whole (entry.Look t place found) told fits = absurd told
mark_whole (entry.Up t old) told fits = absurd told
mark_whole (entry.Down t old) told fits = absurd told
mark_whole (entry.Count t c) told fits = absurd told
mark_whole (entry.Gate t draining) told fits = absurd told
