-- Reading chunks: what is used, when no body can follow, and that a body can follow else.
use Rattle.std.proofs.Common.{◌≡◌, ℕ, zero, suc, ◌<◌, ◌≤◌, Bool, true, false, List, [], ◌∷◌, ◌++◌, length, take, replicate, IsTrue, refl, sym, ap, subst, inl, inr, arith, length-append, add-one}
use Rattle.std.specs.Prelude.{◌==◌}
use Rattle.std.proofs.lemmas.List.{length-replicate}
use Rattle.std.proofs.lemmas.List.Elements.{All-nil, All-cons}
use Rattle.httparse.specs.Ascii.{crlf_bytes, digit_zero}
use Rattle.hx_message.specs.Chunked.{IsChunk, is_extension_byte, is_trailer_byte, IsTrailer, print_chunked}
use Rattle.std.specs.Char.{is_ascii_hexdigit}
use Rattle.hx_frame.specs.declared.state.ChunkState.{ChunkState}
use Rattle.hx_frame.specs.declared.state.ChunkState.TheVariants.{Start, Size, Extension, SizeEnd, Data, DataEnd, TrailerStart, Trailer, TrailerEnd, LastEnd, Done, Bad}
use Rattle.hx_frame.specs.declared.state.ChunksRead.{ChunksRead}
use Rattle.hx_frame.specs.Chunks.{step, is_over, is_bad, chunks_read, read_on, read_chunks}
use Rattle.hx_frame.specs.Endings.{IsWhole, AreTrailers, FollowsLine, EndsChunks}
use Rattle.hx_frame.proofs.LineLemmas.{line_from_whole}
use Rattle.hx_frame.proofs.StepBack.{back}
use Rattle.hx_frame.proofs.StepOn.{on, trailers_least}

-- the shortest body
abbrev shortest : List ℕ
shortest = 48 ∷ 13 ∷ 10 ∷ 13 ∷ 10 ∷ []

shortest_whole : IsWhole shortest
unfolding print_chunked
shortest_whole = (
  record { chunks = []; zeros = 48 ∷ []; extension = []; trailers = [] },
  record {
    chunks = All-nil IsChunk;
    last = (omega arith, omega arith, tt, omega arith);
    zeros = All-cons (λ (d : ℕ). IsTrue (d == digit_zero)) 48 [] refl (All-nil (λ (d : ℕ). IsTrue (d == digit_zero)));
    trailers = All-nil IsTrailer;
    short = omega arith;
  },
  refl,
)

no_trailers : (room : ℕ) → AreTrailers room (13 ∷ 10 ∷ [])
no_trailers room = record { lines = []; trailers = All-nil IsTrailer; short = omega arith; text = refl }

abbrev CanEnd : ChunkState → Type 0
CanEnd s = (more : List ℕ) × EndsChunks s more

data_ends : (left : ℕ) → CanEnd (Data left)
data_ends left = (
  replicate left 0 ++ crlf_bytes ++ shortest,
  record { content = replicate left 0; rest = shortest; sized = length-replicate left 0; text = refl; whole = shortest_whole },
)

line_ends : (size : ℕ) → (more : List ℕ) × FollowsLine size more
line_ends zero = (13 ∷ 10 ∷ [], inl (refl, no_trailers 16382))
line_ends (suc n) = let d = data_ends (suc n) in (d.0, inr (omega arith, d.1))

-- some bytes end the body
can_end : (s : ChunkState) → is_bad s ≡ false → CanEnd s
can_end Start good = (shortest, shortest_whole)
can_end (Size size room) good =
    let l = line_ends size in (
      13 ∷ 10 ∷ l.0,
      record {
        digits = [];
        extension = [];
        hexadecimal = All-nil (λ x. IsTrue (is_ascii_hexdigit x));
        few = omega arith;
        is_extension = tt;
        short = omega arith;
        rest = l.0;
        text = refl;
        follows = l.1;
      },
    )
can_end (Extension size room) good =
    let l = line_ends size in (
      13 ∷ 10 ∷ l.0,
      record { extension = []; passes = All-nil (λ x. IsTrue (is_extension_byte x)); short = omega arith; rest = l.0; text = refl; follows = l.1 },
    )
can_end (SizeEnd size) good = let l = line_ends size in (10 ∷ l.0, (l.0, refl, l.1))
can_end (Data left) good = data_ends left
can_end DataEnd good = (10 ∷ shortest, (shortest, refl, shortest_whole))
can_end (TrailerStart room) good = (13 ∷ 10 ∷ [], no_trailers room)
can_end (Trailer room) good = (
  13 ∷ 10 ∷ 13 ∷ 10 ∷ [],
  record { line = []; passes = All-nil (λ x. IsTrue (is_trailer_byte x)); lines = []; trailers = All-nil IsTrailer; short = omega arith; text = refl },
)
can_end (TrailerEnd room) good = (10 ∷ 13 ∷ 10 ∷ [], (13 ∷ 10 ∷ [], refl, no_trailers room))
can_end LastEnd good = (10 ∷ [], refl)
can_end Done good = ([], refl)
can_end Bad good = absurd cc

-- where the body has not ended, its end has bytes
pub has_bytes : (s : ChunkState) (bytes : List ℕ) → is_over s ≡ false → EndsChunks s bytes → 0 < length bytes
has_bytes Start bytes on_it h =
    let l = line_from_whole bytes h in
    omega (arith, ap length l.text, length-append {A = ℕ}, l.line.0)
has_bytes (Size size room) bytes on_it h = omega (arith, ap length h.text, length-append {A = ℕ})
has_bytes (Extension size room) bytes on_it h = omega (arith, ap length h.text, length-append {A = ℕ})
has_bytes (SizeEnd size) bytes on_it h = omega (arith, ap length h.1)
has_bytes (Data left) bytes on_it h = omega (arith, ap length h.text, length-append {A = ℕ})
has_bytes DataEnd bytes on_it h = omega (arith, ap length h.1)
has_bytes (TrailerStart room) bytes on_it h = omega (arith, ap length h.text, trailers_least h.lines)
has_bytes (Trailer room) bytes on_it h = omega (arith, ap length h.text, length-append {A = ℕ})
has_bytes (TrailerEnd room) bytes on_it h = omega (arith, ap length h.1)
has_bytes LastEnd bytes on_it h = omega (arith, ap length h)
has_bytes Done bytes on_it h = absurd cc
has_bytes Bad bytes on_it h = absurd h

pub goes_on : (s : ChunkState) → is_over s ≡ false → (more : List ℕ) × (0 < length more) × EndsChunks s more
goes_on s on_it = let e = can_end s (not_bad s on_it) in (e.0, has_bytes s e.0 on_it e.1, e.1)
  where
    not_bad : (s : ChunkState) → is_over s ≡ false → is_bad s ≡ false
    not_bad Start on_it = refl
    not_bad (Size size room) on_it = refl
    not_bad (Extension size room) on_it = refl
    not_bad (SizeEnd size) on_it = refl
    not_bad (Data left) on_it = refl
    not_bad DataEnd on_it = refl
    not_bad (TrailerStart room) on_it = refl
    not_bad (Trailer room) on_it = refl
    not_bad (TrailerEnd room) on_it = refl
    not_bad LastEnd on_it = refl
    not_bad Done on_it = refl
    not_bad Bad on_it = cc

none_after_bad : (s : ChunkState) (bytes : List ℕ) → is_bad s ≡ true → EndsChunks s bytes → ⊥
none_after_bad Start bytes is h = cc
none_after_bad (Size size room) bytes is h = cc
none_after_bad (Extension size room) bytes is h = cc
none_after_bad (SizeEnd size) bytes is h = cc
none_after_bad (Data left) bytes is h = cc
none_after_bad DataEnd bytes is h = cc
none_after_bad (TrailerStart room) bytes is h = cc
none_after_bad (Trailer room) bytes is h = cc
none_after_bad (TrailerEnd room) bytes is h = cc
none_after_bad LastEnd bytes is h = cc
none_after_bad Done bytes is h = cc
none_after_bad Bad bytes is h = h

-- what reading finds of the bytes
pub record Reads (s : ChunkState) (bytes : List ℕ) (r : ChunksRead) : Type 0 where
  pub within : r.used ≤ length bytes
  pub ended : is_over s ≡ true → (r.used ≡ 0) × (r.state ≡ s)
  pub whole : is_over r.state ≡ false → r.used ≡ length bytes
  pub on : (more : List ℕ) → is_bad r.state ≡ false → EndsChunks s (take r.used bytes ++ more) → EndsChunks r.state more
  pub back : (more : List ℕ) → is_bad r.state ≡ false → EndsChunks r.state more → EndsChunks s (take r.used bytes ++ more)
  pub bad : is_over s ≡ false → is_bad r.state ≡ true
      → (r.used < length bytes) × ((more : List ℕ) × (0 < length more) × EndsChunks s (take r.used bytes ++ more))
      × ((more : List ℕ) → EndsChunks s (take (suc r.used) bytes ++ more) → ⊥)

reads_none : (s : ChunkState) (bytes : List ℕ) → (is_over s ≡ false → bytes ≡ []) → Reads s bytes (chunks_read 0 s)
reads_none s bytes none = record {
  within = omega arith;
  ended = λ over. (refl, refl);
  whole = λ on_it. sym (ap length (none on_it));
  on = λ more good h. h;
  back = λ more good h. h;
  bad = λ on_it is. absurd (not_both s on_it is);
}
  where
    not_both : (s : ChunkState) → is_over s ≡ false → is_bad s ≡ true → ⊥
    not_both Start on_it is = cc
    not_both (Size size room) on_it is = cc
    not_both (Extension size room) on_it is = cc
    not_both (SizeEnd size) on_it is = cc
    not_both (Data left) on_it is = cc
    not_both DataEnd on_it is = cc
    not_both (TrailerStart room) on_it is = cc
    not_both (Trailer room) on_it is = cc
    not_both (TrailerEnd room) on_it is = cc
    not_both LastEnd on_it is = cc
    not_both Done on_it is = cc
    not_both Bad on_it is = cc

reads_bad : (s : ChunkState) (b : ℕ) (bs : List ℕ) → is_over s ≡ false → is_bad (step s b) ≡ true → Reads s (b ∷ bs) (chunks_read 0 Bad)
reads_bad s b bs on_it is = record {
  within = omega arith;
  ended = λ over. absurd cc;
  whole = λ going. absurd cc;
  on = λ more good h. absurd cc;
  back = λ more good h. absurd cc;
  bad = λ going bad. (omega arith, goes_on s on_it, λ more h. none_after_bad (step s b) more is (on b more s h));
}

reads_more : (s : ChunkState) (b : ℕ) (bs : List ℕ) (r : ChunksRead) → is_over s ≡ false → is_bad (step s b) ≡ false
    → Reads (step s b) bs r → Reads s (b ∷ bs) (chunks_read (suc r.used) r.state)
reads_more s b bs r on_it good t = record {
  within = omega (arith, t.within);
  ended = λ over. absurd cc;
  whole = λ going. ap suc (t.whole going);
  on = λ more is h. t.on more is (on b (take r.used bs ++ more) s h);
  back = λ more is h. back b (take r.used bs ++ more) s (t.back more is h);
  bad = λ going is. by_over (is_over (step s b)) refl is;
}
  where
    by_over : (over : Bool) → is_over (step s b) ≡ over → is_bad r.state ≡ true
        → (suc r.used < length (b ∷ bs)) × ((more : List ℕ) × (0 < length more) × EndsChunks s (take (suc r.used) (b ∷ bs) ++ more))
        × ((more : List ℕ) → EndsChunks s (take (suc (suc r.used)) (b ∷ bs) ++ more) → ⊥)
    by_over true over is = let e = t.ended over in absurd (let same = ap is_bad e.1 in cc)
    by_over false over is =
        let f = t.bad over is in (
          omega (arith, f.0),
          (f.1.0, f.1.1, back b (take r.used bs ++ f.1.0) s f.1.2),
          λ more h. f.2 more (on b (take (suc r.used) bs ++ more) s h),
        )

pub reads : (bytes : List ℕ) (s : ChunkState) → Reads s bytes (read_chunks s bytes)
unfolding read_chunks
reads [] s = reads_none s [] (λ on_it. refl)
reads (b ∷ bs) s = by_tests (reads bs (step s b)) (is_over s) (is_bad (step s b)) refl refl
  where
    by_tests : Reads (step s b) bs (read_chunks (step s b) bs) → (over bad : Bool) → is_over s ≡ over → is_bad (step s b) ≡ bad → Reads s (b ∷ bs) (read_on over bad s (read_chunks (step s b) bs))
    by_tests later true bad over is = reads_none s (b ∷ bs) (λ on_it. absurd cc)
    by_tests later false true over is = reads_bad s b bs over is
    by_tests later false false over is =
        subst (λ (n : ℕ). Reads s (b ∷ bs) (chunks_read n (read_chunks (step s b) bs).state)) (sym (add-one (read_chunks (step s b) bs).used))
        (reads_more s b bs (read_chunks (step s b) bs) over is later)
