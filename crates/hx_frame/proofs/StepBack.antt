-- One byte back: what ends a body after a byte ends it with that byte before.
use Rattle.std.proofs.Common.{◌≡◌, ◌≢◌, ℕ, ◌+◌, ◌*◌, ◌-◌, ◌<◌, ◌≤◌, ◌⊎◌, Bool, true, false, cond, ◌&&◌, ◌||◌, List, [], ◌∷◌, IsTrue, refl, sym, ap, subst, ◌∙◌, inl, inr, ⊎_elim, arith}
use Rattle.std.specs.Prelude.{nat_lt, nat_le, ◌==◌}
use Rattle.std.specs.Char.{is_ascii_hexdigit, digit_value}
use Rattle.std.specs.Str.Parse.{digits_value_after}
use Rattle.std.proofs.lemmas.Bool.{and_parts, eqb-true, eqb-false, ltb-true, ltb-false, leb-true}
use Rattle.std.proofs.lemmas.List.Elements.{All-nil, All-cons}
use Rattle.httparse.specs.Ascii.{tab, space, semicolon}
use Rattle.hx_message.specs.Chunked.{is_extension_byte, is_trailer_byte, IsTrailer}
use Rattle.hx_frame.specs.declared.state.ChunkState.{ChunkState}
use Rattle.hx_frame.specs.declared.state.ChunkState.TheVariants.{Start, Size, Extension, SizeEnd, Data, DataEnd, TrailerStart, Trailer, TrailerEnd, LastEnd, Done, Bad}
use Rattle.hx_frame.specs.Chunks.{expect, first_digit, is_extension_front, after_digits, in_size, in_extension, after_line, in_data, at_trailer, in_trailer, step}
use Rattle.hx_frame.specs.Endings.{IsWhole, AreTrailers, EndsTrailer, EndsData, FollowsLine, EndsExtension, EndsDigits, EndsChunks}
use Rattle.hx_frame.proofs.LineLemmas.{chosen, HasLine, whole_from_line, length-trailers, trailers_cons}

-- an extension's first byte
front_cases : (b : ℕ) → is_extension_front b ≡ true → (b ≡ semicolon) ⊎ (b ≡ space) ⊎ (b ≡ tab)
front_cases b is = by_tests (b == semicolon) (b == space) refl refl
  where
    by_tests : (s t : Bool) → (b == semicolon) ≡ s → (b == space) ≡ t → (b ≡ semicolon) ⊎ (b ≡ space) ⊎ (b ≡ tab)
    by_tests true t semi blank = inl (eqb-true b semicolon semi)
    by_tests false true semi blank = inr (inl (eqb-true b space blank))
    by_tests false false semi blank =
        inr (inr (eqb-true b tab (sym (ap (λ (x : Bool). x || (b == space) || (b == tab)) semi ∙ ap (λ (x : Bool). x || (b == tab)) blank) ∙ is)))

module _ (b : ℕ) (bs : List ℕ) where
  abbrev Next : ChunkState → Type 0
  Next s = EndsChunks s bs

  expected : (wanted : ℕ) (next : ChunkState) → Next (expect b wanted next) → (b ≡ wanted) × Next next
  expected wanted next h =
      ⊎_elim (λ w. (eqb-true b wanted w.0, w.1)) (λ w. absurd w.1) (chosen Next (b == wanted) next Bad h)

  line_end : (size room : ℕ) → b ≡ 13 → Next (SizeEnd size) → EndsExtension size room (b ∷ bs)
  line_end size room is t = record {
    extension = [];
    passes = All-nil (λ x. IsTrue (is_extension_byte x));
    short = omega arith;
    rest = t.0;
    text = λ i. is i ∷ t.1 i;
    follows = t.2;
  }

  more_extension : (size room : ℕ) → is_extension_byte b ≡ true → 0 < room → EndsExtension size (room - 1) bs → EndsExtension size room (b ∷ bs)
  more_extension size room passes some t = record {
    extension = b ∷ t.extension;
    passes = All-cons (λ (x : ℕ). IsTrue (is_extension_byte x)) b t.extension passes t.passes;
    short = omega (arith, t.short);
    rest = t.rest;
    text = ap (λ (xs : List ℕ). b ∷ xs) t.text;
    follows = t.follows;
  }

  back_extension : (size room : ℕ) → Next (in_extension size room b) → EndsExtension size room (b ∷ bs)
  back_extension size room h =
      ⊎_elim (λ w. line_end size room (eqb-true b 13 w.0) w.1)
      (λ w. ⊎_elim
      (λ v. let p = and_parts (is_extension_byte b) (nat_lt 0 room) v.0 in more_extension size room p.0 (ltb-true 0 room p.1) v.1)
      (λ v. absurd v.1)
      (chosen Next (is_extension_byte b && nat_lt 0 room) (Extension size (room - 1)) Bad w.1))
      (chosen Next (b == 13) (SizeEnd size) (cond (is_extension_byte b && nat_lt 0 room) (Extension size (room - 1)) Bad) h)

  no_extension : (size room : ℕ) → b ≡ 13 → Next (SizeEnd size) → EndsDigits size room (b ∷ bs)
  no_extension size room is t = record {
    digits = [];
    extension = [];
    hexadecimal = All-nil (λ x. IsTrue (is_ascii_hexdigit x));
    few = omega arith;
    is_extension = tt;
    short = omega arith;
    rest = t.0;
    text = λ i. is i ∷ t.1 i;
    follows = t.2;
  }

  an_extension : (size room : ℕ) → is_extension_front b ≡ true → EndsExtension size (4077 + room) bs → EndsDigits size room (b ∷ bs)
  an_extension size room front t = record {
    digits = [];
    extension = b ∷ t.extension;
    hexadecimal = All-nil (λ x. IsTrue (is_ascii_hexdigit x));
    few = omega arith;
    is_extension = (front_cases b front, t.passes);
    short = omega (arith, t.short);
    rest = t.rest;
    text = ap (λ (xs : List ℕ). b ∷ xs) t.text;
    follows = t.follows;
  }

  back_after_digits : (size room : ℕ) → Next (after_digits size room b) → EndsDigits size room (b ∷ bs)
  back_after_digits size room h =
      ⊎_elim (λ w. no_extension size room (eqb-true b 13 w.0) w.1)
      (λ w. ⊎_elim (λ v. an_extension size room v.0 v.1) (λ v. absurd v.1)
      (chosen Next (is_extension_front b) (Extension size (4077 + room)) Bad w.1))
      (chosen Next (b == 13) (SizeEnd size) (cond (is_extension_front b) (Extension size (4077 + room)) Bad) h)

  more_digits : (size room : ℕ) → is_ascii_hexdigit b ≡ true → 0 < room → EndsDigits (size * 16 + digit_value b) (room - 1) bs → EndsDigits size room (b ∷ bs)
  more_digits size room hex some t = record {
    digits = b ∷ t.digits;
    extension = t.extension;
    hexadecimal = All-cons (λ (x : ℕ). IsTrue (is_ascii_hexdigit x)) b t.digits hex t.hexadecimal;
    few = omega (arith, t.few);
    is_extension = t.is_extension;
    short = omega (arith, t.short);
    rest = t.rest;
    text = ap (λ (xs : List ℕ). b ∷ xs) t.text;
    follows = t.follows;
  }

  back_size : (size room : ℕ) → Next (in_size size room b) → EndsDigits size room (b ∷ bs)
  back_size size room h =
      ⊎_elim
      (λ w. ⊎_elim (λ v. absurd v.1)
      (λ v. let apart : room ≢ 0 = eqb-false room 0 v.0 in let some : 0 < room = omega arith in more_digits size room w.0 some v.1)
      (chosen Next (room == 0) Bad (Size (size * 16 + digit_value b) (room - 1)) w.1))
      (λ w. back_after_digits size room w.1)
      (chosen Next (is_ascii_hexdigit b) (cond (room == 0) Bad (Size (size * 16 + digit_value b) (room - 1))) (after_digits size room b) h)

  first_line : is_ascii_hexdigit b ≡ true → EndsDigits (digit_value b) 15 bs → HasLine (b ∷ bs)
  first_line hex t =
      let same : digit_value b ≡ 0 * 16 + digit_value b = omega arith in
      record {
        digits = b ∷ t.digits;
        extension = t.extension;
        line = (omega arith, omega (arith, t.few), t.is_extension, omega (arith, t.short));
        hexadecimal = All-cons (λ (x : ℕ). IsTrue (is_ascii_hexdigit x)) b t.digits hex t.hexadecimal;
        rest = t.rest;
        text = ap (λ (xs : List ℕ). b ∷ xs) t.text;
        follows = subst (λ (n : ℕ). FollowsLine (digits_value_after 16 n t.digits) t.rest) same t.follows;
      }

  back_start : Next (first_digit b) → IsWhole (b ∷ bs)
  back_start h =
      ⊎_elim (λ w. whole_from_line (b ∷ bs) (first_line w.0 w.1)) (λ w. absurd w.1)
      (chosen Next (is_ascii_hexdigit b) (Size (digit_value b) 15) Bad h)

  follows_from : (size : ℕ) → Next (after_line size) → FollowsLine size bs
  follows_from size h =
      ⊎_elim (λ w. inl (eqb-true size 0 w.0, w.1))
      (λ w. let apart : size ≢ 0 = eqb-false size 0 w.0 in let some : 0 < size = omega arith in inr (some, w.1))
      (chosen Next (size == 0) (TrailerStart 16382) (Data size) h)

  back_data : (left : ℕ) → Next (in_data left b) → EndsData left (b ∷ bs)
  back_data left h =
      ⊎_elim
      (λ w. let some : 0 < left = ltb-true 0 left w.0 in record {
        content = b ∷ w.1.content;
        rest = w.1.rest;
        sized = omega (arith, w.1.sized);
        text = ap (λ (xs : List ℕ). b ∷ xs) w.1.text;
        whole = w.1.whole;
      })
      (λ w. let t = expected 13 DataEnd w.1 in let none : left ≤ 0 = ltb-false 0 left w.0 in record {
        content = [];
        rest = t.1.0;
        sized = omega arith;
        text = λ i. t.0 i ∷ t.1.1 i;
        whole = t.1.2;
      })
      (chosen Next (nat_lt 0 left) (Data (left - 1)) (expect b 13 DataEnd) h)

  last_line : (room : ℕ) → b ≡ 13 → Next LastEnd → AreTrailers room (b ∷ bs)
  last_line room is t = record { lines = []; trailers = All-nil IsTrailer; short = omega arith; text = λ i. is i ∷ t i }

  a_trailer : (room : ℕ) → is_trailer_byte b ≡ true → 3 ≤ room → EndsTrailer (room - 3) bs → AreTrailers room (b ∷ bs)
  a_trailer room passes some t =
      let long = length-trailers (b ∷ t.line) t.lines in
      record {
        lines = (b ∷ t.line) ∷ t.lines;
        trailers = All-cons IsTrailer (b ∷ t.line) t.lines (omega arith, All-cons (λ (x : ℕ). IsTrue (is_trailer_byte x)) b t.line passes t.passes) t.trailers;
        short = omega (arith, t.short, long);
        text = ap (λ (xs : List ℕ). b ∷ xs) t.text ∙ sym (trailers_cons (b ∷ t.line) t.lines);
      }

  back_trailers : (room : ℕ) → Next (at_trailer room b) → AreTrailers room (b ∷ bs)
  back_trailers room h =
      ⊎_elim (λ w. last_line room (eqb-true b 13 w.0) w.1)
      (λ w. ⊎_elim
      (λ v. let p = and_parts (is_trailer_byte b) (nat_le 3 room) v.0 in a_trailer room p.0 (leb-true 3 room p.1) v.1)
      (λ v. absurd v.1)
      (chosen Next (is_trailer_byte b && nat_le 3 room) (Trailer (room - 3)) Bad w.1))
      (chosen Next (b == 13) LastEnd (cond (is_trailer_byte b && nat_le 3 room) (Trailer (room - 3)) Bad) h)

  trailer_end : (room : ℕ) → b ≡ 13 → Next (TrailerEnd room) → EndsTrailer room (b ∷ bs)
  trailer_end room is t = record {
    line = [];
    passes = All-nil (λ x. IsTrue (is_trailer_byte x));
    lines = t.2.lines;
    trailers = t.2.trailers;
    short = omega (arith, t.2.short);
    text = λ i. is i ∷ (t.1 ∙ ap (λ (xs : List ℕ). 10 ∷ xs) t.2.text) i;
  }

  more_trailer : (room : ℕ) → is_trailer_byte b ≡ true → 0 < room → EndsTrailer (room - 1) bs → EndsTrailer room (b ∷ bs)
  more_trailer room passes some t = record {
    line = b ∷ t.line;
    passes = All-cons (λ (x : ℕ). IsTrue (is_trailer_byte x)) b t.line passes t.passes;
    lines = t.lines;
    trailers = t.trailers;
    short = omega (arith, t.short);
    text = ap (λ (xs : List ℕ). b ∷ xs) t.text;
  }

  back_trailer : (room : ℕ) → Next (in_trailer room b) → EndsTrailer room (b ∷ bs)
  back_trailer room h =
      ⊎_elim (λ w. trailer_end room (eqb-true b 13 w.0) w.1)
      (λ w. ⊎_elim
      (λ v. let p = and_parts (is_trailer_byte b) (nat_lt 0 room) v.0 in more_trailer room p.0 (ltb-true 0 room p.1) v.1)
      (λ v. absurd v.1)
      (chosen Next (is_trailer_byte b && nat_lt 0 room) (Trailer (room - 1)) Bad w.1))
      (chosen Next (b == 13) (TrailerEnd room) (cond (is_trailer_byte b && nat_lt 0 room) (Trailer (room - 1)) Bad) h)

  pub back : (s : ChunkState) → EndsChunks (step s b) bs → EndsChunks s (b ∷ bs)
  back Start h = back_start h
  back (Size size room) h = back_size size room h
  back (Extension size room) h = back_extension size room h
  back (SizeEnd size) h = let t = expected 10 (after_line size) h in (bs, ap (λ (x : ℕ). x ∷ bs) t.0, follows_from size t.1)
  back (Data left) h = back_data left h
  back DataEnd h = let t = expected 10 Start h in (bs, ap (λ (x : ℕ). x ∷ bs) t.0, t.1)
  back (TrailerStart room) h = back_trailers room h
  back (Trailer room) h = back_trailer room h
  back (TrailerEnd room) h = let t = expected 10 (TrailerStart room) h in (bs, ap (λ (x : ℕ). x ∷ bs) t.0, t.1)
  back LastEnd h = let t = expected 10 Done h in λ i. t.0 i ∷ t.1 i
  back Done h = absurd h
  back Bad h = absurd h
