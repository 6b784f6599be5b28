-- One byte on: what ends a body with a byte in front ends it without that byte after it.
use Rattle.std.proofs.Common.{◌≡◌, ◌≢◌, ℕ, ◌+◌, ◌*◌, ◌-◌, ◌≤◌, ◌⊎◌, true, false, cond, ◌&&◌, List, [], ◌∷◌, ◌++◌, length, All, IsTrue, refl, sym, ap, subst, ◌∙◌, ⊎_elim, arith, eq-eqb, ne_eqb}
use Rattle.std.specs.Prelude.{nat_lt, nat_le, ◌==◌}
use Rattle.std.specs.Char.{is_ascii_hexdigit, digit_value}
use Rattle.std.specs.Str.Parse.{digits_value, digits_value_after}
use Rattle.std.proofs.lemmas.Bool.{and_from, lt-ltb, le-ltb, le-leb}
use Rattle.std.proofs.lemmas.Bool.Decides.{nat_tests}
use Rattle.std.proofs.lemmas.List.Elements.{All-head, All-tail}
use Rattle.httparse.specs.Ascii.{tab, space, semicolon, crlf_bytes}
use Rattle.httparse.specs.Grammar.{AllPass}
use Rattle.hx_message.specs.Chunked.{is_extension_byte, IsExtension, IsSizeLine, is_trailer_byte, IsTrailer, print_trailers}
use Rattle.hx_frame.specs.declared.state.ChunkState.{ChunkState}
use Rattle.hx_frame.specs.declared.state.ChunkState.TheVariants.{Start, Size, Extension, SizeEnd, Data, DataEnd, TrailerStart, Trailer, TrailerEnd, LastEnd, Done, Bad}
use Rattle.hx_frame.specs.Chunks.{expect, first_digit, is_extension_front, after_digits, in_size, in_extension, after_line, in_data, at_trailer, in_trailer, step}
use Rattle.hx_frame.specs.Endings.{IsWhole, AreTrailers, FollowsLine, EndsChunks}
use Rattle.hx_frame.proofs.LineLemmas.{choose_true, choose_false, line_from_whole, length-trailers, trailers_cons}

no_cr_in_extension : (b : ℕ) → is_extension_byte b ≡ true → b ≢ 13
no_cr_in_extension b passes = grind (arith, nat_tests)

no_cr_in_trailer : (b : ℕ) → is_trailer_byte b ≡ true → b ≢ 13
no_cr_in_trailer b passes = grind (arith, nat_tests)

no_digit_at_end : (b : ℕ) → b ≡ 13 → is_ascii_hexdigit b ≡ false
no_digit_at_end b is = rw is refl

front_passes : (b : ℕ) → (b ≡ semicolon) ⊎ (b ≡ space) ⊎ (b ≡ tab) → (is_ascii_hexdigit b ≡ false) × (b ≢ 13) × (is_extension_front b ≡ true)
front_passes b is =
    ⊎_elim (λ e. rw e (refl, (λ h. absurd (omega (arith, h))), refl))
    (⊎_elim (λ e. rw e (refl, (λ h. absurd (omega (arith, h))), refl)) (λ e. rw e (refl, (λ h. absurd (omega (arith, h))), refl))) is

pub trailers_least : (lines : List (List ℕ)) → 2 ≤ length (print_trailers lines)
trailers_least [] = omega arith
trailers_least (line ∷ lines) = omega (arith, length-trailers line lines)

module _ (b : ℕ) (bs : List ℕ) where
  abbrev Next : ChunkState → Type 0
  Next s = EndsChunks s bs

  expect_it : (wanted : ℕ) (next : ChunkState) → b ≡ wanted → Next next → Next (expect b wanted next)
  expect_it wanted next is h = choose_true Next (b == wanted) next Bad (eq-eqb b wanted is) h

  on_extension : (size room : ℕ) (extension rest : List ℕ) → AllPass is_extension_byte extension → length extension ≤ room
      → b ∷ bs ≡ extension ++ crlf_bytes ++ rest → FollowsLine size rest → Next (in_extension size room b)
  on_extension size room [] rest passes short text follows =
      let is : b ≡ 13 = cc in
      let later : bs ≡ 10 ∷ rest = cc in
      choose_true Next (b == 13) (SizeEnd size) (cond (is_extension_byte b && nat_lt 0 room) (Extension size (room - 1)) Bad) (eq-eqb b 13 is) (rest, later, follows)
  on_extension size room (x ∷ extension) rest passes short text follows =
      let is : b ≡ x = cc in
      let later : bs ≡ extension ++ crlf_bytes ++ rest = cc in
      let here : is_extension_byte b ≡ true = ap is_extension_byte is ∙ All-head (λ (y : ℕ). IsTrue (is_extension_byte y)) x extension passes in
      choose_false Next (b == 13) (SizeEnd size) (cond (is_extension_byte b && nat_lt 0 room) (Extension size (room - 1)) Bad) (ne_eqb b 13 (no_cr_in_extension b here))
      (choose_true Next (is_extension_byte b && nat_lt 0 room) (Extension size (room - 1)) Bad (and_from (is_extension_byte b) (nat_lt 0 room) here (lt-ltb 0 room (omega (arith, short))))
      (record {
        extension = extension;
        passes = All-tail (λ (y : ℕ). IsTrue (is_extension_byte y)) x extension passes;
        short = omega (arith, short);
        rest = rest;
        text = later;
        follows = follows;
      }))

  after_no_digits : (size room : ℕ) (extension rest : List ℕ) → IsExtension extension → length extension ≤ 4078 + room
      → b ∷ bs ≡ extension ++ crlf_bytes ++ rest → FollowsLine size rest → Next (in_size size room b)
  after_no_digits size room [] rest ok short text follows =
      let is : b ≡ 13 = cc in
      let later : bs ≡ 10 ∷ rest = cc in
      choose_false Next (is_ascii_hexdigit b) (cond (room == 0) Bad (Size (size * 16 + digit_value b) (room - 1))) (after_digits size room b) (no_digit_at_end b is)
      (choose_true Next (b == 13) (SizeEnd size) (cond (is_extension_front b) (Extension size (4077 + room)) Bad) (eq-eqb b 13 is) (rest, later, follows))
  after_no_digits size room (x ∷ extension) rest ok short text follows =
      let is : b ≡ x = cc in
      let later : bs ≡ extension ++ crlf_bytes ++ rest = cc in
      let front = front_passes b (subst (λ (y : ℕ). (y ≡ semicolon) ⊎ (y ≡ space) ⊎ (y ≡ tab)) (sym is) ok.0) in
      choose_false Next (is_ascii_hexdigit b) (cond (room == 0) Bad (Size (size * 16 + digit_value b) (room - 1))) (after_digits size room b) front.0
      (choose_false Next (b == 13) (SizeEnd size) (cond (is_extension_front b) (Extension size (4077 + room)) Bad) (ne_eqb b 13 front.1)
      (choose_true Next (is_extension_front b) (Extension size (4077 + room)) Bad front.2
      (record { extension = extension; passes = ok.1; short = omega (arith, short); rest = rest; text = later; follows = follows })))

  on_digits : (size room : ℕ) (digits extension rest : List ℕ) → AllPass is_ascii_hexdigit digits → length digits ≤ room → IsExtension extension
      → length digits + length extension ≤ 4078 + room → b ∷ bs ≡ digits ++ extension ++ crlf_bytes ++ rest
      → FollowsLine (digits_value_after 16 size digits) rest → Next (in_size size room b)
  on_digits size room [] extension rest hex few ok short text follows = after_no_digits size room extension rest ok (omega (arith, short)) text follows
  on_digits size room (x ∷ digits) extension rest hex few ok short text follows =
      let is : b ≡ x = cc in
      let later : bs ≡ digits ++ extension ++ crlf_bytes ++ rest = cc in
      let here : is_ascii_hexdigit b ≡ true = ap is_ascii_hexdigit is ∙ All-head (λ (y : ℕ). IsTrue (is_ascii_hexdigit y)) x digits hex in
      let some : room ≢ 0 = λ e. absurd (omega (arith, e, few)) in
      choose_true Next (is_ascii_hexdigit b) (cond (room == 0) Bad (Size (size * 16 + digit_value b) (room - 1))) (after_digits size room b) here
      (choose_false Next (room == 0) Bad (Size (size * 16 + digit_value b) (room - 1)) (ne_eqb room 0 some)
      (record {
        digits = digits;
        extension = extension;
        hexadecimal = All-tail (λ (y : ℕ). IsTrue (is_ascii_hexdigit y)) x digits hex;
        few = omega (arith, few);
        is_extension = ok;
        short = omega (arith, few, short);
        rest = rest;
        text = later;
        follows = subst (λ (y : ℕ). FollowsLine (digits_value_after 16 (size * 16 + digit_value y) digits) rest) (sym is) follows;
      }))

  on_start : (digits extension rest : List ℕ) → AllPass is_ascii_hexdigit digits → IsSizeLine digits extension
      → b ∷ bs ≡ digits ++ extension ++ crlf_bytes ++ rest → FollowsLine (digits_value 16 digits) rest → Next (first_digit b)
  on_start [] extension rest hex line text follows = absurd (omega (arith, line.0))
  on_start (x ∷ digits) extension rest hex line text follows =
      let is : b ≡ x = cc in
      let later : bs ≡ digits ++ extension ++ crlf_bytes ++ rest = cc in
      let here : is_ascii_hexdigit b ≡ true = ap is_ascii_hexdigit is ∙ All-head (λ (y : ℕ). IsTrue (is_ascii_hexdigit y)) x digits hex in
      let same : 0 * 16 + digit_value x ≡ digit_value b = omega (arith, ap digit_value is) in
      choose_true Next (is_ascii_hexdigit b) (Size (digit_value b) 15) Bad here
      (record {
        digits = digits;
        extension = extension;
        hexadecimal = All-tail (λ (y : ℕ). IsTrue (is_ascii_hexdigit y)) x digits hex;
        few = omega (arith, line.1);
        is_extension = line.2;
        short = omega (arith, line.3);
        rest = rest;
        text = later;
        follows = subst (λ (n : ℕ). FollowsLine (digits_value_after 16 n digits) rest) same follows;
      })

  whole_on : IsWhole (b ∷ bs) → Next (first_digit b)
  whole_on w = let h = line_from_whole (b ∷ bs) w in on_start h.digits h.extension h.rest h.hexadecimal h.line h.text h.follows

  line_on : (size : ℕ) → FollowsLine size bs → Next (after_line size)
  line_on size f =
      ⊎_elim (λ w. choose_true Next (size == 0) (TrailerStart 16382) (Data size) (eq-eqb size 0 w.0) w.1)
      (λ w. let apart : size ≢ 0 = λ e. absurd (omega (arith, e, w.0)) in
      choose_false Next (size == 0) (TrailerStart 16382) (Data size) (ne_eqb size 0 apart) w.1) f

  on_data : (left : ℕ) (content rest : List ℕ) → length content ≡ left → b ∷ bs ≡ content ++ crlf_bytes ++ rest → IsWhole rest → Next (in_data left b)
  on_data left [] rest sized text whole =
      let is : b ≡ 13 = cc in
      let later : bs ≡ 10 ∷ rest = cc in
      choose_false Next (nat_lt 0 left) (Data (left - 1)) (expect b 13 DataEnd) (le-ltb 0 left (omega (arith, sized))) (expect_it 13 DataEnd is (rest, later, whole))
  on_data left (x ∷ content) rest sized text whole =
      let later : bs ≡ content ++ crlf_bytes ++ rest = cc in
      choose_true Next (nat_lt 0 left) (Data (left - 1)) (expect b 13 DataEnd) (lt-ltb 0 left (omega (arith, sized)))
      (record { content = content; rest = rest; sized = omega (arith, sized); text = later; whole = whole })

  on_trailers : (room : ℕ) (lines : List (List ℕ)) → All IsTrailer lines → length (print_trailers lines) ≤ room + 2 → b ∷ bs ≡ print_trailers lines → Next (at_trailer room b)
  on_trailers room [] all short text =
      let is : b ≡ 13 = cc in
      let later : bs ≡ 10 ∷ [] = cc in
      choose_true Next (b == 13) LastEnd (cond (is_trailer_byte b && nat_le 3 room) (Trailer (room - 3)) Bad) (eq-eqb b 13 is) later
  on_trailers room (line ∷ lines) all short text =
      from_line line (All-head IsTrailer line lines all) (All-tail IsTrailer line lines all) (omega (arith, short, length-trailers line lines)) (text ∙ trailers_cons line lines)
    where
      from_line : (line : List ℕ) → IsTrailer line → All IsTrailer lines → length line + 2 + length (print_trailers lines) ≤ room + 2 → b ∷ bs ≡ line ++ crlf_bytes ++ print_trailers lines → Next (at_trailer room b)
      from_line [] ok others fits is = absurd (omega (arith, ok.0))
      from_line (x ∷ line) ok others fits is =
          let first : b ≡ x = cc in
          let later : bs ≡ line ++ crlf_bytes ++ print_trailers lines = cc in
          let here : is_trailer_byte b ≡ true = ap is_trailer_byte first ∙ All-head (λ (y : ℕ). IsTrue (is_trailer_byte y)) x line ok.1 in
          let least = trailers_least lines in
          choose_false Next (b == 13) LastEnd (cond (is_trailer_byte b && nat_le 3 room) (Trailer (room - 3)) Bad) (ne_eqb b 13 (no_cr_in_trailer b here))
          (choose_true Next (is_trailer_byte b && nat_le 3 room) (Trailer (room - 3)) Bad (and_from (is_trailer_byte b) (nat_le 3 room) here (le-leb 3 room (omega (arith, fits, least))))
          (record {
            line = line;
            passes = All-tail (λ (y : ℕ). IsTrue (is_trailer_byte y)) x line ok.1;
            lines = lines;
            trailers = others;
            short = omega (arith, fits, least);
            text = later;
          }))

  on_trailer : (room : ℕ) (line : List ℕ) (lines : List (List ℕ)) → AllPass is_trailer_byte line → All IsTrailer lines
      → length line + length (print_trailers lines) ≤ room + 2 → b ∷ bs ≡ line ++ crlf_bytes ++ print_trailers lines → Next (in_trailer room b)
  on_trailer room [] lines passes all short text =
      let is : b ≡ 13 = cc in
      let later : bs ≡ 10 ∷ print_trailers lines = cc in
      choose_true Next (b == 13) (TrailerEnd room) (cond (is_trailer_byte b && nat_lt 0 room) (Trailer (room - 1)) Bad) (eq-eqb b 13 is)
      (print_trailers lines, later, record { lines = lines; trailers = all; short = omega (arith, short); text = refl })
  on_trailer room (x ∷ line) lines passes all short text =
      let first : b ≡ x = cc in
      let later : bs ≡ line ++ crlf_bytes ++ print_trailers lines = cc in
      let here : is_trailer_byte b ≡ true = ap is_trailer_byte first ∙ All-head (λ (y : ℕ). IsTrue (is_trailer_byte y)) x line passes in
      let least = trailers_least lines in
      choose_false Next (b == 13) (TrailerEnd room) (cond (is_trailer_byte b && nat_lt 0 room) (Trailer (room - 1)) Bad) (ne_eqb b 13 (no_cr_in_trailer b here))
      (choose_true Next (is_trailer_byte b && nat_lt 0 room) (Trailer (room - 1)) Bad (and_from (is_trailer_byte b) (nat_lt 0 room) here (lt-ltb 0 room (omega (arith, short, least))))
      (record {
        line = line;
        passes = All-tail (λ (y : ℕ). IsTrue (is_trailer_byte y)) x line passes;
        lines = lines;
        trailers = all;
        short = omega (arith, short, least);
        text = later;
      }))

  after_lf : (P : List ℕ → Type 0) (next : ChunkState) → ((rest : List ℕ) → P rest → EndsChunks next rest) → (rest : List ℕ) × (b ∷ bs ≡ 10 ∷ rest) × P rest → Next (expect b 10 next)
  after_lf P next leads t =
      let same = t.1 in
      let is : b ≡ 10 = cc in
      let later : bs ≡ t.0 = cc in
      expect_it 10 next is (subst (EndsChunks next) (sym later) (leads t.0 t.2))

  pub on : (s : ChunkState) → EndsChunks s (b ∷ bs) → EndsChunks (step s b) bs
  on Start h = whole_on h
  on (Size size room) h = on_digits size room h.digits h.extension h.rest h.hexadecimal h.few h.is_extension h.short h.text h.follows
  on (Extension size room) h = on_extension size room h.extension h.rest h.passes h.short h.text h.follows
  on (SizeEnd size) h =
      let same = h.1 in
      let is : b ≡ 10 = cc in
      let later : bs ≡ h.0 = cc in
      expect_it 10 (after_line size) is (line_on size (subst (FollowsLine size) (sym later) h.2))
  on (Data left) h = on_data left h.content h.rest h.sized h.text h.whole
  on DataEnd h = after_lf IsWhole Start (λ rest w. w) h
  on (TrailerStart room) h = on_trailers room h.lines h.trailers h.short h.text
  on (Trailer room) h = on_trailer room h.line h.lines h.passes h.trailers h.short h.text
  on (TrailerEnd room) h = after_lf (AreTrailers room) (TrailerStart room) (λ rest w. w) h
  on LastEnd h =
      let is : b ≡ 10 = cc in
      let later : bs ≡ [] = cc in
      expect_it 10 Done is later
  on Done h = absurd cc
  on Bad h = absurd h
