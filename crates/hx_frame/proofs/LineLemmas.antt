-- A size line at the front of a body, and trailer lines.
use Rattle.std.proofs.Common.{◌≡◌, ℕ, ◌+◌, ◌*◌, ◌<◌, ◌≤◌, ◌⊎◌, Bool, true, false, cond, List, [], ◌∷◌, ◌++◌, length, All, IsTrue, refl, sym, ap, subst, ◌∙◌, inl, inr, ⊎_elim, arith, append_assoc, length-append}
use Rattle.std.specs.Prelude.{◌==◌}
use Rattle.std.specs.List.{flat_map}
use Rattle.std.specs.Char.{is_ascii_hexdigit, digit_value}
use Rattle.std.specs.Str.Parse.{digits_value, digits_value_after}
use Rattle.std.proofs.lemmas.Bool.Decides.{nat_tests}
use Rattle.std.proofs.lemmas.Bool.{eqb-true}
use Rattle.std.proofs.lemmas.List.Elements.{All-nil, All-cons, All-head, All-tail}
use Rattle.httparse.specs.Ascii.{crlf_bytes, digit_zero}
use Rattle.httparse.specs.Grammar.{AllPass}
use Rattle.hx_message.specs.Chunked.{IsSizeLine, Chunk, IsChunk, print_chunk, print_trailers, ChunkedBody, IsChunkedBody, print_chunked}
use Rattle.hx_frame.specs.Endings.{IsWhole, AreTrailers, EndsData, FollowsLine}

-- the two cases of a test that chose a value
pub chosen : {X : Type 0} (P : X → Type 0) (t : Bool) (x y : X) → P (cond t x y) → ((t ≡ true) × P x) ⊎ ((t ≡ false) × P y)
chosen P true x y h = inl (refl, h)
chosen P false x y h = inr (refl, h)

pub choose_true : {X : Type 0} (P : X → Type 0) (t : Bool) (x y : X) → t ≡ true → P x → P (cond t x y)
choose_true P t x y is p = subst (λ (s : Bool). P (cond s x y)) (sym is) p

pub choose_false : {X : Type 0} (P : X → Type 0) (t : Bool) (x y : X) → t ≡ false → P y → P (cond t x y)
choose_false P t x y is p = subst (λ (s : Bool). P (cond s x y)) (sym is) p

-- a body's first size line, and what follows it
pub record HasLine (bytes : List ℕ) : Type 0 where
  pub digits : List ℕ
  pub extension : List ℕ
  pub line : IsSizeLine digits extension
  pub hexadecimal : AllPass is_ascii_hexdigit digits
  pub rest : List ℕ
  pub text : bytes ≡ digits ++ extension ++ crlf_bytes ++ rest
  pub follows : FollowsLine (digits_value 16 digits) rest

-- digits only make a number greater
value_grows : (ds : List ℕ) (n : ℕ) → n ≤ digits_value_after 16 n ds
value_grows [] n = omega arith
value_grows (d ∷ ds) n = omega (arith, value_grows ds (n * 16 + digit_value d))

zero_digit : (d : ℕ) → is_ascii_hexdigit d ≡ true → digit_value d ≡ 0 → (d == digit_zero) ≡ true
zero_digit d hex zero = grind (arith, nat_tests)

-- digits of the value nothing are zeros
zeros_from_value : (ds : List ℕ) (n : ℕ) → AllPass is_ascii_hexdigit ds → digits_value_after 16 n ds ≡ 0 → (n ≡ 0) × AllPass (λ d. d == digit_zero) ds
zeros_from_value [] n hex is = (is, All-nil (λ d. IsTrue (d == digit_zero)))
zeros_from_value (d ∷ ds) n hex is =
    let rest = zeros_from_value ds (n * 16 + digit_value d) (All-tail (λ (x : ℕ). IsTrue (is_ascii_hexdigit x)) d ds hex) is in
    let here : digit_value d ≡ 0 = omega (arith, rest.0) in
    (omega (arith, rest.0), All-cons (λ (x : ℕ). IsTrue (x == digit_zero)) d ds (zero_digit d (All-head (λ (x : ℕ). IsTrue (is_ascii_hexdigit x)) d ds hex) here) rest.1)

digit_of_zero : (d : ℕ) → (d == digit_zero) ≡ true → (is_ascii_hexdigit d ≡ true) × (digit_value d ≡ 0)
digit_of_zero d is = rw (eqb-true d 48 is) (refl, refl)

value_from_zeros : (ds : List ℕ) (n : ℕ) → n ≡ 0 → AllPass (λ d. d == digit_zero) ds → AllPass is_ascii_hexdigit ds × (digits_value_after 16 n ds ≡ 0)
value_from_zeros [] n zero zeros = (All-nil (λ d. IsTrue (is_ascii_hexdigit d)), zero)
value_from_zeros (d ∷ ds) n zero zeros =
    let here = digit_of_zero d (All-head (λ (x : ℕ). IsTrue (x == digit_zero)) d ds zeros) in
    let rest = value_from_zeros ds (n * 16 + digit_value d) (omega (arith, here.1)) (All-tail (λ (x : ℕ). IsTrue (x == digit_zero)) d ds zeros) in
    (All-cons (λ (x : ℕ). IsTrue (is_ascii_hexdigit x)) d ds here.0 rest.0, rest.1)

last_from_line : (bytes : List ℕ) (h : HasLine bytes) → digits_value 16 h.digits ≡ 0 → AreTrailers 16382 h.rest → IsWhole bytes
unfolding print_chunked
last_from_line bytes h zero t = (
  record { chunks = []; zeros = h.digits; extension = h.extension; trailers = t.lines },
  record { chunks = All-nil IsChunk; last = h.line; zeros = (zeros_from_value h.digits 0 h.hexadecimal zero).1; trailers = t.trailers; short = t.short },
  h.text ∙ ap (λ (xs : List ℕ). h.digits ++ h.extension ++ crlf_bytes ++ xs) t.text,
)

one_more_chunk : (bytes : List ℕ) (h : HasLine bytes) → 0 < digits_value 16 h.digits → EndsData (digits_value 16 h.digits) h.rest → IsWhole bytes
unfolding print_chunked
one_more_chunk bytes h some d =
    let c : Chunk = record { digits = h.digits; extension = h.extension; content = d.content } in
    let b = d.whole.0 in
    let ok = d.whole.1 in
    let whole : IsChunk c = record { line = h.line; digits = h.hexadecimal; some = some; content = d.sized } in
    let text : h.digits ++ h.extension ++ crlf_bytes ++ (d.content ++ crlf_bytes ++ print_chunked b)
    ≡ print_chunked (record b { chunks = c ∷ b.chunks }) = simp append_assoc in (
      record b { chunks = c ∷ b.chunks },
      record { chunks = All-cons IsChunk c b.chunks whole ok.chunks; last = ok.last; zeros = ok.zeros; trailers = ok.trailers; short = ok.short },
      h.text ∙ ap (λ (xs : List ℕ). h.digits ++ h.extension ++ crlf_bytes ++ xs) (d.text ∙ ap (λ (xs : List ℕ). d.content ++ crlf_bytes ++ xs) d.whole.2) ∙ text,
    )

pub whole_from_line : (bytes : List ℕ) → HasLine bytes → IsWhole bytes
whole_from_line bytes h = ⊎_elim (λ w. last_from_line bytes h w.0 w.1) (λ w. one_more_chunk bytes h w.0 w.1) h.follows

line_from_parts : (chunks : List Chunk) (b : ChunkedBody) (bytes : List ℕ) → b.chunks ≡ chunks → IsChunkedBody b → bytes ≡ print_chunked b → HasLine bytes
unfolding print_chunked
line_from_parts [] b bytes none ok is =
    let zero = value_from_zeros b.zeros 0 refl ok.zeros in
    record {
      digits = b.zeros;
      extension = b.extension;
      line = ok.last;
      hexadecimal = zero.0;
      rest = print_trailers b.trailers;
      text = is ∙ ap (λ (cs : List Chunk). flat_map print_chunk cs ++ b.zeros ++ b.extension ++ crlf_bytes ++ print_trailers b.trailers) none;
      follows = inl (zero.1, record { lines = b.trailers; trailers = ok.trailers; short = ok.short; text = refl });
    }
line_from_parts (c ∷ cs) b bytes some ok is =
    let chunks : All IsChunk (c ∷ cs) = subst (All IsChunk) some ok.chunks in
    let here : IsChunk c = All-head IsChunk c cs chunks in
    let later : ChunkedBody = record b { chunks = cs } in
    let regrouped : flat_map print_chunk (c ∷ cs) ++ b.zeros ++ b.extension ++ crlf_bytes ++ print_trailers b.trailers
    ≡ c.digits ++ c.extension ++ crlf_bytes ++ (c.content ++ crlf_bytes ++ print_chunked later) = simp append_assoc in
    record {
      digits = c.digits;
      extension = c.extension;
      line = here.line;
      hexadecimal = here.digits;
      rest = c.content ++ crlf_bytes ++ print_chunked later;
      text = is ∙ ap (λ (xs : List Chunk). flat_map print_chunk xs ++ b.zeros ++ b.extension ++ crlf_bytes ++ print_trailers b.trailers) some ∙ regrouped;
      follows = inr (
        here.some,
        record {
          content = c.content;
          rest = print_chunked later;
          sized = here.content;
          text = refl;
          whole = (later, record { chunks = All-tail IsChunk c cs chunks; last = ok.last; zeros = ok.zeros; trailers = ok.trailers; short = ok.short }, refl);
        },
      );
    }

pub line_from_whole : (bytes : List ℕ) → IsWhole bytes → HasLine bytes
line_from_whole bytes w = line_from_parts w.0.chunks w.0 bytes refl w.1 w.2

-- one more trailer line
pub trailers_cons : (line : List ℕ) (lines : List (List ℕ)) → print_trailers (line ∷ lines) ≡ line ++ crlf_bytes ++ print_trailers lines
trailers_cons line lines = simp append_assoc

pub length-trailers : (line : List ℕ) (lines : List (List ℕ)) → length (print_trailers (line ∷ lines)) ≡ length line + 2 + length (print_trailers lines)
length-trailers line lines = ap length (trailers_cons line lines) ∙ simp length-append refl
