-- No line feed stands inside a printed line.
use Rattle.std.proofs.Common.{◌≡◌, ℕ, ◌+◌, ◌≤◌, ◌/◌, ◌%◌, Bool, true, false, List, [], ◌∷◌, ◌++◌, refl, sym, ap, ◌∙◌, arith, inl, inr}
use Rattle.std.specs.Prelude.{codes, decimal, not, ◌==◌, ◌||◌, ◌&&◌, nat_lt, nat_le, cond}
use Rattle.std.specs.List.{flat_map, list_all}
use Rattle.std.proofs.lemmas.Bool.{cases_Bool, cond-true, cond-false, eqb-true, ne_eqb}
use Rattle.hx_base.specs.Names.{is_name_byte, IsName}
use Rattle.hx_base.specs.declared.numbers.ThreadNo.{ThreadNo}
use Rattle.hx_base.specs.declared.numbers.SessionNo.{SessionNo}
use Rattle.hx_base.specs.declared.numbers.PlaceNo.{PlaceNo}
use Rattle.hx_base.specs.declared.numbers.ConnId.{ConnId}
use Rattle.hx_base.specs.declared.numbers.Span.{Span}
use Rattle.hx_config_parts.specs.Numbers.{is_digit}
use Rattle.hx_script.specs.MarkLines.{who, place_text, who_conn, place_uses}
use Rattle.hx_script.specs.RecordLines.{span_text}
use Rattle.hx_script_parts.specs.ByteText.{hex_digit, escaped, quoted}
use Rattle.hx_transcripts_parts.specs.Numbers.{most_16, most_64}
use Rattle.hx_transcripts_parts.specs.ReadBack.{FitsWho, FitsPlace, FitsSpan}
use Rattle.hx_transcripts_parts.proofs.NumberLemmas as numbers
use Rattle.hx_transcripts.proofs.Passing.{no_feed, HasNoFeed, Clean}

pub join : {a b : List ℕ} → Clean a → Clean b → Clean (a ++ b)
join {a} {b} x y = record { no = numbers.both_pass no_feed a b x.no y.no }

pub lit : (a : List ℕ) → list_all no_feed a ≡ true → Clean a
lit a is = record { no = is }

pub clean_number : (n : ℕ) → n ≤ most_64 → Clean (decimal n)
clean_number n le = record { no = numbers.wider is_digit no_feed (decimal n) (λ b is. numbers.is_other is_digit 10 b refl is) (numbers.number_digits n (omega (arith, le))) }

pub clean_name : (name : List ℕ) → IsName name → Clean name
clean_name name is = record { no = numbers.wider is_name_byte no_feed name (λ b is. numbers.is_other is_name_byte 10 b refl is) is.1 }

pub clean_who : (t : ThreadNo) (n : SessionNo) → FitsWho (t, n) → Clean (who t n)
clean_who t n fits = join (join (clean_number t.0 (omega (arith, fits.0))) (lit (codes ".") refl)) (clean_number n.0 (omega (arith, fits.1)))

pub clean_span : (s : Span) → FitsSpan s → Clean (span_text s)
clean_span s fits = join (join (clean_number s.from fits.0) (lit (codes "-") refl)) (clean_number s.to fits.1)

pub clean_who_conn : (t : ThreadNo) (n : SessionNo) (id : ConnId) → FitsWho (t, n) → id.0 ≤ most_64 → Clean (who_conn t n id)
clean_who_conn t n id who le = join (join (clean_who t n who) (lit (codes " ") refl)) (clean_number id.0 le)

pub clean_place : (p : PlaceNo) → FitsPlace p → Clean (place_text p)
clean_place p fits = join (join (clean_number p.row (omega (arith, fits.0))) (lit (codes ":") refl)) (clean_number p.place (omega (arith, fits.1)))

pub clean_place_uses : (p : PlaceNo) (uses : ℕ) → FitsPlace p → uses ≤ most_16 → Clean (place_uses p uses)
clean_place_uses p uses fits le =
    join (join (join (lit (codes " ") refl) (clean_place p fits)) (lit (codes " ") refl)) (clean_number uses (omega (arith, le)))

-- ---- byte texts

hex_clean : (d : ℕ) → no_feed (hex_digit d) ≡ true
hex_clean d = elim (cases_Bool (nat_lt d 10)) [
  | inl less ↦ ap no_feed (cond-true (nat_lt d 10) (48 + d) (87 + d) less) ∙ ap not (ne_eqb (48 + d) 10 (λ e. absurd (omega (arith, e))))
  | inr more ↦ ap no_feed (cond-false (nat_lt d 10) (48 + d) (87 + d) more) ∙ ap not (ne_eqb (87 + d) 10 (λ e. absurd (omega (arith, e))))
]

chosen : (t : Bool) (a b : List ℕ) → (t ≡ true → HasNoFeed a) → (t ≡ false → HasNoFeed b) → HasNoFeed (cond t a b)
chosen true a b x y = x refl
chosen false a b x y = y refl

marked_other : (b : ℕ) → (b == 34 || b == 92) ≡ true → no_feed b ≡ true
marked_other b is = elim (cases_Bool (b == 10)) [
  | inl feed ↦ absurd (let e = sym (ap (λ (x : ℕ). x == 34 || x == 92) (eqb-true b 10 feed)) ∙ is in cc)
  | inr other ↦ ap not other
]

one_clean : (b : ℕ) → no_feed b ≡ true → HasNoFeed (b ∷ [])
one_clean b is = rw is refl

two_clean : (b : ℕ) → no_feed b ≡ true → HasNoFeed (92 ∷ b ∷ [])
two_clean b is = rw is refl

hex_pair : (a b : ℕ) → no_feed a ≡ true → no_feed b ≡ true → HasNoFeed (92 ∷ 120 ∷ a ∷ b ∷ [])
hex_pair a b x y = rw (x, y) refl

escaped_clean : (b : ℕ) → HasNoFeed (escaped b)
unfolding escaped
escaped_clean b =
    chosen (b == 34 || b == 92) _ _ (λ is. two_clean b (marked_other b is)) (λ a.
    chosen (b == 13) _ _ (λ is. refl) (λ c.
    chosen (b == 10) _ _ (λ is. refl) (λ other.
    chosen (nat_le 32 b && nat_le b 126) _ _ (λ is. one_clean b (ap not other))
    (λ d. hex_pair (hex_digit (b / 16)) (hex_digit (b % 16)) (hex_clean (b / 16)) (hex_clean (b % 16))))))

letters_clean : (bytes : List ℕ) → HasNoFeed (flat_map escaped bytes)
letters_clean [] = refl
letters_clean (b ∷ bytes) = numbers.both_pass no_feed (escaped b) (flat_map escaped bytes) (escaped_clean b) (letters_clean bytes)

pub clean_quoted : (bytes : List ℕ) → Clean (quoted bytes)
clean_quoted bytes = join (join (lit (codes "\"") refl) (record { no = letters_clean bytes })) (lit (codes "\"") refl)
