-- Sessions, places, ranges, names and connections are read from their texts, and from no other words.
use Rattle.std.proofs.Common.{◌≡◌, ℕ, zero, suc, ◌+◌, ◌<◌, ◌≤◌, true, false, Bool, List, [], ◌∷◌, ◌++◌, All, length, Some, Result, Ok, refl, sym, ap, ap₂, subst, ◌∙◌, arith, inl, inr}
use Rattle.std.specs.Prelude.{◌==◌, not, nat_le, slice_get, bytes_eq, decimal, codes, ⊤}
use Rattle.std.specs.List.{list_all}
use Rattle.std.proofs.lemmas.Bool.{cases_Bool, cond-true, cond-false, and_parts, and_from, leb-true, le-leb}
use Rattle.std.proofs.lemmas.List.Elements.{All-head, All-tail}
use Rattle.std.proofs.lemmas.Slice.Eq.{bytes_eq-Decides}
use Rattle.hx_base.specs.Names.{is_name_byte, is_name, IsName}
use Rattle.hx_base.specs.declared.numbers.ThreadNo.{ThreadNo}
use Rattle.hx_base.specs.declared.numbers.SessionNo.{SessionNo}
use Rattle.hx_base.specs.declared.numbers.ServerNo.{ServerNo}
use Rattle.hx_base.specs.declared.numbers.ConnId.{ConnId}
use Rattle.hx_base.specs.declared.numbers.PlaceNo.{PlaceNo}
use Rattle.hx_base.specs.declared.numbers.Span.{Span}
use Rattle.hx_script.specs.declared.transcript.ServerPart.{ServerPart}
use Rattle.hx_script.specs.MarkLines.{who, place_text, full_name}
use Rattle.hx_script.specs.PrintedForm.{IsToldServer, OtherName, OtherNames}
use Rattle.hx_script.specs.RecordLines.{span_text, name_or_none, name_of, conn_text}
use Rattle.hx_transcripts_parts.specs.declared.fault.Rule.{Rule}
use Rattle.hx_transcripts_parts.specs.declared.fault.Rule.TheVariants.{BadLine, NoSuchName}
use Rattle.hx_transcripts_parts.specs.Faults.{◌>>=◌, unless, or_broken}
use Rattle.hx_transcripts_parts.specs.Lexical.{is_inside}
use Rattle.hx_transcripts_parts.specs.Numbers.{number_in, cut_at, most_8, most_16, most_32, most_64}
use Rattle.hx_transcripts_parts.specs.Pieces.{pair_in, who_in, place_in, span_in, name_in, has_names, server_from, numbered, server_in, conn_in}
use Rattle.hx_transcripts_parts.specs.ReadBack.{ReadsWord, FitsWho, FitsPlace, FitsSpan, FitsNames, FitsConn, AreNamed}
use Rattle.hx_transcripts_parts.proofs.WordLemmas.{ok_is, bind_ok, bind_is, there_is, not_broken}
use Rattle.hx_transcripts_parts.proofs.NumberLemmas.{wider, both_pass, is_other, number_reads, pair_reads, cut_sound, cut_whole, some_is, passed, some_bytes, some_length}

-- ---- a value by another name

mapped : {X Y : Type 0} (read : List ℕ → Result X Rule) (text : X → List ℕ) (Fits : X → Type 0) (to : X → Y) (from : Y → X)
    → ((y : Y) → to (from y) ≡ y) → ((x : X) → from (to x) ≡ x) → ReadsWord read text Fits
    → ReadsWord (λ w. read w >>= λ x. Ok (to x)) (λ y. text (from y)) (λ y. Fits (from y))
mapped {X} {Y} read text Fits to from there back h = record {
  sound = λ w y is.
      let x = bind_ok (read w) (λ (v : X). Ok (to v)) y is in
      let one = h.sound w x.0 x.1 in
      let same : x.0 ≡ from y = sym (back x.0) ∙ ap from (ok_is (to x.0) y x.2) in
      subst (λ (v : X). Fits v × (w ≡ text v)) same one;
  whole = λ y fits. bind_is (λ (v : X). Ok (to v)) (h.whole (from y) fits) ∙ ap (λ (v : Y). Ok v) (there y);
  inside = λ y fits. h.inside (from y) fits;
}

pub who_reads : ReadsWord who_in (λ x. who x.0 x.1) FitsWho
who_reads = mapped (pair_in 46 most_8 most_32) (λ x. decimal x.0 ++ codes "." ++ decimal x.1) (λ x. (x.0 ≤ most_8) × (x.1 ≤ most_32))
    (λ (x : ℕ × ℕ). (record { 0 = x.0 }, record { 0 = x.1 })) (λ (y : ThreadNo × SessionNo). (y.0.0, y.1.0)) (λ y. refl) (λ x. refl)
    (pair_reads 46 most_8 most_32 refl refl (omega arith) (omega arith))

pub place_reads : ReadsWord place_in place_text FitsPlace
place_reads = mapped (pair_in 58 most_8 most_8) (λ x. decimal x.0 ++ codes ":" ++ decimal x.1) (λ x. (x.0 ≤ most_8) × (x.1 ≤ most_8))
    (λ (x : ℕ × ℕ). record { row = x.0; place = x.1 }) (λ (y : PlaceNo). (y.row, y.place)) (λ y. refl) (λ x. refl)
    (pair_reads 58 most_8 most_8 refl refl (omega arith) (omega arith))

pub span_reads : ReadsWord span_in span_text FitsSpan
span_reads = mapped (pair_in 45 most_64 most_64) (λ x. decimal x.0 ++ codes "-" ++ decimal x.1) (λ x. (x.0 ≤ most_64) × (x.1 ≤ most_64))
    (λ (x : ℕ × ℕ). record { from = x.0; to = x.1 }) (λ (y : Span). (y.from, y.to)) (λ y. refl) (λ x. refl)
    (pair_reads 45 most_64 most_64 refl refl (omega arith) (omega arith))

-- ---- names

un_not : (t : Bool) → not t ≡ false → t ≡ true
un_not true is = refl
un_not false is = cc

name_from : (w : List ℕ) → is_name w ≡ true → IsName w
name_from w is =
    let parts = and_parts (not (length w == 0)) (list_all is_name_byte w) is in
    (some_bytes w parts.0, parts.1)

from_name : (w : List ℕ) → IsName w → is_name w ≡ true
from_name w is = and_from (not (length w == 0)) (list_all is_name_byte w) (some_length w is.0) is.1

no_mark : (mark : ℕ) → is_name_byte mark ≡ false → (w : List ℕ) → IsName w → list_all (λ b. not (b == mark)) w ≡ true
no_mark mark apart w is = wider is_name_byte (λ b. not (b == mark)) w (λ b d. is_other is_name_byte mark b apart d) is.1

inside_name : (w : List ℕ) → IsName w → list_all is_inside w ≡ true
inside_name w is = no_mark 32 refl w is

-- what a name must be
abbrev must : List ℕ → Result ⊤ Rule
must w = unless (not (is_name w)) BadLine

must_pass : (w : List ℕ) → IsName w → must w ≡ Ok tt
must_pass w is = rw (from_name w is) refl

pub names_read : ReadsWord name_in (λ x. x.0 ++ codes "/" ++ x.1) FitsNames
names_read = record {
  sound = λ w y is.
      let x = bind_ok (or_broken BadLine (cut_at 47 w)) _ y is in
      let a = bind_ok (must x.0.0) _ y x.2 in
      let b = bind_ok (must x.0.1) _ y a.2 in
      let back = name_from x.0.0 (un_not _ (not_broken _ BadLine a.0 a.1)) in
      let server = name_from x.0.1 (un_not _ (not_broken _ BadLine b.0 b.1)) in
      let text = cut_sound 47 w x.0 (there_is BadLine (cut_at 47 w) x.0 x.1) in
      subst (λ (z : List ℕ × List ℕ). (IsName z.0 × IsName z.1) × (w ≡ z.0 ++ codes "/" ++ z.1)) (ok_is x.0 y b.2) ((back, server), text);
  whole = λ x fits.
      let cut = cut_whole 47 x.0 x.1 (no_mark 47 refl x.0 fits.0) in
      bind_is (λ (z : List ℕ × List ℕ). must z.0 >>= λ a. must z.1 >>= λ b. Ok z) (ap (or_broken BadLine) cut)
      ∙ bind_is (λ (a : ⊤). must x.1 >>= λ b. Ok x) (must_pass x.0 fits.0)
      ∙ bind_is (λ (b : ⊤). Ok x) (must_pass x.1 fits.1);
  inside = λ x fits. both_pass is_inside (x.0 ++ codes "/") x.1 (both_pass is_inside x.0 (codes "/") (inside_name x.0 fits.0) refl) (inside_name x.1 fits.1);
}

-- ---- servers by their names

-- the names of the server that is found
pub record IsFound (i k : ℕ) (back server : List ℕ) (servers : List ServerPart) : Type 0 where
  pub n : ℕ
  pub at : k ≡ i + n
  pub within : n < length servers
  pub named : name_or_none (slice_get servers n) ≡ back ++ codes "/" ++ server

found_here : (i k : ℕ) (back server : List ℕ) (p : ServerPart) (servers : List ServerPart) → i ≡ k → p.back ≡ back → p.server ≡ server
    → IsFound i k back server (p ∷ servers)
found_here i k back server p servers at b s = record {
  n = 0;
  at = omega (arith, at);
  within = omega arith;
  named = ap₂ (λ (u v : List ℕ). u ++ codes "/" ++ v) b s;
}

found_later : (i k : ℕ) (back server : List ℕ) (p : ServerPart) (servers : List ServerPart) → IsFound (i + 1) k back server servers
    → IsFound i k back server (p ∷ servers)
found_later i k back server p servers h = record {
  n = suc h.n;
  at = omega (arith, h.at);
  within = omega (arith, h.within);
  named = h.named;
}

pub server_sound : (i k : ℕ) (back server : List ℕ) (servers : List ServerPart) → server_from i back server servers ≡ Some k
    → IsFound i k back server servers
unfolding server_from
server_sound i k back server [] is = cc
server_sound i k back server (p ∷ servers) is = elim (cases_Bool (has_names back server p)) [
  | inl same ↦
      let parts = and_parts (bytes_eq p.back back) (bytes_eq p.server server) same in
      found_here i k back server p servers (some_is i k (sym (cond-true _ _ _ same) ∙ is))
      ((bytes_eq-Decides p.back back).0 parts.0) ((bytes_eq-Decides p.server server).0 parts.1)
  | inr other ↦ found_later i k back server p servers (server_sound (i + 1) k back server servers (sym (cond-false _ _ _ other) ∙ is))
]

-- the names of the server of that number
pub record HasNames (servers : List ServerPart) (n : ℕ) : Type 0 where
  pub back : List ℕ
  pub server : List ℕ
  pub names : IsName back × IsName server
  pub is : name_or_none (slice_get servers n) ≡ back ++ codes "/" ++ server
  pub alone : (i : ℕ) → server_from i back server servers ≡ Some (i + n)

-- a server behind has another name
other_name : (p : ServerPart) (servers : List ServerPart) (n : ℕ) (back server : List ℕ) → n < length servers → All (OtherName p) servers
    → name_or_none (slice_get servers n) ≡ back ++ codes "/" ++ server → IsName back → IsName server
    → ((q : ServerPart) → OtherName p q → IsToldServer q → full_name q ≡ back ++ codes "/" ++ server → has_names back server p ≡ false)
    → All IsToldServer servers → has_names back server p ≡ false
other_name p [] n back server lt others is b s go told = absurd (omega arith)
other_name p (q ∷ servers) zero back server lt others is b s go told =
    go q (All-head (OtherName p) q servers others) (All-head IsToldServer q servers told) is
other_name p (q ∷ servers) (suc n) back server lt others is b s go told =
    other_name p servers n back server (omega (arith, lt)) (All-tail (OtherName p) q servers others) is b s go (All-tail IsToldServer q servers told)

-- two pairs of names with one text are one
same_names : (a b c d : List ℕ) → IsName a → IsName b → IsName c → IsName d → a ++ codes "/" ++ b ≡ c ++ codes "/" ++ d → (a ≡ c) × (b ≡ d)
same_names a b c d x y z w is =
    let e = sym (cut_whole 47 a b (no_mark 47 refl a x)) ∙ ap (cut_at 47) is ∙ cut_whole 47 c d (no_mark 47 refl c z) in
    let f : (a, b) ≡ (c, d) = some_is (a, b) (c, d) e in
    (ap (λ (p : List ℕ × List ℕ). p.0) f, ap (λ (p : List ℕ × List ℕ). p.1) f)

-- a server that is another one doesn't have these names
not_these : (p q : ServerPart) (back server : List ℕ) → IsName back → IsName server → OtherName p q → IsToldServer q
    → full_name q ≡ back ++ codes "/" ++ server → has_names back server p ≡ false
not_these p q back server b s other told is = elim (cases_Bool (has_names back server p)) [
  | inl same ↦
      let parts = and_parts (bytes_eq p.back back) (bytes_eq p.server server) same in
      let names = same_names q.back q.server back server told.0 told.1 b s is in
      absurd (other ((bytes_eq-Decides p.back back).0 parts.0 ∙ sym names.0, (bytes_eq-Decides p.server server).0 parts.1 ∙ sym names.1))
  | inr differs ↦ differs
]

names_here : (p : ServerPart) (servers : List ServerPart) → IsToldServer p → HasNames (p ∷ servers) 0
unfolding server_from
names_here p servers told = record {
  back = p.back;
  server = p.server;
  names = (told.0, told.1);
  is = refl;
  alone = λ i. cond-true _ _ _ (and_from _ _ ((bytes_eq-Decides p.back p.back).1 refl) ((bytes_eq-Decides p.server p.server).1 refl)) ∙ ap (λ (k : ℕ). Some k) (omega arith);
}

names_behind : (p : ServerPart) (servers : List ServerPart) (n : ℕ) → n < length servers → All (OtherName p) servers → All IsToldServer servers
    → HasNames servers n → HasNames (p ∷ servers) (suc n)
unfolding server_from
names_behind p servers n lt others told h = record {
  back = h.back;
  server = h.server;
  names = h.names;
  is = h.is;
  alone = λ i.
      let other = other_name p servers n h.back h.server lt others h.is h.names.0 h.names.1
      (λ q o t e. not_these p q h.back h.server h.names.0 h.names.1 o t e) told in
      cond-false _ _ _ other ∙ h.alone (i + 1) ∙ ap (λ (k : ℕ). Some k) (omega arith);
}

pub server_whole : (servers : List ServerPart) (n : ℕ) → n < length servers → All IsToldServer servers → OtherNames servers → HasNames servers n
server_whole [] n lt told others = absurd (omega arith)
server_whole (p ∷ servers) zero lt told others = names_here p servers (All-head IsToldServer p servers told)
server_whole (p ∷ servers) (suc n) lt told others =
    let rest = All-tail IsToldServer p servers told in
    names_behind p servers n (omega (arith, lt)) others.0 rest (server_whole servers n (omega (arith, lt)) rest others.1)

-- ---- servers and connections by their words

numbered_sound : (i : ℕ) (s : ServerNo) → numbered i ≡ Ok s → (s.0 ≡ i) × (i ≤ most_16)
numbered_sound i s is =
    let parts = passed (nat_le i most_16) (record { 0 = i }) s NoSuchName is in
    (ap (λ (x : ServerNo). x.0) (sym parts.1), leb-true i most_16 parts.0)

pub server_reads : (servers : List ServerPart) → AreNamed servers
    → ReadsWord (server_in servers) (name_of servers) (λ s. (s.0 < length servers) × (s.0 ≤ most_16))
server_reads servers named = record {
  sound = λ w s is.
      let x = bind_ok (name_in w) _ s is in
      let i = bind_ok (or_broken NoSuchName (server_from 0 x.0.0 x.0.1 servers)) _ s x.2 in
      let n = numbered_sound i.0 s i.2 in
      let found = server_sound 0 i.0 x.0.0 x.0.1 servers (there_is NoSuchName (server_from 0 x.0.0 x.0.1 servers) i.0 i.1) in
      let same : s.0 ≡ found.n = omega (arith, n.0, found.at) in
      let lt : s.0 < length servers = omega (arith, same, found.within) in
      let le : s.0 ≤ most_16 = omega (arith, n.0, n.1) in
      ((lt, le), (names_read.sound w x.0 x.1).1 ∙ sym found.named ∙ ap (λ (k : ℕ). name_or_none (slice_get servers k)) (sym same));
  whole = λ s fits.
      let h = server_whole servers s.0 fits.0 named.told named.others in
      let found = ap (or_broken NoSuchName) (h.alone 0) in
      ap (server_in servers) h.is
      ∙ bind_is (λ (x : List ℕ × List ℕ). or_broken NoSuchName (server_from 0 x.0 x.1 servers) >>= numbered) (names_read.whole (h.back, h.server) h.names)
      ∙ bind_is numbered found
      ∙ cond-true _ _ _ (le-leb (0 + s.0) most_16 (omega (arith, fits.1))) ∙ ap (λ (k : ℕ). Ok (record { 0 = k })) (omega arith);
  inside = λ s fits.
      let h = server_whole servers s.0 fits.0 named.told named.others in
      ap (list_all is_inside) h.is ∙ names_read.inside (h.back, h.server) h.names;
}

-- no such mark stands in the name of a server
clean_name : (mark : ℕ) → is_name_byte mark ≡ false → not (47 == mark) ≡ true → (servers : List ServerPart) (n : ℕ) → HasNames servers n
    → list_all (λ b. not (b == mark)) (name_or_none (slice_get servers n)) ≡ true
clean_name mark apart stroke servers n h =
    let p = λ (b : ℕ). not (b == mark) in
    ap (list_all p) h.is
    ∙ both_pass p (h.back ++ codes "/") h.server
    (both_pass p h.back (codes "/") (no_mark mark apart h.back h.names.0) (and_from (not (47 == mark)) true stroke refl)) (no_mark mark apart h.server h.names.1)

pub conn_reads : (servers : List ServerPart) → AreNamed servers → ReadsWord (conn_in servers) (λ x. conn_text servers x.0 x.1) (FitsConn servers)
unfolding conn_text
conn_reads servers named =
    let ids = number_reads most_64 (omega arith) in
    record {
      sound = λ w y is.
          let x = bind_ok (or_broken BadLine (cut_at 35 w)) _ y is in
          let s = bind_ok (server_in servers x.0.0) _ y x.2 in
          let id = bind_ok (number_in most_64 x.0.1) _ y s.2 in
          let one = (server_reads servers named).sound x.0.0 s.0 s.1 in
          let two = ids.sound x.0.1 id.0 id.1 in
          let text = cut_sound 35 w x.0 (there_is BadLine (cut_at 35 w) x.0 x.1) ∙ ap₂ (λ (u v : List ℕ). u ++ codes "#" ++ v) one.1 two.1 in
          subst (λ (z : ServerNo × ConnId). FitsConn servers z × (w ≡ name_of servers z.0 ++ codes "#" ++ decimal z.1.0)) (ok_is (s.0, record { 0 = id.0 }) y id.2)
          ((one.0.0, one.0.1, two.0), text);
      whole = λ x fits.
          let h = server_whole servers x.0.0 fits.0 named.told named.others in
          let cut = cut_whole 35 (name_of servers x.0) (decimal x.1.0) (clean_name 35 refl refl servers x.0.0 h) in
          bind_is (λ (z : List ℕ × List ℕ). server_in servers z.0 >>= λ s. number_in most_64 z.1 >>= λ id. Ok (s, record { 0 = id })) (ap (or_broken BadLine) cut)
          ∙ bind_is (λ (s : ServerNo). number_in most_64 (decimal x.1.0) >>= λ id. Ok (s, record { 0 = id })) ((server_reads servers named).whole x.0 (fits.0, fits.1))
          ∙ bind_is (λ (id : ℕ). Ok (x.0, record { 0 = id })) (ids.whole x.1.0 fits.2);
      inside = λ x fits. both_pass is_inside (name_of servers x.0 ++ codes "#") (decimal x.1.0)
          (both_pass is_inside (name_of servers x.0) (codes "#") ((server_reads servers named).inside x.0 (fits.0, fits.1)) refl) (ids.inside x.1.0 fits.2);
    }
