-- Lists of lines, one after the other, with what begins like no line behind them.
use Rattle.std.proofs.Common.{◌≡◌, ℕ, Bool, true, false, List, [], ◌∷◌, ◌++◌, All, refl, sym, ap, ap₂, ◌∙◌, append_assoc}
use Rattle.std.specs.List.{flat_map}
use Rattle.std.proofs.lemmas.List.Elements.{All-head, All-tail}
use Rattle.hx_script.proofs.FormLemmas.{TellsLines}

-- how a list of lines is told from another: whether a text begins with a line, and what may follow one
pub record AreLines {A : Type 0} (V : A → Type 0) (line : A → List ℕ) : Type 0 where
  pub begins : List ℕ → Bool
  pub follows : List ℕ → Bool
  pub starts : (a : A) (r : List ℕ) → V a → (begins (line a ++ r) ≡ true) × (follows (line a ++ r) ≡ true)
  pub tells : (a b : A) (r s : List ℕ) → V a → V b → follows r ≡ true → follows s ≡ true → line a ++ r ≡ line b ++ s
      → (a ≡ b) × (r ≡ s)

-- the text is behind the lines
pub record IsBehind {A : Type 0} {V : A → Type 0} {line : A → List ℕ} (ls : AreLines V line) (r : List ℕ) : Type 0 where
  pub other : ls.begins r ≡ false
  pub follows : ls.follows r ≡ true

follows_on : {A : Type 0} (V : A → Type 0) (line : A → List ℕ) (ls : AreLines V line) (xs : List A) (r : List ℕ) → All V xs
    → ls.follows r ≡ true → ls.follows (flat_map line xs ++ r) ≡ true
follows_on V line ls [] r x ends = ends
follows_on V line ls (a ∷ xs) r x ends =
    ap ls.follows (append_assoc (line a) (flat_map line xs) r) ∙ (ls.starts a (flat_map line xs ++ r) (All-head V a xs x)).1

-- no line stands behind the last one
none_more : {A : Type 0} (V : A → Type 0) (line : A → List ℕ) (ls : AreLines V line) (a : A) (more r s : List ℕ) → V a
    → ls.begins r ≡ false → r ≡ (line a ++ more) ++ s → ⊥
none_more V line ls a more r s ok other is =
    let e : false ≡ true = sym other ∙ ap ls.begins (is ∙ append_assoc (line a) more s) ∙ (ls.starts a (more ++ s) ok).0 in absurd cc

pub same_lines : {A : Type 0} (V : A → Type 0) (line : A → List ℕ) (ls : AreLines V line) (xs ys : List A) (r s : List ℕ)
    → All V xs → All V ys → IsBehind ls r → IsBehind ls s → flat_map line xs ++ r ≡ flat_map line ys ++ s → (xs ≡ ys) × (r ≡ s)
same_lines V line ls [] [] r s x y p q is = (refl, is)
same_lines V line ls [] (b ∷ ys) r s x y p q is = absurd (none_more V line ls b (flat_map line ys) r s (All-head V b ys y) p.other is)
same_lines V line ls (a ∷ xs) [] r s x y p q is = absurd (none_more V line ls a (flat_map line xs) s r (All-head V a xs x) q.other (sym is))
same_lines {A} V line ls (a ∷ xs) (b ∷ ys) r s x y p q is =
    let e = sym (append_assoc (line a) (flat_map line xs) r) ∙ is ∙ append_assoc (line b) (flat_map line ys) s in
    let one = ls.tells a b (flat_map line xs ++ r) (flat_map line ys ++ s) (All-head V a xs x) (All-head V b ys y)
    (follows_on V line ls xs r (All-tail V a xs x) p.follows) (follows_on V line ls ys s (All-tail V b ys y) q.follows) e in
    let more = same_lines V line ls xs ys r s (All-tail V a xs x) (All-tail V b ys y) p q one.1 in
    (ap₂ (λ (v : A) (vs : List A). v ∷ vs) one.0 more.0, more.1)

-- lines that anything may follow
abbrev pub simple_lines : {A : Type 0} (V : A → Type 0) (line : A → List ℕ) (begins : List ℕ → Bool)
    → ((a : A) (r : List ℕ) → V a → begins (line a ++ r) ≡ true) → TellsLines V line → AreLines V line
simple_lines V line begins starts tells = record {
  begins = begins;
  follows = λ r. true;
  starts = λ a r ok. (starts a r ok, refl);
  tells = λ a b r s x y p q is. tells a b r s x y is;
}
