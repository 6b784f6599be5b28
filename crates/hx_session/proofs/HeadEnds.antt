-- Where an answer ends that begins with interim heads.
use Rattle.std.proofs.Common.{◌≡◌, ℕ, ◌+◌, ◌-◌, ◌≤◌, List, [], ◌∷◌, ◌++◌, length, take, drop, refl, sym, ap, subst, ◌∙◌, arith, length-append}
use Rattle.std.proofs.lemmas.List.{take-append-drop}
use Rattle.std.proofs.Math.Seq.{take-append-add, take-append_seam}
use Rattle.httparse.specs.Grammar.{ResponseHead, ReadsResponse, print_response}
use Rattle.httparse.proofs.GrammarLemmas.{response_unique, ReadsResponse-append}
use Rattle.hx_message.specs.declared.MethodKind.{MethodKind}
use Rattle.hx_message.specs.Forwarded.{BeginsInterims, IsInterim, IsFinal}
use Rattle.hx_message.specs.Limits.{BeginsShortInterims, IsShort, IsShortAnswer}
use Rattle.hx_message.specs.Message.{IsAnswerWith}
use Rattle.hx_message.specs.Partial.{HasShortAnswer}
use Rattle.hx_message.proofs.Unique.{interim_final}

-- one interim head in front
behind_head : (m : MethodKind) (text middle : List ℕ) (g : ResponseHead) (n : ℕ) → ReadsResponse (text ++ middle) g middle → text ≡ print_response g → IsInterim g
    → IsShort (text ++ middle) middle (length g.fields) → HasShortAnswer m middle n → HasShortAnswer m (text ++ middle) (length text + n)
behind_head m text middle g n reads is interim short ((inside, (g', kind, x, own)), y) =
    let front = take n middle in
    let whole = text ++ front in
    let begins : ReadsResponse whole g front = (reads.0, ap (λ (xs : List ℕ). xs ++ front) is) in
    let same = sym (take-append-add text middle n) in
    let answer : IsAnswerWith m whole g' kind = record {
      interims = g ∷ x.interims;
      rest = x.rest;
      begins = (front, begins, interim, x.begins);
      body = x.body;
      reads = x.reads;
      final = x.final;
      framed = x.framed;
      whole = x.whole;
    } in
    let limits : IsShortAnswer whole = record {
      interims = g ∷ y.interims;
      rest = y.rest;
      begins = (front, begins, interim, record { size = omega (arith, short.size, length-append text middle, length-append text front); fields_few = short.fields_few }, y.begins);
      head = y.head;
      body = y.body;
      reads = y.reads;
      final = y.final;
      short = y.short;
    } in (
      (omega (arith, inside, length-append text middle), (g', kind, subst (λ (xs : List ℕ). IsAnswerWith m xs g' kind) same answer, own)),
      subst IsShortAnswer same limits,
    )

interim_some : (m : MethodKind) (bytes middle : List ℕ) (g : ResponseHead) (n : ℕ) → ReadsResponse bytes g middle → IsInterim g → IsShort bytes middle (length g.fields) → HasShortAnswer m middle n
    → HasShortAnswer m bytes (length (print_response g) + n)
interim_some m bytes middle g n reads interim short h =
    let text = print_response g in
    let back = sym reads.1 in
    subst (λ (xs : List ℕ). HasShortAnswer m xs (length text + n)) back
    (behind_head m text middle g n (subst (λ (xs : List ℕ). ReadsResponse xs g middle) reads.1 reads) refl interim (subst (λ (xs : List ℕ). IsShort xs middle (length g.fields)) reads.1 short) h)

pub heads_some : (m : MethodKind) (gs : List ResponseHead) (bytes rest : List ℕ) (n : ℕ) → BeginsShortInterims bytes gs rest → HasShortAnswer m rest n
    → (k : ℕ) × HasShortAnswer m bytes k × (k + length rest ≡ length bytes + n)
heads_some m [] bytes rest n is h = (n, subst (λ (xs : List ℕ). HasShortAnswer m xs n) (sym is) h, omega (arith, ap length is))
heads_some m (g ∷ gs) bytes rest n (middle, reads, interim, short, later) h =
    let on = heads_some m gs middle rest n later h in
    (length (print_response g) + on.0, interim_some m bytes middle g on.0 reads interim short on.1, omega (arith, on.2, ap length reads.1, length-append (print_response g) middle))

-- what stands behind a first interim head, of a front
record Behind (middle : List ℕ) (size : ℕ) (P : List ResponseHead → List ℕ → Type 0) : Type 0 where
  within : size ≤ length middle
  heads : List ResponseHead
  holds : P heads (take size middle)

front_of : (a more middle : List ℕ) → a ++ more ≡ middle → take (length middle - length more) middle ≡ a
front_of a more middle is =
    let n : length middle - length more ≡ length a = omega (arith, ap length is, length-append a more) in
    ap (λ (k : ℕ). take k middle) n ∙ (ap (λ (xs : List ℕ). take (length a) xs) (sym is) ∙ take-append_seam a more)

behind_interims : (hs : List ResponseHead) (front more rest middle body : List ℕ) (g k : ResponseHead) → ReadsResponse (front ++ more) g middle → IsInterim g → BeginsInterims front hs rest
    → ReadsResponse rest k body → IsFinal k → Behind middle (length middle - length more) (λ gs xs. BeginsInterims xs gs rest)
behind_interims [] front more rest middle body g k reads interim begins last final =
    let here : ReadsResponse front k body = subst (λ (xs : List ℕ). ReadsResponse xs k body) (sym begins) last in
    absurd (interim_final g k (response_unique (front ++ more) g k middle (body ++ more) reads (ReadsResponse-append front k body more here)).0 interim final)
behind_interims (h ∷ hs) front more rest middle body g k reads interim (m, p, i, later) last final =
    let u = response_unique (front ++ more) g h middle (m ++ more) reads (ReadsResponse-append front h m more p) in
    record {
      within = omega arith;
      heads = hs;
      holds = subst (λ (xs : List ℕ). BeginsInterims xs hs rest) (sym (front_of m more middle (sym u.1))) later;
    }

behind_short : (hs : List ResponseHead) (front more rest middle body : List ℕ) (g k : ResponseHead) → ReadsResponse (front ++ more) g middle → IsInterim g → BeginsShortInterims front hs rest
    → ReadsResponse rest k body → IsFinal k → Behind middle (length middle - length more) (λ gs xs. BeginsShortInterims xs gs rest)
behind_short [] front more rest middle body g k reads interim begins last final =
    let here : ReadsResponse front k body = subst (λ (xs : List ℕ). ReadsResponse xs k body) (sym begins) last in
    absurd (interim_final g k (response_unique (front ++ more) g k middle (body ++ more) reads (ReadsResponse-append front k body more here)).0 interim final)
behind_short (h ∷ hs) front more rest middle body g k reads interim (m, p, i, short, later) last final =
    let u = response_unique (front ++ more) g h middle (m ++ more) reads (ReadsResponse-append front h m more p) in
    record {
      within = omega arith;
      heads = hs;
      holds = subst (λ (xs : List ℕ). BeginsShortInterims xs hs rest) (sym (front_of m more middle (sym u.1))) later;
    }

interim_none : (m : MethodKind) (bytes middle : List ℕ) (g : ResponseHead) (k : ℕ) → ReadsResponse bytes g middle → IsInterim g → HasShortAnswer m bytes k → (j : ℕ) × HasShortAnswer m middle j
interim_none m bytes middle g k reads interim ((inside, (g', kind, x, own)), y) =
    let front = take k bytes in
    let more = drop k bytes in
    let j = length middle - length more in
    let here : ReadsResponse (front ++ more) g middle = subst (λ (xs : List ℕ). ReadsResponse xs g middle) (sym (take-append-drop k bytes)) reads in
    let a = behind_interims x.interims front more x.rest middle x.body g g' here interim x.begins x.reads x.final in
    let b = behind_short y.interims front more y.rest middle y.body g y.head here interim y.begins y.reads y.final in (
      j,
      (
        (
          omega arith,
          (
            g',
            kind,
            record {
              interims = a.heads;
              rest = x.rest;
              begins = a.holds;
              body = x.body;
              reads = x.reads;
              final = x.final;
              framed = x.framed;
              whole = x.whole;
            },
            own,
          ),
        ),
        record {
          interims = b.heads;
          rest = y.rest;
          begins = b.holds;
          head = y.head;
          body = y.body;
          reads = y.reads;
          final = y.final;
          short = y.short;
        },
      ),
    )

pub heads_none : (m : MethodKind) (gs : List ResponseHead) (bytes rest : List ℕ) (k : ℕ) → BeginsShortInterims bytes gs rest → HasShortAnswer m bytes k → (j : ℕ) × HasShortAnswer m rest j
heads_none m [] bytes rest k is h = (k, subst (λ (xs : List ℕ). HasShortAnswer m xs k) is h)
heads_none m (g ∷ gs) bytes rest k (middle, reads, interim, short, later) h =
    let on = interim_none m bytes middle g k reads interim h in
    heads_none m gs middle rest on.0 later on.1
