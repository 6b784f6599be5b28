-- A body, and a whole message, ends at one place.
use Rattle.std.proofs.Common.{◌≡◌, ℕ, ◌-◌, ◌≤◌, Bool, true, false, cond, List, [], ◌∷◌, ◌++◌, length, take, drop, Ok, Err, refl, sym, ap, subst, ◌∙◌, ⊎_elim, arith, length-append}
use Rattle.std.specs.Prelude.{◌==◌, codes}
use Rattle.std.specs.List.{list_any}
use Rattle.std.specs.Str.{str_eq_ignore_ascii_case}
use Rattle.std.specs.Str.Parse.{digits_value}
use Rattle.std.proofs.lemmas.List.{nil_from_length, length-take, length-drop, take-append-drop, take-take}
use Rattle.std.proofs.lemmas.Bool.{cases_lt}
use Rattle.httparse.specs.Ascii.{comma}
use Rattle.httparse.specs.Grammar.{RequestHead, ResponseHead, ReadsRequest, ReadsResponse}
use Rattle.httparse.proofs.GrammarLemmas.{request_unique, response_unique, ReadsRequest-append, ReadsResponse-append}
use Rattle.hx_message.specs.declared.MethodKind.{MethodKind}
use Rattle.hx_message.specs.declared.BodyKind.{BodyKind}
use Rattle.hx_message.specs.declared.BodyKind.TheVariants.{Nothing, Length, Chunked, ToEnd}
use Rattle.hx_message.specs.declared.FrameFault.TheVariants.{UnknownCoding, BothLengths, SeveralLengths, BadLength, BadHost}
use Rattle.hx_message.specs.Fields.{read_fields, values_of}
use Rattle.hx_message.specs.Body.{Framed, is_length, length_kind, field_kind, kind_of_fields, with_host, request_kind, answer_kind, IsBody}
use Rattle.hx_message.specs.Forwarded.{IsFinal, BeginsInterims}
use Rattle.hx_message.specs.Partial.{HasWholeRequest, HasWholeAnswer}
use Rattle.hx_message.proofs.Unique.{interim_final}
use Rattle.hx_frame.specs.declared.state.ChunkState.{ChunkState}
use Rattle.hx_frame.specs.declared.state.ChunkState.TheVariants as chunk
use Rattle.hx_frame.specs.Chunks.{step}
use Rattle.hx_frame.specs.Endings.{EndsChunks}
use Rattle.hx_frame.proofs.StepOn.{on}
use Rattle.hx_frame.proofs.ReadLemmas.{has_bytes}

-- nothing follows the end of the chunks
none_behind : (s : ChunkState) (more : List ℕ) → EndsChunks s [] → EndsChunks s more → more ≡ []
none_behind chunk.Start more h h2 = absurd (omega (arith, has_bytes chunk.Start [] refl h))
none_behind (chunk.Size size room) more h h2 = absurd (omega (arith, has_bytes (chunk.Size size room) [] refl h))
none_behind (chunk.Extension size room) more h h2 = absurd (omega (arith, has_bytes (chunk.Extension size room) [] refl h))
none_behind (chunk.SizeEnd size) more h h2 = absurd (omega (arith, has_bytes (chunk.SizeEnd size) [] refl h))
none_behind (chunk.Data left) more h h2 = absurd (omega (arith, has_bytes (chunk.Data left) [] refl h))
none_behind chunk.DataEnd more h h2 = absurd (omega (arith, has_bytes chunk.DataEnd [] refl h))
none_behind (chunk.TrailerStart room) more h h2 = absurd (omega (arith, has_bytes (chunk.TrailerStart room) [] refl h))
none_behind (chunk.Trailer room) more h h2 = absurd (omega (arith, has_bytes (chunk.Trailer room) [] refl h))
none_behind (chunk.TrailerEnd room) more h h2 = absurd (omega (arith, has_bytes (chunk.TrailerEnd room) [] refl h))
none_behind chunk.LastEnd more h h2 = absurd (omega (arith, has_bytes chunk.LastEnd [] refl h))
none_behind chunk.Done more h h2 = h2
none_behind chunk.Bad more h h2 = absurd h

chunks_end : (bytes : List ℕ) (s : ChunkState) (more : List ℕ) → EndsChunks s bytes → EndsChunks s (bytes ++ more) → more ≡ []
chunks_end [] s more h h2 = none_behind s more h h2
chunks_end (b ∷ bs) s more h h2 = chunks_end bs (step s b) more (on b bs s h) (on b (bs ++ more) s h2)

-- no body that tells its own end is the front of another
pub one_body_end : (kind : BodyKind) (bytes more : List ℕ) → (kind ≡ ToEnd → ⊥) → IsBody kind bytes → IsBody kind (bytes ++ more) → more ≡ []
one_body_end Nothing bytes more own h h2 = nil_from_length more (omega (arith, ap length h, ap length h2, length-append bytes more))
one_body_end (Length n) bytes more own h h2 = nil_from_length more (omega (arith, h, h2, length-append bytes more))
one_body_end Chunked bytes more own h h2 = chunks_end bytes chunk.Start more h h2
one_body_end ToEnd bytes more own h h2 = absurd (own refl)

-- the fields give no body that runs to the end
length_tells : (values : List (List ℕ)) → length_kind values ≡ Ok ToEnd → ⊥
length_tells [] is = cc
length_tells (value ∷ []) is = by_tests (list_any (λ b. b == comma) value) (is_length value) is
  where
    by_tests : (t u : Bool) → cond t (Err SeveralLengths) (cond u (Ok (Length (digits_value 10 value))) (Err BadLength)) ≡ Ok ToEnd → ⊥
    by_tests true u e = cc
    by_tests false true e = cc
    by_tests false false e = cc
length_tells (value ∷ other ∷ values) is = cc

fields_tell : (codings lengths : List (List ℕ)) → field_kind codings lengths ≡ Ok ToEnd → ⊥
fields_tell [] lengths is = length_tells lengths is
fields_tell (coding ∷ []) lengths is = by_tests (str_eq_ignore_ascii_case (codes "chunked") coding) (length lengths == 0) is
  where
    by_tests : (t u : Bool) → cond t (cond u (Ok Chunked) (Err BothLengths)) (Err UnknownCoding) ≡ Ok ToEnd → ⊥
    by_tests true true e = cc
    by_tests true false e = cc
    by_tests false u e = cc
fields_tell (coding ∷ other ∷ codings) lengths is = cc

request_tells : (g : RequestHead) → request_kind g ≡ Ok ToEnd → ⊥
unfolding request_kind
request_tells g is = of_kind (kind_of_fields (read_fields g.fields)) (fields_tell (values_of (codes "Transfer-Encoding") (read_fields g.fields)) (values_of (codes "Content-Length") (read_fields g.fields))) is
  where
    of_kind : (k : Framed) → (k ≡ Ok ToEnd → ⊥) → with_host (read_fields g.fields) k ≡ Ok ToEnd → ⊥
    of_kind (Err fault) tells e = cc
    of_kind (Ok kind) tells e = by_test (length (values_of (codes "Host") (read_fields g.fields)) == 1) e
      where
        by_test : (t : Bool) → cond t (Ok kind) (Err BadHost) ≡ Ok ToEnd → ⊥
        by_test true e = tells e
        by_test false e = cc

-- a longer front has bytes behind a shorter one
split_front : (bytes : List ℕ) (j k : ℕ) → j ≤ k → k ≤ length bytes → (rest : List ℕ) × (take k bytes ≡ take j bytes ++ rest) × (length rest ≡ k - j)
split_front bytes j k le inside =
    let whole = take-append-drop j (take k bytes) in
    let front : take j (take k bytes) ≡ take j bytes = take-take j k bytes le in (
      drop j (take k bytes),
      sym whole ∙ ap (λ (xs : List ℕ). xs ++ drop j (take k bytes)) front,
      omega (arith, length-drop j (take k bytes), length-take k bytes),
    )

same_kind : (k l : BodyKind) (r s : Framed) → r ≡ s → r ≡ Ok k → s ≡ Ok l → k ≡ l
same_kind k l r s e a b = cc

requests_end : (bytes : List ℕ) (j k : ℕ) → j ≤ k → HasWholeRequest bytes j → HasWholeRequest bytes k → j ≡ k
requests_end bytes j k le (inside, (m, (g, body, x, is))) (inside', (m', (g', body', x', is'))) =
    let s = split_front bytes j k le inside' in
    let longer : ReadsRequest (take k bytes) g (body ++ s.0) =
    subst (λ (b : List ℕ). ReadsRequest b g (body ++ s.0)) (sym s.1) (ReadsRequest-append (take j bytes) g body s.0 x.begins.reads) in
    let u = request_unique (take k bytes) g g' (body ++ s.0) body' longer x'.begins.reads in
    let kind = same_kind x.kind x'.kind (request_kind g) (request_kind g') (ap request_kind u.0) x.framed x'.framed in
    let whole : IsBody x.kind (body ++ s.0) = subst (λ (b : List ℕ). IsBody x.kind b) (sym u.1) (subst (λ (l : BodyKind). IsBody l body') (sym kind) x'.whole) in
    let own : x.kind ≡ ToEnd → ⊥ = λ e. request_tells g (x.framed ∙ ap Ok e) in
    let none = one_body_end x.kind body s.0 own x.whole whole in
    omega (arith, ap length none, s.2)

pub one_request_end : (bytes : List ℕ) (j k : ℕ) → HasWholeRequest bytes j → HasWholeRequest bytes k → j ≡ k
one_request_end bytes j k x y =
    ⊎_elim (λ lt. requests_end bytes j k (omega (arith, lt)) x y) (λ le. sym (requests_end bytes k j le y x)) (cases_lt j k)

-- interim heads with more bytes behind them
pub interims_more : (gs : List ResponseHead) (bytes rest more : List ℕ) → BeginsInterims bytes gs rest → BeginsInterims (bytes ++ more) gs (rest ++ more)
interims_more [] bytes rest more is = ap (λ (xs : List ℕ). xs ++ more) is
interims_more (g ∷ gs) bytes rest more (middle, p, i, later) =
    (middle ++ more, ReadsResponse-append bytes g middle more p, i, interims_more gs middle rest more later)

-- an answer has one final head, and its body begins at one place
pub one_final_body : (gs hs : List ResponseHead) (b rest rest' body body' : List ℕ) (g h : ResponseHead)
    → BeginsInterims b gs rest → ReadsResponse rest g body → IsFinal g → BeginsInterims b hs rest' → ReadsResponse rest' h body' → IsFinal h
    → (g ≡ h) × (body ≡ body')
one_final_body [] [] b rest rest' body body' g h x p f y p' f' =
    response_unique b g h body body' (subst (λ (w : List ℕ). ReadsResponse w g body) (sym x) p) (subst (λ (w : List ℕ). ReadsResponse w h body') (sym y) p')
one_final_body [] (k ∷ hs) b rest rest' body body' g h x p f (m, q, i, y) p' f' =
    absurd (interim_final k g (response_unique b k g m body q (subst (λ (w : List ℕ). ReadsResponse w g body) (sym x) p)).0 i f)
one_final_body (k ∷ gs) [] b rest rest' body body' g h (m, q, i, x) p f y p' f' =
    absurd (interim_final k h (response_unique b k h m body' q (subst (λ (w : List ℕ). ReadsResponse w h body') (sym y) p')).0 i f')
one_final_body (k ∷ gs) (l ∷ hs) b rest rest' body body' g h (m, q, i, x) p f (n, q', i', y) p' f' =
    let u = response_unique b k l m n q q' in
    one_final_body gs hs m rest rest' body body' g h x p f (subst (λ (w : List ℕ). BeginsInterims w hs rest') (sym u.1) y) p' f'

answers_end : (m : MethodKind) (bytes : List ℕ) (j k : ℕ) → j ≤ k → HasWholeAnswer m bytes j → HasWholeAnswer m bytes k → j ≡ k
answers_end m bytes j k le (inside, (g, kind, x, own)) (inside', (g', kind', x', own')) =
    let s = split_front bytes j k le inside' in
    let begins : BeginsInterims (take k bytes) x.interims (x.rest ++ s.0) =
    subst (λ (b : List ℕ). BeginsInterims b x.interims (x.rest ++ s.0)) (sym s.1) (interims_more x.interims (take j bytes) x.rest s.0 x.begins) in
    let reads : ReadsResponse (x.rest ++ s.0) g (x.body ++ s.0) = ReadsResponse-append x.rest g x.body s.0 x.reads in
    let u = one_final_body x.interims x'.interims (take k bytes) (x.rest ++ s.0) x'.rest (x.body ++ s.0) x'.body g g' begins reads x.final x'.begins x'.reads x'.final in
    let same = same_kind kind kind' (answer_kind m g) (answer_kind m g') (ap (answer_kind m) u.0) x.framed x'.framed in
    let whole : IsBody kind (x.body ++ s.0) = subst (λ (b : List ℕ). IsBody kind b) (sym u.1) (subst (λ (l : BodyKind). IsBody l x'.body) (sym same) x'.whole) in
    let none = one_body_end kind x.body s.0 own x.whole whole in
    omega (arith, ap length none, s.2)

pub one_answer_end : (m : MethodKind) (bytes : List ℕ) (j k : ℕ) → HasWholeAnswer m bytes j → HasWholeAnswer m bytes k → j ≡ k
one_answer_end m bytes j k x y =
    ⊎_elim (λ lt. answers_end m bytes j k (omega (arith, lt)) x y) (λ le. sym (answers_end m bytes k j le y x)) (cases_lt j k)
