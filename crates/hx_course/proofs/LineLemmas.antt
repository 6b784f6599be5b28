-- Lines of other sessions leave what a session's records cover, and a session's own record carries it on.
use Rattle.std.proofs.Common.{◌≡◌, ℕ, ◌+◌, Bool, true, false, List, [], ◌∷◌, ◌++◌, refl, sym, ap, ◌∙◌, subst, append_assoc, append-nil, Option, Some, None, ne_eqb}
use Rattle.std.specs.Prelude.{◌&&◌, ◌==◌, IfSome}
use Rattle.hx_base.specs.declared.numbers.SessionNo.{SessionNo}
use Rattle.hx_base.specs.declared.numbers.ThreadNo.{ThreadNo}
use Rattle.hx_base.specs.declared.what.What.{What}
use Rattle.hx_link.specs.Told.{LinkState}
use Rattle.hx_record.specs.Covers.{CoversClient}
use Rattle.hx_record.specs.Tiles.{is_of, TilesClient}
use Rattle.hx_record.specs.declared.bytes.ClientBytes.{ClientBytes}
use Rattle.hx_record.specs.declared.served.Left.{Left}
use Rattle.hx_record.specs.declared.served.Served.{Served}
use Rattle.hx_record.specs.declared.served.Told.{Told}
use Rattle.hx_record.specs.declared.served.Told.TheVariants as line
use Rattle.hx_record.proofs.Following.{client_follows, client_apart, client_ends, tiles_apart}
use Rattle.hx_connecting.specs.Sessions.{SessionNow}
use Rattle.hx_session.specs.Records.{LeftStands}
use Rattle.hx_session.specs.Telling.{RecordsTold}
use Rattle.hx_course.specs.Clients.{CoversOf, IsTiled}
use Rattle.hx_course.specs.Lines.{served_line, left_line, lines_of, AreApart}

and_false : (a b : Bool) → b ≡ false → (a && b) ≡ false
and_false true b e = e
and_false false b e = refl

-- a line of session m isn't one of session n
of_other : (t u : ThreadNo) (n m : SessionNo) → (n.0 ≡ m.0 → ⊥) → is_of t n u m ≡ false
of_other t u n m ne = and_false (t.0 == u.0) (n.0 == m.0) (ne_eqb n.0 m.0 ne)

pub served_apart : (t : ThreadNo) (n m : SessionNo) (served : Option Served) → (n.0 ≡ m.0 → ⊥) → IfSome served (λ r. r.session ≡ m) → AreApart t n (served_line served)
served_apart t n m None ne is = tt
served_apart t n m (Some r) ne is = (of_other t r.worker n r.session (λ e. ne (e ∙ ap (λ (k : SessionNo). k.0) is)), tt)

pub left_apart : (t : ThreadNo) (n m : SessionNo) (left : Option Left) → (n.0 ≡ m.0 → ⊥) → IfSome left (λ l. l.session ≡ m) → AreApart t n (left_line left)
left_apart t n m None ne is = tt
left_apart t n m (Some l) ne is = (of_other t l.worker n l.session (λ e. ne (e ∙ ap (λ (k : SessionNo). k.0) is)), tt)

apart_both : (t : ThreadNo) (n : SessionNo) (xs ys : List Told) → AreApart t n xs → AreApart t n ys → AreApart t n (xs ++ ys)
apart_both t n [] ys a b = b
apart_both t n (x ∷ xs) ys a b = (a.0, apart_both t n xs ys a.1 b)

-- what a call of session m tells are lines of no other
pub lines_apart : (t : ThreadNo) (n m : SessionNo) (served : Option Served) (left : Option Left) → (n.0 ≡ m.0 → ⊥) → IfSome served (λ r. r.session ≡ m) → IfSome left (λ l. l.session ≡ m)
    → AreApart t n (lines_of served left)
lines_apart t n m served left ne a b = apart_both t n (served_line served) (left_line left) (served_apart t n m served ne a) (left_apart t n m left ne b)

-- such lines leave what is covered
pub covers_on : (t : ThreadNo) (n : SessionNo) (records lines : List Told) (asked gave count : ℕ) → AreApart t n lines → CoversClient t n records asked gave count → CoversClient t n (records ++ lines) asked gave count
covers_on t n records [] asked gave count a c = subst (λ (rs : List Told). CoversClient t n rs asked gave count) (sym (append-nil records)) c
covers_on t n records (x ∷ lines) asked gave count a c =
    subst (λ (rs : List Told). CoversClient t n rs asked gave count) (append_assoc records (x ∷ []) lines)
    (covers_on t n (records ++ x ∷ []) lines asked gave count a.1 (client_apart t n records x asked gave count a.0 c))

-- and what is tiled
tiles_on : (records lines : List Told) (c : ClientBytes) → AreApart c.worker c.session lines → TilesClient records c → TilesClient (records ++ lines) c
tiles_on records [] c a k = subst (λ (rs : List Told). TilesClient rs c) (sym (append-nil records)) k
tiles_on records (x ∷ lines) c a k =
    subst (λ (rs : List Told). TilesClient rs c) (append_assoc records (x ∷ []) lines) (tiles_on (records ++ x ∷ []) lines c a.1 (tiles_apart records c x a.0 k))

apart_as : (t u : ThreadNo) (n m : SessionNo) (lines : List Told) → t ≡ u → n ≡ m → AreApart u m lines → AreApart t n lines
apart_as t u n m lines e f a = subst (λ (x : ThreadNo). AreApart x n lines) (sym e) (subst (λ (x : SessionNo). AreApart u x lines) (sym f) a)

pub tiled_on : (t : ThreadNo) (n : SessionNo) (records lines : List Told) (l : LinkState) → AreApart t n lines → IsTiled t n records l → IsTiled t n (records ++ lines) l
tiled_on t n records lines l a k = λ c is. tiles_on records lines c (apart_as c.worker t c.session n lines is.worker is.session a) (k c is)

-- ---- a session's own lines

covers_as : (t u : ThreadNo) (n m : SessionNo) (records : List Told) (a b g h k j : ℕ) → t ≡ u → n ≡ m → a ≡ b → g ≡ h → k ≡ j → CoversClient t n records a g k → CoversClient u m records b h j
covers_as t u n m records a b g h k j e1 e2 e3 e4 e5 c =
    subst (λ (x : ThreadNo). CoversClient x m records b h j) e1
    (subst (λ (x : SessionNo). CoversClient t x records b h j) e2
    (subst (λ (x : ℕ). CoversClient t n records x h j) e3
    (subst (λ (x : ℕ). CoversClient t n records a x j) e4
    (subst (λ (x : ℕ). CoversClient t n records a g x) e5 c))))

-- its record, where it gives one, carries on what is covered
pub served_covers : (s a : SessionNow) (conn : Option What) (left : Option Left) (served : Option Served) (records : List Told) → a.worker ≡ s.worker → a.number ≡ s.number
    → RecordsTold s a conn left served → CoversOf s records → CoversOf a (records ++ served_line served)
served_covers s a conn left None records w n told c =
    subst (λ (rs : List Told). CoversOf a rs) (sym (append-nil records))
    (covers_as s.worker a.worker s.number a.number records s.asked a.asked s.gave a.gave s.served a.served (sym w) (sym n) (sym told.asked) (sym told.given) (sym told.served) c)
served_covers s a conn left (Some r) records w n told c =
    let more : CoversClient r.worker r.session (records ++ line.Served r ∷ []) r.ask.to r.gave.to (s.served + 1) = client_follows records r s.asked s.gave s.served
    (covers_as s.worker r.worker s.number r.session records s.asked s.asked s.gave s.gave s.served s.served (sym told.worker) (sym told.session) refl refl refl c)
    (record { ask = (told.ask, told.ask_rises); given = (told.gave, told.gave_rises); number = told.number }) in
    covers_as r.worker a.worker r.session a.number (records ++ line.Served r ∷ []) r.ask.to a.asked r.gave.to a.gave (s.served + 1) a.served
    (told.worker ∙ sym w) (told.session ∙ sym n) (sym told.asked) (sym told.given) (sym told.served) more

-- its Left ends it
pub left_tiles : (a : SessionNow) (l : Left) (records : List Told) → LeftStands a l → CoversOf a records → IsTiled a.worker a.number (records ++ line.Left l ∷ []) a.client
left_tiles a l records stands c = λ b is.
    client_ends records b l a.asked a.gave a.served (stands.worker ∙ sym is.worker) (stands.session ∙ sym is.session)
    (covers_as a.worker b.worker a.number b.session records a.asked a.asked a.gave a.gave a.served a.served (sym is.worker) (sym is.session) refl refl refl c)
    (record { from = stands.from; rises = stands.rises; to = stands.to ∙ sym is.took; all_given = stands.gave ∙ sym is.gave })
