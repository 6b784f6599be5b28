-- What a call's lines add to the exchanges of a connection.
use Rattle.std.proofs.Common.{◌≡◌, ℕ, ◌+◌, Bool, true, false, List, [], ◌∷◌, ◌++◌, refl, sym, ap, ◌∙◌, subst, append_assoc, append-nil, Option, Some, None, IsSome, eq-eqb, ne_eqb}
use Rattle.std.specs.Prelude.{IfSome, ◌&&◌, ◌==◌, if◌then◌else◌}
use mathlib.Core.Logic.{dite}
use native.Mathlib.Decide.{ℕ_discrete}
use Rattle.hx_base.specs.declared.numbers.ConnId.{ConnId}
use Rattle.hx_base.specs.declared.numbers.ServerNo.{ServerNo}
use Rattle.hx_base.specs.declared.what.LinkTold.{LinkTold}
use Rattle.hx_conn.specs.WhatTold.{told_of}
use Rattle.hx_record.specs.Covers.{CoversConn, FollowsConn}
use Rattle.hx_record.specs.Tiles.{carried_if, carried_by}
use Rattle.hx_record.specs.declared.served.Carried.{Carried}
use Rattle.hx_record.specs.declared.served.Kind.{Kind}
use Rattle.hx_record.specs.declared.served.Kind.TheVariants as kind
use Rattle.hx_record.specs.declared.served.Left.{Left}
use Rattle.hx_record.specs.declared.served.Served.{Served}
use Rattle.hx_record.specs.declared.served.Told.{Told}
use Rattle.hx_record.specs.declared.served.Told.TheVariants as line
use Rattle.hx_record.proofs.Following.{conn_follows, conn_apart}
use Rattle.hx_connecting.specs.Ways.{IsOwn}
use Rattle.hx_course.specs.Lines.{served_line, left_line, lines_of}

pub conn_as : (server server' : ServerNo) (id id' : ConnId) (records : List Told) (a b g h k j : ℕ) → server ≡ server' → id ≡ id' → a ≡ b → g ≡ h → k ≡ j → CoversConn server id records a g k → CoversConn server' id' records b h j
conn_as server server' id id' records a b g h k j e1 e2 e3 e4 e5 c =
    subst (λ (x : ServerNo). CoversConn x id' records b h j) e1
    (subst (λ (x : ConnId). CoversConn server x records b h j) e2
    (subst (λ (x : ℕ). CoversConn server id records x h j) e3
    (subst (λ (x : ℕ). CoversConn server id records a x j) e4
    (subst (λ (x : ℕ). CoversConn server id records a g x) e5 c))))

-- a Left names no connection
left_on : (server : ServerNo) (id : ConnId) (records : List Told) (left : Option Left) (sent took count : ℕ) → CoversConn server id records sent took count → CoversConn server id (records ++ left_line left) sent took count
left_on server id records None sent took count c = subst (λ (rs : List Told). CoversConn server id rs sent took count) (sym (append-nil records)) c
left_on server id records (Some l) sent took count c = conn_apart server id records (line.Left l) sent took count refl c

both_lines : (server : ServerNo) (id : ConnId) (records : List Told) (served : Option Served) (left : Option Left) (sent took count : ℕ) → CoversConn server id (records ++ served_line served) sent took count
    → CoversConn server id (records ++ lines_of served left) sent took count
both_lines server id records served left sent took count c =
    subst (λ (rs : List Told). CoversConn server id rs sent took count) (append_assoc records (served_line served) (left_line left))
    (left_on server id (records ++ served_line served) left sent took count c)

-- a record that isn't of the connection, or none
pub lines_none : (server : ServerNo) (id : ConnId) (records : List Told) (served : Option Served) (left : Option Left) (sent took count : ℕ) → IfSome served (λ r. carried_by server id r.kind ≡ [])
    → CoversConn server id records sent took count → CoversConn server id (records ++ lines_of served left) sent took count
lines_none server id records None left sent took count e c =
    both_lines server id records None left sent took count (subst (λ (rs : List Told). CoversConn server id rs sent took count) (sym (append-nil records)) c)
lines_none server id records (Some r) left sent took count e c =
    both_lines server id records (Some r) left sent took count (conn_apart server id records (line.Served r) sent took count e c)

-- one that is, and stands right behind
pub lines_one : (server : ServerNo) (id : ConnId) (records : List Told) (r : Served) (c : Carried) (left : Option Left) (sent took count : ℕ) → carried_by server id r.kind ≡ c ∷ [] → FollowsConn c sent took count
    → CoversConn server id records sent took count → CoversConn server id (records ++ lines_of (Some r) left) c.sent.to c.took.to (count + 1)
lines_one server id records r c left sent took count e f v =
    both_lines server id records (Some r) left c.sent.to c.took.to (count + 1) (conn_follows server id records (line.Served r) c sent took count e v f)

and_false : (a b : Bool) → b ≡ false → (a && b) ≡ false
and_false true b e = e
and_false false b e = refl

pub carried_here : (server : ServerNo) (id : ConnId) (c : Carried) → c.server.0 ≡ server.0 → c.id.0 ≡ id.0 → carried_if server id c ≡ c ∷ []
carried_here server id c e f =
    let a : (c.server.0 == server.0) ≡ true = eq-eqb c.server.0 server.0 e in
    let b : (c.id.0 == id.0) ≡ true = eq-eqb c.id.0 id.0 f in
    ap (λ (x : Bool). if x && (c.id.0 == id.0) then c ∷ [] else []) a ∙ ap (λ (x : Bool). if x then c ∷ [] else []) b

pub carried_past : (server : ServerNo) (id : ConnId) (c : Carried) → (c.server.0 ≡ server.0 → c.id.0 ≡ id.0 → ⊥) → carried_if server id c ≡ []
carried_past server id c other = dite (ℕ_discrete c.server.0 server.0)
    (λ (e : c.server.0 ≡ server.0).
    ap (λ (x : Bool). if x then c ∷ [] else []) (and_false (c.server.0 == server.0) (c.id.0 == id.0) (ne_eqb c.id.0 id.0 (λ f. other e f))))
    (λ ne. ap (λ (x : Bool). if x && (c.id.0 == id.0) then c ∷ [] else []) (ne_eqb c.server.0 server.0 ne))

pub own_none : (server : ServerNo) (id : ConnId) (k : Kind) → IsOwn k → carried_by server id k ≡ []
own_none server id (kind.Passed c) o = absurd o
own_none server id (kind.Cut c why) o = absurd o
own_none server id (kind.Own status) o = refl

-- ---- told links

pub told_parts : (a b : Option (List ℕ)) (e : Bool) (l : LinkTold) → told_of a b e ≡ Some l → (a ≡ Some l.sent) × (b ≡ Some l.taken)
told_parts None None e l q = cc
told_parts None (Some y) e l q = cc
told_parts (Some x) None e l q = cc
told_parts (Some x) (Some y) e l q =
    let is : record { sent = x; taken = y; ended = e } ≡ l = some_told q in
    (ap (λ (z : LinkTold). Some z.sent) is, ap (λ (z : LinkTold). Some z.taken) is)
  where
    some_told : {A : Type 0} {u v : A} → Some u ≡ Some v → u ≡ v
    some_told p = cc

pub is_some : {A : Type 0} (o : Option A) → IsSome o → (x : A) × (o ≡ Some x)
is_some None i = cc
is_some (Some x) i = (x, refl)

pub some_is_there : {A : Type 0} (o : Option A) (x : A) → o ≡ Some x → IsSome o
some_is_there o x e = subst (λ p. IsSome p) (sym e) refl
