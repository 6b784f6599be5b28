-- A server is told by its name, since no two of a transcript have one name.
use Rattle.std.proofs.Common.{◌≡◌, ℕ, zero, suc, ◌<◌, Bool, true, false, ◌&&◌, List, [], ◌∷◌, ◌++◌, All, length, refl, sym, ap, ◌∙◌, append_assoc, arith}
use Rattle.std.specs.Prelude.{decimal, codes, slice_get, if◌then◌else◌}
use Rattle.std.specs.Str.{bytes_eq}
use Rattle.std.specs.List.{list_all}
use Rattle.std.proofs.lemmas.Bool.{and_parts}
use Rattle.std.proofs.lemmas.List.Elements.{All-head, All-tail}
use Rattle.std.proofs.lemmas.Slice.Eq.{bytes_eq-Decides}
use Rattle.hx_base.specs.declared.numbers.ServerNo.{ServerNo}
use Rattle.hx_base.specs.declared.numbers.ConnId.{ConnId}
use Rattle.hx_script.specs.declared.transcript.ServerPart.{ServerPart}
use Rattle.hx_script.specs.RecordLines.{name_or_none, conn_text}
use Rattle.hx_script.specs.PrintedForm.{is_name_byte, IsToldServer, OtherName, OtherNames}

-- the servers have names, and no two of them one
pub record AreNamed (servers : List ServerPart) : Type 0 where
  pub told : All IsToldServer servers
  pub others : OtherNames servers

-- the names of the server of that number
abbrev pub back_at : List ServerPart → ℕ → List ℕ
back_at [] n = []
back_at (p ∷ servers) zero = p.back
back_at (p ∷ servers) (suc n) = back_at servers n

abbrev pub server_at : List ServerPart → ℕ → List ℕ
server_at [] n = []
server_at (p ∷ servers) zero = p.server
server_at (p ∷ servers) (suc n) = server_at servers n

-- the number of the first server of that name
abbrev pub found_at : List ServerPart → List ℕ → List ℕ → ℕ
found_at [] back server = 0
found_at (p ∷ servers) back server =
    if bytes_eq back p.back && bytes_eq server p.server then 0 else suc (found_at servers back server)

pub named : (servers : List ServerPart) (n : ℕ) → n < length servers → All IsToldServer servers
    → (list_all is_name_byte (back_at servers n) ≡ true) × (list_all is_name_byte (server_at servers n) ≡ true)
named [] n lt told = absurd (omega arith)
named (p ∷ servers) zero lt told = let is = All-head IsToldServer p servers told in (is.0.1, is.1.1)
named (p ∷ servers) (suc n) lt told = named servers n (omega arith) (All-tail IsToldServer p servers told)

same_name : (xs : List ℕ) → bytes_eq xs xs ≡ true
same_name xs = (bytes_eq-Decides xs xs).1 refl

not_true : (b : Bool) → (b ≡ true → ⊥) → b ≡ false
not_true true never = absurd (never refl)
not_true false never = refl

other_name : (p : ServerPart) (servers : List ServerPart) (n : ℕ) → n < length servers → All (OtherName p) servers
    → (bytes_eq (back_at servers n) p.back && bytes_eq (server_at servers n) p.server) ≡ false
other_name p [] n lt others = absurd (omega arith)
other_name p (q ∷ servers) zero lt others =
    not_true _ (λ both. let parts = and_parts (bytes_eq q.back p.back) (bytes_eq q.server p.server) both in
    All-head (OtherName p) q servers others (sym ((bytes_eq-Decides q.back p.back).0 parts.0), sym ((bytes_eq-Decides q.server p.server).0 parts.1)))
other_name p (q ∷ servers) (suc n) lt others = other_name p servers n (omega arith) (All-tail (OtherName p) q servers others)

pub found : (servers : List ServerPart) (n : ℕ) → n < length servers → OtherNames servers
    → found_at servers (back_at servers n) (server_at servers n) ≡ n
found [] n lt others = absurd (omega arith)
found (p ∷ servers) zero lt others = rw (same_name p.back) (rw (same_name p.server) refl)
found (p ∷ servers) (suc n) lt others =
    rw (other_name p servers n (omega arith) others.0) (ap (λ (k : ℕ). suc k) (found servers n (omega arith) others.1))

name_is : (servers : List ServerPart) (n : ℕ) → n < length servers
    → name_or_none (slice_get servers n) ≡ back_at servers n ++ codes "/" ++ server_at servers n
name_is [] n lt = absurd (omega arith)
name_is (p ∷ servers) zero lt = refl
name_is (p ∷ servers) (suc n) lt = name_is servers n (omega arith)

-- backend/server#id
pub conn_is : (servers : List ServerPart) (number : ServerNo) (id : ConnId) → number.0 < length servers → (r : List ℕ)
    → conn_text servers number id ++ r
    ≡ back_at servers number.0 ++ (codes "/" ++ (server_at servers number.0 ++ (codes "#" ++ (decimal id.0 ++ r))))
unfolding conn_text
conn_is servers number id lt r = ap (λ (name : List ℕ). (name ++ codes "#" ++ decimal id.0) ++ r) (name_is servers number.0 lt) ∙ simp append_assoc
