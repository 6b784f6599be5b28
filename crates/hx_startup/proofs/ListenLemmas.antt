-- Listens that follow each other.
use Rattle.std.proofs.Common.{◌≡◌, ℕ, suc, ◌+◌, ◌<◌, List, [], ◌∷◌, ◌++◌, Option, Some, None, refl, sym, ap, ◌∙◌, subst, inl, inr, arith}
use Rattle.std.specs.Prelude.{take, length, option_map, get_or}
use Rattle.std.proofs.Math.Seq.{take-suc}
use Rattle.std.proofs.lemmas.List.{map-append, append-nil, append_assoc, length-take-le}
use Rattle.hx_base.specs.Counts.{Rose}
use Rattle.hx_base.specs.declared.address.Address.{Address}
use Rattle.hx_config.specs.declared.parts.Front.{Front}
use Rattle.hx_doors.specs.Doors.{DoorState}
use Rattle.hx_startup.specs.Listens.{GainsAll, Listens, FailsToListen, binds_at, binds_of}

gains_none : {A : Type 0} (o : Option (List A)) → o ≡ option_map (λ xs. xs ++ []) o
gains_none None = refl
gains_none (Some xs) = ap Some (sym (append-nil xs))

gains_told : {A : Type 0} (xs ys : List A) (a b c : Option (List A)) → b ≡ option_map (λ l. l ++ xs) a → c ≡ option_map (λ l. l ++ ys) b
    → c ≡ option_map (λ l. l ++ (xs ++ ys)) a
gains_told xs ys None b c e f = f ∙ ap (option_map (λ l. l ++ ys)) e
gains_told xs ys (Some l) b c e f = f ∙ ap (option_map (λ l. l ++ ys)) e ∙ ap Some (append_assoc l xs ys)

gains_lost : {A : Type 0} (ys : List A) (b c : Option (List A)) → b ≡ None → c ≡ option_map (λ l. l ++ ys) b → c ≡ None
gains_lost ys b c e f = f ∙ ap (option_map (λ l. l ++ ys)) e

gains_both : {A : Type 0} (xs ys : List A) (a b c : Option (List A)) → GainsAll xs a b → GainsAll ys b c → GainsAll (xs ++ ys) a c
gains_both xs ys a b c (inl e) (inl f) = inl (gains_told xs ys a b c e f)
gains_both xs ys a b c (inr e) (inl f) = inr (gains_lost ys b c e f)
gains_both xs ys a b c g (inr f) = inr f

-- no listen
pub listens_none : (a : DoorState) → Listens a a []
listens_none a = (refl, inl (gains_none a.listens))

-- some, and then more
pub listens_more : (a b c : DoorState) (xs ys : List (ℕ × Address)) → Listens a b xs → Listens b c ys → Listens a c (xs ++ ys)
listens_more a b c xs ys l m =
    (m.0 ∙ ap (λ (s : DoorState). record s { listens = c.listens }) l.0, gains_both xs ys a.listens b.listens c.listens l.1 m.1)

-- some, and then one that fails
pub fails_then : (a b c : DoorState) (xs : List (ℕ × Address)) → Listens a b xs → FailsToListen b c → FailsToListen a c
fails_then a b c xs l f = (
  f.0 ∙ ap (λ (s : DoorState). record s { faults = c.faults; listens = c.listens }) l.0,
  subst (λ (n : ℕ). Rose n c.faults) (ap (λ (s : DoorState). s.faults) l.0) f.1,
)

-- one address more
pub bind_more : (front : ℕ) (binds : List Address) (i : ℕ) (d : Address) → i < length binds
    → binds_at front (take (suc i) binds) ≡ binds_at front (take i binds) ++ (front, get_or binds i d) ∷ []
bind_more front binds i d lt = ap (binds_at front) (take-suc binds i d lt) ∙ map-append (λ a. (front, a)) (take i binds) (get_or binds i d ∷ [])

binds_more : (first : ℕ) (xs ys : List Front) → binds_of first (xs ++ ys) ≡ binds_of first xs ++ binds_of (first + length xs) ys
unfolding binds_of
binds_more first [] ys = ap (λ n. binds_of n ys) (let e : first ≡ first + 0 = omega arith in e)
binds_more first (x ∷ xs) ys =
    ap (λ l. binds_at first x.binds ++ l) (binds_more (first + 1) xs ys ∙ ap (λ n. binds_of (first + 1) xs ++ binds_of n ys) (let e : first + 1 + length xs ≡ first + suc (length xs) = omega arith in e))
    ∙ sym (append_assoc (binds_at first x.binds) (binds_of (first + 1) xs) (binds_of (first + suc (length xs)) ys))

pub binds_none : binds_of 0 [] ≡ []
unfolding binds_of
binds_none = refl

-- no front yet
pub listens_first : (a : DoorState) → Listens a a (binds_of 0 [])
listens_first a = subst (λ (l : List (ℕ × Address)). Listens a a l) (sym binds_none) (listens_none a)

front_alone : (n : ℕ) (f : Front) → binds_of n (f ∷ []) ≡ binds_at n f.binds
unfolding binds_of
front_alone n f = append-nil (binds_at n f.binds)

-- one front more
pub front_more : (fronts : List Front) (i : ℕ) (d : Front) → i < length fronts
    → binds_of 0 (take (i + 1) fronts) ≡ binds_of 0 (take i fronts) ++ binds_at i (get_or fronts i d).binds
front_more fronts i d lt =
    ap (λ n. binds_of 0 (take n fronts)) (let e : i + 1 ≡ suc i = omega arith in e)
    ∙ ap (binds_of 0) (take-suc fronts i d lt)
    ∙ (binds_more 0 (take i fronts) (get_or fronts i d ∷ []) ∙ ap (λ n. binds_of 0 (take i fronts) ++ binds_of n (get_or fronts i d ∷ [])) (let e : 0 + length (take i fronts) ≡ length (take i fronts) = omega arith in e))
    ∙ ap (λ n. binds_of 0 (take i fronts) ++ binds_of n (get_or fronts i d ∷ [])) (length-take-le i fronts (omega (arith, lt)))
    ∙ ap (λ l. binds_of 0 (take i fronts) ++ l) (front_alone i (get_or fronts i d))
