-- The first file of a name among the files of a cabinet.
use Rattle.std.proofs.Common.{◌≡◌, ℕ, ◌+◌, ◌<◌, List, ◌∷◌, ◌++◌, length, take, drop, map, get_or, Option, Some, None, All, IfSome, refl, sym, ap, ◌∙◌, subst}
use Rattle.std.proofs.lemmas.List.{take-append-drop, drop_more, map-append}
use Rattle.std.proofs.lemmas.List.Elements.{All-map, All-get_or}
use Rattle.hx_link.specs.MemorySources.{MemorySourceNow}
use Rattle.hx_doors.specs.Cabinets.{NamesOther, TakesFirst}
use Rattle.hx_doors.specs.MemoryCabinets.{bytes_of, file_told}

-- the file at i is the first of its name, where those before it have others
pub takes_first : {X : Type 0} (name : List ℕ) (files new : List (List ℕ × X)) (i : ℕ) (r : List ℕ × X)
    → i < length files → r ≡ get_or files i r → r.0 ≡ name → All (NamesOther name) (take i files)
    → new ≡ take i files ++ drop (i + 1) files → TakesFirst name r.1 files new
takes_first name files new i r within is named earlier left =
    let here : drop i files ≡ (name, r.1) ∷ drop (i + 1) files =
    drop_more files i r within ∙ ap (λ f. f ∷ drop (i + 1) files) (sym is ∙ (λ k. (named k, r.1))) in record {
      before = take i files;
      after = drop (i + 1) files;
      whole = sym (take-append-drop i files) ∙ ap (λ l. take i files ++ l) here;
      earlier = earlier;
      left = left;
    }

-- what the cabinet tells of it
pub told_first : (name : List ℕ) (s : MemorySourceNow) (files new : List (List ℕ × MemorySourceNow)) → TakesFirst name s files new
    → TakesFirst name (bytes_of s.state.left) (map file_told files) (map file_told new)
told_first name s files new first = record {
  before = map file_told first.before;
  after = map file_told first.after;
  whole = ap (map file_told) first.whole ∙ map-append file_told first.before ((name, s) ∷ first.after);
  earlier = All-map (NamesOther name) file_told first.before first.earlier;
  left = ap (map file_told) first.left ∙ map-append file_told first.before first.after;
}

pub left_told : (o : Option (List ℕ)) → IfSome o (λ xs. xs ≡ bytes_of o)
left_told None = tt
left_told (Some xs) = refl

-- a file that was found among these, and taken out of them
pub found_first : {X : Type 0} (name : List ℕ) (seen files new : List (List ℕ × X)) (i : ℕ) (r : List ℕ × X) → seen ≡ files
    → i < length seen → ((f : List ℕ × X) → (get_or seen i f).0 ≡ name) → All (NamesOther name) (take i seen)
    → r ≡ get_or files i r → new ≡ take i files ++ drop (i + 1) files → TakesFirst name r.1 files new
found_first {X} name seen files new i r same within named earlier is left =
    let P : List (List ℕ × X) → Type 0 = λ l. r ≡ get_or l i r → new ≡ take i l ++ drop (i + 1) l → TakesFirst name r.1 l new in
    subst P same (λ is' left'. takes_first name seen new i r within is' (ap (λ f. f.0) is' ∙ named r) earlier left') is left

-- what holds of each file holds of the one that was found
pub found_holds : {X : Type 0} (P : List ℕ × X → Type 0) (seen files : List (List ℕ × X)) (i : ℕ) (r : List ℕ × X) → seen ≡ files
    → i < length seen → r ≡ get_or files i r → All P files → P r
found_holds {X} P seen files i r same within is all =
    subst P (sym is) (All-get_or P files i r (subst (λ (l : List (List ℕ × X)). i < length l) same within) all)
