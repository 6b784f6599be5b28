-- What clap finds in the words, and why it refuses them.
use Rattle.std.proofs.Common.{◌≡◌, ℕ, List, [], Option, Some, None, refl, ap, ◌∙◌, inl, inr, subst, true, Ok}
use Rattle.std.specs.Prelude.{Result}
use Rattle.std.specs.Str.Parse.{ParsesUnsigned}
use Rattle.clap.specs.Words.{App, first_value, found_of, fault_of, first_of, is_simple, is_simple_and_free, HasKind, HasMatchesOf, kind_of, matches_of, one_text, Kinds, IsAmong}
use Rattle.clap.specs.Walk.{one_of}
use Rattle.clap.specs.Matches.{ReadsOne}
use Rattle.clap.specs.declared.error.Error.{Error}
use Rattle.clap.specs.declared.error.kind.ErrorKind.{ErrorKind}
use Rattle.clap.specs.declared.parser.matches.ArgMatches.{ArgMatches}
use Rattle.clap.proofs.OnLiterals.{clap_on_literals}
use Rattle.clap.proofs.WalkLemmas.{first_value-rows, one_text-rows}
use Rattle.hx_startup.specs.Options.{proxy_app, rows, RefusesBy, IsRefusedFor, SaysThreads}
use Rattle.hx_startup.specs.declared.options.Refusal.{Refusal}
use Rattle.hx_startup.specs.declared.options.Refusal.TheVariants as refusal

pub is_plain : is_simple proxy_app ≡ true
unfolding clap_on_literals
is_plain = refl

pub is_free : is_simple_and_free proxy_app ≡ true
unfolding clap_on_literals
is_free = refl

among_none : (kind : ErrorKind) (kinds : Kinds) → IsAmong kind kinds → kinds ≡ [] → ⊥
among_none kind kinds among none = subst (λ (ks : Kinds). IsAmong kind ks) none among

pub refused_for : (words : List (List ℕ)) (e : Error) (r : Refusal) → HasKind (fault_of proxy_app words) e → RefusesBy (kind_of e) r → IsRefusedFor words r
refused_for words e (refusal.Words text) (inl memory) by = absurd (by memory)
refused_for words e (refusal.Words text) (inr among) by = λ none. among_none (kind_of e) (fault_of proxy_app words) among none
refused_for words e refusal.NoMemory kind by = tt

-- the first value of an id, and the text that typed getters read
pub value_found : (a : App) (words : List (List ℕ)) (m : ArgMatches) (id : List ℕ) → a ≡ proxy_app → HasMatchesOf a words m
    → first_value (found_of m) id ≡ first_of id (rows words)
value_found a words m id is has =
    first_value-rows (found_of m) id ∙ ap (first_of id) ((has (ap is_simple is ∙ is_plain)).0 ∙ ap (λ (x : App). matches_of x words) is)

pub text_found : (a : App) (words : List (List ℕ)) (m : ArgMatches) (id : List ℕ) → a ≡ proxy_app → HasMatchesOf a words m
    → one_text (found_of m) id ≡ one_of id (rows words)
text_found a words m id is has =
    one_text-rows (found_of m) id ∙ ap (one_of id) ((has (ap is_simple is ∙ is_plain)).0 ∙ ap (λ (x : App). matches_of x words) is)

-- a number that was read from its text
pub says_threads : (E : Type 0) (G : List ℕ → Result ℕ E → Type 0) (o : Option (List ℕ)) (r : Option ℕ)
    → ((u : List ℕ) (x : Result ℕ E) → G u x → ParsesUnsigned 8 10 u x) → (o ≡ None → r ≡ None)
    → ((t : List ℕ) → o ≡ Some t → ReadsOne G t r) → SaysThreads o r
says_threads E G None r only none value = none refl
says_threads E G (Some t) None only none value = tt
says_threads E G (Some t) (Some n) only none value = (only t (Ok n) (value t refl)).1
