-- The lines of a server and of its marks are told from those of every other.
use Rattle.std.proofs.Common.{◌≡◌, ℕ, Bool, true, List, [], ◌∷◌, ◌++◌, All, Option, None, get_or, refl, sym, ap, ap₂, ◌∙◌, append_assoc, lit<}
use Rattle.std.specs.Prelude.{codes, ◌==◌, not, if◌then◌else◌}
use Rattle.std.specs.List.{list_all, flat_map}
use Rattle.std.specs.Str.{bytes_eq}
use Rattle.hx_base.specs.declared.rules.Mode.{Mode}
use Rattle.hx_base.specs.declared.rules.Mode.TheVariants as mode
use Rattle.hx_pool.specs.declared.entries.Entry.{Entry}
use Rattle.hx_pool.specs.declared.entries.Entry.TheVariants as entry
use Rattle.hx_script.specs.declared.transcript.ServerPart.{ServerPart}
use Rattle.hx_script.specs.MarkLines.{mode_text, mark_line, round_line, server_line, server_lines}
use Rattle.hx_script.specs.PrintedForm.{is_name_byte, IsName, IsToldServer}
use Rattle.hx_script.specs.Numbers.{IsNumber, IsLimit, rule_numbers, HasServerNumbers}
use Rattle.hx_script.proofs.FormLemmas.{Value, number, limit, name, a_number, a_limit, a_name, Form, text, AreOf, IsLines, same_line, number_at, name_at}
use Rattle.hx_script.proofs.LineLists.{AreLines, IsBehind, simple_lines, same_lines}
use Rattle.hx_script.proofs.MarkTextLemmas.{IsMark, mark_lines}

-- ---- the line of a server

-- a server whose marks are left out
abbrev bare : ServerPart → ServerPart
bare p = record p { marks = [] }

abbrev pub IsServer : ServerPart → Type 0
IsServer p = IsToldServer p × HasServerNumbers p

abbrev IsBare : ServerPart → Type 0
IsBare p = IsName p.back × IsName p.server × IsLimit p.rules.max × All IsNumber (rule_numbers p.rules) × (p.marks ≡ [])

abbrev limit_of : Value → Option ℕ
limit_of (limit max) = max
limit_of _ = None

abbrev mode_of : List ℕ → Mode
mode_of word =
    if bytes_eq word (codes "never") then mode.Never
    else if bytes_eq word (codes "safe") then mode.Safe
    else if bytes_eq word (codes "aggressive") then mode.Aggressive else mode.Always

abbrev server_values : ServerPart → List Value
server_values p = name p.back ∷ name p.server ∷ name (mode_text p.rules.mode) ∷ limit p.rules.max ∷ number p.rules.low ∷ number p.rules.delay.0 ∷ []

abbrev server_back : List Value → ServerPart
server_back vs = record {
  back = name_at 0 vs;
  server = name_at 1 vs;
  rules = record { mode = mode_of (name_at 2 vs); max = limit_of (get_or vs 3 (name [])); low = number_at 4 vs; delay = record { 0 = number_at 5 vs } };
  marks = [];
}

mode_back : (m : Mode) → mode_of (mode_text m) ≡ m
mode_back mode.Never = refl
mode_back mode.Safe = refl
mode_back mode.Aggressive = refl
mode_back mode.Always = refl

mode_named : (m : Mode) → list_all is_name_byte (mode_text m) ≡ true
mode_named mode.Never = refl
mode_named mode.Safe = refl
mode_named mode.Aggressive = refl
mode_named mode.Always = refl

abbrev server_form : Form
server_form = (a_name, codes "/") ∷ (a_name, codes " ") ∷ (a_name, codes " ") ∷ (a_limit, codes " ") ∷ (a_number, codes " ") ∷ (a_number, codes "\n") ∷ []

server_is : (p : ServerPart) (r : List ℕ) → server_line p ++ r ≡ 115 ∷ codes "erver " ++ text server_form (server_values p) r
unfolding server_line
server_is p r = simp append_assoc

server_fits : (p : ServerPart) → IsBare p → AreOf server_form (server_values p)
server_fits p ok = (ok.0.1, (ok.1.1, (mode_named p.rules.mode, (ok.2, (ok.3 0 0 (lit< tt), (ok.3 1 0 (lit< tt), tt))))))

server_backed : (p : ServerPart) → IsBare p → server_back (server_values p) ≡ p
server_backed p ok = rw (mode_back p.rules.mode) (ap (λ (ms : List Entry). record p { marks = ms }) (sym ok.4))

bare_lines : IsLines IsBare server_line
bare_lines = record {
  first = λ p. 115;
  word = λ k. codes "erver ";
  form = λ k. server_form;
  values = server_values;
  back = λ k. server_back;
  is = λ p r ok. server_is p r;
  formed = λ p ok. refl;
  fits = server_fits;
  backed = server_backed;
}

-- ---- its marks

-- no server and no heading of a part begins like a mark: their second byte is an e
abbrev begins_mark : List ℕ → Bool
begins_mark r = not (get_or r 1 0 == 101)

mark_starts : (e : Entry) (r : List ℕ) → IsMark e → begins_mark (mark_line e ++ r) ≡ true
unfolding mark_line round_line
mark_starts (entry.Open t n id) r ok = refl
mark_starts (entry.Park t n id place uses) r ok = refl
mark_starts (entry.Take t n first place id uses) r ok = refl
mark_starts (entry.Close t n id) r ok = refl
mark_starts (entry.SetGate t draining) r ok = refl
mark_starts (entry.Round t k old) r ok = refl
mark_starts e r ok = absurd ok.0

abbrev marks_apart : AreLines IsMark mark_line
marks_apart = simple_lines IsMark mark_line begins_mark mark_starts (same_line IsMark mark_line mark_lines)

are_marks : (p : ServerPart) → IsServer p → All IsMark p.marks
are_marks p ok = λ k d lt. (ok.0.2 k d lt, ok.1.marks k d lt)

-- ---- servers one after the other

abbrev pub begins_server : List ℕ → Bool
begins_server r = get_or r 0 0 == 115

abbrev pub behind_marks : List ℕ → Bool
behind_marks r = get_or r 1 0 == 101

pub server_starts : (p : ServerPart) (r : List ℕ) → IsServer p → (begins_server (server_lines p ++ r) ≡ true) × (behind_marks (server_lines p ++ r) ≡ true)
unfolding server_lines server_line
server_starts p r ok = (refl, refl)

behind : (r : List ℕ) → behind_marks r ≡ true → IsBehind marks_apart r
behind r is = record { other = rw is refl; follows = refl }

is_bare : (p : ServerPart) → IsServer p → IsBare (bare p)
is_bare p ok = (ok.0.0, ok.0.1, ok.1.max, ok.1.rules, refl)

pub server_tells : (p q : ServerPart) (r s : List ℕ) → IsServer p → IsServer q → behind_marks r ≡ true → behind_marks s ≡ true
    → server_lines p ++ r ≡ server_lines q ++ s → (p ≡ q) × (r ≡ s)
unfolding server_lines server_line
server_tells p q r s x y ends stop is =
    let e : server_line (bare p) ++ (flat_map mark_line p.marks ++ r) ≡ server_line (bare q) ++ (flat_map mark_line q.marks ++ s) =
    sym (append_assoc (server_line p) (flat_map mark_line p.marks) r) ∙ is ∙ append_assoc (server_line q) (flat_map mark_line q.marks) s in
    let line = same_line IsBare server_line bare_lines (bare p) (bare q) (flat_map mark_line p.marks ++ r) (flat_map mark_line q.marks ++ s) (is_bare p x) (is_bare q y) e in
    let marks = same_lines IsMark mark_line marks_apart p.marks q.marks r s (are_marks p x) (are_marks q y) (behind r ends) (behind s stop) line.1 in
    (ap₂ (λ (part : ServerPart) (ms : List Entry). record part { marks = ms }) line.0 marks.0, marks.1)

abbrev pub servers_apart : AreLines IsServer server_lines
servers_apart = record { begins = begins_server; follows = behind_marks; starts = server_starts; tells = server_tells }
