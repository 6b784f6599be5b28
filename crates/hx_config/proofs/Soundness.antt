-- Each line keeps the limits and the numbers of the servers.
use Rattle.std.proofs.Common.{◌≡◌, ℕ, ◌+◌, ◌<◌, ◌≤◌, Bool, true, false, List, [], ◌∷◌, ◌++◌, length, map, Some, Result, Ok, Err, refl, sym, ap, ◌∙◌, append_assoc, arith}
use Rattle.std.specs.Prelude.{IfOk, is_err, ⊤, ◌&&◌, ◌||◌, ◌==◌, nat_le, cond, if◌then◌else◌, codes}
use Rattle.std.specs.List.{list_all}
use Rattle.std.proofs.lemmas.List.{append-nil, length-append, length-map}
use Rattle.std.proofs.lemmas.Bool.{and_parts, and_from, eq-eqb, leb-true, leb-false, le-leb, or_parts, or_left, or_right}
use Rattle.hx_base.specs.declared.rules.Mode.{Mode}
use Rattle.std.proofs.lemmas.Result.{IfOk-at_ok}
use Rattle.hx_config_parts.specs.declared.fault.Rule.{Rule}
use Rattle.hx_config_parts.specs.declared.fault.Rule.TheVariants.{BadNumber, UnknownWord, WrongPlace, DoubleName, TooMany}
use Rattle.hx_config.specs.Places.{stands_in, timeout_words, treatment_of, option_lines}
use Rattle.hx_config_parts.specs.declared.fault.Flaw.{Flaw}
use Rattle.hx_config.specs.declared.keywords.FirstWord.{FirstWord}
use Rattle.hx_config.specs.declared.keywords.FirstWord.TheVariants as first
use Rattle.hx_config.specs.declared.keywords.Treatment.{Treatment}
use Rattle.hx_config.specs.declared.keywords.Treatment.TheVariants as treatment
use Rattle.hx_config.specs.declared.keywords.TimeoutWord.{TimeoutWord}
use Rattle.hx_config.specs.declared.parts.Server.{Server}
use Rattle.hx_config.specs.declared.sections.Kind.{Kind}
use Rattle.hx_config.specs.declared.sections.Kind.TheVariants as kind
use Rattle.hx_config.specs.declared.sections.Values.{Values}
use Rattle.hx_config.specs.declared.sections.Section.{Section}
use Rattle.hx_config.specs.declared.sections.Frontend.{Frontend}
use Rattle.hx_config.specs.declared.sections.Backend.{Backend}
use Rattle.hx_config.specs.declared.reading.Reading.{Reading}
use Rattle.hx_config_parts.specs.declared.fault.Refusal.{Refusal}
use Rattle.hx_config_parts.specs.Faults.{◌>>=◌, Gives}
use Rattle.hx_config_parts.specs.Lexical.{no_words, words_of, word_at, at_end}
use Rattle.hx_config.specs.declared.options.Chosen.{Chosen}
use Rattle.hx_base.specs.declared.address.Address.{Address}
use Rattle.hx_config_parts.specs.Addresses.{server_address, bind_address, name_of}
use Rattle.hx_config.specs.Keywords.{first_word}
use Rattle.hx_config_parts.specs.Tables.{found, is_one_of}
use Rattle.hx_config.specs.Options.{chosen_by}
use Rattle.hx_base.specs.Names.{is_name}
use Rattle.hx_config.specs.Limits.{are_numbered, are_servers_named, has_names}
use Rattle.hx_config_parts.specs.Numbers.{number_in, is_number, value, time_of}
use Rattle.hx_config.specs.Sections.{has_front, has_back, with_mode, front_of, back_of, closed, nothing_read, passing, with_values, empty_section, usual_values, first_values, has_server_named, is_double, is_full}
use Rattle.hx_config.specs.Sound.{one_if, ended_servers, servers_so_far, few_binds, HasNames, IsSound}
use Rattle.hx_config.specs.Statements as means
use Rattle.hx_config.specs.Meaning.{located, lines_read}

-- what is read is sound, where something is read
abbrev pub Keeps : Result Reading Rule → Type 0
Keeps x = IfOk x IsSound

kept_passing : (line : ℕ) (r : Reading) → IsSound r → IsSound (passing line r)
kept_passing line r h = record {
  threads = h.threads;
  fronts = h.fronts;
  backs = h.backs;
  binds = h.binds;
  current_binds = h.current_binds;
  numbered = h.numbered;
  count = h.count;
  few = h.few;
  names = h.names;
  stray = h.stray;
}

kept_values : (v : Values) (r : Reading) → IsSound r → IsSound (with_values v r)
kept_values v r h = record {
  threads = h.threads;
  fronts = h.fronts;
  backs = h.backs;
  binds = h.binds;
  current_binds = h.current_binds;
  numbered = h.numbered;
  count = h.count;
  few = h.few;
  names = h.names;
  stray = h.stray;
}

kept_if : (passed : Bool) (line : ℕ) (r : Reading) → IsSound r → IsSound (means.passing_if passed line r)
kept_if true line r h = kept_passing line r h
kept_if false line r h = h

-- numbers of servers

number_pushed : (n : ℕ) (ss : List Server) (s : Server) → are_numbered n ss ≡ true → s.no.0 ≡ n + length ss → are_numbered n (ss ++ s ∷ []) ≡ true
unfolding are_numbered
number_pushed n [] s each is = and_from _ _ (eq-eqb s.no.0 n (omega arith)) refl
number_pushed n (t ∷ ts) s each is =
    let parts = and_parts (t.no.0 == n) (are_numbered (n + 1) ts) each in
    and_from _ _ parts.0 (number_pushed (n + 1) ts s parts.1 (omega arith))

modes_set : (m : Mode) (n : ℕ) (ts : List Server) → are_numbered n (map (with_mode m) ts) ≡ are_numbered n ts
unfolding are_numbered
modes_set m n [] = refl
modes_set m n (t ∷ ts) = ap (λ (b : Bool). (t.no.0 == n) && b) (modes_set m (n + 1) ts)

modes_set_behind : (m : Mode) (n : ℕ) (ss ts : List Server) → are_numbered n (ss ++ map (with_mode m) ts) ≡ are_numbered n (ss ++ ts)
unfolding are_numbered
modes_set_behind m n [] ts = modes_set m n ts
modes_set_behind m n (s ∷ ss) ts = ap (λ (b : Bool). (s.no.0 == n) && b) (modes_set_behind m (n + 1) ss ts)

servers_pushed : (backs : List Backend) (b : Backend) → ended_servers (backs ++ b ∷ []) ≡ ended_servers backs ++ b.back.servers
servers_pushed [] b = append-nil b.back.servers
servers_pushed (a ∷ backs) b = ap (λ (ss : List Server). a.back.servers ++ ss) (servers_pushed backs b) ∙ sym (append_assoc a.back.servers (ended_servers backs) b.back.servers)

binds_pushed : (fronts : List Frontend) (f : Frontend) → few_binds fronts ≡ true → length f.binds ≤ 16 → few_binds (fronts ++ f ∷ []) ≡ true
binds_pushed [] f each few = and_from _ _ (le-leb (length f.binds) 16 few) refl
binds_pushed (g ∷ fronts) f each few =
    let parts = and_parts (nat_le (length g.binds) 16) (few_binds fronts) each in
    and_from _ _ parts.0 (binds_pushed fronts f parts.1 few)

-- a section that ends

more_fronts : (b : Bool) (fronts : List Frontend) (f : Frontend) → length fronts + one_if b ≤ 16 → length (cond b (fronts ++ f ∷ []) fronts) + 0 ≤ 16
more_fronts true fronts f h = omega (arith, length-append fronts (f ∷ []))
more_fronts false fronts f h = h

more_backs : (b : Bool) (backs : List Backend) (f : Backend) → length backs + one_if b ≤ 16 → length (cond b (backs ++ f ∷ []) backs) + 0 ≤ 16
more_backs true backs f h = omega (arith, length-append backs (f ∷ []))
more_backs false backs f h = h

more_binds : (b : Bool) (fronts : List Frontend) (f : Frontend) → few_binds fronts ≡ true → length f.binds ≤ 16 → few_binds (cond b (fronts ++ f ∷ []) fronts) ≡ true
more_binds true fronts f h few = binds_pushed fronts f h few
more_binds false fronts f h few = h

servers_ended : (backs : List Backend) (s : Section) → ended_servers (backs ++ back_of s ∷ []) ++ [] ≡ ended_servers backs ++ map (with_mode s.values.rules.mode) s.servers
servers_ended backs s = append-nil (ended_servers (backs ++ back_of s ∷ [])) ∙ servers_pushed backs (back_of s)

more_numbers : (b : Bool) (backs : List Backend) (s : Section) → (b ≡ false → s.servers ≡ []) → are_numbered 0 (ended_servers backs ++ s.servers) ≡ true
    → are_numbered 0 (ended_servers (cond b (backs ++ back_of s ∷ []) backs) ++ []) ≡ true
more_numbers true backs s none each =
    ap (are_numbered 0) (servers_ended backs s) ∙ modes_set_behind s.values.rules.mode 0 (ended_servers backs) s.servers ∙ each
more_numbers false backs s none each = ap (λ (ss : List Server). are_numbered 0 (ended_servers backs ++ ss)) (sym (none refl)) ∙ each

more_count : (b : Bool) (backs : List Backend) (s : Section) (n : ℕ) → (b ≡ false → s.servers ≡ []) → length (ended_servers backs ++ s.servers) ≡ n
    → length (ended_servers (cond b (backs ++ back_of s ∷ []) backs) ++ []) ≡ n
more_count true backs s n none each =
    ap (λ (ss : List Server). length ss) (servers_ended backs s)
    ∙ length-append (ended_servers backs) (map (with_mode s.values.rules.mode) s.servers)
    ∙ ap (λ (k : ℕ). length (ended_servers backs) + k) (length-map s.servers (with_mode s.values.rules.mode))
    ∙ sym (length-append (ended_servers backs) s.servers) ∙ each
more_count false backs s n none each = ap (λ (ss : List Server). length (ended_servers backs ++ ss)) (sym (none refl)) ∙ each

-- names

all_pushed : {A : Type 0} (p : A → Bool) (xs : List A) (x : A) → list_all p xs ≡ true → p x ≡ true → list_all p (xs ++ x ∷ []) ≡ true
all_pushed p [] x each here = and_from _ _ here refl
all_pushed p (y ∷ ys) x each here = let parts = and_parts (p y) (list_all p ys) each in and_from _ _ parts.0 (all_pushed p ys x parts.1 here)

all_more : {A : Type 0} (p : A → Bool) (b : Bool) (xs : List A) (x : A) → list_all p xs ≡ true → (b ≡ true → p x ≡ true) → list_all p (cond b (xs ++ x ∷ []) xs) ≡ true
all_more p true xs x each here = all_pushed p xs x each (here refl)
all_more p false xs x each here = each

modes_named : (m : Mode) (ss : List Server) → are_servers_named (map (with_mode m) ss) ≡ are_servers_named ss
modes_named m [] = refl
modes_named m (s ∷ ss) = ap (λ (b : Bool). is_name s.name && b) (modes_named m ss)

back_names : (s : Section) → is_name s.name ≡ true → are_servers_named s.servers ≡ true → has_names (back_of s).back ≡ true
back_names s name servers = and_from _ _ name (modes_named s.values.rules.mode s.servers ∙ servers)

closed_names : (r : Reading) → HasNames r.fronts r.backs r.current.kind r.current.name r.current.servers
    → HasNames (closed r).fronts (closed r).backs (closed r).current.kind (closed r).current.name (closed r).current.servers
closed_names r h = record {
  fronts_named = all_more (λ (f : Frontend). is_name f.name) (has_front r.current.kind) r.fronts (front_of r.current) h.fronts_named
      (λ e. h.current_named (or_left _ _ e));
  backs_named = all_more (λ (b : Backend). has_names b.back) (has_back r.current.kind) r.backs (back_of r.current) h.backs_named
      (λ e. back_names r.current (h.current_named (or_right (has_front r.current.kind) _ e)) h.servers_named);
  current_named = λ e. absurd (let never : false ≡ true = e in cc);
  servers_named = refl;
}

-- a section of this kind has this name
abbrev IsCalled : Kind → List ℕ → Type 0
IsCalled k name = (has_front k || has_back k) ≡ true → is_name name ≡ true

pub closed_sound : (r : Reading) → IsSound r → IsSound (closed r)
closed_sound r h = record {
  threads = h.threads;
  fronts = more_fronts (has_front r.current.kind) r.fronts (front_of r.current) h.fronts;
  backs = more_backs (has_back r.current.kind) r.backs (back_of r.current) h.backs;
  binds = more_binds (has_front r.current.kind) r.fronts (front_of r.current) h.binds h.current_binds;
  current_binds = omega arith;
  numbered = more_numbers (has_back r.current.kind) r.backs r.current h.stray h.numbered;
  count = more_count (has_back r.current.kind) r.backs r.current r.servers h.stray h.count;
  few = h.few;
  names = closed_names r h.names;
  stray = λ e. refl;
}

-- a section that begins

room_for : (b : Bool) (n : ℕ) → (b && nat_le 16 n) ≡ false → n + 0 ≤ 16 → n + one_if b ≤ 16
room_for true n room few = let lt : n < 16 = leb-false 16 n room in omega arith
room_for false n room few = few

opened_sound : (k : Kind) (line : ℕ) (name : List ℕ) (v : Values) (r : Reading) → is_full k (closed r) ≡ false → IsCalled k name → IsSound r
    → IsSound (means.opened (empty_section k line name v) r)
opened_sound k line name v r room called h =
    let c = closed_sound r h in
    let parts = or_parts (has_front k && nat_le 16 (length (closed r).fronts)) (has_back k && nat_le 16 (length (closed r).backs)) room in
    record {
      threads = c.threads;
      fronts = room_for (has_front k) (length (closed r).fronts) parts.0 c.fronts;
      backs = room_for (has_back k) (length (closed r).backs) parts.1 c.backs;
      binds = c.binds;
      current_binds = omega arith;
      numbered = c.numbered;
      count = c.count;
      few = c.few;
      names = record { fronts_named = c.names.fronts_named; backs_named = c.names.backs_named; current_named = called; servers_named = refl };
      stray = λ e. refl;
    }

-- what a reading that succeeded shows

in_bounds : {A : Type 0} (b : Bool) (n m : A) (rule : Rule) (x : Result A Rule) → x ≡ cond b (Ok n) (Err rule) → x ≡ Ok m → (b ≡ true) × (n ≡ m)
in_bounds true n m rule x is e = (refl, (cc))
in_bounds false n m rule x is e = absurd (cc)

bounds_of : (w : List ℕ) (n : ℕ) → number_in 1 16 w ≡ Ok n → (1 ≤ n) × (n ≤ 16)
bounds_of w n e =
    let x = in_bounds (is_number w && (nat_le 1 (value w) && nat_le (value w) 16)) (value w) n BadNumber (number_in 1 16 w) refl e in
    let y = and_parts (is_number w) (nat_le 1 (value w) && nat_le (value w) 16) x.0 in
    let z = and_parts (nat_le 1 (value w)) (nat_le (value w) 16) y.1 in
    let low : 1 ≤ value w = leb-true 1 (value w) z.0 in
    let high : value w ≤ 16 = leb-true (value w) 16 z.1 in
    let same : value w ≡ n = x.1 in
    (omega arith, omega arith)

name_is : (w n : List ℕ) → name_of w ≡ Ok n → is_name n ≡ true
name_is w n e = let x = in_bounds (is_name w) w n UnknownWord (name_of w) refl e in ap is_name (sym x.1) ∙ x.0

stands_ok : (b : Bool) → (if b then false else true) ≡ false → b ≡ true
stands_ok true e = refl
stands_ok false e = absurd (let never : true ≡ false = e in cc)

-- readings in a row

at_last : (e : Result ⊤ Rule) (s : Reading) → IsSound s → Keeps (e >>= λ t. Ok s)
at_last (Ok t) s h = h
at_last (Err e) s h = tt

with_room : (b : Bool) (rule : Rule) (s : Reading) → (b ≡ false → IsSound s) → Keeps (means.unless b rule >>= λ t. Ok s)
with_room true rule s h = tt
with_room false rule s h = h refl

end_room : (e : Result ⊤ Rule) (b : Bool) (rule : Rule) (s : Reading) → (b ≡ false → IsSound s) → Keeps (e >>= λ t. means.unless b rule >>= λ u. Ok s)
end_room (Ok t) b rule s h = with_room b rule s h
end_room (Err e) b rule s h = tt

value_end : {A : Type 0} (q : Result A Rule) (e : Result ⊤ Rule) (g : A → Reading) → ((a : A) → q ≡ Ok a → IsSound (g a)) → Keeps (q >>= λ a. e >>= λ t. Ok (g a))
value_end (Ok a) e g h = at_last e (g a) (h a refl)
value_end (Err d) e g h = tt

word_value : {A : Type 0} (p : Result (List ℕ × List (List ℕ)) Rule) (q : List ℕ → Result A Rule) (g : A → Reading)
    → ((a : A) (w : List ℕ) → q w ≡ Ok a → IsSound (g a)) → Keeps (p >>= λ x. q x.0 >>= λ a. at_end x.1 >>= λ t. Ok (g a))
word_value (Ok x) q g h = value_end (q x.0) (at_end x.1) g (λ a is. h a x.0 is)
word_value (Err d) q g h = tt

value_room : {A : Type 0} (q : Result A Rule) (e : Result ⊤ Rule) (b : Bool) (rule : Rule) (g : A → Reading) → ((a : A) → b ≡ false → IsSound (g a))
    → Keeps (q >>= λ a. e >>= λ t. means.unless b rule >>= λ u. Ok (g a))
value_room (Ok a) e b rule g h = end_room e b rule (g a) (h a)
value_room (Err d) e b rule g h = tt

word_room : {A : Type 0} (p : Result (List ℕ × List (List ℕ)) Rule) (q : List ℕ → Result A Rule) (b : Bool) (rule : Rule) (g : A → Reading)
    → ((a : A) → b ≡ false → IsSound (g a)) → Keeps (p >>= λ x. q x.0 >>= λ a. at_end x.1 >>= λ t. means.unless b rule >>= λ u. Ok (g a))
word_room (Ok x) q b rule g h = value_room (q x.0) (at_end x.1) b rule g h
word_room (Err d) q b rule g h = tt

once_room : (c : Bool) (e : Result ⊤ Rule) (b : Bool) (s : Reading) → (b ≡ false → IsSound s)
    → Keeps (means.unless c DoubleName >>= λ t. e >>= λ u. means.unless b TooMany >>= λ v. Ok s)
once_room true e b s h = tt
once_room false e b s h = end_room e b TooMany s h

name_room : (q : Result (List ℕ) Rule) (c : List ℕ → Bool) (e : Result ⊤ Rule) (b : Bool) (g : List ℕ → Reading) → ((n : List ℕ) → q ≡ Ok n → b ≡ false → IsSound (g n))
    → Keeps (q >>= λ n. means.unless (c n) DoubleName >>= λ t. e >>= λ u. means.unless b TooMany >>= λ v. Ok (g n))
name_room (Ok n) c e b g h = once_room (c n) e b (g n) (h n refl)
name_room (Err d) c e b g h = tt

word_name_room : (p : Result (List ℕ × List (List ℕ)) Rule) (c : List ℕ → Bool) (b : Bool) (g : List ℕ → Reading)
    → ((n w : List ℕ) → name_of w ≡ Ok n → b ≡ false → IsSound (g n))
    → Keeps (p >>= λ x. name_of x.0 >>= λ n. means.unless (c n) DoubleName >>= λ t. at_end x.1 >>= λ u. means.unless b TooMany >>= λ v. Ok (g n))
word_name_room (Ok x) c b g h = name_room (name_of x.0) c (at_end x.1) b g (λ n is. h n x.0 is)
word_name_room (Err d) c b g h = tt

word_test : (p : Result (List ℕ × List (List ℕ)) Rule) (c : List ℕ → Bool) (rule : Rule) (s : Reading) → IsSound s → Keeps (p >>= λ x. means.unless (c x.0) rule >>= λ t. Ok s)
word_test (Ok x) c rule s h = with_room (c x.0) rule s (λ e. h)
word_test (Err d) c rule s h = tt

then_read : {A : Type 0} (q : Result A Rule) (ws : List (List ℕ)) (g : A → List (List ℕ) → Result Reading Rule) → ((a : A) → Keeps (g a ws)) → Keeps (q >>= λ a. g a ws)
then_read (Ok a) ws g h = h a
then_read (Err d) ws g h = tt

word_then : {A : Type 0} (p : Result (List ℕ × List (List ℕ)) Rule) (q : List ℕ → Result A Rule) (g : A → List (List ℕ) → Result Reading Rule)
    → ((a : A) (ws : List (List ℕ)) → Keeps (g a ws)) → Keeps (p >>= λ x. q x.0 >>= λ a. g a x.1)
word_then (Ok x) q g h = then_read (q x.0) x.1 g (λ a. h a x.1)
word_then (Err d) q g h = tt

value_then : {A : Type 0} (q : Result A Rule) (g : A → Reading) → ((a : A) → IsSound (g a)) → Keeps (q >>= λ a. Ok (g a))
value_then (Ok a) g h = h a
value_then (Err d) g h = tt

-- the lines

global_keeps : (line : ℕ) (r : Reading) (ws : List (List ℕ)) → IsSound r → Keeps (means.global_line line r ws)
global_keeps line r ws h = at_last (at_end ws) (means.opened (empty_section kind.Global line [] usual_values) r) (opened_sound kind.Global line [] usual_values r refl (λ e. absurd (let never : false ≡ true = e in cc)) h)

defaults_keeps : (line : ℕ) (r : Reading) (ws : List (List ℕ)) → IsSound r → Keeps (means.defaults_line line r ws)
defaults_keeps line r ws h =
    at_last (means.optional_name ws) (means.opened (empty_section kind.Defaults line [] usual_values) r) (opened_sound kind.Defaults line [] usual_values r refl (λ e. absurd (let never : false ≡ true = e in cc)) h)

named_keeps : (k : Kind) (line : ℕ) (r : Reading) (ws : List (List ℕ)) → IsSound r → Keeps (means.named_line k line r ws)
named_keeps k line r ws h =
    word_name_room (word_at ws) (λ n. is_double k n (closed r)) (is_full k (closed r))
    (λ n. means.opened (empty_section k line n (first_values k n (closed r).defaults)) r)
    (λ n w is room. opened_sound k line n (first_values k n (closed r).defaults) r room (λ e. name_is w n is) h)

nbthread_keeps : (r : Reading) (ws : List (List ℕ)) → IsSound r → Keeps (means.nbthread_line r ws)
nbthread_keeps r ws h = word_value (word_at ws) (number_in 1 16) (λ n. record r { threads = n }) (λ n w is. record {
  threads = bounds_of w n is;
  fronts = h.fronts;
  backs = h.backs;
  binds = h.binds;
  current_binds = h.current_binds;
  numbered = h.numbered;
  count = h.count;
  few = h.few;
  names = h.names;
  stray = h.stray;
})

bind_keeps : (r : Reading) (ws : List (List ℕ)) → IsSound r → Keeps (means.bind_line r ws)
bind_keeps r ws h =
    word_room (word_at ws) bind_address (nat_le 16 (length r.current.binds)) TooMany (λ a. record r { current = record r.current { binds = r.current.binds ++ a ∷ [] } }) (λ a room.
    let lt : length r.current.binds < 16 = leb-false 16 (length r.current.binds) room in
    record {
      threads = h.threads;
      fronts = h.fronts;
      backs = h.backs;
      binds = h.binds;
      current_binds = omega (arith, length-append r.current.binds (a ∷ []));
      numbered = h.numbered;
      count = h.count;
      few = h.few;
      names = h.names;
      stray = h.stray;
    })

default_backend_keeps : (r : Reading) (ws : List (List ℕ)) → IsSound r → Keeps (means.default_backend_line r ws)
default_backend_keeps r ws h =
    word_value (word_at ws) name_of (λ n. with_values (record r.current.values { back = Some n }) r) (λ n w is. kept_values (record r.current.values { back = Some n }) r h)

http_reuse_keeps : (r : Reading) (ws : List (List ℕ)) → IsSound r → Keeps (means.http_reuse_line r ws)
http_reuse_keeps r ws h =
    word_value (word_at ws) (λ w. means.known (found means.mode_words w)) (λ m. means.with_rules (record r.current.values.rules { mode = m }) r)
    (λ m w is. kept_values (record r.current.values { rules = record r.current.values.rules { mode = m } }) r h)

treated_keeps : (t : Treatment) (which : TimeoutWord) (line : ℕ) (r : Reading) (ws : List (List ℕ)) → IsSound r → Keeps (means.treated t which line r ws)
treated_keeps treatment.Unknown which line r ws h = tt
treated_keeps treatment.Passed which line r ws h = kept_passing line r h
treated_keeps treatment.Read which line r ws h =
    word_value (word_at ws) time_of (λ t. with_values (means.with_time which t r.current.values) r) (λ t w is. kept_values (means.with_time which t r.current.values) r h)

timeout_keeps : (line : ℕ) (r : Reading) (ws : List (List ℕ)) → IsSound r → Keeps (means.timeout_line line r ws)
timeout_keeps line r ws h =
    word_then (word_at ws) (λ w. means.known (found timeout_words w)) (λ which vs. means.treated (treatment_of which r.current.kind) which line r vs)
    (λ which vs. treated_keeps (treatment_of which r.current.kind) which line r vs h)

default_server_keeps : (line : ℕ) (r : Reading) (ws : List (List ℕ)) → IsSound r → Keeps (means.default_server_line line r ws)
default_server_keeps line r ws h =
    value_then (chosen_by (means.usual_choice r) ws) (λ c. means.passing_if c.passed line (means.with_rules c.rules r))
    (λ c. kept_if c.passed line (means.with_rules c.rules r) (kept_values (record r.current.values { rules = c.rules }) r h))

server_added : (r : Reading) (s : Server) → has_back r.current.kind ≡ true → s.no.0 ≡ r.servers → r.servers < 32 → is_name s.name ≡ true → IsSound r
    → IsSound (record r { servers = r.servers + 1; current = record r.current { servers = r.current.servers ++ s ∷ [] } })
server_added r s back number room name h =
    let all : ended_servers r.backs ++ (r.current.servers ++ s ∷ []) ≡ servers_so_far r ++ s ∷ [] = sym (append_assoc (ended_servers r.backs) r.current.servers (s ∷ [])) in
    record {
      threads = h.threads;
      fronts = h.fronts;
      backs = h.backs;
      binds = h.binds;
      current_binds = h.current_binds;
      numbered = ap (are_numbered 0) all ∙ number_pushed 0 (servers_so_far r) s h.numbered (omega (arith, h.count));
      count = ap (λ (ss : List Server). length ss) all ∙ omega (arith, h.count, length-append (servers_so_far r) (s ∷ []));
      few = omega arith;
      names = record {
        fronts_named = h.names.fronts_named;
        backs_named = h.names.backs_named;
        current_named = h.names.current_named;
        servers_named = all_pushed (λ (t : Server). is_name t.name) r.current.servers s h.names.servers_named name;
      };
      stray = λ e. absurd (let never : true ≡ false = sym back ∙ e in cc);
    }

abbrev added : Reading → ℕ → List ℕ → Address → Chosen → Reading
added r line n a c = means.passing_if c.passed line (record r {
  servers = r.servers + 1;
  current = record r.current {
    servers = r.current.servers ++ (record { name = n; no = record { 0 = r.servers }; address = a; rules = c.rules }) ∷ [];
  };
})

choice_room : (c : Result Chosen Rule) (b : Bool) (g : Chosen → Reading) → ((d : Chosen) → b ≡ false → IsSound (g d)) → Keeps (c >>= λ d. means.unless b TooMany >>= λ t. Ok (g d))
choice_room (Ok d) b g h = with_room b TooMany (g d) (h d)
choice_room (Err e) b g h = tt

address_room : (q : Result Address Rule) (c : Result Chosen Rule) (b : Bool) (g : Address → Chosen → Reading) → ((a : Address) (d : Chosen) → b ≡ false → IsSound (g a d))
    → Keeps (q >>= λ a. c >>= λ d. means.unless b TooMany >>= λ t. Ok (g a d))
address_room (Ok a) c b g h = choice_room c b (g a) (h a)
address_room (Err e) c b g h = tt

second_room : (p : Result (List ℕ × List (List ℕ)) Rule) (c : Chosen) (b : Bool) (g : Address → Chosen → Reading) → ((a : Address) (d : Chosen) → b ≡ false → IsSound (g a d))
    → Keeps (p >>= λ y. server_address y.0 >>= λ a. chosen_by c y.1 >>= λ d. means.unless b TooMany >>= λ t. Ok (g a d))
second_room (Ok y) c b g h = address_room (server_address y.0) (chosen_by c y.1) b g h
second_room (Err e) c b g h = tt

once_second : (u : Bool) (p : Result (List ℕ × List (List ℕ)) Rule) (c : Chosen) (b : Bool) (g : Address → Chosen → Reading) → ((a : Address) (d : Chosen) → b ≡ false → IsSound (g a d))
    → Keeps (means.unless u DoubleName >>= λ o. p >>= λ y. server_address y.0 >>= λ a. chosen_by c y.1 >>= λ d. means.unless b TooMany >>= λ t. Ok (g a d))
once_second true p c b g h = tt
once_second false p c b g h = second_room p c b g h

name_second : (q : Result (List ℕ) Rule) (u : List ℕ → Bool) (p : Result (List ℕ × List (List ℕ)) Rule) (c : Chosen) (b : Bool) (g : List ℕ → Address → Chosen → Reading)
    → ((n : List ℕ) (a : Address) (d : Chosen) → q ≡ Ok n → b ≡ false → IsSound (g n a d))
    → Keeps (q >>= λ n. means.unless (u n) DoubleName >>= λ o. p >>= λ y. server_address y.0 >>= λ a. chosen_by c y.1 >>= λ d. means.unless b TooMany >>= λ t. Ok (g n a d))
name_second (Ok n) u p c b g h = once_second (u n) p c b (g n) (λ a d. h n a d refl)
name_second (Err e) u p c b g h = tt

first_second : (x : Result (List ℕ × List (List ℕ)) Rule) (u : List ℕ → Bool) (c : Chosen) (b : Bool) (g : List ℕ → Address → Chosen → Reading)
    → ((n w : List ℕ) (a : Address) (d : Chosen) → name_of w ≡ Ok n → b ≡ false → IsSound (g n a d))
    → Keeps (x >>= λ v. name_of v.0 >>= λ n. means.unless (u n) DoubleName >>= λ o. word_at v.1 >>= λ y. server_address y.0 >>= λ a. chosen_by c y.1 >>= λ d. means.unless b TooMany >>= λ t. Ok (g n a d))
first_second (Ok v) u c b g h = name_second (name_of v.0) u (word_at v.1) c b g (λ n a d is. h n v.0 a d is)
first_second (Err e) u c b g h = tt

server_keeps : (line : ℕ) (r : Reading) (ws : List (List ℕ)) → has_back r.current.kind ≡ true → IsSound r → Keeps (means.server_line line r ws)
server_keeps line r ws back h =
    first_second (word_at ws) (λ n. has_server_named n r.current.servers) (means.usual_choice r) (nat_le 32 r.servers) (λ n a c. added r line n a c) (λ n w a c is room.
    kept_if c.passed line _ (server_added r (record { name = n; no = record { 0 = r.servers }; address = a; rules = c.rules }) back refl (leb-false 32 r.servers room) (name_is w n is) h))

option_keeps : (line : ℕ) (r : Reading) (ws : List (List ℕ)) → IsSound r → Keeps (means.option_line line r ws)
option_keeps line r ws h =
    word_test (word_at ws) (λ w. if is_one_of option_lines w then false else true) UnknownWord (passing line r) (kept_passing line r h)

idle_keeps : (text : List ℕ) (r : Reading) (ws : List (List ℕ)) → IsSound r → Keeps (means.idle_line text r ws)
idle_keeps text r ws h = at_last (means.only_word text ws) r h

said_keeps : (f : FirstWord) (line : ℕ) (r : Reading) (ws : List (List ℕ)) → stands_in f r.current.kind ≡ true → IsSound r → Keeps (means.said f line r ws)
unfolding means.said
said_keeps first.Global line r ws s h = global_keeps line r ws h
said_keeps first.Defaults line r ws s h = defaults_keeps line r ws h
said_keeps first.Frontend line r ws s h = named_keeps kind.Frontend line r ws h
said_keeps first.Backend line r ws s h = named_keeps kind.Backend line r ws h
said_keeps first.Listen line r ws s h = named_keeps kind.Listen line r ws h
said_keeps first.Nbthread line r ws s h = nbthread_keeps r ws h
said_keeps first.ModeHttp line r ws s h = idle_keeps (codes "http") r ws h
said_keeps first.Bind line r ws s h = bind_keeps r ws h
said_keeps first.DefaultBackend line r ws s h = default_backend_keeps r ws h
said_keeps first.Balance line r ws s h = idle_keeps (codes "roundrobin") r ws h
said_keeps first.HttpReuse line r ws s h = http_reuse_keeps r ws h
said_keeps first.Timeout line r ws s h = timeout_keeps line r ws h
said_keeps first.DefaultServer line r ws s h = default_server_keeps line r ws h
said_keeps first.ServerLine line r ws s h = server_keeps line r ws s h
said_keeps first.OptionLine line r ws s h = option_keeps line r ws h
said_keeps first.PassedOver line r ws s h = kept_passing line r h
said_keeps first.PassedInGlobal line r ws s h = kept_passing line r h
said_keeps first.PassedInOthers line r ws s h = kept_passing line r h

here_then : (b : Bool) (y : Result Reading Rule) → (b ≡ false → Keeps y) → Keeps (means.unless b WrongPlace >>= λ t. y)
here_then true y h = tt
here_then false y h = h refl

first_then : (q : Result FirstWord Rule) (b : FirstWord → Bool) (y : FirstWord → Result Reading Rule) → ((f : FirstWord) → b f ≡ false → Keeps (y f))
    → Keeps (q >>= λ f. means.unless (b f) WrongPlace >>= λ t. y f)
first_then (Ok f) b y h = here_then (b f) (y f) (h f)
first_then (Err e) b y h = tt

word_first_then : (p : Result (List ℕ × List (List ℕ)) Rule) (b : FirstWord → Bool) (y : FirstWord → List (List ℕ) → Result Reading Rule)
    → ((f : FirstWord) (ws : List (List ℕ)) → b f ≡ false → Keeps (y f ws))
    → Keeps (p >>= λ x. means.known (first_word x.0) >>= λ f. means.unless (b f) WrongPlace >>= λ t. y f x.1)
word_first_then (Ok x) b y h = first_then (means.known (first_word x.0)) b (λ f. y f x.1) (λ f e. h f x.1 e)
word_first_then (Err e) b y h = tt

words_keep : (line : ℕ) (r : Reading) (ws : List (List ℕ)) → IsSound r → Keeps (means.words_read line r ws)
words_keep line r ws h =
    word_first_then (word_at ws) (λ f. if stands_in f r.current.kind then false else true) (λ f vs. means.said f line r vs)
    (λ f vs e. said_keeps f line r vs (stands_ok (stands_in f r.current.kind) e) h)

either_keeps : (b : Bool) (x y : Result Reading Rule) → Keeps x → Keeps y → Keeps (cond b x y)
either_keeps true x y hx hy = hx
either_keeps false x y hx hy = hy

line_keeps : (line : ℕ) (r : Reading) (ws : List (List ℕ)) → IsSound r → Keeps (means.line_read line r ws)
unfolding means.line_read
line_keeps line r ws h = either_keeps (no_words ws) (Ok r) (means.words_read line r ws) h (words_keep line r ws h)

-- the whole text

located_keeps : (line : ℕ) (x : Result Reading Rule) (f : Reading → Result Reading Flaw) → Keeps x → ((s : Reading) → IsSound s → IfOk (f s) IsSound)
    → IfOk (located line x >>= f) IsSound
located_keeps line (Ok s) f k h = h s k
located_keeps line (Err e) f k h = tt

lines_keep : (line : ℕ) (r : Reading) (ls : List (List ℕ)) → IsSound r → IfOk (lines_read line r ls) IsSound
unfolding lines_read
lines_keep line r [] h = h
lines_keep line r (l ∷ ls) h = located_keeps line (means.line_read line r (words_of l)) (λ s. lines_read (line + 1) s ls) (line_keeps line r (words_of l) h) (λ s k. lines_keep (line + 1) s ls k)

nothing_sound : IsSound nothing_read
unfolding are_numbered
nothing_sound = record {
  threads = (omega arith, omega arith);
  fronts = omega arith;
  backs = omega arith;
  binds = refl;
  current_binds = omega arith;
  numbered = refl;
  count = refl;
  few = omega arith;
  names = record {
    fronts_named = refl;
    backs_named = refl;
    current_named = λ e. absurd (let never : false ≡ true = e in cc);
    servers_named = refl;
  };
  stray = λ e. refl;
}

pub text_sound : (ls : List (List ℕ)) (r : Reading) → lines_read 1 nothing_read ls ≡ Ok r → IsSound r
text_sound ls r is = IfOk-at_ok IsSound is (lines_keep 1 nothing_read ls nothing_sound)

ok_same : {A E : Type 0} (r : Result A E) (x y : A) → r ≡ Ok x → r ≡ Ok y → x ≡ y
ok_same r x y p q = cc

-- what a call that took no memory left
pub left_is : (x : Result (Unit {0}) Refusal) (s t : Reading) → is_err x ≡ false → Gives (λ (u : Unit {0}). s) x (Ok t) → t ≡ s
left_is (Ok u) s t e h = ok_same (Ok t) t s refl h
left_is (Err d) s t e h = absurd (let never : true ≡ false = e in cc)
