-- Names of the configuration, one after the other.
use Rattle.std.proofs.Common.{◌≡◌, ◌≢◌, ℕ, suc, ◌+◌, ◌<◌, ◌≤◌, true, false, List, [], ◌∷◌, length, take, drop, get_or, Option, Some, None, refl, sym, ap, ◌∙◌, arith}
use Rattle.std.specs.Prelude.{Bool, ◌&&◌, ◌==◌, bytes_eq}
use Rattle.std.proofs.Math.Bool.{and_assoc}
use Rattle.std.proofs.lemmas.Bool.{cond-true, cond-false, and_left, and_right, eq-eqb, ne_eqb}
use Rattle.std.proofs.lemmas.List.{drop_more, drop_all}
use Rattle.hx_base.specs.declared.numbers.ServerNo.{ServerNo}
use Rattle.hx_config_parts.specs.Tables.{or_else}
use Rattle.hx_config.specs.declared.parts.Back.{Back}
use Rattle.hx_config.specs.declared.parts.Front.{Front}
use Rattle.hx_config.specs.declared.parts.Server.{Server}
use Rattle.hx_script_parts.specs.Names.{front_from, is_named, server_in, server_among}

-- the parts of a name that is longer than its backend's
abbrev pub are_parts : List ℕ → List ℕ → List ℕ → Bool
are_parts word back server =
    bytes_eq (take (length back) word) back && ((get_or word (length back) 0 == 47) && bytes_eq (drop (suc (length back)) word) server)

pub in_parts : (word back server : List ℕ) → length back < length word → is_named word back server ≡ are_parts word back server
in_parts [] back server lt = absurd (omega arith)
in_parts (w ∷ ws) [] server lt = refl
in_parts (w ∷ ws) (b ∷ bs) server lt =
    ap (λ (x : Bool). (w == b) && x) (in_parts ws bs server (omega arith)) ∙ sym (and_assoc (w == b) _ _)

pub wrong_stroke : (word back server : List ℕ) → length back < length word → get_or word (length back) 0 ≢ 47 → false ≡ is_named word back server
wrong_stroke word back server lt other =
    sym (in_parts word back server lt ∙ and_right (bytes_eq (take (length back) word) back) _ (and_left _ _ (ne_eqb _ _ other)))

pub wrong_back : (word back server : List ℕ) → length back < length word → bytes_eq (take (length back) word) back ≡ false → false ≡ is_named word back server
wrong_back word back server lt other = sym (in_parts word back server lt ∙ and_left _ _ other)

pub right_back : (word back server : List ℕ) → length back < length word → get_or word (length back) 0 ≡ 47 → bytes_eq (take (length back) word) back ≡ true
    → bytes_eq (drop (length back + 1) word) server ≡ is_named word back server
right_back word back server lt stroke same =
    let one : length back + 1 ≡ suc (length back) = omega arith in
    let rest = bytes_eq (drop (suc (length back)) word) server in
    let test : (get_or word (length back) 0 == 47) ≡ true = eq-eqb _ _ stroke in
    let both : (bytes_eq (take (length back) word) back && ((get_or word (length back) 0 == 47) && rest)) ≡ rest =
    ap (λ (x : Bool). x && ((get_or word (length back) 0 == 47) && rest)) same ∙ ap (λ (x : Bool). x && rest) test in
    ap (λ (k : ℕ). bytes_eq (drop k word) server) one ∙ sym both ∙ sym (in_parts word back server lt)

-- the frontend stands here
pub front_here : (name : List ℕ) (fronts : List Front) (i : ℕ) (f : Front) (total : Option ℕ) → i < length fronts → f ≡ get_or fronts i f
    → bytes_eq f.name name ≡ true → front_from i name (drop i fronts) ≡ total → total ≡ Some i
unfolding front_from
front_here name fronts i f total lt is same so_far =
    let at : drop i fronts ≡ f ∷ drop (i + 1) fronts = drop_more fronts i f lt ∙ ap (λ (x : Front). x ∷ drop (i + 1) fronts) (sym is) in
    sym so_far ∙ ap (front_from i name) at ∙ cond-true _ _ _ same

pub front_later : (name : List ℕ) (fronts : List Front) (i : ℕ) (f : Front) (total : Option ℕ) → i < length fronts → f ≡ get_or fronts i f
    → bytes_eq f.name name ≡ false → front_from i name (drop i fronts) ≡ total → front_from (i + 1) name (drop (i + 1) fronts) ≡ total
unfolding front_from
front_later name fronts i f total lt is other so_far =
    let at : drop i fronts ≡ f ∷ drop (i + 1) fronts = drop_more fronts i f lt ∙ ap (λ (x : Front). x ∷ drop (i + 1) fronts) (sym is) in
    sym (ap (front_from i name) at ∙ cond-false _ _ _ other) ∙ so_far

pub front_nowhere : (name : List ℕ) (fronts : List Front) (i : ℕ) (total : Option ℕ) → length fronts ≤ i
    → front_from i name (drop i fronts) ≡ total → total ≡ None
unfolding front_from
front_nowhere name fronts i total past so_far = sym so_far ∙ ap (front_from i name) (drop_all i fronts past)

-- the server stands here
pub server_here : (word back : List ℕ) (servers : List Server) (i : ℕ) (s : Server) (total : Option ServerNo) → i < length servers → s ≡ get_or servers i s
    → is_named word back s.name ≡ true → server_in word back (drop i servers) ≡ total → total ≡ Some s.no
unfolding server_in
server_here word back servers i s total lt is same so_far =
    let at : drop i servers ≡ s ∷ drop (i + 1) servers = drop_more servers i s lt ∙ ap (λ (x : Server). x ∷ drop (i + 1) servers) (sym is) in
    sym so_far ∙ ap (server_in word back) at ∙ cond-true _ _ _ same

pub server_later : (word back : List ℕ) (servers : List Server) (i : ℕ) (s : Server) (total : Option ServerNo) → i < length servers → s ≡ get_or servers i s
    → is_named word back s.name ≡ false → server_in word back (drop i servers) ≡ total → server_in word back (drop (i + 1) servers) ≡ total
unfolding server_in
server_later word back servers i s total lt is other so_far =
    let at : drop i servers ≡ s ∷ drop (i + 1) servers = drop_more servers i s lt ∙ ap (λ (x : Server). x ∷ drop (i + 1) servers) (sym is) in
    sym (ap (server_in word back) at ∙ cond-false _ _ _ other) ∙ so_far

pub server_nowhere : (word back : List ℕ) (servers : List Server) (i : ℕ) (total : Option ServerNo) → length servers ≤ i
    → server_in word back (drop i servers) ≡ total → total ≡ None
unfolding server_in
server_nowhere word back servers i total past so_far = sym so_far ∙ ap (server_in word back) (drop_all i servers past)

-- it stands in this backend
pub back_here : (word : List ℕ) (backs : List Back) (i : ℕ) (b : Back) (found_no : ServerNo) (total : Option ServerNo) → i < length backs → b ≡ get_or backs i b
    → Some found_no ≡ server_in word b.name b.servers → server_among word (drop i backs) ≡ total → total ≡ Some found_no
unfolding server_among
back_here word backs i b found_no total lt is found so_far =
    let at : drop i backs ≡ b ∷ drop (i + 1) backs = drop_more backs i b lt ∙ ap (λ (x : Back). x ∷ drop (i + 1) backs) (sym is) in
    sym so_far ∙ ap (server_among word) at ∙ ap (λ (x : Option ServerNo). or_else x (server_among word (drop (i + 1) backs))) (sym found)

pub back_later : (word : List ℕ) (backs : List Back) (i : ℕ) (b : Back) (total : Option ServerNo) → i < length backs → b ≡ get_or backs i b
    → None ≡ server_in word b.name b.servers → server_among word (drop i backs) ≡ total → server_among word (drop (i + 1) backs) ≡ total
unfolding server_among
back_later word backs i b total lt is none so_far =
    let at : drop i backs ≡ b ∷ drop (i + 1) backs = drop_more backs i b lt ∙ ap (λ (x : Back). x ∷ drop (i + 1) backs) (sym is) in
    sym (ap (server_among word) at ∙ ap (λ (x : Option ServerNo). or_else x (server_among word (drop (i + 1) backs))) (sym none)) ∙ so_far

pub back_nowhere : (word : List ℕ) (backs : List Back) (i : ℕ) (total : Option ServerNo) → length backs ≤ i
    → server_among word (drop i backs) ≡ total → total ≡ None
unfolding server_among
back_nowhere word backs i total past so_far = sym so_far ∙ ap (server_among word) (drop_all i backs past)
