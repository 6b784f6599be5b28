-- Records that stand right behind those before keep what is covered without a gap, and in the end the ranges tile.
use Rattle.std.proofs.Common.{◌≡◌, ℕ, ◌+◌, ◌≤◌, Bool, true, false, List, [], ◌∷◌, ◌++◌, length, refl, sym, ap, ap₂, ◌∙◌, subst, arith, append-nil, length-append, eq-eqb}
use Rattle.std.specs.Prelude.{◌&&◌, if◌then◌else◌}
use Rattle.std.specs.List.{flat_map}
use Rattle.std.proofs.lemmas.Grind.{flat_map-append}
use Rattle.std.proofs.lemmas.List.Elements.{All-contains_itself}
use Rattle.hx_base.specs.declared.numbers.ThreadNo.{ThreadNo}
use Rattle.hx_base.specs.declared.numbers.SessionNo.{SessionNo}
use Rattle.hx_base.specs.declared.numbers.ServerNo.{ServerNo}
use Rattle.hx_base.specs.declared.numbers.ConnId.{ConnId}
use Rattle.hx_base.specs.declared.numbers.Span.{Span}
use Rattle.hx_base.specs.Spans.{AreContiguous}
use Rattle.hx_record.specs.declared.bytes.ClientBytes.{ClientBytes}
use Rattle.hx_record.specs.declared.bytes.ConnBytes.{ConnBytes}
use Rattle.hx_record.specs.declared.served.Carried.{Carried}
use Rattle.hx_record.specs.declared.served.Served.{Served}
use Rattle.hx_record.specs.declared.served.Left.{Left}
use Rattle.hx_record.specs.declared.served.Told.{Told}
use Rattle.hx_record.specs.declared.served.Told.TheVariants as told
use Rattle.hx_record.specs.Tiles.{is_of, is_line_of, ask_of, gave_of, left_of, number_of, carried_of, AreNumbered, InOrder, TilesClient, TilesConn}
use Rattle.hx_record.specs.Covers.{CoversClient, FollowsClient, EndsClient, CoversConn, FollowsConn, sent_to, took_to}

-- ---- lists that go on

contiguous_more : (from mid : ℕ) (xs : List Span) (s : Span) → AreContiguous from xs mid → s.from ≡ mid → s.from ≤ s.to → AreContiguous from (xs ++ s ∷ []) s.to
contiguous_more from mid [] s a is le = (is ∙ sym a, le, refl)
contiguous_more from mid (x ∷ xs) s a is le = (a.0, a.1, contiguous_more x.to mid xs s a.2 is le)

contiguous_to : (from to to' : ℕ) (xs : List Span) → AreContiguous from xs to → to ≡ to' → AreContiguous from xs to'
contiguous_to from to to' xs a e = subst (AreContiguous from xs) e a

numbered_more : (k x : ℕ) (numbers : List ℕ) → AreNumbered k numbers → x ≡ k + length numbers → AreNumbered k (numbers ++ x ∷ [])
numbered_more k x [] a is = (omega arith, tt)
numbered_more k x (y ∷ numbers) a is = (a.0, numbered_more (k + 1) x numbers a.1 (omega arith))

order_more : (nth sent took : ℕ) (cs : List Carried) (c : Carried) → InOrder nth sent took cs → c.nth ≡ nth + length cs → c.sent.from ≡ sent_to sent cs → c.sent.from ≤ c.sent.to
    → c.took.from ≡ took_to took cs → c.took.from ≤ c.took.to → InOrder nth sent took (cs ++ c ∷ [])
order_more nth sent took [] c o n s sl k kl = (omega arith, s, sl, k, kl, tt)
order_more nth sent took (x ∷ cs) c o n s sl k kl = (o.0, o.1, o.2, o.3, o.4, order_more (nth + 1) x.sent.to x.took.to cs c o.5 (omega arith) s sl k kl)

sent_more : (k : ℕ) (cs : List Carried) (c : Carried) → sent_to k (cs ++ c ∷ []) ≡ c.sent.to
sent_more k [] c = refl
sent_more k (x ∷ cs) c = sent_more x.sent.to cs c

took_more : (k : ℕ) (cs : List Carried) (c : Carried) → took_to k (cs ++ c ∷ []) ≡ c.took.to
took_more k [] c = refl
took_more k (x ∷ cs) c = took_more x.took.to cs c

-- ---- a session's records

own_line : (t : ThreadNo) (n : SessionNo) → is_of t n t n ≡ true
own_line t n = ap₂ (λ (a b : Bool). a && b) (eq-eqb t.0 t.0 refl) (eq-eqb n.0 n.0 refl)

-- what one line more adds to a list that is drawn from the lines
one_more : {A : Type 0} (f : Told → List A) (records : List Told) (x : Told) (ys : List A) → f x ≡ ys → flat_map f (records ++ x ∷ []) ≡ flat_map f records ++ ys
one_more f records x ys is = flat_map-append f records (x ∷ []) ∙ ap (λ l. flat_map f records ++ l) (append-nil (f x) ∙ is)

none_more : {A : Type 0} (f : Told → List A) (records : List Told) (x : Told) → f x ≡ [] → flat_map f (records ++ x ∷ []) ≡ flat_map f records
none_more f records x is = one_more f records x [] is ∙ append-nil (flat_map f records)

-- before its first record a session has covered nothing
pub covers_none : (t : ThreadNo) (n : SessionNo) → CoversClient t n [] 0 0 0
covers_none t n = record { asks = refl; gaves = refl; numbers = tt; size = refl; goes_on = refl }

-- a record right behind
pub client_follows : (records : List Told) (s : Served) (asked gave count : ℕ) → CoversClient s.worker s.session records asked gave count → FollowsClient s asked gave count
    → CoversClient s.worker s.session (records ++ told.Served s ∷ []) s.ask.to s.gave.to (count + 1)
client_follows records s asked gave count c f =
    let t = s.worker in
    let n = s.session in
    let own = own_line t n in
    let asks = one_more (ask_of t n) records (told.Served s) (s.ask ∷ []) (ap (λ (b : Bool). if b then s.ask ∷ [] else []) own) in
    let gaves = one_more (gave_of t n) records (told.Served s) (s.gave ∷ []) (ap (λ (b : Bool). if b then s.gave ∷ [] else []) own) in
    let numbers = one_more (number_of t n) records (told.Served s) (s.number ∷ []) (ap (λ (b : Bool). if b then s.number ∷ [] else []) own) in
    let counted = c.size in
    let number = f.number in
    let sum = length-append (flat_map (number_of t n) records) (s.number ∷ []) in
    record {
      asks = subst (λ l. AreContiguous 0 l s.ask.to) (sym asks) (contiguous_more 0 asked (flat_map (ask_of t n) records) s.ask c.asks f.ask.0 f.ask.1);
      gaves = subst (λ l. AreContiguous 0 l s.gave.to) (sym gaves) (contiguous_more 0 gave (flat_map (gave_of t n) records) s.gave c.gaves f.given.0 f.given.1);
      numbers = subst (AreNumbered 1) (sym numbers) (numbered_more 1 s.number (flat_map (number_of t n) records) c.numbers (omega arith));
      size = ap length numbers ∙ (sum ∙ omega arith);
      goes_on = none_more (left_of t n) records (told.Served s) refl ∙ c.goes_on;
    }

apart_ask : (t : ThreadNo) (n : SessionNo) (x : Told) → is_line_of t n x ≡ false → ask_of t n x ≡ []
apart_ask t n (told.Served s) e = ap (λ (b : Bool). if b then s.ask ∷ [] else []) e
apart_ask t n (told.Left l) e = ap (λ (b : Bool). if b then l.ask ∷ [] else []) e

apart_gave : (t : ThreadNo) (n : SessionNo) (x : Told) → is_line_of t n x ≡ false → gave_of t n x ≡ []
apart_gave t n (told.Served s) e = ap (λ (b : Bool). if b then s.gave ∷ [] else []) e
apart_gave t n (told.Left l) e = refl

apart_number : (t : ThreadNo) (n : SessionNo) (x : Told) → is_line_of t n x ≡ false → number_of t n x ≡ []
apart_number t n (told.Served s) e = ap (λ (b : Bool). if b then s.number ∷ [] else []) e
apart_number t n (told.Left l) e = refl

apart_left : (t : ThreadNo) (n : SessionNo) (x : Told) → is_line_of t n x ≡ false → left_of t n x ≡ []
apart_left t n (told.Served s) e = refl
apart_left t n (told.Left l) e = ap (λ (b : Bool). if b then l.ask ∷ [] else []) e

-- a line of another session
pub client_apart : (t : ThreadNo) (n : SessionNo) (records : List Told) (x : Told) (asked gave count : ℕ) → is_line_of t n x ≡ false → CoversClient t n records asked gave count
    → CoversClient t n (records ++ x ∷ []) asked gave count
client_apart t n records x asked gave count e c =
    let numbers = none_more (number_of t n) records x (apart_number t n x e) in
    record {
      asks = subst (λ l. AreContiguous 0 l asked) (sym (none_more (ask_of t n) records x (apart_ask t n x e))) c.asks;
      gaves = subst (λ l. AreContiguous 0 l gave) (sym (none_more (gave_of t n) records x (apart_gave t n x e))) c.gaves;
      numbers = subst (AreNumbered 1) (sym numbers) c.numbers;
      size = ap length numbers ∙ c.size;
      goes_on = none_more (left_of t n) records x (apart_left t n x e) ∙ c.goes_on;
    }

-- with its Left a session's ranges tile
pub client_ends : (records : List Told) (client : ClientBytes) (l : Left) (asked gave count : ℕ) → l.worker ≡ client.worker → l.session ≡ client.session
    → CoversClient client.worker client.session records asked gave count → EndsClient l asked gave client.took client.gave → TilesClient (records ++ told.Left l ∷ []) client
client_ends records client l asked gave count worker session c e =
    let t = client.worker in
    let n = client.session in
    let own : is_of t n l.worker l.session ≡ true = ap₂ (λ (u : ThreadNo) (m : SessionNo). is_of t n u m) worker session ∙ own_line t n in
    let asks = one_more (ask_of t n) records (told.Left l) (l.ask ∷ []) (ap (λ (b : Bool). if b then l.ask ∷ [] else []) own) in
    record {
      left = (records, l, [], refl, own, c.goes_on, refl);
      asks = subst (λ k. AreContiguous 0 k (length client.took)) (sym asks) (contiguous_to 0 l.ask.to (length client.took) (flat_map (ask_of t n) records ++ l.ask ∷ []) (contiguous_more 0 asked (flat_map (ask_of t n) records) l.ask c.asks e.from e.rises) e.to);
      gaves = subst (λ k. AreContiguous 0 k (length client.gave)) (sym (none_more (gave_of t n) records (told.Left l) refl)) (contiguous_to 0 gave (length client.gave) (flat_map (gave_of t n) records) c.gaves e.all_given);
      numbers = subst (AreNumbered 1) (sym (none_more (number_of t n) records (told.Left l) refl)) c.numbers;
    }

-- and go on tiling, as lines of other sessions are told
pub tiles_apart : (records : List Told) (client : ClientBytes) (x : Told) → is_line_of client.worker client.session x ≡ false → TilesClient records client → TilesClient (records ++ x ∷ []) client
tiles_apart records client x e c =
    let t = client.worker in
    let n = client.session in
    let front = c.left.0 in
    let l = c.left.1 in
    let back = c.left.2 in
    record {
      left = (
        front,
        l,
        back ++ x ∷ [],
        ap (λ rs. rs ++ x ∷ []) c.left.3 ∙ Rattle.std.proofs.Common.append_assoc front (told.Left l ∷ back) (x ∷ []),
        c.left.4,
        c.left.5,
        none_more (ask_of t n) back x (apart_ask t n x e) ∙ c.left.6,
      );
      asks = subst (λ k. AreContiguous 0 k (length client.took)) (sym (none_more (ask_of t n) records x (apart_ask t n x e))) c.asks;
      gaves = subst (λ k. AreContiguous 0 k (length client.gave)) (sym (none_more (gave_of t n) records x (apart_gave t n x e))) c.gaves;
      numbers = subst (AreNumbered 1) (sym (none_more (number_of t n) records x (apart_number t n x e))) c.numbers;
    }

-- ---- a connection's exchanges

-- before its first exchange a connection has covered nothing
pub conn_none : (server : ServerNo) (id : ConnId) → CoversConn server id [] 0 0 0
conn_none server id = record { order = tt; sent_is = refl; took_is = refl; size = refl }

-- an exchange right behind
pub conn_follows : (server : ServerNo) (id : ConnId) (records : List Told) (x : Told) (c : Carried) (sent took count : ℕ) → carried_of server id x ≡ c ∷ []
    → CoversConn server id records sent took count → FollowsConn c sent took count → CoversConn server id (records ++ x ∷ []) c.sent.to c.took.to (count + 1)
conn_follows server id records x c sent took count is v f =
    let cs = flat_map (carried_of server id) records in
    let more = one_more (carried_of server id) records x (c ∷ []) is in
    let counted = v.size in
    let sum = length-append cs (c ∷ []) in
    let number = f.number in
    record {
      order = subst (InOrder 1 0 0) (sym more) (order_more 1 0 0 cs c v.order (omega arith) (f.sends.0 ∙ sym v.sent_is) f.sends.1 (f.takes.0 ∙ sym v.took_is) f.takes.1);
      sent_is = ap (sent_to 0) more ∙ sent_more 0 cs c;
      took_is = ap (took_to 0) more ∙ took_more 0 cs c;
      size = ap length more ∙ (sum ∙ omega arith);
    }

-- a line that names another connection, or none
pub conn_apart : (server : ServerNo) (id : ConnId) (records : List Told) (x : Told) (sent took count : ℕ) → carried_of server id x ≡ []
    → CoversConn server id records sent took count → CoversConn server id (records ++ x ∷ []) sent took count
conn_apart server id records x sent took count is v =
    let more = none_more (carried_of server id) records x is in
    record {
      order = subst (InOrder 1 0 0) (sym more) v.order;
      sent_is = ap (sent_to 0) more ∙ v.sent_is;
      took_is = ap (took_to 0) more ∙ v.took_is;
      size = ap length more ∙ v.size;
    }

-- at each moment the connection's ranges tile
pub conn_tiles : (records : List Told) (conn : ConnBytes) (sent took count : ℕ) → CoversConn conn.server conn.id records sent took count → TilesConn records conn
conn_tiles records conn sent took count v =
    let all = flat_map (carried_of conn.server conn.id) records in
    record { exchanges = all; count = refl; told = All-contains_itself all; all_told = All-contains_itself all; order = v.order }
