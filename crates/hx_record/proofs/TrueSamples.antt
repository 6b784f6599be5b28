-- The records of the samples are true, and their ranges leave no gap.
use Rattle.std.proofs.Common.{◌≡◌, ℕ, ◌-◌, ◌<◌, List, [], ◌∷◌, length, take, Bool, true, false, All, Some, Ok, refl, sym, ap, ◌∙◌, subst, lit≤, lit<, inl, inr}
use Rattle.std.specs.Prelude.{codes, nat_lt, ◌↔◌, ◌⊎◌}
use Rattle.std.specs.Char.{is_ascii_digit}
use Rattle.std.proofs.lemmas.Bool.{ltb-true}
use Rattle.std.proofs.lemmas.List.Elements.{All-nil, All-cons, All-contains_itself}
use Rattle.std.proofs.lemmas.List.Sums.{AllPass-from_list_all}
use Rattle.std.proofs.lemmas.Str.{IsUtf8-from_ascii}
use Rattle.std.proofs.lemmas.Str.Ascii.{IsAscii-from_all}
use Rattle.httparse.specs.Grammar.{is_token_byte, is_value_byte, is_uri_byte, trim_ows, Field, IsField, crlf, RequestHead, print_request, ResponseHead, ReadsResponse, print_response}
use Rattle.httparse.proofs.GrammarLemmas.{request_unique}
use Rattle.hx_message.specs.declared.MethodKind.{MethodKind}
use Rattle.hx_message.specs.declared.MethodKind.TheVariants.{Connect, Other}
use Rattle.hx_message.specs.declared.BodyKind.TheVariants.{Nothing, Length, ToEnd}
use Rattle.hx_message.specs.Fields.{connection_options, is_of_connection, is_kept, goes_on, staying}
use Rattle.hx_message.specs.Forwarded.{BeginsRequest, ForwardsRequest, ForwardsAnswer, forwarded_request, forwarded_answer}
use Rattle.hx_message.specs.Body.{kind_of_method, request_kind, answer_kind, wants_close, persists}
use Rattle.hx_message.specs.Message.{IsRequest, IsAnswerWith, IsWholeAnswer, Persists, WantsClose, RunsToEnd}
use Rattle.hx_message.specs.Exchanges.{AreExchanges}
use Rattle.hx_message.proofs.Unique.{one_answer}
use Rattle.hx_base.specs.Spans.{bytes_in}
use Rattle.hx_record.specs.declared.served.Carried.{Carried}
use Rattle.hx_record.specs.declared.served.Served.{Served}
use Rattle.hx_record.specs.declared.served.Told.TheVariants as told
use Rattle.hx_record.specs.Carriage.{Carriage, client_carriage, conn_carriage}
use Rattle.hx_record.specs.Truth.{HasRanges, IsTruePassed}
use Rattle.hx_record.specs.Tiles.{TilesClient, TilesConn}
use Rattle.hx_record.specs.Samples.{ask, answer, one_asked, one_carried, two_asked, two_carried, first_moved, second_moved, first, second, one_record, two_records, Recounts}

-- ---- the two messages

abbrev host : Field
host = record { name = codes "Host"; raw = codes " h"; end = crlf }

abbrev pub ask_head : RequestHead
ask_head = record { blank = []; method = codes "GET"; target = codes "/a"; minor = 1; line_end = crlf; fields = host ∷ []; last = crlf }

abbrev two_long : Field
two_long = record { name = codes "Content-Length"; raw = codes " 2"; end = crlf }

abbrev answer_head : ResponseHead
answer_head = record { blank = []; minor = 1; digits = codes "200"; reason = Some (codes "OK"); line_end = crlf; fields = two_long ∷ []; last = crlf }

is_host : IsField host
unfolding is_token_byte
is_host = record { name = (lit< tt, AllPass-from_list_all is_token_byte (codes "Host") refl); raw = AllPass-from_list_all is_value_byte (codes " h") refl }

is_two_long : IsField two_long
unfolding is_token_byte
is_two_long = record { name = (lit< tt, AllPass-from_list_all is_token_byte (codes "Content-Length") refl); raw = AllPass-from_list_all is_value_byte (codes " 2") refl }

below_128 : All (λ (b : ℕ). b < 128) (codes "/a")
below_128 k d lt = ltb-true _ _ (AllPass-from_list_all (λ (b : ℕ). nat_lt b 128) (codes "/a") refl k d lt)

pub asked : BeginsRequest ask ask_head []
unfolding is_token_byte print_request
asked = record {
  reads = (
    record {
      method = (lit< tt, AllPass-from_list_all is_token_byte (codes "GET") refl);
      target = (lit< tt, AllPass-from_list_all is_uri_byte (codes "/a") refl);
      target_text = IsUtf8-from_ascii (codes "/a") (IsAscii-from_all (codes "/a") below_128);
      minor = lit≤ tt;
      fields = All-cons IsField host [] is_host (All-nil IsField);
    },
    refl,
  );
  version = refl;
}

answered : ReadsResponse answer answer_head (codes "hi")
unfolding print_response
answered = (
  record {
    minor = lit≤ tt;
    digits = (refl, AllPass-from_list_all is_ascii_digit (codes "200") refl);
    reason = AllPass-from_list_all is_value_byte (codes "OK") refl;
    fields = All-cons IsField two_long [] is_two_long (All-nil IsField);
  },
  refl,
)

no_body : request_kind ask_head ≡ Ok Nothing
unfolding request_kind trim_ows
no_body = refl

two_bytes : answer_kind Other answer_head ≡ Ok (Length 2)
unfolding answer_kind trim_ows
two_bytes = refl

not_connect : (m : MethodKind) → m ≡ Other → m ≡ Connect → ⊥
not_connect m a b = cc

pub is_request : IsRequest ask Other
is_request = (ask_head, [], record { begins = asked; method = not_connect (kind_of_method ask_head.method) refl; kind = Nothing; framed = no_body; whole = refl }, refl)

is_answer : IsAnswerWith Other answer answer_head (Length 2)
is_answer = record {
  interims = [];
  rest = answer;
  begins = refl;
  body = codes "hi";
  reads = answered;
  final = lit≤ tt;
  framed = two_bytes;
  whole = refl;
}

has_end : Length 2 ≡ ToEnd → ⊥
has_end e = cc

persists_so : Persists Other answer
unfolding persists trim_ows connection_options
persists_so = (answer_head, Length 2, is_answer, refl, has_end)

-- ---- what goes out for them

pub ask_goes_out : ForwardsRequest ask ask
unfolding forwarded_request staying goes_on connection_options is_of_connection is_kept trim_ows
ask_goes_out = inl (ask_head, [], asked, refl)

pub answer_goes_out : ForwardsAnswer answer false answer
unfolding forwarded_answer staying goes_on connection_options is_of_connection is_kept trim_ows
answer_goes_out = ([], answer, refl, answer, inl (answer_head, codes "hi", answered, lit≤ tt, refl), refl)

stays_open : wants_close ask_head ≡ true → ⊥
unfolding wants_close connection_options trim_ows
stays_open e = cc

pub not_closing : WantsClose ask ⊎ RunsToEnd Other answer → ⊥
not_closing (inl (g, rest, begins, wants)) =
    stays_open (ap wants_close (request_unique ask ask_head g [] rest asked.reads begins.reads).0 ∙ wants)
not_closing (inr (g, runs)) = has_end (one_answer Other answer answer_head g (Length 2) ToEnd is_answer runs).1

-- ---- the records

-- a record over these bytes, behind as many whole exchanges as its number says
abbrev Behind : Carried → Carriage → Type 0
Behind c conn = AreExchanges (take c.sent.from conn.sent) (take c.took.from conn.taken) (c.nth - 1)

whole_passed : (s : Served) (c : Carried) (client conn : Carriage) → HasRanges s c client conn → c.closing ≡ false
    → ask ≡ bytes_in client.taken s.ask → ask ≡ bytes_in conn.sent c.sent → answer ≡ bytes_in conn.taken c.took
    → answer ≡ bytes_in client.sent s.gave → Behind c conn → IsTruePassed s c client conn
whole_passed s c client conn ranges keeps q r a g before =
    let closes : (c.closing ≡ true) ↔ (WantsClose ask ⊎ RunsToEnd Other answer) = ((λ e. cc), (λ either. absurd (not_closing either))) in
    let ended : Type 0 = (conn.ended ≡ true) × (c.took.to ≡ length conn.taken) in
    record {
      ranges = ranges;
      method = Other;
      ask = subst (λ (x : List ℕ). IsRequest x Other) q is_request;
      sent = subst (λ (x : List ℕ). ForwardsRequest x (bytes_in conn.sent c.sent)) q (subst (λ (y : List ℕ). ForwardsRequest ask y) r ask_goes_out);
      answer = subst (λ (x : List ℕ). IsWholeAnswer Other x ended) a (answer_head, Length 2, is_answer, λ e. absurd (has_end e));
      gave = subst (λ (b : Bool). ForwardsAnswer (bytes_in conn.taken c.took) b (bytes_in client.sent s.gave)) (sym keeps)
          (subst (λ (x : List ℕ). ForwardsAnswer x false (bytes_in client.sent s.gave)) a (subst (λ (y : List ℕ). ForwardsAnswer answer false y) g answer_goes_out));
      closing = subst (λ (x : List ℕ). (c.closing ≡ true) ↔ (WantsClose x ⊎ RunsToEnd Other (bytes_in conn.taken c.took))) q
          (subst (λ (y : List ℕ). (c.closing ≡ true) ↔ (WantsClose ask ⊎ RunsToEnd Other y)) a closes);
      before = before;
    }

pub one_true : Recounts first one_asked one_carried
one_true = whole_passed first first_moved (client_carriage one_asked false) (conn_carriage one_carried false)
    (record { first = lit≤ tt; ask = (lit≤ tt, lit≤ tt); gave = (lit≤ tt, lit≤ tt); sent = (lit≤ tt, lit≤ tt); took = (lit≤ tt, lit≤ tt) })
    refl refl refl refl refl (refl, refl)

pub first_true : Recounts first two_asked two_carried
first_true = whole_passed first first_moved (client_carriage two_asked false) (conn_carriage two_carried false)
    (record { first = lit≤ tt; ask = (lit≤ tt, lit≤ tt); gave = (lit≤ tt, lit≤ tt); sent = (lit≤ tt, lit≤ tt); took = (lit≤ tt, lit≤ tt) })
    refl refl refl refl refl (refl, refl)

one_before : AreExchanges ask answer 1
one_before = ([], ask, [], answer, Other, refl, refl, is_request, (answer_head, Length 2, is_answer), persists_so, (refl, refl))

pub second_true : Recounts second two_asked two_carried
second_true = whole_passed second (second_moved 2) (client_carriage two_asked false) (conn_carriage two_carried false)
    (record { first = lit≤ tt; ask = (lit≤ tt, lit≤ tt); gave = (lit≤ tt, lit≤ tt); sent = (lit≤ tt, lit≤ tt); took = (lit≤ tt, lit≤ tt) })
    refl refl refl refl refl one_before

-- ---- the ranges

pub one_client : TilesClient one_record one_asked
one_client = record {
  left = (told.Served first ∷ [], _, [], refl, refl, refl, refl);
  asks = (refl, lit≤ tt, (refl, lit≤ tt, refl));
  gaves = (refl, lit≤ tt, refl);
  numbers = (refl, tt);
}

pub two_client : TilesClient two_records two_asked
two_client = record {
  left = (told.Served first ∷ told.Served second ∷ [], _, [], refl, refl, refl, refl);
  asks = (refl, lit≤ tt, (refl, lit≤ tt, (refl, lit≤ tt, refl)));
  gaves = (refl, lit≤ tt, (refl, lit≤ tt, refl));
  numbers = (refl, (refl, tt));
}

pub one_conn : TilesConn one_record one_carried
one_conn =
    let all = first_moved ∷ [] in
    record { exchanges = all; count = refl; told = All-contains_itself all; all_told = All-contains_itself all; order = (refl, refl, lit≤ tt, refl, lit≤ tt, tt) }

pub two_conn : TilesConn two_records two_carried
two_conn =
    let all = first_moved ∷ second_moved 2 ∷ [] in
    record {
      exchanges = all;
      count = refl;
      told = All-contains_itself all;
      all_told = All-contains_itself all;
      order = (refl, refl, lit≤ tt, refl, lit≤ tt, (refl, refl, lit≤ tt, refl, lit≤ tt, tt));
    }
