-- What goes out for a head is a head again, and goes out as it is.
use Rattle.std.proofs.Common.{◌≡◌, ℕ, List, [], ◌∷◌, ◌++◌, map, filter, All, cond, Bool, true, false, ◌||◌, Some, refl, sym, ap, ap₂, ◌∙◌, append_assoc, lit≤, lit<, arith}
use Rattle.std.specs.Prelude.{codes}
use Rattle.std.specs.List.{list_any, flat_map}
use Rattle.std.specs.Str.{str_eq_ignore_ascii_case}
use Rattle.std.proofs.lemmas.List.{append-nil}
use Rattle.std.proofs.lemmas.List.Elements.{All-cons, All-append, All-weaker, All-filter, filter-append}
use Rattle.std.proofs.lemmas.List.Sums.{AllPass-from_list_all}
use Rattle.std.proofs.lemmas.Grind.{flat_map-append}
use Rattle.httparse.specs.Ascii.{space, crlf_bytes}
use Rattle.httparse.specs.Grammar.{is_token_byte, is_value_byte, trim_ows, Field, IsField, crlf, RequestHead, IsRequestHead, print_request, ResponseHead, IsResponseHead, print_response, reason_phrase}
use Rattle.hx_message.specs.Fields.{NameAndValue, read_fields, is_named, values_of, parts_of, connection_options, is_of_connection, is_optional, goes_on, staying}
use Rattle.hx_message.specs.Body.{request_kind, with_host, field_kind}
use Rattle.hx_message.specs.Forwarded.{field_line, closing_line, forwarded_request, forwarded_answer}
use Rattle.hx_message.specs.Again.{IsForwardedRequest, IsForwardedAnswer, closing_fields, KeepsNoClose}
use Rattle.hx_message.proofs.FieldLemmas.{Fits, all_fit, to_field, are_fields, lines_again, read_again}
use Rattle.hx_message.proofs.KeptLemmas.{filter_none, filter_whole, not_named, goes_without, staying_not_connection, staying_twice, by_values, kind_stays}

-- ---- requests

request_again : RequestHead → RequestHead
request_again g = record {
  blank = [];
  method = g.method;
  target = g.target;
  minor = 1;
  line_end = crlf;
  fields = map to_field (staying (read_fields g.fields));
  last = crlf;
}

stay_fit : (fields : List Field) → All IsField fields → All Fits (staying (read_fields fields))
unfolding staying
stay_fit fields all = All-filter (goes_on (read_fields fields)) Fits (read_fields fields) (all_fit fields all)

regroup : (a b c d e : List ℕ) → (a ++ (b ++ c) ++ d) ++ e ≡ a ++ b ++ c ++ (d ++ e)
regroup a b c d e = simp append_assoc

request_text_again : (g : RequestHead) → forwarded_request g ≡ print_request (request_again g)
unfolding forwarded_request print_request request_again
request_text_again g =
    regroup (g.method ++ space ∷ g.target) (codes " HTTP/1.1") crlf_bytes (flat_map field_line (staying (read_fields g.fields))) crlf_bytes
    ∙ ap (λ (lines : List ℕ). g.method ++ space ∷ g.target ++ codes " HTTP/1.1" ++ crlf_bytes ++ (lines ++ crlf_bytes)) (sym (lines_again (staying (read_fields g.fields))))

request_kind_again : (k g : RequestHead) → read_fields k.fields ≡ staying (read_fields g.fields) → request_kind k ≡ request_kind g
unfolding request_kind by_values
request_kind_again k g are =
    ap (λ (fs : List NameAndValue). with_host fs (field_kind (values_of (codes "Transfer-Encoding") fs) (values_of (codes "Content-Length") fs))) are
    ∙ kind_stays (read_fields g.fields)

pub goes_again : (g : RequestHead) → IsRequestHead g → (k : RequestHead) × IsForwardedRequest g k
unfolding request_again forwarded_request
goes_again g is =
    let fit = stay_fit g.fields is.fields in
    let stays = staying (read_fields g.fields) in
    let are : read_fields (map to_field stays) ≡ stays = read_again stays fit in (
      request_again g,
      record {
        reads = (
          record { method = is.method; target = is.target; target_text = is.target_text; minor = lit≤ tt; fields = are_fields stays fit },
          request_text_again g ∙ sym (append-nil (print_request (request_again g))),
        );
        version = refl;
        method = refl;
        target = refl;
        fields = are;
        kind = request_kind_again (request_again g) g are;
        again = ap (λ (fs : List NameAndValue). g.method ++ space ∷ g.target ++ codes " HTTP/1.1\r\n" ++ flat_map field_line fs ++ crlf_bytes)
            (ap staying are ∙ staying_twice (read_fields g.fields));
      },
    )

-- ---- answers

answer_again : ResponseHead → Bool → ResponseHead
answer_again g closing = record {
  blank = [];
  minor = 1;
  digits = g.digits;
  reason = Some (reason_phrase g.reason);
  line_end = crlf;
  fields = map to_field (staying (read_fields g.fields) ++ closing_fields closing);
  last = crlf;
}

close_fits : Fits (codes "Connection", codes "close")
unfolding trim_ows is_token_byte
close_fits = ((lit< tt, AllPass-from_list_all is_token_byte (codes "Connection") refl), AllPass-from_list_all is_value_byte (codes "close") refl, refl)

closing_fit : (closing : Bool) → All Fits (closing_fields closing)
closing_fit true = All-cons Fits (codes "Connection", codes "close") [] close_fits (λ k d lt. absurd (omega (arith, lt)))
closing_fit false = λ k d lt. absurd (omega (arith, lt))

closing_lines : (closing : Bool) → flat_map field_line (closing_fields closing) ≡ closing_line closing
closing_lines true = refl
closing_lines false = refl

regroup_lines : (a b c e : List ℕ) → a ++ b ++ c ++ e ≡ a ++ ((b ++ c) ++ e)
regroup_lines a b c e = simp append_assoc

answer_text_again : (g : ResponseHead) (closing : Bool) → forwarded_answer g closing ≡ print_response (answer_again g closing)
unfolding forwarded_answer print_response answer_again
answer_text_again g closing =
    let stays = staying (read_fields g.fields) in
    let front = codes "HTTP/1.1 " ++ g.digits ++ space ∷ reason_phrase g.reason ++ crlf_bytes in
    let lines = ap (λ (last : List ℕ). flat_map field_line stays ++ last) (sym (closing_lines closing))
    ∙ sym (flat_map-append field_line stays (closing_fields closing)) ∙ sym (lines_again (stays ++ closing_fields closing)) in
    regroup_lines front (flat_map field_line stays) (closing_line closing) crlf_bytes ∙ ap (λ (text : List ℕ). front ++ (text ++ crlf_bytes)) lines

abbrev pub the_close : NameAndValue
the_close = (codes "Connection", codes "close")

close_values : (fields : List NameAndValue) → All (λ f. is_of_connection f.0 ≡ false) fields → values_of (codes "Connection") (fields ++ the_close ∷ []) ≡ codes "close" ∷ []
close_values fields none =
    let others = All-weaker (λ (f : NameAndValue). is_of_connection f.0 ≡ false) (λ (f : NameAndValue). is_named (codes "Connection") f ≡ false) not_named fields none in
    ap (map (λ (f : NameAndValue). f.1))
    (filter-append (is_named (codes "Connection")) fields (the_close ∷ [])
    ∙ ap (λ (ys : List NameAndValue). ys ++ filter (is_named (codes "Connection")) (the_close ∷ [])) (filter_none (is_named (codes "Connection")) fields others))

close_options : (fields : List NameAndValue) → All (λ f. is_of_connection f.0 ≡ false) fields → connection_options (fields ++ the_close ∷ []) ≡ codes "close" ∷ []
unfolding connection_options trim_ows
close_options fields none = ap (flat_map (λ (value : List ℕ). map trim_ows (parts_of value))) (close_values fields none)

close_stops : (fields : List NameAndValue) → goes_on fields the_close ≡ false
unfolding goes_on is_of_connection
close_stops fields = refl

or_false : (b : Bool) → b ≡ false → (b || false) ≡ false
or_false b e = ap (λ (t : Bool). t || false) e

-- beside the line that tells of the end, what stays still stays but a field named close
stay_beside_close : (fields : List NameAndValue) → All (λ f. is_of_connection f.0 ≡ false) fields → All (λ f. is_named (codes "close") f ≡ false) fields
    → staying (fields ++ the_close ∷ []) ≡ fields
unfolding staying
stay_beside_close fields none others =
    let all = fields ++ the_close ∷ [] in
    let both : All (λ (f : NameAndValue). (is_of_connection f.0 ≡ false) × (is_named (codes "close") f ≡ false)) fields = λ k d lt. (none k d lt, others k d lt) in
    let options : (f : NameAndValue) → is_named (codes "close") f ≡ false → is_optional all f.0 ≡ false =
    λ f other. ap (list_any (λ option. str_eq_ignore_ascii_case option f.0)) (close_options fields none) ∙ or_false (is_named (codes "close") f) other in
    let pass : All (λ (f : NameAndValue). goes_on all f ≡ true) fields =
    All-weaker (λ (f : NameAndValue). (is_of_connection f.0 ≡ false) × (is_named (codes "close") f ≡ false)) (λ (f : NameAndValue). goes_on all f ≡ true)
    (λ (f : NameAndValue) (is : (is_of_connection f.0 ≡ false) × (is_named (codes "close") f ≡ false)). goes_without all f (options f is.1) is.0) fields both in
    let last : filter (goes_on all) (the_close ∷ []) ≡ [] = ap (λ (t : Bool). cond t (the_close ∷ []) []) (close_stops all) in
    filter-append (goes_on all) fields (the_close ∷ []) ∙ ap₂ (λ (xs ys : List NameAndValue). xs ++ ys) (filter_whole (goes_on all) fields pass) last ∙ append-nil fields

stay_again : (closing : Bool) (fields : List NameAndValue) → KeepsNoClose closing fields → staying (staying fields ++ closing_fields closing) ≡ staying fields
stay_again true fields keeps = stay_beside_close (staying fields) (staying_not_connection fields) (keeps refl)
stay_again false fields keeps = ap staying (append-nil (staying fields)) ∙ staying_twice fields

pub comes_again : (g : ResponseHead) (closing : Bool) → IsResponseHead g → (k : ResponseHead) × IsForwardedAnswer g k closing
unfolding answer_again forwarded_answer
comes_again g closing is =
    let stays = staying (read_fields g.fields) in
    let fit = All-append Fits stays (closing_fields closing) (stay_fit g.fields is.fields) (closing_fit closing) in
    let are : read_fields (map to_field (stays ++ closing_fields closing)) ≡ stays ++ closing_fields closing = read_again (stays ++ closing_fields closing) fit in (
      answer_again g closing,
      record {
        reads = (
          record { minor = lit≤ tt; digits = is.digits; reason = is.reason; fields = are_fields (stays ++ closing_fields closing) fit },
          answer_text_again g closing ∙ sym (append-nil (print_response (answer_again g closing))),
        );
        version = refl;
        status = refl;
        reason = refl;
        fields = are;
        again = λ keeps later. ap (λ (fs : List NameAndValue). codes "HTTP/1.1 " ++ g.digits ++ space ∷ reason_phrase g.reason ++ crlf_bytes ++ flat_map field_line fs ++ closing_line later ++ crlf_bytes)
            (ap staying are ∙ stay_again closing (read_fields g.fields) keeps);
      },
    )
