-- The lines of records are read back.
use Rattle.std.proofs.Common.{◌≡◌, ℕ, ◌<◌, ◌≤◌, Bool, true, false, List, [], ◌∷◌, ◌++◌, length, None, Result, Ok, refl, subst, ◌∙◌, append_assoc, arith}
use Rattle.std.specs.Prelude.{codes, decimal, ⊤}
use Rattle.std.proofs.lemmas.List.{append-nil}
use Rattle.hx_base.specs.declared.numbers.ThreadNo.{ThreadNo}
use Rattle.hx_base.specs.declared.numbers.SessionNo.{SessionNo}
use Rattle.hx_base.specs.declared.numbers.ServerNo.{ServerNo}
use Rattle.hx_base.specs.declared.numbers.ConnId.{ConnId}
use Rattle.hx_base.specs.declared.numbers.Span.{Span}
use Rattle.hx_record.specs.declared.served.Carried.{Carried}
use Rattle.hx_record.specs.declared.served.CutCause.{CutCause}
use Rattle.hx_record.specs.declared.served.CutCause.TheVariants as cut
use Rattle.hx_record.specs.declared.served.Kind.{Kind}
use Rattle.hx_record.specs.declared.served.Kind.TheVariants as kind
use Rattle.hx_record.specs.declared.served.Left.{Left}
use Rattle.hx_record.specs.declared.served.LeftCause.{LeftCause}
use Rattle.hx_record.specs.declared.served.Served.{Served}
use Rattle.hx_record.specs.declared.served.Told.{Told}
use Rattle.hx_record.specs.declared.served.Told.TheVariants as told
use Rattle.hx_script.specs.declared.transcript.ServerPart.{ServerPart}
use Rattle.hx_script.specs.MarkLines.{who}
use Rattle.hx_script.specs.PrintedForm.{IsToldRecord}
use Rattle.hx_script.specs.RecordLines.{span_text, conn_text, closing_text, cut_closing_text, cut_text, carried_text, cause_text, record_line}
use Rattle.hx_transcripts_parts.specs.declared.fault.Rule.{Rule}
use Rattle.hx_transcripts_parts.specs.declared.keywords.RecordWord.{RecordWord}
use Rattle.hx_transcripts_parts.specs.declared.keywords.RecordWord.TheVariants as first
use Rattle.hx_transcripts_parts.specs.declared.records.Begin.{Begin}
use Rattle.hx_transcripts_parts.specs.declared.records.Exchange.{Exchange}
use Rattle.hx_transcripts_parts.specs.Faults.{◌>>=◌}
use Rattle.hx_transcripts_parts.specs.Keywords.{closing_words, cut_closing_words, left_words}
use Rattle.hx_transcripts_parts.specs.Lexical.{Rest, rest_text, read_word, is_word, at_end}
use Rattle.hx_transcripts_parts.specs.Marks.{one_of}
use Rattle.hx_transcripts_parts.specs.Numbers.{number_in, most_16, most_32, most_64}
use Rattle.hx_transcripts_parts.specs.Pieces.{who_in, span_in, range_at, conn_in}
use Rattle.hx_transcripts_parts.specs.ReadBack.{ReadsNext, FitsWho, FitsSpan, FitsConn, AreNamed}
use Rattle.hx_transcripts_parts.specs.RecordLaws.{FitsCarried, FitsKind, FitsTold, IsRecordLine, IsRecordRead}
use Rattle.hx_transcripts_parts.specs.Records.{begin_at, exchange_at, carried, served, pass_at, cause_in, cut_at, own_at, left_at, record_at}
use Rattle.hx_transcripts_parts.proofs.WordLemmas.{ok_is, bind_is, word_reads, word_is}
use Rattle.hx_transcripts_parts.proofs.PieceLemmas.{who_reads, span_reads, conn_reads}
use Rattle.hx_transcripts_parts.proofs.TableLemmas.{either, closings_read, cut_closings_read, lefts_read, cause_reads}
use Rattle.hx_transcripts_parts.proofs.LineLemmas.{next_sound, last_sound, two_read, label_read}
use Rattle.hx_transcripts_parts.proofs.MarkLemmas.{next_number}

-- ---- parts

-- a range behind its label
abbrev labelled : List ℕ → Span → List ℕ
labelled label s = label ++ codes " " ++ span_text s

next_span : ReadsNext (read_word span_in) span_text FitsSpan
next_span = word_reads span_in span_text FitsSpan span_reads

ranges : (label : List ℕ) → ReadsNext (read_word (is_word label)) (λ (x : ⊤). label) (λ (x : ⊤). ⊤) → ReadsNext (range_at label) (labelled label) FitsSpan
ranges label h = label_read label (read_word (is_word label)) (read_word span_in) span_text FitsSpan h next_span

asks : ReadsNext (range_at (codes "ask")) (labelled (codes "ask")) FitsSpan
asks = ranges (codes "ask") (word_reads (is_word (codes "ask")) (λ (x : ⊤). codes "ask") (λ (x : ⊤). ⊤) (word_is (codes "ask") refl))

sents : ReadsNext (range_at (codes "sent")) (labelled (codes "sent")) FitsSpan
sents = ranges (codes "sent") (word_reads (is_word (codes "sent")) (λ (x : ⊤). codes "sent") (λ (x : ⊤). ⊤) (word_is (codes "sent") refl))

tooks : ReadsNext (range_at (codes "took")) (labelled (codes "took")) FitsSpan
tooks = ranges (codes "took") (word_reads (is_word (codes "took")) (λ (x : ⊤). codes "took") (λ (x : ⊤). ⊤) (word_is (codes "took") refl))

gaves : ReadsNext (range_at (codes "gave")) (labelled (codes "gave")) FitsSpan
gaves = ranges (codes "gave") (word_reads (is_word (codes "gave")) (λ (x : ⊤). codes "gave") (λ (x : ⊤). ⊤) (word_is (codes "gave") refl))

abbrev begin_words : Begin → List ℕ
begin_words b = who b.worker b.session ++ codes " " ++ decimal b.number

abbrev FitsBegin : Begin → Type 0
FitsBegin b = FitsWho (b.worker, b.session) × (b.number ≤ most_64)

next_begin : ReadsNext begin_at begin_words FitsBegin
next_begin = two_read (read_word who_in) (λ x. who x.0 x.1) FitsWho (read_word (number_in most_64)) decimal (λ n. n ≤ most_64)
    (λ (x : ThreadNo × SessionNo) (n : ℕ). record { worker = x.0; session = x.1; number = n }) (λ (z : Begin). (z.worker, z.session)) (λ (z : Begin). z.number)
    (λ z. refl) (λ x y. refl) (λ x y. refl) (word_reads who_in (λ x. who x.0 x.1) FitsWho who_reads) (next_number most_64 (omega arith))

-- ---- an exchange

pub record FitsExchange (servers : List ServerPart) (x : Exchange) : Type 0 where
  pub conn : FitsConn servers (x.server, x.id)
  pub nth : x.nth ≤ most_32
  pub ask : FitsSpan x.ask
  pub sent : FitsSpan x.sent
  pub took : FitsSpan x.took
  pub gave : FitsSpan x.gave

abbrev exchange_words : List ServerPart → Exchange → List ℕ
exchange_words servers x = carried_text servers (carried x false) x.ask x.gave

six_words : (z c n k a l b m d o e r : List ℕ)
    → z ++ (c ++ (z ++ (n ++ (z ++ (k ++ z ++ a ++ (z ++ (l ++ z ++ b
    ++ (z ++ (m ++ z ++ d ++ (z ++ (o ++ z ++ e ++ r)))))))))))
    ≡ z ++ (c ++ z ++ n ++ ((z ++ k ++ z) ++ a ++ (z ++ l ++ z) ++ b
    ++ (z ++ m ++ z) ++ d ++ (z ++ o ++ z) ++ e)) ++ r
six_words z c n k a l b m d o e r = simp append_assoc

-- the text of six words that follow each other
exchange_stands : (servers : List ServerPart) (x : Exchange) (rest : Rest)
    → 32 ∷ (conn_text servers x.server x.id ++ (32 ∷ (decimal x.nth ++ (32 ∷ (labelled (codes "ask") x.ask ++ (32 ∷ (labelled (codes "sent") x.sent
    ++ (32 ∷ (labelled (codes "took") x.took ++ (32 ∷ (labelled (codes "gave") x.gave ++ rest_text rest)))))))))))
    ≡ 32 ∷ (exchange_words servers x) ++ rest_text rest
unfolding carried_text
exchange_stands servers x rest =
    six_words (codes " ") (conn_text servers x.server x.id) (decimal x.nth) (codes "ask") (span_text x.ask) (codes "sent") (span_text x.sent)
    (codes "took") (span_text x.took) (codes "gave") (span_text x.gave) (rest_text rest)

abbrev whole_exchange : ServerNo × ConnId → ℕ → Span → Span → Span → Span × Rest → Result (Exchange × Rest) Rule
whole_exchange c n a s t g = Ok (record { server = c.0; id = c.1; nth = n; ask = a; sent = s; took = t; gave = g.0 }, g.1)

abbrev from_took : ServerNo × ConnId → ℕ → Span → Span → Span × Rest → Result (Exchange × Rest) Rule
from_took c n a s t = range_at (codes "gave") t.1 >>= whole_exchange c n a s t.0

abbrev from_sent : ServerNo × ConnId → ℕ → Span → Span × Rest → Result (Exchange × Rest) Rule
from_sent c n a s = range_at (codes "took") s.1 >>= from_took c n a s.0

abbrev from_ask : ServerNo × ConnId → ℕ → Span × Rest → Result (Exchange × Rest) Rule
from_ask c n a = range_at (codes "sent") a.1 >>= from_sent c n a.0

abbrev from_nth : ServerNo × ConnId → ℕ × Rest → Result (Exchange × Rest) Rule
from_nth c n = range_at (codes "ask") n.1 >>= from_ask c n.0

abbrev from_conn : (ServerNo × ConnId) × Rest → Result (Exchange × Rest) Rule
from_conn c = read_word (number_in most_32) c.1 >>= from_nth c.0

next_conn : (servers : List ServerPart) → AreNamed servers → ReadsNext (read_word (conn_in servers)) (λ x. conn_text servers x.0 x.1) (FitsConn servers)
next_conn servers named = word_reads (conn_in servers) (λ x. conn_text servers x.0 x.1) (FitsConn servers) (conn_reads servers named)

next_nth : ReadsNext (read_word (number_in most_32)) decimal (λ n. n ≤ most_32)
next_nth = next_number most_32 (omega arith)

exchange_sound : (servers : List ServerPart) → AreNamed servers → (ws : Rest) (y : Exchange × Rest) → exchange_at servers ws ≡ Ok y
    → FitsExchange servers y.0 × (rest_text ws ≡ 32 ∷ exchange_words servers y.0 ++ rest_text y.1)
unfolding exchange_at
exchange_sound servers named ws y is =
    let c = next_sound (read_word (conn_in servers)) (λ x. conn_text servers x.0 x.1) (FitsConn servers) (next_conn servers named) ws from_conn y is in
    let n = next_sound (read_word (number_in most_32)) decimal (λ n. n ≤ most_32) next_nth c.rest (from_nth c.x) y c.more in
    let a = next_sound (range_at (codes "ask")) (labelled (codes "ask")) FitsSpan asks n.rest (from_ask c.x n.x) y n.more in
    let s = next_sound (range_at (codes "sent")) (labelled (codes "sent")) FitsSpan sents a.rest (from_sent c.x n.x a.x) y a.more in
    let t = next_sound (range_at (codes "took")) (labelled (codes "took")) FitsSpan tooks s.rest (from_took c.x n.x a.x s.x) y s.more in
    let g = next_sound (range_at (codes "gave")) (labelled (codes "gave")) FitsSpan gaves t.rest (whole_exchange c.x n.x a.x s.x t.x) y t.more in
    let x : Exchange = record { server = c.x.0; id = c.x.1; nth = n.x; ask = a.x; sent = s.x; took = t.x; gave = g.x } in
    let fits : FitsExchange servers x = record { conn = c.fits; nth = n.fits; ask = a.fits; sent = s.fits; took = t.fits; gave = g.fits } in
    let stands : rest_text ws ≡ 32 ∷ exchange_words servers x ++ rest_text g.rest =
    rw (c.stands, n.stands, a.stands, s.stands, t.stands, g.stands) (exchange_stands servers x g.rest) in
    subst (λ (z : Exchange × Rest). FitsExchange servers z.0 × (rest_text ws ≡ 32 ∷ exchange_words servers z.0 ++ rest_text z.1)) (ok_is (x, g.rest) y g.more) (fits, stands)

exchange_whole : (servers : List ServerPart) → AreNamed servers → (x : Exchange) (rest : Rest) → FitsExchange servers x
    → (ws : Rest) × (rest_text ws ≡ 32 ∷ exchange_words servers x ++ rest_text rest) × (exchange_at servers ws ≡ Ok (x, rest))
unfolding exchange_at
exchange_whole servers named x rest fits =
    let g = gaves.whole x.gave rest fits.gave in
    let t = tooks.whole x.took g.0 fits.took in
    let s = sents.whole x.sent t.0 fits.sent in
    let a = asks.whole x.ask s.0 fits.ask in
    let n = next_nth.whole x.nth a.0 fits.nth in
    let c = (next_conn servers named).whole (x.server, x.id) n.0 fits.conn in (
      c.0,
      rw (c.1, n.1, a.1, s.1, t.1, g.1) (exchange_stands servers x rest),
      bind_is from_conn c.2 ∙ bind_is (from_nth (x.server, x.id)) n.2 ∙ bind_is (from_ask (x.server, x.id) x.nth) a.2
          ∙ bind_is (from_sent (x.server, x.id) x.nth x.ask) s.2 ∙ bind_is (from_took (x.server, x.id) x.nth x.ask x.sent) t.2
          ∙ bind_is (whole_exchange (x.server, x.id) x.nth x.ask x.sent x.took) g.2,
    )

pub next_exchange : (servers : List ServerPart) → AreNamed servers → ReadsNext (exchange_at servers) (exchange_words servers) (FitsExchange servers)
next_exchange servers named = record { sound = exchange_sound servers named; whole = exchange_whole servers named }

-- ---- the lines: what is read is the line

closing_is : (closing : Bool) → closing_text closing ≡ 32 ∷ (either (codes "close") (codes "keep") closing ++ codes "\n")
closing_is true = refl
closing_is false = refl

cut_closing_is : (closing : Bool) → cut_closing_text closing ≡ 32 ∷ (either (codes "close-yes") (codes "close-no") closing ++ codes " ")
cut_closing_is true = refl
cut_closing_is false = refl

next_closing : ReadsNext (read_word (one_of closing_words)) (either (codes "close") (codes "keep")) (λ x. ⊤)
next_closing = word_reads (one_of closing_words) (either (codes "close") (codes "keep")) (λ x. ⊤) closings_read

next_cut_closing : ReadsNext (read_word (one_of cut_closing_words)) (either (codes "close-yes") (codes "close-no")) (λ x. ⊤)
next_cut_closing = word_reads (one_of cut_closing_words) (either (codes "close-yes") (codes "close-no")) (λ x. ⊤) cut_closings_read

abbrev Closes : Bool → CutCause → Type 0
Closes closing why = why ≡ cut.Early → closing ≡ true

next_cause : (closing : Bool) → ReadsNext (read_word (cause_in closing)) cut_text (Closes closing)
next_cause closing = word_reads (cause_in closing) cut_text (Closes closing) (cause_reads closing)

next_left : ReadsNext (read_word (one_of left_words)) cause_text (λ x. ⊤)
next_left = word_reads (one_of left_words) cause_text (λ x. ⊤) lefts_read

next_status : ReadsNext (read_word (number_in most_16)) decimal (λ n. n ≤ most_16)
next_status = next_number most_16 (omega arith)

next_who : ReadsNext (read_word who_in) (λ x. who x.0 x.1) FitsWho
next_who = word_reads who_in (λ x. who x.0 x.1) FitsWho who_reads

pass_words : (w z b x c e : List ℕ) → w ++ z ++ (b ++ z) ++ x ++ (z ++ (c ++ e)) ≡ w ++ (z ++ (b ++ (z ++ (x ++ (z ++ (c ++ [])))))) ++ e
pass_words w z b x c e = rw (append-nil c) (simp append_assoc)

pass_line : (servers : List ServerPart) (b : Begin) (x : Exchange) (closing : Bool)
    → record_line servers (served b x.ask x.gave (kind.Passed (carried x closing)))
    ≡ codes "pass" ++ (32 ∷ (begin_words b ++ (32 ∷ (exchange_words servers x ++ (32 ∷ (either (codes "close") (codes "keep") closing ++ [])))))) ++ codes "\n"
unfolding record_line carried_text
pass_line servers b x closing =
    rw (closing_is closing) (pass_words (codes "pass") (codes " ") (begin_words b) (exchange_words servers x) (either (codes "close") (codes "keep") closing) (codes "\n"))

fits_told : (servers : List ServerPart) (b : Begin) (x : Exchange) → FitsBegin b → FitsExchange servers x
    → (closing : Bool) → FitsTold (served b x.ask x.gave (kind.Passed (carried x closing)))
fits_told servers b x f h closing = (f.0, f.1, h.ask, h.gave, (h.conn.1, h.conn.2, h.nth, h.sent, h.took))

pass_sound : (servers : List ServerPart) → AreNamed servers → (ws : Rest) (t : Told) → pass_at servers ws ≡ Ok t → IsRecordLine servers first.Pass ws t
pass_sound servers named ws t is =
    let b = next_sound begin_at begin_words FitsBegin next_begin ws _ t is in
    let x = next_sound (exchange_at servers) (exchange_words servers) (FitsExchange servers) (next_exchange servers named) b.rest _ t b.more in
    let c = next_sound (read_word (one_of closing_words)) (either (codes "close") (codes "keep")) (λ x. ⊤) next_closing x.rest _ t x.more in
    let e = last_sound c.rest (served b.x x.x.ask x.x.gave (kind.Passed (carried x.x c.x))) t c.more in
    subst (IsRecordLine servers first.Pass ws) e.1 (record {
      told = x.fits.conn.0;
      fits = fits_told servers b.x x.x b.fits x.fits c.x;
      line = rw (b.stands, x.stands, c.stands, e.0) (pass_line servers b.x x.x c.x);
    })

cut_words_are : (w z b x c y e : List ℕ) → w ++ z ++ (b ++ z) ++ x ++ (z ++ (c ++ z)) ++ y ++ e ≡ w ++ (z ++ (b ++ (z ++ (x ++ (z ++ (c ++ (z ++ (y ++ [])))))))) ++ e
cut_words_are w z b x c y e = rw (append-nil y) (simp append_assoc)

cut_line_is : (servers : List ServerPart) (b : Begin) (x : Exchange) (closing : Bool) (why : CutCause)
    → record_line servers (served b x.ask x.gave (kind.Cut (carried x closing) why))
    ≡ codes "cut" ++ (32 ∷ (begin_words b ++ (32 ∷ (exchange_words servers x ++ (32 ∷ (either (codes "close-yes") (codes "close-no") closing
    ++ (32 ∷ (cut_text why ++ [])))))))) ++ codes "\n"
unfolding record_line carried_text
cut_line_is servers b x closing why =
    rw (cut_closing_is closing) (cut_words_are (codes "cut") (codes " ") (begin_words b) (exchange_words servers x) (either (codes "close-yes") (codes "close-no") closing) (cut_text why) (codes "\n"))

cut_sound : (servers : List ServerPart) → AreNamed servers → (ws : Rest) (t : Told) → cut_at servers ws ≡ Ok t → IsRecordLine servers first.Cut ws t
cut_sound servers named ws t is =
    let b = next_sound begin_at begin_words FitsBegin next_begin ws _ t is in
    let x = next_sound (exchange_at servers) (exchange_words servers) (FitsExchange servers) (next_exchange servers named) b.rest _ t b.more in
    let c = next_sound (read_word (one_of cut_closing_words)) (either (codes "close-yes") (codes "close-no")) (λ x. ⊤) next_cut_closing x.rest _ t x.more in
    let y = next_sound (read_word (cause_in c.x)) cut_text (Closes c.x) (next_cause c.x) c.rest _ t c.more in
    let e = last_sound y.rest (served b.x x.x.ask x.x.gave (kind.Cut (carried x.x c.x) y.x)) t y.more in
    subst (IsRecordLine servers first.Cut ws) e.1 (record {
      told = (x.fits.conn.0, y.fits);
      fits = fits_told servers b.x x.x b.fits x.fits c.x;
      line = rw (b.stands, x.stands, c.stands, y.stands, e.0) (cut_line_is servers b.x x.x c.x y.x);
    })

own_words : (w z b s k a l g e : List ℕ) → w ++ z ++ (b ++ z) ++ s ++ (z ++ k ++ z) ++ a ++ (z ++ l ++ z) ++ g ++ e
    ≡ w ++ (z ++ (b ++ (z ++ (s ++ (z ++ (k ++ z ++ a ++ (z ++ (l ++ z ++ g ++ [])))))))) ++ e
own_words w z b s k a l g e = rw (append-nil (l ++ z ++ g)) (simp append_assoc)

own_line_is : (servers : List ServerPart) (b : Begin) (status : ℕ) (ask gave : Span)
    → record_line servers (served b ask gave (kind.Own status))
    ≡ codes "own" ++ (32 ∷ (begin_words b ++ (32 ∷ (decimal status ++ (32 ∷ (labelled (codes "ask") ask ++ (32 ∷ (labelled (codes "gave") gave ++ [])))))))) ++ codes "\n"
unfolding record_line
own_line_is servers b status ask gave =
    own_words (codes "own") (codes " ") (begin_words b) (decimal status) (codes "ask") (span_text ask) (codes "gave") (span_text gave) (codes "\n")

own_sound : (servers : List ServerPart) (ws : Rest) (t : Told) → own_at ws ≡ Ok t → IsRecordLine servers first.Own ws t
own_sound servers ws t is =
    let b = next_sound begin_at begin_words FitsBegin next_begin ws _ t is in
    let s = next_sound (read_word (number_in most_16)) decimal (λ n. n ≤ most_16) next_status b.rest _ t b.more in
    let a = next_sound (range_at (codes "ask")) (labelled (codes "ask")) FitsSpan asks s.rest _ t s.more in
    let g = next_sound (range_at (codes "gave")) (labelled (codes "gave")) FitsSpan gaves a.rest _ t a.more in
    let e = last_sound g.rest (served b.x a.x g.x (kind.Own s.x)) t g.more in
    subst (IsRecordLine servers first.Own ws) e.1 (record {
      told = tt;
      fits = (b.fits.0, b.fits.1, a.fits, g.fits, s.fits);
      line = rw (b.stands, s.stands, a.stands, g.stands, e.0) (own_line_is servers b.x s.x a.x g.x);
    })

left_words_are : (w z a b c e : List ℕ) → w ++ z ++ a ++ z ++ b ++ z ++ c ++ e ≡ w ++ (z ++ (a ++ (z ++ (b ++ (z ++ (c ++ [])))))) ++ e
left_words_are w z a b c e = rw (append-nil c) (simp append_assoc)

left_line_is : (servers : List ServerPart) (t : ThreadNo) (n : SessionNo) (ask : Span) (why : LeftCause)
    → record_line servers (told.Left (record { worker = t; session = n; ask = ask; cause = why }))
    ≡ codes "left" ++ (32 ∷ (who t n ++ (32 ∷ (span_text ask ++ (32 ∷ (cause_text why ++ [])))))) ++ codes "\n"
unfolding record_line
left_line_is servers t n ask why = left_words_are (codes "left") (codes " ") (who t n) (span_text ask) (cause_text why) (codes "\n")

left_sound : (servers : List ServerPart) (ws : Rest) (t : Told) → left_at ws ≡ Ok t → IsRecordLine servers first.Left ws t
left_sound servers ws t is =
    let w = next_sound (read_word who_in) (λ x. who x.0 x.1) FitsWho next_who ws _ t is in
    let a = next_sound (read_word span_in) span_text FitsSpan next_span w.rest _ t w.more in
    let c = next_sound (read_word (one_of left_words)) cause_text (λ x. ⊤) next_left a.rest _ t a.more in
    let e = last_sound c.rest (told.Left (record { worker = w.x.0; session = w.x.1; ask = a.x; cause = c.x })) t c.more in
    subst (IsRecordLine servers first.Left ws) e.1 (record {
      told = tt;
      fits = (w.fits, a.fits);
      line = rw (w.stands, a.stands, c.stands, e.0) (left_line_is servers w.x.0 w.x.1 a.x c.x);
    })

pub record_sound : (servers : List ServerPart) → AreNamed servers → (f : RecordWord) (ws : Rest) (t : Told) → record_at servers f ws ≡ Ok t
    → IsRecordLine servers f ws t
unfolding record_at
record_sound servers named first.Pass ws t is = pass_sound servers named ws t is
record_sound servers named first.Cut ws t is = cut_sound servers named ws t is
record_sound servers named first.Own ws t is = own_sound servers ws t is
record_sound servers named first.Left ws t is = left_sound servers ws t is

-- ---- each line is read

abbrev exchange_of : Carried → Span → Span → Exchange
exchange_of c ask gave = record { server = c.server; id = c.id; nth = c.nth; ask = ask; sent = c.sent; took = c.took; gave = gave }

abbrev begin_of : Served → Begin
begin_of s = record { worker = s.worker; session = s.session; number = s.number }

fits_exchange : (servers : List ServerPart) (c : Carried) (ask gave : Span) → c.server.0 < length servers → FitsCarried c → FitsSpan ask → FitsSpan gave
    → FitsExchange servers (exchange_of c ask gave)
fits_exchange servers c ask gave lt f a g = record { conn = (lt, f.0, f.1); nth = f.2; ask = a; sent = f.3; took = f.4; gave = g }

pass_whole : (servers : List ServerPart) → AreNamed servers → (b : Begin) (x : Exchange) (closing : Bool) → FitsBegin b → FitsExchange servers x
    → IsRecordRead servers (served b x.ask x.gave (kind.Passed (carried x closing)))
unfolding record_at
pass_whole servers named b x closing fb fx =
    let c = next_closing.whole closing None tt in
    let y = (next_exchange servers named).whole x c.0 fx in
    let a = next_begin.whole b y.0 fb in
    record {
      first = first.Pass;
      ws = a.0;
      line = rw (a.1, y.1, c.1) (pass_line servers b x closing);
      read = bind_is (λ (u : Begin × Rest). exchange_at servers u.1 >>= λ v. read_word (one_of closing_words) v.1 >>= λ k. at_end k.1 >>= λ e.
          Ok (served u.0 v.0.ask v.0.gave (kind.Passed (carried v.0 k.0)))) a.2
          ∙ bind_is (λ (v : Exchange × Rest). read_word (one_of closing_words) v.1 >>= λ k. at_end k.1 >>= λ e.
          Ok (served b v.0.ask v.0.gave (kind.Passed (carried v.0 k.0)))) y.2
          ∙ bind_is (λ (k : Bool × Rest). at_end k.1 >>= λ e. Ok (served b x.ask x.gave (kind.Passed (carried x k.0)))) c.2;
    }

cut_whole : (servers : List ServerPart) → AreNamed servers → (b : Begin) (x : Exchange) (closing : Bool) (why : CutCause) → FitsBegin b → FitsExchange servers x
    → Closes closing why → IsRecordRead servers (served b x.ask x.gave (kind.Cut (carried x closing) why))
unfolding record_at
cut_whole servers named b x closing why fb fx fw =
    let d = (next_cause closing).whole why None fw in
    let c = next_cut_closing.whole closing d.0 tt in
    let y = (next_exchange servers named).whole x c.0 fx in
    let a = next_begin.whole b y.0 fb in
    record {
      first = first.Cut;
      ws = a.0;
      line = rw (a.1, y.1, c.1, d.1) (cut_line_is servers b x closing why);
      read = bind_is (λ (u : Begin × Rest). exchange_at servers u.1 >>= λ v. read_word (one_of cut_closing_words) v.1 >>= λ k. read_word (cause_in k.0) k.1 >>= λ w. at_end w.1 >>= λ e.
          Ok (served u.0 v.0.ask v.0.gave (kind.Cut (carried v.0 k.0) w.0))) a.2
          ∙ bind_is (λ (v : Exchange × Rest). read_word (one_of cut_closing_words) v.1 >>= λ k. read_word (cause_in k.0) k.1 >>= λ w. at_end w.1 >>= λ e.
          Ok (served b v.0.ask v.0.gave (kind.Cut (carried v.0 k.0) w.0))) y.2
          ∙ bind_is (λ (k : Bool × Rest). read_word (cause_in k.0) k.1 >>= λ w. at_end w.1 >>= λ e. Ok (served b x.ask x.gave (kind.Cut (carried x k.0) w.0))) c.2
          ∙ bind_is (λ (w : CutCause × Rest). at_end w.1 >>= λ e. Ok (served b x.ask x.gave (kind.Cut (carried x closing) w.0))) d.2;
    }

own_whole : (servers : List ServerPart) (b : Begin) (status : ℕ) (ask gave : Span) → FitsBegin b → status ≤ most_16 → FitsSpan ask → FitsSpan gave
    → IsRecordRead servers (served b ask gave (kind.Own status))
unfolding record_at
own_whole servers b status ask gave fb fs fa fg =
    let g = gaves.whole gave None fg in
    let k = asks.whole ask g.0 fa in
    let s = next_status.whole status k.0 fs in
    let a = next_begin.whole b s.0 fb in
    record {
      first = first.Own;
      ws = a.0;
      line = rw (a.1, s.1, k.1, g.1) (own_line_is servers b status ask gave);
      read = bind_is (λ (u : Begin × Rest). read_word (number_in most_16) u.1 >>= λ v. range_at (codes "ask") v.1 >>= λ w. range_at (codes "gave") w.1 >>= λ x. at_end x.1 >>= λ e.
          Ok (served u.0 w.0 x.0 (kind.Own v.0))) a.2
          ∙ bind_is (λ (v : ℕ × Rest). range_at (codes "ask") v.1 >>= λ w. range_at (codes "gave") w.1 >>= λ x. at_end x.1 >>= λ e. Ok (served b w.0 x.0 (kind.Own v.0))) s.2
          ∙ bind_is (λ (w : Span × Rest). range_at (codes "gave") w.1 >>= λ x. at_end x.1 >>= λ e. Ok (served b w.0 x.0 (kind.Own status))) k.2
          ∙ bind_is (λ (x : Span × Rest). at_end x.1 >>= λ e. Ok (served b ask x.0 (kind.Own status))) g.2;
    }

left_whole : (servers : List ServerPart) (l : Left) → FitsTold (told.Left l) → IsRecordRead servers (told.Left l)
unfolding record_at
left_whole servers l fits =
    let c = next_left.whole l.cause None tt in
    let b = next_span.whole l.ask c.0 fits.1 in
    let a = next_who.whole (l.worker, l.session) b.0 fits.0 in
    record {
      first = first.Left;
      ws = a.0;
      line = rw (a.1, b.1, c.1) (left_line_is servers l.worker l.session l.ask l.cause);
      read = bind_is (λ (u : (ThreadNo × SessionNo) × Rest). read_word span_in u.1 >>= λ v. read_word (one_of left_words) v.1 >>= λ w. at_end w.1 >>= λ e.
          Ok (told.Left (record { worker = u.0.0; session = u.0.1; ask = v.0; cause = w.0 }))) a.2
          ∙ bind_is (λ (v : Span × Rest). read_word (one_of left_words) v.1 >>= λ w. at_end w.1 >>= λ e.
          Ok (told.Left (record { worker = l.worker; session = l.session; ask = v.0; cause = w.0 }))) b.2
          ∙ bind_is (λ (w : LeftCause × Rest). at_end w.1 >>= λ e. Ok (told.Left (record { worker = l.worker; session = l.session; ask = l.ask; cause = w.0 }))) c.2;
    }

served_whole : (servers : List ServerPart) → AreNamed servers → (b : Begin) (ask gave : Span) (k : Kind)
    → IsToldRecord (length servers) (served b ask gave k) → FitsBegin b → FitsSpan ask → FitsSpan gave → FitsKind k → IsRecordRead servers (served b ask gave k)
served_whole servers named b ask gave (kind.Passed c) told fb fa fg fk =
    pass_whole servers named b (exchange_of c ask gave) c.closing fb (fits_exchange servers c ask gave told fk fa fg)
served_whole servers named b ask gave (kind.Cut c why) told fb fa fg fk =
    cut_whole servers named b (exchange_of c ask gave) c.closing why fb (fits_exchange servers c ask gave told.0 fk fa fg) told.1
served_whole servers named b ask gave (kind.Own status) told fb fa fg fk = own_whole servers b status ask gave fb fk fa fg

pub record_whole : (servers : List ServerPart) → AreNamed servers → (t : Told) → IsToldRecord (length servers) t → FitsTold t → IsRecordRead servers t
record_whole servers named (told.Served s) is fits = served_whole servers named (begin_of s) s.ask s.gave s.kind is (fits.0, fits.1) fits.2 fits.3 fits.4
record_whole servers named (told.Left l) is fits = left_whole servers l fits
