-- The lines of records, behind their first word, and the counts of a line of totals.
use Rattle.std.specs.Prelude.{ℕ, Bool, true, false, ◌&&◌, not, List, Result, Ok, codes}
use Rattle.hx_base.specs.declared.numbers.Span.{Span}
use Rattle.hx_base.specs.declared.totals.Totals.{Totals}
use Rattle.hx_record.specs.declared.served.Carried.{Carried}
use Rattle.hx_record.specs.declared.served.CutCause.{CutCause}
use Rattle.hx_record.specs.declared.served.CutCause.TheVariants as cut
use Rattle.hx_record.specs.declared.served.Kind.{Kind}
use Rattle.hx_record.specs.declared.served.Kind.TheVariants as kind
use Rattle.hx_record.specs.declared.served.Told.{Told}
use Rattle.hx_record.specs.declared.served.Told.TheVariants as told
use Rattle.hx_script.specs.declared.transcript.ServerPart.{ServerPart}
use Rattle.hx_transcripts_parts.specs.declared.fault.Rule.{Rule}
use Rattle.hx_transcripts_parts.specs.declared.fault.Rule.TheVariants.{BadLine}
use Rattle.hx_transcripts_parts.specs.declared.keywords.RecordWord.{RecordWord}
use Rattle.hx_transcripts_parts.specs.declared.keywords.RecordWord.TheVariants as first
use Rattle.hx_transcripts_parts.specs.declared.records.Begin.{Begin}
use Rattle.hx_transcripts_parts.specs.declared.records.Exchange.{Exchange}
use Rattle.hx_transcripts_parts.specs.Faults.{◌>>=◌, unless}
use Rattle.hx_transcripts_parts.specs.Keywords.{closing_words, cut_closing_words, cut_words, left_words}
use Rattle.hx_transcripts_parts.specs.Lexical.{Rest, read_word, at_end}
use Rattle.hx_transcripts_parts.specs.Marks.{one_of}
use Rattle.hx_transcripts_parts.specs.Numbers.{number_in, most_16, most_32, most_64}
use Rattle.hx_transcripts_parts.specs.Pieces.{who_in, span_in, range_at, count_at, conn_in}

-- `<who> <number>`
abbrev pub begin_at : Rest → Result (Begin × Rest) Rule
begin_at ws = do
  who ← read_word who_in ws
  number ← read_word (number_in most_64) who.1
  Ok (record { worker = who.0.0; session = who.0.1; number = number.0 }, number.1)

-- `<conn> <nth> ask <span> sent <span> took <span> gave <span>`
unfoldable pub exchange_at : List ServerPart → Rest → Result (Exchange × Rest) Rule
exchange_at servers ws = do
  conn ← read_word (conn_in servers) ws
  nth ← read_word (number_in most_32) conn.1
  ask ← range_at (codes "ask") nth.1
  sent ← range_at (codes "sent") ask.1
  took ← range_at (codes "took") sent.1
  gave ← range_at (codes "gave") took.1
  Ok (
    record {
      server = conn.0.0;
      id = conn.0.1;
      nth = nth.0;
      ask = ask.0;
      sent = sent.0;
      took = took.0;
      gave = gave.0;
    },
    gave.1,
  )

-- what was carried
abbrev pub carried : Exchange → Bool → Carried
carried x closing = record { server = x.server; id = x.id; nth = x.nth; sent = x.sent; took = x.took; closing = closing }

-- the record of what became of a request
abbrev pub served : Begin → Span → Span → Kind → Told
served b ask gave what =
    told.Served (record { worker = b.worker; session = b.session; number = b.number; ask = ask; gave = gave; kind = what })

-- `pass <who> <number> <conn> <nth> ask <span> sent <span> took <span> gave <span> <closing>`
abbrev pub pass_at : List ServerPart → Rest → Result Told Rule
pass_at servers ws = do
  b ← begin_at ws
  x ← exchange_at servers b.1
  closing ← read_word (one_of closing_words) x.1
  e ← at_end closing.1
  Ok (served b.0 x.0.ask x.0.gave (kind.Passed (carried x.0 closing.0)))

-- the answer came early
abbrev pub is_early : CutCause → Bool
is_early cut.Early = true
is_early cut.Ended = false
is_early cut.Fault = false
is_early cut.Broken = false
is_early cut.Late = false
is_early cut.Client = false
is_early cut.Stop = false
is_early cut.Silent = false

-- the cause of a cut; an early answer closes
abbrev pub cause_in : Bool → List ℕ → Result CutCause Rule
cause_in closing w = do
  why ← one_of cut_words w
  e ← unless (is_early why && not closing) BadLine
  Ok why

-- the same behind `cut`, with a cause
abbrev pub cut_at : List ServerPart → Rest → Result Told Rule
cut_at servers ws = do
  b ← begin_at ws
  x ← exchange_at servers b.1
  closing ← read_word (one_of cut_closing_words) x.1
  why ← read_word (cause_in closing.0) closing.1
  e ← at_end why.1
  Ok (served b.0 x.0.ask x.0.gave (kind.Cut (carried x.0 closing.0) why.0))

-- `own <who> <number> <status> ask <span> gave <span>`
abbrev pub own_at : Rest → Result Told Rule
own_at ws = do
  b ← begin_at ws
  status ← read_word (number_in most_16) b.1
  ask ← range_at (codes "ask") status.1
  gave ← range_at (codes "gave") ask.1
  e ← at_end gave.1
  Ok (served b.0 ask.0 gave.0 (kind.Own status.0))

-- `left <who> <span> <cause>`
abbrev pub left_at : Rest → Result Told Rule
left_at ws = do
  who ← read_word who_in ws
  ask ← read_word span_in who.1
  cause ← read_word (one_of left_words) ask.1
  e ← at_end cause.1
  Ok (told.Left (record { worker = who.0.0; session = who.0.1; ask = ask.0; cause = cause.0 }))

-- what stands behind the first word of a record's line
unfoldable pub record_at : List ServerPart → RecordWord → Rest → Result Told Rule
record_at servers first.Pass ws = pass_at servers ws
record_at servers first.Cut ws = cut_at servers ws
record_at servers first.Own ws = own_at ws
record_at servers first.Left ws = left_at ws

-- `open <n> park <n> take <n> over <n> care <n> close <n>`
unfoldable pub totals_at : Rest → Result Totals Rule
totals_at ws = do
  opened ← count_at (codes "open") ws
  parked ← count_at (codes "park") opened.1
  taken ← count_at (codes "take") parked.1
  over ← count_at (codes "over") taken.1
  care ← count_at (codes "care") over.1
  closed ← count_at (codes "close") care.1
  e ← at_end closed.1
  Ok (record { opened = opened.0; parked = parked.0; taken = taken.0; over = over.0; care = care.0; closed = closed.0 })
