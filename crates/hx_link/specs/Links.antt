-- What a caller learns of each call of a link, by what it tells before and after.
use Rattle.std.specs.Prelude.{◌≡◌, ℕ, ◌+◌, ◌<◌, ◌≤◌, true, false, List, ◌++◌, length, take, option_map, ⊤}
use Rattle.hx_link.specs.declared.answers.Got.{Got}
use Rattle.hx_link.specs.declared.answers.Put.{Put}
use Rattle.hx_link.specs.declared.answers.Got.TheVariants as got
use Rattle.hx_link.specs.declared.answers.Put.TheVariants as put
use Rattle.hx_link.specs.Told.{LinkState, CountsOne, most_bytes}

-- what a read at a moment changes: bytes are taken, a wait is counted with its moment, the end is told, or a fault is counted
abbrev pub LinkReads : LinkState → LinkState → ℕ → Got → List ℕ → Type 0
LinkReads old new now (got.Bytes n) into =
    new ≡ record old {
      taken_count = old.taken_count + n;
      taken = option_map (λ xs. xs ++ take n into) old.taken;
      read_waited = false;
      read_length = new.read_length;
    }
LinkReads old new now got.NotYet into =
    (new ≡ record old {
      read_waits = new.read_waits;
      read_wait_at = now;
      read_waited = true;
      read_length = new.read_length;
    })
    × CountsOne old.read_waits new.read_waits
LinkReads old new now got.End into = new ≡ record old { told_end = true; read_length = new.read_length }
LinkReads old new now got.Failed into =
    (new ≡ record old { faults = new.faults; read_length = new.read_length }) × CountsOne old.faults new.faults

-- what a write at a moment changes: bytes are sent, a wait is counted with its moment, or a fault is counted
abbrev pub LinkWrites : LinkState → LinkState → ℕ → Put → List ℕ → Type 0
LinkWrites old new now (put.Bytes n) bytes =
    new ≡ record old {
      sent_count = old.sent_count + n;
      sent = option_map (λ xs. xs ++ take n bytes) old.sent;
      read_waited = false;
      write_length = new.write_length;
    }
LinkWrites old new now put.NotYet bytes =
    (new ≡ record old { write_waits = new.write_waits; write_wait_at = now; write_length = new.write_length })
    × CountsOne old.write_waits new.write_waits
LinkWrites old new now put.Failed bytes =
    (new ≡ record old { faults = new.faults; write_length = new.write_length }) × CountsOne old.faults new.faults

-- nothing more is written, which the link remembers; the machine may refuse it, which the count of faults alone tells
abbrev pub LinkFinishes : LinkState → LinkState → Type 0
LinkFinishes old new = (new ≡ record old { faults = new.faults; finished = true }) × (old.faults ≤ new.faults)

-- no read takes more bytes than the limit leaves, and where none is left it fails
abbrev pub ReadKeepsLimit : ℕ → Got → Type 0
ReadKeepsLimit count (got.Bytes n) = count + n ≤ most_bytes
ReadKeepsLimit count got.NotYet = count < most_bytes
ReadKeepsLimit count got.End = count < most_bytes
ReadKeepsLimit count got.Failed = ⊤

-- no write sends more bytes than the limit leaves, and where none is left it fails
abbrev pub WriteKeepsLimit : ℕ → Put → Type 0
WriteKeepsLimit count (put.Bytes n) = count + n ≤ most_bytes
WriteKeepsLimit count put.NotYet = count < most_bytes
WriteKeepsLimit count put.Failed = ⊤

-- these bytes were taken of the link between, whatever was sent on it
pub record HasTaken (old new : LinkState) (moved : List ℕ) : Type 0 where
  pub count : new.taken_count ≡ old.taken_count + length moved
  pub bytes : new.taken ≡ option_map (λ xs. xs ++ moved) old.taken

-- these bytes were sent on it between, whatever was taken of it
pub record HasSent (old new : LinkState) (moved : List ℕ) : Type 0 where
  pub count : new.sent_count ≡ old.sent_count + length moved
  pub bytes : new.sent ≡ option_map (λ xs. xs ++ moved) old.sent
