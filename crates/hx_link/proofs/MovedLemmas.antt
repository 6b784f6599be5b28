-- What one call after the other takes of a link and sends on it, and that no read and no write finishes it.
use Rattle.std.proofs.Common.{◌≡◌, ◌≤◌, ℕ, List, [], ◌++◌, length, take, refl, sym, ap, ◌∙◌, arith, append_assoc, Option, Some, None, option_map}
use Rattle.std.proofs.lemmas.List.{append-nil, length-append, length-take}
use Rattle.hx_link.specs.declared.answers.Got.{Got}
use Rattle.hx_link.specs.declared.answers.Put.{Put}
use Rattle.hx_link.specs.declared.answers.Got.TheVariants as got
use Rattle.hx_link.specs.declared.answers.Put.TheVariants as put
use Rattle.hx_link.specs.Told.{LinkState}
use Rattle.hx_link.specs.Links.{LinkReads, LinkWrites, LinkFinishes, HasTaken, HasSent}
use Rattle.hx_link.specs.Moves.{got_count, put_count}

map_none : (o : Option (List ℕ)) → o ≡ option_map (λ xs. xs ++ []) o
map_none None = refl
map_none (Some xs) = ap Some (sym (append-nil xs))

map_twice : (o : Option (List ℕ)) (a b : List ℕ) → option_map (λ xs. xs ++ b) (option_map (λ xs. xs ++ a) o) ≡ option_map (λ xs. xs ++ (a ++ b)) o
map_twice None a b = refl
map_twice (Some xs) a b = ap Some (append_assoc xs a b)

-- what stays as it is
pub taken_none : (a b : LinkState) → b.taken_count ≡ a.taken_count → b.taken ≡ a.taken → HasTaken a b []
taken_none a b count bytes = record { count = omega (arith, count); bytes = bytes ∙ map_none a.taken }

pub sent_none : (a b : LinkState) → b.sent_count ≡ a.sent_count → b.sent ≡ a.sent → HasSent a b []
sent_none a b count bytes = record { count = omega (arith, count); bytes = bytes ∙ map_none a.sent }

-- one after the other
pub taken_both : (a b c : LinkState) (m n : List ℕ) → HasTaken a b m → HasTaken b c n → HasTaken a c (m ++ n)
taken_both a b c m n s t = record {
  count = omega (arith, t.count, s.count, length-append m n);
  bytes = t.bytes ∙ ap (option_map (λ xs. xs ++ n)) s.bytes ∙ map_twice a.taken m n;
}

pub sent_both : (a b c : LinkState) (m n : List ℕ) → HasSent a b m → HasSent b c n → HasSent a c (m ++ n)
sent_both a b c m n s t = record {
  count = omega (arith, t.count, s.count, length-append m n);
  bytes = t.bytes ∙ ap (option_map (λ xs. xs ++ n)) s.bytes ∙ map_twice a.sent m n;
}

-- a read takes what it gave
pub read_takes : (a b : LinkState) (now : ℕ) (result : Got) (into : List ℕ) → got_count result ≤ length into → LinkReads a b now result into
    → HasTaken a b (take (got_count result) into)
read_takes a b now (got.Bytes n) into fits r = record {
  count = omega (arith, ap (λ (l : LinkState). l.taken_count) r, length-take n into, fits);
  bytes = ap (λ (l : LinkState). l.taken) r;
}
read_takes a b now got.NotYet into fits r = taken_none a b (ap (λ (l : LinkState). l.taken_count) r.0) (ap (λ (l : LinkState). l.taken) r.0)
read_takes a b now got.End into fits r = taken_none a b (ap (λ (l : LinkState). l.taken_count) r) (ap (λ (l : LinkState). l.taken) r)
read_takes a b now got.Failed into fits r = taken_none a b (ap (λ (l : LinkState). l.taken_count) r.0) (ap (λ (l : LinkState). l.taken) r.0)

-- and sends nothing
pub read_sends : (a b : LinkState) (now : ℕ) (result : Got) (into : List ℕ) → LinkReads a b now result into → HasSent a b []
read_sends a b now (got.Bytes n) into r = sent_none a b (ap (λ (l : LinkState). l.sent_count) r) (ap (λ (l : LinkState). l.sent) r)
read_sends a b now got.NotYet into r = sent_none a b (ap (λ (l : LinkState). l.sent_count) r.0) (ap (λ (l : LinkState). l.sent) r.0)
read_sends a b now got.End into r = sent_none a b (ap (λ (l : LinkState). l.sent_count) r) (ap (λ (l : LinkState). l.sent) r)
read_sends a b now got.Failed into r = sent_none a b (ap (λ (l : LinkState). l.sent_count) r.0) (ap (λ (l : LinkState). l.sent) r.0)

-- a write sends what it took
pub write_sends : (a b : LinkState) (now : ℕ) (result : Put) (bytes : List ℕ) → put_count result ≤ length bytes → LinkWrites a b now result bytes
    → HasSent a b (take (put_count result) bytes)
write_sends a b now (put.Bytes n) bytes fits w = record {
  count = omega (arith, ap (λ (l : LinkState). l.sent_count) w, length-take n bytes, fits);
  bytes = ap (λ (l : LinkState). l.sent) w;
}
write_sends a b now put.NotYet bytes fits w = sent_none a b (ap (λ (l : LinkState). l.sent_count) w.0) (ap (λ (l : LinkState). l.sent) w.0)
write_sends a b now put.Failed bytes fits w = sent_none a b (ap (λ (l : LinkState). l.sent_count) w.0) (ap (λ (l : LinkState). l.sent) w.0)

-- and takes nothing
pub write_takes : (a b : LinkState) (now : ℕ) (result : Put) (bytes : List ℕ) → LinkWrites a b now result bytes → HasTaken a b []
write_takes a b now (put.Bytes n) bytes w = taken_none a b (ap (λ (l : LinkState). l.taken_count) w) (ap (λ (l : LinkState). l.taken) w)
write_takes a b now put.NotYet bytes w = taken_none a b (ap (λ (l : LinkState). l.taken_count) w.0) (ap (λ (l : LinkState). l.taken) w.0)
write_takes a b now put.Failed bytes w = taken_none a b (ap (λ (l : LinkState). l.taken_count) w.0) (ap (λ (l : LinkState). l.taken) w.0)

-- a link that is finished moves nothing by it
pub finish_moves : (a b : LinkState) → LinkFinishes a b → HasTaken a b [] × HasSent a b []
finish_moves a b f = (
  taken_none a b (ap (λ (l : LinkState). l.taken_count) f.0) (ap (λ (l : LinkState). l.taken) f.0),
  sent_none a b (ap (λ (l : LinkState). l.sent_count) f.0) (ap (λ (l : LinkState). l.sent) f.0),
)

-- neither a read nor a write changes whether it is finished
pub read_finishes_none : (a b : LinkState) (now : ℕ) (result : Got) (into : List ℕ) → LinkReads a b now result into → b.finished ≡ a.finished
read_finishes_none a b now (got.Bytes n) into r = ap (λ (l : LinkState). l.finished) r
read_finishes_none a b now got.NotYet into r = ap (λ (l : LinkState). l.finished) r.0
read_finishes_none a b now got.End into r = ap (λ (l : LinkState). l.finished) r
read_finishes_none a b now got.Failed into r = ap (λ (l : LinkState). l.finished) r.0

pub write_finishes_none : (a b : LinkState) (now : ℕ) (result : Put) (bytes : List ℕ) → LinkWrites a b now result bytes → b.finished ≡ a.finished
write_finishes_none a b now (put.Bytes n) bytes w = ap (λ (l : LinkState). l.finished) w
write_finishes_none a b now put.NotYet bytes w = ap (λ (l : LinkState). l.finished) w.0
write_finishes_none a b now put.Failed bytes w = ap (λ (l : LinkState). l.finished) w.0
