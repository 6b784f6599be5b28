-- A session's client keeps its link through each call of it.
use Rattle.std.proofs.Common.{◌≡◌, ℕ, List, refl, sym, ap, subst, ◌∙◌, arith}
use Rattle.hx_link.specs.declared.answers.Got.{Got}
use Rattle.hx_link.specs.declared.answers.Got.TheVariants as got
use Rattle.hx_link.specs.declared.answers.Put.{Put}
use Rattle.hx_link.specs.declared.answers.Put.TheVariants as put
use Rattle.hx_link.specs.Told.{LinkState}
use Rattle.hx_link.specs.Links.{LinkReads, LinkWrites, LinkFinishes}
use Rattle.hx_link.specs.Nets.{NetState, NetDetaches}
use Rattle.hx_conn.specs.WhatTold.{what_of_link}
use Rattle.hx_connecting.proofs.WayLemmas.{same_self, same_then, reads_same, writes_same, finishes_same, detaches_same}
use Rattle.hx_session.specs.Doings.{IsSameClient}

pub client_self : (a : LinkState) → IsSameClient a a
client_self a = record { link = same_self a; plan = refl; dial = refl; taken = omega arith; sent = omega arith }

pub client_is : (a b : LinkState) → b ≡ a → IsSameClient a b
client_is a b e = subst (λ (l : LinkState). IsSameClient a l) (sym e) (client_self a)

pub client_then : (a b c : LinkState) → IsSameClient a b → IsSameClient b c → IsSameClient a c
client_then a b c x y = record {
  link = same_then (what_of_link a) (what_of_link b) (what_of_link c) x.link y.link;
  plan = y.plan ∙ x.plan;
  dial = y.dial ∙ x.dial;
  taken = omega (arith, x.taken, y.taken);
  sent = omega (arith, x.sent, y.sent);
}

pub client_read : (a b : LinkState) (now : ℕ) (answer : Got) (bytes : List ℕ) → LinkReads a b now answer bytes → IsSameClient a b
client_read a b now (got.Bytes n) bytes r = record {
  link = reads_same a b now (got.Bytes n) bytes r;
  plan = ap (λ (l : LinkState). l.plan) r;
  dial = ap (λ (l : LinkState). l.dial) r;
  taken = omega (arith, ap (λ (l : LinkState). l.taken_count) r);
  sent = omega (arith, ap (λ (l : LinkState). l.sent_count) r);
}
client_read a b now got.NotYet bytes r = record {
  link = reads_same a b now got.NotYet bytes r;
  plan = ap (λ (l : LinkState). l.plan) r.0;
  dial = ap (λ (l : LinkState). l.dial) r.0;
  taken = omega (arith, ap (λ (l : LinkState). l.taken_count) r.0);
  sent = omega (arith, ap (λ (l : LinkState). l.sent_count) r.0);
}
client_read a b now got.End bytes r = record {
  link = reads_same a b now got.End bytes r;
  plan = ap (λ (l : LinkState). l.plan) r;
  dial = ap (λ (l : LinkState). l.dial) r;
  taken = omega (arith, ap (λ (l : LinkState). l.taken_count) r);
  sent = omega (arith, ap (λ (l : LinkState). l.sent_count) r);
}
client_read a b now got.Failed bytes r = record {
  link = reads_same a b now got.Failed bytes r;
  plan = ap (λ (l : LinkState). l.plan) r.0;
  dial = ap (λ (l : LinkState). l.dial) r.0;
  taken = omega (arith, ap (λ (l : LinkState). l.taken_count) r.0);
  sent = omega (arith, ap (λ (l : LinkState). l.sent_count) r.0);
}

pub client_written : (a b : LinkState) (now : ℕ) (answer : Put) (bytes : List ℕ) → LinkWrites a b now answer bytes → IsSameClient a b
client_written a b now (put.Bytes n) bytes r = record {
  link = writes_same a b now (put.Bytes n) bytes r;
  plan = ap (λ (l : LinkState). l.plan) r;
  dial = ap (λ (l : LinkState). l.dial) r;
  taken = omega (arith, ap (λ (l : LinkState). l.taken_count) r);
  sent = omega (arith, ap (λ (l : LinkState). l.sent_count) r);
}
client_written a b now put.NotYet bytes r = record {
  link = writes_same a b now put.NotYet bytes r;
  plan = ap (λ (l : LinkState). l.plan) r.0;
  dial = ap (λ (l : LinkState). l.dial) r.0;
  taken = omega (arith, ap (λ (l : LinkState). l.taken_count) r.0);
  sent = omega (arith, ap (λ (l : LinkState). l.sent_count) r.0);
}
client_written a b now put.Failed bytes r = record {
  link = writes_same a b now put.Failed bytes r;
  plan = ap (λ (l : LinkState). l.plan) r.0;
  dial = ap (λ (l : LinkState). l.dial) r.0;
  taken = omega (arith, ap (λ (l : LinkState). l.taken_count) r.0);
  sent = omega (arith, ap (λ (l : LinkState). l.sent_count) r.0);
}

pub client_finished : (a b : LinkState) → LinkFinishes a b → IsSameClient a b
client_finished a b r = record {
  link = finishes_same a b r;
  plan = ap (λ (l : LinkState). l.plan) r.0;
  dial = ap (λ (l : LinkState). l.dial) r.0;
  taken = omega (arith, ap (λ (l : LinkState). l.taken_count) r.0);
  sent = omega (arith, ap (λ (l : LinkState). l.sent_count) r.0);
}

pub client_detached : (old new : NetState) (a b : LinkState) → NetDetaches old new a b → IsSameClient a b
client_detached old new a b r = record {
  link = detaches_same old new a b r;
  plan = ap (λ (l : LinkState). l.plan) r.1;
  dial = ap (λ (l : LinkState). l.dial) r.1;
  taken = omega (arith, ap (λ (l : LinkState). l.taken_count) r.1);
  sent = omega (arith, ap (λ (l : LinkState). l.sent_count) r.1);
}
