use Rattle.std.proofs.Common.{ℕ, List, length, [], arith, ap, refl, subst}
use Rattle.hx_head.specs.Writes.{IsWritten, request_text}
use Rattle.hx_head.proofs.WriteLemmas.{request_pieces, request_length, nothing_written, all_written}
use Rattle.hx_head.proofs.forward.put_request.Goals as goal

pub returns-then-out-needed : goal.returns-then-out-needed
returns-then-out-needed c =
    let e = request_length c.args.bytes.now c.args.head.now c.args.fields.now in
    let w = ap length c.part-word.ensures.part in
    let t = ap length c.part-target.ensures.part in
    let n = c.fields_length.ensures.length in
    (omega (arith, e, w, t, n), omega (arith, e, w, t, n, c.if-out-needed.true), refl)

pub returns : goal.returns
returns c =
    let start = c.args.out.now in
    let w0 = nothing_written start in
    let w1 = c.put-at.ensures.piece start [] w0 in
    let w2 = c.put-at-2.ensures.piece start _ w1 in
    let w3 = c.put-at-3.ensures.piece start _ w2 in
    let w4 = c.put-at-4.ensures.piece start _ w3 in
    let w5 = c.put_fields-at.ensures.piece start _ w4 in
    let w6 = c.put.ensures.piece start _ w5 in
    let same = request_pieces c.args.bytes.now c.args.head.now c.args.fields.now in
    all_written start (request_text c.args.bytes.now c.args.head.now c.args.fields.now) c.put.new.out c.put.result
    (subst (λ (text : List ℕ). IsWritten start text c.put.new.out c.put.result) same
    (rw (← c.part-word.ensures.part, ← c.part-target.ensures.part) w6))
