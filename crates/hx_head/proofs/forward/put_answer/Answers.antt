use Rattle.std.proofs.Common.{ℕ, List, length, [], arith, ap, refl, ◌∙◌, subst}
use Rattle.hx_head.specs.Writes.{IsWritten, answer_text}
use Rattle.hx_head.proofs.WriteLemmas.{answer_pieces, answer_length, nothing_written, all_written}
use Rattle.hx_head.proofs.forward.put_answer.Goals as goal

pub returns-then-out-needed : goal.returns-then-out-needed
returns-then-out-needed c =
    let e = answer_length c.args.bytes.now c.args.head.now c.args.fields.now c.args.closing in
    let s = ap length (c.as_bytes-status.ensures.value ∙ c.format.ensures.text) in
    let r = ap length c.part-reason.ensures.part in
    let w = ap length c.closing_word-close.ensures.word in
    let n = c.fields_length.ensures.length in
    (omega (arith, e, s, r, w, n), omega (arith, e, s, r, w, n, c.if-out-needed.true), refl)

pub returns : goal.returns
returns c =
    let start = c.args.out.now in
    let w0 = nothing_written start in
    let w1 = c.put-at.ensures.piece start [] w0 in
    let w2 = c.put-at-2.ensures.piece start _ w1 in
    let w3 = c.put-at-3.ensures.piece start _ w2 in
    let w4 = c.put-at-4.ensures.piece start _ w3 in
    let w5 = c.put-at-5.ensures.piece start _ w4 in
    let w6 = c.put_fields-at.ensures.piece start _ w5 in
    let w7 = c.put-at-6.ensures.piece start _ w6 in
    let w8 = c.put.ensures.piece start _ w7 in
    let same = answer_pieces c.args.bytes.now c.args.head.now c.args.fields.now c.args.closing in
    let status = c.as_bytes-status.ensures.value ∙ c.format.ensures.text in
    all_written start (answer_text c.args.bytes.now c.args.head.now c.args.fields.now c.args.closing) c.put.new.out c.put.result
    (subst (λ (text : List ℕ). IsWritten start text c.put.new.out c.put.result) same
    (rw (← status, ← c.part-reason.ensures.part, ← c.closing_word-close.ensures.word) w8))
