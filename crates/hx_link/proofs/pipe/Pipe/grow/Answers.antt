use Rattle.std.proofs.Common.{◌≡◌, ℕ, ◌+◌, ◌-◌, List, ◌++◌, length, take, drop, ◌∙◌, ap, refl, arith}
use Rattle.std.specs.List.{refill}
use Rattle.hx_link.specs.Pipes.{PipeNow, held_in}
use Rattle.hx_link.proofs.PipeLemmas.{length-written, grown_is, pipe_is}
use Rattle.hx_link.proofs.pipe.Pipe.grow.Goals as goal

pub returns : goal.returns
returns c =
    let m = c.make_room-start.new.memory in
    let start = c.make_room-start.result in
    let len = c.self.inside.len in
    let n = c.args.n in
    let room = c.slice_mut.result.now in
    let bytes : held_in start len m.items ≡ c.args.self.now.bytes = c.make_room-start.ensures.held ∙ ap (λ (p : PipeNow). p.bytes) c.self.view_is in
    let size : length m.items ≡ c.args.self.now.capacity = c.make_room-start.ensures.size ∙ ap (λ (p : PipeNow). p.capacity) c.self.view_is in
    let count : start + len + n - (start + len) ≡ n = omega arith in
    let room_is : room ≡ take n (drop (start + len) m.items) = c.slice_mut.ensures.value ∙ ap (λ (k : ℕ). take k (drop (start + len) m.items)) count in (
      (
        refl,
        λ w. pipe_is _ _ _ _ _
            (grown_is start len n m.len m.items w room m.ok.0 (omega (arith, c.make_room-start.ensures.room, m.ok.0)) room_is)
            (ap (λ (xs : List ℕ). xs ++ refill (length room) room w) bytes)
            (length-written m.len (start + len) m.items w m.ok.0 ∙ m.ok.0 ∙ size),
      ),
      record { writes_back = tt; size = c.slice_mut.ensures.len ∙ count },
    )
