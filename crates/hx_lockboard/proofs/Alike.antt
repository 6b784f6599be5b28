-- Two seats of one board tell each other.
use Rattle.std.proofs.Common.{[], sym, ap, ◌∙◌}
use Rattle.hx_pool.specs.History.{own_of}
use Rattle.hx_pool.specs.SeatView.{About, History, Calls, Tells, AreOfOneBoard}
use Rattle.hx_pool.proofs.Calls.{makes_both}
use Rattle.hx_pool.proofs.Telling.{told_both}
use Rattle.hx_lockboard.specs.Telling.{KnowAlike}

calls_both : (a b c : History) → Calls a b [] → Calls b c [] → Calls a c []
calls_both a b c x y = record { makes = makes_both a b c [] [] x.makes y.makes; passed = y.passed ∙ x.passed }

-- a told b, and b told a back
pub know_alike : (a b a' b' a'' b'' : History) → Calls a a' [] → Tells a b b' → Calls b' b'' [] → Tells b' a' a'' → KnowAlike a b a'' b''
know_alike a b a' b' a'' b'' first told second back =
    let k = told_both a b a' b' a'' b'' first told second back in
    let of_a = calls_both a a' a'' first back.makes in
    let of_b = calls_both b b' b'' told.makes second in record {
      common = b'.seen;
      from_first = told.told;
      from_second = told.makes.makes.seen;
      begins_first = k.first;
      begins_second = k.second;
      own_of_first = ap (λ (x : About). own_of x.thread b'.seen) (sym of_a.makes.about) ∙ k.of_first;
      own_of_second = ap (λ (x : About). own_of x.thread b'.seen) (sym of_b.makes.about) ∙ k.of_second;
      calls_first = of_a;
      calls_second = of_b;
    }

-- they are of one board still, the other way round
pub board_back : (a b a' b' : History) → Calls a a' [] → Tells a b b' → AreOfOneBoard a b → AreOfOneBoard b' a'
board_back a b a' b' first told one =
    let s = ap (λ (x : About). x.thread.0) first.makes.about in
    let t = ap (λ (x : About). x.thread.0) told.makes.makes.about in record {
      board = ap (λ (x : About). x.board) told.makes.makes.about ∙ (sym one.board ∙ sym (ap (λ (x : About). x.board) first.makes.about));
      apart = λ same. one.apart (sym s ∙ (sym same ∙ t));
    }
