use Rattle.std.proofs.Common.{◌≡◌, ℕ, ◌+◌, Option, take, length, refl, subst, arith}
use Rattle.std.specs.Prelude.{MatchOption}
use Rattle.std.proofs.lemmas.Option.{slice_get_read}
use Rattle.hx_script.specs.declared.transcript.ServerPart.{ServerPart}
use Rattle.hx_check_parts.specs.Each.{HoldsOfEach, FailsFirst}
use Rattle.hx_check.specs.Lines.{lines_of, server_lines, told_line}
use Rattle.hx_check.specs.Rules.{LegalMark}
use Rattle.hx_check.proofs.ItemLemmas.{more_at}
use Rattle.hx_check.proofs.LineLemmas.{told_more, lines_more}
use Rattle.hx_check.proofs.marks.first_illegal_mark.Goals as goal

pub returns-in-Some : goal.returns-in-Some
returns-in-Some c =
    let servers = c.args.servers.now in
    let k = c.loop-k.k in
    let x = c.index-servers-k.result in
    let fails : FailsFirst (LegalMark x) x.marks c.in-Some.mark =
    subst (λ (o : Option ℕ). MatchOption o (HoldsOfEach (LegalMark x) x.marks) (λ j. FailsFirst (LegalMark x) x.marks j)) c.in-Some.is
    c.in_ok-illegal_in.ensures in (
      server_lines (take k servers) + 3 + c.in-Some.mark,
      record {
        server = k;
        part = x;
        there = slice_get_read servers (length servers) k x refl c.loop-k-test.true c.index-servers-k.is;
        mark = c.in-Some.mark;
        fails = fails;
        before = c.loop-k.invariant.below;
        at_line = refl;
      },
      told_more (server_lines (take k servers) + 3) c.in-Some.mark c.loop-k.line c.behind.result c.behind.ensures c.loop-k.invariant.line,
    )

next : (a b l x r : ℕ) → r ≡ told_line (x + l) → x ≡ told_line (a + 3) → b ≡ a + l → r ≡ told_line (b + 3)
next a b l x r e f g = omega (arith, e, f, g)

pub loop-k-preserved : goal.loop-k-preserved
loop-k-preserved c =
    let servers = c.args.servers.now in
    let k = c.loop-k.k in
    let x = c.index-servers-k.result in
    let fine : HoldsOfEach (LegalMark x) x.marks =
    subst (λ (o : Option ℕ). MatchOption o (HoldsOfEach (LegalMark x) x.marks) (λ j. FailsFirst (LegalMark x) x.marks j)) c.in-None.is
    c.in_ok-illegal_in.ensures in
    record {
      below = more_at (λ (i : ℕ) (p : ServerPart). HoldsOfEach (LegalMark p) p.marks) servers k x c.loop-k-test.true c.index-servers-k.is
          c.loop-k.invariant.below fine;
      line = next (server_lines (take k servers)) (server_lines (take (k + 1) servers)) (lines_of x) c.loop-k.line c.behind_server-line.result
          c.behind_server-line.ensures c.loop-k.invariant.line (lines_more servers k x c.loop-k-test.true c.index-servers-k.is);
    }
