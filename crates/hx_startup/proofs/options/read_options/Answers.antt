use Rattle.std.proofs.Common.{◌≡◌, ◌∙◌, ap, sym, subst, codes, List, ℕ, Option, Some, IsTrue}
use Rattle.std.specs.Prelude.{◌↔◌, option_map}
use Rattle.clap.specs.Words.{App, fault_of, HasKind}
use Rattle.std.specs.Str.Parse.{ParsesUnsigned, ExplainsUnsignedError, HasUnsignedDigitsIfOk}
use Rattle.hx_startup.specs.Options.{words_of, SaysThreads}
use Rattle.hx_startup.proofs.OptionLemmas.{is_free, refused_for, value_found, text_found, says_threads}
use Rattle.clap.specs.Faults.{is_simple_and_free}
use Rattle.hx_startup.proofs.options.read_options.Goals as goal

pub returns-in-Err-clause-refused : goal.returns-in-Err-clause-refused
returns-in-Err-clause-refused c =
    refused_for (words_of c.args.words.now) c.in-Err.error c.refuse.result
    (subst (λ (a : App). HasKind (fault_of a (words_of c.args.words.now)) c.in-Err.error) c.in-Ok.ensures
    (c.in-Err.ensures.kinds (ap is_simple_and_free c.in-Ok.ensures ∙ is_free)))
    c.refuse.ensures

pub returns-clause-taken : goal.returns-clause-taken
returns-clause-taken c =
    let m = c.in-Ok-try_get_matches_from.matches in
    let words = words_of c.args.words.now in
    let has = c.in-Ok-try_get_matches_from.ensures.matches in
    record {
      takes = sym (ap (λ (a : App). fault_of a words) c.in-Ok.ensures) ∙ c.in-Ok-try_get_matches_from.ensures.kinds (ap is_simple_and_free c.in-Ok.ensures ∙ is_free);
      config = sym (value_found _ words m (codes "config") c.in-Ok.ensures has) ∙ sym c.get_str.ensures ∙ ap (option_map (λ s. s.now)) c.in-Some.is;
      threads = subst (λ (o : Option (List ℕ)). SaysThreads o c.get_one.result) (text_found _ words m (codes "threads") c.in-Ok.ensures has)
          (says_threads _ (λ bs r. ParsesUnsigned 8 10 bs r × ExplainsUnsignedError 10 bs r × HasUnsignedDigitsIfOk bs r) _ c.get_one.result (λ u x h. h.0)
          c.get_one.ensures.none c.get_one.ensures.value);
      check = subst (λ (o : Option (List ℕ)). IsTrue c.is_check.result ↔ (o ≡ Some (codes "true"))) (value_found _ words m (codes "check") c.in-Ok.ensures has) c.is_check.ensures;
    }
