use Rattle.std.proofs.Common.{◌≡◌, List, [], ◌∷◌, All}
use Rattle.std.proofs.lemmas.List.Elements.{All-nil, All-cons, All-same}
use Rattle.hx_doors.specs.MemoryCabinets.{IsUnread}
use Rattle.hx_edge_bench.proofs.tests.memory.a_cabinet_in_memory_hands_each_file_out_once.Goals as goal

-- a fact of three is one of their list
three : {A : Type 0} (P : A → Type 0) (xs : List A) (a b c : A) → xs ≡ a ∷ b ∷ c ∷ [] → P a → P b → P c → All P xs
three P xs a b c same p q r = All-same P xs (a ∷ b ∷ c ∷ []) same (All-cons P a (b ∷ c ∷ []) p (All-cons P b (c ∷ []) q (All-cons P c [] r (All-nil P))))

pub new-cabinet-requires : goal.new-cabinet-requires
new-cabinet-requires g c = record {
  unread = three (λ f. IsUnread f.1) c.in_ok-files.files.items _ _ _ c.in_ok-files.ensures.items c.in_ok-file.ensures c.in_ok-file-2.ensures c.in_ok-file-3.ensures;
}
