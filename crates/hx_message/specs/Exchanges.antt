-- A connection on which whole requests and whole answers alternate.
use Rattle.std.specs.Prelude.{◌≡◌, ℕ, zero, suc, List, [], ◌++◌}
use Rattle.hx_message.specs.declared.MethodKind.{MethodKind}
use Rattle.hx_message.specs.Message.{IsRequest, IsAnswer, Persists}

-- k whole exchanges and nothing more, after each of which the connection persists
abbrev pub AreExchanges : List ℕ → List ℕ → ℕ → Type 0
AreExchanges sent taken zero = (sent ≡ []) × (taken ≡ [])
AreExchanges sent taken (suc k) =
    (s : List ℕ) × (q : List ℕ) × (t : List ℕ) × (a : List ℕ) × (m : MethodKind)
    × (sent ≡ s ++ q) × (taken ≡ t ++ a) × IsRequest q m × IsAnswer m a × Persists m a × AreExchanges s t k
