-- In which sections each line stands, and what a timeout does there.
use Rattle.std.specs.Prelude.{ℕ, Bool, true, ◌||◌, List, [], ◌∷◌, codes}
use Rattle.hx_config.specs.declared.keywords.FirstWord.{FirstWord}
use Rattle.hx_config.specs.declared.keywords.FirstWord.TheVariants as first
use Rattle.hx_config.specs.declared.keywords.TimeoutWord.{TimeoutWord}
use Rattle.hx_config.specs.declared.keywords.TimeoutWord.TheVariants as timeout
use Rattle.hx_config.specs.declared.keywords.Treatment.{Treatment}
use Rattle.hx_config.specs.declared.keywords.Treatment.TheVariants as treatment
use Rattle.hx_config.specs.declared.sections.Kind.{Kind}
use Rattle.hx_config.specs.declared.sections.Kind.TheVariants as kind
use Rattle.hx_config.specs.Sections.{has_front, has_back, is_defaults, is_global, is_proxy}

-- the sections that have a line with this first word; a line that begins a section stands anywhere
abbrev pub stands_in : FirstWord → Kind → Bool
stands_in first.Global k = true
stands_in first.Defaults k = true
stands_in first.Frontend k = true
stands_in first.Backend k = true
stands_in first.Listen k = true
stands_in first.Nbthread k = is_global k
stands_in first.ModeHttp k = is_proxy k
stands_in first.Bind k = has_front k
stands_in first.DefaultBackend k = is_defaults k || has_front k
stands_in first.Balance k = is_defaults k || has_back k
stands_in first.HttpReuse k = is_defaults k || has_back k
stands_in first.Timeout k = is_proxy k
stands_in first.DefaultServer k = is_defaults k || has_back k
stands_in first.ServerLine k = has_back k
stands_in first.OptionLine k = is_proxy k
stands_in first.PassedOver k = is_global k || is_proxy k
stands_in first.PassedInGlobal k = is_global k
stands_in first.PassedInOthers k = is_proxy k

-- the words behind `timeout`
abbrev pub timeout_words : List (List ℕ × TimeoutWord)
timeout_words =
    (codes "connect", timeout.Connect) ∷ (codes "server", timeout.Server) ∷ (codes "client", timeout.Client)
    ∷ (codes "http-keep-alive", timeout.KeepAlive) ∷ (codes "http-request", timeout.Other)
    ∷ (codes "queue", timeout.Other) ∷ (codes "check", timeout.Other) ∷ []

-- a deadline towards servers stands where servers do, one towards clients where binds do
abbrev pub treatment_of : TimeoutWord → Kind → Treatment
treatment_of timeout.Other k = treatment.Passed
treatment_of timeout.Connect kind.Frontend = treatment.Unknown
treatment_of timeout.Connect k = treatment.Read
treatment_of timeout.Server kind.Frontend = treatment.Unknown
treatment_of timeout.Server k = treatment.Read
treatment_of timeout.Client kind.Backend = treatment.Unknown
treatment_of timeout.Client k = treatment.Read
treatment_of timeout.KeepAlive kind.Backend = treatment.Passed
treatment_of timeout.KeepAlive k = treatment.Read

-- the words behind `option`, whose lines are passed over
abbrev pub option_lines : List (List ℕ)
option_lines = codes "httplog" ∷ codes "dontlognull" ∷ codes "redispatch" ∷ codes "http-keep-alive" ∷ []
