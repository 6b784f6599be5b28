-- The words that lines begin with (HAProxy 2.4 Configuration Manual, sections 3 and 4).
use Rattle.std.specs.Prelude.{ℕ, List, [], ◌∷◌, Option, Some, None, if◌then◌else◌, codes}
use Rattle.hx_config_parts.specs.Tables.{found, is_one_of, or_else}
use Rattle.hx_config.specs.declared.keywords.FirstWord.{FirstWord}
use Rattle.hx_config.specs.declared.keywords.FirstWord.TheVariants as first

-- the lines that begin a section
abbrev pub section_words : List (List ℕ × FirstWord)
section_words =
    (codes "global", first.Global) ∷ (codes "defaults", first.Defaults) ∷ (codes "frontend", first.Frontend)
    ∷ (codes "backend", first.Backend) ∷ (codes "listen", first.Listen) ∷ []

-- the lines that are read
abbrev pub setting_words : List (List ℕ × FirstWord)
setting_words =
    (codes "nbthread", first.Nbthread) ∷ (codes "mode", first.ModeHttp) ∷ (codes "bind", first.Bind)
    ∷ (codes "default_backend", first.DefaultBackend) ∷ (codes "balance", first.Balance)
    ∷ (codes "http-reuse", first.HttpReuse) ∷ (codes "timeout", first.Timeout)
    ∷ (codes "default-server", first.DefaultServer) ∷ (codes "server", first.ServerLine)
    ∷ (codes "option", first.OptionLine) ∷ []

-- the lines that are passed over in `global` and stand nowhere else
abbrev pub global_words : List (List ℕ)
global_words =
    codes "chroot" ∷ codes "stats" ∷ codes "user" ∷ codes "group" ∷ codes "daemon" ∷ codes "pidfile"
    ∷ codes "ca-base" ∷ codes "crt-base" ∷ codes "ssl-default-bind-ciphers"
    ∷ codes "ssl-default-bind-ciphersuites" ∷ codes "ssl-default-bind-options" ∷ []

-- the lines that are passed over
abbrev pub passed_word : List ℕ → Option FirstWord
passed_word w =
    if is_one_of (codes "log" ∷ codes "maxconn" ∷ []) w then Some first.PassedOver
    else if is_one_of (codes "errorfile" ∷ codes "retries" ∷ []) w then Some first.PassedInOthers
    else if is_one_of global_words w then Some first.PassedInGlobal else None

-- what the first word of a line begins, where it is one
abbrev pub first_word : List ℕ → Option FirstWord
first_word w = or_else (found section_words w) (or_else (found setting_words w) (passed_word w))
