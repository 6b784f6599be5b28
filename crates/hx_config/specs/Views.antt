-- What a configuration says.
use Rattle.hx_config.specs.declared.config.Config.{Config}
use Rattle.hx_config.specs.Meaning.{Meaning}

-- what a configuration that was read says
abbrev pub meaning : Config → Meaning
meaning c = record { threads = c.threads; fronts = c.fronts; backs = c.backs; passed_over = c.passed_over }
