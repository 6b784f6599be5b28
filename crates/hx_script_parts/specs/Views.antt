-- What a script says.
use Rattle.hx_config.specs.Views as config
use Rattle.hx_script_parts.specs.declared.script.Script.{Script}
use Rattle.hx_script_parts.specs.Meaning.{Meaning}

-- what a script that was read says
abbrev pub meaning : Script → Meaning
meaning s = record {
  config = config.meaning s.config;
  clients = s.clients;
  plans = s.plans;
  orders = s.orders;
  moments = s.moments;
}
