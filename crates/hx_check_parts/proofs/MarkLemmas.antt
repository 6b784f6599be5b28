-- Marks, one further.
use Rattle.hx_pool.specs.declared.entries.Entry.{Entry}
use Rattle.hx_pool.specs.declared.entries.Entry.TheVariants.{Open}

-- what a read past the marks gives
abbrev pub no_entry : Entry
no_entry = Open (record { 0 = 0 }) (record { 0 = 0 }) (record { 0 = 0 })
