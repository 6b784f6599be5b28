-- Sections, and what stands in them so far (HAProxy 2.4 Configuration Manual, sections 2.3, 3 and 4).
use Rattle.std.specs.Prelude.{ℕ, Bool, true, false, ◌&&◌, ◌||◌, List, [], ◌∷◌, ◌++◌, length, map, Some, None, if◌then◌else◌, nat_le, bytes_eq}
use Rattle.std.specs.List.{list_any}
use Rattle.hx_base.specs.declared.rules.Mode.{Mode}
use Rattle.hx_base.specs.declared.rules.Mode.TheVariants as mode
use Rattle.hx_base.specs.declared.rules.PoolRules.{PoolRules}
use Rattle.hx_config.specs.declared.parts.Server.{Server}
use Rattle.hx_config.specs.declared.sections.Kind.{Kind}
use Rattle.hx_config.specs.declared.sections.Kind.TheVariants as kind
use Rattle.hx_config.specs.declared.sections.Values.{Values}
use Rattle.hx_config.specs.declared.sections.Section.{Section}
use Rattle.hx_config.specs.declared.sections.Frontend.{Frontend}
use Rattle.hx_config.specs.declared.sections.Backend.{Backend}
use Rattle.hx_config.specs.declared.reading.Reading.{Reading}

-- a section that listens
abbrev pub has_front : Kind → Bool
has_front kind.Frontend = true
has_front kind.Listen = true
has_front _ = false

-- a section that has servers
abbrev pub has_back : Kind → Bool
has_back kind.Backend = true
has_back kind.Listen = true
has_back _ = false

-- a `defaults` section
abbrev pub is_defaults : Kind → Bool
is_defaults kind.Defaults = true
is_defaults _ = false

-- a `global` section
abbrev pub is_global : Kind → Bool
is_global kind.Global = true
is_global _ = false

-- a section of a proxy, or the values for such sections
abbrev pub is_proxy : Kind → Bool
is_proxy k = is_defaults k || (has_front k || has_back k)

-- the pool settings that hold where no line names them
abbrev pub usual_rules : PoolRules
usual_rules = record { mode = mode.Safe; max = None; low = 0; delay = record { 0 = 5000 } }

-- the values before any line
abbrev pub usual_values : Values
usual_values =
    record { rules = usual_rules; back = None; connect = None; server = None; client = None; keep_alive = None }

-- the values with which a section begins: those of defaults, and in listen its own name as its backend
abbrev pub first_values : Kind → List ℕ → Values → Values
first_values kind.Listen name values = record values { back = Some name }
first_values _ name values = values

-- a section before its lines
abbrev pub empty_section : Kind → ℕ → List ℕ → Values → Section
empty_section k line name values =
    record { kind = k; line = line; name = name; values = values; binds = []; servers = [] }

-- a section of this name has begun, with the values of the defaults before it
abbrev pub begun_named : Kind → ℕ → List ℕ → Reading → Reading
begun_named k line name r =
    record r { current = empty_section k line name (first_values k name r.defaults) }

-- before the first section
abbrev pub nowhere : Section
nowhere = empty_section kind.Nowhere 0 [] usual_values

-- the server with this mode
abbrev pub with_mode : Mode → Server → Server
with_mode m s = record s { rules = record s.rules { mode = m } }

-- the frontend of a section that ends
abbrev pub front_of : Section → Frontend
front_of s = record {
  line = s.line;
  name = s.name;
  binds = s.binds;
  wants = s.values.back;
  client = s.values.client;
  keep_alive = s.values.keep_alive;
}

-- its backend: the last `http-reuse` holds for all its servers
abbrev pub back_of : Section → Backend
back_of s = record {
  line = s.line;
  back = record {
    name = s.name;
    servers = map (with_mode s.values.rules.mode) s.servers;
    connect = s.values.connect;
    server = s.values.server;
  };
}

-- what was read, with a section that has ended
abbrev pub ended : Section → Reading → Reading
ended s r = record r {
  defaults = if is_defaults s.kind then s.values else r.defaults;
  fronts = if has_front s.kind then r.fronts ++ front_of s ∷ [] else r.fronts;
  backs = if has_back s.kind then r.backs ++ back_of s ∷ [] else r.backs;
}

-- the open section has ended
abbrev pub closed : Reading → Reading
closed r = ended r.current (record r { current = nowhere })

-- a frontend has the name already, or a backend
abbrev pub has_front_named : List ℕ → List Frontend → Bool
has_front_named name fronts = list_any (λ f. bytes_eq f.name name) fronts

-- a backend that has ended has the name
abbrev pub has_back_named : List ℕ → List Backend → Bool
has_back_named name backs = list_any (λ b. bytes_eq b.back.name name) backs

-- a server has the name
abbrev pub has_server_named : List ℕ → List Server → Bool
has_server_named name servers = list_any (λ s. bytes_eq s.name name) servers

-- a section of this kind may not have the name
abbrev pub is_double : Kind → List ℕ → Reading → Bool
is_double k name r =
    (has_front k && has_front_named name r.fronts) || (has_back k && has_back_named name r.backs)

-- one more section of this kind would go past the limit
abbrev pub is_full : Kind → Reading → Bool
is_full k r = (has_front k && nat_le 16 (length r.fronts)) || (has_back k && nat_le 16 (length r.backs))

-- the line has no effect here
abbrev pub passing : ℕ → Reading → Reading
passing line r = record r { passed_over = r.passed_over ++ line ∷ [] }

-- the open section with these values
abbrev pub with_values : Values → Reading → Reading
with_values v r = record r { current = record r.current { values = v } }

-- before the first line: one thread, and nothing else
abbrev pub nothing_read : Reading
nothing_read = record {
  threads = 1;
  defaults = usual_values;
  current = nowhere;
  fronts = [];
  backs = [];
  servers = 0;
  passed_over = [];
}
