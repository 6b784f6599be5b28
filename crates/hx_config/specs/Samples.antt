-- Samples of what texts mean.
use Rattle.std.specs.Prelude.{◌≡◌, ℕ, List, [], ◌∷◌, ◌++◌, Some, None, Ok, Err, codes}
use Rattle.hx_base.specs.declared.address.Host.TheVariants as host
use Rattle.hx_base.specs.declared.rules.Mode.TheVariants as mode
use Rattle.hx_config_parts.specs.declared.fault.Rule.{Rule}
use Rattle.hx_config.specs.declared.parts.Server.{Server}
use Rattle.hx_config.specs.Meaning.{Meaning, meaning_of}

-- the first fault of the text is this rule, broken in this line
abbrev pub HasFault : List ℕ → ℕ → Rule → Type 0
HasFault text line rule = meaning_of text ≡ Err (record { line = line; rule = rule })

-- the text means this
abbrev pub Means : List ℕ → Meaning → Type 0
Means text m = meaning_of text ≡ Ok m

-- a usual file
unfoldable pub usual_text : List ℕ
usual_text =
    codes "global\n"
    ++ codes "    log /dev/log local0\n"
    ++ codes "    user haproxy\n"
    ++ codes "    group haproxy\n"
    ++ codes "    daemon\n"
    ++ codes "    maxconn 4000\n"
    ++ codes "    nbthread 4\n"
    ++ codes "\n"
    ++ codes "defaults\n"
    ++ codes "    log global\n"
    ++ codes "    mode http\n"
    ++ codes "    option httplog\n"
    ++ codes "    option dontlognull\n"
    ++ codes "    timeout connect 5s\n"
    ++ codes "    timeout client 50s\n"
    ++ codes "    timeout server 50s\n"
    ++ codes "\n"
    ++ codes "frontend www\n"
    ++ codes "    bind *:80\n"
    ++ codes "    default_backend app\n"
    ++ codes "\n"
    ++ codes "backend app\n"
    ++ codes "    balance roundrobin\n"
    ++ codes "    http-reuse safe\n"
    ++ codes "    default-server pool-max-conn 20 pool-purge-delay 10s check\n"
    ++ codes "    server a 10.0.0.1:8080\n"
    ++ codes "    server b 10.0.0.2:8080 pool-low-conn 2\n"
    ++ codes "    server c 10.0.0.3:8080 # spare\n"

-- a server of the usual file: its name, its number, the last number of its host, and its `pool-low-conn`
abbrev pub usual_server : List ℕ → ℕ → ℕ → ℕ → Server
usual_server name number last low = record {
  name = name;
  no = record { 0 = number };
  address = record { host = host.V4 10 0 0 last; port = 8080 };
  rules = record { mode = mode.Safe; max = Some 20; low = low; delay = record { 0 = 10000 } };
}

-- what the usual file says: 4 threads, a frontend for port 80 and a backend of three servers
abbrev pub usual_meaning : Meaning
usual_meaning = record {
  threads = 4;
  fronts = (record {
    name = codes "www";
    binds = (record { host = host.Any; port = 80 }) ∷ [];
    back = 0;
    client = Some (record { 0 = 50000 });
    keep_alive = None;
  }) ∷ [];
  backs = (record {
    name = codes "app";
    servers = usual_server (codes "a") 0 1 0 ∷ usual_server (codes "b") 1 2 2 ∷ usual_server (codes "c") 2 3 0 ∷ [];
    connect = Some (record { 0 = 5000 });
    server = Some (record { 0 = 50000 });
  }) ∷ [];
  passed_over = 2 ∷ 3 ∷ 4 ∷ 5 ∷ 6 ∷ 10 ∷ 12 ∷ 13 ∷ 25 ∷ [];
}

-- so many backends of one letter each
abbrev pub backends : List ℕ → List ℕ
backends [] = []
backends (b ∷ names) = codes "backend " ++ b ∷ 10 ∷ backends names
