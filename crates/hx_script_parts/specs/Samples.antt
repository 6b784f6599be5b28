-- Samples of what scripts mean.
use Rattle.std.specs.Prelude.{◌≡◌, ℕ, true, false, List, [], ◌∷◌, ◌++◌, Some, None, Ok, Err, codes, map}
use Rattle.hx_base.specs.declared.address.Host.TheVariants as host
use Rattle.hx_base.specs.declared.order.Order.TheVariants as order
use Rattle.hx_base.specs.declared.rules.Mode.TheVariants as mode
use Rattle.hx_config.specs.Meaning as config
use Rattle.hx_script_parts.specs.Meaning.{Meaning, meaning_of}
use Rattle.hx_script_parts.specs.declared.fault.Flaw.TheVariants as flaw
use Rattle.hx_script_parts.specs.declared.fault.Rule.{Rule}

-- the text means this
abbrev pub Means : List ℕ → Meaning → Type 0
Means text m = meaning_of text ≡ Ok m

-- the first fault of the text is this rule of scripts, broken in this line
abbrev pub HasFault : List ℕ → ℕ → Rule → Type 0
HasFault text line rule = meaning_of text ≡ Err (flaw.Line line rule)

-- the first fault of the text is one of its configuration: its line there, and the number of its rule
abbrev pub HasConfigFault : List ℕ → ℕ → ℕ → Type 0
HasConfigFault text line rule = meaning_of text ≡ Err (flaw.Config line rule)

-- five lines with a configuration of one frontend and one server
abbrev pub sample_head : List ℕ
sample_head = codes "hx-script 1\nconfig 3\nlisten w\n bind :80\n server s 1.1.1.1:1\n"

-- these and each kind of line that may follow
abbrev pub sample_text : List ℕ
sample_text =
    sample_head
    ++ codes "client w 0 1\n"
    ++ codes "piece 2 0 \"a\\x00\\\"\"\n"
    ++ codes "end 5 3\n"
    ++ codes "room 7\n"
    ++ codes "fail 4\n"
    ++ codes "server w/s\n"
    ++ codes "piece 2 9 \"\"\n"
    ++ codes "drain 7 w/s\n"
    ++ codes "ready 8 w/s\n"
    ++ codes "tick 2147483647\n"
    ++ codes "server w/s refuse\n"

-- the configuration of the head
abbrev pub sample_config : config.Meaning
sample_config = record {
  threads = 1;
  fronts = (record {
    name = codes "w";
    binds = (record { host = host.Any; port = 80 }) ∷ [];
    back = 0;
    client = None;
    keep_alive = None;
  }) ∷ [];
  backs = (record {
    name = codes "w";
    servers = (record {
      name = codes "s";
      no = record { 0 = 0 };
      address = record { host = host.V4 1 1 1 1; port = 1 };
      rules = record { mode = mode.Safe; max = None; low = 0; delay = record { 0 = 5000 } };
    }) ∷ [];
    connect = None;
    server = None;
  }) ∷ [];
  passed_over = [];
}

-- what the sample says: a client that is there from moment 1, two connections, the second refused, and two orders
abbrev pub sample_meaning : Meaning
sample_meaning = record {
  config = sample_config;
  clients = (record {
    front = 0;
    worker = record { 0 = 0 };
    moment = record { 0 = 1 };
    plan = record {
      line = 6;
      server = None;
      refuse = false;
      pieces = (record { at = record { 0 = 2 }; after = 0; bytes = 97 ∷ 0 ∷ 34 ∷ [] }) ∷ [];
      end = Some (record { 0 = 5 }, 3);
      room = Some 7;
      fail = Some 4;
    };
  }) ∷ [];
  plans = (record {
    line = 11;
    server = Some (record { 0 = 0 });
    refuse = false;
    pieces = (record { at = record { 0 = 2 }; after = 9; bytes = [] }) ∷ [];
    end = None;
    room = None;
    fail = None;
  }) ∷ (record {
    line = 16;
    server = Some (record { 0 = 0 });
    refuse = true;
    pieces = [];
    end = None;
    room = None;
    fail = None;
  }) ∷ [];
  orders = (record { 0 = 7 }, order.Drain (record { 0 = 0 })) ∷ (record { 0 = 8 }, order.Ready (record { 0 = 0 })) ∷ [];
  moments = map (λ m. record { 0 = m }) (0 ∷ 1 ∷ 2 ∷ 5 ∷ 7 ∷ 8 ∷ 2147483647 ∷ []);
}
