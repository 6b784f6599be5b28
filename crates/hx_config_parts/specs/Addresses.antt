-- Addresses and names (HAProxy 2.4 Configuration Manual, sections 2.1, 4.2 and 5.2).
use Rattle.std.specs.Prelude.{ℕ, Bool, true, ◌||◌, not, List, [], ◌∷◌, Result, Ok, Err, if◌then◌else◌, ◌==◌, bytes_eq, codes}
use Rattle.hx_config_parts.specs.declared.fault.Rule.{Rule}
use Rattle.hx_config_parts.specs.declared.fault.Rule.TheVariants.{BadAddress, UnknownWord}
use Rattle.hx_base.specs.declared.address.Host.{Host}
use Rattle.hx_base.specs.declared.address.Host.TheVariants as host
use Rattle.hx_base.specs.declared.address.Address.{Address}
use Rattle.hx_base.specs.Names.{is_name}
use Rattle.hx_config_parts.specs.Faults.{◌>>=◌}
use Rattle.hx_config_parts.specs.Numbers.{bounded}

-- what was read before, with b in front
abbrev pub before : ℕ → Result (List ℕ × List ℕ) Rule → Result (List ℕ × List ℕ) Rule
before b read = read >>= λ x. Ok (b ∷ x.0, x.1)

-- what stands before the first such byte, and behind it
unfoldable pub cut_at : ℕ → List ℕ → Result (List ℕ × List ℕ) Rule
cut_at mark [] = Err BadAddress
cut_at mark (b ∷ bs) = if b == mark then Ok ([], bs) else before b (cut_at mark bs)

-- no zero stands before other digits
abbrev pub is_plain : List ℕ → Bool
is_plain [] = true
is_plain (b ∷ []) = true
is_plain (b ∷ c ∷ bs) = not (b == 48)

-- a number of an IPv4 address
abbrev pub octet : List ℕ → Result ℕ Rule
octet w = if is_plain w then bounded BadAddress 0 255 w else Err BadAddress

-- four numbers parted by dots
abbrev pub dotted : List ℕ → Result Host Rule
dotted w = do
  a ← cut_at 46 w
  b ← cut_at 46 a.1
  c ← cut_at 46 b.1
  first ← octet a.0
  second ← octet b.0
  third ← octet c.0
  fourth ← octet c.1
  Ok (host.V4 first second third fourth)

-- a host to connect to
abbrev pub server_host : List ℕ → Result Host Rule
server_host w = if bytes_eq w (codes "localhost") then Ok host.Local else dotted w

-- a host to listen on
abbrev pub bind_host : List ℕ → Result Host Rule
bind_host w = if bytes_eq w [] || bytes_eq w (codes "*") then Ok host.Any else server_host w

-- a port, from 1 on
abbrev pub port_of : List ℕ → Result ℕ Rule
port_of w = bounded BadAddress 1 65535 w

-- a host, a colon and a port
unfoldable pub server_address : List ℕ → Result Address Rule
server_address w = do
  x ← cut_at 58 w
  at ← server_host x.0
  port ← port_of x.1
  Ok (record { host = at; port = port })

-- the same, where the host may be missing
unfoldable pub bind_address : List ℕ → Result Address Rule
bind_address w = do
  x ← cut_at 58 w
  at ← bind_host x.0
  port ← port_of x.1
  Ok (record { host = at; port = port })

-- a name
abbrev pub name_of : List ℕ → Result (List ℕ) Rule
name_of w = if is_name w then Ok w else Err UnknownWord
