-- The lines of a transcript's printed form, counted from 1.
use Rattle.std.specs.Prelude.{ℕ, ◌+◌, ◌*◌, List, length, sum_by, min}
use Rattle.hx_script.specs.declared.transcript.ServerPart.{ServerPart}
use Rattle.hx_script.specs.declared.transcript.Transcript.{Transcript}

-- a server's line and those of its marks
abbrev pub lines_of : ServerPart → ℕ
lines_of p = 1 + length p.marks

-- the lines of servers, which begin at the second
abbrev pub server_lines : List ServerPart → ℕ
server_lines servers = sum_by lines_of servers

-- the line of the first record, of the first client, of the first connection and of the first totals
abbrev pub records_at : Transcript → ℕ
records_at t = server_lines t.servers + 3

abbrev pub clients_at : Transcript → ℕ
clients_at t = records_at t + length t.records + 1

abbrev pub conns_at : Transcript → ℕ
conns_at t = clients_at t + 2 * length t.clients

abbrev pub totals_at : Transcript → ℕ
totals_at t = conns_at t + 2 * length t.conns + 1

-- the line as it is told, which stops at u32's greatest number
abbrev pub told_line : ℕ → ℕ
told_line line = min line 4294967295
