-- The lines of links' bytes and of totals in a transcript.
use Rattle.std.specs.Prelude.{ℕ, List, [], ◌∷◌, ◌++◌, codes, decimal}
use Rattle.hx_base.specs.declared.totals.Totals.{Totals}
use Rattle.hx_record.specs.declared.bytes.ClientBytes.{ClientBytes}
use Rattle.hx_record.specs.declared.bytes.ConnBytes.{ConnBytes}
use Rattle.hx_script.specs.declared.transcript.ServerPart.{ServerPart}
use Rattle.hx_script_parts.specs.ByteText.{quoted}
use Rattle.hx_script.specs.MarkLines.{who, full_name}
use Rattle.hx_script.specs.RecordLines.{conn_text}

-- what a client's link carried
unfoldable pub client_lines : ClientBytes → List ℕ
client_lines c =
    codes "client " ++ who c.worker c.session ++ codes " took " ++ quoted c.took
    ++ codes "\nclient " ++ who c.worker c.session ++ codes " gave " ++ quoted c.gave
    ++ codes "\n"

-- what a connection carried
unfoldable pub conn_lines : List ServerPart → ConnBytes → List ℕ
conn_lines servers c =
    codes "conn " ++ conn_text servers c.server c.id ++ codes " sent " ++ quoted c.sent
    ++ codes "\nconn " ++ conn_text servers c.server c.id ++ codes " took " ++ quoted c.took
    ++ codes "\n"

-- the counts of a server
unfoldable pub totals_text : Totals → List ℕ
totals_text t =
    codes " open " ++ decimal t.opened ++ codes " park " ++ decimal t.parked
    ++ codes " take " ++ decimal t.taken ++ codes " over " ++ decimal t.over
    ++ codes " care " ++ decimal t.care ++ codes " close " ++ decimal t.closed
    ++ codes "\n"

-- the totals of the servers in order
abbrev pub totals_lines : List ServerPart → List Totals → List ℕ
totals_lines [] totals = []
totals_lines (p ∷ servers) [] = []
totals_lines (p ∷ servers) (t ∷ totals) =
    (full_name p ++ totals_text t) ++ totals_lines servers totals
