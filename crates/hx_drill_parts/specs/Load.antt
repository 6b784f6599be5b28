-- A load that is generated: which requests each session makes, and what they and their answers are. Sessions are counted
-- from 0, and so are the requests of a session. RFC 9112, sections 3 and 4, has the form of the heads.
use Rattle.std.specs.Prelude.{ℕ, zero, suc, ◌+◌, ◌*◌, ◌/◌, ◌%◌, ◌==◌, Bool, if◌then◌else◌, List, [], ◌++◌, length, take, codes, decimal}
use Rattle.hx_drill_parts.specs.declared.ask.Ask.{Ask}

-- how many requests the session makes
abbrev pub request_count : ℕ → ℕ → ℕ
request_count start session = 1 + (session + start) % 4

-- how long the body is for which a request asks
abbrev pub body_length : ℕ → ℕ → ℕ → ℕ
body_length start session number = (31 * session + 7 * number + start) % 1000

-- the session's request of that number
abbrev pub generated : ℕ → ℕ → ℕ → Ask
generated start session number = record { session = session; number = number; size = body_length start session number }

-- its target names the session, the number and the length
abbrev pub target : Ask → List ℕ
target ask = codes "/" ++ decimal ask.session ++ codes "/" ++ decimal ask.number ++ codes "/" ++ decimal ask.size

-- the field of a head behind which the connection is closed
abbrev pub close_line : Bool → List ℕ
close_line closing = if closing then codes "Connection: close\r\n" else []

-- the request as its client sends it; the last one wants close
abbrev pub request_text : Ask → Bool → List ℕ
request_text ask last = codes "GET " ++ target ask ++ codes " HTTP/1.1\r\nHost: d\r\n" ++ close_line last ++ codes "\r\n"

-- and as it reaches a server
abbrev pub forwarded_text : Ask → List ℕ
forwarded_text ask = codes "GET " ++ target ask ++ codes " HTTP/1.1\r\nHost: d\r\n\r\n"

-- the text so many times
abbrev pub copies : ℕ → List ℕ → List ℕ
copies zero text = []
copies (suc n) text = copies n text ++ text

-- the text over and over, up to that length
abbrev pub repeated : List ℕ → ℕ → List ℕ
repeated text n = take n (copies (n / length text + 1) text)

-- the answer; its body is the target over and over
abbrev pub answer_text : Ask → Bool → List ℕ
answer_text ask closing =
    codes "HTTP/1.1 200 OK\r\nContent-Length: " ++ decimal ask.size ++ codes "\r\n" ++ close_line closing ++ codes "\r\n"
    ++ repeated (target ask) ask.size

-- the request of that number is the session's last one
abbrev pub is_last : ℕ → ℕ → ℕ → Bool
is_last start session number = number + 1 == request_count start session

-- the first requests of a session, as its client sends them
abbrev pub first_requests : ℕ → ℕ → ℕ → List ℕ
first_requests start session zero = []
first_requests start session (suc number) =
    first_requests start session number ++ request_text (generated start session number) (is_last start session number)

-- and the answers to them, as its client is given them
abbrev pub first_answers : ℕ → ℕ → ℕ → List ℕ
first_answers start session zero = []
first_answers start session (suc number) =
    first_answers start session number ++ answer_text (generated start session number) (is_last start session number)

-- all that the client of a session sends
abbrev pub client_text : ℕ → ℕ → List ℕ
client_text start session = first_requests start session (request_count start session)

-- and all that it is given
abbrev pub given_text : ℕ → ℕ → List ℕ
given_text start session = first_answers start session (request_count start session)

-- how many bytes the bodies of the first answers of a session have
abbrev pub first_bytes : ℕ → ℕ → ℕ → ℕ
first_bytes start session zero = 0
first_bytes start session (suc number) = first_bytes start session number + body_length start session number

-- how many bytes the bodies of all answers of a session have
abbrev pub body_bytes : ℕ → ℕ → ℕ
body_bytes start session = first_bytes start session (request_count start session)

-- how many requests the sessions below that number make
abbrev pub all_requests : ℕ → ℕ → ℕ
all_requests start zero = 0
all_requests start (suc session) = all_requests start session + request_count start session

-- and how many bytes the bodies of the answers to them have
abbrev pub all_bytes : ℕ → ℕ → ℕ
all_bytes start zero = 0
all_bytes start (suc session) = all_bytes start session + body_bytes start session
