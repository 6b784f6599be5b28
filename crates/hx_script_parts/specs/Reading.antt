-- What was read so far: links, orders and moments.
use Rattle.std.specs.Prelude.{ℕ, Bool, false, List, [], ◌∷◌, ◌++◌, map, Option, Some, None, Result, Ok, Err, if◌then◌else◌, nat_lt, is_some}
use Rattle.std.specs.BTreeSet.{insert_key}
use Rattle.std.specs.Ordering.{nat_cmp}
use Rattle.hx_base.specs.declared.numbers.Millis.{Millis}
use Rattle.hx_base.specs.declared.numbers.ServerNo.{ServerNo}
use Rattle.hx_base.specs.declared.plan.Plan.{Plan}
use Rattle.hx_script_parts.specs.declared.fault.Rule.{Rule}
use Rattle.hx_script_parts.specs.declared.fault.Rule.TheVariants.{WrongPlace, MomentFalls}
use Rattle.hx_script_parts.specs.Faults.{◌>>=◌, unless}
use Rattle.hx_script_parts.specs.declared.reading.Owner.{Owner}
use Rattle.hx_script_parts.specs.declared.reading.Owner.TheVariants as owner
use Rattle.hx_script_parts.specs.declared.reading.OpenLink.{OpenLink}
use Rattle.hx_script_parts.specs.declared.reading.Reading.{Reading}

-- the moments with one more at its place in the order, unless it is there
abbrev pub with_moment : Millis → List ℕ → List ℕ
with_moment m ms = insert_key nat_cmp ms m.0

-- numbers as moments
abbrev pub as_moments : List ℕ → List Millis
as_moments ms = map (λ m. record { 0 = m }) ms

-- a link before its lines
abbrev pub empty_link : ℕ → Owner → OpenLink
empty_link line who = record {
  line = line;
  owner = who;
  pieces = [];
  end = None;
  room = None;
  fail = None;
  latest = record { 0 = 0 };
}

-- the plan of a link whose lines are over
abbrev pub plan_of : Option ServerNo → Bool → OpenLink → Plan
plan_of server refuse l = record {
  line = l.line;
  server = server;
  refuse = refuse;
  pieces = l.pieces;
  end = l.end;
  room = l.room;
  fail = l.fail;
}

-- what was read, with a link whose lines are over
abbrev pub with_plan : Owner → OpenLink → Reading → Reading
with_plan (owner.Client front worker moment) l r = record r {
  clients = r.clients ++ (record { front = front; worker = worker; moment = moment; plan = plan_of None false l }) ∷ [];
}
with_plan (owner.Server server refuse) l r = record r {
  plans = r.plans ++ plan_of (Some server) refuse l ∷ [];
}

-- a link that was open is over
abbrev pub ended : Option OpenLink → Reading → Reading
ended None r = r
ended (Some l) r = with_plan l.owner l r

-- the open link is over
abbrev pub closed : Reading → Reading
closed r = ended r.current (record r { current = None })

-- its link is open
abbrev pub with_link : OpenLink → Reading → Reading
with_link l r = record r { current = Some l }

-- the moment is one of the script's
abbrev pub at_moment : Millis → Reading → Reading
at_moment m r = record r { moments = with_moment m r.moments }

-- the dial fails
abbrev pub is_refused : Owner → Bool
is_refused (owner.Client front worker moment) = false
is_refused (owner.Server server refuse) = refuse

-- the link that a line speaks of: it is there, and its dial doesn't fail
abbrev pub link_of : Option OpenLink → Result OpenLink Rule
link_of None = Err WrongPlace
link_of (Some l) = if is_refused l.owner then Err WrongPlace else Ok l

-- the link that goes on at this moment: it has no end yet, and the moment doesn't fall
abbrev pub link_at : Millis → Option OpenLink → Result OpenLink Rule
link_at m current = do
  l ← link_of current
  goes_on ← unless (is_some l.end) WrongPlace
  rises ← unless (nat_lt m.0 l.latest.0) MomentFalls
  Ok l

-- before the first line
abbrev pub nothing_read : Reading
nothing_read = record {
  clients = [];
  plans = [];
  current = None;
  orders = [];
  moments = [];
}
