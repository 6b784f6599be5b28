-- What a worker's calls keep of all that was told in a course of them.
use Rattle.std.specs.Prelude.{List}
use Rattle.hx_link.specs.Nets.{NetState}
use Rattle.hx_record.specs.declared.served.Told.{Told}
use Rattle.hx_worker.specs.Workers.{WorkerNow}
use Rattle.hx_course.specs.Calls.{AreAlone}
use Rattle.hx_course.specs.Clients.{KeepsClients}
use Rattle.hx_course.specs.Conns.{KeepsConns}
use Rattle.hx_course.specs.Graves.{Grave, AreBuried}
use Rattle.hx_course.specs.Owners.{KeepsOwners}
use Rattle.hx_course.specs.Places.{KeepsDials}
use Rattle.hx_course.specs.Truths.{KeepsTruth}

-- the worker and its net, what was told so far, and whose links were buried so far
pub record KeepsCourse (w : WorkerNow) (net : NetState) (records : List Told) (graves : List Grave) : Type 0 where
  -- no other thread makes entries at its seats
  pub alone : AreAlone w.seats
  -- these are the links that the net buried
  pub buried : AreBuried graves net
  -- the records of each session are numbered and cover its client's bytes; those of one that is gone tile them
  pub clients : KeepsClients w.thread w.last w.sessions records graves
  -- each record is true of its links as they are now
  pub truth : KeepsTruth w.sessions w.seats records graves
  -- the exchanges of each connection are as many as its uses, and follow each other from its first byte
  pub conns : KeepsConns w.sessions w.seats records graves
  -- whose the buried links are
  pub owners : KeepsOwners w.thread w.last w.sessions w.seats records graves
  -- each connection that was dialled is somewhere
  pub dials : KeepsDials w.sessions w.seats graves net
