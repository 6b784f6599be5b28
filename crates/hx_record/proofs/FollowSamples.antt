-- What the samples' first record covers, and what stands right behind it.
use Rattle.std.proofs.Common.{◌++◌, refl, lit≤, arith}
use Rattle.hx_record.specs.Covers.{CoversClient, FollowsClient, CoversConn, FollowsConn}
use Rattle.hx_record.specs.CutSamples.{own_answer, own_of, RecountsOwn}
use Rattle.hx_record.specs.declared.served.LeftCause.TheVariants as cause
use Rattle.hx_record.specs.Samples.{ask, client, first_line, one_asked, one_carried, second, second_moved}

pub covers_first : CoversClient one_asked.worker one_asked.session first_line 28 40 1
covers_first = record { asks = (refl, lit≤ tt, refl); gaves = (refl, lit≤ tt, refl); numbers = (refl, tt); size = refl; goes_on = refl }

pub follows_first : FollowsClient second 28 40 1
follows_first = record { ask = (refl, lit≤ tt); given = (refl, lit≤ tt); number = refl }

pub not_behind_gap : ¬ FollowsClient second 27 40 1
not_behind_gap f = omega (arith, f.ask.0)

pub not_told_again : ¬ FollowsClient second 28 40 0
not_told_again f = omega (arith, f.number)

pub covers_conn : CoversConn one_carried.server one_carried.id first_line 28 40 1
covers_conn = record { order = (refl, refl, lit≤ tt, refl, lit≤ tt, tt); sent_is = refl; took_is = refl; size = refl }

pub follows_conn : FollowsConn (second_moved 2) 28 40 1
follows_conn = record { number = refl; sends = (refl, lit≤ tt); takes = (refl, lit≤ tt) }

pub not_counted_again : ¬ FollowsConn (second_moved 1) 28 40 1
not_counted_again f = omega (arith, f.number)

-- an own answer's record has all bytes that were read of the client
pub not_read_on : ¬ RecountsOwn cause.Own (own_of 503 74) (client (ask ++ ask) own_answer)
not_read_on r = omega (arith, r.all_taken)
