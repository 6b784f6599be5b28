-- A connection whose exchange goes on.
use Rattle.std.proofs.Common.{◌≡◌, ℕ, ◌+◌, Bool, true, false, List, [], ◌∷◌, sym, ap, subst, ◌∙◌, Some, None}
use Rattle.std.specs.Prelude.{if◌then◌else◌, ◌==◌}
use Rattle.hx_base.specs.declared.numbers.ThreadNo.{ThreadNo}
use Rattle.hx_base.specs.declared.numbers.SessionNo.{SessionNo}
use Rattle.hx_base.specs.declared.numbers.ServerNo.{ServerNo}
use Rattle.hx_base.specs.declared.numbers.ConnId.{ConnId}
use Rattle.hx_conn.specs.Conns.{BusyNow}
use Rattle.hx_pool.specs.SeatView.{History}
use Rattle.hx_pool.specs.Table.{face_of}
use Rattle.hx_connecting.specs.Around.{HasAround}
use Rattle.hx_connecting.specs.Holds.{HasJust, HoldsConn}
use Rattle.hx_connecting.specs.Sessions.{Exchanging}

just_busy : (h : History) (n : SessionNo) (b c : BusyNow) (test : Bool) → c.id ≡ b.id → c.uses ≡ b.uses → HasJust h n (if test then Some (Exchanging b) else None)
    → HasJust h n (if test then Some (Exchanging c) else None)
just_busy h n b c true id uses just = (just.0, just.1 ∙ ap (λ (i : ConnId). face_of i just.0 ∷ []) (sym id), λ ne. just.2 ne ∙ sym uses)
just_busy h n b c false id uses just = just

holds_busy : (t : ThreadNo) (n : SessionNo) (b c : BusyNow) (i : ℕ) (seats : List History) → c.server ≡ b.server → c.id ≡ b.id → c.uses ≡ b.uses
    → HoldsConn t n (Some (Exchanging b)) i seats → HoldsConn t n (Some (Exchanging c)) i seats
holds_busy t n b c i [] server id uses holds = tt
holds_busy t n b c i (h ∷ seats) server id uses holds =
    let here : HasJust h n (if b.server.0 == i then Some (Exchanging c) else None) = just_busy h n b c (b.server.0 == i) id uses holds.2 in (
      holds.0,
      holds.1,
      subst (λ (v : ServerNo). HasJust h n (if v.0 == i then Some (Exchanging c) else None)) (sym server) here,
      holds_busy t n b c (i + 1) seats server id uses holds.3,
    )

-- what stands around it stays
pub around_busy : (t : ThreadNo) (n : SessionNo) (b c : BusyNow) (seats : List History) → c.server ≡ b.server → c.id ≡ b.id → c.uses ≡ b.uses → c.link.on_loop ≡ b.link.on_loop
    → HasAround t n (Some (Exchanging b)) seats → HasAround t n (Some (Exchanging c)) seats
around_busy t n b c seats server id uses loop a = record {
  loop = loop ∙ a.loop;
  never = tt;
  servers = a.servers;
  holds = holds_busy t n b c 0 seats server id uses a.holds;
}
