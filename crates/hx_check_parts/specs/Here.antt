-- Private: what the table has where a mark looks.
use Rattle.std.specs.Prelude.{◌≡◌, ⊤}
use Rattle.hx_pool.specs.declared.entries.Entry.{Entry}
use Rattle.hx_pool.specs.declared.entries.Entry.TheVariants.{Park, Take, Close}
use Rattle.hx_check_parts.specs.Marks.{MarkTable}
use Rattle.hx_check_parts.specs.Last.{is_held}
use Rattle.hx_check_parts.specs.declared.legal.Here.{Here}

-- the connection and the place of a mark
abbrev pub IsHere : MarkTable → Entry → Here → Type 0
IsHere T (Park t n id at uses) here =
    (here.held ≡ is_held (T.conns id.0) t n) × (here.uses ≡ T.uses id.0) × (here.face ≡ T.rests at.row at.place)
IsHere T (Take t n first at id uses) here = here.face ≡ T.rests at.row at.place
IsHere T (Close t n id) here = here.held ≡ is_held (T.conns id.0) t n
IsHere T _ here = ⊤
