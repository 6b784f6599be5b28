-- Private: what a net in memory tells of the notes that it keeps.
use Rattle.std.specs.Prelude.{Bool, true, false, List, Option, Some, None}
use Rattle.hx_link.specs.declared.memory_net.DialNote.{DialNote}
use Rattle.hx_link.specs.Nets.{DialTold, told_dial}

-- a list where it is told
abbrev pub where_told : {A : Type 0} → Bool → List A → Option (List A)
where_told true xs = Some xs
where_told false xs = None

-- the dial that the note tells
abbrev pub note_told : DialNote → DialTold
note_told d = told_dial d.server d.id d.answered d.tag
