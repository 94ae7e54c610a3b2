-- What a register holds, read off its contents.
use Rattle.std.specs.Prelude.{take}
use Rattle.rows.specs.List.{positions}
use Rattle.register.specs.State.{State}
use Rattle.register.specs.declared.contents.Contents.{Contents}

abbrev pub contents_state : Contents → State
contents_state c = record { rows = take c.used c.table.rows; order = take c.used c.order; basis = positions c.basis }
