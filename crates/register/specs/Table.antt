-- Rows of the table.
use Rattle.std.specs.Prelude.{pos}
use Rattle.rows.specs.Row.{open_row}
use Rattle.rows.specs.declared.row.Row.{Row}
use Rattle.rows.specs.declared.row.Mark.{Mark}

abbrev pub blank_row : Row
blank_row = open_row (record { a = pos 0; b = pos 0; c = pos 0; parish = 1 })

-- the row with another mark
abbrev pub marked : Mark → Row → Row
marked mark row = record { constraint = row.constraint; mark = mark }
