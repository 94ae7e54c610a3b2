-- The meaning of a problem over the rows of one parish.
use Rattle.std.specs.Prelude.{◌≡◌, ℕ, List, filter, nat_eq}
use Rattle.rows.specs.declared.row.Constraint.{Constraint}
use Rattle.lptype.specs.Meaning.{Meaning}

-- the constraints of parish g
abbrev pub of_parish : ℕ → List Constraint → List Constraint
of_parish g F = filter (λ x. nat_eq x.parish g) F

-- the value is that of the constraints of parish g below, and a rival keeps every other constraint
abbrev pub over : Meaning → ℕ → Meaning
over m g = record {
  Rival = m.Rival;
  Size = m.Size;
  admitted = m.admitted;
  keeps = λ r x. x.parish ≡ g → m.keeps r x;
  size = m.size;
  le = m.le;
  same = m.same;
  value = λ F. m.value (of_parish g F);
  dimension = m.dimension;
}
