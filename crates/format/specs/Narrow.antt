-- Numbers of a file that become a constraint, and those that do not.
use Rattle.std.specs.Prelude.{◌≡◌, ℕ, cond, ◌&&◌, ℤ, pos, negsuc, ◌≤ℤ◌, Result, int_le, unsigned_abs}
use Rattle.rows.specs.Judged.{Gives, Unless}
use Rattle.rows.specs.declared.row.Constraint.{Constraint}
use Rattle.rows.specs.declared.refusal.Refusal.{Refusal}
use Rattle.rows.specs.declared.refusal.Refusal.TheVariants.{NotAdmitted}
use Rattle.format.specs.declared.command.RowNumbers.{RowNumbers}

-- a number of at most 32 bits
abbrev pub Narrow : ℤ → Type 0
Narrow z = (negsuc 2147483647 ≤ℤ z) × (z ≤ℤ pos 2147483647)

-- so is each of the first three numbers of a row
abbrev pub AllNarrow : RowNumbers → Type 0
AllNarrow n = Narrow n.a × (Narrow n.b × Narrow n.c)

-- the number itself, refused like one of a row that is not admitted where it is beyond 32 bits
abbrev pub NumberNarrowed : ℤ → Result ℤ Refusal → Type 0
NumberNarrowed z = Unless NotAdmitted (Narrow z) (Gives (λ x. x ≡ z))

-- a number as a parish; 0, which is none, where it does not fit a byte
abbrev pub narrowed : ℤ → ℕ
narrowed z = cond (int_le (pos 0) z && int_le z (pos 255)) (unsigned_abs z) 0

abbrev pub constraint_of : RowNumbers → Constraint
constraint_of n = record { a = n.a; b = n.b; c = n.c; parish = narrowed n.parish }

-- the constraint of four numbers, refused where a, b or c is beyond 32 bits
abbrev pub RowNarrowed : RowNumbers → Result Constraint Refusal → Type 0
RowNarrowed n = Unless NotAdmitted (AllNarrow n) (Gives (λ x. x ≡ constraint_of n))
