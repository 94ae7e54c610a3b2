-- What a register holds, and what the calls on a working one make of it.
use Rattle.std.specs.Prelude.{◌≡◌, ℕ, ◌<◌, true, List, [], ◌∷◌, ◌++◌, map, length, ℤ, Result, MatchResult, slice_set, unsigned_abs}
use Rattle.rows.specs.Judged.{Gives, Unless}
use Rattle.rows.specs.Row.{HasRow, IsParish, row_at, open_row, picked}
use Rattle.rows.specs.declared.row.Constraint.{Constraint}
use Rattle.rows.specs.declared.row.Row.{Row}
use Rattle.rows.specs.declared.row.Mark.{Mark}
use Rattle.rows.specs.declared.row.Mark.TheVariants.{Open, Struck}
use Rattle.rows.specs.declared.refusal.Refusal.{Refusal}
use Rattle.rows.specs.declared.refusal.Refusal.TheVariants.{NotAdmitted, ParishRange, TableFull, NoRow, AlreadyStruck, AlreadyOpen}
use Rattle.lptype.specs.Meaning.{Meaning, In, Admitted, Stands}
use Rattle.register.specs.Table.{marked}

-- the rows in use by position, the order of their positions, and the filed basis
pub record State : Type 0 where
  pub rows : List Row
  pub order : List ℕ
  pub basis : List ℤ

abbrev pub new_state : State
new_state = record { rows = []; order = []; basis = [] }

-- what each call asks for and keeps: the filed rows are admitted, and the filed basis stands
pub record Good (m : Meaning) (s : State) : Type 0 where
  pub admitted : Admitted m (map (λ row. row.constraint) s.rows)
  pub stands : Stands m (picked s.rows s.basis)

-- a refused call leaves the state as it was
abbrev pub Became : {T : Type 0} → Result T Refusal → State → (State → Type 0) → State → Type 0
Became r s Done t = MatchResult r (λ _. Done t) (λ _. t ≡ s)

-- ---- enter

abbrev pub EnterAnswer : Meaning → State → Constraint → Result (Unit {0}) Refusal → Type 0
EnterAnswer m s x =
    Unless NotAdmitted (m.admitted x.a x.b x.c ≡ true)
    (Unless ParishRange (IsParish x.parish)
    (Unless TableFull (length s.rows < 256) (Gives (λ _. Unit {0}))))

-- one open row more, its position last in the order
abbrev pub entered : Constraint → State → State
entered x s = record { rows = s.rows ++ (open_row x ∷ []); order = s.order ++ (length s.rows ∷ []); basis = s.basis }

-- ---- strike and restore

-- the rows with another mark at position p
abbrev pub with_mark : Mark → ℤ → List Row → List Row
with_mark mark p rows = slice_set rows (unsigned_abs p) (marked mark (row_at rows p))

abbrev pub StrikeAnswer : State → ℤ → Result (Unit {0}) Refusal → Type 0
StrikeAnswer s p = Unless NoRow (HasRow s.rows p) (Unless AlreadyStruck ((row_at s.rows p).mark ≡ Open) (Gives (λ _. Unit {0})))

-- a basis that holds p becomes empty
abbrev pub Emptied : ℤ → List ℤ → List ℤ → Type 0
Emptied p basis after = (In p basis → after ≡ []) × ((In p basis → ⊥) → after ≡ basis)

pub record StruckAt (p : ℤ) (s t : State) : Type 0 where
  pub rows : t.rows ≡ with_mark Struck p s.rows
  pub order : t.order ≡ s.order
  pub basis : Emptied p s.basis t.basis

abbrev pub RestoreAnswer : State → ℤ → Result (Unit {0}) Refusal → Type 0
RestoreAnswer s p = Unless NoRow (HasRow s.rows p) (Unless AlreadyOpen ((row_at s.rows p).mark ≡ Struck) (Gives (λ _. Unit {0})))

abbrev pub restored : ℤ → State → State
restored p s = record { rows = with_mark Open p s.rows; order = s.order; basis = s.basis }

-- ---- both, by the mark that a row is given

-- the refusal of a row that has the mark
abbrev pub already : Mark → Refusal
already Struck = AlreadyStruck
already Open = AlreadyOpen

abbrev pub MarkAnswer : Mark → State → ℤ → Result (Unit {0}) Refusal → Type 0
MarkAnswer Struck s p = StrikeAnswer s p
MarkAnswer Open s p = RestoreAnswer s p

-- what becomes of the basis
abbrev pub BasisAfter : Mark → ℤ → List ℤ → List ℤ → Type 0
BasisAfter Struck p basis after = Emptied p basis after
BasisAfter Open p basis after = after ≡ basis

abbrev pub MarkedAt : Mark → ℤ → State → State → Type 0
MarkedAt Struck p s t = StruckAt p s t
MarkedAt Open p s t = t ≡ restored p s
