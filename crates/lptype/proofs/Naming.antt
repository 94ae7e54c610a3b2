-- Named and admitted rows, position by position.
use Rattle.std.proofs.Common.{◌↔◌, List, [], ◌∷◌, map, ℤ}
use Rattle.std.specs.List.{AllByRecursion}
use Rattle.rows.specs.Row.{HasRow, at, picked}
use Rattle.rows.specs.declared.row.Row.{Row}
use Rattle.lptype.specs.Meaning.{Meaning, Within}
use Rattle.lptype.specs.Places.{FineAt, AllFine}
use Rattle.lptype.proofs.Inside.{all_within, within_map, within_admitted}

pub all_unmap : {X Y : Type 0} (P : X → Type 0) (f : Y → X) (ys : List Y) → AllByRecursion P (map f ys) → AllByRecursion (λ y. P (f y)) ys
all_unmap P f [] h = tt
all_unmap P f (y ∷ ys) h = (h.0, all_unmap P f ys h.1)

-- each position has an admitted row exactly where each has a row and all of these are admitted
pub each_fine : (m : Meaning) (rows : List Row) (ps : List ℤ) → AllByRecursion (FineAt m rows) ps ↔ AllFine m rows ps
each_fine m rows [] = ((λ _. (tt, tt)), λ _. tt)
each_fine m rows (p ∷ ps) = let rest = each_fine m rows ps in (
  (λ a. let r = rest.0 a.1 in ((a.0.present, r.0), (a.0.fine, r.1))),
  λ a. (record { present = a.0.0; fine = a.1.0 }, rest.1 (a.0.1, a.1.1)),
)

pub fine_within : (m : Meaning) (rows : List Row) (ps qs : List ℤ) → Within ps qs → AllFine m rows qs → AllFine m rows ps
fine_within m rows ps qs w a = (all_within (HasRow rows) ps qs w a.0, within_admitted m (picked rows ps) (picked rows qs) (within_map (at rows) ps qs w) a.1)
