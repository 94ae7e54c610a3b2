-- Whether a row raises the value, and whether rows stand, as tests by the least point.
use Rattle.std.specs.Prelude.{Bool, true, false, not, ◌&&◌, List, [], ◌∷◌}
use Rattle.rows.specs.declared.row.Constraint.{Constraint}
use Rattle.lptype.specs.Meaning.{Value, finite, top}
use Rattle.algebra.specs.Point.{Point}
use Rattle.limits.specs.Forms.{Form}
use Rattle.limits.specs.Crossings.{kept}
use Rattle.limits.specs.Least.{least_crossing}

-- there is a least point, and it does not keep h
abbrev pub misses : Value Point → Constraint → Bool
misses top h = false
misses (finite s) h = not (kept s h)

-- at most three rows, and each is missed by the least point of the others
abbrev pub standing : List Form → List Constraint → Bool
standing fs [] = true
standing fs (f ∷ []) = misses (least_crossing fs []) f
standing fs (f ∷ g ∷ []) = misses (least_crossing fs (g ∷ [])) f && misses (least_crossing fs (f ∷ [])) g
standing fs (f ∷ g ∷ h ∷ []) = misses (least_crossing fs (g ∷ h ∷ [])) f && (misses (least_crossing fs (f ∷ h ∷ [])) g && misses (least_crossing fs (f ∷ g ∷ [])) h)
standing fs (f ∷ g ∷ h ∷ k ∷ F) = false
