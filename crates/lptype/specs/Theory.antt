-- What holds of every LP-type problem by its laws alone.
use Rattle.std.specs.Prelude.{◌≡◌, ◌≤◌, ◌↔◌, List, ◌∷◌, ◌++◌, length}
use Rattle.rows.specs.declared.row.Constraint.{Constraint}
use Rattle.lptype.specs.Meaning.{Meaning, In, Within, Admitted, Raises, Quiet, SameValue, Stands}

pub record Theory (m : Meaning) : Type 0 where
  -- a row raises some of the rows of G that have its value exactly where it raises G
  pub same_raises : (F G : List Constraint) (h : Constraint) → Admitted m (h ∷ G) → Within F G → SameValue m F G → Raises m F h ↔ Raises m G h
  -- some of the rows of G that no row of G raises have its value
  pub whole : (F G : List Constraint) → Admitted m G → Within F G → ((x : Constraint) → In x G → Quiet m F x) → SameValue m F G
  -- in every set some rows, no more than the dimension, stand and have its value
  pub basis : (F : List Constraint) → Admitted m F → (B : List Constraint) × Within B F × (length B ≤ m.dimension) × Stands m B × SameValue m B F
  -- a list that stands is no longer than the dimension
  pub short : (B : List Constraint) → Admitted m B → Stands m B → length B ≤ m.dimension
  -- and has no row twice
  pub once : (B xs ys : List Constraint) (x : Constraint) → Admitted m B → Stands m B → B ≡ xs ++ (x ∷ ys) → ¬ In x (xs ++ ys)
