-- The six laws that every LP-type problem shows, for all finite lists of admitted constraints.
use Rattle.std.specs.Prelude.{◌≡◌, ◌≤◌, ◌⊎◌, List, ◌∷◌, length}
use Rattle.rows.specs.declared.row.Constraint.{Constraint}
use Rattle.lptype.specs.Meaning.{Meaning, Value, finite, top, Le, Equal, Within, Admitted, Raises, Quiet, KeepsAll, SameValue}

-- the order of values is total, and antisymmetric up to the equality of sizes
pub record TotalOrder (m : Meaning) : Type 0 where
  pub reflexive : (u : Value m.Size) → Le m.le u u
  pub transitive : (u v w : Value m.Size) → Le m.le u v → Le m.le v w → Le m.le u w
  pub comparable : (u v : Value m.Size) → Le m.le u v ⊎ Le m.le v u
  pub antisymmetric : (u v : Value m.Size) → Le m.le u v → Le m.le v u → Equal m.same u v
  pub equal_le : (u v : Value m.Size) → Equal m.same u v → Le m.le u v × Le m.le v u

-- the value by rivals
pub record ByRivals (m : Meaning) : Type 0 where
  -- no rival that keeps all of F has a size below the value of F
  pub least : (F : List Constraint) (r : m.Rival) → Admitted m F → KeepsAll m r F → Le m.le (m.value F) (finite (m.size r))
  -- where the value is a size, some rival keeps all of F and has that size
  pub attained : (F : List Constraint) (s : m.Size) → Admitted m F → m.value F ≡ finite s → (r : m.Rival) × KeepsAll m r F × m.same (m.size r) s
  -- where the value is top, no rival keeps all of F
  pub none : (F : List Constraint) (r : m.Rival) → Admitted m F → m.value F ≡ top → KeepsAll m r F → ⊥
  -- a rival that keeps all of F at its value also keeps each row whose adding does not raise it
  pub keeps_quiet : (F : List Constraint) (h : Constraint) (r : m.Rival) → Admitted m (h ∷ F) → KeepsAll m r F → Equal m.same (finite (m.size r)) (m.value F) → Quiet m F h → m.keeps r h

pub record Laws (m : Meaning) : Type 0 where
  pub order : TotalOrder m
  -- the value depends only on which rows occur
  pub rows_only : (F G : List Constraint) → Admitted m F → Admitted m G → Within F G → Within G F → SameValue m F G
  pub monotone : (F G : List Constraint) → Admitted m F → Admitted m G → Within F G → Le m.le (m.value F) (m.value G)
  pub local : (F G : List Constraint) (h : Constraint) → Admitted m F → Admitted m (h ∷ G) → Within F G → SameValue m F G → Raises m G h → Raises m F h
  -- in every set some rows, no more than the dimension, have its value
  pub few : (F : List Constraint) → Admitted m F → (B : List Constraint) × Within B F × (length B ≤ m.dimension) × SameValue m B F
  pub rivals : ByRivals m
  pub dimension_positive : 1 ≤ m.dimension
  pub dimension_small : m.dimension ≤ 8
