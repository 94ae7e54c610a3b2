-- Layers: meanings with the sizes, the order, the admitted constraints and the dimension of one below.
use Rattle.std.specs.Prelude.{◌≤◌, List, length}
use Rattle.rows.specs.declared.row.Constraint.{Constraint}
use Rattle.lptype.specs.Meaning.{Meaning, Value, finite, Less, Equal, Within, Admitted}
use Rattle.lptype.specs.Laws.{Laws, ByRivals}
use Rattle.lptype.proofs.Derived.{laws}
use Rattle.lptype.proofs.Order.{not_both}

module _ (m : Meaning) (Rival : Type 0) (keeps : Rival → Constraint → Type 0) (size : Rival → m.Size) (value : List Constraint → Value m.Size) where
  abbrev pub layer : Meaning
  layer = record { Rival = Rival; Size = m.Size; admitted = m.admitted; keeps = keeps; size = size; le = m.le; same = m.same; value = value; dimension = m.dimension }

  -- a layer owes the small witness and the meaning by rivals
  pub layer_laws : Laws m → ((F : List Constraint) → Admitted m F → (B : List Constraint) × Within B F × (length B ≤ m.dimension) × Equal m.same (value B) (value F)) → ByRivals layer → Laws layer
  layer_laws l few rivals = let t = l.order in laws layer (record {
    sizes = record {
      reflexive = λ a. t.reflexive (finite a);
      transitive = λ a b c. t.transitive (finite a) (finite b) (finite c);
      comparable = λ a b. t.comparable (finite a) (finite b);
      antisymmetric = λ a b. t.antisymmetric (finite a) (finite b);
      equal_le = λ a b. t.equal_le (finite a) (finite b);
    };
    few = few;
    rivals = rivals;
    dimension_positive = l.dimension_positive;
    dimension_small = l.dimension_small;
  })

-- no value is below itself
pub not_below_itself : (m : Meaning) → Laws m → (v : Value m.Size) → Less m.le v v → ⊥
not_below_itself m l v p = not_both m v v p (l.order.reflexive v)
