-- What making a parish layer gives.
use Rattle.std.specs.Prelude.{◌≡◌, ℕ, Ok, Err, Result}
use Rattle.rows.specs.Row.{IsParish}
use Rattle.rows.specs.declared.refusal.Refusal.TheVariants.{ParishRange}
use Rattle.parish.specs.declared.layer.Parish.{Parish}
use Rattle.parish.specs.declared.layer.Unmade.{Unmade}

-- the layer of the problem and the parish, or the problem back where there is no such parish
abbrev pub LayerMade : {P : Type 0} → P → ℕ → Result (Parish P) (Unmade P) → Type 0
LayerMade p g (Ok l) = IsParish g × (l ≡ record { below = p; parish = g })
LayerMade p g (Err e) = (IsParish g → ⊥) × (e ≡ record { refusal = ParishRange; below = p })
