-- What a plane is made of.
use Rattle.std.specs.Prelude.{◌≡◌, true, ℤ, Result}
use Rattle.rows.specs.Judged.{Gives, Unless}
use Rattle.rows.specs.declared.refusal.Refusal.{Refusal}
use Rattle.rows.specs.declared.refusal.Refusal.TheVariants.{NotAdmitted}
use Rattle.rows.specs.Range.{within}
use Rattle.plane.specs.declared.problem.Plane.{Plane}

-- both factors of the cost are within 1,000 of 0
abbrev pub Factors : ℤ → ℤ → Type 0
Factors p q = (within 1000 p ≡ true) × (within 1000 q ≡ true)

-- refused where they are not
abbrev pub PlaneMade : ℤ → ℤ → Result Plane Refusal → Type 0
PlaneMade p q = Unless NotAdmitted (Factors p q) (Gives (λ t. (t.p ≡ p) × (t.q ≡ q)))
