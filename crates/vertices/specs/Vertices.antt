-- What a vertex of the code stands for.
use Rattle.std.specs.Prelude.{◌≡◌, true, List, [], ◌∷◌, ℤ, pos, Some, None, Option, All}
use Rattle.rows.specs.declared.row.Constraint.{Constraint}
use Rattle.algebra.specs.Point.{Point}
use Rattle.limits.specs.Crossings.{kept}
use Rattle.limits.specs.Forms.{Form}
use Rattle.vertices.specs.declared.vertex.Vertex.{Vertex}

-- the form u·x + v·y
abbrev pub form : ℤ → ℤ → Form
form u v = record { u = u; v = v }

-- the point x/d, y/d
abbrev pub point : Vertex → Point
point v = record { X = v.x; Y = v.y; D = v.d; positive = v.above }

-- the point as a list of one, or of none
abbrev pub listed : Option Vertex → List Point
listed None = []
listed (Some v) = point v ∷ []

-- what a list of limits is read as past its end
abbrev pub no_limit : Constraint
no_limit = record { a = pos 0; b = pos 0; c = pos 0; parish = 0 }

-- the point keeps each limit of the list
abbrev pub KeepsEach : Point → List Constraint → Type 0
KeepsEach z G = All (λ g. kept z g ≡ true) G
