-- What is left of a list when some of its elements are left out.
use Rattle.std.specs.Prelude.{List, [], ◌∷◌}

pub data Sublist {X : Type 0} : List X → List X → Type 0 where
  nothing : Sublist [] []
  leave : {x : X} {ys xs : List X} → Sublist ys xs → Sublist ys (x ∷ xs)
  keep : {x : X} {ys xs : List X} → Sublist ys xs → Sublist (x ∷ ys) (x ∷ xs)
