-- What an LP-type problem means: rivals, their sizes, and the value of a set of constraints.
use Rattle.std.specs.Prelude.{◌≡◌, ℕ, Bool, true, false, ◌⊎◌, List, [], ◌∷◌, ◌++◌, ℤ}
use Rattle.std.specs.List.{AllByRecursion}
use Rattle.rows.specs.declared.row.Constraint.{Constraint}

-- a value: a size, or top, which is above every size
pub data Value (S : Type 0) : Type 0 where
  finite : S → Value S
  top : Value S

pub record Meaning : Type 1 where
  -- the answers that anyone might propose
  pub Rival : Type 0
  pub Size : Type 0
  -- whether a constraint of these three numbers may be entered
  pub admitted : ℤ → ℤ → ℤ → Bool
  pub keeps : Rival → Constraint → Type 0
  pub size : Rival → Size
  -- the order of sizes
  pub le : Size → Size → Bool
  -- equality of sizes: fractions are equal where their cross products are
  pub same : Size → Size → Type 0
  pub value : List Constraint → Value Size
  pub dimension : ℕ

-- the order of sizes, carried to values
abbrev pub at_most : {S : Type 0} → (S → S → Bool) → Value S → Value S → Bool
at_most le u top = true
at_most le top (finite b) = false
at_most le (finite a) (finite b) = le a b

abbrev pub Le : {S : Type 0} → (S → S → Bool) → Value S → Value S → Type 0
Le le u v = at_most le u v ≡ true

-- u is below v: v is not at most u
abbrev pub Less : {S : Type 0} → (S → S → Bool) → Value S → Value S → Type 0
Less le u v = at_most le v u ≡ false

-- the equality of sizes, carried to values
abbrev pub Equal : {S : Type 0} → (S → S → Type 0) → Value S → Value S → Type 0
Equal same top top = Unit {0}
Equal same top (finite b) = ⊥
Equal same (finite a) top = ⊥
Equal same (finite a) (finite b) = same a b

-- x occurs in the list
abbrev pub In : {X : Type 0} → X → List X → Type 0
In x [] = ⊥
In x (y ∷ ys) = (x ≡ y) ⊎ In x ys

-- everything that occurs in F occurs in G
abbrev pub Within : {X : Type 0} → List X → List X → Type 0
Within {X} F G = (x : X) → In x F → In x G

abbrev pub Admitted : Meaning → List Constraint → Type 0
Admitted m F = AllByRecursion (λ x. m.admitted x.a x.b x.c ≡ true) F

-- adding h raises the value of F
abbrev pub Raises : Meaning → List Constraint → Constraint → Type 0
Raises m F h = Less m.le (m.value F) (m.value (h ∷ F))

-- adding h does not raise the value of F
abbrev pub Quiet : Meaning → List Constraint → Constraint → Type 0
Quiet m F h = Le m.le (m.value (h ∷ F)) (m.value F)

abbrev pub KeepsAll : (m : Meaning) → m.Rival → List Constraint → Type 0
KeepsAll m r F = (x : Constraint) → In x F → m.keeps r x

-- F and G have equal values
abbrev pub SameValue : (m : Meaning) → List Constraint → List Constraint → Type 0
SameValue m F G = Equal m.same (m.value F) (m.value G)

-- a list stands if leaving out any one of its rows lowers the value
pub record Stands (m : Meaning) (B : List Constraint) : Type 0 where
  pub without : (xs ys : List Constraint) (x : Constraint) → B ≡ xs ++ (x ∷ ys) → Less m.le (m.value (xs ++ ys)) (m.value B)
