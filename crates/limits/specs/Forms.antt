-- Linear forms, and points compared by a list of them in turn.
use Rattle.std.specs.Prelude.{◌≡◌, Bool, true, ◌&&◌, ◌||◌, List, [], ◌∷◌, ℤ, ◌+ℤ◌, ◌*ℤ◌, int_le, int_lt}
use Rattle.algebra.specs.Point.{Point}

-- the form u·x + v·y
pub record Form : Type 0 where
  pub u : ℤ
  pub v : ℤ

-- the value of a form at a point, times D
abbrev pub at : Form → Point → ℤ
at f z = f.u *ℤ z.X +ℤ f.v *ℤ z.Y

-- m is below n, or they are equal and the rest decides
abbrev pub first : ℤ → ℤ → Bool → Bool
first m n rest = int_lt m n || (int_le m n && rest)

-- s is at most t: the forms are compared in turn, by cross products
abbrev pub no_more : List Form → Point → Point → Bool
no_more [] s t = true
no_more (f ∷ fs) s t = first (at f s *ℤ t.D) (at f t *ℤ s.D) (no_more fs s t)

-- each form has equal values at s and t
abbrev pub Alike : List Form → Point → Point → Type 0
Alike [] s t = Unit {0}
Alike (f ∷ fs) s t = (at f s *ℤ t.D ≡ at f t *ℤ s.D) × Alike fs s t

-- s and t are one point
abbrev pub SamePoint : Point → Point → Type 0
SamePoint s t = (s.X *ℤ t.D ≡ t.X *ℤ s.D) × (s.Y *ℤ t.D ≡ t.Y *ℤ s.D)

-- points at which each form has equal values are one point
abbrev pub Separates : List Form → Type 0
Separates fs = (s t : Point) → Alike fs s t → SamePoint s t
