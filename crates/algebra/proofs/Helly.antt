-- Helly's theorem in the plane: where any three of the convex sets of a list meet, all do.
-- By induction on the length of the list: four points, each without one of the first four sets, and the point between them.
use Rattle.std.proofs.Common.{ℕ, zero, suc, ◌≤◌, List, [], ◌∷◌, length, pos, le_refl, arith}
use Rattle.std.specs.List.{AllByRecursion}
use Rattle.std.proofs.ByRecursion.{All-weaker}
use Rattle.algebra.specs.Point.{Point}
use Rattle.algebra.proofs.Signs.{suc_pos}
use Rattle.algebra.proofs.Convex.{Convex}
use Rattle.algebra.proofs.Radon.{BetweenFour, radon}

abbrev origin : Point
origin = record { X = pos 0; Y = pos 0; D = pos 1; positive = suc_pos 0 }

module _ {A : Type 0} (C : A → Point → Type 0) where
  -- the sets of x, y and z meet
  abbrev pub Meet : A → A → A → Type 0
  Meet x y z = (p : Point) × C x p × C y p × C z p

  -- any three of the list meet, repeats included
  abbrev pub AnyThree : List A → Type 0
  AnyThree F = AllByRecursion (λ x. AllByRecursion (λ y. AllByRecursion (Meet x y) F) F) F

  -- all of the list meet
  abbrev pub AllMeet : List A → Type 0
  AllMeet F = (p : Point) × AllByRecursion (λ x. C x p) F

  -- what holds of each of G holds of each of F
  abbrev Inherits : List A → List A → Type 1
  Inherits F G = (P : A → Type 0) → AllByRecursion P G → AllByRecursion P F

  fewer : (F G : List A) → Inherits F G → AnyThree G → AnyThree F
  fewer F G w h =
      All-weaker (λ x. AllByRecursion (λ y. AllByRecursion (Meet x y) G) G) (λ x. AllByRecursion (λ y. AllByRecursion (Meet x y) F) F)
      (λ x t. All-weaker (λ y. AllByRecursion (Meet x y) G) (λ y. AllByRecursion (Meet x y) F) (λ y. w (Meet x y)) F (w (λ y. AllByRecursion (Meet x y) G) t)) F
      (w (λ x. AllByRecursion (λ y. AllByRecursion (Meet x y) G) G) h)

  module _ (convex : (x : A) → Convex (C x)) where
    -- the rest of the list, by any three of the four points
    rest : (p q r s : Point) (m : BetweenFour C convex p q r s) (F : List A) → AllByRecursion (λ x. C x p) F → AllByRecursion (λ x. C x q) F → AllByRecursion (λ x. C x r) F → AllByRecursion (λ x. C x m.point) F
    rest p q r s m [] i j k = tt
    rest p q r s m (x ∷ F) i j k = (m.drop4 x i.0 j.0 k.0, rest p q r s m F i.1 j.1 k.1)

    meets : (n : ℕ) (F : List A) → length F ≤ n → AnyThree F → AllMeet F
    meets n [] l h = (origin, tt)
    meets n (a ∷ []) l h = let t = h.0.0.0 in (t.0, (t.1, tt))
    meets n (a ∷ b ∷ []) l h = let t = h.0.1.0.1.0 in (t.0, (t.1, (t.2, tt)))
    meets n (a ∷ b ∷ c ∷ []) l h = let t = h.0.1.0.1.1.0 in (t.0, (t.1, (t.2, (t.3, tt))))
    meets zero (a ∷ b ∷ c ∷ d ∷ F) l h = absurd (omega arith)
    meets (suc n) (a ∷ b ∷ c ∷ d ∷ F) l h =
        let p = meets n (b ∷ c ∷ d ∷ F) (omega arith) (fewer (b ∷ c ∷ d ∷ F) (a ∷ b ∷ c ∷ d ∷ F) (λ P i. i.1) h) in
        let q = meets n (a ∷ c ∷ d ∷ F) (omega arith) (fewer (a ∷ c ∷ d ∷ F) (a ∷ b ∷ c ∷ d ∷ F) (λ P i. (i.0, i.1.1)) h) in
        let r = meets n (a ∷ b ∷ d ∷ F) (omega arith) (fewer (a ∷ b ∷ d ∷ F) (a ∷ b ∷ c ∷ d ∷ F) (λ P i. (i.0, (i.1.0, i.1.1.1))) h) in
        let s = meets n (a ∷ b ∷ c ∷ F) (omega arith) (fewer (a ∷ b ∷ c ∷ F) (a ∷ b ∷ c ∷ d ∷ F) (λ P i. (i.0, (i.1.0, (i.1.1.0, i.1.1.1.1)))) h) in
        let m = radon C convex p.0 q.0 r.0 s.0 in (
          m.point,
          (
            m.drop1 a q.1.0 r.1.0 s.1.0,
            (
              m.drop2 b p.1.0 r.1.1.0 s.1.1.0,
              (
                m.drop3 c p.1.1.0 q.1.1.0 s.1.1.1.0,
                (
                  m.drop4 d p.1.1.1.0 q.1.1.1.0 r.1.1.1.0,
                  rest p.0 q.0 r.0 s.0 m F p.1.1.1.1 q.1.1.1.1 r.1.1.1.1,
                ),
              ),
            ),
          ),
        )

    pub helly : (F : List A) → AnyThree F → AllMeet F
    helly F h = meets (length F) F (le_refl (length F)) h
