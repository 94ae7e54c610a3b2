-- The laws of the problem whose one rival keeps every row, and which lists stand there: the empty ones.
use Rattle.std.specs.Prelude.{◌≡◌, ℕ, ◌<◌, Some, None, Option, List, [], ◌∷◌, length, ℤ, Decides, ◌==◌, refl}
use Rattle.std.proofs.Common.{subst, inl, arith}
use Rattle.std.proofs.lemmas.List.{length-map}
use Rattle.std.proofs.lemmas.Bool.{eqb-true, eq-eqb, true≢false}
use Rattle.rows.specs.Row.{at, picked}
use Rattle.rows.specs.declared.row.Constraint.{Constraint}
use Rattle.rows.specs.declared.row.Row.{Row}
use Rattle.lptype.specs.Laws.{Laws}
use Rattle.lptype.specs.Meaning.{Value, finite, top, Stands}
use Rattle.lptype.proofs.Derived.{laws}
use Rattle.lptype.proofs.Standing.{stands_by}
use Rattle.trials.specs.Everything.{everything}

Finite : Value (Unit {0}) → Type 0
Finite (finite s) = Unit {0}
Finite top = ⊥

not_top : ◌≡◌ {A = Value (Unit {0})} (finite tt) top → ⊥
unfolding Finite
not_top e = subst Finite e tt

pub everything_laws : Laws everything
everything_laws = laws everything (record {
  sizes = record { reflexive = λ a. refl; transitive = λ a b c p q. refl; comparable = λ a b. inl refl; antisymmetric = λ a b p q. tt; equal_le = λ a b e. (refl, refl) };
  few = λ F a. ([], λ x i. absurd i, omega arith, tt);
  rivals = record { least = λ F r a k. refl; attained = λ F s a e. (tt, λ x i. tt, tt); none = λ F r a e k. not_top e; keeps_quiet = λ F h r a k e q. tt };
  dimension_positive = omega arith;
  dimension_small = omega arith;
})

empty_stands : (F : List Constraint) → length F ≡ 0 → Stands everything F
empty_stands [] e = stands_by everything [] tt
empty_stands (x ∷ F) e = absurd (omega arith)

stands_empty : (F : List Constraint) → Stands everything F → length F ≡ 0
stands_empty [] s = refl
stands_empty (x ∷ F) s = absurd (true≢false (s.without [] F x refl))

pub decides_none : (F : List Constraint) → Decides (length F == 0) (Stands everything F)
decides_none F = (λ e. empty_stands F (eqb-true (length F) 0 e), λ s. eq-eqb (length F) 0 (stands_empty F s))

module _ (rows : List Row) (ps : List ℤ) where
  pub stands_at : length ps ≡ 0 → Stands everything (picked rows ps)
  stands_at e = empty_stands (picked rows ps) (omega (arith, length-map ps (at rows)))

  pub never_stands : 0 < length ps → Stands everything (picked rows ps) → ⊥
  never_stands l s = omega (arith, stands_empty (picked rows ps) s, length-map ps (at rows))

  pub decides_empty : Decides (length ps == 0) (Stands everything (picked rows ps))
  decides_empty = (λ e. stands_at (eqb-true (length ps) 0 e), λ s. eq-eqb (length ps) 0 (omega (arith, stands_empty (picked rows ps) s, length-map ps (at rows))))

-- an answer that stands for none stands for no rival
pub none_some : (a : Unit {0}) → ◌≡◌ {A = Option (Unit {0})} None (Some a) → ⊥
none_some a e = let z : ◌≡◌ {A = ℕ} 0 1 = cc in omega arith
