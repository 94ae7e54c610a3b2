-- Sizes n over d with d above 0, and the greatest size of a list.
use Rattle.std.proofs.Common.{◌≡◌, zero, suc, Bool, true, false, ◌⊎◌, List, [], ◌∷◌, ℤ, pos, negsuc, ◌*ℤ◌, ◌≤ℤ◌, ◌<ℤ◌, sym, refl, ◌∙◌, subst, inl, inr, ⊎_elim}
use Rattle.std.proofs.lemmas.Bool.{cases_Bool, both_ways}
use Rattle.rows.specs.declared.row.Constraint.{Constraint}
use Rattle.lptype.specs.Meaning.{In}
use Rattle.algebra.specs.Fraction.{Fraction, frac_le, frac_same}
use Rattle.algebra.proofs.Order.{le_of_eq, le_z_in, le_z_out, le_z_not}
use Rattle.algebra.proofs.Fractions.{fraction_refl, fraction_trans, fraction_total, fraction_antisym, fraction_same_le}
use Rattle.circles.specs.Discs.{over, larger, most}

pub same_trans : (s t u : Fraction) → frac_same s t → frac_same t u → frac_same s u
same_trans s t u p q = fraction_antisym s u
    (fraction_trans s t u (fraction_same_le s t p).0 (fraction_same_le t u q).0)
    (fraction_trans u t s (fraction_same_le t u q).1 (fraction_same_le s t p).1)

-- s' is not at most t', so neither is s at most t
pub less_by : (s s' t t' : Fraction) → frac_same s' s → frac_same t' t → frac_le s' t' ≡ false → frac_le s t ≡ false
less_by s s' t t' e f l = ⊎_elim
    (λ p. absurd (both_ways (frac_le s' t') l (fraction_trans s' s t' (fraction_same_le s' s e).0 (fraction_trans s t t' p (fraction_same_le t' t f).1))))
    (λ p. p)
    (cases_Bool (frac_le s t))

-- n over d

pub over_le : (a c : ℤ) {b d : ℤ} → pos 0 <ℤ b → pos 0 <ℤ d → (a *ℤ d) ≤ℤ (c *ℤ b) → frac_le (over a b) (over c d) ≡ true
over_le a c {b = pos (suc j)} {d = pos (suc k)} h i l = le_z_in l
over_le a c {b = pos (suc j)} {d = pos zero} h i l = absurd i.lt
over_le a c {b = pos (suc j)} {d = negsuc k} h i l = absurd i.lt
over_le a c {b = pos zero} {d} h i l = absurd h.lt
over_le a c {b = negsuc j} {d} h i l = absurd h.lt

pub le_over : (a c : ℤ) {b d : ℤ} → pos 0 <ℤ b → pos 0 <ℤ d → frac_le (over a b) (over c d) ≡ true → (a *ℤ d) ≤ℤ (c *ℤ b)
le_over a c {b = pos (suc j)} {d = pos (suc k)} h i l = le_z_out l
le_over a c {b = pos (suc j)} {d = pos zero} h i l = absurd i.lt
le_over a c {b = pos (suc j)} {d = negsuc k} h i l = absurd i.lt
le_over a c {b = pos zero} {d} h i l = absurd h.lt
le_over a c {b = negsuc j} {d} h i l = absurd h.lt

pub over_less : (a c : ℤ) {b d : ℤ} → pos 0 <ℤ b → pos 0 <ℤ d → (a *ℤ d) <ℤ (c *ℤ b) → frac_le (over c d) (over a b) ≡ false
over_less a c {b = pos (suc j)} {d = pos (suc k)} h i l = le_z_not l
over_less a c {b = pos (suc j)} {d = pos zero} h i l = absurd i.lt
over_less a c {b = pos (suc j)} {d = negsuc k} h i l = absurd i.lt
over_less a c {b = pos zero} {d} h i l = absurd h.lt
over_less a c {b = negsuc j} {d} h i l = absurd h.lt

pub over_same : (a c : ℤ) {b d : ℤ} → pos 0 <ℤ b → pos 0 <ℤ d → a *ℤ d ≡ c *ℤ b → frac_same (over a b) (over c d)
over_same a c {b} {d} h i e = fraction_antisym (over a b) (over c d) (over_le a c h i (le_of_eq e)) (over_le c a i h (le_of_eq (sym e)))

-- the greatest

larger_left : (s t : Fraction) → frac_le s (larger s t) ≡ true
larger_left s t = go (frac_le s t) refl
  where
    go : (b : Bool) → frac_le s t ≡ b → frac_le s (elim b [ true ↦ t | false ↦ s ]) ≡ true
    go true e = e
    go false e = fraction_refl s

larger_right : (s t : Fraction) → frac_le t (larger s t) ≡ true
larger_right s t = go (frac_le s t) refl
  where
    go : (b : Bool) → frac_le s t ≡ b → frac_le t (elim b [ true ↦ t | false ↦ s ]) ≡ true
    go true e = fraction_refl t
    go false e = ⊎_elim (λ p. absurd (both_ways (frac_le s t) e p)) (λ p. p) (fraction_total s t)

larger_one : (s t : Fraction) → (larger s t ≡ s) ⊎ (larger s t ≡ t)
larger_one s t = go (frac_le s t)
  where
    go : (b : Bool) → (elim b as (λ x. Fraction) [ true ↦ t | false ↦ s ] ≡ s) ⊎ (elim b as (λ x. Fraction) [ true ↦ t | false ↦ s ] ≡ t)
    go true = inr refl
    go false = inl refl

pub most_above : (f : Constraint → Fraction) (F : List Constraint) (x : Constraint) → In x F → frac_le (f x) (most f F) ≡ true
most_above f [] x i = elim i [ ]
most_above f (y ∷ []) x (inl e) = subst (λ z. frac_le (f z) (f y) ≡ true) (sym e) (fraction_refl (f y))
most_above f (y ∷ []) x (inr i) = elim i [ ]
most_above f (y ∷ z ∷ F) x (inl e) = subst (λ w. frac_le (f w) (most f (y ∷ z ∷ F)) ≡ true) (sym e) (larger_left (f y) (most f (z ∷ F)))
most_above f (y ∷ z ∷ F) x (inr i) = fraction_trans (f x) (most f (z ∷ F)) (most f (y ∷ z ∷ F)) (most_above f (z ∷ F) x i) (larger_right (f y) (most f (z ∷ F)))

pub most_hit : (f : Constraint → Fraction) (y : Constraint) (F : List Constraint) → (x : Constraint) × In x (y ∷ F) × (most f (y ∷ F) ≡ f x)
most_hit f y [] = (y, inl refl, refl)
most_hit f y (z ∷ F) = ⊎_elim
    (λ e. (y, inl refl, e))
    (λ e. let t = most_hit f z F in (t.0, inr t.1, e ∙ t.2))
    (larger_one (f y) (most f (z ∷ F)))
