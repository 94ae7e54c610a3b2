-- Another mark at one position: what stays.
use Rattle.std.proofs.Common.{◌≡◌, ℕ, zero, suc, ◌<◌, ◌≢◌, List, [], ◌∷◌, map, length, get_or, set, ℤ, nat_abs, refl, ap, ◌∙◌, length-set, get_or-set_other, get_or-set_same}
use Rattle.rows.specs.Row.{at, picked, row_at, no_row}
use Rattle.rows.specs.declared.row.Row.{Row}
use Rattle.rows.specs.declared.row.Mark.{Mark}
use Rattle.register.specs.Table.{marked}
use Rattle.register.specs.State.{with_mark}

-- ---- another mark

-- a list with one element replaced by another of the same image
map_set_same : {X Y : Type 0} (f : X → Y) (xs : List X) (i : ℕ) (x d : X) → f x ≡ f (get_or xs i d) → map f (set xs i x) ≡ map f xs
map_set_same f [] i x d e = refl
map_set_same f (y ∷ ys) zero x d e = ap (λ z. z ∷ map f ys) e
map_set_same f (y ∷ ys) (suc i) x d e = ap (λ zs. f y ∷ zs) (map_set_same f ys i x d e)

at_set_same : {X Y : Type 0} (f : X → Y) (xs : List X) (i j : ℕ) (x d : X) → f x ≡ f (get_or xs i d) → f (get_or (set xs i x) j d) ≡ f (get_or xs j d)
at_set_same f [] i j x d e = refl
at_set_same f (y ∷ ys) zero zero x d e = e
at_set_same f (y ∷ ys) zero (suc j) x d e = refl
at_set_same f (y ∷ ys) (suc i) zero x d e = refl
at_set_same f (y ∷ ys) (suc i) (suc j) x d e = at_set_same f ys i j x d e

module _ (mark : Mark) (p : ℤ) (rows : List Row) where
  pub marked_length : length (with_mark mark p rows) ≡ length rows
  marked_length = length-set rows (nat_abs p) (marked mark (row_at rows p))

  pub marked_there : nat_abs p < length rows → row_at (with_mark mark p rows) p ≡ marked mark (row_at rows p)
  marked_there l = get_or-set_same rows (nat_abs p) (marked mark (row_at rows p)) no_row l

  pub marked_elsewhere : (q : ℤ) → nat_abs q ≢ nat_abs p → row_at (with_mark mark p rows) q ≡ row_at rows q
  marked_elsewhere q n = get_or-set_other rows (nat_abs p) (nat_abs q) (marked mark (row_at rows p)) no_row n

  -- no constraint changes
  pub marked_constraints : map (λ row. row.constraint) (with_mark mark p rows) ≡ map (λ row. row.constraint) rows
  marked_constraints = map_set_same (λ row. row.constraint) rows (nat_abs p) (marked mark (row_at rows p)) no_row refl

  pub marked_at : (q : ℤ) → at (with_mark mark p rows) q ≡ at rows q
  marked_at q = at_set_same (λ row. row.constraint) rows (nat_abs p) (nat_abs q) (marked mark (row_at rows p)) no_row refl

pub marked_picked : (mark : Mark) (p : ℤ) (rows : List Row) (ps : List ℤ) → picked (with_mark mark p rows) ps ≡ picked rows ps
marked_picked mark p rows [] = refl
marked_picked mark p rows (q ∷ ps) = ap (λ x. x ∷ picked (with_mark mark p rows) ps) (marked_at mark p rows q) ∙ ap (λ F. at rows q ∷ F) (marked_picked mark p rows ps)
