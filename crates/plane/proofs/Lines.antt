-- The search, line by line: a point that keeps each limit, and the crossings with the lines that are left.
use Rattle.std.proofs.Common.{◌≡◌, ℕ, ◌+◌, ◌<◌, ◌≤◌, Bool, true, cond, List, [], ◌∷◌, length, get_or, take, drop, ◌-◌, Decides, sym, ap, refl, ◌∙◌, arith}
use Rattle.std.proofs.lemmas.List.{at_drop_more, at_drop_all, take_rest}
use Rattle.std.proofs.lemmas.Bool.Decides.{same_from_decides, Decides-by_and}
use Rattle.rows.specs.declared.row.Constraint.{Constraint}
use Rattle.lptype.specs.Meaning.{Value}
use Rattle.algebra.specs.Point.{Point}
use Rattle.limits.specs.Forms.{Form}
use Rattle.limits.specs.Crossings.{kept, all_kept, crossing, crossings_with, crossings}
use Rattle.limits.specs.Least.{better, improved, best}
use Rattle.limits.proofs.Best.{best_none, best_append}
use Rattle.vertices.specs.Vertices.{no_limit, KeepsEach}

-- each limit is kept

keeps_each : (z : Point) (G : List Constraint) (b : Bool) → Decides b (KeepsEach z G) → b ≡ all_kept z G
unfolding all_kept
keeps_each z G b d = same_from_decides b (all_kept z G) d (Decides-by_and (kept z) (λ g. kept z g ≡ true) (all_kept z) (λ g. (λ t. t, λ t. t)) refl (λ _ _. refl) G)

pub improved_if : (fs : List Form) (G : List Constraint) (v : Value Point) (z : Point) (b : Bool) → Decides b (KeepsEach z G) → cond b (better fs z v) v ≡ improved fs G v z
improved_if fs G v z b d = ap (λ (k : Bool). cond k (better fs z v) v) (keeps_each z G b d)

-- the lines that are left

-- those after the first
abbrev pub others : List Constraint → List Constraint
others H = take (length H - 1) (drop 1 H)

module _ (fs : List Form) (G : List Constraint) (v : Value Point) where
  pub with_more : (g : Constraint) (H : List Constraint) (i : ℕ) → i < length H → best fs G v (crossings_with g (drop i H)) ≡ best fs G (best fs G v (crossing g (get_or H i no_limit))) (crossings_with g (drop (i + 1) H))
  unfolding crossings_with
  with_more g H i l = at_drop_more (λ L. best fs G v (crossings_with g L)) H i no_limit l ∙ best_append fs G v (crossing g (get_or H i no_limit)) (crossings_with g (drop (i + 1) H))

  pub with_all : (g : Constraint) (H : List Constraint) (i : ℕ) → length H ≤ i → best fs G v (crossings_with g (drop i H)) ≡ v
  unfolding crossings_with
  with_all g H i l = at_drop_all (λ L. best fs G v (crossings_with g L)) H i l ∙ best_none fs G v

  lines_append : (g : Constraint) (H : List Constraint) → best fs G v (crossings (g ∷ H)) ≡ best fs G (best fs G v (crossings_with g H)) (crossings H)
  unfolding crossings
  lines_append g H = best_append fs G v (crossings_with g H) (crossings H)

  pub lines_more : (H : List Constraint) → 1 ≤ length H → best fs G v (crossings H) ≡ best fs G (best fs G v (crossings_with (get_or H 0 no_limit) (others H))) (crossings (others H))
  lines_more [] l = absurd (omega arith)
  lines_more (g ∷ H) l = lines_append g H ∙ sym (ap (λ L. best fs G (best fs G v (crossings_with g L)) (crossings L)) (take_rest (g ∷ H) 1))

  pub lines_all : (H : List Constraint) → length H < 1 → best fs G v (crossings H) ≡ v
  unfolding crossings
  lines_all [] l = best_none fs G v
  lines_all (g ∷ H) l = absurd (omega arith)
