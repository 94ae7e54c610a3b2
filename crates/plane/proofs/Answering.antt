-- What the questions answer, from what the search finds.
use Rattle.std.proofs.Common.{◌≡◌, ◌≤◌, true, not, ◌&&◌, List, length, ℤ, Some, None, sym, refl, subst}
use Rattle.std.specs.List.{AllByRecursion}
use Rattle.std.proofs.ByRecursion.{All-weaker}
use Rattle.std.proofs.lemmas.Bool.{and_parts}
use Rattle.rows.specs.declared.row.Constraint.{Constraint}
use Rattle.lptype.specs.Meaning.{Value, finite, top, Equal, Admitted, Stands}
use Rattle.lptype.specs.Places.{Fine}
use Rattle.lptype.proofs.Standing.{short}
use Rattle.algebra.specs.Point.{Point as Place}
use Rattle.algebra.proofs.Order.{frac_same_trans}
use Rattle.limits.specs.Forms.{Alike}
use Rattle.limits.specs.Least.{least_crossing}
use Rattle.rows.specs.Range.{within}
use Rattle.limits.specs.Plane.{is_zero, admits_limit, Rival, cost_x_y, plane}
use Rattle.limits.proofs.Lawful.{cost_x_y_separates, plane_laws}
use Rattle.plane.specs.Answer.{Reads, Tells}
use Rattle.vertices.specs.Crossed.{Bounded}
use Rattle.lowest.specs.Reduced.{LowestTerms}
use Rattle.lptype.specs.Questions.{ReadsBest}
use Rattle.lowest.specs.declared.reduce.RationalPoint.{RationalPoint}
use Rattle.plane.specs.declared.answer.PlaneAnswer.{PlaneAnswer}
use Rattle.plane.specs.declared.answer.PlaneAnswer.TheVariants.{NoPoint, Point}

-- the numbers of admitted rows are small

bounded : (g : Constraint) → admits_limit g.a g.b g.c ≡ true → Bounded g
bounded g e =
    let abc = within 1000 g.a && within 1000 g.b && within 1000000 g.c in
    let p = and_parts abc (not (is_zero g.a && is_zero g.b)) e in
    let q = and_parts (within 1000 g.a && within 1000 g.b) (within 1000000 g.c) p.0 in
    let r = and_parts (within 1000 g.a) (within 1000 g.b) q.0 in
    record { a_small = r.0; b_small = r.1; c_small = q.1 }

pub all_bounded : (p q : ℤ) (F : List Constraint) → Admitted (plane p q) F → AllByRecursion Bounded F
all_bounded p q F a = All-weaker (Fine (plane p q)) Bounded bounded F a

-- rows that stand are at most three
pub few_stand : (p q : ℤ) (F : List Constraint) → Admitted (plane p q) F → Stands (plane p q) F → length F ≤ 3
few_stand p q F a s = short (plane p q) (plane_laws p q) F a s

-- the best rival

module _ (p q : ℤ) (F : List Constraint) (a : Admitted (plane p q) F) where
  -- the answer of a value that is the point s reads as a rival at s
  reads_point : (s : Place) (r : Rival) (a : RationalPoint) → LowestTerms s.X s.Y s.D a.x a.y a.d → Alike (cost_x_y p q) r.point s → Reads (Point a) (Some r)
  reads_point s r a t k =
      let z = cost_x_y_separates p q r.point s k in (
        t.reduced,
        frac_same_trans a.x a.d s.X r.point.X r.point.D s.positive t.same_x (sym z.0),
        frac_same_trans a.y a.d s.Y r.point.Y r.point.D s.positive t.same_y (sym z.1),
      )

  pub best_answer : (k : PlaneAnswer) → Tells (least_crossing (cost_x_y p q) F) k → ReadsBest (plane p q) Reads F k
  best_answer k t = go (least_crossing (cost_x_y p q) F) refl k t
    where
      go : (v : Value Place) → least_crossing (cost_x_y p q) F ≡ v → (k : PlaneAnswer) → Tells v k → ReadsBest (plane p q) Reads F k
      go top e NoPoint t = (None, tt, e)
      go top e (Point z) t = absurd t
      go (finite s) e NoPoint t = absurd t
      go (finite s) e (Point z) t =
          let r = (plane_laws p q).rivals.attained F s a e in
          (Some r.0, reads_point s r.0 z t r.2, (r.1, subst (Equal (Alike (cost_x_y p q)) (finite r.0.point)) (sym e) r.2))
