use Rattle.std.proofs.Common.{◌<◌, List, [], ◌∷◌, length, refl, arith}
use Rattle.std.proofs.lemmas.Bool.{false≢true}
use Rattle.rows.specs.declared.row.Constraint.{Constraint}
use Rattle.lptype.specs.Meaning.{Stands}
use Rattle.circles.specs.Discs.{discs}
use Rattle.circles.proofs.Standing.{stands_none, stands_one, stands_more}
use Rattle.circles.proofs.Deciding.{stands_differ, stands_acute}
use Rattle.disc.proofs.ByLength.{two, three}
use Rattle.disc.proofs.problem.DiscProblem.is_standing.Goals as goal

stands_few : (F : List Constraint) → length F < 2 → Stands discs F
stands_few [] l = stands_none
stands_few (p ∷ []) l = stands_one p
stands_few (p ∷ q ∷ F) l = absurd (omega arith)

pub returns-in-empty : goal.returns-in-empty
returns-in-empty c = ((λ _. stands_few c.args.list.now c.in-empty.len_below), λ _. refl)

pub returns-in-len2 : goal.returns-in-len2
returns-in-len2 c =
    let e = two c.args.list.now _ c.in-len2.len_at_least c.in-len2.len_below c.new.ensures c.new-in-len2.ensures in
    rw e (rw c.differs.ensures (stands_differ _ _))

pub returns-in-len3 : goal.returns-in-len3
returns-in-len3 c =
    let e = three c.args.list.now _ c.in-len3.len_at_least c.in-len3.len_below c.new-in-len3.ensures.p c.new-in-len3.ensures.q c.new-in-len3.ensures.r in
    rw e (rw c.is_acute.ensures (stands_acute _ _ _))

pub returns-in_default : goal.returns-in_default
returns-in_default c = ((λ e. absurd (false≢true e)), λ s. absurd (stands_more c.args.list.now c.requires (omega (arith, c.in_default.len_at_least)) s))
