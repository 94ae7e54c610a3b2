use Rattle.std.proofs.Common.{refl, arith}
use Rattle.circles.proofs.Standing.{violates_none, stands_three, stands_more}
use Rattle.circles.proofs.Deciding.{raises_differ, raises_pair, raises_circle}
use Rattle.disc.proofs.ByLength.{none, one, two, three}
use Rattle.disc.proofs.problem.DiscProblem.is_raised.Goals as goal

pub unreachable-requires : goal.unreachable-requires
unreachable-requires c = stands_more c.args.list.now c.requires.admitted.1 (omega (arith, c.in_default.len_at_least)) c.requires.stands

pub returns-in-empty : goal.returns-in-empty
returns-in-empty c = let e = none c.args.list.now c.in-empty.len_below in rw e ((λ (_ : _). violates_none _), λ (_ : _). refl)

pub returns-in-len1 : goal.returns-in-len1
returns-in-len1 c =
    let e = one c.args.list.now _ c.in-len1.len_at_least c.in-len1.len_below c.new.ensures in
    rw e (rw c.differs.ensures (rw c.new-h.ensures (raises_differ _ _)))

pub returns-in-len2 : goal.returns-in-len2
returns-in-len2 c =
    let e = two c.args.list.now _ c.in-len2.len_at_least c.in-len2.len_below c.new-in-len2.ensures c.new-in-len2-2.ensures in
    rw e (rw c.is_outside.ensures (rw c.new-h.ensures (raises_pair _ _ _)))

pub returns-in-len3 : goal.returns-in-len3
returns-in-len3 c =
    let e = three c.args.list.now _ c.in-len3.len_at_least c.in-len3.len_below c.new-in-len3.ensures.p c.new-in-len3.ensures.q c.new-in-len3.ensures.r in
    rw e (rw c.leaves_out.ensures (rw c.new-h.ensures (raises_circle _ _ _ _ ((stands_three _ _ _).0 (rw e at c.requires.stands)))))
