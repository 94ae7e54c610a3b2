use Rattle.std.proofs.Common.{sym, subst, arith}
use Rattle.lptype.specs.Questions.{ReadsBest}
use Rattle.circles.specs.Discs.{discs}
use Rattle.circles.proofs.Standing.{stands_more}
use Rattle.circles.proofs.Deciding.{stands_acute}
use Rattle.disc.specs.Centres.{Reads}
use Rattle.disc.specs.declared.answer.DiscAnswer.TheVariants.{Empty}
use Rattle.disc.proofs.ByLength.{none, one, two, three}
use Rattle.disc.proofs.Best.{best_none, best_single, best_pair, best_triangle}
use Rattle.disc.proofs.problem.DiscProblem.best.Goals as goal

pub circumcentre-requires : goal.circumcentre-requires
circumcentre-requires c =
    let e = three c.args.list.now _ c.in-len3.len_at_least c.in-len3.len_below c.new-in-len3.ensures.p c.new-in-len3.ensures.q c.new-in-len3.ensures.r in
    (stands_acute _ _ _).1 (rw e at c.requires.stands)

pub unreachable-requires : goal.unreachable-requires
unreachable-requires c = stands_more c.args.list.now c.requires.admitted (omega (arith, c.in_default.len_at_least)) c.requires.stands

pub returns-in-empty : goal.returns-in-empty
returns-in-empty c = subst (λ F. ReadsBest discs Reads F Empty) (sym (none c.args.list.now c.in-empty.len_below)) best_none

pub returns-in-len1 : goal.returns-in-len1
returns-in-len1 c =
    let e = one c.args.list.now _ c.in-len1.len_at_least c.in-len1.len_below c.new-p.ensures in
    rw e (best_single c.reduced.result c.reduced.ensures _ c.halfway.ensures.x c.halfway.ensures.y c.halfway.ensures.d)

pub returns-in-len2 : goal.returns-in-len2
returns-in-len2 c =
    let e = two c.args.list.now _ c.in-len2.len_at_least c.in-len2.len_below c.new.ensures c.new-in-len2.ensures in
    rw e (best_pair c.reduced-in-len2.result c.reduced-in-len2.ensures _ _ c.halfway-in-len2.ensures.x c.halfway-in-len2.ensures.y c.halfway-in-len2.ensures.d)

pub returns-in-len3 : goal.returns-in-len3
returns-in-len3 c =
    let e = three c.args.list.now _ c.in-len3.len_at_least c.in-len3.len_below c.new-in-len3.ensures.p c.new-in-len3.ensures.q c.new-in-len3.ensures.r in
    rw e (best_triangle c.reduced-in-len3.result c.reduced-in-len3.ensures _ _ _ ((stands_acute _ _ _).1 (rw e at c.requires.stands)) c.circumcentre.ensures.x c.circumcentre.ensures.y c.circumcentre.ensures.d)
