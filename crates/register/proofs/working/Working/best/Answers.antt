use Rattle.rows.specs.List.{positions}
use Rattle.checking.proofs.Refusing.{answer_unrefused}
use Rattle.walk.proofs.Walks.{on_open}
use Rattle.register.specs.Calls.{state_of}
use Rattle.register.proofs.working.Working.best.Goals as goal

pub unreachable-requires : goal.unreachable-requires
unreachable-requires g c =
    let w = c.args.self.now in
    let m = g.P.Problem.meaning w.problem in
    let rows = (state_of w).rows in
    let ps = positions w.contents.basis in
    answer_unrefused m rows c.requires.admitted (g.P.Problem.reads w.problem) ps (on_open rows ps w.contents.filed).0 c.requires.stands c.in-Err.field-0 c.in-Err.ensures
