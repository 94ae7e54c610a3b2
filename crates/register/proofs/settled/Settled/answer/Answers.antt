use Rattle.register.proofs.Daily.{day_law}
use Rattle.register.proofs.settled.Settled.answer.Goals as goal

pub returns : goal.returns
returns g c =
    let w = c.args.self.now in
    let m = g.P.Problem.meaning w.register.problem in
    let a = c.best.ensures in
    record {
      rival = a.0;
      stands_for = a.1;
      best = a.2;
      law = λ calls d. (day_law m (g.met.P.Problem.lawful w.register.problem) calls _ d).1.0 a.0 a.2;
    }
