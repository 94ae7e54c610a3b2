use Rattle.register.specs.DayLaw.{DayLaw}
use Rattle.register.proofs.Daily.{day_law}
use Rattle.register.proofs.settled.Settled.on_every_day.Goals as goal

pub returns : goal.returns
returns g c =
    let p = c.args.self.now.register.problem in
    let law : DayLaw (g.P.Problem.meaning p) = day_law (g.P.Problem.meaning p) (g.met.P.Problem.lawful p) in
    record { basis = λ calls d. (law calls _ d).1.1.0; counts = λ calls d. (law calls _ d).1.1.1 }
