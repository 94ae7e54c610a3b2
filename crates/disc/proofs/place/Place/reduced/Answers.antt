use Rattle.disc.proofs.Upward.{lowest_upward}
use Rattle.disc.proofs.place.Place.reduced.Goals as goal

pub returns : goal.returns
returns c =
    let up = c.upward-up.result in
    let same = c.upward-up.ensures in
    lowest_upward up.east up.north up.under same.up same.x same.y c.reduce.ensures
