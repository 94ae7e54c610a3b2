use Rattle.std.proofs.Common.{◌≡◌, drop, take, length, refl, ◌∙◌, length-take-le}
use Rattle.std.proofs.lemmas.List.{take_rest}
use Rattle.fields.proofs.Cutting.{next_field}
use Rattle.fields.proofs.token.Fields.next_field.Goals as goal

pub returns : goal.returns
returns c =
    let line = c.args.self.now.line.now in
    let i = c.args.self.now.next in
    let rest = c.in_ok-rest.rest.now in
    let n = c.comma.result in
    let lookup = c.in_ok-rest.ensures.lookup.0 in
    let found = c.comma.ensures in
    let is : rest ≡ drop i line = lookup.2 ∙ take_rest line i in
    let len : length (take n rest) ≡ n = length-take-le n rest found.within in
    (rw len (next_field line rest i n is lookup.0 found.within found.before found.found), refl, refl)
