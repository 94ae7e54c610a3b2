use Rattle.std.proofs.Common.{◌≡◌, ◌+◌, ◌<◌, [], ◌∷◌, ◌++◌, length, take, sym, ap, ◌∙◌, subst, arith, length-take, rules}
use Rattle.std.proofs.lemmas.List.{take_more_set}
use Rattle.rows.specs.Row.{open_row}
use Rattle.rows.specs.List.{positions}
use Rattle.checking.specs.Filed.{OnOpen, AllBelow, Covers}
use Rattle.register.proofs.Filing.{filed_entered, below_entered, covers_entered}
use Rattle.register.proofs.contents.Contents.file.Goals as goal

pub invariant_of-self : goal.invariant_of-self
invariant_of-self c =
    let w = c.args.self.now in
    let u = w.used in
    let n : length (take u w.table.rows) ≡ u = omega (arith, length-take u w.table.rows, c.put.ensures.size, w.room) in
    let lr : u < length w.table.rows = omega (arith, c.put.ensures.size, n, c.requires) in
    let lo : u < length w.order = search rules in
    let e : take (u + 1) c.put.new.self.rows ≡ take u w.table.rows ++ (open_row c.args.row ∷ []) =
    ap (take (u + 1)) c.put.ensures.rows ∙ take_more_set w.table.rows u c.opened.result lr ∙ ap (λ r. take u w.table.rows ++ (r ∷ [])) c.opened.ensures in
    record {
      room = omega arith;
      filed = subst (λ rs. OnOpen rs (positions w.basis)) (sym e) (filed_entered (take u w.table.rows) (open_row c.args.row) (positions w.basis) w.filed);
      below = subst (λ xs. AllBelow xs (u + 1)) (sym c.append.ensures) (below_entered w.order u lo w.below);
      covers = subst (λ xs. Covers xs (u + 1)) (sym c.append.ensures) (covers_entered w.order u lo w.covers);
    }
