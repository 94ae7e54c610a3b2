use Rattle.std.proofs.Common.{◌≡◌, get_or, take, set, ℤ, nat_abs, sym, refl, subst, w64}
use Rattle.std.proofs.lemmas.Int.{to_z-of_z}
use Rattle.rows.specs.Row.{no_row}
use Rattle.rows.specs.List.{positions}
use Rattle.checking.specs.Filed.{OnOpen}
use Rattle.register.specs.Table.{marked}
use Rattle.register.specs.State.{State, BasisAfter}
use Rattle.register.specs.Contents.{contents_state}
use Rattle.register.proofs.Filing.{rows_marked, marks_row, filed_marked, marked_at}
use Rattle.register.proofs.contents.Contents.put_mark.Goals as goal

pub invariant_of-self : goal.invariant_of-self
invariant_of-self c =
    let w = c.args.self.now in
    let p = c.args.position in
    let mark = c.args.mark in
    let z = to_z-of_z w64 p c.ranges.position in
    let rows = take w.used w.table.rows in
    let h = marks_row mark (contents_state w) p c.requires in
    let e = subst (λ (q : ℤ). c.set_mark.new.self.rows ≡ set w.table.rows (nat_abs q) (marked mark (get_or w.table.rows (nat_abs q) no_row))) z c.set_mark.ensures.rows in
    let t = rows_marked mark p w.table.rows c.set_mark.new.self.rows w.used h.1 e in
    let b = positions c.basis_after-self.result in
    let f = subst (λ (q : ℤ). BasisAfter mark q (positions w.basis) b) z c.basis_after-self.ensures in
    record { room = w.room; filed = subst (λ rs. OnOpen rs b) (sym t) (filed_marked mark p rows (positions w.basis) b h w.filed f); below = w.below; covers = w.covers }

pub returns : goal.returns
returns c =
    let w = c.args.self.now in
    let p = c.args.position in
    let mark = c.args.mark in
    let z = to_z-of_z w64 p c.ranges.position in
    let h = marks_row mark (contents_state w) p c.requires in
    let e = subst (λ (q : ℤ). c.set_mark.new.self.rows ≡ set w.table.rows (nat_abs q) (marked mark (get_or w.table.rows (nat_abs q) no_row))) z c.set_mark.ensures.rows in
    let b = positions c.basis_after-self.result in
    let t : State = record { rows = take w.used c.set_mark.new.self.rows; order = take w.used w.order; basis = b } in
    marked_at mark p (contents_state w) t (rows_marked mark p w.table.rows c.set_mark.new.self.rows w.used h.1 e) refl (subst (λ (q : ℤ). BasisAfter mark q (positions w.basis) b) z c.basis_after-self.ensures)
