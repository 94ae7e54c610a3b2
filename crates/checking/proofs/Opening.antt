-- Whether a position has an open row, as a test and as a fact.
use Rattle.std.proofs.Common.{◌≡◌, true, ◌&&◌, ltb, List, length, ℤ, pos, nat_abs, refl, ap, arith}
use lib.Signed.{le_z}
use Rattle.std.proofs.lemmas.Int.{ints}
use Rattle.std.proofs.lemmas.Bool.{and_parts, and_from, ltb-true, lt-ltb}
use Rattle.rows.specs.Row.{HasRow, row_at}
use Rattle.rows.specs.declared.row.Row.{Row}
use Rattle.rows.specs.declared.row.Mark.{Mark}
use Rattle.rows.specs.declared.row.Mark.TheVariants.{Open, Struck}
use Rattle.checking.specs.Filed.{is_open, has_open}

open_mark : (mark : Mark) → is_open mark ≡ true → mark ≡ Open
open_mark Open e = refl
open_mark Struck e = cc

pub opens : (rows : List Row) (p : ℤ) → has_open rows p ≡ true → HasRow rows p × ((row_at rows p).mark ≡ Open)
opens rows p e =
    let a = and_parts (le_z (pos 0) p) (ltb (nat_abs p) (length rows) && is_open (row_at rows p).mark) e in
    let b = and_parts (ltb (nat_abs p) (length rows)) (is_open (row_at rows p).mark) a.1 in
    ((grind (arith, ints), ltb-true (nat_abs p) (length rows) b.0), open_mark (row_at rows p).mark b.1)

pub opened : (rows : List Row) (p : ℤ) → HasRow rows p → (row_at rows p).mark ≡ Open → has_open rows p ≡ true
opened rows p h e =
    let z : le_z (pos 0) p ≡ true = grind (arith, ints, h.0) in
    and_from (le_z (pos 0) p) (ltb (nat_abs p) (length rows) && is_open (row_at rows p).mark) z
    (and_from (ltb (nat_abs p) (length rows)) (is_open (row_at rows p).mark) (lt-ltb (nat_abs p) (length rows) h.1) (ap is_open e))
