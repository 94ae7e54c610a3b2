-- Check passes exactly the bases of the open rows.
use Rattle.std.proofs.Common.{◌≡◌, ℕ, zero, suc, ◌<◌, List, [], ◌∷◌, map, length, get_or, ℤ, nat_abs, is_ok, Ok, Err, Decides, Result, sym, refl, subst, inl, inr, arith}
use Rattle.std.proofs.lemmas.Bool.{false≢true}
use Rattle.rows.specs.Row.{Named, AllOpen, at, picked, no_row}
use Rattle.rows.specs.declared.row.Constraint.{Constraint}
use Rattle.rows.specs.declared.row.Row.{Row}
use Rattle.rows.specs.declared.row.Mark.{Mark}
use Rattle.rows.specs.declared.row.Mark.TheVariants.{Open, Struck}
use Rattle.rows.specs.declared.refusal.Refusal.{Refusal}
use Rattle.lptype.specs.Meaning.{Meaning, Admitted, In, Within, Quiet, Stands}
use Rattle.lptype.specs.Laws.{Laws}
use Rattle.lptype.proofs.Order.{down, not_both}
use Rattle.lptype.proofs.Inside.{within_admitted}
use Rattle.lptype.proofs.Derived.{whole}
use Rattle.checking.specs.Checking.{QuietBefore, FirstViolating, Searched, CheckAnswer, BasisOfOpen, open_rows, kept_if}

-- ---- the open rows, by place

-- an open row's constraint is among those kept
kept_open : (mark : Mark) (x : Constraint) (F : List Constraint) → mark ≡ Open → In x (kept_if mark x F)
kept_open Open x F e = inl refl
kept_open Struck x F e = let z : ◌≡◌ {A = ℕ} 0 1 = cc in absurd (omega arith)

kept_more : (mark : Mark) (x y : Constraint) (F : List Constraint) → In y F → In y (kept_if mark x F)
kept_more Open x y F i = inr i
kept_more Struck x y F i = i

pub open_in : (rows : List Row) (k : ℕ) → k < length rows → (get_or rows k no_row).mark ≡ Open → In (get_or rows k no_row).constraint (open_rows rows)
open_in [] k l e = absurd (omega arith)
open_in (row ∷ rows) zero l e = kept_open row.mark row.constraint (open_rows rows) e
open_in (row ∷ rows) (suc k) l e = kept_more row.mark row.constraint _ (open_rows rows) (open_in rows k (omega arith) e)

-- where a constraint of an open row stands
pub record OpenPlace (rows : List Row) (x : Constraint) : Type 0 where
  pub place : ℕ
  pub inside : place < length rows
  pub is_open : (get_or rows place no_row).mark ≡ Open
  pub there : x ≡ (get_or rows place no_row).constraint

later : (row : Row) (rows : List Row) (x : Constraint) → OpenPlace rows x → OpenPlace (row ∷ rows) x
later row rows x p = record { place = suc p.place; inside = omega (arith, p.inside); is_open = p.is_open; there = p.there }

kept_from : (mark : Mark) (y x : Constraint) (rows : List Row) (F : List Constraint) → In x (kept_if mark y F) → (In x F → OpenPlace rows x) → OpenPlace (record { constraint = y; mark = mark } ∷ rows) x
kept_from Open y x rows F (inl e) f = record { place = 0; inside = omega arith; is_open = refl; there = e }
kept_from Open y x rows F (inr i) f = later (record { constraint = y; mark = Open }) rows x (f i)
kept_from Struck y x rows F i f = later (record { constraint = y; mark = Struck }) rows x (f i)

pub in_open : (rows : List Row) (x : Constraint) → In x (open_rows rows) → OpenPlace rows x
in_open [] x i = absurd i
in_open (row ∷ rows) x i = kept_from row.mark row.constraint x rows (open_rows rows) i (in_open rows x)

kept_within : (mark : Mark) (y x : Constraint) (F G : List Constraint) → (In x F → In x G) → In x (kept_if mark y F) → In x (y ∷ G)
kept_within Open y x F G f (inl e) = inl e
kept_within Open y x F G f (inr i) = inr (f i)
kept_within Struck y x F G f i = inr (f i)

pub open_within : (rows : List Row) → Within (open_rows rows) (map (λ row. row.constraint) rows)
open_within [] x i = i
open_within (row ∷ rows) x i = kept_within row.mark row.constraint x (open_rows rows) (map (λ row. row.constraint) rows) (open_within rows x) i

pub picked_within : (rows : List Row) (ps : List ℤ) → Named rows ps → AllOpen rows ps → Within (picked rows ps) (open_rows rows)
picked_within rows [] n o x i = absurd i
picked_within rows (p ∷ ps) n o x (inl e) = subst (λ y. In y (open_rows rows)) (sym e) (open_in rows (nat_abs p) n.0.1 o.0)
picked_within rows (p ∷ ps) n o x (inr i) = picked_within rows ps n.1 o.1 x i

-- ---- the answer of check, and when it passes

pub answered : (m : Meaning) (rows : List Row) (ps : List ℤ) → Named rows ps → AllOpen rows ps → Stands m (picked rows ps) → (r : Result (Unit {0}) Refusal) → Searched m rows (picked rows ps) r → CheckAnswer m rows ps r
answered m rows ps n o s (Ok u) q = (n, (o, (s, q)))
answered m rows ps n o s (Err e) q = inr (n, inr (o, inr (s, q)))

pub admitted_open : (m : Meaning) (rows : List Row) → Admitted m (map (λ row. row.constraint) rows) → Admitted m (open_rows rows)
admitted_open m rows a = within_admitted m (open_rows rows) (map (λ row. row.constraint) rows) (open_within rows) a

module _ (m : Meaning) (laws : Laws m) (rows : List Row) (a : Admitted m (map (λ row. row.constraint) rows)) (ps : List ℤ) where
  quiet_basis : Named rows ps → AllOpen rows ps → Stands m (picked rows ps) → QuietBefore m rows (picked rows ps) (length rows) → BasisOfOpen m rows ps
  quiet_basis n o s q = record {
    named = n;
    all_open = o;
    value = whole m laws (picked rows ps) (open_rows rows) (admitted_open m rows a) (picked_within rows ps n o)
        (λ x i. let p = in_open rows x i in subst (Quiet m (picked rows ps)) (sym p.there) (q p.place p.inside p.is_open));
    stands = s;
  }

  -- no open row raises the value of a basis of the open rows
  pub quiet_in_open : BasisOfOpen m rows ps → (x : Constraint) → In x (open_rows rows) → Admitted m (x ∷ picked rows ps) × Quiet m (picked rows ps) x
  quiet_in_open b x i =
      let F = picked rows ps in
      let G = open_rows rows in
      let within : Within (x ∷ F) G = λ y. elim [ inl e ↦ subst (λ z. In z G) (sym e) i | inr j ↦ picked_within rows ps b.named b.all_open y j ] in
      let fine = within_admitted m (x ∷ F) G within (admitted_open m rows a) in (
        fine,
        laws.order.transitive (m.value (x ∷ F)) (m.value G) (m.value F)
            (laws.monotone (x ∷ F) G fine (admitted_open m rows a) within) (down m laws.order (m.value F) (m.value G) b.value),
      )

  violated_none : (p : ℤ) → FirstViolating m rows (picked rows ps) p → BasisOfOpen m rows ps → ⊥
  violated_none p f b = not_both m (m.value (picked rows ps)) (m.value (at rows p ∷ picked rows ps)) f.raises
      (quiet_in_open b (at rows p) (open_in rows (nat_abs p) f.there.1 f.open_there)).1

  pub passes : Named rows ps → AllOpen rows ps → Stands m (picked rows ps) → (r : Result (Unit {0}) Refusal) → Searched m rows (picked rows ps) r → Decides (is_ok r) (BasisOfOpen m rows ps)
  passes n o s (Ok u) q = (λ _. quiet_basis n o s q, λ _. refl)
  passes n o s (Err e) q = (λ f. absurd (false≢true f), λ b. absurd (violated_none q.0 q.2 b))

  pub check_passes : (r : Result (Unit {0}) Refusal) → CheckAnswer m rows ps r → Decides (is_ok r) (BasisOfOpen m rows ps)
  check_passes (Ok u) q = passes q.0 q.1.0 q.1.1.0 (Ok u) q.1.1.1
  check_passes (Err e) (inl q) = (λ f. absurd (false≢true f), λ b. absurd (q.1 b.named))
  check_passes (Err e) (inr (n, inl q)) = (λ f. absurd (false≢true f), λ b. absurd (q.1 b.all_open))
  check_passes (Err e) (inr (n, inr (o, inl q))) = (λ f. absurd (false≢true f), λ b. absurd (q.1 b.stands))
  check_passes (Err e) (inr (n, inr (o, inr (s, q)))) = passes n o s (Err e) q
