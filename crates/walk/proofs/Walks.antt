-- Every walk keeps a basis that names open rows and stands, goes on only so long, and ends at a basis of the open rows.
use Rattle.std.proofs.Common.{◌≡◌, ℕ, suc, ◌+◌, ◌-◌, ◌*◌, ◌<◌, ◌≤◌, true, eqb, List, [], ◌∷◌, length, get_or, take, drop, ℤ, pos, Ok, sym, refl, ap, ◌∙◌, subst, ⊎_elim, arith, length-drop, length-take, get_or-drop, get_or-take, below_more}
use Rattle.std.specs.List.{AllByRecursion}
use Rattle.std.proofs.ByRecursion.{All-get_or, All-from_get_or}
use Rattle.std.proofs.lemmas.List.{take-take, drop-drop}
use Rattle.std.proofs.lemmas.Int.{ints}
use Rattle.std.proofs.lemmas.Bool.{or_cases, eqb-true, false≢true}
use Rattle.rows.specs.Row.{HasRow, Named, AllOpen, row_at, at, picked, no_row}
use Rattle.rows.specs.declared.row.Row.{Row}
use Rattle.rows.specs.declared.row.Mark.{Mark}
use Rattle.rows.specs.declared.row.Mark.TheVariants.{Open, Struck}
use Rattle.lptype.specs.Meaning.{Meaning, Quiet}
use Rattle.lptype.specs.Laws.{Laws}
use Rattle.lptype.proofs.Inside.{all_within}
use Rattle.lptype.proofs.Order.{down, less_le}
use Rattle.lptype.proofs.Standing.{short}
use Rattle.checking.specs.Filed.{OnOpen, AllBelow, occurs, Covers}
use Rattle.checking.specs.Checking.{QuietBefore, BasisOfOpen, open_rows}
use Rattle.walk.specs.Walks.{position, Walked, begin, pass, hold, exchange, visits, WalkEnds, WalkReady, QuietUntil, Underway, WalkLaw}
use Rattle.walk.specs.Steps.{StepAnswer, counted, next_place, left_after}
use Rattle.walk.specs.declared.walking.Counts.{Counts}
use Rattle.walk.specs.declared.walking.Step.{Step}
use Rattle.walk.specs.declared.walking.Step.TheVariants.{Passed, Kept, Changed}
use Rattle.checking.proofs.Opening.{opens, opened}
use Rattle.checking.proofs.Passing.{passes, picked_within}
use Rattle.checking.proofs.Admitting.{admitted_picked}
use Rattle.walk.proofs.Rank.{rank, rank_falls, turn_falls}

open_not_struck : (mark : Mark) → mark ≡ Struck → mark ≡ Open → ⊥
open_not_struck mark e f = let z : ◌≡◌ {A = ℕ} 0 1 = cc in absurd (omega arith)

occurs_at : (k : ℕ) (xs : List ℕ) → occurs k xs ≡ true → (i : ℕ) × (i < length xs) × (get_or xs i 0 ≡ k)
occurs_at k [] e = absurd (false≢true e)
occurs_at k (x ∷ xs) e = ⊎_elim
    (λ h. (0, omega arith, eqb-true x k h))
    (λ h. let r = occurs_at k xs h in (suc r.0, omega (arith, r.1), r.2))
    (or_cases (eqb x k) (occurs k xs) e)

pub on_open : (rows : List Row) (ps : List ℤ) → OnOpen rows ps → Named rows ps × AllOpen rows ps
on_open rows ps f = (
  All-from_get_or (HasRow rows) ps (pos 0) (λ k l. (opens rows (get_or ps k (pos 0)) (f k l)).0),
  All-from_get_or (λ p. (row_at rows p).mark ≡ Open) ps (pos 0) (λ k l. (opens rows (get_or ps k (pos 0)) (f k l)).1),
)

pub open_on : (rows : List Row) (ps : List ℤ) → Named rows ps → AllOpen rows ps → OnOpen rows ps
open_on rows ps n o k l =
    opened rows (get_or ps k (pos 0)) (All-get_or (HasRow rows) ps k (pos 0) l n) (All-get_or (λ p. (row_at rows p).mark ≡ Open) ps k (pos 0) l o)

-- the part of a longer order that is in use
module _ (order : List ℕ) (n : ℕ) where
  pub front_below : AllBelow order n → AllByRecursion (λ k. k < n) (take n order)
  front_below b = All-from_get_or (λ k. k < n) (take n order) 0 (λ i l.
      let h : i < n = omega (arith, length-take n order) in
      subst (λ (k : ℕ). k < n) (sym (get_or-take n order i 0 h)) (b i h))

  pub front_covers : Covers order n → Covers (take n order) n
  front_covers c k l = subst (λ xs. occurs k xs ≡ true) (sym (take-take n n order (omega arith))) (c k l)

-- what is left to do at most, from a place with a basis
abbrev pub left : (m : Meaning) → List Row → List ℕ → ℕ → List ℤ → ℕ
left m rows order i ps = rank m (open_rows rows) (m.value (picked rows ps)) * (length order + 1) + (length order - i)

-- one turn of the loop: the walk goes on, and less is left
pub record Turned (m : Meaning) (rows : List Row) (order : List ℕ) (start : List ℤ) (i i' : ℕ) (c' : Counts) (ps after : List ℤ) : Type 0 where
  pub walked : Walked m rows order start i' after c'.tests c'.exchanges
  pub less : left m rows order i' after < left m rows order i ps

module _ (m : Meaning) (laws : Laws m) (rows : List Row) (order : List ℕ) (start : List ℤ) (ready : WalkReady m rows order start) where
  pub place_below : (i : ℕ) → i < length order → get_or order i 0 < length rows
  place_below i l = All-get_or (λ k. k < length rows) order i 0 l ready.below

  has_row : (i : ℕ) → i < length order → HasRow rows (position order i)
  has_row i l = (omega (arith, ints), place_below i l)

  -- one place on with the same basis
  further : {i : ℕ} {ps : List ℤ} → Underway m rows order i ps → i < length order
      → ((row_at rows (position order i)).mark ≡ Open → Quiet m (picked rows ps) (at rows (position order i))) → Underway m rows order (i + 1) ps
  further u l q = record {
    inside = omega arith;
    named = u.named;
    all_open = u.all_open;
    stands = u.stands;
    quiet = below_more _ _ u.quiet q;
  }

  pub underway : {i t x : ℕ} {ps : List ℤ} → Walked m rows order start i ps t x → Underway m rows order i ps
  underway begin = record {
    inside = omega arith;
    named = (on_open rows start ready.filed).0;
    all_open = (on_open rows start ready.filed).1;
    stands = ready.stands;
    quiet = λ k l. absurd (omega arith);
  }
  underway (pass w l e) = further (underway w) l (λ o. absurd (open_not_struck _ e o))
  underway (hold w l e q) = further (underway w) l (λ _. q)
  underway (exchange {i = i} {ps = ps} {after = after} w l e q x) = let u = underway w in record {
    inside = omega arith;
    named = all_within (HasRow rows) after (position order i ∷ ps) x.from (has_row i l, u.named);
    all_open = all_within (λ p. (row_at rows p).mark ≡ Open) after (position order i ∷ ps) x.from (e, u.all_open);
    stands = x.stands;
    quiet = λ k j. absurd (omega arith);
  }

  quiet_rows : (ps : List ℤ) → Covers order (length rows) → QuietUntil m rows order (picked rows ps) (length order) → QuietBefore m rows (picked rows ps) (length rows)
  quiet_rows ps c q k l =
      let n = length rows in
      let r = occurs_at k (take n order) (c k l) in
      let i = r.0 in
      let j : i < length order = omega (arith, r.1, length-take n order) in
      let h : i < n = omega (arith, r.1, length-take n order) in
      let e : get_or order i 0 ≡ k = sym (get_or-take n order i 0 h) ∙ r.2 in
      subst (λ (p : ℕ). (get_or rows p no_row).mark ≡ Open → Quiet m (picked rows ps) (get_or rows p no_row).constraint) e (q i j)

  walk_basis : {t x : ℕ} (ps : List ℤ) → Covers order (length rows) → WalkEnds m rows order start ps t x → BasisOfOpen m rows ps
  walk_basis ps c w =
      let u = underway w in
      (passes m laws rows ready.admitted ps u.named u.all_open u.stands (Ok tt) (quiet_rows ps c u.quiet)).0 refl

  -- a step of the code is a step of the relation, and less is left after it
  walked_step : (i : ℕ) (c : Counts) (ps after : List ℤ) (s : Step) → Walked m rows order start i ps c.tests c.exchanges → i < length order
      → StepAnswer m rows ps (position order i) after s → Walked m rows order start (next_place s i) after (counted s c).tests (counted s c).exchanges
  walked_step i c ps after Passed w l a = subst (λ qs. Walked m rows order start (i + 1) qs c.tests c.exchanges) (sym a.1) (pass w l a.0)
  walked_step i c ps after Kept w l a = subst (λ qs. Walked m rows order start (i + 1) qs (counted Kept c).tests c.exchanges) (sym a.2) (hold w l a.0 a.1)
  walked_step i c ps after Changed w l a = exchange w l a.0 a.1 a.2

  left_falls : (i : ℕ) (c : Counts) (ps after : List ℤ) (s : Step) → Walked m rows order start i ps c.tests c.exchanges → i < length order
      → StepAnswer m rows ps (position order i) after s → left m rows order (next_place s i) after < left m rows order i ps
  left_falls i c ps after Passed w l a = subst (λ qs. left m rows order (i + 1) qs < left m rows order i ps) (sym a.1) (omega arith)
  left_falls i c ps after Kept w l a = subst (λ qs. left m rows order (i + 1) qs < left m rows order i ps) (sym a.2) (omega arith)
  left_falls i c ps after Changed w l a =
      let u = underway (exchange w l a.0 a.1 a.2) in
      let B = picked rows after in
      let v = m.value (picked rows ps) in
      let h = m.value (picked rows (position order i ∷ ps)) in
      turn_falls (length order) i (rank m (open_rows rows) v) (rank m (open_rows rows) (m.value B))
      (rank_falls m laws.order (open_rows rows) B v
      (short m laws B (admitted_picked m rows ready.admitted after u.named) u.stands)
      (picked_within rows after u.named u.all_open)
      (less_le m laws.order v h (m.value B) a.1 (down m laws.order (m.value B) h a.2.same)))

  visits_left : {i t x : ℕ} {ps : List ℤ} (w : Walked m rows order start i ps t x) → visits w + left m rows order i ps ≤ left m rows order 0 start
  visits_left begin = omega arith
  visits_left (pass {i = i} {t = t} {x = x} {ps = ps} w l e) =
      omega (arith, visits_left w, left_falls i (record { tests = t; exchanges = x }) ps ps Passed w l (e, refl))
  visits_left (hold {i = i} {t = t} {x = x} {ps = ps} w l e q) =
      omega (arith, visits_left w, left_falls i (record { tests = t; exchanges = x }) ps ps Kept w l (e, q, refl))
  visits_left (exchange {i = i} {t = t} {x = x} {ps = ps} {after = after} w l e r c) =
      omega (arith, visits_left w, left_falls i (record { tests = t; exchanges = x }) ps after Changed w l (e, r, c))

  pub walk_law : WalkLaw m rows order start
  walk_law = record {
    underway = λ i t x ps w. underway w;
    ends = λ t x ps c w. walk_basis ps c w;
    bounded = (left m rows order 0 start, λ i t x ps w. omega (arith, visits_left w));
  }

  pub turned : (i i' : ℕ) (c c' : Counts) (ps after : List ℤ) (s : Step) → Walked m rows order start i ps c.tests c.exchanges → i < length order
      → StepAnswer m rows ps (position order i) after s → c' ≡ counted s c → i' ≡ next_place s i → Turned m rows order start i i' c' ps after
  turned i i' c c' ps after s w l a e f = record {
    walked = subst (λ (j : ℕ). Walked m rows order start j after c'.tests c'.exchanges) (sym f)
        (subst (λ d. Walked m rows order start (next_place s i) after d.tests d.exchanges) (sym e) (walked_step i c ps after s w l a));
    less = subst (λ (j : ℕ). left m rows order j after < left m rows order i ps) (sym f) (left_falls i c ps after s w l a);
  }

-- ---- the part of the order that is left

-- a walk with so much of its order left: it is at the place where that begins
pub record Leaves (m : Meaning) (rows : List Row) (order : List ℕ) (start : List ℤ) (rest : List ℕ) (ps : List ℤ) (t x : ℕ) : Type 0 where
  pub place : ℕ
  pub from_there : rest ≡ drop place order
  pub walked : Walked m rows order start place ps t x

module _ (order rest later : List ℕ) (i : ℕ) (e : rest ≡ drop i order) where
  -- a step moves to the next place, or back to the first
  pub left_next : later ≡ drop 1 rest → (s : Step) → left_after s order later ≡ drop (next_place s i) order
  left_next f Passed = f ∙ ap (drop 1) e ∙ drop-drop 1 i order
  left_next f Kept = f ∙ ap (drop 1) e ∙ drop-drop 1 i order
  left_next f Changed = refl

module _ (order rest : List ℕ) (i : ℕ) (e : rest ≡ drop i order) where
  length_left : length rest ≡ length order - i
  length_left = ap length e ∙ length-drop i order

  -- where something is left, the place is one of the order, and holds what comes first
  pub inside_left : 1 ≤ length rest → i < length order
  inside_left l = omega (arith, length_left)

  pub first_left : get_or rest 0 0 ≡ get_or order i 0
  first_left = ap (λ xs. get_or xs 0 0) e ∙ get_or-drop i order 0 0 ∙ ap (λ (k : ℕ). get_or order k 0) (omega arith)

  -- the place by what is left
  pub place_left : i ≤ length order → length order - length rest ≡ i
  place_left l = omega (arith, length_left)
