-- Points of the plane with whole coordinates: distances, corners, turns, and the circle through three points.
use Rattle.std.specs.Prelude.{◌≡◌, ℤ, pos, ◌+ℤ◌, ◌-ℤ◌, ◌*ℤ◌, ◌<ℤ◌}
use Rattle.rows.specs.declared.row.Constraint.{Constraint}

-- |u|² of a vector u
abbrev pub squares : ℤ → ℤ → ℤ
squares ux uy = ux *ℤ ux +ℤ uy *ℤ uy

-- u · v of two vectors
abbrev pub dot : ℤ → ℤ → ℤ → ℤ → ℤ
dot ux uy vx vy = ux *ℤ vx +ℤ uy *ℤ vy

-- u × v of two vectors
abbrev pub cross : ℤ → ℤ → ℤ → ℤ → ℤ
cross ux uy vx vy = ux *ℤ vy -ℤ uy *ℤ vx

-- |p − q|²
abbrev pub apart : Constraint → Constraint → ℤ
apart p q = squares (p.a -ℤ q.a) (p.b -ℤ q.b)

-- the dot product at the corner p: (q − p) · (r − p)
abbrev pub corner : Constraint → Constraint → Constraint → ℤ
corner p q r = dot (q.a -ℤ p.a) (q.b -ℤ p.b) (r.a -ℤ p.a) (r.b -ℤ p.b)

-- (q − p) × (r − p): above 0 where p, q, r turn to the left
abbrev pub turn : Constraint → Constraint → Constraint → ℤ
turn p q r = cross (q.a -ℤ p.a) (q.b -ℤ p.b) (r.a -ℤ p.a) (r.b -ℤ p.b)

-- the points of two rows differ
abbrev pub Differ : Constraint → Constraint → Type 0
Differ p q = ¬ ((p.a ≡ q.a) × (p.b ≡ q.b))

-- all three corner dot products are positive
pub record Acute (p q r : Constraint) : Type 0 where
  pub at_p : pos 0 <ℤ corner p q r
  pub at_q : pos 0 <ℤ corner q r p
  pub at_r : pos 0 <ℤ corner r p q

-- |u|²(v × t)
abbrev pub weighted : ℤ → ℤ → ℤ → ℤ → ℤ → ℤ → ℤ
weighted ux uy vx vy tx ty = squares ux uy *ℤ cross vx vy tx ty

-- |u|²(v × t) + |v|²(t × u) + |t|²(u × v), with u, v and t the vectors from h to p, q and r
abbrev pub power : Constraint → Constraint → Constraint → Constraint → ℤ
power p q r h =
    weighted (p.a -ℤ h.a) (p.b -ℤ h.b) (q.a -ℤ h.a) (q.b -ℤ h.b) (r.a -ℤ h.a) (r.b -ℤ h.b)
    +ℤ weighted (q.a -ℤ h.a) (q.b -ℤ h.b) (r.a -ℤ h.a) (r.b -ℤ h.b) (p.a -ℤ h.a) (p.b -ℤ h.b)
    +ℤ weighted (r.a -ℤ h.a) (r.b -ℤ h.b) (p.a -ℤ h.a) (p.b -ℤ h.b) (q.a -ℤ h.a) (q.b -ℤ h.b)

-- the centre of the circle through p, q and r by Cramer's rule: each of the two over 2 (q − p) × (r − p)
abbrev pub centre_x : Constraint → Constraint → Constraint → ℤ
centre_x p q r = squares p.a p.b *ℤ (q.b -ℤ r.b) +ℤ squares q.a q.b *ℤ (r.b -ℤ p.b) +ℤ squares r.a r.b *ℤ (p.b -ℤ q.b)

abbrev pub centre_y : Constraint → Constraint → Constraint → ℤ
centre_y p q r = squares p.a p.b *ℤ (r.a -ℤ q.a) +ℤ squares q.a q.b *ℤ (p.a -ℤ r.a) +ℤ squares r.a r.b *ℤ (q.a -ℤ p.a)
