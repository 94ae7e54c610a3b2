-- The polynomials of specs/ once more, over the expressions of the solver: the same text with ⊕ ⊖ ⊗, a point by its two coordinates.
use Rattle.algebra.proofs.Ring.{E, ◌⊕◌, ◌⊖◌, ◌⊗◌}

abbrev pub squaresE : E → E → E
squaresE ux uy = ux ⊗ ux ⊕ uy ⊗ uy

abbrev pub from_centreE : E → E → E → E → E → E
from_centreE x y d pa pb = squaresE (d ⊗ pa ⊖ x) (d ⊗ pb ⊖ y)

abbrev pub apartE : E → E → E → E → E
apartE pa pb qa qb = squaresE (pa ⊖ qa) (pb ⊖ qb)

abbrev pub cornerE : E → E → E → E → E → E → E
cornerE pa pb qa qb ra rb = (qa ⊖ pa) ⊗ (ra ⊖ pa) ⊕ (qb ⊖ pb) ⊗ (rb ⊖ pb)

abbrev pub crossE : E → E → E → E → E
crossE ux uy vx vy = ux ⊗ vy ⊖ uy ⊗ vx

abbrev pub turnE : E → E → E → E → E → E → E
turnE pa pb qa qb ra rb = crossE (qa ⊖ pa) (qb ⊖ pb) (ra ⊖ pa) (rb ⊖ pb)

abbrev pub centre_xE : E → E → E → E → E → E → E
centre_xE pa pb qa qb ra rb = squaresE pa pb ⊗ (qb ⊖ rb) ⊕ squaresE qa qb ⊗ (rb ⊖ pb) ⊕ squaresE ra rb ⊗ (pb ⊖ qb)

abbrev pub centre_yE : E → E → E → E → E → E → E
centre_yE pa pb qa qb ra rb = squaresE pa pb ⊗ (ra ⊖ qa) ⊕ squaresE qa qb ⊗ (pa ⊖ ra) ⊕ squaresE ra rb ⊗ (qa ⊖ pa)

-- the product of the squared sides
abbrev pub sidesE : E → E → E → E → E → E → E
sidesE pa pb qa qb ra rb = apartE qa qb ra rb ⊗ apartE ra rb pa pb ⊗ apartE pa pb qa qb
