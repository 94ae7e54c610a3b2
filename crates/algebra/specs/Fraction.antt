-- Fractions of whole numbers with a denominator above 0: order and equality by cross products, sums and differences.
use Rattle.std.specs.Prelude.{◌≡◌, ℕ, suc, ◌+◌, ◌*◌, Bool, ℤ, pos, ◌+ℤ◌, ◌*ℤ◌, neg_ℤ, int_le}

-- the numerator over one more than `under`: every such pair is a fraction
pub record Fraction : Type 0 where
  pub numerator : ℤ
  pub under : ℕ

abbrev pub denominator : Fraction → ℤ
denominator p = pos (suc p.under)

-- a whole number as a fraction
abbrev pub whole : ℤ → Fraction
whole n = record { numerator = n; under = 0 }

-- the first is at most the second
abbrev pub frac_le : Fraction → Fraction → Bool
frac_le p q = int_le (p.numerator *ℤ denominator q) (q.numerator *ℤ denominator p)

-- the two are equal numbers
abbrev pub frac_same : Fraction → Fraction → Type 0
frac_same p q = p.numerator *ℤ denominator q ≡ q.numerator *ℤ denominator p

-- (m + 1) · (n + 1) is one more than m · n + m + n
abbrev pub frac_add : Fraction → Fraction → Fraction
frac_add p q = record {
  numerator = p.numerator *ℤ denominator q +ℤ q.numerator *ℤ denominator p;
  under = p.under * q.under + p.under + q.under;
}

abbrev pub frac_neg : Fraction → Fraction
frac_neg p = record { numerator = neg_ℤ p.numerator; under = p.under }

abbrev pub frac_sub : Fraction → Fraction → Fraction
frac_sub p q = frac_add p (frac_neg q)
