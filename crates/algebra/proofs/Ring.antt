-- A solver for identities of whole numbers: two expressions that are one polynomial are equal at all whole numbers.
-- Each expression has a normal form, a sorted list of terms (key, coefficient); `solve` says that the two sides are equal
-- where the normal form of their difference has no term. A key is one number whose digits to base 32 are the exponents,
-- so that monomials multiply by one sum and compare by one test. `left` also tests that the degree stays below 32.
use Rattle.std.proofs.Common.{◌≡◌, ℕ, zero, suc, ◌+◌, ◌/◌, ◌%◌, ◌^◌, ◌<◌, ◌≤◌, max, Bool, true, false, T, eqb, ltb, List, [], ◌∷◌, ℤ, pos, negsuc, ◌+ℤ◌, ◌-ℤ◌, ◌*ℤ◌, neg_ℤ, sym, refl, ap, ◌∙◌, subst, suc-add, zero-add, arith, eqb→eq, ltb→lt}
use Prim.Native.Nat.{compare, Ordering}
use native.Mathlib.Nat.{pow-succ'}
use Rattle.std.proofs.lemmas.Int.{ints}
use lib.Dec.{compare_is_eq}
use lib.IntN.{+ℤ_assoc, +ℤ_idl, +ℤ_idr, *ℤ_comm, zero-*ℤ, *ℤ-zero}
use Rattle.algebra.proofs.Laws.{*-assoc, *-distl, *-distr, one-*, *-one, neg_is_mul}

-- expressions

infixl 6 ◌⊕◌ ◌⊖◌
infixl 7 ◌⊗◌
pub data E : Type 0 where
  var : ℕ → E
  lit : ℤ → E
  ◌⊕◌ : E → E → E
  ◌⊖◌ : E → E → E
  ◌⊗◌ : E → E → E
  ⊝ : E → E

-- a literal that is not negative
abbrev pub num : ℕ → E
num n = lit (pos n)

abbrev pub lookup : List ℤ → ℕ → ℤ
lookup [] i = pos 1
lookup (x ∷ xs) zero = x
lookup (x ∷ xs) (suc i) = lookup xs i

abbrev pub eval : List ℤ → E → ℤ
eval ρ (var i) = lookup ρ i
eval ρ (lit c) = c
eval ρ (a ⊕ b) = eval ρ a +ℤ eval ρ b
eval ρ (a ⊖ b) = eval ρ a -ℤ eval ρ b
eval ρ (a ⊗ b) = eval ρ a *ℤ eval ρ b
eval ρ (⊝ a) = neg_ℤ (eval ρ a)

-- normal forms

pub data P : Type 0 where
  none : P
  term : ℕ → ℤ → P → P

abbrev pub nz : ℕ → ℤ → P → P
nz m (pos n) p = elim (eqb n 0) [ true ↦ p | false ↦ term m (pos n) p ]
nz m (negsuc n) p = term m (negsuc n) p

-- one term, and what is left to be added by r, into q
abbrev pub ins : ℕ → ℤ → P → (P → P) → P → P
ins m c p r none = term m c p
ins m c p r (term l d q) = elim (compare m l) [ Ordering.lt ↦ term m c (r (term l d q)) | Ordering.eq ↦ nz m (c +ℤ d) (r q) | Ordering.gt ↦ term l d (ins m c p r q) ]

abbrev pub add : P → P → P
add none q = q
add (term m c p) q = ins m c p (add p) q

abbrev pub scale : ℕ → ℤ → P → P
scale m c none = none
scale m c (term l d q) = term (m + l) (c *ℤ d) (scale m c q)

abbrev pub mul : P → P → P
mul none q = none
mul (term m c p) q = add (scale m c q) (mul p q)

abbrev pub norm : E → P
norm (var i) = term (32 ^ i) (pos 1) none
norm (lit c) = nz 0 c none
norm (a ⊕ b) = add (norm a) (norm b)
norm (a ⊖ b) = add (norm a) (scale 0 (negsuc 0) (norm b))
norm (a ⊗ b) = mul (norm a) (norm b)
norm (⊝ a) = scale 0 (negsuc 0) (norm a)

abbrev pub degree : E → ℕ
degree (var i) = 1
degree (lit c) = 0
degree (a ⊕ b) = max (degree a) (degree b)
degree (a ⊖ b) = max (degree a) (degree b)
degree (a ⊗ b) = degree a + degree b
degree (⊝ a) = degree a

-- what a normal form means

power : ℤ → ℕ → ℤ
power x zero = pos 1
power x (suc n) = x *ℤ power x n

mono : List ℤ → ℕ → ℤ
mono [] m = pos 1
mono (x ∷ xs) m = power x (m % 32) *ℤ mono xs (m / 32)

value : List ℤ → P → ℤ
value ρ none = pos 0
value ρ (term m c p) = c *ℤ mono ρ m +ℤ value ρ p

-- sums

nz_is : (ρ : List ℤ) (m : ℕ) (c : ℤ) (p : P) → value ρ (nz m c p) ≡ c *ℤ mono ρ m +ℤ value ρ p
unfolding value
nz_is ρ m (pos n) p = go (eqb n 0) refl
  where
    go : (b : Bool) → eqb n 0 ≡ b → value ρ (elim b [ true ↦ p | false ↦ term m (pos n) p ]) ≡ pos n *ℤ mono ρ m +ℤ value ρ p
    go true e = sym (ap (λ (x : ℕ). pos x *ℤ mono ρ m +ℤ value ρ p) (eqb→eq n 0 (subst T (sym e) tt)) ∙ ap (λ (x : ℤ). x +ℤ value ρ p) (zero-*ℤ (mono ρ m)) ∙ +ℤ_idl (value ρ p))
    go false e = refl
nz_is ρ m (negsuc n) p = refl

lt_sum : (x p q w : ℤ) → w ≡ p +ℤ q → x +ℤ w ≡ x +ℤ p +ℤ q
lt_sum x p q w e = ap (λ (z : ℤ). x +ℤ z) e ∙ sym (+ℤ_assoc x p q)

gt_sum : (x y q w : ℤ) → w ≡ x +ℤ q → y +ℤ w ≡ x +ℤ (y +ℤ q)
gt_sum x y q w e = omega (arith, ints)

eq_sum : (x y z p q w : ℤ) → z ≡ x +ℤ y → w ≡ p +ℤ q → z +ℤ w ≡ x +ℤ p +ℤ (y +ℤ q)
eq_sum x y z p q w e f = omega (arith, ints)

ins_is : (ρ : List ℤ) (m : ℕ) (c : ℤ) (p : P) (r : P → P) → ((q : P) → value ρ (r q) ≡ value ρ p +ℤ value ρ q) → (q : P) → value ρ (ins m c p r q) ≡ c *ℤ mono ρ m +ℤ value ρ p +ℤ value ρ q
unfolding value
ins_is ρ m c p r h none = sym (+ℤ_idr (c *ℤ mono ρ m +ℤ value ρ p))
ins_is ρ m c p r h (term l d q) = go (compare m l) refl (ins_is ρ m c p r h q)
  where
    go : (b : Ordering) → compare m l ≡ b → value ρ (ins m c p r q) ≡ c *ℤ mono ρ m +ℤ value ρ p +ℤ value ρ q →
        value ρ (elim b [ Ordering.lt ↦ term m c (r (term l d q)) | Ordering.eq ↦ nz m (c +ℤ d) (r q) | Ordering.gt ↦ term l d (ins m c p r q) ]) ≡ c *ℤ mono ρ m +ℤ value ρ p +ℤ value ρ (term l d q)
    go Ordering.lt e i = lt_sum (c *ℤ mono ρ m) (value ρ p) (value ρ (term l d q)) (value ρ (r (term l d q))) (h (term l d q))
    go Ordering.eq e i = nz_is ρ m (c +ℤ d) (r q)
        ∙ eq_sum (c *ℤ mono ρ m) (d *ℤ mono ρ l) ((c +ℤ d) *ℤ mono ρ m) (value ρ p) (value ρ q) (value ρ (r q))
        (*-distr c d (mono ρ m) ∙ ap (λ (x : ℕ). c *ℤ mono ρ m +ℤ d *ℤ mono ρ x) (eqb→eq m l (subst (λ (x : Ordering). T (compare_is_eq x)) (sym e) tt)))
        (h q)
    go Ordering.gt e i = gt_sum (c *ℤ mono ρ m +ℤ value ρ p) (d *ℤ mono ρ l) (value ρ q) (value ρ (ins m c p r q)) i

add_is : (ρ : List ℤ) (p q : P) → value ρ (add p q) ≡ value ρ p +ℤ value ρ q
unfolding value
add_is ρ none q = sym (+ℤ_idl (value ρ q))
add_is ρ (term m c p) q = ins_is ρ m c p (add p) (add_is ρ p) q

-- products: no digit of a key overflows

abbrev DigitsFit : List ℤ → ℕ → ℕ → Type 0
DigitsFit [] d m = Unit {0}
DigitsFit (x ∷ xs) d m = (m % 32 ≤ d) × DigitsFit xs d (m / 32)

abbrev AllFit : List ℤ → ℕ → P → Type 0
AllFit ρ d none = Unit {0}
AllFit ρ d (term m c p) = DigitsFit ρ d m × AllFit ρ d p

pow_add : (x : ℤ) (a b : ℕ) → power x (a + b) ≡ power x a *ℤ power x b
unfolding power
pow_add x zero b = ap (power x) (zero-add b) ∙ sym (one-* (power x b))
pow_add x (suc a) b = ap (power x) (suc-add a b) ∙ ap (λ (y : ℤ). x *ℤ y) (pow_add x a b) ∙ sym (*-assoc x (power x a) (power x b))

low : (m n d e : ℕ) → m % 32 ≤ d → n % 32 ≤ e → d + e < 32 → (m + n) % 32 ≡ m % 32 + n % 32
low m n d e f g h = omega arith

high : (m n d e : ℕ) → m % 32 ≤ d → n % 32 ≤ e → d + e < 32 → (m + n) / 32 ≡ m / 32 + n / 32
high m n d e f g h = omega arith

swap_mid : (a b c d : ℤ) → a *ℤ b *ℤ (c *ℤ d) ≡ a *ℤ c *ℤ (b *ℤ d)
swap_mid a b c d = *-assoc a b (c *ℤ d) ∙ ap (λ (x : ℤ). a *ℤ x) (sym (*-assoc b c d) ∙ ap (λ (x : ℤ). x *ℤ d) (*ℤ_comm b c) ∙ *-assoc c b d) ∙ sym (*-assoc a c (b *ℤ d))

mono_add : (ρ : List ℤ) (d e m n : ℕ) → DigitsFit ρ d m → DigitsFit ρ e n → d + e < 32 → (mono ρ (m + n) ≡ mono ρ m *ℤ mono ρ n) × DigitsFit ρ (d + e) (m + n)
unfolding mono
mono_add [] d e m n f g h = (sym (one-* (pos 1)), tt)
mono_add (x ∷ xs) d e m n f g h =
    let l : (m + n) % 32 ≡ m % 32 + n % 32 = low m n d e f.0 g.0 h in
    let u : (m + n) / 32 ≡ m / 32 + n / 32 = high m n d e f.0 g.0 h in
    let i : (mono xs (m / 32 + n / 32) ≡ mono xs (m / 32) *ℤ mono xs (n / 32)) × DigitsFit xs (d + e) (m / 32 + n / 32) = mono_add xs d e (m / 32) (n / 32) f.1 g.1 h in (
      ap (λ (y : ℕ). power x y *ℤ mono xs ((m + n) / 32)) l ∙ ap (λ (y : ℕ). power x (m % 32 + n % 32) *ℤ mono xs y) u
          ∙ ap (λ (y : ℤ). y *ℤ mono xs (m / 32 + n / 32)) (pow_add x (m % 32) (n % 32)) ∙ ap (λ (y : ℤ). power x (m % 32) *ℤ power x (n % 32) *ℤ y) i.0
          ∙ swap_mid (power x (m % 32)) (power x (n % 32)) (mono xs (m / 32)) (mono xs (n / 32)),
      (omega (arith, f.0, g.0), subst (λ (y : ℕ). DigitsFit xs (d + e) y) (sym u) i.1),
    )

mono_zero : (ρ : List ℤ) (d : ℕ) → (mono ρ 0 ≡ pos 1) × DigitsFit ρ d 0
unfolding mono power
mono_zero [] d = (refl, tt)
mono_zero (x ∷ xs) d = (one-* (mono xs 0) ∙ (mono_zero xs d).0, (omega arith, (mono_zero xs d).1))

mono_var : (ρ : List ℤ) (i : ℕ) → (mono ρ (32 ^ i) ≡ lookup ρ i) × DigitsFit ρ 1 (32 ^ i)
unfolding mono power
mono_var [] i = (refl, tt)
mono_var (x ∷ xs) zero = (ap (λ (y : ℤ). x *ℤ pos 1 *ℤ y) (mono_zero xs 1).0 ∙ *-one (x *ℤ pos 1) ∙ *-one x, (omega arith, (mono_zero xs 1).1))
mono_var (x ∷ xs) (suc i) =
    let l : 32 ^ suc i % 32 ≡ 0 = ap (λ (y : ℕ). y % 32) (pow-succ' 32 i) ∙ omega arith in
    let u : 32 ^ suc i / 32 ≡ 32 ^ i = ap (λ (y : ℕ). y / 32) (pow-succ' 32 i) ∙ omega arith in (
      ap (λ (y : ℕ). power x y *ℤ mono xs (32 ^ suc i / 32)) l ∙ ap (λ (y : ℕ). pos 1 *ℤ mono xs y) u ∙ one-* (mono xs (32 ^ i)) ∙ (mono_var xs i).0,
      (omega (arith, l), subst (λ (y : ℕ). DigitsFit xs 1 y) (sym u) (mono_var xs i).1),
    )

fits_more : (ρ : List ℤ) (d e m : ℕ) → d ≤ e → DigitsFit ρ d m → DigitsFit ρ e m
fits_more [] d e m h f = tt
fits_more (x ∷ xs) d e m h f = (omega (arith, f.0), fits_more xs d e (m / 32) h f.1)

all_more : (ρ : List ℤ) (d e : ℕ) → d ≤ e → (p : P) → AllFit ρ d p → AllFit ρ e p
all_more ρ d e h none f = tt
all_more ρ d e h (term m c p) f = (fits_more ρ d e m h f.0, all_more ρ d e h p f.1)

nz_all : (ρ : List ℤ) (d m : ℕ) (c : ℤ) (p : P) → DigitsFit ρ d m → AllFit ρ d p → AllFit ρ d (nz m c p)
nz_all ρ d m (pos n) p f g = go (eqb n 0)
  where
    go : (b : Bool) → AllFit ρ d (elim b [ true ↦ p | false ↦ term m (pos n) p ])
    go true = g
    go false = (f, g)
nz_all ρ d m (negsuc n) p f g = (f, g)

ins_all : (ρ : List ℤ) (d m : ℕ) (c : ℤ) (p : P) (r : P → P) → DigitsFit ρ d m → AllFit ρ d p → ((q : P) → AllFit ρ d q → AllFit ρ d (r q)) → (q : P) → AllFit ρ d q → AllFit ρ d (ins m c p r q)
ins_all ρ d m c p r f a h none g = (f, a)
ins_all ρ d m c p r f a h (term l b q) g = go (compare m l) (ins_all ρ d m c p r f a h q g.1)
  where
    go : (x : Ordering) → AllFit ρ d (ins m c p r q) → AllFit ρ d (elim x [ Ordering.lt ↦ term m c (r (term l b q)) | Ordering.eq ↦ nz m (c +ℤ b) (r q) | Ordering.gt ↦ term l b (ins m c p r q) ])
    go Ordering.lt i = (f, h (term l b q) g)
    go Ordering.eq i = nz_all ρ d m (c +ℤ b) (r q) f (h q g.1)
    go Ordering.gt i = (g.0, i)

add_all : (ρ : List ℤ) (d : ℕ) (p q : P) → AllFit ρ d p → AllFit ρ d q → AllFit ρ d (add p q)
add_all ρ d none q f g = g
add_all ρ d (term m c p) q f g = ins_all ρ d m c p (add p) f.0 f.1 (λ x h. add_all ρ d p x f.1 h) q g

scale_is : (ρ : List ℤ) (d e m : ℕ) (c : ℤ) → DigitsFit ρ d m → d + e < 32 → (q : P) → AllFit ρ e q → (value ρ (scale m c q) ≡ c *ℤ mono ρ m *ℤ value ρ q) × AllFit ρ (d + e) (scale m c q)
unfolding value
scale_is ρ d e m c f h none g = (sym (*ℤ-zero (c *ℤ mono ρ m)), tt)
scale_is ρ d e m c f h (term l b q) g =
    let i : (value ρ (scale m c q) ≡ c *ℤ mono ρ m *ℤ value ρ q) × AllFit ρ (d + e) (scale m c q) = scale_is ρ d e m c f h q g.1 in
    let j : (mono ρ (m + l) ≡ mono ρ m *ℤ mono ρ l) × DigitsFit ρ (d + e) (m + l) = mono_add ρ d e m l f g.0 h in (
      ap (λ (y : ℤ). c *ℤ b *ℤ mono ρ (m + l) +ℤ y) i.0 ∙ ap (λ (y : ℤ). c *ℤ b *ℤ y +ℤ c *ℤ mono ρ m *ℤ value ρ q) j.0
          ∙ ap (λ (y : ℤ). y +ℤ c *ℤ mono ρ m *ℤ value ρ q) (swap_mid c b (mono ρ m) (mono ρ l))
          ∙ sym (*-distl (c *ℤ mono ρ m) (b *ℤ mono ρ l) (value ρ q)),
      (j.1, i.1),
    )

mul_is : (ρ : List ℤ) (d e : ℕ) → d + e < 32 → (p q : P) → AllFit ρ d p → AllFit ρ e q → (value ρ (mul p q) ≡ value ρ p *ℤ value ρ q) × AllFit ρ (d + e) (mul p q)
unfolding value
mul_is ρ d e h none q f g = (sym (zero-*ℤ (value ρ q)), tt)
mul_is ρ d e h (term m c p) q f g =
    let i : (value ρ (mul p q) ≡ value ρ p *ℤ value ρ q) × AllFit ρ (d + e) (mul p q) = mul_is ρ d e h p q f.1 g in
    let j : (value ρ (scale m c q) ≡ c *ℤ mono ρ m *ℤ value ρ q) × AllFit ρ (d + e) (scale m c q) = scale_is ρ d e m c f.0 h q g in (
      add_is ρ (scale m c q) (mul p q) ∙ ap (λ (y : ℤ). y +ℤ value ρ (mul p q)) j.0 ∙ ap (λ (y : ℤ). c *ℤ mono ρ m *ℤ value ρ q +ℤ y) i.0
          ∙ sym (*-distr (c *ℤ mono ρ m) (value ρ p) (value ρ q)),
      add_all ρ (d + e) (scale m c q) (mul p q) j.1 i.1,
    )

neg_value : (ρ : List ℤ) (d : ℕ) → d < 32 → (q : P) → AllFit ρ d q → (value ρ (scale 0 (negsuc 0) q) ≡ neg_ℤ (value ρ q)) × AllFit ρ d (scale 0 (negsuc 0) q)
neg_value ρ d h q f =
    let j : (value ρ (scale 0 (negsuc 0) q) ≡ negsuc 0 *ℤ mono ρ 0 *ℤ value ρ q) × AllFit ρ (0 + d) (scale 0 (negsuc 0) q) = scale_is ρ 0 d 0 (negsuc 0) (mono_zero ρ 0).1 (omega arith) q f in (
      j.0 ∙ ap (λ (y : ℤ). negsuc 0 *ℤ y *ℤ value ρ q) (mono_zero ρ 0).0 ∙ neg_is_mul (value ρ q),
      subst (λ (y : ℕ). AllFit ρ y (scale 0 (negsuc 0) q)) (zero-add d) j.1,
    )

sound : (ρ : List ℤ) (e : E) → degree e < 32 → (value ρ (norm e) ≡ eval ρ e) × AllFit ρ (degree e) (norm e)
unfolding value
sound ρ (var i) h = (+ℤ_idr (pos 1 *ℤ mono ρ (32 ^ i)) ∙ one-* (mono ρ (32 ^ i)) ∙ (mono_var ρ i).0, ((mono_var ρ i).1, tt))
sound ρ (lit c) h = (nz_is ρ 0 c none ∙ +ℤ_idr (c *ℤ mono ρ 0) ∙ ap (λ (y : ℤ). c *ℤ y) (mono_zero ρ 0).0 ∙ *-one c, nz_all ρ 0 0 c none (mono_zero ρ 0).1 tt)
sound ρ (a ⊕ b) h =
    let i : (value ρ (norm a) ≡ eval ρ a) × AllFit ρ (degree a) (norm a) = sound ρ a (omega arith) in
    let j : (value ρ (norm b) ≡ eval ρ b) × AllFit ρ (degree b) (norm b) = sound ρ b (omega arith) in (
      add_is ρ (norm a) (norm b) ∙ ap (λ (y : ℤ). y +ℤ value ρ (norm b)) i.0 ∙ ap (λ (y : ℤ). eval ρ a +ℤ y) j.0,
      add_all ρ (max (degree a) (degree b)) (norm a) (norm b) (all_more ρ (degree a) (max (degree a) (degree b)) (omega arith) (norm a) i.1) (all_more ρ (degree b) (max (degree a) (degree b)) (omega arith) (norm b) j.1),
    )
sound ρ (a ⊖ b) h =
    let i : (value ρ (norm a) ≡ eval ρ a) × AllFit ρ (degree a) (norm a) = sound ρ a (omega arith) in
    let j : (value ρ (norm b) ≡ eval ρ b) × AllFit ρ (degree b) (norm b) = sound ρ b (omega arith) in
    let n : (value ρ (scale 0 (negsuc 0) (norm b)) ≡ neg_ℤ (value ρ (norm b))) × AllFit ρ (degree b) (scale 0 (negsuc 0) (norm b)) = neg_value ρ (degree b) (omega arith) (norm b) j.1 in (
      add_is ρ (norm a) (scale 0 (negsuc 0) (norm b)) ∙ ap (λ (y : ℤ). y +ℤ value ρ (scale 0 (negsuc 0) (norm b))) i.0 ∙ ap (λ (y : ℤ). eval ρ a +ℤ y) (n.0 ∙ ap neg_ℤ j.0),
      add_all ρ (max (degree a) (degree b)) (norm a) (scale 0 (negsuc 0) (norm b)) (all_more ρ (degree a) (max (degree a) (degree b)) (omega arith) (norm a) i.1) (all_more ρ (degree b) (max (degree a) (degree b)) (omega arith) (scale 0 (negsuc 0) (norm b)) n.1),
    )
sound ρ (a ⊗ b) h =
    let i : (value ρ (norm a) ≡ eval ρ a) × AllFit ρ (degree a) (norm a) = sound ρ a (omega arith) in
    let j : (value ρ (norm b) ≡ eval ρ b) × AllFit ρ (degree b) (norm b) = sound ρ b (omega arith) in
    let n : (value ρ (mul (norm a) (norm b)) ≡ value ρ (norm a) *ℤ value ρ (norm b)) × AllFit ρ (degree a + degree b) (mul (norm a) (norm b)) = mul_is ρ (degree a) (degree b) h (norm a) (norm b) i.1 j.1 in
    (n.0 ∙ ap (λ (y : ℤ). y *ℤ value ρ (norm b)) i.0 ∙ ap (λ (y : ℤ). eval ρ a *ℤ y) j.0, n.1)
sound ρ (⊝ a) h =
    let i : (value ρ (norm a) ≡ eval ρ a) × AllFit ρ (degree a) (norm a) = sound ρ a h in
    let n : (value ρ (scale 0 (negsuc 0) (norm a)) ≡ neg_ℤ (value ρ (norm a))) × AllFit ρ (degree a) (scale 0 (negsuc 0) (norm a)) = neg_value ρ (degree a) h (norm a) i.1 in
    (n.0 ∙ ap neg_ℤ i.0, n.1)

-- the solver

-- what is left of the difference of the two sides: `none` where they are one polynomial (and no monomial has a degree of 32 or more).
-- A refusal of `refl` at `left a b ≡ none` shows the terms that are left: `term 33 (negsuc 0) none` is -1 times the monomial 33 = 1 + 32 · 1, that is -(x₀ · x₁)
abbrev pub left : E → E → P
left a b = elim (ltb (degree (a ⊖ b)) 32) [ true ↦ norm (a ⊖ b) | false ↦ term 0 (pos 1) none ]

Empty : P → Type 0
Empty none = Unit {0}
Empty (term m c p) = ⊥

equal_of_diff : (a b : ℤ) → a -ℤ b ≡ pos 0 → a ≡ b
equal_of_diff a b e = omega (arith, ints)

pub solve : (ρ : List ℤ) (a b : E) → left a b ≡ none → eval ρ a ≡ eval ρ b
unfolding value Empty
solve ρ a b s = go (ltb (degree (a ⊖ b)) 32) refl s
  where
    go : (x : Bool) → ltb (degree (a ⊖ b)) 32 ≡ x → elim x [ true ↦ norm (a ⊖ b) | false ↦ term 0 (pos 1) none ] ≡ none → eval ρ a ≡ eval ρ b
    go true e z = equal_of_diff (eval ρ a) (eval ρ b) (sym (sound ρ (a ⊖ b) (ltb→lt (degree (a ⊖ b)) 32 (subst T (sym e) tt))).0 ∙ ap (value ρ) z)
    go false e z = absurd (subst Empty (sym z) tt)

-- by the number of variables: `ring2 (λ a b. a ⊗ b ≐ b ⊗ a) refl x y : x *ℤ y ≡ y *ℤ x`

infix 5 ◌≐◌
pub data Eqn : Type 0 where
  ◌≐◌ : E → E → Eqn

abbrev pub Left : Eqn → P
Left (a ≐ b) = left a b

abbrev pub Holds : List ℤ → Eqn → Type 0
Holds ρ (a ≐ b) = eval ρ a ≡ eval ρ b

pub ring : (ρ : List ℤ) (q : Eqn) → Left q ≡ none → Holds ρ q
ring ρ (a ≐ b) h = solve ρ a b h

pub ring1 : (f : E → Eqn) → Left (f (var 0)) ≡ none → (x0 : ℤ) → Holds (x0 ∷ []) (f (var 0))
ring1 f h x0 = ring (x0 ∷ []) (f (var 0)) h

pub ring2 : (f : E → E → Eqn) → Left (f (var 0) (var 1)) ≡ none → (x0 x1 : ℤ) → Holds (x0 ∷ x1 ∷ []) (f (var 0) (var 1))
ring2 f h x0 x1 = ring (x0 ∷ x1 ∷ []) (f (var 0) (var 1)) h

pub ring3 : (f : E → E → E → Eqn) → Left (f (var 0) (var 1) (var 2)) ≡ none → (x0 x1 x2 : ℤ) → Holds (x0 ∷ x1 ∷ x2 ∷ []) (f (var 0) (var 1) (var 2))
ring3 f h x0 x1 x2 = ring (x0 ∷ x1 ∷ x2 ∷ []) (f (var 0) (var 1) (var 2)) h

pub ring4 : (f : E → E → E → E → Eqn) → Left (f (var 0) (var 1) (var 2) (var 3)) ≡ none → (x0 x1 x2 x3 : ℤ) → Holds (x0 ∷ x1 ∷ x2 ∷ x3 ∷ []) (f (var 0) (var 1) (var 2) (var 3))
ring4 f h x0 x1 x2 x3 = ring (x0 ∷ x1 ∷ x2 ∷ x3 ∷ []) (f (var 0) (var 1) (var 2) (var 3)) h

pub ring5 : (f : E → E → E → E → E → Eqn) → Left (f (var 0) (var 1) (var 2) (var 3) (var 4)) ≡ none → (x0 x1 x2 x3 x4 : ℤ) → Holds (x0 ∷ x1 ∷ x2 ∷ x3 ∷ x4 ∷ []) (f (var 0) (var 1) (var 2) (var 3) (var 4))
ring5 f h x0 x1 x2 x3 x4 = ring (x0 ∷ x1 ∷ x2 ∷ x3 ∷ x4 ∷ []) (f (var 0) (var 1) (var 2) (var 3) (var 4)) h

pub ring6 : (f : E → E → E → E → E → E → Eqn) → Left (f (var 0) (var 1) (var 2) (var 3) (var 4) (var 5)) ≡ none → (x0 x1 x2 x3 x4 x5 : ℤ) → Holds (x0 ∷ x1 ∷ x2 ∷ x3 ∷ x4 ∷ x5 ∷ []) (f (var 0) (var 1) (var 2) (var 3) (var 4) (var 5))
ring6 f h x0 x1 x2 x3 x4 x5 = ring (x0 ∷ x1 ∷ x2 ∷ x3 ∷ x4 ∷ x5 ∷ []) (f (var 0) (var 1) (var 2) (var 3) (var 4) (var 5)) h

pub ring7 : (f : E → E → E → E → E → E → E → Eqn) → Left (f (var 0) (var 1) (var 2) (var 3) (var 4) (var 5) (var 6)) ≡ none → (x0 x1 x2 x3 x4 x5 x6 : ℤ) → Holds (x0 ∷ x1 ∷ x2 ∷ x3 ∷ x4 ∷ x5 ∷ x6 ∷ []) (f (var 0) (var 1) (var 2) (var 3) (var 4) (var 5) (var 6))
ring7 f h x0 x1 x2 x3 x4 x5 x6 = ring (x0 ∷ x1 ∷ x2 ∷ x3 ∷ x4 ∷ x5 ∷ x6 ∷ []) (f (var 0) (var 1) (var 2) (var 3) (var 4) (var 5) (var 6)) h

pub ring8 : (f : E → E → E → E → E → E → E → E → Eqn) → Left (f (var 0) (var 1) (var 2) (var 3) (var 4) (var 5) (var 6) (var 7)) ≡ none → (x0 x1 x2 x3 x4 x5 x6 x7 : ℤ) → Holds (x0 ∷ x1 ∷ x2 ∷ x3 ∷ x4 ∷ x5 ∷ x6 ∷ x7 ∷ []) (f (var 0) (var 1) (var 2) (var 3) (var 4) (var 5) (var 6) (var 7))
ring8 f h x0 x1 x2 x3 x4 x5 x6 x7 = ring (x0 ∷ x1 ∷ x2 ∷ x3 ∷ x4 ∷ x5 ∷ x6 ∷ x7 ∷ []) (f (var 0) (var 1) (var 2) (var 3) (var 4) (var 5) (var 6) (var 7)) h

pub ring9 : (f : E → E → E → E → E → E → E → E → E → Eqn) → Left (f (var 0) (var 1) (var 2) (var 3) (var 4) (var 5) (var 6) (var 7) (var 8)) ≡ none → (x0 x1 x2 x3 x4 x5 x6 x7 x8 : ℤ) → Holds (x0 ∷ x1 ∷ x2 ∷ x3 ∷ x4 ∷ x5 ∷ x6 ∷ x7 ∷ x8 ∷ []) (f (var 0) (var 1) (var 2) (var 3) (var 4) (var 5) (var 6) (var 7) (var 8))
ring9 f h x0 x1 x2 x3 x4 x5 x6 x7 x8 = ring (x0 ∷ x1 ∷ x2 ∷ x3 ∷ x4 ∷ x5 ∷ x6 ∷ x7 ∷ x8 ∷ []) (f (var 0) (var 1) (var 2) (var 3) (var 4) (var 5) (var 6) (var 7) (var 8)) h

pub ring10 : (f : E → E → E → E → E → E → E → E → E → E → Eqn) → Left (f (var 0) (var 1) (var 2) (var 3) (var 4) (var 5) (var 6) (var 7) (var 8) (var 9)) ≡ none → (x0 x1 x2 x3 x4 x5 x6 x7 x8 x9 : ℤ) → Holds (x0 ∷ x1 ∷ x2 ∷ x3 ∷ x4 ∷ x5 ∷ x6 ∷ x7 ∷ x8 ∷ x9 ∷ []) (f (var 0) (var 1) (var 2) (var 3) (var 4) (var 5) (var 6) (var 7) (var 8) (var 9))
ring10 f h x0 x1 x2 x3 x4 x5 x6 x7 x8 x9 = ring (x0 ∷ x1 ∷ x2 ∷ x3 ∷ x4 ∷ x5 ∷ x6 ∷ x7 ∷ x8 ∷ x9 ∷ []) (f (var 0) (var 1) (var 2) (var 3) (var 4) (var 5) (var 6) (var 7) (var 8) (var 9)) h

pub ring11 : (f : E → E → E → E → E → E → E → E → E → E → E → Eqn) → Left (f (var 0) (var 1) (var 2) (var 3) (var 4) (var 5) (var 6) (var 7) (var 8) (var 9) (var 10)) ≡ none → (x0 x1 x2 x3 x4 x5 x6 x7 x8 x9 x10 : ℤ) → Holds (x0 ∷ x1 ∷ x2 ∷ x3 ∷ x4 ∷ x5 ∷ x6 ∷ x7 ∷ x8 ∷ x9 ∷ x10 ∷ []) (f (var 0) (var 1) (var 2) (var 3) (var 4) (var 5) (var 6) (var 7) (var 8) (var 9) (var 10))
ring11 f h x0 x1 x2 x3 x4 x5 x6 x7 x8 x9 x10 = ring (x0 ∷ x1 ∷ x2 ∷ x3 ∷ x4 ∷ x5 ∷ x6 ∷ x7 ∷ x8 ∷ x9 ∷ x10 ∷ []) (f (var 0) (var 1) (var 2) (var 3) (var 4) (var 5) (var 6) (var 7) (var 8) (var 9) (var 10)) h

pub ring12 : (f : E → E → E → E → E → E → E → E → E → E → E → E → Eqn) → Left (f (var 0) (var 1) (var 2) (var 3) (var 4) (var 5) (var 6) (var 7) (var 8) (var 9) (var 10) (var 11)) ≡ none → (x0 x1 x2 x3 x4 x5 x6 x7 x8 x9 x10 x11 : ℤ) → Holds (x0 ∷ x1 ∷ x2 ∷ x3 ∷ x4 ∷ x5 ∷ x6 ∷ x7 ∷ x8 ∷ x9 ∷ x10 ∷ x11 ∷ []) (f (var 0) (var 1) (var 2) (var 3) (var 4) (var 5) (var 6) (var 7) (var 8) (var 9) (var 10) (var 11))
ring12 f h x0 x1 x2 x3 x4 x5 x6 x7 x8 x9 x10 x11 = ring (x0 ∷ x1 ∷ x2 ∷ x3 ∷ x4 ∷ x5 ∷ x6 ∷ x7 ∷ x8 ∷ x9 ∷ x10 ∷ x11 ∷ []) (f (var 0) (var 1) (var 2) (var 3) (var 4) (var 5) (var 6) (var 7) (var 8) (var 9) (var 10) (var 11)) h

pub ring13 : (f : E → E → E → E → E → E → E → E → E → E → E → E → E → Eqn) → Left (f (var 0) (var 1) (var 2) (var 3) (var 4) (var 5) (var 6) (var 7) (var 8) (var 9) (var 10) (var 11) (var 12)) ≡ none → (x0 x1 x2 x3 x4 x5 x6 x7 x8 x9 x10 x11 x12 : ℤ) → Holds (x0 ∷ x1 ∷ x2 ∷ x3 ∷ x4 ∷ x5 ∷ x6 ∷ x7 ∷ x8 ∷ x9 ∷ x10 ∷ x11 ∷ x12 ∷ []) (f (var 0) (var 1) (var 2) (var 3) (var 4) (var 5) (var 6) (var 7) (var 8) (var 9) (var 10) (var 11) (var 12))
ring13 f h x0 x1 x2 x3 x4 x5 x6 x7 x8 x9 x10 x11 x12 = ring (x0 ∷ x1 ∷ x2 ∷ x3 ∷ x4 ∷ x5 ∷ x6 ∷ x7 ∷ x8 ∷ x9 ∷ x10 ∷ x11 ∷ x12 ∷ []) (f (var 0) (var 1) (var 2) (var 3) (var 4) (var 5) (var 6) (var 7) (var 8) (var 9) (var 10) (var 11) (var 12)) h

pub ring14 : (f : E → E → E → E → E → E → E → E → E → E → E → E → E → E → Eqn) → Left (f (var 0) (var 1) (var 2) (var 3) (var 4) (var 5) (var 6) (var 7) (var 8) (var 9) (var 10) (var 11) (var 12) (var 13)) ≡ none → (x0 x1 x2 x3 x4 x5 x6 x7 x8 x9 x10 x11 x12 x13 : ℤ) → Holds (x0 ∷ x1 ∷ x2 ∷ x3 ∷ x4 ∷ x5 ∷ x6 ∷ x7 ∷ x8 ∷ x9 ∷ x10 ∷ x11 ∷ x12 ∷ x13 ∷ []) (f (var 0) (var 1) (var 2) (var 3) (var 4) (var 5) (var 6) (var 7) (var 8) (var 9) (var 10) (var 11) (var 12) (var 13))
ring14 f h x0 x1 x2 x3 x4 x5 x6 x7 x8 x9 x10 x11 x12 x13 = ring (x0 ∷ x1 ∷ x2 ∷ x3 ∷ x4 ∷ x5 ∷ x6 ∷ x7 ∷ x8 ∷ x9 ∷ x10 ∷ x11 ∷ x12 ∷ x13 ∷ []) (f (var 0) (var 1) (var 2) (var 3) (var 4) (var 5) (var 6) (var 7) (var 8) (var 9) (var 10) (var 11) (var 12) (var 13)) h

pub ring15 : (f : E → E → E → E → E → E → E → E → E → E → E → E → E → E → E → Eqn) → Left (f (var 0) (var 1) (var 2) (var 3) (var 4) (var 5) (var 6) (var 7) (var 8) (var 9) (var 10) (var 11) (var 12) (var 13) (var 14)) ≡ none → (x0 x1 x2 x3 x4 x5 x6 x7 x8 x9 x10 x11 x12 x13 x14 : ℤ) → Holds (x0 ∷ x1 ∷ x2 ∷ x3 ∷ x4 ∷ x5 ∷ x6 ∷ x7 ∷ x8 ∷ x9 ∷ x10 ∷ x11 ∷ x12 ∷ x13 ∷ x14 ∷ []) (f (var 0) (var 1) (var 2) (var 3) (var 4) (var 5) (var 6) (var 7) (var 8) (var 9) (var 10) (var 11) (var 12) (var 13) (var 14))
ring15 f h x0 x1 x2 x3 x4 x5 x6 x7 x8 x9 x10 x11 x12 x13 x14 = ring (x0 ∷ x1 ∷ x2 ∷ x3 ∷ x4 ∷ x5 ∷ x6 ∷ x7 ∷ x8 ∷ x9 ∷ x10 ∷ x11 ∷ x12 ∷ x13 ∷ x14 ∷ []) (f (var 0) (var 1) (var 2) (var 3) (var 4) (var 5) (var 6) (var 7) (var 8) (var 9) (var 10) (var 11) (var 12) (var 13) (var 14)) h

pub ring16 : (f : E → E → E → E → E → E → E → E → E → E → E → E → E → E → E → E → Eqn) → Left (f (var 0) (var 1) (var 2) (var 3) (var 4) (var 5) (var 6) (var 7) (var 8) (var 9) (var 10) (var 11) (var 12) (var 13) (var 14) (var 15)) ≡ none → (x0 x1 x2 x3 x4 x5 x6 x7 x8 x9 x10 x11 x12 x13 x14 x15 : ℤ) → Holds (x0 ∷ x1 ∷ x2 ∷ x3 ∷ x4 ∷ x5 ∷ x6 ∷ x7 ∷ x8 ∷ x9 ∷ x10 ∷ x11 ∷ x12 ∷ x13 ∷ x14 ∷ x15 ∷ []) (f (var 0) (var 1) (var 2) (var 3) (var 4) (var 5) (var 6) (var 7) (var 8) (var 9) (var 10) (var 11) (var 12) (var 13) (var 14) (var 15))
ring16 f h x0 x1 x2 x3 x4 x5 x6 x7 x8 x9 x10 x11 x12 x13 x14 x15 = ring (x0 ∷ x1 ∷ x2 ∷ x3 ∷ x4 ∷ x5 ∷ x6 ∷ x7 ∷ x8 ∷ x9 ∷ x10 ∷ x11 ∷ x12 ∷ x13 ∷ x14 ∷ x15 ∷ []) (f (var 0) (var 1) (var 2) (var 3) (var 4) (var 5) (var 6) (var 7) (var 8) (var 9) (var 10) (var 11) (var 12) (var 13) (var 14) (var 15)) h
