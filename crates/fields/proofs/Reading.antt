-- A reader that has taken some bytes knows whether they write a number, and which.
use Rattle.std.proofs.Common.{◌≡◌, ℕ, zero, suc, ◌+◌, ◌-◌, ◌*◌, ◌/◌, ◌%◌, ◌^◌, ◌<◌, ◌≤◌, Bool, true, false, ◌&&◌, eqb, ltb, leb, ◌⊎◌, List, [], ◌∷◌, ◌++◌, length, get_or, drop, ℤ, pos, negsuc, neg_ℤ, nat_abs, Some, None, decimal, MatchBool, Option, sym, refl, ap, ◌∙◌, subst, inl, inr, ⊎_elim, arith, length-append, MatchOption}
use native.Mathlib.Nat.{pow-le-pow_right}
use lib.Signed.{mag}
use Rattle.std.specs.Int.{IsInRange}
use Rattle.std.specs.Fmt.{signed_decimal}
use Rattle.std.proofs.lemmas.Fmt.{decimal_is_IsNumeral, decimal_digit, decimal_step, first_decimal, length-decimal-le, decimal_nonempty, signed_decimal_injective}
use Rattle.std.proofs.lemmas.Int.Digits.{digits_value-lt}
use Rattle.std.proofs.lemmas.List.{get_or_at, get_or_append_left}
use Rattle.std.proofs.lemmas.Bool.Decides.{nat_tests}
use Rattle.std.proofs.lemmas.Bool.{cases_lt, cases_eq, cond_both, and_parts, and_cases, ltb-true, ltb-false, eqb-true, eqb-false}
use Rattle.std.proofs.lemmas.Str.Parse.{digit_at}
use Rattle.fields.specs.declared.number.NumberReader.{NumberReader}
use Rattle.fields.specs.declared.number.State.{State}
use Rattle.fields.specs.declared.number.State.TheVariants as state
use Rattle.fields.specs.Numeral.{Writes, IsNumber, NumberRead, ReadExactly}
use Rattle.fields.specs.Reader.{extended, after, number_in, Stepped}

-- what a reader in each state has taken
abbrev pub ReadIn : State → List ℕ → Type 0
ReadIn state.Start bs = bs ≡ []
ReadIn state.Minus bs = bs ≡ 45 ∷ []
ReadIn state.Zero bs = bs ≡ 48 ∷ []
ReadIn (state.Digits v) bs = Writes bs v × (0 < nat_abs v)

abbrev pub Read : NumberReader → List ℕ → Type 0
Read n bs = ReadIn n.state bs

-- the digits of a number of at most ten
digit_in : (n i : ℕ) → n < 10 ^ 10 → i < length (decimal n) → IsInRange 48 57 (get_or (decimal n) i 0)
digit_in n i h l = digit_at (decimal n) i (decimal_is_IsNumeral n (omega arith)).0.1 l

first_digit : (n : ℕ) → n < 10 ^ 10 → IsInRange 48 57 (get_or (decimal n) 0 0)
first_digit n h = digit_in n 0 h (decimal_nonempty n (omega arith))

first_byte : (z : ℤ) → nat_abs z < 10 ^ 10 → (get_or (signed_decimal z) 0 0 ≡ 45) ⊎ IsInRange 48 57 (get_or (signed_decimal z) 0 0)
first_byte (pos n) h = inr (first_digit n h)
first_byte (negsuc n) h = inl refl

-- a number from a thousand million on has ten digits
long_decimal : (n : ℕ) → 10 ^ 9 ≤ n → n < 10 ^ 10 → 10 ≤ length (decimal n)
long_decimal n low high =
    let r = decimal_is_IsNumeral n (omega arith) in
    let less : n < 10 ^ length (decimal n) = subst (λ m. m < 10 ^ length (decimal n)) r.1 (digits_value-lt 10 (decimal n) r.0.1) in
    ⊎_elim
    (λ short. let few : length (decimal n) ≤ 9 = omega arith in let most : 10 ^ length (decimal n) ≤ 10 ^ 9 = pow-le-pow_right {n = 10} (omega arith) few in absurd (omega arith))
    (λ long. long)
    (cases_lt (length (decimal n)) 10)

-- decimal digits go on with a digit, and past ten of them not at all
goes_on : (m n b : ℕ) (rest : List ℕ) → m < 10 ^ 10 → n < 10 ^ 10 → decimal m ++ b ∷ rest ≡ decimal n → IsInRange 48 57 b × (m < 10 ^ 9)
goes_on m n b rest hm hn e =
    let long : length (decimal m) + suc (length rest) ≡ length (decimal n) = sym (length-append (decimal m) (b ∷ rest)) ∙ ap length e in
    let here : get_or (decimal n) (length (decimal m)) 0 ≡ b = ap (λ l. get_or l (length (decimal m)) 0) (sym e) ∙ get_or_at (decimal m) b rest 0 _ refl in
    let most = length-decimal-le 10 n (omega arith) hn (omega arith) in (
      subst (IsInRange 48 57) here (digit_in n (length (decimal m)) hn (omega arith)),
      ⊎_elim (λ low. low) (λ high. absurd (omega (arith, long_decimal m high hm))) (cases_lt m (10 ^ 9)),
    )

one_more : (n d : ℕ) → 0 < n → n < 10 ^ 9 → d < 10 → decimal (n * 10 + d) ≡ decimal n ++ (48 + d) ∷ []
one_more n d some small digit =
    let q : (n * 10 + d) / 10 ≡ n = omega arith in
    let r : (n * 10 + d) % 10 ≡ d = omega arith in
    decimal_step (n * 10 + d) (omega arith) (omega arith) ∙ rw (q, r)

signed_extended : (v : ℤ) (d : ℕ) → 0 < nat_abs v → nat_abs v < 10 ^ 9 → d < 10 → signed_decimal (extended v d) ≡ signed_decimal v ++ (48 + d) ∷ []
signed_extended (pos n) d some small digit = one_more n d some small digit
signed_extended (negsuc n) d some small digit = ap (λ l. 45 ∷ l) (ap decimal (omega arith) ∙ one_more (suc n) d some small digit)

extended_size : (v : ℤ) (d : ℕ) → nat_abs (extended v d) ≡ nat_abs v * 10 + d
extended_size (pos n) d = refl
extended_size (negsuc n) d = omega arith

signed_go_on : (v z : ℤ) (b : ℕ) (rest : List ℕ) → nat_abs v < 10 ^ 10 → nat_abs z < 10 ^ 10 → signed_decimal v ++ b ∷ rest ≡ signed_decimal z → IsInRange 48 57 b × (nat_abs v < 10 ^ 9)
signed_go_on (pos m) (pos n) b rest hv hz e = goes_on m n b rest hv hz e
signed_go_on (pos m) (negsuc n) b rest hv hz e =
    let same : get_or (decimal m) 0 0 ≡ 45 = sym (get_or_append_left (decimal m) (b ∷ rest) 0 0 (decimal_nonempty m (omega arith))) ∙ ap (λ l. get_or l 0 0) e in
    absurd (omega (arith, first_digit m hv))
signed_go_on (negsuc m) (pos n) b rest hv hz e =
    let same : 45 ≡ get_or (decimal n) 0 0 = ap (λ l. get_or l 0 0) e in
    absurd (omega (arith, first_digit n hz))
signed_go_on (negsuc m) (negsuc n) b rest hv hz e = goes_on (suc m) (suc n) b rest hv hz (ap (drop 1) e)

signed_neg : (d : ℕ) → 0 < d → signed_decimal (neg_ℤ (pos d)) ≡ 45 ∷ decimal d
signed_neg zero h = absurd (omega arith)
signed_neg (suc n) h = refl

size_neg : (d : ℕ) → nat_abs (neg_ℤ (pos d)) ≡ d
size_neg zero = refl
size_neg (suc n) = refl

-- one digit from 1 to 9
one_digit : (b : ℕ) → IsInRange 49 57 b → b ∷ [] ≡ decimal (b - 48)
one_digit b h = let e : 48 + (b - 48) ≡ b = omega arith in sym (decimal_digit (b - 48) (omega arith) ∙ ap (λ x. x ∷ []) e)

in_range : (lo hi b : ℕ) → (leb lo b && leb b hi) ≡ true → IsInRange lo hi b
in_range lo hi b e = grind (arith, nat_tests)

out_of_range : (lo hi b : ℕ) → (leb lo b && leb b hi) ≡ false → IsInRange lo hi b → ⊥
out_of_range lo hi b e h = grind (arith, nat_tests)

-- o is the state after bs and b; none where no number begins so
abbrev pub NextRead : List ℕ → ℕ → Option State → Type 0
NextRead bs b o = MatchOption o ((rest : List ℕ) → IsNumber (bs ++ b ∷ rest) → ⊥) (λ s. ReadIn s (bs ++ b ∷ []))

no_start : (b : ℕ) (rest : List ℕ) → (b ≡ 45 → ⊥) → (b ≡ 48 → ⊥) → (IsInRange 49 57 b → ⊥) → IsNumber (b ∷ rest) → ⊥
no_start b rest not-minus not-zero not_digit (z, w) =
    let e : b ≡ get_or (signed_decimal z) 0 0 = ap (λ l. get_or l 0 0) w.0 in
    ⊎_elim
    (λ m. not-minus (e ∙ m))
    (λ d. ⊎_elim (λ low. not-zero (omega arith)) (λ high. not_digit (high, omega arith)) (cases_lt b 49))
    (first_byte z w.1)

at_start : (b : ℕ) → NextRead [] b (after state.Start b)
at_start b =
    cond_both (eqb b 45) _ _ (NextRead [] b)
    (λ is. ap (λ x. x ∷ []) (eqb-true b 45 is))
    (λ not-minus.
    cond_both (eqb b 48) _ _ (NextRead [] b)
    (λ is. ap (λ x. x ∷ []) (eqb-true b 48 is))
    (λ not-zero.
    cond_both (leb 49 b && leb b 57) _ _ (NextRead [] b)
    (λ is. let r = in_range 49 57 b is in ((one_digit b r, omega arith), omega arith))
    (λ out rest. no_start b rest (eqb-false b 45 not-minus) (eqb-false b 48 not-zero) (out_of_range 49 57 b out))))

after_minus : (b : ℕ) (rest : List ℕ) → IsNumber (45 ∷ b ∷ rest) → IsInRange 49 57 b
after_minus b rest (pos n, w) = let e : 45 ≡ get_or (decimal n) 0 0 = ap (λ l. get_or l 0 0) w.0 in absurd (omega (arith, first_digit n w.1))
after_minus b rest (negsuc n, w) =
    let e : b ≡ get_or (decimal (suc n)) 0 0 = ap (λ l. get_or l 1 0) w.0 in
    let d = first_digit (suc n) w.1 in
    let f = first_decimal (suc n) (omega arith) (omega arith) in
    (omega arith, omega arith)

at_minus : (b : ℕ) → NextRead (45 ∷ []) b (after state.Minus b)
at_minus b =
    cond_both (leb 49 b && leb b 57) _ _ (NextRead (45 ∷ []) b)
    (λ is.
    let r = in_range 49 57 b is in
    let some : 0 < b - 48 = omega arith in
    let size = size_neg (b - 48) in
    ((ap (λ l. 45 ∷ l) (one_digit b r) ∙ sym (signed_neg (b - 48) some), omega arith), omega arith))
    (λ out rest w. out_of_range 49 57 b out (after_minus b rest w))

at_zero : (b : ℕ) (rest : List ℕ) → IsNumber (48 ∷ b ∷ rest) → ⊥
at_zero b rest (pos n, w) =
    let e : 48 ≡ get_or (decimal n) 0 0 = ap (λ l. get_or l 0 0) w.0 in
    let l : suc (suc (length rest)) ≡ length (decimal n) = ap length w.0 in
    ⊎_elim
    (λ z. let one : length (decimal n) ≡ 1 = ap (λ m. length (decimal m)) z ∙ ap length (decimal_digit 0 (omega arith)) in omega arith)
    (λ some. omega (arith, first_decimal n (omega arith) (omega arith)))
    (cases_eq n 0)
at_zero b rest (negsuc n, w) = let e : ◌≡◌ {A = ℕ} 48 45 = ap (λ l. get_or l 0 0) w.0 in omega arith

at_digits : (v : ℤ) (b : ℕ) → nat_abs v < 10 ^ 10 → 0 < nat_abs v → NextRead (signed_decimal v) b (after (state.Digits v) b)
at_digits v b h some =
    cond_both ((leb 48 b && leb b 57) && ltb (nat_abs v) 1000000000) _ _ (NextRead (signed_decimal v) b)
    (λ is.
    let parts = and_parts (leb 48 b && leb b 57) (ltb (nat_abs v) 1000000000) is in
    let r = in_range 48 57 b parts.0 in
    let small = ltb-true (nat_abs v) 1000000000 parts.1 in
    let e : 48 + (b - 48) ≡ b = omega arith in
    let size = extended_size v (b - 48) in
    ((ap (λ x. signed_decimal v ++ x ∷ []) (sym e) ∙ sym (signed_extended v (b - 48) some small (omega arith)), omega arith), omega arith))
    (λ out rest w.
    let g = signed_go_on v w.0 b rest h w.1.1 w.1.0 in
    ⊎_elim
    (λ o. out_of_range 48 57 b o g.0)
    (λ o. let large : 1000000000 ≤ nat_abs v = ltb-false (nat_abs v) 1000000000 o in omega arith)
    (and_cases _ _ out))

pub read_more : (s : State) (bs : List ℕ) (b : ℕ) → ReadIn s bs → NextRead bs b (after s b)
read_more state.Start bs b h = rw h (at_start b)
read_more state.Minus bs b h = rw h (at_minus b)
read_more state.Zero bs b h = rw h (at_zero b)
read_more (state.Digits v) bs b h = rw h.0.0 (at_digits v b h.0.1 h.1)

-- the same of a step by its answer
pub read_step : (n m : NumberReader) (r : Bool) (bs : List ℕ) (b : ℕ) → Read n bs → Stepped n b r m → MatchBool r (Read m (bs ++ b ∷ [])) ((rest : List ℕ) → IsNumber (bs ++ b ∷ rest) → ⊥)
read_step n m r bs b h t = by (after n.state b) (read_more n.state bs b h) t
  where
    by : (o : Option State) → NextRead bs b o → MatchOption o ((r ≡ false) × (m ≡ n)) (λ s. (r ≡ true) × (m ≡ record { state = s })) → MatchBool r (Read m (bs ++ b ∷ [])) ((rest : List ℕ) → IsNumber (bs ++ b ∷ rest) → ⊥)
    by None w s = rw s.0 w
    by (Some x) w s = rw (s.0, s.1) w

no_bytes : (z : ℤ) → nat_abs z < 10 ^ 10 → [] ≡ signed_decimal z → ⊥
no_bytes z h e = let same : 0 ≡ get_or (signed_decimal z) 0 0 = ap (λ l. get_or l 0 0) e in ⊎_elim (λ m. omega arith) (λ d. omega arith) (first_byte z h)

only_minus : (z : ℤ) → nat_abs z < 10 ^ 10 → 45 ∷ [] ≡ signed_decimal z → ⊥
only_minus (pos n) h e = let same : 45 ≡ get_or (decimal n) 0 0 = ap (λ l. get_or l 0 0) e in omega (arith, first_digit n h)
only_minus (negsuc n) h e = let same : 0 ≡ length (decimal (suc n)) = ap (λ l. length (drop 1 l)) e in omega (arith, decimal_nonempty (suc n) (omega arith))

pub read_all : (s : State) (bs : List ℕ) → ReadIn s bs → NumberRead bs (number_in s)
read_all state.Start bs h = λ w. no_bytes w.0 w.1.1 (sym h ∙ w.1.0)
read_all state.Minus bs h = λ w. only_minus w.0 w.1.1 (sym h ∙ w.1.0)
read_all state.Zero bs h = (h ∙ sym (decimal_digit 0 (omega arith)), omega arith)
read_all (state.Digits v) bs h = h.0

small_fits : (x : ℤ) → nat_abs x < 10 ^ 10 → mag x < 2 ^ 63
small_fits (pos n) l = omega arith
small_fits (negsuc n) l = omega arith

none_or_some : (r : Option ℤ) (z : ℤ) → r ≡ None → r ≡ Some z → ⊥
none_or_some r z e f = let n : ◌≡◌ {A = ℕ} 0 1 = cc in omega arith

-- what is read is all that could be read
pub read_exactly : (bs : List ℕ) (r : Option ℤ) → NumberRead bs r → ReadExactly bs r
read_exactly bs None h z = (λ e. absurd (none_or_some None z refl e), λ w. absurd (h (z, w)))
read_exactly bs (Some y) h z = (
  λ e. let same : y ≡ z = cc in subst (Writes bs) same h,
  λ w. ap Some (signed_decimal_injective y z (small_fits y h.1) (small_fits z w.1) (sym h.0 ∙ w.0)),
)
