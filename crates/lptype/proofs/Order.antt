-- The order of sizes carried to values, and what follows from a total order of values.
use Rattle.std.proofs.Common.{◌≡◌, true, ◌⊎◌, refl, inl, inr, ⊎_elim}
use Rattle.std.proofs.lemmas.Bool.{cases_Bool, both_ways, false≢true}
use Rattle.lptype.specs.Meaning.{Meaning, Value, finite, top, at_most, Le, Less, Equal}
use Rattle.lptype.specs.Laws.{TotalOrder}

-- the order of sizes is total, and antisymmetric up to the equality of sizes
pub record SizeOrder (m : Meaning) : Type 0 where
  pub reflexive : (a : m.Size) → m.le a a ≡ true
  pub transitive : (a b c : m.Size) → m.le a b ≡ true → m.le b c ≡ true → m.le a c ≡ true
  pub comparable : (a b : m.Size) → (m.le a b ≡ true) ⊎ (m.le b a ≡ true)
  pub antisymmetric : (a b : m.Size) → m.le a b ≡ true → m.le b a ≡ true → m.same a b
  pub equal_le : (a b : m.Size) → m.same a b → (m.le a b ≡ true) × (m.le b a ≡ true)

module _ (m : Meaning) (o : SizeOrder m) where
  le_reflexive : (u : Value m.Size) → Le m.le u u
  le_reflexive top = refl
  le_reflexive (finite a) = o.reflexive a

  le_transitive : (u v w : Value m.Size) → Le m.le u v → Le m.le v w → Le m.le u w
  le_transitive u v top p q = refl
  le_transitive u top (finite c) p q = absurd (false≢true q)
  le_transitive top (finite b) (finite c) p q = absurd (false≢true p)
  le_transitive (finite a) (finite b) (finite c) p q = o.transitive a b c p q

  le_comparable : (u v : Value m.Size) → Le m.le u v ⊎ Le m.le v u
  le_comparable u top = inl refl
  le_comparable top (finite b) = inr refl
  le_comparable (finite a) (finite b) = o.comparable a b

  le_antisymmetric : (u v : Value m.Size) → Le m.le u v → Le m.le v u → Equal m.same u v
  le_antisymmetric top top p q = tt
  le_antisymmetric top (finite b) p q = absurd (false≢true p)
  le_antisymmetric (finite a) top p q = absurd (false≢true q)
  le_antisymmetric (finite a) (finite b) p q = o.antisymmetric a b p q

  equal_both : (u v : Value m.Size) → Equal m.same u v → Le m.le u v × Le m.le v u
  equal_both top top e = (refl, refl)
  equal_both top (finite b) e = absurd e
  equal_both (finite a) top e = absurd e
  equal_both (finite a) (finite b) e = o.equal_le a b e

  pub values_ordered : TotalOrder m
  values_ordered = record {
    reflexive = le_reflexive;
    transitive = le_transitive;
    comparable = le_comparable;
    antisymmetric = le_antisymmetric;
    equal_le = equal_both;
  }

-- u is at most v, or v is below u
pub le_or_less : (m : Meaning) (u v : Value m.Size) → Le m.le u v ⊎ Less m.le v u
le_or_less m u v = cases_Bool (at_most m.le u v)

pub not_both : (m : Meaning) (u v : Value m.Size) → Less m.le u v → Le m.le v u → ⊥
not_both m u v p q = both_ways (at_most m.le v u) p q

module _ (m : Meaning) (t : TotalOrder m) where
  pub up : (u v : Value m.Size) → Equal m.same u v → Le m.le u v
  up u v e = (t.equal_le u v e).0

  pub down : (u v : Value m.Size) → Equal m.same u v → Le m.le v u
  down u v e = (t.equal_le u v e).1

  pub equal_refl : (u : Value m.Size) → Equal m.same u u
  equal_refl u = t.antisymmetric u u (t.reflexive u) (t.reflexive u)

  pub equal_sym : (u v : Value m.Size) → Equal m.same u v → Equal m.same v u
  equal_sym u v e = t.antisymmetric v u (down u v e) (up u v e)

  pub equal_trans : (u v w : Value m.Size) → Equal m.same u v → Equal m.same v w → Equal m.same u w
  equal_trans u v w e f = t.antisymmetric u w (t.transitive u v w (up u v e) (up v w f)) (t.transitive w v u (down v w f) (down u v e))

  pub less_le : (u v w : Value m.Size) → Less m.le u v → Le m.le v w → Less m.le u w
  less_le u v w p q = ⊎_elim (λ l. absurd (not_both m u v p (t.transitive v w u q l))) (λ l. l) (le_or_less m w u)

  pub le_less : (u v w : Value m.Size) → Le m.le u v → Less m.le v w → Less m.le u w
  le_less u v w p q = ⊎_elim (λ l. absurd (not_both m v w q (t.transitive w u v l p))) (λ l. l) (le_or_less m w u)
