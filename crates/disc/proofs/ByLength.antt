-- A list by its length, from its elements.
use Rattle.std.proofs.Common.{◌≡◌, ◌<◌, ◌≤◌, List, [], ◌∷◌, length, get_or, refl, sym, arith}

module _ {X : Type 0} where
  pub none : (F : List X) → length F < 1 → F ≡ []
  none [] l = refl
  none (p ∷ F) l = absurd (omega arith)

  pub one : (F : List X) (o : X) {p : X} → 1 ≤ length F → length F < 2 → p ≡ get_or F 0 o → F ≡ p ∷ []
  one [] o l m e = absurd (omega arith)
  one (p ∷ []) o l m e = λ i. sym e i ∷ []
  one (p ∷ q ∷ F) o l m e = absurd (omega arith)

  pub two : (F : List X) (o : X) {p q : X} → 2 ≤ length F → length F < 3 → p ≡ get_or F 0 o → q ≡ get_or F 1 o → F ≡ p ∷ q ∷ []
  two [] o l m e f = absurd (omega arith)
  two (p ∷ []) o l m e f = absurd (omega arith)
  two (p ∷ q ∷ []) o l m e f = λ i. sym e i ∷ sym f i ∷ []
  two (p ∷ q ∷ r ∷ F) o l m e f = absurd (omega arith)

  pub three : (F : List X) (o : X) {p q r : X} → 3 ≤ length F → length F < 4 → p ≡ get_or F 0 o → q ≡ get_or F 1 o → r ≡ get_or F 2 o → F ≡ p ∷ q ∷ r ∷ []
  three [] o l m e f g = absurd (omega arith)
  three (p ∷ []) o l m e f g = absurd (omega arith)
  three (p ∷ q ∷ []) o l m e f g = absurd (omega arith)
  three (p ∷ q ∷ r ∷ []) o l m e f g = λ i. sym e i ∷ sym f i ∷ sym g i ∷ []
  three (p ∷ q ∷ r ∷ s ∷ F) o l m e f g = absurd (omega arith)
