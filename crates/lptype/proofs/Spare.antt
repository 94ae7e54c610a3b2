-- Where fewer elements lie within a longer list, one of that list can be left out.
use Rattle.std.proofs.Common.{◌≡◌, ◌<◌, ◌≤◌, ◌⊎◌, List, [], ◌∷◌, ◌++◌, length, refl, ap, ◌∙◌, inl, inr, ⊎_elim, arith}
use Rattle.std.specs.List.{AllByRecursion}
use Rattle.std.proofs.lemmas.Bool.{cases_eq}
use Rattle.lptype.specs.Meaning.{In, Within}
use Rattle.lptype.proofs.Inside.{all_in, all_from_in}

-- one element of B can be left out, and F is still within
pub record Spare {X : Type 0} (F B : List X) : Type 0 where
  pub before : List X
  pub after : List X
  pub row : X
  pub split : B ≡ before ++ (row ∷ after)
  pub still : Within F (before ++ after)

module _ {X : Type 0} where
  -- the elements of F that are not placed at the head b
  record Behind (F : List X) (b : X) (B : List X) : Type 0 where
    rest : List X
    put : AllByRecursion (λ x. In x B) rest
    short : length rest ≤ length F
    none : (length rest ≡ length F) → Within F rest
    all : (x : X) → In x F → (x ≡ b) ⊎ In x rest

  behind : (F : List X) (b : X) (B : List X) → AllByRecursion (λ x. In x (b ∷ B)) F → Behind F b B
  behind [] b B p = record { rest = []; put = tt; short = omega arith; none = λ e x i. i; all = λ x i. absurd i }
  behind (x ∷ F) b B p = go p.0 (behind F b B p.1)
    where
      go : In x (b ∷ B) → Behind F b B → Behind (x ∷ F) b B
      go (inl e) t = record {
        rest = t.rest;
        put = t.put;
        short = omega (arith, t.short);
        none = λ f. absurd (omega (arith, t.short));
        all = λ y. elim [ inl g ↦ inl (g ∙ e) | inr i ↦ t.all y i ];
      }
      go (inr j) t = record {
        rest = x ∷ t.rest;
        put = (j, t.put);
        short = omega (arith, t.short);
        none = λ f y. elim [ inl g ↦ inl g | inr i ↦ inr (t.none (omega arith) y i) ];
        all = λ y. elim [ inl g ↦ inr (inl g) | inr i ↦ ⊎_elim inl (λ k. inr (inr k)) (t.all y i) ];
      }

  spare_placed : (F B : List X) → length F < length B → AllByRecursion (λ x. In x B) F → Spare F B
  spare_placed F [] l p = absurd (omega arith)
  spare_placed F (b ∷ B) l p = go (λ Y k q. spare_placed Y B k q) (behind F b B p)
    where
      go : ((Y : List X) → length Y < length B → AllByRecursion (λ x. In x B) Y → Spare Y B) → Behind F b B → Spare F (b ∷ B)
      go rec t = ⊎_elim
          (λ e. record { before = []; after = B; row = b; split = refl; still = λ x i. all_in (λ y. In y B) t.rest x t.put (t.none e x i) })
          (λ n. let s = rec t.rest (omega (arith, t.short, n)) t.put in record {
            before = b ∷ s.before;
            after = s.after;
            row = s.row;
            split = ap (λ r. b ∷ r) s.split;
            still = λ x i. ⊎_elim inl (λ k. inr (s.still x k)) (t.all x i);
          })
          (cases_eq (length t.rest) (length F))

  pub spare : (F B : List X) → length F < length B → Within F B → Spare F B
  spare F B l w = spare_placed F B l (all_from_in (λ x. In x B) F w)
