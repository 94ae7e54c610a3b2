-- The lists that are a list with one element left out.
use Rattle.std.proofs.Common.{◌≡◌, ◌<◌, Bool, true, false, ◌⊎◌, List, [], ◌∷◌, ◌++◌, map, length, sym, refl, ap, subst, inl, inr, ⊎_elim, arith}
use Rattle.std.proofs.lemmas.Bool.{cases_Bool}
use Rattle.rows.specs.Sublist.{Sublist, leave, keep}
use Rattle.rows.proofs.Sublist.{sublist_self}

-- Q of each list that is xs with one element left out
abbrev pub EachOut : {X : Type 0} → (List X → Type 0) → List X → Type 0
EachOut Q [] = Unit {0}
EachOut Q (x ∷ xs) = Q xs × EachOut (λ l. Q (x ∷ l)) xs

module _ {X : Type 0} where
  first_of : X → List X → X
  first_of d [] = d
  first_of d (y ∷ ys) = y

  rest_of : List X → List X
  rest_of [] = []
  rest_of (y ∷ ys) = ys

  firsts : {x y : X} {xs ys : List X} → x ∷ xs ≡ y ∷ ys → x ≡ y
  unfolding first_of
  firsts {x} e = ap (first_of x) e

  rests : {x y : X} {xs ys : List X} → x ∷ xs ≡ y ∷ ys → xs ≡ ys
  unfolding rest_of
  rests e = ap rest_of e

  NotEmpty : List X → Type 0
  NotEmpty [] = ⊥
  NotEmpty (y ∷ ys) = Unit {0}

  no_split : (xs ys : List X) (x : X) → [] ≡ xs ++ (x ∷ ys) → ⊥
  unfolding NotEmpty
  no_split [] ys x e = subst NotEmpty (sym e) tt
  no_split (z ∷ zs) ys x e = subst NotEmpty (sym e) tt

  -- of each list with one left out, and of each split: the same
  pub out_split : (Q : List X → Type 0) (B : List X) → EachOut Q B → (xs ys : List X) (x : X) → B ≡ xs ++ (x ∷ ys) → Q (xs ++ ys)
  out_split Q [] q xs ys x e = absurd (no_split xs ys x e)
  out_split Q (b ∷ B) q [] ys x e = subst Q (rests e) q.0
  out_split Q (b ∷ B) q (z ∷ zs) ys x e = subst (λ w. Q (w ∷ (zs ++ ys))) (firsts e) (out_split (λ l. Q (b ∷ l)) B q.1 zs ys x (rests e))

  pub split_out : (Q : List X → Type 0) (B : List X) → ((xs ys : List X) (x : X) → B ≡ xs ++ (x ∷ ys) → Q (xs ++ ys)) → EachOut Q B
  split_out Q [] h = tt
  split_out Q (b ∷ B) h = (h [] B b refl, split_out (λ l. Q (b ∷ l)) B (λ xs ys x e. h (b ∷ xs) ys x (ap (λ l. b ∷ l) e)))

  -- a shorter list, with one left out, that passes the test
  pub record Lighter (test : List X → Bool) (B : List X) : Type 0 where
    pub list : List X
    pub part : Sublist list B
    pub shorter : length list < length B
    pub passes : test list ≡ true

  pub lighter_or : (test : List X → Bool) (B : List X) → Lighter test B ⊎ EachOut (λ l. test l ≡ false) B
  lighter_or test [] = inr tt
  lighter_or test (b ∷ B) = ⊎_elim
      (λ t. inl (record { list = B; part = leave (sublist_self B); shorter = omega arith; passes = t }))
      (λ f. ⊎_elim
      (λ s. inl (record { list = b ∷ s.list; part = keep s.part; shorter = omega (arith, s.shorter); passes = s.passes }))
      (λ s. inr (f, s))
      (lighter_or (λ l. test (b ∷ l)) B))
      (cases_Bool (test B))

pub each_out_map : {X Y : Type 0} (f : X → Y) (Q : List Y → Type 0) (B : List X) → EachOut (λ l. Q (map f l)) B → EachOut Q (map f B)
each_out_map f Q [] q = tt
each_out_map f Q (b ∷ B) q = (q.0, each_out_map f (λ l. Q (f b ∷ l)) B q.1)
