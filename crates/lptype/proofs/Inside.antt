-- Lists by what occurs in them, and which rows of a list are admitted.
use Rattle.std.proofs.Common.{◌≡◌, ◌⊎◌, List, [], ◌∷◌, ◌++◌, map, ℤ, sym, refl, ap, subst, inl, inr, ⊎_elim}
use Rattle.std.specs.List.{AllByRecursion}
use Rattle.rows.specs.Pool.{inserted}
use Rattle.rows.proofs.Inserting.{between}
use Rattle.rows.specs.Sublist.{Sublist, nothing, leave, keep}
use Rattle.rows.specs.declared.row.Constraint.{Constraint}
use Rattle.lptype.specs.Meaning.{Meaning, In, Within, Admitted}
use Rattle.lptype.specs.Places.{Fine}

module _ {X : Type 0} where
  pub all_in : (P : X → Type 0) (xs : List X) (x : X) → AllByRecursion P xs → In x xs → P x
  all_in P [] x a i = absurd i
  all_in P (y ∷ ys) x a (inl e) = subst P (sym e) a.0
  all_in P (y ∷ ys) x a (inr i) = all_in P ys x a.1 i

  pub all_from_in : (P : X → Type 0) (xs : List X) → ((x : X) → In x xs → P x) → AllByRecursion P xs
  all_from_in P [] h = tt
  all_from_in P (y ∷ ys) h = (h y (inl refl), all_from_in P ys (λ x i. h x (inr i)))

  pub all_within : (P : X → Type 0) (xs ys : List X) → Within xs ys → AllByRecursion P ys → AllByRecursion P xs
  all_within P xs ys w a = all_from_in P xs (λ x i. all_in P ys x a (w x i))

  pub in_left : (xs ys : List X) (x : X) → In x xs → In x (xs ++ ys)
  in_left [] ys x i = absurd i
  in_left (z ∷ zs) ys x (inl e) = inl e
  in_left (z ∷ zs) ys x (inr i) = inr (in_left zs ys x i)

  pub in_right : (xs ys : List X) (x : X) → In x ys → In x (xs ++ ys)
  in_right [] ys x i = i
  in_right (z ∷ zs) ys x i = inr (in_right zs ys x i)

  pub in_either : (xs ys : List X) (x : X) → In x (xs ++ ys) → In x xs ⊎ In x ys
  in_either [] ys x i = inr i
  in_either (z ∷ zs) ys x (inl e) = inl (inl e)
  in_either (z ∷ zs) ys x (inr i) = ⊎_elim (λ k. inl (inr k)) inr (in_either zs ys x i)

  -- one element put between, or in front: the same elements
  pub front_between : (xs ys : List X) (x : X) → Within (x ∷ (xs ++ ys)) (xs ++ (x ∷ ys))
  front_between xs ys x y (inl e) = in_right xs (x ∷ ys) y (inl e)
  front_between xs ys x y (inr i) = ⊎_elim (in_left xs (x ∷ ys) y) (λ k. in_right xs (x ∷ ys) y (inr k)) (in_either xs ys y i)

  pub between_front : (xs ys : List X) (x : X) → Within (xs ++ (x ∷ ys)) (x ∷ (xs ++ ys))
  between_front xs ys x y i = ⊎_elim
      (λ k. inr (in_left xs ys y k))
      (λ k. elim k [ inl e ↦ inl e | inr j ↦ inr (in_right xs ys y j) ])
      (in_either xs (x ∷ ys) y i)

pub in_map : {X Y : Type 0} (f : X → Y) (xs : List X) (x : X) → In x xs → In (f x) (map f xs)
in_map f [] x i = absurd i
in_map f (y ∷ ys) x (inl e) = inl (ap f e)
in_map f (y ∷ ys) x (inr i) = inr (in_map f ys x i)

pub in_unmap : {X Y : Type 0} (f : X → Y) (xs : List X) (y : Y) → In y (map f xs) → (x : X) × In x xs × (y ≡ f x)
in_unmap f [] y i = absurd i
in_unmap f (x ∷ xs) y (inl e) = (x, inl refl, e)
in_unmap f (x ∷ xs) y (inr i) = let r = in_unmap f xs y i in (r.0, inr r.1, r.2)

pub within_map : {X Y : Type 0} (f : X → Y) (xs ys : List X) → Within xs ys → Within (map f xs) (map f ys)
within_map f xs ys w y i =
    let r = in_unmap f xs y i in
    subst (λ z. In z (map f ys)) (sym r.2) (in_map f ys r.0 (w r.0 r.1))

pub sublist_within : {X : Type 0} {xs ys : List X} → Sublist xs ys → Within xs ys
sublist_within nothing x i = i
sublist_within (leave s) x i = inr (sublist_within s x i)
sublist_within (keep s) x (inl e) = inl e
sublist_within (keep s) x (inr i) = inr (sublist_within s x i)

-- a number put in by order, or in front: the same elements
pub inserted_within : (h : ℤ) (xs : List ℤ) → Within (inserted h xs) (h ∷ xs)
inserted_within h xs x i =
    let b = between h xs in
    subst (λ l. In x (h ∷ l)) (sym b.whole) (between_front b.before b.after h x (subst (In x) b.joined i))

pub within_inserted : (h : ℤ) (xs : List ℤ) → Within (h ∷ xs) (inserted h xs)
within_inserted h xs x i =
    let b = between h xs in
    subst (In x) (sym b.joined) (front_between b.before b.after h x (subst (λ l. In x (h ∷ l)) b.whole i))

pub within_admitted : (m : Meaning) (F G : List Constraint) → Within F G → Admitted m G → Admitted m F
within_admitted m F G w a = all_within (Fine m) F G w a
