-- From one judgement to another with equivalent requirements.
use Rattle.std.proofs.Common.{◌↔◌, List, ℤ, Ok, Err, Result, inl, inr}
use Rattle.rows.specs.Judged.{Gives, Unless}
use Rattle.rows.specs.declared.row.Row.{Row}
use Rattle.rows.specs.declared.refusal.Refusal.{Refusal}
use Rattle.rows.specs.declared.refusal.Refusal.TheVariants.{NoRow, NotAdmitted, NotStanding}
use Rattle.rows.specs.Row.{Named, picked}
use Rattle.lptype.specs.Meaning.{Meaning, Admitted}
use Rattle.lptype.specs.Places.{AllFine}
use Rattle.lptype.specs.Questions.{Judged}

module _ {T : Type 0} where
  pub gives_map : (P Q : T → Type 0) → ((t : T) → P t → Q t) → (r : Result T Refusal) → Gives P r → Gives Q r
  gives_map P Q f (Ok t) p = f t p
  gives_map P Q f (Err e) p = p

  pub unless_map : (n : Refusal) (C D : Type 0) (K L : Result T Refusal → Type 0) → C ↔ D → (r : Result T Refusal) → (C → K r → L r) → Unless n C K r → Unless n D L r
  unless_map n C D K L i (Ok t) f u = (i.0 u.0, f u.0 u.1)
  unless_map n C D K L i (Err e) f (inl u) = inl (u.0, λ d. u.1 (i.1 d))
  unless_map n C D K L i (Err e) f (inr u) = inr (i.0 u.0, f u.0 u.1)

-- the second judgement may be of any layer over m, since that admits the same rows
module _ (m : Meaning) (rows : List Row) (ps : List ℤ) {T : Type 0} (r : Result T Refusal) where
  pub judged_map : (K L : Result T Refusal → Type 0) → (AllFine m rows ps → K r → L r) → Judged m rows ps K r → Judged m rows ps L r
  judged_map K L f =
      let named = Named rows ps in
      let admitted = Admitted m (picked rows ps) in
      unless_map NoRow named named (Unless NotAdmitted admitted K) (Unless NotAdmitted admitted L) ((λ a. a), (λ a. a)) r
      (λ a. unless_map NotAdmitted admitted admitted K L ((λ b. b), (λ b. b)) r (λ b. f (a, b)))

  -- an answer about any rows
  pub answered_map : (P Q : T → Type 0) → (AllFine m rows ps → (t : T) → P t → Q t) → Judged m rows ps (Gives P) r → Judged m rows ps (Gives Q) r
  answered_map P Q f = judged_map (Gives P) (Gives Q) (λ a. gives_map P Q (f a) r)

  -- an answer about rows that stand
  pub standing_map : (C D : Type 0) (P Q : T → Type 0) → (AllFine m rows ps → C ↔ D) → (AllFine m rows ps → C → (t : T) → P t → Q t) → Judged m rows ps (Unless NotStanding C (Gives P)) r → Judged m rows ps (Unless NotStanding D (Gives Q)) r
  standing_map C D P Q s f =
      judged_map (Unless NotStanding C (Gives P)) (Unless NotStanding D (Gives Q))
      (λ a. unless_map NotStanding C D (Gives P) (Gives Q) (s a) r (λ c. gives_map P Q (f a c) r))
