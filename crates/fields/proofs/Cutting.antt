-- The parts of a list cut at a byte: how many there are, what they join to, and which is first.
use Rattle.std.proofs.Common.{◌≡◌, ℕ, zero, suc, ◌+◌, ◌-◌, ◌<◌, ◌≤◌, cond, eqb, leb, List, [], ◌∷◌, length, get_or, take, drop, count_by, sym, refl, ap, ◌∙◌, ⊎_elim, arith, length-drop, take_all}
use Rattle.std.proofs.lemmas.List.{drop-drop}
use Rattle.std.proofs.lemmas.List.Sums.{sum_by-cons}
use Rattle.std.proofs.lemmas.Bool.{cond_both, eqb-true, eqb-false, eq-eqb, ne_eqb, le-leb, lt-leb, cases_lt, cases_Bool, cond-true, cond-false}
use Rattle.fields.specs.Parts.{led, parts, rejoined, PartsOf}
use Rattle.fields.specs.Fields.{fields_from}

-- there is always a part
pub some_part : (sep : ℕ) (bs : List ℕ) → (p : List ℕ) × (ps : List (List ℕ)) × (parts sep bs ≡ p ∷ ps)
some_part sep [] = ([], [], refl)
some_part sep (b ∷ bs) = cond_both (eqb b sep) _ _ (λ qs. (p : List ℕ) × (ps : List (List ℕ)) × (qs ≡ p ∷ ps)) (λ is. ([], parts sep bs, refl)) (λ no. let s = some_part sep bs in (b ∷ s.0, s.1, ap (led b) s.2))

rejoined_led : (sep b : ℕ) (p : List ℕ) (ps : List (List ℕ)) → rejoined sep ((b ∷ p) ∷ ps) ≡ b ∷ rejoined sep (p ∷ ps)
rejoined_led sep b p [] = refl
rejoined_led sep b p (q ∷ ps) = refl

pub parts_of : (sep : ℕ) (bs : List ℕ) → PartsOf sep bs (parts sep bs)
parts_of sep [] = (refl, (tt, tt))
parts_of sep (b ∷ bs) =
    let s = some_part sep bs in
    let h = rw s.2 at (parts_of sep bs) in
    cond_both (eqb b sep) _ _ (PartsOf sep (b ∷ bs))
    (λ is. rw s.2 (ap (λ x. x ∷ rejoined sep (s.0 ∷ s.1)) (sym (eqb-true b sep is)) ∙ ap (λ l. b ∷ l) h.0, (tt, h.1)))
    (λ other. rw s.2 (rejoined_led sep b s.0 s.1 ∙ ap (λ l. b ∷ l) h.0, ((eqb-false b sep other, h.1.0), h.1.1)))

length_led : (sep b : ℕ) (bs : List ℕ) → length (led b (parts sep bs)) ≡ length (parts sep bs)
length_led sep b bs = let s = some_part sep bs in rw s.2 refl

pub length_parts : (sep : ℕ) (bs : List ℕ) → length (parts sep bs) ≡ 1 + count_by (λ b. eqb b sep) bs
length_parts sep [] = refl
length_parts sep (b ∷ bs) =
    let more = sum_by-cons (λ x. cond (eqb x sep) 1 0) b bs in
    let old = length_parts sep bs in
    let same = length_led sep b bs in
    ⊎_elim (λ is. let one = cond-true {A = ℕ} (eqb b sep) 1 0 is in rw (cond-true (eqb b sep) ([] ∷ parts sep bs) (led b (parts sep bs)) is) (omega arith))
    (λ other. let none = cond-false {A = ℕ} (eqb b sep) 1 0 other in rw (cond-false (eqb b sep) ([] ∷ parts sep bs) (led b (parts sep bs)) other) (omega arith))
    (cases_Bool (eqb b sep))

abbrev pub Free : ℕ → List ℕ → ℕ → Type 0
Free sep bs n = (k : ℕ) → k < n → get_or bs k 0 ≡ sep → ⊥

-- the first part ends at the first sep, and where there is none it is all
pub cut_at : (sep : ℕ) (bs : List ℕ) (n : ℕ) → n < length bs → Free sep bs n → get_or bs n 0 ≡ sep → parts sep bs ≡ take n bs ∷ parts sep (drop (suc n) bs)
cut_at sep [] n h free at = absurd (omega arith)
cut_at sep (b ∷ bs) zero h free at = cond-true (eqb b sep) _ _ (eq-eqb b sep at)
cut_at sep (b ∷ bs) (suc n) h free at =
    cond-false (eqb b sep) _ _ (ne_eqb b sep (free 0 (omega arith))) ∙ ap (led b) (cut_at sep bs n (omega arith) (λ k l. free (suc k) (omega arith)) at)

pub uncut : (sep : ℕ) (bs : List ℕ) → Free sep bs (length bs) → parts sep bs ≡ bs ∷ []
uncut sep [] free = refl
uncut sep (b ∷ bs) free =
    cond-false (eqb b sep) _ _ (ne_eqb b sep (free 0 (omega arith))) ∙ ap (led b) (uncut sep bs (λ k l. free (suc k) (omega arith)))

-- a reader of fields goes from index i, at which rest begins, to past the next comma, which is n bytes on, or past the end
pub next_field : (line rest : List ℕ) (i n : ℕ) → rest ≡ drop i line → i ≤ length line → n ≤ length rest → Free 44 rest n → (n < length rest → get_or rest n 0 ≡ 44) → fields_from line i ≡ take n rest ∷ fields_from line (i + (n + 1))
next_field line rest i n e h within free at =
    let d : drop (suc n) rest ≡ drop (i + (n + 1)) line = ap (drop (suc n)) e ∙ drop-drop (suc n) i line ∙ ap (λ k. drop k line) (omega arith) in
    let l : length rest ≡ length line - i = ap length e ∙ length-drop i line in
    cond-true (leb i (length line)) _ _ (le-leb i (length line) h) ∙ ap (parts 44) (sym e) ∙
    ⊎_elim
    (λ inside.
    cut_at 44 rest n inside free (at inside)
    ∙ ap (λ ps. take n rest ∷ ps) (ap (parts 44) d ∙ sym (cond-true _ _ _ (le-leb (i + (n + 1)) (length line) (omega arith)))))
    (λ end.
    uncut 44 rest (λ k less. free k (omega arith))
    ∙ ap (λ x. x ∷ []) (sym (take_all n rest end))
    ∙ ap (λ ps. take n rest ∷ ps) (sym (cond-false _ _ _ (lt-leb (i + (n + 1)) (length line) (omega arith)))))
    (cases_lt n (length rest))
