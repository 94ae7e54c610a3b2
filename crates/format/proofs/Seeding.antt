-- A number that is no seed, and the fields that write it.
use Rattle.std.proofs.Common.{◌≡◌, ℕ, ◌+◌, ◌^◌, ◌<◌, true, List, [], ◌∷◌, length, get_or, ℤ, pos, negsuc, Err, sym, refl, subst, inl, inr, arith}
use lib.Signed.{mag}
use Rattle.std.specs.Fmt.{signed_decimal}
use Rattle.std.proofs.lemmas.Fmt.{signed_decimal_injective}
use Rattle.std.proofs.lemmas.Bool.{eqb-true}
use Rattle.rows.specs.declared.refusal.Refusal.{Refusal}
use Rattle.fields.specs.Numeral.{Writes}
use Rattle.words.specs.Words.{command_spelling, command_counts}
use Rattle.words.specs.declared.keyword.CommandWord.{CommandWord}
use Rattle.words.specs.declared.keyword.CommandWord.TheVariants as command
use Rattle.format.specs.Command.{CommandWritten, written}
use Rattle.format.specs.Seed.{IsSeed, WritesSeed, SeedJudged}

small : (z : ℤ) (field : List ℕ) → Writes field z → mag z < 2 ^ 63
small (pos n) field w = omega arith
small (negsuc n) field w = omega arith

-- the number is the only one that its writing can be
pub only_seed : (z : ℤ) → mag z < 2 ^ 63 → WritesSeed (signed_decimal z) → IsSeed z
only_seed z fits (y, w, s) = subst IsSeed (sym (signed_decimal_injective z y fits (small y (signed_decimal z) w) w.0)) s

refused_one : (zs : List ℤ) (e : Refusal) → length zs ≡ 1 → mag (get_or zs 0 (pos 0)) < 2 ^ 63 → SeedJudged (get_or zs 0 (pos 0)) (Err e) → CommandWritten (written command_spelling command.Shuffle zs) (Err e)
refused_one [] e one fits j = absurd (omega arith)
refused_one (z ∷ []) e one fits (inl r) = inl (r.0, λ seeded. r.1 (only_seed z fits (seeded refl).0))
refused_one (z ∷ []) e one fits (inr r) = absurd r.1
refused_one (z ∷ y ∷ zs) e one fits j = absurd (omega arith)

-- shuffle with a number that is refused as a seed
pub shuffle_refused : (w : CommandWord) (xs zs : List ℤ) (e : Refusal) → w ≡ command.Shuffle → xs ≡ zs → command_counts w (1 + length zs) ≡ true → mag (get_or xs 0 (pos 0)) < 2 ^ 63 → SeedJudged (get_or xs 0 (pos 0)) (Err e) → CommandWritten (written command_spelling w zs) (Err e)
shuffle_refused w xs zs e is same counts fits j =
    let two = rw is at counts in
    let one = eqb-true (1 + length zs) 2 two in
    rw is (refused_one zs e (omega arith) (rw same at fits) (rw same at j))
