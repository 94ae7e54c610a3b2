-- How a number is read byte by byte.
use Rattle.std.specs.Prelude.{◌≡◌, ℕ, ◌+◌, ◌-◌, ◌*◌, Bool, true, false, cond, ◌&&◌, ℤ, pos, negsuc, neg_ℤ, Some, None, Option, MatchOption, ◌==◌, nat_le, nat_lt, unsigned_abs}
use Rattle.fields.specs.declared.number.NumberReader.{NumberReader}
use Rattle.fields.specs.declared.number.State.{State}
use Rattle.fields.specs.declared.number.State.TheVariants.{Start, Minus, Zero, Digits}

abbrev pub fresh : NumberReader
fresh = record { state = Start }

-- the number with one more digit at its end
abbrev pub extended : ℤ → ℕ → ℤ
extended (pos n) d = pos (n * 10 + d)
extended (negsuc n) d = negsuc (n * 10 + 9 + d)

-- s where t holds
abbrev pub only : Bool → State → Option State
only t s = cond t (Some s) None

-- the state after one more byte, where a number may go on so
abbrev pub after : State → ℕ → Option State
after Start b =
    cond (b == 45) (Some Minus)
    (cond (b == 48) (Some Zero)
    (only (nat_le 49 b && nat_le b 57) (Digits (pos (b - 48)))))
after Minus b = only (nat_le 49 b && nat_le b 57) (Digits (neg_ℤ (pos (b - 48))))
after Zero b = None
after (Digits v) b = only ((nat_le 48 b && nat_le b 57) && nat_lt (unsigned_abs v) 1000000000) (Digits (extended v (b - 48)))

-- what a step answers, and what it leaves
abbrev pub Stepped : NumberReader → ℕ → Bool → NumberReader → Type 0
Stepped n b r m = MatchOption (after n.state b) ((r ≡ false) × (m ≡ n)) (λ s. (r ≡ true) × (m ≡ record { state = s }))

abbrev pub number_in : State → Option ℤ
number_in Start = None
number_in Minus = None
number_in Zero = Some (pos 0)
number_in (Digits v) = Some v

-- the number that the bytes so far write, if they are one
abbrev pub number_of : NumberReader → Option ℤ
number_of n = number_in n.state
