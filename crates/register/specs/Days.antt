-- A day: a list of calls on one new register, and the phases that it may come to.
-- Rows, order and basis are followed from the calls and the problem's admission alone; an exchange gives any basis that qualifies.
use Rattle.std.specs.Prelude.{◌≡◌, ℕ, List, [], ◌∷◌, ◌++◌, length, ℤ, Result}
use Rattle.rows.specs.declared.row.Constraint.{Constraint}
use Rattle.rows.specs.declared.refusal.Refusal.{Refusal}
use Rattle.lptype.specs.Meaning.{Meaning}
use Rattle.walk.specs.Walks.{WalkEnds}
use Rattle.walk.specs.Shuffling.{shuffled}
use Rattle.register.specs.State.{State, new_state, Became, EnterAnswer, entered, StrikeAnswer, StruckAt, RestoreAnswer, restored}

-- the calls that reach a register
pub data Call : Type 0 where
  entering : Constraint → Call
  striking : ℤ → Call
  restoring : ℤ → Call
  shuffling : ℕ → Call
  settling : Call
  reopening : Call
  checking : List ℤ → Call

-- a register at work, or one that a walk with so many tests and exchanges has settled
pub data Phase : Type 0 where
  working : State → Phase
  settled : State → ℕ → ℕ → Phase

abbrev pub state_in : Phase → State
state_in (working s) = s
state_in (settled s tests exchanges) = s

abbrev pub with_order : List ℕ → State → State
with_order order s = record { rows = s.rows; order = order; basis = s.basis }

abbrev pub with_basis : List ℤ → State → State
with_basis basis s = record { rows = s.rows; order = s.order; basis = basis }

-- what a call may make of a register, in a phase that takes it; a refused call changes nothing
pub data Makes (m : Meaning) : Phase → Call → Phase → Type 0 where
  enters : {s t : State} (x : Constraint) (r : Result (Unit {0}) Refusal) → EnterAnswer m s x r → Became r s (λ u. u ≡ entered x s) t → Makes m (working s) (entering x) (working t)
  strikes : {s t : State} (p : ℤ) (r : Result (Unit {0}) Refusal) → StrikeAnswer s p r → Became r s (StruckAt p s) t → Makes m (working s) (striking p) (working t)
  restores : {s t : State} (p : ℤ) (r : Result (Unit {0}) Refusal) → RestoreAnswer s p r → Became r s (λ u. u ≡ restored p s) t → Makes m (working s) (restoring p) (working t)
  shuffles : {s : State} (seed : ℕ) → Makes m (working s) (shuffling seed) (working (with_order (shuffled (length s.rows) seed) s))
  settles : {s : State} {basis : List ℤ} {tests exchanges : ℕ} → WalkEnds m s.rows s.order s.basis basis tests exchanges → Makes m (working s) settling (settled (with_basis basis s) tests exchanges)
  reopens : {s : State} {tests exchanges : ℕ} → Makes m (settled s tests exchanges) reopening (working s)
  checks : {p : Phase} (xs : List ℤ) → Makes m p (checking xs) p

pub data Day (m : Meaning) : List Call → Phase → Type 0 where
  begins : Day m [] (working new_state)
  goes_on : {calls : List Call} {call : Call} {p q : Phase} → Day m calls p → Makes m p call q → Day m (calls ++ (call ∷ [])) q

-- the call extends every day that led to p by one that leads to q
abbrev pub Extends : Meaning → Phase → Call → Phase → Type 0
Extends m p call q = (calls : List Call) → Day m calls p → Day m (calls ++ (call ∷ [])) q
