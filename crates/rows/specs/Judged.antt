-- How a call judges what it is handed: one requirement after another, each with its own refusal.
use Rattle.std.specs.Prelude.{◌≡◌, ◌⊎◌, Ok, Err, Result}
use Rattle.rows.specs.declared.refusal.Refusal.{Refusal}

-- the call is not refused, and P holds of what it gives
abbrev pub Gives : {T : Type 0} → (T → Type 0) → Result T Refusal → Type 0
Gives P (Ok t) = P t
Gives P (Err e) = ⊥

-- refused with n exactly where C fails; where C holds, K says the rest
abbrev pub Unless : {T : Type 0} → Refusal → Type 0 → (Result T Refusal → Type 0) → Result T Refusal → Type 0
Unless n C K (Ok t) = C × K (Ok t)
Unless n C K (Err e) = ((e ≡ n) × (C → ⊥)) ⊎ (C × K (Err e))
