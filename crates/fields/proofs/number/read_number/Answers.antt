use Rattle.std.proofs.Common.{◌≡◌, ◌+◌, ◌∷◌, ◌++◌, get_or, take, drop, None, sym, ap, ◌∙◌, subst, take-append-drop, take_all}
use Rattle.std.proofs.lemmas.List.{take_more, drop_more}
use Rattle.std.proofs.lemmas.Bool.Decides.{when_true, when_false}
use Rattle.fields.specs.Numeral.{IsNumber, NumberRead}
use Rattle.fields.proofs.Reading.{Read, read_step, read_all, read_exactly}
use Rattle.fields.proofs.number.read_number.Goals as goal

pub returns-then-not-step : goal.returns-then-not-step
returns-then-not-step c =
    let f = c.args.field.now in
    let i = c.loop-byte.byte-index in
    let stuck = when_false _ _ c.if-not-step.true (read_step _ _ _ (take i f) (get_or f i 0) c.loop-byte.invariant c.step.ensures) in
    let whole : take i f ++ (get_or f i 0 ∷ drop (i + 1) f) ≡ f = ap (λ l. take i f ++ l) (sym (drop_more f i 0 c.loop-byte-test.true)) ∙ take-append-drop i f in
    let none = subst (λ l. IsNumber l → ⊥) whole (stuck (drop (i + 1) f)) in
    record { read = none; exactly = read_exactly f None none }

pub loop-byte-preserved : goal.loop-byte-preserved
loop-byte-preserved c =
    let f = c.args.field.now in
    let i = c.loop-byte.byte-index in
    let more = when_true _ _ c.if-not-step.false (read_step _ _ _ (take i f) (get_or f i 0) c.loop-byte.invariant c.step.ensures) in
    subst (Read c.step.new.self) (sym (take_more f i 0 c.loop-byte-test.true)) more

pub returns : goal.returns
returns c =
    let f = c.args.field.now in
    let n = c.loop-byte.reader in
    let read = subst (Read n) (take_all c.loop-byte.byte-index f c.loop-byte-test.false) c.loop-byte.invariant in
    let number = subst (NumberRead f) (sym c.number.ensures) (read_all n.state f read) in
    record { read = number; exactly = read_exactly f c.number.result number }
