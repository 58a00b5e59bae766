use Rattle.std.proofs.Common.{◌≡◌, true, false, sym, ◌∙◌, arith}
use Rattle.model.proofs.Firsts.{label_found, label_missing}
use Rattle.grid.proofs.number.Label.smallest.Goals as goal

pub returns-then-test : goal.returns-then-test
returns-then-test g c p is =
    let l = c.loop-number.number in
    let least = c.loop-number.auto.number in
    let most = c.loop-number-test.true in
    let passes : p l ≡ true = sym (is l least most c.test.result c.test.ensures) ∙ c.if-test.true in
    sym (label_found p l least most passes (λ j a b. sym (is j a (omega (arith, b, most)) false (c.loop-number.invariant j a b))))

pub returns : goal.returns
returns g c p is = sym (label_missing p (λ j a b. sym (is j a b false (c.loop-number.invariant j a (omega (arith, b, c.loop-number-test.false))))))
