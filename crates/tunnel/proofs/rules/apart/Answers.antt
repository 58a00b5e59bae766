use Rattle.std.proofs.Common.{◌≡◌, ◌<◌, ◌≢◌, ◌⊎◌, get_or, take, sym, subst, ⊎_elim, rules, arith}
use borrow.Author.Tests.{tests}
use Rattle.std.proofs.lemmas.Bool.{cases_eq}
use Rattle.std.proofs.lemmas.Iterator.{cases_from_any, YieldsList-from_slice}
use Rattle.plant.specs.Plants.{partner}
use Rattle.tunnel.specs.Tunnels.{hop}
use Rattle.tunnel.proofs.Hops.{twice, once}
use Rattle.tunnel.proofs.rules.apart.Goals as goal

pub returns-then-any : goal.returns-then-any
returns-then-any c =
    let xs = c.hops-hops.result.now in
    let of_path = c.hops-hops.ensures in
    let i = c.loop-i.i in
    let two = get_or xs i 0 in
    let lt : i < c.args.path.now.len = omega (arith, of_path.count, c.loop-i-test.true) in
    twice c.args.path.now xs of_path i lt two (of_path.each i 0 lt) c.any.result
    (cases_from_any _ _ c.any.result (λ x. (x ≡ two) ⊎ (x ≡ partner two)) (λ x. (x ≢ two) × (x ≢ partner two)) c.any.ensures.ran (YieldsList-from_slice (take i xs) cc) (λ x q k. search (rules, tests)) (λ x q k. search (rules, tests))) c.if-any.true

pub loop-i-preserved : goal.loop-i-preserved
loop-i-preserved c a b more lt' =
    let xs = c.hops-hops.result.now in
    let of_path = c.hops-hops.ensures in
    let i = c.loop-i.i in
    let two = get_or xs i 0 in
    let lt : i < c.args.path.now.len = omega (arith, of_path.count, c.loop-i-test.true) in
    let p = c.args.path.now in
    ⊎_elim
    (λ e. subst (λ k. (hop p b ≢ hop p k) × (hop p b ≢ partner (hop p k))) (sym e) (once p xs of_path i lt two (of_path.each i 0 lt) c.any.result
    (cases_from_any _ _ c.any.result (λ x. (x ≡ two) ⊎ (x ≡ partner two)) (λ x. (x ≢ two) × (x ≢ partner two)) c.any.ensures.ran (YieldsList-from_slice (take i xs) cc) (λ x q k. search (rules, tests)) (λ x q k. search (rules, tests))) c.if-any.false b (omega arith)))
    (λ ne. c.loop-i.invariant a b (omega arith) lt')
    (cases_eq a i)

pub returns : goal.returns
returns c i j lt lt' = c.loop-i.invariant i j (omega (arith, c.hops-hops.ensures.count, c.loop-i-test.false)) lt'
