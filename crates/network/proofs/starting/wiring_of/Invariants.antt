use Rattle.std.proofs.Common.{◌≡◌, ℕ, ◌<◌, Some}
use Rattle.labels.specs.Wirings.{begin_of, end_of}
use Rattle.network.proofs.starting.wiring_of.Given as goal

abbrev pub invariant-loop-line : goal.invariant-loop-line
invariant-loop-line g l =
    (l.wiring.lines ≡ l.line)
    × ((e : ℕ) → e < l.line → begin_of l.wiring e ≡ Some ((g.P.Plant.value l.plant).shape.line e).from)
    × ((e : ℕ) → e < l.line → end_of l.wiring e ≡ Some ((g.P.Plant.value l.plant).shape.line e).to)
