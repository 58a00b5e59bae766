use Rattle.std.proofs.Common.{ℕ, ◌<◌, ◌≢◌}
use Rattle.plant.specs.Plants.{partner}
use Rattle.tunnel.specs.Tunnels.{hop}
use Rattle.tunnel.proofs.rules.apart.Given as goal

abbrev pub invariant-loop-i : goal.invariant-loop-i
invariant-loop-i l = (a b : ℕ) → a < l.i → b < a → (hop l.path b ≢ hop l.path a) × (hop l.path b ≢ partner (hop l.path a))
