use Rattle.std.proofs.Common.{◌≡◌}
use Rattle.lookup.specs.Fecs.{covers_by}
use Rattle.lookup.specs.Matches.{longest_to}
use Rattle.lookup.proofs.matching.longest_match.Given as goal

abbrev pub invariant-loop-i : goal.invariant-loop-i
invariant-loop-i g l = l.best ≡ longest_to (covers_by g.T.AddressKind.agrees g.T.AddressKind.held l.address) l.table l.i
