use Rattle.std.proofs.Common.{◌<◌, Bool, length, Some, sym, ◌∙◌, arith, rules}
use Rattle.lookup.specs.declared.fec.Fec.{Fec}
use Rattle.lookup.specs.Fecs.{covers_by}
use Rattle.lookup.proofs.Longest.{best_so_far}
use Rattle.lookup.proofs.matching.longest_match.Goals as goal

pub is_none_or-requires : goal.is_none_or-requires
is_none_or-requires g c = λ x e.
    let test : Fec → Bool = covers_by g.T.AddressKind.agrees g.T.AddressKind.held c.args.address.now in
    let low : x < c.loop-i.i = (best_so_far test c.args.table.now c.loop-i.i (Some x) (sym e ∙ c.loop-i.invariant)).low in
    let within : x < length c.args.table.now = omega arith in
    search rules
