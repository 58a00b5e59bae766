use Rattle.std.proofs.Common.{vec_items, arith}
use Rattle.lookup.proofs.Taking.{add_keeps}
use Rattle.lookup.proofs.plan.Plan.add.Goals as goal

pub invariant_of-self : goal.invariant_of-self
invariant_of-self c =
    let p = c.args.self.now in
    let k =
    add_keeps (vec_items p.fecs) c.deref.result.now (vec_items c.push_reserved.new.self) c.in_ok-fec.fec
    c.args.address c.args.len c.is_taken.result c.deref.ensures.value c.is_taken.ensures c.if-is_taken.false
    c.in_ok-fec.ensures c.push_reserved.ensures.items p.fit p.apart
    in
    record { few = omega arith; room = omega arith; fit = k.0; apart = k.1 }
