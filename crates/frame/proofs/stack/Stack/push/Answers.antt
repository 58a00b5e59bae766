use Rattle.std.proofs.Common.{◌<◌, length, sym, subst, arith, rules}
use Rattle.frame.specs.Labels.{Stands}
use Rattle.frame.specs.Stacks.{entries_of}
use Rattle.frame.proofs.Down.{length-down_from, down_push}
use Rattle.frame.proofs.Pushing.{push_fits, keeps_push}
use Rattle.frame.proofs.stack.Stack.push.Goals as goal

pub invariant_of-self : goal.invariant_of-self
invariant_of-self c =
    let s = c.args.self.now in
    let fits = push_fits (entries_of s) c.args.entry (sym c.in_ok-admits.ensures) in
    let high = length-down_from s.entries s.len in
    let room : s.len < length s.entries = omega (arith, fits.room) in
    let stands = subst (λ n. Stands n c.args.entry) (sym high) fits.stands in
    record {
      few = omega (arith, fits.room);
      room = search rules;
      rules = keeps_push s.len s.entries c.args.entry room s.rules stands;
    }

pub returns : goal.returns
returns c =
    let s = c.args.self.now in
    let fits = push_fits (entries_of s) c.args.entry (sym c.in_ok-admits.ensures) in
    let room : s.len < length s.entries = omega (arith, fits.room, length-down_from s.entries s.len) in
    (sym c.in_ok-admits.ensures, down_push s.entries s.len c.args.entry room)
