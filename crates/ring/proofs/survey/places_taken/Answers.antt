use Rattle.std.proofs.Common.{arith}
use Rattle.ring.proofs.Scans.{caps_few, taken_all}
use Rattle.ring.proofs.survey.places_taken.Goals as goal

pub caps-requires : goal.caps-requires
caps-requires c = omega (arith, c.requires.few, caps_few c.args.links.now c.requires.links)

pub overflow_mul-result : goal.overflow_mul-result
overflow_mul-result c = omega (arith, c.requires.few, c.caps.ensures, caps_few c.args.links.now c.requires.links)

pub returns : goal.returns
returns c = omega (arith, c.caps.ensures, taken_all c.args.links.now)
