use Rattle.std.proofs.Common.{vec_items, arith}
use Rattle.frame.specs.Frames.{frame_value}
use Rattle.ring.proofs.Told.{told_row, take_done}
use Rattle.ring.proofs.ring.Ring.take.Goals as goal

pub invariant_of-self : goal.invariant_of-self
invariant_of-self c =
    let s = c.args.self.now in
    let done = take_done s.rows s.lines (vec_items s.places) c.args.port s.sound c.in_ok-row.row c.in_ok-row.ensures.row (omega (arith, c.if-row-eq0.false))
    (frame_value c.oldest-frame.result) c.oldest-frame.ensures c.advance.result c.advance.ensures in
    record { sound = done.sound }

pub returns : goal.returns
returns c =
    let s = c.args.self.now in
    let here = told_row s.rows s.lines (vec_items s.places) c.args.port c.in_ok-row.row c.in_ok-row.ensures.row in
    let done = take_done s.rows s.lines (vec_items s.places) c.args.port s.sound c.in_ok-row.row c.in_ok-row.ensures.row (omega (arith, c.if-row-eq0.false))
    (frame_value c.oldest-frame.result) c.oldest-frame.ensures c.advance.result c.advance.ensures in
    record { taken = ((here.0, omega (arith, c.in_ok-row.ensures.len, c.if-row-eq0.false)), done.hands); turn = done.turn; future = done.future }
