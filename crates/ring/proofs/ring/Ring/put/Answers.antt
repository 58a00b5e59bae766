use Rattle.std.proofs.Common.{vec_items, arith}
use Rattle.frame.specs.Frames.{frame_value}
use Rattle.plant.proofs.Laws.{welcome}
use Rattle.ring.specs.Rings.{value_of}
use Rattle.ring.specs.Steps.{long}
use Rattle.ring.proofs.Told.{put_done}
use Rattle.ring.proofs.ring.Ring.put.Goals as goal

pub extend-requires : goal.extend-requires
extend-requires c =
    let s = c.args.self.now in
    let fine = welcome (value_of s) c.args.line (frame_value c.args.frame) c.requires in
    omega (arith, fine.room, long s.rows s.lines (vec_items s.places) c.args.line fine.line)

pub invariant_of-self : goal.invariant_of-self
invariant_of-self c =
    let s = c.args.self.now in
    let done = put_done s.rows s.lines (vec_items s.places) c.args.line s.sound c.args.frame c.requires c.extend.result c.extend.ensures c.wrapped.result c.wrapped.ensures in
    record { sound = done.sound }

pub returns : goal.returns
returns c =
    let s = c.args.self.now in
    let done = put_done s.rows s.lines (vec_items s.places) c.args.line s.sound c.args.frame c.requires c.extend.result c.extend.ensures c.wrapped.result c.wrapped.ensures in
    record { sends = (c.requires, done.joins); future = done.future }
