use Rattle.std.proofs.Common.{◌+◌, ◌<◌, map, length, get_or, vec_items, sym, ap, ◌∙◌, arith}
use Rattle.std.proofs.lemmas.List.{get_or-map}
use Rattle.frame.specs.Frames.{frame_value}
use Rattle.plant.specs.Questions.{no_frame}
use Rattle.ring.specs.Rows.{row_at}
use Rattle.ring.specs.Runs.{run_get}
use Rattle.ring.specs.Steps.{here, place_used, place_inside}
use Rattle.ring.proofs.ring.Ring.frame_at.Goals as goal

pub overflow_add-row : goal.overflow_add-row
overflow_add-row c =
    let s = c.args.self.now in
    let o = s.sound.row c.args.line c.requires.line in
    omega (arith, place_used s.rows s.lines (vec_items s.places) s.sound c.args.line c.requires.line c.args.place c.requires.place, o.head, o.len, o.cap_most)

pub overflow_add-row-2 : goal.overflow_add-row-2
overflow_add-row-2 c =
    let s = c.args.self.now in
    omega (arith, place_inside s.rows s.lines (vec_items s.places) s.sound c.args.line c.requires.line c.args.place c.requires.place, c.wrapped.ensures)

pub index-requires : goal.index-requires
index-requires c =
    let s = c.args.self.now in
    omega (arith, place_inside s.rows s.lines (vec_items s.places) s.sound c.args.line c.requires.line c.args.place c.requires.place, c.wrapped.ensures)

pub returns : goal.returns
returns c =
    let s = c.args.self.now in
    let items = vec_items s.places in
    let row = row_at s.rows c.args.line in
    let o = s.sound.row c.args.line c.requires.line in
    let used = place_used s.rows s.lines items s.sound c.args.line c.requires.line c.args.place c.requires.place in
    let inside = place_inside s.rows s.lines items s.sound c.args.line c.requires.line c.args.place c.requires.place in
    let within : row.base + c.wrapped.result < length items = omega (arith, inside, c.wrapped.ensures) in
    ap frame_value c.index.ensures ∙ sym (get_or-map frame_value items (row.base + c.wrapped.result) c.index.result.now no_frame within)
    ∙ ap (λ k. get_or (map frame_value items) (row.base + k) no_frame) c.wrapped.ensures
    ∙ sym (run_get (map frame_value items) row.base row.cap row.head row.len c.args.place o.head o.len used)
    ∙ ap (λ xs. get_or xs c.args.place no_frame) (sym (here s.rows s.lines items c.args.line c.requires.line))
