-- What follows for a row that was told for a line, and for a frame that is put there or taken. Assumes nothing.
use Rattle.std.proofs.Common.{◌≡◌, ℕ, ◌+◌, ◌<◌, ◌≢◌, List, length, get_or, set, Some, None, Option, unwrap_or, sym, ap, ◌∙◌, ⊎_elim, arith}
use Rattle.std.specs.Option.{IfSome}
use Rattle.std.proofs.lemmas.Bool.{cases_lt, cond-true, cond-false, lt-ltb, le-ltb}
use Rattle.std.proofs.lemmas.Option.{none-some}
use Rattle.frame.specs.declared.frame.Frame.{Frame}
use Rattle.frame.specs.Frames.{FrameValue, frame_value}
use Rattle.plant.specs.Answers.{send_refusal}
use Rattle.plant.specs.Questions.{of_line, no_frame}
use Rattle.plant.proofs.Laws.{welcome}
use Rattle.ring.specs.declared.row.Row.{Row}
use Rattle.ring.specs.Rows.{row_at, spot, advanced, extended}
use Rattle.ring.specs.Order.{RingOk, ring_shape, ring_lists}
use Rattle.ring.specs.Steps.{ring_value, long, Stored, Freed, stored, freed}

module _ (rows : List Row) (n : ℕ) (items : List Frame) (l : ℕ) where
  abbrev told : Option Row
  told = of_line (ring_shape rows n) l (row_at rows l)

  -- it is the row of a line that exists
  pub told_row : (row : Row) → Some row ≡ told → (l < n) × (row ≡ row_at rows l)
  told_row row e = ⊎_elim (λ lt. (lt, ap (λ o. unwrap_or o row) (e ∙ cond-true _ (Some (row_at rows l)) None (lt-ltb l n lt))))
      (λ le. absurd (none-some row (sym (e ∙ cond-false _ (Some (row_at rows l)) None (le-ltb l n le)))))
      (cases_lt l n)

  -- it holds as many frames as wait on the line
  pub told_len : (o : Option Row) → o ≡ told → IfSome o (λ row. row.len ≡ length (ring_lists rows n items l))
  told_len None e = tt
  told_len (Some row) e = let here = told_row row e in ap (λ (r : Row). r.len) here.1 ∙ sym (long rows n items l here.0)

  -- a frame that nothing refuses is put behind the newest
  pub put_done : RingOk rows n items → (frame : Frame) → send_refusal (ring_value rows n items) l (frame_value frame) ≡ None
      → (row : Row) → row ≡ extended (row_at rows l) → (k : ℕ) → k ≡ spot (row_at rows l).cap ((row_at rows l).head + (row_at rows l).len)
      → Stored rows n items l frame (set rows l row) (set items ((row_at rows l).base + k) frame)
  put_done ok frame none row e k q = let fine = welcome (ring_value rows n items) l (frame_value frame) none in stored rows n items ok l fine.line frame fine row e k q

  -- the oldest frame is taken from a row that has one
  pub take_done : RingOk rows n items → (row : Row) → Some row ≡ told → row.len ≢ 0 → (f : FrameValue) → f ≡ get_or (ring_lists rows n items l) 0 no_frame
      → (shorter : Row) → shorter ≡ advanced row → Freed rows n items l f (set rows l shorter)
  take_done ok row e some f h shorter a =
      let here = told_row row e in
      let same = ap (λ (r : Row). r.len) here.1 in
      freed rows n items ok l here.0 f h (omega (arith, some, same)) shorter (a ∙ ap advanced here.1)
