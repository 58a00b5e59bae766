-- The laws of the ring plant, and its send and poll, on values. Assumes nothing.
use Rattle.std.specs.Prelude.{◌≡◌, ℕ, suc, ◌+◌, ◌-◌, ◌*◌, ◌<◌, ◌≤◌, cond, ◌≢◌, ◌⊎◌, List, [], ◌∷◌, ◌++◌, map, length, get_or, nat_lt, slice_index_or, slice_set, refl}
use Rattle.std.proofs.Common.{sym, ap, ◌∙◌, subst, inl, inr, ⊎_elim, arith, add-one, length-set, length-append, get_or-set_same, get_or-set_other}
use Rattle.std.proofs.lemmas.Bool.{cases_eq, cases_lt, cases_order, cond-true, cond-false, lt-ltb, le-ltb}
use Rattle.std.proofs.lemmas.List.{map-set, nil_from_length, length-map}
use Rattle.frame.specs.Frames.{FrameValue, frame_value}
use Rattle.frame.specs.declared.frame.Frame.{Frame}
use Rattle.plant.specs.Plants.{PlantValue, Lawful}
use Rattle.plant.specs.Answers.{Joins, Hands}
use Rattle.plant.specs.Questions.{no_frame}
use Rattle.plant.specs.Futures.{bottom_value, bottom_future, after, sent, polled, oldest, idle, handed}
use Rattle.plant.proofs.Bottoms.{bottom_sent, bottom_handed, bottom_turn, bottom_idle}
use Rattle.plant.proofs.Sums.{sum_one}
use Rattle.plant.proofs.Laws.{Welcome}
use Rattle.ring.specs.declared.row.Row.{Row}
use Rattle.ring.specs.Rows.{no_row, row_at, row_frames, run, next, spot, advanced, extended}
use Rattle.ring.specs.Order.{RingOk, RowOk, ring_shape, ring_lists}
use Rattle.ring.specs.Runs.{run_length, run_other, run_push, run_pop, spot_below, next_below}

-- what the rows stand for
abbrev pub ring_value : List Row → ℕ → List Frame → PlantValue
ring_value rows n items = bottom_value (ring_shape rows n) (ring_lists rows n items)

module _ (rows : List Row) (n : ℕ) (items : List Frame) where
  pub here : (l : ℕ) → l < n → (ring_value rows n items).waiting l ≡ row_frames (map frame_value items) (row_at rows l)
  here l lt = cond-true (nat_lt l n) (row_frames (map frame_value items) (row_at rows l)) [] (lt-ltb l n lt)

  pub long : (l : ℕ) → l < n → length ((ring_value rows n items).waiting l) ≡ (row_at rows l).len
  long l lt = ap length (here l lt) ∙ run_length (map frame_value items) (row_at rows l).base (row_at rows l).cap (row_at rows l).head (row_at rows l).len

  -- a place of a line that is in use, and where it lies
  pub place_used : RingOk rows n items → (l : ℕ) → l < n → (p : ℕ) → p < length (ring_lists rows n items l) → p < (row_at rows l).len
  place_used ok l lt p h = let a = long l lt in omega arith

  pub place_inside : RingOk rows n items → (l : ℕ) → l < n → (p : ℕ) → p < length (ring_lists rows n items l)
      → (row_at rows l).base + spot (row_at rows l).cap ((row_at rows l).head + p) < length items
  place_inside ok l lt p h =
      let o = ok.row l lt in
      let used = place_used ok l lt p h in
      let len = o.len in
      let inside = o.inside in
      let below = spot_below (row_at rows l).cap (row_at rows l).head p o.head (omega arith) in
      omega arith

  pub bare : (l : ℕ) → l < n → (row_at rows l).len ≡ 0 → (ring_value rows n items).waiting l ≡ []
  bare l lt e = nil_from_length ((ring_value rows n items).waiting l) (long l lt ∙ e)

  pub ring_lawful : RingOk rows n items → Lawful (ring_value rows n items)
  ring_lawful ok =
      record {
        shape = record {
          even = ok.even;
          lines_most = let a = ok.few in omega arith;
          ports_most = let a = ok.few in omega arith;
          line = λ l lt. let r = ok.row l lt in record { apart = r.apart; cap_least = r.cap_least; cap_most = r.cap_most; span_least = omega arith; span_most = omega arith };
          partners = ok.partners;
          kept_most = omega arith;
          depth_least = omega arith;
          depth_most = omega arith;
        };
        room = λ l lt. let a = long l lt in let b = (ok.row l lt).len in omega arith;
        counted = refl;
        rest = λ z. z;
        least = omega arith;
      }

-- a row rewritten, its ends, cap and base as they were
module _ (rows : List Row) (n : ℕ) (items : List Frame) (ok : RingOk rows n items) (l : ℕ) (lt : l < n) (head len : ℕ) where
  abbrev old : Row
  old = row_at rows l

  abbrev new : Row
  new = record { from = (row_at rows l).from; to = (row_at rows l).to; cap = (row_at rows l).cap; base = (row_at rows l).base; head = head; len = len }

  abbrev rows' : List Row
  rows' = slice_set rows l new

  at_l : row_at rows' l ≡ new
  at_l = get_or-set_same rows l new no_row (let a = ok.wide in omega arith)

  at_other : (k : ℕ) → k ≢ l → row_at rows' k ≡ row_at rows k
  at_other k ne = get_or-set_other rows l k new no_row ne

  -- what both rows have alike, each row has as before
  alike : {X : Type 0} (π : Row → X) → π new ≡ π old → (k : ℕ) → π (row_at rows' k) ≡ π (row_at rows k)
  alike π e k = ⊎_elim (λ q. subst (λ j. π (row_at rows' j) ≡ π (row_at rows j)) (sym q) (ap π at_l ∙ e)) (λ ne. ap π (at_other k ne)) (cases_eq k l)

  same_shape : ring_shape rows' n ≡ ring_shape rows n
  same_shape = λ i. record {
    lines = n;
    line = λ k. record { from = alike (λ r. r.from) refl k i; to = alike (λ r. r.to) refl k i; cap = alike (λ r. r.cap) refl k i; span = 1 };
    ports = n;
    kept = 1048576;
    depth = 8;
  }

  rows_then : (items' : List Frame) → length items' ≡ length items → head < old.cap → len ≤ old.cap → RingOk rows' n items'
  rows_then items' size h b = record {
    few = ok.few;
    wide = let a = length-set rows l new in let c = ok.wide in omega arith;
    even = ok.even;
    row = λ k kt. ⊎_elim (λ q. subst (λ j. RowOk (row_at rows' j) (length items')) (sym q) (subst (λ r. RowOk r (length items')) (sym at_l) row_l)) (λ ne. subst (λ r. RowOk r (length items')) (sym (at_other k ne)) (subst (RowOk (row_at rows k)) (sym size) (ok.row k kt))) (cases_eq k l);
    tiles = λ j k jk kt. let a = ok.tiles j k jk kt in let b₁ = alike (λ r. r.base) refl j in let b₂ = alike (λ r. r.cap) refl j in let b₃ = alike (λ r. r.base) refl k in omega arith;
    partners = λ k kt. let a = ok.partners k kt in (alike (λ r. r.from) refl (2 * k) ∙ a.0 ∙ sym (alike (λ r. r.to) refl (2 * k + 1)), alike (λ r. r.to) refl (2 * k) ∙ a.1 ∙ sym (alike (λ r. r.from) refl (2 * k + 1)));
  }
    where
      row_l : RowOk new (length items')
      row_l = let r = ok.row l lt in let i = r.inside in record { apart = r.apart; cap_least = r.cap_least; cap_most = r.cap_most; head = h; len = b; inside = omega arith }

pub past : (rows : List Row) (n : ℕ) (items : List Frame) (k : ℕ) → n ≤ k → (ring_value rows n items).waiting k ≡ []
past rows n items k le = cond-false (nat_lt k n) (row_frames (map frame_value items) (row_at rows k)) [] (le-ltb k n le)

module _ (rows : List Row) (n : ℕ) (items : List Frame) (ok : RingOk rows n items) (l : ℕ) (lt : l < n) where
  abbrev r : Row
  r = row_at rows l

  abbrev v : PlantValue
  v = ring_value rows n items

  -- a send: the frame is written behind the last
  module _ (frame : Frame) (fine : Welcome (ring_value rows n items) l (frame_value frame)) where
    abbrev spot_l : ℕ
    spot_l = r.base + spot r.cap (r.head + r.len)

    abbrev items_s : List Frame
    items_s = slice_set items spot_l frame

    abbrev rows_s : List Row
    rows_s = slice_set rows l (extended r)

    abbrev w : PlantValue
    w = ring_value rows_s n items_s

    room : r.len < r.cap
    room = let a = fine.room in let b = long rows n items l lt in omega arith

    vals_then : map frame_value items_s ≡ slice_set (map frame_value items) spot_l (frame_value frame)
    vals_then = map-set frame_value items spot_l frame

    sent_here : w.waiting l ≡ v.waiting l ++ (frame_value frame ∷ [])
    sent_here =
        let o = ok.row l lt in
        let size = length-map items frame_value in
        let i = o.inside in
        let z : r.len + 1 ≡ suc r.len = omega arith in
        here rows_s n items_s l lt
        ∙ ap (row_frames (map frame_value items_s)) (at_l rows n items ok l lt r.head (r.len + 1))
        ∙ ap (λ vs. run vs r.base r.cap r.head (r.len + 1)) vals_then
        ∙ ap (λ k. run (slice_set (map frame_value items) spot_l (frame_value frame)) r.base r.cap r.head k) z
        ∙ run_push (map frame_value items) r.base r.cap r.head r.len (frame_value frame) o.head room (omega arith)
        ∙ ap (λ xs. xs ++ (frame_value frame ∷ [])) (sym (here rows n items l lt))

    sent_others : (k : ℕ) → k ≢ l → w.waiting k ≡ v.waiting k
    sent_others k ne = ⊎_elim low (λ le. past rows_s n items_s k le ∙ sym (past rows n items k le)) (cases_lt k n)
      where
        apart : k < n → (spot_l < (row_at rows k).base) ⊎ ((row_at rows k).base + (row_at rows k).cap ≤ spot_l)
        apart kt =
            let o = ok.row l lt in
            let s = spot_below r.cap r.head r.len o.head o.len in
            ⊎_elim (λ e. absurd (ne e)) (⊎_elim (λ kl. inr (let a = ok.tiles k l kl lt in omega arith)) (λ lk. inl (let a = ok.tiles l k lk kt in omega arith))) (cases_order k l)

        low : k < n → w.waiting k ≡ v.waiting k
        low kt =
            here rows_s n items_s k kt
            ∙ ap (row_frames (map frame_value items_s)) (at_other rows n items ok l lt r.head (r.len + 1) k ne)
            ∙ ap (λ vs. row_frames vs (row_at rows k)) vals_then
            ∙ run_other (map frame_value items) (row_at rows k).base (row_at rows k).cap (row_at rows k).head (row_at rows k).len spot_l (frame_value frame) (ok.row k kt).head (apart kt)
            ∙ sym (here rows n items k kt)

    pub ring_joins : Joins (ring_value rows n items) l (frame_value frame) (ring_value rows_s n items_s)
    ring_joins = record {
      shape = same_shape rows n items ok l lt r.head (r.len + 1);
      here = sent_here;
      others = sent_others;
      hops = sum_one (λ k. length (v.waiting k)) (λ k. length (w.waiting k)) l 1 n lt (ap length sent_here ∙ length-append (v.waiting l) (frame_value frame ∷ []))
          (λ k _ ne. ap length (sent_others k ne));
    }

    pub ring_sent : RingOk rows_s n items_s
    ring_sent = rows_then rows n items ok l lt r.head (r.len + 1) items_s (length-set items spot_l frame) (ok.row l lt).head (let a = room in omega arith)

  -- a poll: the frame at the head is handed out
  module _ (some : r.len ≢ 0) where
    abbrev rows_p : List Row
    rows_p = slice_set rows l (advanced r)

    abbrev u : PlantValue
    u = ring_value rows_p n items

    polled_here : v.waiting l ≡ slice_index_or (map frame_value items) (r.base + r.head) no_frame ∷ u.waiting l
    polled_here =
        here rows n items l lt ∙ run_pop (map frame_value items) r.base r.cap r.head r.len some
        ∙ ap (λ xs. slice_index_or (map frame_value items) (r.base + r.head) no_frame ∷ xs) (sym (here rows_p n items l lt ∙ ap (row_frames (map frame_value items)) (at_l rows n items ok l lt (next r.cap r.head) (r.len - 1))))

    polled_others : (k : ℕ) → k ≢ l → u.waiting k ≡ v.waiting k
    polled_others k ne = ap (λ x. cond (nat_lt k n) (row_frames (map frame_value items) x) []) (at_other rows n items ok l lt (next r.cap r.head) (r.len - 1) k ne)

    pub ring_hands : (f : FrameValue) → f ≡ slice_index_or ((ring_value rows n items).waiting l) 0 no_frame → Hands (ring_value rows n items) l f (ring_value rows_p n items)
    ring_hands f e = record {
      shape = same_shape rows n items ok l lt (next r.cap r.head) (r.len - 1);
      line = lt;
      here = polled_here ∙ ap (λ g. g ∷ u.waiting l) (sym (e ∙ ap (λ xs. get_or xs 0 no_frame) polled_here));
      others = polled_others;
      hops = sym (sum_one (λ k. length (u.waiting k)) (λ k. length (v.waiting k)) l 1 n lt (ap length polled_here ∙ sym (add-one (length (u.waiting l))))
          (λ k _ ne. ap length (sym (polled_others k ne))));
    }

    pub ring_polled : RingOk rows_p n items
    ring_polled = rows_then rows n items ok l lt (next r.cap r.head) (r.len - 1) items refl (next_below r.cap r.head (ok.row l lt).head) (let a = (ok.row l lt).len in omega arith)

-- what a row rewritten, and the places with it, then come to: `Stored` behind a send, `Freed` behind a poll
pub record Stored (rows : List Row) (n : ℕ) (items : List Frame) (l : ℕ) (frame : Frame) (rows' : List Row) (items' : List Frame) : Type 0 where
  pub sound : RingOk rows' n items'
  pub joins : Joins (ring_value rows n items) l (frame_value frame) (ring_value rows' n items')
  pub future : bottom_future (ring_shape rows' n) (ring_lists rows' n items') ≡ after (bottom_future (ring_shape rows n) (ring_lists rows n items)) (sent l (frame_value frame))

pub record Freed (rows : List Row) (n : ℕ) (items : List Frame) (l : ℕ) (f : FrameValue) (rows' : List Row) : Type 0 where
  pub sound : RingOk rows' n items
  pub hands : Hands (ring_value rows n items) l f (ring_value rows' n items)
  pub turn : oldest l (ring_lists rows n items l) ≡ handed l f
  pub future : bottom_future (ring_shape rows' n) (ring_lists rows' n items) ≡ after (bottom_future (ring_shape rows n) (ring_lists rows n items)) (polled l)

module _ (rows : List Row) (n : ℕ) (items : List Frame) (ok : RingOk rows n items) (l : ℕ) (lt : l < n) where
  pub stored : (frame : Frame) → Welcome (ring_value rows n items) l (frame_value frame) → (row : Row) → row ≡ extended (row_at rows l)
      → (k : ℕ) → k ≡ spot (row_at rows l).cap ((row_at rows l).head + (row_at rows l).len)
      → Stored rows n items l frame (slice_set rows l row) (slice_set items ((row_at rows l).base + k) frame)
  stored frame fine row e k q =
      let joins = ring_joins rows n items ok l lt frame fine in
      subst (λ x. Stored rows n items l frame (slice_set rows l x) (slice_set items ((row_at rows l).base + k) frame)) (sym e)
      (subst (λ j. Stored rows n items l frame (slice_set rows l (extended (row_at rows l))) (slice_set items ((row_at rows l).base + j) frame)) (sym q)
      (record { sound = ring_sent rows n items ok l lt frame fine; joins = joins; future = bottom_sent _ _ _ _ l (frame_value frame) joins }))

  pub freed : (f : FrameValue) → f ≡ slice_index_or (ring_lists rows n items l) 0 no_frame → (row_at rows l).len ≢ 0 → (row : Row) → row ≡ advanced (row_at rows l) → Freed rows n items l f (slice_set rows l row)
  freed f h some row e =
      let hands = ring_hands rows n items ok l lt some f h in
      subst (λ x. Freed rows n items l f (slice_set rows l x)) (sym e) (record {
        sound = ring_polled rows n items ok l lt some;
        hands = hands;
        turn = bottom_turn _ _ _ _ l f hands;
        future = bottom_handed _ _ _ _ l f hands;
      })

-- a poll at a port that counts nothing
pub idle_then : (rows : List Row) (n : ℕ) (items : List Frame) (p : ℕ) → ring_lists rows n items p ≡ []
    → (oldest p (ring_lists rows n items p) ≡ idle) × (bottom_future (ring_shape rows n) (ring_lists rows n items) ≡ after (bottom_future (ring_shape rows n) (ring_lists rows n items)) (polled p))
idle_then rows n items p none = (ap (oldest p) none, bottom_idle (ring_shape rows n) (ring_lists rows n items) p none)
