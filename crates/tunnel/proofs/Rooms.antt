-- That what the tunnel sends below is never refused, and that its laws last. Assumes nothing.
use Rattle.std.proofs.Common.{◌≡◌, ℕ, zero, suc, ◌+◌, ◌-◌, ◌*◌, ◌<◌, ◌≤◌, Bool, true, false, cond, not, ◌||◌, ◌≢◌, List, [], ◌∷◌, ◌++◌, map, length, sym, refl, ap, ◌∙◌, subst, ap₂, ⊎_elim, zero-mul, arith, length-append}
use lib.ListN.{length-map}
use Rattle.std.proofs.lemmas.Bool.{cases_eq, cond-true, lt-leb, eqb-true}
use Rattle.std.proofs.lemmas.List.{nil_from_length}
use Rattle.frame.specs.Frames.{FrameValue}
use Rattle.frame.specs.declared.entry.Entry.{Entry}
use Rattle.plant.specs.Plants.{PlantValue, Line, Lawful, sum_to, total, over_kept}
use Rattle.plant.specs.Answers.{Joins, Moves, Hands}
use Rattle.plant.proofs.Sums.{sum_front, sum_none, sum_zero}
use Rattle.plant.proofs.Laws.{Welcome, joined_lawful, joined_total, handed_lawful, handed_total, moved_lawful, moved_total}
use Rattle.tunnel.specs.declared.path.Path.{Path}
use Rattle.tunnel.specs.Held.{All, Shallow, PathOk, TunnelOk}
use Rattle.tunnel.specs.Tunnels.{Way, forth, back, own, on, top_is, tops, keep, popped, hop_frames, along, gather, later, ahead, tunnel_value}
use Rattle.tunnel.specs.Ways.{hop_left}
use Rattle.tunnel.proofs.Steps.{low}
use Rattle.tunnel.proofs.Answers.{Side, side_forth, side_back, line_low}

pub keep_parts : {X : Type 0} (t : X → Bool) (xs : List X) → length (keep (λ x. not (t x)) xs) + length (keep t xs) ≡ length xs
keep_parts t [] = refl
keep_parts t (x ∷ xs) = go (t x) (keep_parts t xs)
  where
    go : (b : Bool) → length (keep (λ y. not (t y)) xs) + length (keep t xs) ≡ length xs
        → length (cond (not b) (x ∷ keep (λ y. not (t y)) xs) (keep (λ y. not (t y)) xs)) + length (cond b (x ∷ keep t xs) (keep t xs)) ≡ suc (length xs)
    go true e = omega arith
    go false e = omega arith

pub keep_like : {X : Type 0} (t u : X → Bool) → ((x : X) → t x ≡ u x) → (xs : List X) → keep t xs ≡ keep u xs
keep_like t u h [] = refl
keep_like t u h (x ∷ xs) = ap₂ (λ b ys. cond b (x ∷ ys) ys) (h x) (keep_like t u h xs)

pub gather_length : (f : ℕ → List FrameValue) (n : ℕ) → length (gather f n) ≡ sum_to n (λ i. length (f i))
gather_length f zero = refl
gather_length f (suc n) = let a = length-append (f n) (gather f n) in let b = gather_length f n in omega arith

pub hop_part : (q : ℕ → List FrameValue) (x : Way) (k : ℕ) → k < x.len → length (hop_frames q x k) ≤ length (along q x)
hop_part q x k lt =
    let a = gather_length (hop_frames q x) x.len in
    let b = sum_front (λ i. length (hop_frames q x i)) (suc k) x.len lt in
    omega arith

pub two_part : (q : ℕ → List FrameValue) (x : Way) (k : ℕ) → suc k < x.len → length (hop_frames q x k) + length (hop_frames q x (suc k)) ≤ length (along q x)
two_part q x k lt =
    let a = gather_length (hop_frames q x) x.len in
    let b = sum_front (λ i. length (hop_frames q x i)) (suc (suc k)) x.len lt in
    omega arith

module _ (p : Path) (v : PlantValue) (law : Lawful v) (ok : TunnelOk p v) (x y : Way) (t : ℕ) (side : Side p v.shape x y t) where
  -- a hop's line has its plain frames, within what the tunnel leaves them, and the hop's own
  pub hop_load : (i : ℕ) → i < x.len → length (v.waiting (x.at i)) + p.window ≤ length (hop_frames v.waiting x i) + (v.shape.line (x.at i)).cap
  hop_load i lt =
      let l = x.at i in
      let xs = v.waiting l in
      let parts = keep_parts (own p l) xs in
      let mine = ap length (keep_like (own p l) (top_is (x.label i)) (λ f. side.mine i f lt) xs) in
      let popt = length-map (keep (top_is (x.label i)) xs) popped in
      let inn = side.within i lt in
      let in-tunnel : l < v.shape.lines + 2 = omega arith in
      let room = ok.lawful.room l in-tunnel in
      let is = ap length (low p v.shape.lines v.waiting l inn) in
      let cap = ap (λ (n : Line). n.cap) (line_low p v.shape l inn) in
      let cap' : cond (on (forth p) p.len l || on (back p) p.len l) ((v.shape.line l).cap - p.window) (v.shape.line l).cap ≡ (v.shape.line l).cap - p.window = cond-true _ _ _ (side.marked i lt) in
      let wide = side.wide i lt in
      omega arith

  -- the direction's frames are within the window
  pub way_load : length (along v.waiting x) ≤ p.window
  way_load =
      let room = ok.lawful.room t side.exists in
      let is = ap length (side.read v.waiting) in
      let cap = ap (λ (n : Line). n.cap) side.line in
      omega arith

-- nothing is ahead of no frame
pub none_ahead : (p : Path) (v : PlantValue) (x y : Way) (t : ℕ) → Side p v.shape x y t → total v ≡ 0 → ahead v x ≡ 0
none_ahead p v x y t side e =
    sum_none (λ i. length (hop_frames v.waiting x i) * later v.shape x i) x.len (λ i lt.
    let bare : v.waiting (x.at i) ≡ [] = nil_from_length (v.waiting (x.at i)) (sum_zero (λ k. length (v.waiting k)) v.shape.lines e (x.at i) (side.within i lt)) in
    ap (λ xs. length (map popped (keep (top_is (x.label i)) xs)) * later v.shape x i) bare ∙ zero-mul (later v.shape x i))

-- stacks stay within the depth
abbrev Flat : PlantValue → FrameValue → Type 0
Flat v g = length g.stack ≤ v.shape.depth

module _ (v w : PlantValue) (h : Shallow v) where
  over_shape : w.shape ≡ v.shape → ((l : ℕ) → l < v.shape.lines → All (λ (f : FrameValue). length f.stack ≤ v.shape.depth) (w.waiting l)) → Shallow w
  over_shape e a = subst (λ s. (l : ℕ) → l < s.lines → All (λ (f : FrameValue). length f.stack ≤ s.depth) (w.waiting l)) (sym e) a

  pub shallow_joined : (l : ℕ) (f : FrameValue) → length f.stack ≤ v.shape.depth → Joins v l f w → Shallow w
  shallow_joined l f deep j = over_shape j.shape (λ k lt. ⊎_elim (λ e. at k lt e) (λ ne. subst (All (Flat v)) (sym (j.others k ne)) (h k lt)) (cases_eq k l))
    where
      push : (xs : List FrameValue) → All (Flat v) xs → All (Flat v) (xs ++ (f ∷ []))
      push [] a = (deep, tt)
      push (x ∷ xs) a = (a.0, push xs a.1)

      at : (k : ℕ) → k < v.shape.lines → k ≡ l → All (Flat v) (w.waiting k)
      at k lt e = subst (λ n. All (Flat v) (w.waiting n)) (sym e) (subst (All (Flat v)) (sym j.here) (push (v.waiting l) (subst (λ n. All (Flat v) (v.waiting n)) e (h k lt))))

  pub shallow_handed : (l : ℕ) (f : FrameValue) → Hands v l f w → Shallow w
  shallow_handed l f j = over_shape j.shape (λ k lt. ⊎_elim (λ e. subst (λ n. All (Flat v) (w.waiting n)) (sym e) (subst (All (Flat v)) j.here (h l j.line)).1) (λ ne. subst (All (Flat v)) (sym (j.others k ne)) (h k lt)) (cases_eq k l))

  pub shallow_moved : Moves v w → Shallow w
  shallow_moved j = over_shape j.shape (λ k lt. subst (All (λ (g : FrameValue). length g.stack ≤ v.shape.depth)) (sym (j.lists k)) (h k lt))

module _ (p : Path) (v w : PlantValue) (lw : Lawful w) (ok : TunnelOk p v) (same : w.shape ≡ v.shape) (shallow : Shallow w) where
  path_then : PathOk w.shape p
  path_then = subst (λ s. PathOk s p) (sym same) ok.path

  counted_then : total (tunnel_value p w) ≡ total w → sum_to (tunnel_value p w).shape.ports (tunnel_value p w).counts ≡ total (tunnel_value p w)
  counted_then e = lw.counted ∙ sym e

  rest_then : total (tunnel_value p w) ≡ total w → total (tunnel_value p w) ≡ 0 → (tunnel_value p w).hops ≡ 0
  rest_then e z =
      let z' : total w ≡ 0 = sym e ∙ z in
      let a = none_ahead p w (forth p) (back p) w.shape.lines (side_forth p w.shape lw.shape.even path_then) z' in
      let b = none_ahead p w (back p) (forth p) (w.shape.lines + 1) (side_back p w.shape lw.shape.even path_then) z' in
      let c = lw.rest z' in
      omega arith

  pub kept_joined : (l : ℕ) (f : FrameValue) → Welcome (tunnel_value p v) l f → Joins (tunnel_value p v) l f (tunnel_value p w) → total w ≡ total v + 1 → TunnelOk p w
  kept_joined l f h j e =
      let t = joined_total (tunnel_value p v) (tunnel_value p w) ok.lawful l f h.line j in
      let level : total (tunnel_value p w) ≡ total w = t ∙ ap (λ n. n + 1) ok.level ∙ sym e in
      record { path = path_then; lawful = joined_lawful (tunnel_value p v) (tunnel_value p w) ok.lawful l f h j (counted_then level); level = level; shallow = shallow }

  pub kept_handed : (l : ℕ) (f : FrameValue) → Hands (tunnel_value p v) l f (tunnel_value p w) → total v ≡ total w + 1 → TunnelOk p w
  kept_handed l f j e =
      let t = handed_total (tunnel_value p v) (tunnel_value p w) ok.lawful l f j in
      let o = ok.level in
      let level : total (tunnel_value p w) ≡ total w = omega (arith, t, o, e) in
      record { path = path_then; lawful = handed_lawful (tunnel_value p v) (tunnel_value p w) ok.lawful l f j (counted_then level) (rest_then level); level = level; shallow = shallow }

  pub kept_moved : Moves (tunnel_value p v) (tunnel_value p w) → total w ≡ total v → TunnelOk p w
  kept_moved j e =
      let t = moved_total (tunnel_value p v) (tunnel_value p w) ok.lawful j in
      let level : total (tunnel_value p w) ≡ total w = t ∙ ok.level ∙ sym e in
      let a = lw.least in
      let least : total (tunnel_value p w) ≤ (tunnel_value p w).hops = omega (arith, level, a) in
      record { path = path_then; lawful = moved_lawful (tunnel_value p v) (tunnel_value p w) ok.lawful j (counted_then level) (rest_then level) least; level = level; shallow = shallow }

module _ (p : Path) (v : PlantValue) (law : Lawful v) (ok : TunnelOk p v) (x y : Way) (t : ℕ) (side : Side p v.shape x y t) where
  -- the next hop has room for a frame that has left its hop
  pub relay_welcome : (m : PlantValue) (g g' : FrameValue) (k : ℕ) → suc k < x.len → top_is (x.label k) g ≡ true → top_is (x.label (suc k)) g' ≡ true → length g'.stack ≡ length g.stack
      → Hands v (x.at k) g m → Welcome m (x.at (suc k)) g'
  relay_welcome m g g' k lt mine mine' long j =
      subst (λ s. Welcome (record { shape = s; waiting = m.waiting; counts = m.counts; hops = m.hops }) (x.at (suc k)) g') (sym j.shape) (record {
        line = side.within (suc k) lt;
        room =
            let load = hop_load p v law ok x y t side (suc k) lt in
            let both = two_part v.waiting x k lt in
            let whole = way_load p v law ok x y t side in
            let some : 1 ≤ length (hop_frames v.waiting x k) = rw (hop_left x side.apart v.waiting m.waiting g k here mine j.others j.here) (omega arith) in
            let wide = side.wide (suc k) lt in
            let same = ap length (j.others (x.at (suc k)) (λ e. ne (side.apart (suc k) k lt here e))) in
            omega arith;
        label = under v.shape.kept (x.label (suc k)) g'.stack mine' (side.low_label (suc k) lt);
        deep = let a = (subst (All (λ (f : FrameValue). length f.stack ≤ v.shape.depth)) j.here (ok.shallow (x.at k) j.line)).0 in omega arith;
      })
    where
      here : k < x.len
      here = omega arith

      ne : suc k ≢ k
      ne = omega arith

      under : (n c : ℕ) (es : List Entry) → tops c es ≡ true → c < n → over_kept n es ≡ false
      under n c [] e lt' = refl
      under n c (a ∷ es) e lt' = lt-leb n a.label (let q = eqb-true a.label c e in omega arith)
