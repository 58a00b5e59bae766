-- The two own lines of an open tunnel, and its plain ones, as a question reads them. Assumes nothing.
use Rattle.std.proofs.Common.{◌≡◌, ℕ, suc, ◌+◌, ◌-◌, ◌%◌, ◌<◌, ◌≤◌, Bool, true, false, cond, not, ltb, ◌⊎◌, inl, inr, List, [], ◌∷◌, ◌++◌, map, length, get_or, Some, None, Option, Ok, Result, sym, refl, ap, ◌∙◌, subst, ap₂, ⊎_elim, arith, length-append}
use Rattle.std.proofs.lemmas.List.{get_or_append_left, get_or-append_right, get_or_past, get_or-map}
use Rattle.std.proofs.lemmas.Option.{slice_get-get_or, slice_get_past}
use Rattle.std.proofs.lemmas.Bool.{cases_eq, cases_order, cond-true, cond-false, lt-ltb, le-ltb}
use lib.ListN.{length-map}
use mathlib.Core.Bool.{beq}
use Rattle.std.specs.Option.{IsSome, MatchOption, is_some, option_flatten, option_map}
use Rattle.std.specs.List.{filter, range_with_len, slice_get}
use Rattle.frame.specs.declared.frame.Frame.{Frame}
use Rattle.frame.specs.declared.refusal.Refusal.{Refusal}
use Rattle.frame.specs.Frames.{FrameValue, frame_value}
use Rattle.plant.specs.Plants.{PlantValue, Shape, Line, Lawful}
use Rattle.plant.specs.Questions.{no_frame, of_line, Waiting}
use Rattle.plant.proofs.Sums.{sum_front}
use Rattle.tunnel.specs.declared.path.Path.{Path}
use Rattle.tunnel.specs.declared.path.Hop.{Hop}
use Rattle.tunnel.specs.Tunnels.{Way, way_of, own, crossing, top_is, keep, forth, back, popped, hop_frames, along, gather, hop_span, spans, tunnel_value, meaning}
use Rattle.tunnel.specs.Held.{Links, Exist, PathOk, TunnelOk}
use Rattle.tunnel.specs.Onward.{line_of}
use Rattle.tunnel.specs.Inner.{OnHop, picks, told_at, told_get, tops_told}
use Rattle.tunnel.specs.Paths.{marked, way_within}
use Rattle.tunnel.proofs.Steps.{low}
use Rattle.tunnel.proofs.Answers.{Side, side_forth, side_back}
use Rattle.tunnel.proofs.Counts.{read_all, filter_some}
use Rattle.tunnel.proofs.Rooms.{keep_parts, keep_like, gather_length, way_load}

-- the side of a direction
pub side_of : (p : Path) (s : Shape) → s.lines % 2 ≡ 0 → PathOk s p → (b : Bool) → Side p s (way_of b p) (way_of (not b) p) (line_of p b)
side_of p s even ok true = subst (λ n. Side p s (back p) (forth p) (n + 1)) (sym ok.below) (side_back p s even ok)
side_of p s even ok false = subst (Side p s (forth p) (back p)) (sym ok.below) (side_forth p s even ok)

-- a line of the tunnel's own is that of the direction that the code takes it for
pub line_is : (p : Path) (line : ℕ) → p.below ≤ line → line < p.below + 2 → line_of p (ltb p.below line) ≡ line
line_is p line ge lt = ⊎_elim (λ e. ap (line_of p) (le-ltb p.below line (omega arith)) ∙ sym e) (λ ne. ap (line_of p) (lt-ltb p.below line (omega arith)) ∙ omega arith) (cases_eq line p.below)

-- whether a line's link is on the path, by the hop on the line
pub crosses_by_hop : (p : Path) → Links p → (l : ℕ) (o : Option Hop) → OnHop p l o → (b : Bool) → b ≡ is_some o → b ≡ crossing p l
crosses_by_hop p ok l (Some h) on b e = e ∙ sym (marked p ok l (Some h) on).0
crosses_by_hop p ok l None off b e = e ∙ sym (marked p ok l None off).0

-- the plain part of a line under n
pub plain_waits : (p : Path) (v : PlantValue) (l k : ℕ) → l < v.shape.lines → ((f : FrameValue) → own p l f ≡ top_is k f)
    → length ((tunnel_value p v).waiting l) + length (keep (top_is k) (v.waiting l)) ≡ length (v.waiting l)
plain_waits p v l k lt mine =
    let a = ap length (low p v.shape.lines v.waiting l lt) in
    let b = keep_parts (own p l) (v.waiting l) in
    let c = ap length (keep_like (own p l) (top_is k) mine (v.waiting l)) in
    omega arith

pub plain_list : (p : Path) (v : PlantValue) (l k : ℕ) → l < v.shape.lines → ((f : FrameValue) → own p l f ≡ top_is k f)
    → (tunnel_value p v).waiting l ≡ keep (picks false k) (v.waiting l)
plain_list p v l k lt mine =
    low p v.shape.lines v.waiting l lt ∙ keep_like (λ f. not (own p l f)) (picks false k) (λ f. ap not (mine f)) (v.waiting l)

pub keep_all : {X : Type 0} (t : X → Bool) → ((x : X) → t x ≡ true) → (xs : List X) → keep t xs ≡ xs
keep_all t h [] = refl
keep_all t h (x ∷ xs) = ap₂ (λ b ys. cond b (x ∷ ys) ys) (h x) (keep_all t h xs)

pub free_list : (p : Path) (v : PlantValue) (l : ℕ) → l < v.shape.lines → ((f : FrameValue) → own p l f ≡ false) → (tunnel_value p v).waiting l ≡ v.waiting l
free_list p v l lt none = low p v.shape.lines v.waiting l lt ∙ keep_all (λ f. not (own p l f)) (λ f. ap not (none f)) (v.waiting l)

-- the first hops of a way carry no more than the way
front_load : (q : ℕ → List FrameValue) (x : Way) (i : ℕ) → i ≤ x.len → length (gather (hop_frames q x) i) ≤ length (along q x)
front_load q x i le =
    let a = gather_length (hop_frames q x) x.len in
    let b = gather_length (hop_frames q x) i in
    let c = sum_front (λ k. length (hop_frames q x k)) i x.len le in
    omega arith

-- a line of an open tunnel's own, over a lawful plant
pub record OwnLine (p : Path) (v : PlantValue) (line : ℕ) : Type 0 where
  pub law : Lawful v
  pub ok : TunnelOk p v
  pub own_line : p.below ≤ line
  pub exists : line < p.below + 2

module _ {p : Path} {v : PlantValue} {line : ℕ} (at : OwnLine p v line) where
  pub the_side : Side p v.shape (way_of (ltb p.below line) p) (way_of (not (ltb p.below line)) p) line
  the_side = subst (Side p v.shape (way_of (ltb p.below line) p) (way_of (not (ltb p.below line)) p)) (line_is p line at.own_line at.exists)
      (side_of p v.shape at.law.shape.even at.ok.path (ltb p.below line))

  pub hop_within : (i : ℕ) → i < p.len → (way_of (ltb p.below line) p).at i < v.shape.lines
  hop_within i lt = the_side.within i (subst (λ n. i < n) (sym the_side.len_x) lt)

  pub front_small : (i : ℕ) → i ≤ p.len → length (gather (hop_frames v.waiting (way_of (ltb p.below line) p)) i) ≤ 31
  front_small i le =
      let x = way_of (ltb p.below line) p in
      let a = front_load v.waiting x i (subst (λ n. i ≤ n) (sym the_side.len_x) le) in
      let c = way_load p v at.law at.ok x (way_of (not (ltb p.below line)) p) line the_side in
      let d = at.ok.path.window_most in
      omega arith

  pub way_list : gather (hop_frames v.waiting (way_of (ltb p.below line) p)) p.len ≡ (tunnel_value p v).waiting line
  way_list = ap (gather (hop_frames v.waiting (way_of (ltb p.below line) p))) (sym the_side.len_x) ∙ sym (the_side.read v.waiting)

  -- the tunnel's line, by the hops of its way
  abbrev way_end : ℕ → Line
  way_end n = record {
    from = (v.shape.line ((way_of (ltb p.below line) p).at 0)).from;
    to = (v.shape.line ((way_of (ltb p.below line) p).at (n - 1))).to;
    cap = p.window;
    span = spans v.shape (way_of (ltb p.below line) p);
  }

  pub way_line : {X : Type 0} (part : Line → X) → part ((tunnel_value p v).shape.line line) ≡ part (way_end p.len)
  way_line part = ap part the_side.line ∙ ap (λ n. part (way_end n)) the_side.len_x

-- one hop of a gathered list, counted from the last
module _ (f : ℕ → List FrameValue) (n k left : ℕ) (lt : k < n) where
  top_hop : gather f (n - k) ≡ f (n - 1 - k) ++ gather f (n - 1 - k)
  top_hop = ap (gather f) (let z : n - k ≡ suc (n - 1 - k) = omega arith in z)

  pub hop_hit : left < length (f (n - 1 - k)) → get_or (gather f (n - k)) left no_frame ≡ get_or (f (n - 1 - k)) left no_frame
  hop_hit h = ap (λ xs. get_or xs left no_frame) top_hop ∙ get_or_append_left (f (n - 1 - k)) (gather f (n - 1 - k)) no_frame left h

  pub hop_skip : length (f (n - 1 - k)) ≤ left → left < length (gather f (n - k))
      → (get_or (gather f (n - k)) left no_frame ≡ get_or (gather f (n - (k + 1))) (left - length (f (n - 1 - k))) no_frame) × (left - length (f (n - 1 - k)) < length (gather f (n - (k + 1))))
  hop_skip h b =
      let z : n - 1 - k ≡ n - (k + 1) = omega arith in
      let a = ap length top_hop in
      let c = length-append (f (n - 1 - k)) (gather f (n - 1 - k)) in
      let d = ap (λ m. length (gather f m)) z in (
        ap (λ xs. get_or xs left no_frame) top_hop
            ∙ get_or-append_right (f (n - 1 - k)) (gather f (n - 1 - k)) (length (f (n - 1 - k))) left no_frame refl h
            ∙ ap (λ m. get_or (gather f m) (left - length (f (n - 1 - k))) no_frame) z,
        omega arith,
      )

-- a question about a line that exists is answered
module _ {X : Type 0} (s : Shape) (l : ℕ) (x : X) (o : Option X) (lt : l < s.lines) (told : o ≡ of_line s l x) where
  pub told_some : o ≡ Some x
  told_some = told ∙ cond-true (ltb l s.lines) (Some x) None (lt-ltb l s.lines lt)

  pub is_told : IsSome o
  is_told = subst IsSome (sym told_some) refl

  pub told_is : (u : X) → o ≡ Some u → u ≡ x
  told_is u e = let z : Some u ≡ Some x = sym e ∙ told_some in cc

-- so is one about a place where a frame waits
module _ (v : PlantValue) (l i : ℕ) (o : Option Frame) (told : Waiting v l i o) where
  pub waits_there : l < v.shape.lines → i < length (v.waiting l) → IsSome o
  waits_there line lt = go o told
    where
      go : (o : Option Frame) → Waiting v l i o → IsSome o
      go (Some f) h = refl
      go None h = let le = h line in absurd (omega arith)

  pub waits_is : (f : Frame) → o ≡ Some f → frame_value f ≡ get_or (v.waiting l) i no_frame
  waits_is f e = (subst (Waiting v l i) e told).2

-- the line of a hop: its plain part, and how many of its frames are the hop's own
module _ (p : Path) (v : PlantValue) (ok : Links p) (l : ℕ) (h : Hop) (lt : l < v.shape.lines) (on : OnHop p l (Some h)) where
  pub hop_plain : (tunnel_value p v).waiting l ≡ keep (picks false ((way_of h.back p).label h.index)) (v.waiting ((way_of h.back p).at h.index))
  hop_plain = plain_list p v l ((way_of h.back p).label h.index) lt (marked p ok l (Some h) on).1 ∙ ap (λ n. keep (picks false ((way_of h.back p).label h.index)) (v.waiting n)) on.1

  pub hop_waits : length ((tunnel_value p v).waiting l) + length (hop_frames v.waiting (way_of h.back p) h.index) ≡ length (v.waiting l)
  hop_waits =
      let k = (way_of h.back p).label h.index in
      let a = plain_waits p v l k lt (marked p ok l (Some h) on).1 in
      let b : length (hop_frames v.waiting (way_of h.back p) h.index) ≡ length (keep (top_is k) (v.waiting l)) =
      length-map (keep (top_is k) (v.waiting ((way_of h.back p).at h.index))) popped ∙ ap (λ n. length (keep (top_is k) (v.waiting n))) (sym on.1) in
      omega arith

-- the test for the frames with a label on top, or the others
pub picks_is : (own : Bool) (k : ℕ) (f : FrameValue) → picks own k f ≡ beq (top_is k f) own
picks_is true k f = go (top_is k f)
  where
    go : (b : Bool) → b ≡ beq b true
    go true = refl
    go false = refl
picks_is false k f = go (top_is k f)
  where
    go : (b : Bool) → not b ≡ beq b false
    go true = refl
    go false = refl

-- a question about a line of a tunnel that is open, over what its plant below stands for
module _ (r : Result Path Refusal) (p : Path) (v u : PlantValue) (line : ℕ) (same : v ≡ u) (live : r ≡ Ok p) where
  pub line_none : v.shape.lines + 2 ≤ line → {X : Type 0} (x : X) → None ≡ of_line (meaning r u).shape line x
  line_none ge x = subst (λ z. None ≡ of_line (meaning z u).shape line x) (sym live)
      (subst (λ w. None ≡ of_line (tunnel_value p w).shape line x) same (sym (cond-false (ltb line (v.shape.lines + 2)) (Some x) None (le-ltb line (v.shape.lines + 2) ge))))

  pub line_some : line < v.shape.lines + 2 → {X : Type 0} (part : PlantValue → X) (a : X) → a ≡ part (tunnel_value p v) → Some a ≡ of_line (meaning r u).shape line (part (meaning r u))
  line_some lt part a is = subst (λ z. Some a ≡ of_line (meaning z u).shape line (part (meaning z u))) (sym live)
      (subst (λ w. Some a ≡ of_line (tunnel_value p w).shape line (part (tunnel_value p w))) same
      (ap Some is ∙ sym (cond-true (ltb line (v.shape.lines + 2)) (Some (part (tunnel_value p v))) None (lt-ltb line (v.shape.lines + 2) lt))))

pub told_here : (v : PlantValue) (l i : ℕ) → l < v.shape.lines → told_at v l i ≡ get_or (v.waiting l) i no_frame
told_here v l i lt = cond-true (ltb l v.shape.lines) (get_or (v.waiting l) i no_frame) no_frame (lt-ltb l v.shape.lines lt)

lt_or_le : (a b : ℕ) → (a < b) ⊎ (b ≤ a)
lt_or_le a b = ⊎_elim (λ e. inr (omega arith)) (⊎_elim (λ lt. inl lt) (λ lt. inr (omega arith))) (cases_order a b)

-- the frame at a place of a line, if one waits there
pub told_got : (v : PlantValue) (l i : ℕ) (o : Option Frame) → Waiting v l i o → option_map frame_value o ≡ told_get v l i
told_got v l i (Some f) told =
    ap Some told.2 ∙ sym (slice_get-get_or (v.waiting l) i no_frame told.1) ∙ sym (cond-true (ltb l v.shape.lines) (slice_get (v.waiting l) i) None (lt-ltb l v.shape.lines told.0))
told_got v l i None told = sym (⊎_elim
    (λ lt. cond-true (ltb l v.shape.lines) (slice_get (v.waiting l) i) None (lt-ltb l v.shape.lines lt) ∙ slice_get_past (v.waiting l) i (told lt))
    (λ ge. cond-false (ltb l v.shape.lines) (slice_get (v.waiting l) i) None (le-ltb l v.shape.lines ge))
    (lt_or_le l v.shape.lines))

-- a test of the frame at a place, that no missing frame passes
pub told_test : (v : PlantValue) (l i : ℕ) (t : FrameValue → Bool) → t no_frame ≡ false → l < v.shape.lines → (o : Option Frame) → Waiting v l i o
    → (r : Bool) (P : Frame → Type 0) → ((f : Frame) → P f → r ≡ t (frame_value f)) → MatchOption o (r ≡ false) P → r ≡ t (get_or (v.waiting l) i no_frame)
told_test v l i t bare line None none r P is e = e ∙ sym (ap t (get_or_past (v.waiting l) i no_frame (none line)) ∙ bare)
told_test v l i t bare line (Some f) some r P is e = is f e ∙ ap t some.2

-- the same of a line that may not exist
pub told_top : (v : PlantValue) (l i k : ℕ) (o : Option Frame) → Waiting v l i o
    → (r : Bool) (P : Frame → Type 0) → ((f : Frame) → P f → r ≡ top_is k (frame_value f)) → MatchOption o (r ≡ false) P → r ≡ top_is k (told_at v l i)
told_top v l i k o told r P is e = ⊎_elim
    (λ lt. told_test v l i (top_is k) refl lt o told r P is e ∙ ap (top_is k) (sym (told_here v l i lt)))
    (λ ge. off o told e ge ∙ ap (top_is k) (sym (cond-false (ltb l v.shape.lines) (get_or (v.waiting l) i no_frame) no_frame (le-ltb l v.shape.lines ge))))
    (lt_or_le l v.shape.lines)
  where
    off : (o : Option Frame) → Waiting v l i o → MatchOption o (r ≡ false) P → v.shape.lines ≤ l → r ≡ false
    off None told e ge = e
    off (Some f) told e ge = let lt = told.0 in absurd (omega arith)

pub way_len : (b : Bool) (p : Path) → (way_of b p).len ≡ p.len
way_len true p = refl
way_len false p = refl

-- a hop's line has the span of a line
pub hop_span_most : (p : Path) (v : PlantValue) → Lawful v → Exist v.shape p → (b : Bool) (i : ℕ) → i < p.len → hop_span v.shape (way_of b p) i ≤ 2097152
hop_span_most p v law exist b i lt = (law.shape.line ((way_of b p).at i) (way_within p v.shape.lines law.shape.even exist b i lt)).span_most

-- the frames of a line that are told place by place, those with a label on top or the others
pub picked_list : (v : PlantValue) (l k : ℕ) (own : Bool) → l < v.shape.lines
    → filter (λ o. beq (tops_told k o) own) (map (told_get v l) (range_with_len 0 (length (v.waiting l)))) ≡ map Some (keep (picks own k) (v.waiting l))
picked_list v l k own lt =
    ap (filter (λ o. beq (tops_told k o) own)) (ap (λ n. map (told_get v l) (range_with_len 0 n)) (sym (length-map (v.waiting l) Some))
    ∙ read_all (told_get v l) 0 (map Some (v.waiting l)) None each)
    ∙ filter_some (λ o. beq (tops_told k o) own) (picks own k) (λ f. sym (picks_is own k f)) (v.waiting l)
  where
    each : (i : ℕ) → i < length (map Some (v.waiting l)) → told_get v l (0 + i) ≡ get_or (map Some (v.waiting l)) i None
    each i b =
        let c : i < length (v.waiting l) = omega (arith, b, length-map (v.waiting l) (λ (f : FrameValue). Some f)) in
        let z : 0 + i ≡ i = omega arith in
        ap (told_get v l) z ∙ cond-true (ltb l v.shape.lines) (slice_get (v.waiting l) i) None (lt-ltb l v.shape.lines lt)
        ∙ slice_get-get_or (v.waiting l) i no_frame c ∙ sym (get_or-map Some (v.waiting l) i no_frame None c)

-- what is found at a place of such a list
module _ (ys : List FrameValue) (n : ℕ) (lt : n < length ys) (r : Option (Option Frame)) (told : option_map (option_map frame_value) r ≡ slice_get (map Some ys) n)
    (o : Option Frame) (flat : o ≡ option_flatten r) where
  at_is : option_map frame_value o ≡ Some (get_or ys n no_frame)
  at_is = ap (option_map frame_value) flat ∙ go r
      (told ∙ slice_get-get_or (map Some ys) n None (omega (arith, lt, length-map ys (λ (f : FrameValue). Some f))) ∙ ap Some (get_or-map Some ys n no_frame None lt))
    where
      go : (r : Option (Option Frame)) → option_map (option_map frame_value) r ≡ Some (Some (get_or ys n no_frame)) → option_map frame_value (option_flatten r) ≡ Some (get_or ys n no_frame)
      go (Some q) e = cc
      go None e = cc

  pub at_some : IsSome o
  at_some = go o at_is
    where
      go : (o : Option Frame) → option_map frame_value o ≡ Some (get_or ys n no_frame) → IsSome o
      go (Some x) e = refl
      go None e = cc

  pub at_value : (f : Frame) → o ≡ Some f → frame_value f ≡ get_or ys n no_frame
  at_value f e = let z : Some (frame_value f) ≡ Some (get_or ys n no_frame) = sym (ap (option_map frame_value) e) ∙ at_is in cc
