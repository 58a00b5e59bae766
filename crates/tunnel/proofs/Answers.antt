-- From what the plant below answers to what the tunnel answers. Assumes nothing.
use Rattle.std.proofs.Common.{◌≡◌, ℕ, suc, ◌+◌, ◌-◌, ◌%◌, ◌<◌, ◌≤◌, true, false, not, ◌||◌, eqb, ltb, ◌≢◌, List, [], ◌∷◌, ◌++◌, map, sym, refl, ap, ◌∙◌, ap₂, arith}
use Rattle.std.proofs.lemmas.Bool.{cond-true, cond-false, eq-eqb, ne_eqb, lt-ltb, le-ltb, not_from_false, or_left, or_right}
use Rattle.frame.specs.Frames.{FrameValue}
use Rattle.plant.specs.Plants.{PlantValue, Shape, Line}
use Rattle.plant.specs.Answers.{Joins, Moves, Hands}
use Rattle.tunnel.specs.declared.path.Path.{Path}
use Rattle.tunnel.specs.Tunnels.{Way, hop, forth, back, own, on, top_is, keep, popped, hop_frames, along, hop_span, later, tunnel_shape, tunnel_waiting, tunnel_value, whole, narrowed}
use Rattle.tunnel.specs.Held.{PathOk}
use Rattle.tunnel.specs.Gathers.{gather_join, gather_out, gather_relay, weigh_join, weigh_out}
use Rattle.tunnel.specs.Ways.{on_here, keep_push, hop_others, hop_joined, hop_left, later_first, later_last, later_next}
use Rattle.tunnel.specs.Paths.{forth_apart, back_apart, forth_back, own_forth, own_back, partner_below}
use Rattle.tunnel.proofs.Steps.{plain, ahead_of, plain_joined, plain_left, strange_joined, strange_left, along_same, ahead_same, low, first, second, agree}

module _ (p : Path) (s : Shape) where
  pub line_low : (l : ℕ) → l < s.lines → (tunnel_shape p s).line l ≡ narrowed p (s.line l) (on (forth p) p.len l || on (back p) p.len l)
  line_low l lt = cond-true (ltb l s.lines) _ _ (lt-ltb l s.lines lt)

  pub line_first : (tunnel_shape p s).line s.lines ≡ whole s (forth p) p.window
  line_first = cond-false (ltb s.lines s.lines) _ _ (le-ltb s.lines s.lines (omega arith)) ∙ cond-true (eqb s.lines s.lines) _ _ (eq-eqb s.lines s.lines refl)

  pub line_second : (tunnel_shape p s).line (s.lines + 1) ≡ whole s (back p) p.window
  line_second = cond-false (ltb (s.lines + 1) s.lines) _ _ (le-ltb (s.lines + 1) s.lines (omega arith)) ∙ cond-false (eqb (s.lines + 1) s.lines) _ _ (ne_eqb (s.lines + 1) s.lines (omega arith))

-- a tunnel's value after a step that keeps the shape, over the shape as it was
module _ (p : Path) (v w : PlantValue) (same : w.shape ≡ v.shape) where
  shape_same : (tunnel_value p w).shape ≡ (tunnel_value p v).shape
  shape_same = ap (tunnel_shape p) same

  lists_are : (l : ℕ) → (tunnel_value p w).waiting l ≡ tunnel_waiting p v.shape.lines w.waiting l
  lists_are l = ap (λ z. tunnel_waiting p z.lines w.waiting l) same

  hops_are : (tunnel_value p w).hops ≡ w.hops + (ahead_of v.shape w.waiting (forth p) + ahead_of v.shape w.waiting (back p))
  hops_are = ap (λ z. w.hops + (ahead_of z w.waiting (forth p) + ahead_of z w.waiting (back p))) same

module _ (p : Path) (v w : PlantValue) (ok : PathOk v.shape p) where
  -- below only moved
  pub moved : Moves v w → Moves (tunnel_value p v) (tunnel_value p w)
  moved m =
      let sameF = λ (i : ℕ) (b : i < p.len). ap (λ z. map popped (keep (top_is ((forth p).label i)) z)) (m.lists ((forth p).at i)) in
      let sameB = λ (i : ℕ) (b : i < p.len). ap (λ z. map popped (keep (top_is ((back p).label i)) z)) (m.lists ((back p).at i)) in
      let aF = ahead_same v.shape (forth p) v.waiting w.waiting sameF in
      let aB = ahead_same v.shape (back p) v.waiting w.waiting sameB in
      let h = hops_are p v w m.shape in
      record {
        shape = shape_same p v w m.shape;
        lists = λ l. lists_are p v w m.shape l ∙ agree p v.shape.lines v.waiting w.waiting l
            (λ lt. ap (plain p l) (m.lists l))
            (λ e. along_same v.shape (forth p) v.waiting w.waiting sameF)
            (λ e. along_same v.shape (back p) v.waiting w.waiting sameB);
        hops = let b = m.hops in omega arith;
      }

  -- a frame sent below on a line of its own accord
  pub plain_sent : (l : ℕ) (g : FrameValue) → l < v.shape.lines → own p l g ≡ false → Joins v l g w → Joins (tunnel_value p v) l g (tunnel_value p w)
  plain_sent l g lt strange j =
      let sameF = strange_joined p (forth p) (own_forth p ok.links) v.waiting w.waiting g l strange j.others j.here in
      let sameB = strange_joined p (back p) (own_back p ok.links) v.waiting w.waiting g l strange j.others j.here in
      let aF = ahead_same v.shape (forth p) v.waiting w.waiting sameF in
      let aB = ahead_same v.shape (back p) v.waiting w.waiting sameB in
      let h = hops_are p v w j.shape in
      record {
        shape = shape_same p v w j.shape;
        here = lists_are p v w j.shape l ∙ low p v.shape.lines w.waiting l lt ∙ ap (plain p l) j.here
            ∙ keep_push (λ f. not (own p l f)) (v.waiting l) g (not_from_false (own p l g) strange)
            ∙ ap (λ z. z ++ (g ∷ [])) (sym (low p v.shape.lines v.waiting l lt));
        others = λ k ne. lists_are p v w j.shape k ∙ agree p v.shape.lines v.waiting w.waiting k
            (λ b. ap (plain p k) (j.others k ne))
            (λ e. along_same v.shape (forth p) v.waiting w.waiting sameF)
            (λ e. along_same v.shape (back p) v.waiting w.waiting sameB);
        hops = let b = j.hops in let c = ap (λ (z : Line). z.span) (line_low p v.shape l lt) in omega arith;
      }

  -- a frame that is no own one is handed out below
  pub plain_handed : (l : ℕ) (g : FrameValue) → own p l g ≡ false → Hands v l g w → Hands (tunnel_value p v) l g (tunnel_value p w)
  plain_handed l g strange j =
      let lt = j.line in
      let sameF = strange_left p (forth p) (own_forth p ok.links) v.waiting w.waiting g l strange j.others j.here in
      let sameB = strange_left p (back p) (own_back p ok.links) v.waiting w.waiting g l strange j.others j.here in
      let aF = ahead_same v.shape (forth p) v.waiting w.waiting sameF in
      let aB = ahead_same v.shape (back p) v.waiting w.waiting sameB in
      let h = hops_are p v w j.shape in
      record {
        shape = shape_same p v w j.shape;
        line = omega arith;
        here = low p v.shape.lines v.waiting l lt ∙ ap (plain p l) j.here
            ∙ cond-true (not (own p l g)) (g ∷ plain p l (w.waiting l)) (plain p l (w.waiting l)) (not_from_false (own p l g) strange)
            ∙ ap (λ z. g ∷ z) (sym (lists_are p v w j.shape l ∙ low p v.shape.lines w.waiting l lt));
        others = λ k ne. lists_are p v w j.shape k ∙ agree p v.shape.lines v.waiting w.waiting k
            (λ b. ap (plain p k) (j.others k ne))
            (λ e. along_same v.shape (forth p) v.waiting w.waiting sameF)
            (λ e. along_same v.shape (back p) v.waiting w.waiting sameB);
        hops = let b = j.hops in omega arith;
      }

-- one direction of the tunnel, its line t in the tunnel, and the other direction
pub record Side (p : Path) (s : Shape) (x y : Way) (t : ℕ) : Type 0 where
  pub len_x : x.len ≡ p.len
  pub len_y : y.len ≡ p.len
  pub exists : t < s.lines + 2
  pub read : (q : ℕ → List FrameValue) → tunnel_waiting p s.lines q t ≡ along q x
  pub away : (q r : ℕ → List FrameValue) (l : ℕ) → l ≢ t → plain p l (r l) ≡ plain p l (q l) → along r y ≡ along q y → tunnel_waiting p s.lines r l ≡ tunnel_waiting p s.lines q l
  pub all : (q r : ℕ → List FrameValue) (l : ℕ) → plain p l (r l) ≡ plain p l (q l) → along r x ≡ along q x → along r y ≡ along q y → tunnel_waiting p s.lines r l ≡ tunnel_waiting p s.lines q l
  pub both : (q : ℕ → List FrameValue) → ahead_of s q (forth p) + ahead_of s q (back p) ≡ ahead_of s q x + ahead_of s q y
  pub mine : (k : ℕ) (f : FrameValue) → k < x.len → own p (x.at k) f ≡ top_is (x.label k) f
  pub apart : (i j : ℕ) → i < x.len → j < x.len → x.at i ≡ x.at j → i ≡ j
  pub cross : (i j : ℕ) → i < x.len → j < y.len → x.at i ≢ y.at j
  pub line : (tunnel_shape p s).line t ≡ whole s x p.window
  pub within : (i : ℕ) → i < x.len → x.at i < s.lines
  pub wide : (i : ℕ) → i < x.len → p.window < (s.line (x.at i)).cap
  pub marked : (i : ℕ) → i < x.len → (on (forth p) p.len (x.at i) || on (back p) p.len (x.at i)) ≡ true
  pub low_label : (i : ℕ) → i < x.len → x.label i < s.kept
  pub high_label : (i : ℕ) → i < x.len → p.base ≤ x.label i

module _ (p : Path) (s : Shape) (even : s.lines % 2 ≡ 0) (ok : PathOk s p) where
  pub side_forth : Side p s (forth p) (back p) s.lines
  side_forth = record {
    len_x = refl;
    len_y = refl;
    exists = omega arith;
    read = λ q. first p s.lines q;
    away = λ q r l ne a c. agree p s.lines q r l (λ _. a) (λ e. absurd (ne e)) (λ _. c);
    all = λ q r l a b c. agree p s.lines q r l (λ _. a) (λ _. b) (λ _. c);
    both = λ q. refl;
    mine = own_forth p ok.links;
    apart = forth_apart p ok.links;
    cross = forth_back p ok.links;
    line = line_first p s;
    within = ok.exist;
    wide = λ i lt. (ok.caps i lt).0;
    marked = λ i lt. or_left (on (forth p) p.len (hop p i)) (on (back p) p.len (hop p i)) (on_here (forth p) i p.len lt);
    low_label = λ i lt. omega (arith, ok.labels);
    high_label = λ i lt. omega arith;
  }

  pub side_back : Side p s (back p) (forth p) (s.lines + 1)
  side_back = record {
    len_x = refl;
    len_y = refl;
    exists = omega arith;
    read = λ q. second p s.lines q;
    away = λ q r l ne a c. agree p s.lines q r l (λ _. a) (λ _. c) (λ e. absurd (ne e));
    all = λ q r l a b c. agree p s.lines q r l (λ _. a) (λ _. c) (λ _. b);
    both = λ q. omega arith;
    mine = own_back p ok.links;
    apart = back_apart p ok.links;
    cross = λ i j a b e. forth_back p ok.links j i b a (sym e);
    line = line_second p s;
    within = λ i lt. partner_below (hop p (p.len - 1 - i)) s.lines even (ok.exist (p.len - 1 - i) (omega arith));
    wide = λ i lt. (ok.caps (p.len - 1 - i) (omega arith)).1;
    marked = λ i lt. or_right (on (forth p) p.len ((back p).at i)) (on (back p) p.len ((back p).at i)) (on_here (back p) i p.len lt);
    low_label = λ i lt. omega (arith, ok.labels);
    high_label = λ i lt. omega arith;
  }

module _ (p : Path) (v w : PlantValue) (x y : Way) (t : ℕ) (side : Side p v.shape x y t) where
  -- an own frame is sent below on the first hop: it joins the way
  pub own_sent : (g : FrameValue) → 0 < x.len → top_is (x.label 0) g ≡ true → Joins v (x.at 0) g w → Joins (tunnel_value p v) t (popped g) (tunnel_value p w)
  own_sent g lt mine j =
      let q = v.waiting in
      let r = w.waiting in
      let others = hop_others x side.apart q r g 0 lt mine j.others in
      let joined = hop_joined x side.apart q r g 0 lt mine j.others j.here in
      let sameY = λ (i : ℕ) (b : i < y.len). ap (λ z. map popped (keep (top_is (y.label i)) z)) (j.others (y.at i) (λ e. side.cross 0 i lt b (sym e))) in
      let plains = plain_joined p x side.mine q r g 0 lt mine j.others j.here in
      let aX : ahead_of v.shape r x ≡ ahead_of v.shape q x + later v.shape x 0 = weigh_join (hop_frames q x) (hop_frames r x) (later v.shape x) 0 x.len lt others (popped g) joined in
      let aY = ahead_same v.shape y q r sameY in
      let alongY = along_same v.shape y q r sameY in
      let h = hops_are p v w j.shape in
      record {
        shape = shape_same p v w j.shape;
        here = lists_are p v w j.shape t ∙ side.read r
            ∙ gather_join (hop_frames q x) (hop_frames r x) (popped g) x.len lt joined others
            ∙ ap (λ z. z ++ (popped g ∷ [])) (sym (side.read q));
        others = λ k ne. lists_are p v w j.shape k ∙ side.away q r k ne (plains k) alongY;
        hops = let b = j.hops in let c = ap (λ (z : Line). z.span) side.line in let d = later_first v.shape x lt in let e = side.both q in let f = side.both r in omega arith;
      }

  -- an own frame is handed out below on the last hop: it leaves the way
  pub own_out : (g : FrameValue) (k : ℕ) → suc k ≡ x.len → top_is (x.label k) g ≡ true → Hands v (x.at k) g w → Hands (tunnel_value p v) t (popped g) (tunnel_value p w)
  own_out g k last mine j =
      let q = v.waiting in
      let r = w.waiting in
      let lt : k < x.len = omega arith in
      let others = hop_others x side.apart q r g k lt mine j.others in
      let left = hop_left x side.apart q r g k lt mine j.others j.here in
      let sameY = λ (i : ℕ) (b : i < y.len). ap (λ z. map popped (keep (top_is (y.label i)) z)) (j.others (y.at i) (λ e. side.cross k i lt b (sym e))) in
      let plains = plain_left p x side.mine q r g k lt mine j.others j.here in
      let aX : ahead_of v.shape q x ≡ ahead_of v.shape r x + later v.shape x k = weigh_out (hop_frames q x) (hop_frames r x) (later v.shape x) k x.len lt others (popped g) left in
      let aY = ahead_same v.shape y q r sameY in
      let alongY = along_same v.shape y q r sameY in
      let h = hops_are p v w j.shape in
      record {
        shape = shape_same p v w j.shape;
        line = side.exists;
        here = side.read q
            ∙ gather_out (hop_frames q x) (hop_frames r x) (popped g) k x.len last left others
            ∙ ap (λ z. popped g ∷ z) (sym (lists_are p v w j.shape t ∙ side.read r));
        others = λ k' ne. lists_are p v w j.shape k' ∙ side.away q r k' ne (plains k') alongY;
        hops = let b = j.hops in let d = later_last v.shape x k last in let e = side.both q in let f = side.both r in omega arith;
      }

  -- an own frame is handed out below on a hop and sent on the next: the way stays, and the tunnel has moved
  pub own_relayed : (m : PlantValue) (g g' : FrameValue) (k : ℕ) → suc k < x.len → top_is (x.label k) g ≡ true → top_is (x.label (suc k)) g' ≡ true → popped g' ≡ popped g
      → Hands v (x.at k) g m → Joins m (x.at (suc k)) g' w → Moves (tunnel_value p v) (tunnel_value p w)
  own_relayed m g g' k lt mine mine' alike j j' =
      let q = v.waiting in
      let z = m.waiting in
      let r = w.waiting in
      let here : k < x.len = omega arith in
      let same = j'.shape ∙ j.shape in
      let others = hop_others x side.apart q z g k here mine j.others in
      let others' = hop_others x side.apart z r g' (suc k) lt mine' j'.others in
      let left = hop_left x side.apart q z g k here mine j.others j.here in
      let joined = hop_joined x side.apart z r g' (suc k) lt mine' j'.others j'.here in
      let sameY = λ (i : ℕ) (b : i < y.len). ap (λ xs. map popped (keep (top_is (y.label i)) xs)) (j'.others (y.at i) (λ e. side.cross (suc k) i lt b (sym e)) ∙ j.others (y.at i) (λ e. side.cross k i here b (sym e))) in
      let plains = plain_left p x side.mine q z g k here mine j.others j.here in
      let plains' = plain_joined p x side.mine z r g' (suc k) lt mine' j'.others j'.here in
      let aX : ahead_of v.shape q x ≡ ahead_of v.shape z x + later v.shape x k = weigh_out (hop_frames q x) (hop_frames z x) (later v.shape x) k x.len here others (popped g) left in
      let aX' : ahead_of v.shape r x ≡ ahead_of v.shape z x + later v.shape x (suc k) = weigh_join (hop_frames z x) (hop_frames r x) (later v.shape x) (suc k) x.len lt others' (popped g') joined in
      let aY = ahead_same v.shape y q r sameY in
      let alongY = along_same v.shape y q r sameY in
      let back-here : hop_frames r x k ≡ hop_frames z x k = others' k here (omega arith) in
      let ahead-here : hop_frames z x (suc k) ≡ hop_frames q x (suc k) = others (suc k) lt (omega arith) in
      let alongX : along r x ≡ along q x =
      gather_relay (hop_frames q x) (hop_frames r x) (popped g) k x.len lt
      (left ∙ ap (λ xs. popped g ∷ xs) (sym back-here))
      (joined ∙ ap₂ (λ xs f. xs ++ (f ∷ [])) ahead-here alike)
      (λ i b ne ne'. others' i b ne' ∙ others i b ne) in
      let h = hops_are p v w same in
      record {
        shape = shape_same p v w same;
        lists = λ l. lists_are p v w same l ∙ side.all q r l (plains' l ∙ plains l) alongX alongY;
        hops =
            let a = j.hops in
            let b : w.hops ≡ m.hops + hop_span v.shape x (suc k) = j'.hops ∙ ap (λ s. m.hops + hop_span s x (suc k)) j.shape in
            let d = later_next v.shape x k lt in
            let e = side.both q in
            let f = side.both r in
            omega arith;
      }
