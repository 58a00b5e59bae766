-- What a step of the plant below is to the tunnel. Assumes nothing.
use Rattle.std.proofs.Common.{◌≡◌, ℕ, ◌+◌, ◌*◌, ◌<◌, ◌≤◌, true, false, cond, not, eqb, ltb, ◌≢◌, ◌⊎◌, List, [], ◌∷◌, ◌++◌, map, length, sym, refl, ap, ◌∙◌, subst, inl, inr, ⊎_elim, arith}
use Rattle.std.proofs.lemmas.Bool.{cases_eq, cases_lt, cond-true, cond-false, eq-eqb, ne_eqb, lt-ltb, le-ltb, not_from_true}
use Rattle.frame.specs.Frames.{FrameValue}
use Rattle.plant.specs.Plants.{Shape, sum_to}
use Rattle.tunnel.specs.declared.path.Path.{Path}
use Rattle.tunnel.specs.Tunnels.{Way, forth, back, own, top_is, keep, popped, hop_frames, along, later, tunnel_waiting}
use Rattle.plant.proofs.Sums.{sum_same}
use Rattle.tunnel.specs.Gathers.{gather_same}
use Rattle.tunnel.specs.Ways.{keep_skip}

abbrev Lists : Type 0
Lists = ℕ → List FrameValue

abbrev pub plain : Path → ℕ → List FrameValue → List FrameValue
plain p l xs = keep (λ f. not (own p l f)) xs

abbrev pub ahead_of : Shape → Lists → Way → ℕ
ahead_of s q w = sum_to w.len (λ i. length (hop_frames q w i) * later s w i)

-- a frame of a hop's own joins or leaves that hop's line: the plain lists stay
module _ (p : Path) (w : Way) (mine_is : (k : ℕ) (f : FrameValue) → k < w.len → own p (w.at k) f ≡ top_is (w.label k) f)
    (q r : Lists) (g : FrameValue) (k : ℕ) (in_way : k < w.len) (mine : top_is (w.label k) g ≡ true) (others : (l : ℕ) → l ≢ w.at k → r l ≡ q l) where
  out : not (own p (w.at k) g) ≡ false
  out = not_from_true (own p (w.at k) g) (mine_is k g in_way ∙ mine)

  pub plain_joined : r (w.at k) ≡ q (w.at k) ++ (g ∷ []) → (l : ℕ) → plain p l (r l) ≡ plain p l (q l)
  plain_joined e l = ⊎_elim here (λ ne. ap (plain p l) (others l ne)) (cases_eq l (w.at k))
    where
      here : l ≡ w.at k → plain p l (r l) ≡ plain p l (q l)
      here z = subst (λ j. plain p j (r j) ≡ plain p j (q j)) (sym z) (ap (plain p (w.at k)) e ∙ keep_skip (λ f. not (own p (w.at k) f)) (q (w.at k)) g out)

  pub plain_left : q (w.at k) ≡ g ∷ r (w.at k) → (l : ℕ) → plain p l (r l) ≡ plain p l (q l)
  plain_left e l = ⊎_elim here (λ ne. ap (plain p l) (others l ne)) (cases_eq l (w.at k))
    where
      here : l ≡ w.at k → plain p l (r l) ≡ plain p l (q l)
      here z = subst (λ j. plain p j (r j) ≡ plain p j (q j)) (sym z)
          (sym (ap (plain p (w.at k)) e ∙ cond-false (not (own p (w.at k) g)) (g ∷ plain p (w.at k) (r (w.at k))) (plain p (w.at k) (r (w.at k))) out))

-- a frame that is no hop's own joins or leaves a line: the ways stay
module _ (p : Path) (w : Way) (mine_is : (k : ℕ) (f : FrameValue) → k < w.len → own p (w.at k) f ≡ top_is (w.label k) f)
    (q r : Lists) (g : FrameValue) (l : ℕ) (strange : own p l g ≡ false) (others : (k : ℕ) → k ≢ l → r k ≡ q k) where
  pub strange_joined : r l ≡ q l ++ (g ∷ []) → (i : ℕ) → i < w.len → hop_frames r w i ≡ hop_frames q w i
  strange_joined e i lt = ⊎_elim here (λ ne. ap (λ z. map popped (keep (top_is (w.label i)) z)) (others (w.at i) ne)) (cases_eq (w.at i) l)
    where
      here : w.at i ≡ l → hop_frames r w i ≡ hop_frames q w i
      here z =
          let no_own : top_is (w.label i) g ≡ false = sym (mine_is i g lt) ∙ ap (λ j. own p j g) z ∙ strange in
          ap (λ j. map popped (keep (top_is (w.label i)) (r j))) z
          ∙ ap (λ y. map popped (keep (top_is (w.label i)) y)) e
          ∙ ap (map popped) (keep_skip (top_is (w.label i)) (q l) g no_own)
          ∙ ap (λ j. map popped (keep (top_is (w.label i)) (q j))) (sym z)

  pub strange_left : q l ≡ g ∷ r l → (i : ℕ) → i < w.len → hop_frames r w i ≡ hop_frames q w i
  strange_left e i lt = ⊎_elim here (λ ne. ap (λ z. map popped (keep (top_is (w.label i)) z)) (others (w.at i) ne)) (cases_eq (w.at i) l)
    where
      here : w.at i ≡ l → hop_frames r w i ≡ hop_frames q w i
      here z =
          let no_own : top_is (w.label i) g ≡ false = sym (mine_is i g lt) ∙ ap (λ j. own p j g) z ∙ strange in
          ap (λ j. map popped (keep (top_is (w.label i)) (r j))) z
          ∙ sym (ap (λ y. map popped (keep (top_is (w.label i)) y)) e
          ∙ ap (map popped) (cond-false (top_is (w.label i) g) (g ∷ keep (top_is (w.label i)) (r l)) (keep (top_is (w.label i)) (r l)) no_own))
          ∙ ap (λ j. map popped (keep (top_is (w.label i)) (q j))) (sym z)

module _ (s : Shape) (w : Way) (q r : Lists) (same : (i : ℕ) → i < w.len → hop_frames r w i ≡ hop_frames q w i) where
  pub along_same : along r w ≡ along q w
  along_same = gather_same (hop_frames q w) (hop_frames r w) w.len same

  pub ahead_same : ahead_of s r w ≡ ahead_of s q w
  ahead_same = sum_same (λ i. length (hop_frames q w i) * later s w i) (λ i. length (hop_frames r w i) * later s w i) w.len (λ i b. ap (λ z. length z * later s w i) (same i b))

-- the tunnel's lists, place by place
module _ (p : Path) (n : ℕ) (q : Lists) where
  pub low : (l : ℕ) → l < n → tunnel_waiting p n q l ≡ plain p l (q l)
  low l lt = cond-true (ltb l n) (plain p l (q l)) (cond (eqb l n) (along q (forth p)) (cond (eqb l (n + 1)) (along q (back p)) [])) (lt-ltb l n lt)

  pub first : tunnel_waiting p n q n ≡ along q (forth p)
  first = cond-false (ltb n n) (plain p n (q n)) (cond (eqb n n) (along q (forth p)) (cond (eqb n (n + 1)) (along q (back p)) [])) (le-ltb n n (omega arith))
      ∙ cond-true (eqb n n) (along q (forth p)) (cond (eqb n (n + 1)) (along q (back p)) []) (eq-eqb n n refl)

  pub second : tunnel_waiting p n q (n + 1) ≡ along q (back p)
  second = cond-false (ltb (n + 1) n) (plain p (n + 1) (q (n + 1))) (cond (eqb (n + 1) n) (along q (forth p)) (cond (eqb (n + 1) (n + 1)) (along q (back p)) [])) (le-ltb (n + 1) n (omega arith))
      ∙ cond-false (eqb (n + 1) n) (along q (forth p)) (cond (eqb (n + 1) (n + 1)) (along q (back p)) []) (ne_eqb (n + 1) n (omega arith))
      ∙ cond-true (eqb (n + 1) (n + 1)) (along q (back p)) [] (eq-eqb (n + 1) (n + 1) refl)

module _ (p : Path) (n : ℕ) (q r : Lists) where
  -- the lists at one place agree where the parts that it reads do
  pub agree : (l : ℕ) → (l < n → plain p l (r l) ≡ plain p l (q l)) → (l ≡ n → along r (forth p) ≡ along q (forth p)) → (l ≡ n + 1 → along r (back p) ≡ along q (back p)) → tunnel_waiting p n r l ≡ tunnel_waiting p n q l
  agree l a b c = ⊎_elim (λ lt. low p n r l lt ∙ a lt ∙ sym (low p n q l lt)) (λ le. ⊎_elim mid (λ ne. high le ne) (cases_eq l n)) (cases_lt l n)
    where
      mid : l ≡ n → tunnel_waiting p n r l ≡ tunnel_waiting p n q l
      mid e = ap (tunnel_waiting p n r) e ∙ first p n r ∙ b e ∙ sym (first p n q) ∙ ap (tunnel_waiting p n q) (sym e)

      past : n ≤ l → (l ≡ n → ⊥) → (x : Lists) → tunnel_waiting p n x l ≡ cond (eqb l (n + 1)) (along x (back p)) []
      past le ne x = cond-false (ltb l n) (plain p l (x l)) (cond (eqb l n) (along x (forth p)) (cond (eqb l (n + 1)) (along x (back p)) [])) (le-ltb l n le)
          ∙ cond-false (eqb l n) (along x (forth p)) (cond (eqb l (n + 1)) (along x (back p)) []) (ne_eqb l n ne)

      top : (l ≡ n + 1) ⊎ (l ≡ n + 1 → ⊥) → cond (eqb l (n + 1)) (along r (back p)) [] ≡ cond (eqb l (n + 1)) (along q (back p)) []
      top (inl e) = ap (λ z. cond (eqb l (n + 1)) z []) (c e)
      top (inr ne) = cond-false (eqb l (n + 1)) (along r (back p)) [] (ne_eqb l (n + 1) ne) ∙ sym (cond-false (eqb l (n + 1)) (along q (back p)) [] (ne_eqb l (n + 1) ne))

      high : n ≤ l → (l ≡ n → ⊥) → tunnel_waiting p n r l ≡ tunnel_waiting p n q l
      high le ne = past le ne r ∙ top (cases_eq l (n + 1)) ∙ sym (past le ne q)
