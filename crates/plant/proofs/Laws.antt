-- The laws after a step, from the laws before it. Assumes nothing.
use Rattle.std.proofs.Common.{◌≡◌, ℕ, ◌+◌, ◌<◌, ◌≤◌, Bool, true, false, cond, ltb, leb, [], ◌∷◌, length, Some, None, Option, sym, refl, ap, ◌∙◌, subst, ⊎_elim, add-one, arith, length-append}
use Rattle.std.proofs.lemmas.Bool.{cases_eq, leb-false, ltb-false, lt-leb, le-leb, le-ltb, lt-ltb}
use Rattle.frame.specs.Frames.{FrameValue}
use Rattle.plant.specs.Plants.{PlantValue, Shape, Lawful, over_kept, total, sum_to}
use Rattle.plant.specs.Answers.{send_refusal, Joins, Moves, Hands}
use Rattle.plant.proofs.Sums.{sum_same, sum_one}

-- what it is that no refusal holds
pub record Welcome (v : PlantValue) (l : ℕ) (f : FrameValue) : Type 0 where
  pub line : l < v.shape.lines
  pub room : length (v.waiting l) < (v.shape.line l).cap
  pub label : over_kept v.shape.kept f.stack ≡ false
  pub deep : length f.stack ≤ v.shape.depth

pub welcome : (v : PlantValue) (l : ℕ) (f : FrameValue) → send_refusal v l f ≡ None → Welcome v l f
welcome v l f e =
    go (leb v.shape.lines l) (leb (v.shape.line l).cap (length (v.waiting l))) (over_kept v.shape.kept f.stack) (ltb v.shape.depth (length f.stack)) refl refl refl refl e
  where
    never : (n : ℕ) → Some n ≡ None → ⊥
    never n q = let z : ◌≡◌ {A = ℕ} 0 1 = cc in omega arith

    go : (a b c d : Bool) → leb v.shape.lines l ≡ a → leb (v.shape.line l).cap (length (v.waiting l)) ≡ b → over_kept v.shape.kept f.stack ≡ c → ltb v.shape.depth (length f.stack) ≡ d
        → cond {A = Option ℕ} a (Some 6) (cond b (Some 23) (cond c (Some 25) (cond d (Some 26) None))) ≡ None → Welcome v l f
    go true b c d _ _ _ _ q = absurd (never 6 q)
    go false true c d _ _ _ _ q = absurd (never 23 q)
    go false false true d _ _ _ _ q = absurd (never 25 q)
    go false false false true _ _ _ _ q = absurd (never 26 q)
    go false false false false p q r s _ = record {
      line = leb-false v.shape.lines l p;
      room = leb-false (v.shape.line l).cap (length (v.waiting l)) q;
      label = r;
      deep = ltb-false v.shape.depth (length f.stack) s;
    }

pub not_refused : (v : PlantValue) (l : ℕ) (f : FrameValue) → Welcome v l f → send_refusal v l f ≡ None
not_refused v l f h =
    let a = lt-leb v.shape.lines l h.line in
    let b = lt-leb (v.shape.line l).cap (length (v.waiting l)) h.room in
    let c = h.label in
    let d = le-ltb v.shape.depth (length f.stack) h.deep in
    simp (a, b, c, d)

-- the value over the shape as it was
abbrev at_shape : Shape → PlantValue → PlantValue
at_shape s w = record { shape = s; waiting = w.waiting; counts = w.counts; hops = w.hops }

module _ (v w : PlantValue) (law : Lawful v) (l : ℕ) (f : FrameValue) where
  pub joined_total : l < v.shape.lines → Joins v l f w → total w ≡ total v + 1
  joined_total lt j =
      ap (λ s. sum_to s.lines (λ k. length (w.waiting k))) j.shape
      ∙ sum_one (λ k. length (v.waiting k)) (λ k. length (w.waiting k)) l 1 v.shape.lines lt
      (ap length j.here ∙ length-append (v.waiting l) (f ∷ [])) (λ i _ ne. ap length (j.others i ne))

  pub joined_lawful : Welcome v l f → Joins v l f w → sum_to w.shape.ports w.counts ≡ total w → Lawful w
  joined_lawful h j counted =
      let back : at_shape v.shape w ≡ w = λ i. record { shape = sym j.shape i; waiting = w.waiting; counts = w.counts; hops = w.hops } in
      let t = joined_total h.line j in
      let t' : total (at_shape v.shape w) ≡ total v + 1 = ap total back ∙ t in
      let c : sum_to v.shape.ports w.counts ≡ total (at_shape v.shape w) = subst (λ u. sum_to u.shape.ports u.counts ≡ total u) (sym back) counted in
      subst Lawful back (record {
        shape = law.shape;
        room = λ k lt. ⊎_elim (here_room k) (λ ne. subst (λ xs. length xs ≤ (v.shape.line k).cap) (sym (j.others k ne)) (law.room k lt)) (cases_eq k l);
        counted = c;
        rest = λ z. absurd (omega arith);
        least = let a = law.least in let b = j.hops in let s = (law.shape.line l h.line).span_least in omega arith;
      })
    where
      here_room : (k : ℕ) → k ≡ l → length (w.waiting k) ≤ (v.shape.line k).cap
      here_room k e = subst (λ n. length (w.waiting n) ≤ (v.shape.line n).cap) (sym e)
          (let a : length (w.waiting l) ≡ length (v.waiting l) + 1 = ap length j.here ∙ length-append (v.waiting l) (f ∷ []) in let b = h.room in omega arith)

  pub handed_total : Hands v l f w → total v ≡ total w + 1
  handed_total j =
      sum_one (λ k. length (w.waiting k)) (λ k. length (v.waiting k)) l 1 v.shape.lines j.line
      (ap length j.here ∙ sym (add-one (length (w.waiting l)))) (λ i _ ne. ap length (sym (j.others i ne)))
      ∙ ap (λ s. sum_to s.lines (λ k. length (w.waiting k)) + 1) (sym j.shape)

  pub handed_lawful : Hands v l f w → sum_to w.shape.ports w.counts ≡ total w → (total w ≡ 0 → w.hops ≡ 0) → Lawful w
  handed_lawful j counted rest =
      let back : at_shape v.shape w ≡ w = λ i. record { shape = sym j.shape i; waiting = w.waiting; counts = w.counts; hops = w.hops } in
      let t = handed_total j in
      let t' : total (at_shape v.shape w) ≡ total w = ap total back in
      let c : sum_to v.shape.ports w.counts ≡ total (at_shape v.shape w) = subst (λ u. sum_to u.shape.ports u.counts ≡ total u) (sym back) counted in
      subst Lawful back (record {
        shape = law.shape;
        room = λ k lt. ⊎_elim (λ e. subst (λ n. length (w.waiting n) ≤ (v.shape.line n).cap) (sym e) here_room) (λ ne. subst (λ xs. length xs ≤ (v.shape.line k).cap) (sym (j.others k ne)) (law.room k lt)) (cases_eq k l);
        counted = c;
        rest = λ z. rest (omega arith);
        least = let a = law.least in let b = j.hops in omega arith;
      })
    where
      here_room : length (w.waiting l) ≤ (v.shape.line l).cap
      here_room = let a = ap length j.here in let b = law.room l j.line in omega arith

module _ (v w : PlantValue) (law : Lawful v) where
  pub moved_total : Moves v w → total w ≡ total v
  moved_total j =
      ap (λ s. sum_to s.lines (λ k. length (w.waiting k))) j.shape
      ∙ sum_same (λ k. length (v.waiting k)) (λ k. length (w.waiting k)) v.shape.lines (λ i _. ap length (j.lists i))

  pub moved_lawful : Moves v w → sum_to w.shape.ports w.counts ≡ total w → (total w ≡ 0 → w.hops ≡ 0) → total w ≤ w.hops → Lawful w
  moved_lawful j counted rest least =
      let back : at_shape v.shape w ≡ w = λ i. record { shape = sym j.shape i; waiting = w.waiting; counts = w.counts; hops = w.hops } in
      let t' : total (at_shape v.shape w) ≡ total w = ap total back in
      let c : sum_to v.shape.ports w.counts ≡ total (at_shape v.shape w) = subst (λ u. sum_to u.shape.ports u.counts ≡ total u) (sym back) counted in
      subst Lawful back (record {
        shape = law.shape;
        room = λ k lt. subst (λ xs. length xs ≤ (v.shape.line k).cap) (sym (j.lists k)) (law.room k lt);
        counted = c;
        rest = λ z. rest (omega arith);
        least = omega arith;
      })

-- the refusals, each after those before it do not hold
module _ (v : PlantValue) (l : ℕ) (f : FrameValue) (line : l < v.shape.lines) where
  pub refused_full : (v.shape.line l).cap ≤ length (v.waiting l) → send_refusal v l f ≡ Some 23
  refused_full le =
      let a = lt-leb v.shape.lines l line in
      let b = le-leb (v.shape.line l).cap (length (v.waiting l)) le in
      simp (a, b)

  module _ (room : length (v.waiting l) < (v.shape.line l).cap) where
    pub refused_label : over_kept v.shape.kept f.stack ≡ true → send_refusal v l f ≡ Some 25
    refused_label c =
        let a = lt-leb v.shape.lines l line in
        let b = lt-leb (v.shape.line l).cap (length (v.waiting l)) room in
        simp (a, b, c)

    pub refused_depth : over_kept v.shape.kept f.stack ≡ false → v.shape.depth < length f.stack → send_refusal v l f ≡ Some 26
    refused_depth c lt =
        let a = lt-leb v.shape.lines l line in
        let b = lt-leb (v.shape.line l).cap (length (v.waiting l)) room in
        let d = lt-ltb v.shape.depth (length f.stack) lt in
        simp (a, b, c, d)
