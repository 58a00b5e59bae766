-- The tunnel's send, from what the send below answered. Assumes nothing.
use Rattle.std.proofs.Common.{◌≡◌, ℕ, zero, suc, ◌+◌, ◌-◌, ◌<◌, ◌≤◌, Bool, true, false, cond, not, eqb, ◌≢◌, ◌⊎◌, List, [], ◌∷◌, length, Some, None, Ok, Err, Result, sym, refl, ap, ◌∙◌, subst, inl, inr, ⊎_elim, arith}
use lib.ListN.{length-map}
use Rattle.std.proofs.lemmas.Bool.{cases_eq, cases_Bool, cond-true, cond-false, eq-eqb, ne_eqb, leb-false, lt-leb, or_from}
use Rattle.frame.specs.Frames.{FrameValue}
use Rattle.frame.specs.declared.entry.Entry.{Entry}
use Rattle.frame.specs.declared.refusal.Refusal.{Refusal}
use Rattle.plant.specs.Plants.{PlantValue, Line, Lawful, over_kept}
use Rattle.plant.specs.Answers.{Joins, Sends}
use Rattle.plant.proofs.Laws.{Welcome, not_refused, joined_total}
use Rattle.tunnel.specs.declared.path.Path.{Path}
use Rattle.tunnel.specs.Tunnels.{Way, own, own_at, on, crossing, top_is, tops, keep, popped, forth, back, hop_frames, tunnel_value}
use Rattle.tunnel.specs.Held.{TunnelOk}
use Rattle.tunnel.specs.Ways.{own_none}
use Rattle.tunnel.proofs.Steps.{low}
use Rattle.tunnel.proofs.Answers.{Side, side_forth, side_back, plain_sent, own_sent, line_low}
use Rattle.tunnel.proofs.Rooms.{keep_parts, keep_like, hop_part, way_load, kept_joined, shallow_joined}
use Rattle.tunnel.proofs.Reading.{keep_all}
use Rattle.tunnel.specs.Onward.{labelled, Entered}
use Rattle.frame.specs.Numbers.{refusal_number}

-- the tunnel is held as before, and its send answered so
abbrev pub ThenSent : Path → PlantValue → ℕ → FrameValue → Result (Unit {0}) Refusal → PlantValue → Type 0
ThenSent p v l f r w = TunnelOk p w × Sends (tunnel_value p v) l f r (tunnel_value p w)

-- a line on a way has a hop there, and one off it has none
pub on_find : (w : Way) (l n : ℕ) → on w n l ≡ true → (i : ℕ) × (i < n) × (w.at i ≡ l)
on_find w l zero e = let z : ◌≡◌ {A = ℕ} 0 1 = cc in absurd (omega arith)
on_find w l (suc n) e = go (cases_eq (w.at n) l) (on_find w l n)
  where
    go : (w.at n ≡ l) ⊎ (w.at n ≡ l → ⊥) → (on w n l ≡ true → (i : ℕ) × (i < n) × (w.at i ≡ l)) → (i : ℕ) × (i < suc n) × (w.at i ≡ l)
    go (inl q) ih = (n, omega arith, q)
    go (inr ne) ih = let r = ih (sym (cond-false (eqb (w.at n) l) true (on w n l) (ne_eqb (w.at n) l ne)) ∙ e) in let lt = r.1 in (r.0, omega arith, r.2)

on_miss : (w : Way) (l n : ℕ) → on w n l ≡ false → (i : ℕ) → i < n → w.at i ≢ l
on_miss w l zero e i lt q = absurd (omega arith)
on_miss w l (suc n) e i lt q = go (cases_eq (w.at n) l) (on_miss w l n)
  where
    go : (w.at n ≡ l) ⊎ (w.at n ≡ l → ⊥) → (on w n l ≡ false → (k : ℕ) → k < n → w.at k ≢ l) → ⊥
    go (inl s) ih = let t = sym (cond-true (eqb (w.at n) l) true (on w n l) (eq-eqb (w.at n) l s)) ∙ e in let z : ◌≡◌ {A = ℕ} 0 1 = cc in omega arith
    go (inr ne) ih = ⊎_elim (λ s. ne (ap w.at (sym s) ∙ q)) (λ ns. ih (sym (cond-false (eqb (w.at n) l) true (on w n l) (ne_eqb (w.at n) l ne)) ∙ e) i (omega arith) q) (cases_eq i n)

-- a label under those of the hops is no hop's
own_low : (p : Path) (l : ℕ) (f : FrameValue) → over_kept p.base f.stack ≡ false → own p l f ≡ false
own_low p l f h = or_from (own_at (forth p) p.len l f) (own_at (back p) p.len l f) (each (forth p) (λ i. omega arith) p.len) (each (back p) (λ i. omega arith) p.len)
  where
    no_top : (k : ℕ) (es : List Entry) → over_kept p.base es ≡ false → p.base ≤ k → tops k es ≡ false
    no_top k [] e le = refl
    no_top k (x ∷ es) e le = ne_eqb x.label k (let a = leb-false p.base x.label e in omega arith)

    both : (b x y : Bool) → x ≡ false → y ≡ false → cond b x y ≡ false
    both true x y e d = e
    both false x y e d = d

    each : (w : Way) → ((i : ℕ) → p.base ≤ w.label i) → (n : ℕ) → own_at w n l f ≡ false
    each w high zero = refl
    each w high (suc n) = both (eqb (w.at n) l) (top_is (w.label n) f) (own_at w n l f) (no_top (w.label n) f.stack h (high n)) (each w high n)

over_more : (k n : ℕ) (es : List Entry) → over_kept k es ≡ false → k ≤ n → over_kept n es ≡ false
over_more k n [] e le = refl
over_more k n (x ∷ es) e le = lt-leb n x.label (let a = leb-false k x.label e in omega arith)

module _ (p : Path) (v : PlantValue) (law : Lawful v) (ok : TunnelOk p v) where
  module _ (x y : Way) (t : ℕ) (side : Side p v.shape x y t) where
    -- what waits below on a hop's line: the plain frames and the hop's own
    hop_split : (i : ℕ) → i < x.len → length (v.waiting (x.at i)) ≡ length ((tunnel_value p v).waiting (x.at i)) + length (hop_frames v.waiting x i)
    hop_split i lt =
        let l = x.at i in
        let xs = v.waiting l in
        let parts = keep_parts (own p l) xs in
        let mine = ap length (keep_like (own p l) (top_is (x.label i)) (λ f. side.mine i f lt) xs) in
        let popt = length-map (keep (top_is (x.label i)) xs) popped in
        let is = ap length (low p v.shape.lines v.waiting l (side.within i lt)) in
        omega arith

    hop_cap : (i : ℕ) → i < x.len → ((tunnel_value p v).shape.line (x.at i)).cap + p.window ≡ (v.shape.line (x.at i)).cap
    hop_cap i lt =
        let l = x.at i in
        let cap = ap (λ (n : Line). n.cap) (line_low p v.shape l (side.within i lt)) in
        let cap' : cond (crossing p l) ((v.shape.line l).cap - p.window) (v.shape.line l).cap ≡ (v.shape.line l).cap - p.window = cond-true _ _ _ (side.marked i lt) in
        let wide = side.wide i lt in
        omega arith

    hop_room : (l i : ℕ) → i < x.len → x.at i ≡ l → length ((tunnel_value p v).waiting l) < ((tunnel_value p v).shape.line l).cap → length (v.waiting l) < (v.shape.line l).cap
    hop_room l i lt e = subst (λ k. length ((tunnel_value p v).waiting k) < ((tunnel_value p v).shape.line k).cap → length (v.waiting k) < (v.shape.line k).cap) e
        (λ h. let a = hop_split i lt in let b = hop_cap i lt in let c = hop_part v.waiting x i lt in let d = way_load p v law ok x y t side in omega arith)

    pub own_welcome : (f g : FrameValue) (a : Entry) → 0 < x.len → Welcome (tunnel_value p v) t f → g.stack ≡ a ∷ f.stack → a.label ≡ x.label 0 → Welcome v (x.at 0) g
    own_welcome f g a lt h e q = record {
      line = side.within 0 lt;
      room =
          let a₁ = hop_split 0 lt in
          let a₂ = hop_cap 0 lt in
          let a₃ = hop_part v.waiting x 0 lt in
          let inn = side.within 0 lt in
          let in-tunnel : x.at 0 < v.shape.lines + 2 = omega arith in
          let a₄ = ok.lawful.room (x.at 0) in-tunnel in
          let a₅ = h.room in
          let a₆ = ap length (side.read v.waiting) in
          let a₇ = ap (λ (n : Line). n.cap) side.line in
          omega arith;
      label = ap (over_kept v.shape.kept) e ∙ lt-leb v.shape.kept a.label (let z = side.low_label 0 lt in omega arith);
      deep = let z = ap length e in let d = h.deep in let d₂ = ok.path.deep in omega arith;
    }

  plain_room : (l : ℕ) → l < v.shape.lines → length ((tunnel_value p v).waiting l) < ((tunnel_value p v).shape.line l).cap → length (v.waiting l) < (v.shape.line l).cap
  plain_room l lt h = ⊎_elim forths (λ nf. ⊎_elim backs (λ nb. free nf nb) (cases_Bool (on (back p) p.len l))) (cases_Bool (on (forth p) p.len l))
    where
      forths : on (forth p) p.len l ≡ true → length (v.waiting l) < (v.shape.line l).cap
      forths e = let i = on_find (forth p) l p.len e in hop_room (forth p) (back p) v.shape.lines (side_forth p v.shape law.shape.even ok.path) l i.0 i.1 i.2 h

      backs : on (back p) p.len l ≡ true → length (v.waiting l) < (v.shape.line l).cap
      backs e = let i = on_find (back p) l p.len e in hop_room (back p) (forth p) (v.shape.lines + 1) (side_back p v.shape law.shape.even ok.path) l i.0 i.1 i.2 h

      free : on (forth p) p.len l ≡ false → on (back p) p.len l ≡ false → length (v.waiting l) < (v.shape.line l).cap
      free nf nb =
          let strange = λ (f : FrameValue). or_from (own_at (forth p) p.len l f) (own_at (back p) p.len l f) (own_none (forth p) l f p.len (on_miss (forth p) l p.len nf)) (own_none (back p) l f p.len (on_miss (back p) l p.len nb)) in
          let a = ap length (low p v.shape.lines v.waiting l lt ∙ keep_all (λ f. not (own p l f)) (λ f. ap not (strange f)) (v.waiting l)) in
          let b = ap (λ (n : Line). n.cap) (line_low p v.shape l lt) in
          let c : cond (crossing p l) ((v.shape.line l).cap - p.window) (v.shape.line l).cap ≡ (v.shape.line l).cap = cond-false _ _ _ (or_from (on (forth p) p.len l) (on (back p) p.len l) nf nb) in
          omega arith

  pub plain_welcome : (l : ℕ) (f : FrameValue) → l < v.shape.lines → Welcome (tunnel_value p v) l f → Welcome v l f
  plain_welcome l f lt h = record {
    line = lt;
    room = plain_room l lt h.room;
    label = over_more p.base v.shape.kept f.stack h.label (let a = ok.path.labels in omega arith);
    deep = let a = h.deep in omega arith;
  }

-- what was sent and not refused has joined
accepted : (v : PlantValue) (l : ℕ) (f : FrameValue) (r : Result (Unit {0}) Refusal) (w : PlantValue) → Welcome v l f → Sends v l f r w → Joins v l f w
accepted v l f (Ok u) w h s = s.1
accepted v l f (Err e) w h s = let a : None ≡ Some (refusal_number e) = sym (not_refused v l f h) ∙ s.0 in let z : ◌≡◌ {A = ℕ} 0 1 = cc in absurd (omega arith)

sends_from : (v : PlantValue) (l : ℕ) (g : FrameValue) (r : Result (Unit {0}) Refusal) (w : PlantValue) (v' : PlantValue) (l' : ℕ) (f : FrameValue) (w' : PlantValue)
    → Welcome v l g → Sends v l g r w → Welcome v' l' f → Joins v' l' f w' → Sends v' l' f r w'
sends_from v l g (Ok u) w v' l' f w' h s h' j = (not_refused v' l' f h', j)
sends_from v l g (Err e) w v' l' f w' h s h' j = let a : None ≡ Some (refusal_number e) = sym (not_refused v l g h) ∙ s.0 in let z : ◌≡◌ {A = ℕ} 0 1 = cc in absurd (omega arith)

-- what a send below leaves there
pub entered_as : (x : ℕ × FrameValue) (v : PlantValue) (r : Result (Unit {0}) Refusal) (w : PlantValue) → Sends v x.0 x.1 r w → Entered x v r w
entered_as x v (Ok u) w s = s.1
entered_as x v (Err e) w s = s.1

module _ (p : Path) (v w : PlantValue) (lv : Lawful v) (lw : Lawful w) (ok : TunnelOk p v) (line : ℕ) (f : FrameValue) (fine : Welcome (tunnel_value p v) line f) (r : Result (Unit {0}) Refusal) where
  pub send_plain : line < v.shape.lines → Sends v line f r w → ThenSent p v line f r w
  send_plain lt s =
      let h = plain_welcome p v lv ok line f lt fine in
      let j = accepted v line f r w h s in
      let m = plain_sent p v w ok.path line f lt (own_low p line f fine.label) j in (
        kept_joined p v w lw ok j.shape (shallow_joined v w ok.shallow line f h.deep j) line f fine m (joined_total v w lv line f lt j),
        sends_from v line f r w (tunnel_value p v) line f (tunnel_value p w) h s fine m,
      )

  pub send_own : (x y : Way) → Side p v.shape x y line → Sends v (x.at 0) (labelled (x.label 0) f) r w → ThenSent p v line f r w
  send_own x y side s =
      let g = labelled (x.label 0) f in
      let lt : 0 < x.len = let n = side.len_x in let k = ok.path.len_least in omega arith in
      let h = own_welcome p v lv ok x y line side f g (record { label = x.label 0; tc = 0; ttl = 255 }) lt fine refl refl in
      let j = accepted v (x.at 0) g r w h s in
      let m : Joins (tunnel_value p v) line f (tunnel_value p w) = own_sent p v w x y line side g lt (eq-eqb (x.label 0) (x.label 0) refl) j in (
        kept_joined p v w lw ok j.shape (shallow_joined v w ok.shallow (x.at 0) g h.deep j) line f fine m (joined_total v w lv (x.at 0) g h.line j),
        sends_from v (x.at 0) g r w (tunnel_value p v) line f (tunnel_value p w) h s fine m,
      )
