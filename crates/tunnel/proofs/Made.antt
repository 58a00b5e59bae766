-- A tunnel over a plant on which nothing waits keeps the laws. Assumes nothing.
use Rattle.std.proofs.Common.{◌≡◌, ℕ, ◌+◌, ◌-◌, ◌*◌, ◌/◌, ◌%◌, ◌<◌, ◌≤◌, true, ◌≢◌, ◌⊎◌, List, [], map, length, Ok, Err, Result, sym, refl, ap, ◌∙◌, subst, inl, inr, ⊎_elim, arith}
use Rattle.std.proofs.lemmas.Bool.{cases_eq, cases_lt, cases_Bool, or_cases}
use Rattle.std.proofs.lemmas.List.{nil_from_length}
use Rattle.frame.specs.Frames.{FrameValue}
use Rattle.plant.specs.Plants.{PlantValue, Shape, Line, Lawful, ShapeLaws, LineLaws, total, partner}
use Rattle.plant.proofs.Sums.{sum_front, sum_zero, sum_none}
use Rattle.tunnel.specs.declared.path.Path.{Path}
use Rattle.tunnel.specs.Held.{All, PathOk, TunnelOk, Kept, Exist}
use Rattle.tunnel.specs.Tunnels.{Way, hop, forth, back, on, crossing, keep, hop_frames, along, hop_span, spans, tunnel_shape, tunnel_waiting, tunnel_value, whole, narrowed, popped, top_is}
use Rattle.tunnel.specs.Rules.{path_over, tunnel_refusal}
use Rattle.tunnel.specs.Inner.{InRange, Through, Able}
use Rattle.tunnel.specs.Paths.{partner_even, partner_odd}
use Rattle.tunnel.proofs.Steps.{plain, low, first, second}
use Rattle.tunnel.proofs.Answers.{Side, side_forth, side_back, line_low, line_first, line_second}
use Rattle.tunnel.proofs.Rooms.{none_ahead, gather_length}
use Rattle.tunnel.proofs.Entering.{on_find}
use Rattle.tunnel.proofs.Judges.{rules_kept, links_of}
use Rattle.frame.specs.declared.refusal.Refusal.{Refusal}
use Rattle.std.specs.Prelude.{IfOk}
use Rattle.frame.specs.Numbers.{refused_by}

module _ (s : Shape) (laws : ShapeLaws s) where
  -- a partner's ends are the line's, turned round
  pub partner_ends : (l : ℕ) → l < s.lines → ((s.line (partner l)).from ≡ (s.line l).to) × ((s.line (partner l)).to ≡ (s.line l).from)
  partner_ends l lt = ⊎_elim even odd (cases_eq (l % 2) 0)
    where
      even : l % 2 ≡ 0 → ((s.line (partner l)).from ≡ (s.line l).to) × ((s.line (partner l)).to ≡ (s.line l).from)
      even e =
          let n = laws.even in
          let k : 2 * (l / 2) ≡ l = omega arith in
          let pair = laws.partners (l / 2) (omega arith) in
          let q : partner l ≡ 2 * (l / 2) + 1 = partner_even l e ∙ omega arith in
          (ap (λ j. (s.line j).from) q ∙ sym pair.1 ∙ ap (λ j. (s.line j).to) k, ap (λ j. (s.line j).to) q ∙ sym pair.0 ∙ ap (λ j. (s.line j).from) k)

      odd : (l % 2 ≡ 0 → ⊥) → ((s.line (partner l)).from ≡ (s.line l).to) × ((s.line (partner l)).to ≡ (s.line l).from)
      odd ne =
          let k : 2 * (l / 2) + 1 ≡ l = omega arith in
          let pair = laws.partners (l / 2) (omega arith) in
          let q : partner l ≡ 2 * (l / 2) = partner_odd l ne ∙ omega arith in
          (ap (λ j. (s.line j).from) q ∙ pair.0 ∙ ap (λ j. (s.line j).to) k, ap (λ j. (s.line j).to) q ∙ pair.1 ∙ ap (λ j. (s.line j).from) k)

module _ (p : Path) (s : Shape) (laws : ShapeLaws s) (ok : PathOk s p) where
  last_hop : hop p (p.len - 1) < s.lines
  last_hop = ok.exist (p.len - 1) (let a = ok.len_least in omega arith)

  first_hop : hop p 0 < s.lines
  first_hop = ok.exist 0 (let a = ok.len_least in omega arith)

  -- the way back begins where the way forth ends, and ends where it begins
  back_from : (whole s (back p) p.window).from ≡ (whole s (forth p) p.window).to
  back_from =
      let z : p.len - 1 - 0 ≡ p.len - 1 = omega arith in
      ap (λ k. (s.line (partner (hop p k))).from) z ∙ (partner_ends s laws (hop p (p.len - 1)) last_hop).0

  back_to : (whole s (back p) p.window).to ≡ (whole s (forth p) p.window).from
  back_to =
      let z : p.len - 1 - (p.len - 1) ≡ 0 = omega arith in
      ap (λ k. (s.line (partner (hop p k))).to) z ∙ (partner_ends s laws (hop p 0) first_hop).1

  whole_laws : (x y : Way) (t : ℕ) → Side p s x y t → (whole s x p.window).from ≢ (whole s x p.window).to → spans s x ≤ 2097152 → LineLaws (whole s x p.window)
  whole_laws x y t side apart most = record {
    apart = apart;
    cap_least = ok.window_least;
    cap_most = let a = ok.window_most in omega arith;
    span_least =
        let n = side.len_x in
        let l = ok.len_least in
        let some : 0 < x.len = omega arith in
        let a = sum_front (hop_span s x) 1 x.len some in
        let b = (laws.line (x.at 0) (side.within 0 some)).span_least in
        omega arith;
    span_most = most;
  }

  low_laws : (l : ℕ) → l < s.lines → LineLaws (narrowed p (s.line l) (crossing p l))
  low_laws l lt = ⊎_elim (λ e. subst (λ b. LineLaws (narrowed p (s.line l) b)) (sym e) (crossed (or_cases (on (forth p) p.len l) (on (back p) p.len l) e)))
      (λ e. subst (λ b. LineLaws (narrowed p (s.line l) b)) (sym e) (laws.line l lt)) (cases_Bool (crossing p l))
    where
      wide : (x y : Way) (t : ℕ) → Side p s x y t → (n : ℕ) → x.len ≡ n → on x n l ≡ true → p.window < (s.line l).cap
      wide x y t side n q e =
          let i = on_find x l n e in
          let b : i.0 < x.len = let c = i.1 in omega arith in
          subst (λ k. p.window < (s.line k).cap) i.2 (side.wide i.0 b)

      room : (on (forth p) p.len l ≡ true) ⊎ (on (back p) p.len l ≡ true) → p.window < (s.line l).cap
      room (inl e) = wide (forth p) (back p) s.lines (side_forth p s laws.even ok) p.len refl e
      room (inr e) = wide (back p) (forth p) (s.lines + 1) (side_back p s laws.even ok) p.len refl e

      crossed : (on (forth p) p.len l ≡ true) ⊎ (on (back p) p.len l ≡ true) → LineLaws (narrowed p (s.line l) true)
      crossed h = let a = laws.line l lt in let b = room h in let m = a.cap_most in record { apart = a.apart; cap_least = omega arith; cap_most = omega arith; span_least = a.span_least; span_most = a.span_most }

  pub tunnel_shape_laws : ShapeLaws (tunnel_shape p s)
  tunnel_shape_laws = record {
    even = let a = laws.even in omega arith;
    lines_most = let a = ok.few in omega arith;
    ports_most = laws.ports_most;
    line = λ l lt. ⊎_elim (λ b. subst LineLaws (sym (line_low p s l b)) (low_laws l b)) (λ le. ⊎_elim (λ e. forths l e) (λ ne. backs l (omega arith)) (cases_eq l s.lines)) (cases_lt l s.lines);
    partners = λ k lt. ⊎_elim (low_pair k) (λ le. top_pair k (let a = laws.even in omega arith)) (cases_lt (2 * k + 1) s.lines);
    kept_most = let a = laws.kept_most in let b = ok.labels in omega arith;
    depth_least = let a = ok.deep in omega arith;
    depth_most = let a = laws.depth_most in omega arith;
  }
    where
      forths : (l : ℕ) → l ≡ s.lines → LineLaws ((tunnel_shape p s).line l)
      forths l e = subst (λ k. LineLaws ((tunnel_shape p s).line k)) (sym e) (subst LineLaws (sym (line_first p s)) (whole_laws (forth p) (back p) s.lines (side_forth p s laws.even ok) ok.ends ok.spans_forth))

      backs : (l : ℕ) → l ≡ s.lines + 1 → LineLaws ((tunnel_shape p s).line l)
      backs l e = subst (λ k. LineLaws ((tunnel_shape p s).line k)) (sym e) (subst LineLaws (sym (line_second p s)) (whole_laws (back p) (forth p) (s.lines + 1) (side_back p s laws.even ok) (λ q. ok.ends (sym back_to ∙ sym q ∙ back_from)) ok.spans_back))

      low_pair : (k : ℕ) → 2 * k + 1 < s.lines → (((tunnel_shape p s).line (2 * k)).from ≡ ((tunnel_shape p s).line (2 * k + 1)).to) × (((tunnel_shape p s).line (2 * k)).to ≡ ((tunnel_shape p s).line (2 * k + 1)).from)
      low_pair k lt =
          let a = line_low p s (2 * k) (omega arith) in
          let b = line_low p s (2 * k + 1) lt in
          let pair = laws.partners k lt in
          (ap (λ (n : Line). n.from) a ∙ pair.0 ∙ sym (ap (λ (n : Line). n.to) b), ap (λ (n : Line). n.to) a ∙ pair.1 ∙ sym (ap (λ (n : Line). n.from) b))

      top_pair : (k : ℕ) → 2 * k ≡ s.lines → (((tunnel_shape p s).line (2 * k)).from ≡ ((tunnel_shape p s).line (2 * k + 1)).to) × (((tunnel_shape p s).line (2 * k)).to ≡ ((tunnel_shape p s).line (2 * k + 1)).from)
      top_pair k e = subst (λ n. (((tunnel_shape p s).line n).from ≡ ((tunnel_shape p s).line (n + 1)).to) × (((tunnel_shape p s).line n).to ≡ ((tunnel_shape p s).line (n + 1)).from)) (sym e)
          (ap (λ (n : Line). n.from) (line_first p s) ∙ sym back_to ∙ sym (ap (λ (n : Line). n.to) (line_second p s)), ap (λ (n : Line). n.to) (line_first p s) ∙ sym back_from ∙ sym (ap (λ (n : Line). n.from) (line_second p s)))

module _ (p : Path) (v : PlantValue) (law : Lawful v) (ok : PathOk v.shape p) (still : total v ≡ 0) where
  bare : (l : ℕ) → l < v.shape.lines → v.waiting l ≡ []
  bare l lt = nil_from_length (v.waiting l) (sum_zero (λ k. length (v.waiting k)) v.shape.lines still l lt)

  way_bare : (x y : Way) (t : ℕ) → Side p v.shape x y t → along v.waiting x ≡ []
  way_bare x y t side = nil_from_length (along v.waiting x)
      (gather_length (hop_frames v.waiting x) x.len ∙ sum_none (λ i. length (hop_frames v.waiting x i)) x.len (λ i lt. ap (λ xs. length (map popped (keep (top_is (x.label i)) xs))) (bare (x.at i) (side.within i lt))))

  all_bare : (l : ℕ) → l < v.shape.lines + 2 → (tunnel_value p v).waiting l ≡ []
  all_bare l lt = ⊎_elim (λ b. low p v.shape.lines v.waiting l b ∙ ap (plain p l) (bare l b)) (λ le. ⊎_elim forths (λ ne. backs (omega arith)) (cases_eq l v.shape.lines)) (cases_lt l v.shape.lines)
    where
      forths : l ≡ v.shape.lines → (tunnel_value p v).waiting l ≡ []
      forths e = ap (tunnel_waiting p v.shape.lines v.waiting) e ∙ first p v.shape.lines v.waiting ∙ way_bare (forth p) (back p) v.shape.lines (side_forth p v.shape law.shape.even ok)

      backs : l ≡ v.shape.lines + 1 → (tunnel_value p v).waiting l ≡ []
      backs e = ap (tunnel_waiting p v.shape.lines v.waiting) e ∙ second p v.shape.lines v.waiting ∙ way_bare (back p) (forth p) (v.shape.lines + 1) (side_back p v.shape law.shape.even ok)

  pub made_ok : TunnelOk p v
  made_ok =
      let none : total (tunnel_value p v) ≡ 0 = sum_none (λ l. length ((tunnel_value p v).waiting l)) (v.shape.lines + 2) (λ l lt. ap length (all_bare l lt)) in
      let a = none_ahead p v (forth p) (back p) v.shape.lines (side_forth p v.shape law.shape.even ok) still in
      let b = none_ahead p v (back p) (forth p) (v.shape.lines + 1) (side_back p v.shape law.shape.even ok) still in
      let c = law.rest still in
      let d = law.counted in
      record {
        path = ok;
        lawful = record {
          shape = tunnel_shape_laws p v.shape law.shape ok;
          room = λ l lt. let e = ap length (all_bare l lt) in omega arith;
          counted = d ∙ still ∙ sym none;
          rest = λ z. omega (arith, a, b, c);
          least = omega (arith, none);
        };
        level = none ∙ sym still;
        shallow = λ l lt. subst (All (λ (f : FrameValue). length f.stack ≤ v.shape.depth)) (sym (bare l lt)) tt;
      }

-- the rules, kept, make a path
pub path_ok : (p : Path) (v : PlantValue) → Lawful v → p.below ≡ v.shape.lines → v.shape.kept ≡ p.base + p.len
    → InRange p × Exist v.shape p × Through v.shape p × Able v p → PathOk v.shape p
path_ok p v law n e h =
    let r = h.0 in
    let t = h.2 in
    let a = h.3 in
    let most = law.shape.kept_most in
    let kept = a.kept in
    record {
      links = links_of p v law (omega arith) kept r h.1 t;
      below = n;
      len_least = r.len_least;
      window_least = r.window_least;
      window_most = r.window_most;
      exist = h.1;
      joins = t.chained;
      ends = t.open_ended;
      few = a.few;
      deep = a.deep;
      labels = e;
      kept = omega arith;
      caps = a.wide;
      spans_forth = a.spans_forth;
      spans_back = a.spans_back;
    }

-- a tunnel that is made is held as it must be
pub made_kept : (v : PlantValue) → Lawful v → (lines : List ℕ) (window : ℕ) (r : Result Path Refusal) → IfOk r (λ p. p ≡ path_over v.shape lines window) → refused_by r ≡ tunnel_refusal v lines window → Kept r v
made_kept v law lines window (Err x) e h = tt
made_kept v law lines window (Ok q) e h =
    let p = path_over v.shape lines window in
    let k = rules_kept p v (sym h) in
    let labels : v.shape.kept ≡ p.base + p.len = let a = k.3.kept in omega arith in
    subst (λ z. TunnelOk z v) (sym e) (made_ok p v law (path_ok p v law refl labels k) k.3.still)
