-- A tunnel's answers and its future, from those of the plant below. Assumes nothing.
use Rattle.std.specs.Prelude.{◌≡◌, ℕ, zero, suc, ◌<◌, Bool, true, false, cond, ◌||◌, ◌≢◌, ◌⊎◌, [], Some, None, Ok, Err, Option, Result, ◌==◌, refl}
use Rattle.std.proofs.Common.{sym, ap, ap₂, ◌∙◌, subst, inl, inr, arith}
use Rattle.std.specs.Option.{option_map}
use Rattle.std.proofs.lemmas.Bool.{cases_eq, cond-true, cond-false, eq-eqb, ne_eqb}
use Rattle.frame.specs.declared.frame.Frame.{Frame}
use Rattle.frame.specs.declared.refusal.Refusal.{Refusal}
use Rattle.frame.specs.Frames.{FrameValue, frame_value}
use Rattle.plant.specs.declared.outcome.Outcome.{Outcome}
use Rattle.plant.specs.Plants.{PlantValue, Lawful}
use Rattle.plant.specs.Answers.{Polled}
use Rattle.plant.specs.Futures.{polled, Turn, Future, Foretold, after, after_send, turn_at, turn_is}
use Rattle.tunnel.specs.declared.path.Path.{Path}
use Rattle.tunnel.specs.declared.path.Hop.{Hop}
use Rattle.tunnel.specs.Tunnels.{Way, forth, back, way_of, own_at, top_is, meaning}
use Rattle.tunnel.specs.Held.{Links, Kept}
use Rattle.tunnel.specs.Onward.{own_hop, hop_at, placed, place_of, tunnel_turn, relay_of, Relayed, PollsBelow, entering, after_relay, open_future, tunnel_future}
use Rattle.tunnel.specs.Inner.{Owned}
use Rattle.tunnel.specs.Paths.{forth_apart, back_apart, forth_back}

-- the place of a frame

hop_none : (w : Way) (l : ℕ) (f : FrameValue) (n : ℕ) → ((i : ℕ) → i < n → w.at i ≢ l) → own_hop w n l f ≡ None
hop_none w l f zero h = refl
hop_none w l f (suc n) h = cond-false (w.at n == l) (cond (top_is (w.label n) f) (Some n) None) (own_hop w n l f) (ne_eqb (w.at n) l (h n (omega arith))) ∙ hop_none w l f n (λ i lt. h i (omega arith))

hop_some : (w : Way) (l : ℕ) (f : FrameValue) (k n : ℕ) → k < n → w.at k ≡ l → top_is (w.label k) f ≡ true → ((i : ℕ) → i < n → w.at i ≡ l → i ≡ k) → own_hop w n l f ≡ Some k
hop_some w l f k zero lt e t h = absurd (omega arith)
hop_some w l f k (suc n) lt e t h = go (cases_eq n k) (λ b. hop_some w l f k n b e t (λ i c. h i (omega arith)))
  where
    go : (n ≡ k) ⊎ (n ≢ k) → (k < n → own_hop w n l f ≡ Some k) → own_hop w (suc n) l f ≡ Some k
    go (inl q) ih =
        cond-true (w.at n == l) (cond (top_is (w.label n) f) (Some n) None) (own_hop w n l f) (eq-eqb (w.at n) l (ap w.at q ∙ e))
        ∙ cond-true (top_is (w.label n) f) (Some n) None (ap (λ i. top_is (w.label i) f) q ∙ t) ∙ ap Some q
    go (inr ne) ih =
        cond-false (w.at n == l) (cond (top_is (w.label n) f) (Some n) None) (own_hop w n l f) (ne_eqb (w.at n) l (λ q. ne (h n (omega arith) q)))
        ∙ ih (omega arith)

hop_strange : (w : Way) (l : ℕ) (f : FrameValue) (n : ℕ) → own_at w n l f ≡ false → own_hop w n l f ≡ None
hop_strange w l f zero e = refl
hop_strange w l f (suc n) e = go (w.at n == l) (top_is (w.label n) f) (hop_strange w l f n) e
  where
    go : (a t : Bool) → (own_at w n l f ≡ false → own_hop w n l f ≡ None) → cond a t (own_at w n l f) ≡ false → cond a (cond t (Some n) None) (own_hop w n l f) ≡ None
    go true true ih q = let z : ◌≡◌ {A = ℕ} 0 1 = cc in absurd (omega arith)
    go true false ih q = refl
    go false t ih q = ih q

or_parts : (a b : Bool) → (a || b) ≡ false → (a ≡ false) × (b ≡ false)
or_parts true b e = let z : ◌≡◌ {A = ℕ} 0 1 = cc in absurd (omega arith)
or_parts false b e = (refl, e)

pub place_is : (p : Path) → Links p → (l : ℕ) (f : FrameValue) (x : Option Hop) → Owned p l f x → place_of p l f ≡ x
place_is p ok l f None h =
    let e = or_parts (own_at (forth p) p.len l f) (own_at (back p) p.len l f) h in
    ap₂ placed (hop_strange (forth p) l f p.len e.0) (hop_strange (back p) l f p.len e.1)
place_is p ok l f (Some x) h = at x.back x.index h.0 h.1 h.2
  where
    at : (b : Bool) (k : ℕ) → k < p.len → l ≡ (way_of b p).at k → top_is ((way_of b p).label k) f ≡ true → place_of p l f ≡ Some (hop_at b k)
    at true k lt on top =
        ap₂ placed (hop_none (forth p) l f p.len (λ i b e. forth_back p ok i k b lt (e ∙ on)))
        (hop_some (back p) l f k p.len lt (sym on) top (λ i b e. back_apart p ok i k b lt (e ∙ on)))
    at false k lt on top =
        ap (λ o. placed o (own_hop (back p) p.len l f)) (hop_some (forth p) l f k p.len lt (sym on) top (λ i b e. forth_apart p ok i k b lt (e ∙ on)))

pub mapped_same : {X : Type 0} (o : Option X) → o ≡ option_map (λ b. b) o
mapped_same None = refl
mapped_same (Some b) = refl

-- A poll: what is told of it, where o, m and r are the futures below before it, after the poll below, and at its end.

pub record Told (p : Path) (v w : PlantValue) (o r : Option Future) (q : ℕ) (old : Frame) (t : Turn) : Type 0 where
  pub relayed : PollsBelow (Ok p) v q old t w
  pub turn : Foretold (option_map (open_future p) o) (λ b. turn_at b q ≡ t)
  pub future : option_map (open_future p) r ≡ option_map (λ b. after b (polled q)) (option_map (open_future p) o)

module _ (p : Path) (v m : PlantValue) (o n : Option Future) (q : ℕ) (old : Frame) (out : Outcome) (l : ℕ) (new : Frame)
    (below : Polled out v q old l new m) (foretold : Foretold o (λ b. turn_at b q ≡ turn_is out l (frame_value new))) (then : n ≡ option_map (λ b. after b (polled q)) o) where
  pub tells : (w : PlantValue) (r : Option Future) (x : Option (ℕ × FrameValue)) → relay_of p (turn_is out l (frame_value new)) ≡ x → Relayed x m w → r ≡ option_map (after_relay x) n
      → (t : Turn) → tunnel_turn p (turn_is out l (frame_value new)) ≡ t → Told p v w o r q old t
  tells w r x is on next t turns =
      let f = futures o foretold (next ∙ ap (λ y. option_map (after_relay y) n) (sym is) ∙ ap (option_map (after_relay (relay_of p (turn_is out l (frame_value new))))) then) in
      record {
        relayed = record { outcome = out; line = l; frame = new; middle = m; below = below; told = sym turns; relayed = subst (λ y. Relayed y m w) (sym is) on };
        turn = f.0;
        future = f.1;
      }
    where
      futures : (o : Option Future) → Foretold o (λ b. turn_at b q ≡ turn_is out l (frame_value new)) → r ≡ option_map (after_relay (relay_of p (turn_is out l (frame_value new)))) (option_map (λ b. after b (polled q)) o)
          → Foretold (option_map (open_future p) o) (λ b. turn_at b q ≡ t) × (option_map (open_future p) r ≡ option_map (λ b. after b (polled q)) (option_map (open_future p) o))
      futures None f z = (tt, ap (option_map (open_future p)) z)
      futures (Some b) f z = (ap (tunnel_turn p) f ∙ turns, ap (option_map (open_future p)) z ∙ ap (λ y. Some (open_future p (after_relay (relay_of p y) (after b (polled q))))) (sym f))

-- A send.

pub tells_sent : (p : Path) (o m : Option Future) (l : ℕ) (f : FrameValue) (r : Result (Unit {0}) Refusal) → m ≡ option_map (after_send (entering p l f).0 (entering p l f).1 r) o
    → option_map (open_future p) m ≡ option_map (after_send l f r) (option_map (open_future p) o)
tells_sent p o m l f r then = ap (option_map (open_future p)) then ∙ go r o
  where
    go : (r : Result (Unit {0}) Refusal) (o : Option Future) → option_map (open_future p) (option_map (after_send (entering p l f).0 (entering p l f).1 r) o) ≡ option_map (after_send l f r) (option_map (open_future p) o)
    go r None = refl
    go (Ok u) (Some b) = refl
    go (Err x) (Some b) = refl

pub tells_value : (r : Result Path Refusal) (o : Option Future) (v : PlantValue) → Foretold o (λ b. (b []).value ≡ v) → Foretold (option_map (tunnel_future r) o) (λ b. (b []).value ≡ meaning r v)
tells_value r None v h = tt
tells_value (Err e) (Some b) v h = h
tells_value (Ok p) (Some b) v h = ap (meaning (Ok p)) h

-- a tunnel is lawful where the plant below is
pub lawful_of : (r : Result Path Refusal) (v : PlantValue) → Kept r v → Lawful v → Lawful (meaning r v)
lawful_of (Err e) v k law = law
lawful_of (Ok p) v k law = k.lawful
