-- The network in step with its plant: what a frame sent, a frame handed out, a packet taken in and a packet ended leave. Assumes the
-- laws of a plant's lines.
use Rattle.std.proofs.Common.{◌≡◌, ℕ, suc, ◌+◌, ◌<◌, ◌≤◌, true, false, ◌⊎◌, List, [], ◌∷◌, ◌++◌, map, length, Some, None, Ok, Err, Option, Result, sym, refl, ap, ◌∙◌, subst, inl, inr, arith}
use Rattle.std.proofs.lemmas.Bool.{cases_eq}
use Rattle.std.proofs.lemmas.Bool.Decides.{nat_tests}
use Rattle.std.proofs.lemmas.Option.{slice_get_past}
use Rattle.frame.specs.declared.refusal.Refusal.{Refusal}
use Rattle.frame.specs.Frames.{FrameValue}
use Rattle.plant.specs.Plants.{Shape, PlantValue, over_kept, sum_to}
use Rattle.plant.specs.Answers.{Sends, Joins, Hands, send_refusal}
use Rattle.plant.proofs.Sums.{sum_zero}
use Rattle.model.specs.declared.fate.Fate.TheVariants.{Waiting}
use Rattle.model.specs.Tables.{Tables, put}
use Rattle.model.specs.Packets.{Record, End, at, close, settle, is_full, is_fate, is_waiting}
use Rattle.model.specs.Calls.{State, with_record}
use Rattle.model.specs.History.{Sending}
use Rattle.model.specs.Promises.{one}
use Rattle.model.proofs.Logical.{Item, packet, good, wire}
use Rattle.model.proofs.Lists.{weigh_push, hit, hit_tells}
use Rattle.model.proofs.Relabels.{rename}
use Rattle.model.proofs.Views.{carries}
use Rattle.model.proofs.Wired.{Wired}
use Rattle.model.proofs.Carried.{Carries, carries_put, carries_joined, loads, loads_goods, sum_put, Light, one_most}
use Rattle.model.proofs.Books.{alive, fec_in, fec_by, settle_fec, at_last, at_other, revise_here, revise_other}

-- the tables in step with the frames on their way, and one frame for each packet that waits, but for the one in hand: h is its
-- number + 1, or 0
pub record Inv {A : Type 0} (S : Shape) (fecs : ℕ) (s : State A) (q : ℕ → List Item) (h : ℕ) : Type 0 where
  pub shape : s.plant.shape ≡ S
  pub carries : Carries S.lines s.plant q
  pub wired : Wired S fecs s.tables q (fec_by s.book)
  pub carried : (p : ℕ) → sum_to S.lines (λ e. loads p (q e)) + hit (suc p) h ≡ alive (at s.book p)
  pub known : (p : ℕ) (x : Record A) → at s.book p ≡ Some x → is_fate Waiting x.fate ≡ true → (suc p ≡ h) ⊎ ((f : ℕ) × (x.fec ≡ Some f))

-- a frame that is light is accepted by a plant of the shape
pub joins : {S : Shape} {v w : PlantValue} {e : ℕ} (x : Item) {sent : Option (ℕ × FrameValue)} → v.shape ≡ S → e < S.lines → is_full v e ≡ false → Light S x
    → Sending v (Some (e, wire x)) sent w → Joins v e (wire x) w
joins {v = v} {w = w} {e = e} x sh le fl lt g = go g.0 g.1
  where
    welcome : send_refusal v e (wire x) ≡ None
    welcome =
        let le' : e < v.shape.lines = rw sh le in
        let top : over_kept v.shape.kept (wire x).stack ≡ false = rw sh lt.0 in
        let deep : length (wire x).stack ≤ v.shape.depth = rw sh lt.1 in
        grind (arith, nat_tests, fl, top)

    go : (r : Result (Unit {0}) Refusal) → Sends v e (wire x) r w → Joins v e (wire x) w
    go (Ok u) j = j.1
    go (Err n) j = absurd (cc (welcome, j.0))

module _ {A : Type 0} {S : Shape} {fecs : ℕ} {s : State A} {q : ℕ → List Item} where
  module _ {h : ℕ} (k : Inv S fecs s q h) where
    -- a frame that carries no packet is sent
    pub sent_keeps : (t : Tables) (e : ℕ) (x : Item) (w : PlantValue) → e < S.lines → Joins s.plant e (wire x) w → ((p : ℕ) → carries p x ≡ 0)
        → Wired S fecs t (put q e (q e ++ x ∷ [])) (fec_by s.book)
        → Inv S fecs (record s { tables = t; plant = w }) (put q e (q e ++ x ∷ [])) h
    sent_keeps t e x w le j z wd = record {
      shape = j.shape ∙ k.shape;
      carries = carries_joined q e x k.carries le j;
      wired = wd;
      carried = λ p. omega (arith, sum_put S.lines q e le (q e ++ x ∷ []) p, weigh_push (carries p) (q e) x, z p, k.carried p);
      known = k.known;
    }

    -- no frame carries a packet that there is not
    uncarried : (p : ℕ) → length s.book ≤ p → (e : ℕ) → e < S.lines → loads p (q e) ≡ 0
    uncarried p u = sum_zero (λ i. loads p (q i)) S.lines (omega (arith, k.carried p, ap alive (slice_get_past s.book p u)))

  module _ (k : Inv S fecs s q 0) where
    -- the oldest frame of a line is handed out
    pub handed_keeps : (t : Tables) (e : ℕ) (x : Item) (xs : List Item) (v : PlantValue) (h : ℕ) → e < S.lines → q e ≡ x ∷ xs
        → Hands s.plant e (wire x) v → v.waiting e ≡ map wire xs → ((p : ℕ) → carries p x ≡ hit (suc p) h)
        → Wired S fecs t (put q e xs) (fec_by s.book) → Inv S fecs (record s { tables = t; plant = v }) (put q e xs) h
    handed_keeps t e x xs v h le hd j here c wd = record {
      shape = j.shape ∙ k.shape;
      carries = carries_put s.plant v q e xs k.carries here j.others;
      wired = wd;
      carried = λ p. omega (arith, sum_put S.lines q e le xs p, ap (loads p) hd, c p, k.carried p, hit_tells (suc p) 0);
      known = λ p y u wy. elim (k.known p y u wy) [ inl g ↦ absurd (omega arith) | inr g ↦ inr g ];
    }

    -- a packet is taken in, and is in hand
    pub taken_keeps : (x : Record A) → x.fate ≡ Waiting → Inv S fecs (with_record x s) q (suc (length s.book))
    taken_keeps x wt =
        let n = length s.book in
        record {
          shape = k.shape;
          carries = k.carries;
          wired = record {
            links = λ e le. rename (k.wired.links e le) (fec_by (s.book ++ x ∷ [])) n
                (λ j u. ap fec_in (at_other s.book x j u)) (omega (arith, uncarried k n (omega arith) e le, loads_goods n (q e)));
            single = k.wired.single;
            ranged = k.wired.ranged;
            hops = k.wired.hops;
          };
          carried = λ p. elim (cases_eq p n) [
            | inl u ↦ omega (
              arith,
              k.carried p,
              ap alive (slice_get_past s.book p (omega arith)),
              ap (λ i. alive (at (s.book ++ x ∷ []) i)) u,
              ap alive (at_last s.book x),
              ap (λ o. one (is_fate Waiting o)) wt,
              hit_tells (suc p) (suc n),
              hit_tells (suc p) 0,
            )
            | inr u ↦ omega (arith, k.carried p, ap alive (at_other s.book x p u), hit_tells (suc p) (suc n), hit_tells (suc p) 0)
          ];
          known = λ p y e wy. elim (cases_eq p n) [
            | inl u ↦ inl (ap suc u)
            | inr u ↦ elim (k.known p y (sym (at_other s.book x p u) ∙ e) wy) [ inl z ↦ absurd (omega arith) | inr f ↦ inr f ]
          ];
        }

  -- a packet in hand
  module _ {p : ℕ} (k : Inv S fecs s q (suc p)) where
    pub in_hand : alive (at s.book p) ≡ 1
    in_hand = omega (arith, k.carried p, hit_tells (suc p) (suc p), one_most (is_waiting (at s.book p)))

    -- its record gets the end
    ended_at : (d : End) {x : Record A} → d.packet ≡ p → at s.book p ≡ Some x → is_fate Waiting d.fate ≡ false
        → Inv S fecs (record s { book = settle (Some d) s.book }) q 0
    ended_at d {x = x} dp px z =
        let here : at (settle (Some d) s.book) p ≡ Some (close d x) = rw dp (revise_here (close d) p s.book x px) in
        let there = λ (i : ℕ) (n : i ≡ p → ⊥). revise_other (close d) d.packet s.book i (λ e. n (e ∙ dp)) in
        record {
          shape = k.shape;
          carries = k.carries;
          wired = subst (Wired S fecs s.tables q) (sym (settle_fec (Some d) s.book)) k.wired;
          carried = λ i. elim (cases_eq i p) [
            | inl u ↦ omega (
              arith,
              k.carried i,
              one_most (is_waiting (at s.book i)),
              hit_tells (suc i) (suc p),
              hit_tells (suc i) 0,
              ap (λ j. alive (at (settle (Some d) s.book) j)) u,
              ap alive here,
              ap one z,
            )
            | inr n ↦ omega (arith, k.carried i, ap alive (there i n), hit_tells (suc i) (suc p), hit_tells (suc i) 0)
          ];
          known = λ i y e wy. elim (cases_eq i p) [
            | inl u ↦
                let g : Some y ≡ Some (close d x) = sym e ∙ ap (at (settle (Some d) s.book)) u ∙ here in
                let y' : y ≡ close d x = cc g in
                absurd (cc (sym wy ∙ ap (λ r. is_fate Waiting r.fate) y' ∙ z))
            | inr n ↦ elim (k.known i y (sym (there i n) ∙ e) wy) [ inl g ↦ absurd (n (omega arith)) | inr f ↦ inr f ]
          ];
        }

    -- it ends
    pub ended_keeps : (d : End) → d.packet ≡ p → is_fate Waiting d.fate ≡ false
        → Inv S fecs (record s { book = settle (Some d) s.book }) q 0
    ended_keeps d dp z = go (at s.book p) refl
      where
        go : (o : Option (Record A)) → at s.book p ≡ o → Inv S fecs (record s { book = settle (Some d) s.book }) q 0
        go None e = absurd (omega (arith, in_hand, ap alive e))
        go (Some x) e = ended_at d dp e z

    -- it is sent on
    pub forwarded_keeps : (e l t : ℕ) {x : Record A} {f : ℕ} {w : PlantValue} → at s.book p ≡ Some x → x.fec ≡ Some f → e < S.lines
        → Joins s.plant e (wire (good (packet p l t))) w → Wired S fecs s.tables (put q e (q e ++ good (packet p l t) ∷ [])) (fec_by s.book)
        → Inv S fecs (record s { plant = w }) (put q e (q e ++ good (packet p l t) ∷ [])) 0
    forwarded_keeps e l t {x = x} {f = f} px xf le j wd =
        let y : Item = good (packet p l t) in
        record {
          shape = j.shape ∙ k.shape;
          carries = carries_joined q e y k.carries le j;
          wired = wd;
          carried = λ i. omega (
            arith,
            sum_put S.lines q e le (q e ++ y ∷ []) i,
            weigh_push (carries i) (q e) y,
            k.carried i,
            hit_tells p i,
            hit_tells (suc i) (suc p),
            hit_tells (suc i) 0,
          );
          known = λ i y e wy. elim (k.known i y e wy) [
            | inl z ↦
                let g : Some y ≡ Some x = sym e ∙ ap (at s.book) (omega arith) ∙ px in
                let g₁ : y ≡ x = cc g in
                inr (f, ap (λ u. u.fec) g₁ ∙ xf)
            | inr g ↦ inr g
          ];
        }
