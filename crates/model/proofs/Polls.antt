-- The effect of a poll, on a network in step, is sound, and so that of each call is. Assumes the laws of a plant's lines, and that
-- labels under 80 can be sent.
use Rattle.std.proofs.Common.{◌≡◌, ℕ, suc, ◌<◌, ◌≤◌, Bool, true, ◌&&◌, eqb, List, ◌∷◌, map, Some, None, Option, sym, refl, ap, ◌∙◌, subst, inl, inr, append-nil, arith}
use Rattle.std.proofs.lemmas.Bool.{cond-true, eq-eqb, and_from}
use Rattle.std.proofs.lemmas.Bool.Decides.{nat_tests}
use Rattle.plant.specs.Plants.{Shape, ShapeLaws, PlantValue, partner}
use Rattle.plant.specs.Answers.{Hands}
use Rattle.plant.specs.Futures.{Turn, idle, moved, handed}
use Rattle.model.specs.declared.cause.Cause.TheVariants.{UnknownLabel}
use Rattle.model.specs.declared.met.Met.TheVariants.{Idle, Moved, Message, Packet, Stray}
use Rattle.model.specs.Tables.{Tables, put, the, is_label, refresh, tidy}
use Rattle.model.specs.Messages.{learn, unlearn, unstage}
use Rattle.model.specs.Packets.{Record, at, is_waiting, drop, data_frame, by_status}
use Rattle.model.specs.Calls.{Plan, State, Call, own, route, inject, tell, poll, polled, Effect, only, retabled, in_range, is_this, else_stray, polling, effect}
use Rattle.model.specs.History.{Turns, port_of, Serves, with_plant}
use Rattle.model.proofs.Logical.{Item, mapping, withdraw, release, packet, note, good, wire}
use Rattle.model.proofs.Lists.{hit_tells}
use Rattle.model.proofs.Views.{carries}
use Rattle.model.proofs.Wired.{Wired}
use Rattle.model.proofs.Labels.{refresh_keeps, tidy_keeps}
use Rattle.model.proofs.Arrivals.{mapping_range, mapping_read, withdraw_range, withdraw_known, withdraw_read, release_stage, release_range, release_read, packet_live, packet_range, packet_read}
use Rattle.model.proofs.Books.{alive, fec_in, fec_by}
use Rattle.model.proofs.Carried.{carries_first}
use Rattle.model.proofs.State.{Inv, handed_keeps, in_hand}
use Rattle.model.proofs.Deals.{Sound, retabled_sound, InHand, deal_sound, waits_still, status_dealt}
use Rattle.model.proofs.Owners.{tidy_owner, refresh_owner, is_this_lem, is_label_lem}
use Rattle.model.proofs.Effects.{only_sound, own_plain, route_plain, inject_plain, tell_plain}

module _ {A : Type 0} (P : Plan A) {S : Shape} (law : ShapeLaws S) (kept : 80 ≤ S.kept)
    {s : State A} {q : ℕ → List Item} (k : Inv S P.fecs s q 0) where
  ranges : (f l : ℕ) → (f < P.fecs) × (16 ≤ l) × (l < 80) → in_range P f l ≡ true
  ranges f l g = grind (arith, nat_tests)

  -- a poll hands out the oldest frame of line e
  module _ (p : ℕ) (v : PlantValue) (e : ℕ) (le : e < S.lines) (xs : List Item) (here : v.waiting e ≡ map wire xs) where
    abbrev q₁ : ℕ → List Item
    q₁ = put q e xs

    -- it is not stray
    met : (b : Bool) (y : Effect A) → b ≡ true → Sound P S (poll p) s v y → Sound P S (poll p) s v (else_stray b e y (with_plant v s))
    met b y t h = rw (cond-true b y (only (polled Stray e) (with_plant v s)) t) h

    -- a message is read
    told : (x : Item) (t : Tables) → q e ≡ x ∷ xs → Hands s.plant e (wire x) v → ((n : ℕ) → carries n x ≡ 0)
        → Wired S P.fecs t q₁ (fec_by s.book) → t.owner ≡ s.tables.owner
        → Sound P S (poll p) s v (retabled (polled Message e) t (with_plant v s))
    told x t hd j z wd o = retabled_sound P S (poll p) s v q₁ (polled Message e) t
        (handed_keeps k t e x xs v 0 le hd j here (λ n. omega (arith, z n, hit_tells (suc n) 0)) wd)
        (λ r f. ap (λ g. g r f) o) refl (λ _ c. cc)

    -- so is one after which its FEC is refreshed
    learned : (x : Item) (f : ℕ) (t₀ : Tables) → q e ≡ x ∷ xs → Hands s.plant e (wire x) v → ((n : ℕ) → carries n x ≡ 0) → f < P.fecs
        → Wired S P.fecs t₀ q₁ (fec_by s.book) → t₀.owner ≡ s.tables.owner
        → Sound P S (poll p) s v (retabled (polled Message e) (refresh P.independent S (S.line e).to f t₀) (with_plant v s))
    learned x f t₀ hd j z rf wd o = told x (refresh P.independent S (S.line e).to f t₀) hd j z
        (refresh_keeps wd (S.line e).to f rf P.independent) (refresh_owner S P.independent (S.line e).to f t₀ ∙ o)

    -- a packet is dealt with
    module _ (o l t : ℕ) (hd : q e ≡ good (packet o l t) ∷ xs) (j : Hands s.plant e (wire (good (packet o l t))) v) where
      inv : Inv S P.fecs (with_plant v s) q₁ (suc o)
      inv = handed_keeps k s.tables e (good (packet o l t)) xs v (suc o) le hd j here
          (λ n. omega (arith, hit_tells o n, hit_tells (suc n) (suc o))) (packet_read k.wired le hd)

      found : (y : Option (Record A)) → at s.book o ≡ y
          → Sound P S (poll p) s v (polling P S (handed e (data_frame o l t)) (with_plant v s))
      found None eo = absurd (omega (arith, in_hand inv, ap alive eo))
      found (Some x) eo =
          let r = (S.line e).to in
          let m : InHand P S (with_plant v s) o = record { q = q₁; packet = x; inv = inv; found = eo } in
          let wt = waits_still m in
          let f : (f : ℕ) × (x.fec ≡ Some f) = elim (k.known o x eo wt) [ inl z ↦ absurd (omega arith) | inr f ↦ f ] in
          let lv = packet_live k.wired le hd in
          let rg = packet_range k.wired le hd in
          let d = status_dealt m law kept r t f.0 f.1 (s.tables.status r l)
          (λ z. omega (arith, ((k.wired.links e le).fit l).1 z, lv.0)) (lv.1 ∙ ap fec_in eo ∙ ap the f.1) in
          met (is_waiting (at s.book o)) _ (ap is_waiting eo ∙ wt)
          (rw (cond-true (is_label l) (by_status s.tables v r t (s.tables.status r l)) (drop UnknownLabel) (is_label_lem l rg.0 rg.1))
          (deal_sound P S (polled Packet e) (poll p) s (λ _ _. refl) (sym (append-nil s.book)) (λ _ z. cc) d))

    arrive_sound : (x : Item) → q e ≡ x ∷ xs → Hands s.plant e (wire x) v
        → Sound P S (poll p) s v (polling P S (handed e (wire x)) (with_plant v s))
    arrive_sound (note (mapping f l)) hd j =
        let g = mapping_range k.wired le law hd in
        met (in_range P f l) _ (ranges f l g)
        (learned (note (mapping f l)) f (learn e f l s.tables) hd j (λ n. refl) g.0 (mapping_read k.wired le law hd) refl)
    arrive_sound (note (withdraw f l)) hd j =
        let g = withdraw_range k.wired le law hd in
        let was = is_this_lem (s.tables.remote (partner e) f) l (withdraw_known k.wired le law hd) in
        met (in_range P f l && is_this (s.tables.remote (partner e) f) l) _ (and_from (in_range P f l) _ (ranges f l g) was)
        (learned (note (withdraw f l)) f (unlearn e f l s.tables) hd j (λ n. refl) g.0 (withdraw_read k.wired le law hd) refl)
    arrive_sound (good (release f l)) hd j =
        let four = eq-eqb (s.tables.stage e l) 4 (release_stage k.wired le hd) in
        let t₀ : Tables = unstage e l s.tables in
        met (in_range P f l && eqb (s.tables.stage e l) 4) _ (and_from (in_range P f l) _ (ranges f l (release_range k.wired le hd)) four)
        (told (good (release f l)) (tidy S (S.line e).to l t₀) hd j (λ n. refl)
        (tidy_keeps (release_read k.wired le hd) (S.line e).to l) (tidy_owner S (S.line e).to l t₀))
    arrive_sound (good (packet o l t)) hd j = found o l t hd j (at s.book o) refl

  poll_sound : (p : ℕ) (t : Turn) (v : PlantValue) → Turns s.plant p t v → Sound P S (poll p) s v (polling P S t (with_plant v s))
  poll_sound p idle v g =
      only_sound P k (poll p) v (subst (λ z. Inv S P.fecs (with_plant z s) q 0) (sym g.1) k) (polled Idle 0) (λ _ _ _. refl) refl (λ _ c. cc)
  poll_sound p moved v g =
      only_sound P k (poll p) v
      (record {
        shape = g.1.shape ∙ k.shape;
        carries = λ e le. g.1.lists e ∙ k.carries e le;
        wired = k.wired;
        carried = k.carried;
        known = k.known;
      })
      (polled Moved 0) (λ _ _ _. refl) refl (λ _ c. cc)
  poll_sound p (handed e y) v g =
      let j = g.1 in
      let le : e < S.lines = subst (λ z. e < z.lines) k.shape j.line in
      let c = carries_first (q e) y (v.waiting e) (sym j.here ∙ k.carries e le) in
      subst (λ z. Sound P S (poll p) s v (polling P S (handed e z) (with_plant v s))) (sym c.3)
      (arrive_sound p v e le c.1 c.4 c.0 c.2 (subst (λ z. Hands s.plant e z v) c.3 j))

  pub sound : (c : Call A) (t : Turn) (v : PlantValue) → Serves (port_of c) s.plant t v → Sound P S c s v (effect P S c t (with_plant v s))
  sound (own r f b) t v g = own_plain P k law r f b t v g
  sound (route r f h) t v g = route_plain P k law r f h t v g
  sound (inject r a ttl) t v g = inject_plain P k law kept r a ttl t v g
  sound (tell e) t v g = tell_plain P k law e t v g
  sound (poll p) t v g = poll_sound p t v g
