-- A poll of an open tunnel, case by case, from what the poll below told. Assumes nothing.
use Rattle.std.proofs.Common.{◌≡◌, ℕ, suc, ◌+◌, ◌<◌, ◌≤◌, true, false, not, eqb, List, [], ◌∷◌, length, Some, None, Option, sym, refl, ap, ◌∙◌, subst, add-one, arith}
use Rattle.std.specs.Option.{option_map}
use Rattle.std.proofs.lemmas.Bool.{cond-true, cond-false, eq-eqb, ne_eqb}
use Rattle.frame.specs.Frames.{FrameValue, frame_value}
use Rattle.frame.specs.Stacks.{rest_of}
use Rattle.frame.specs.declared.entry.Entry.{Entry}
use Rattle.frame.specs.declared.frame.Frame.{Frame}
use Rattle.plant.specs.declared.outcome.Outcome.{Outcome}
use Rattle.plant.specs.declared.outcome.Outcome.TheVariants.{Idle, Moved, Handed}
use Rattle.plant.specs.Plants.{PlantValue, Lawful}
use Rattle.plant.specs.Answers.{Joins, Hands, Polled, send_refusal}
use Rattle.plant.specs.Futures.{sent, polled, handed, Future, Foretold, after, turn_at, turn_is}
use Rattle.plant.proofs.Laws.{Welcome, not_refused, joined_total, handed_total, moved_total}
use Rattle.tunnel.specs.declared.path.Path.{Path}
use Rattle.tunnel.specs.declared.path.Hop.{Hop}
use Rattle.tunnel.specs.Held.{TunnelOk}
use Rattle.tunnel.specs.Tunnels.{Way, way_of, own, top_is, popped, tunnel_value}
use Rattle.tunnel.specs.Onward.{next_outer, relabelled, line_of, shown, tunnel_turn, sent_on, relay_of, Relayed, after_relay}
use Rattle.tunnel.specs.Inner.{Owned, Carried, CarriedOn}
use Rattle.tunnel.specs.Paths.{tops_some, outer_label}
use Rattle.tunnel.proofs.Answers.{Side, moved, plain_handed, own_out, own_relayed}
use Rattle.tunnel.proofs.Rooms.{kept_handed, kept_moved, relay_welcome, shallow_joined, shallow_handed, shallow_moved}
use Rattle.tunnel.proofs.Reading.{side_of}
use Rattle.tunnel.specs.Foretells.{Told, tells, place_is, mapped_same}

-- the tunnel is held as before, and its poll answered so
abbrev pub Then : Path → PlantValue → ℕ → Frame → Outcome → ℕ → Frame → PlantValue → Type 0
Then p v port old o l new w = TunnelOk p w × Polled o (tunnel_value p v) port old l new (tunnel_value p w)

rest_length : (es : List Entry) → 0 < length es → suc (length (rest_of es)) ≡ length es
rest_length [] lt = absurd (omega arith)
rest_length (e ∷ es) lt = refl

module _ (p : Path) (v w : PlantValue) (lv : Lawful v) (lw : Lawful w) (ok : TunnelOk p v) (port : ℕ) (old new : Frame) (o : Outcome) (l : ℕ) (told : Polled o v port old l new w) where
  pub poll_idle : o ≡ Idle → Then p v port old Idle 0 old w
  poll_idle e =
      let t : Polled Idle v port old l new w = subst (λ z. Polled z v port old l new w) e told in
      (subst (TunnelOk p) (sym t.3) ok, (t.0, refl, refl, ap (tunnel_value p) t.3))

  pub poll_moved : o ≡ Moved → Then p v port old Moved 0 old w
  poll_moved e =
      let t : Polled Moved v port old l new w = subst (λ z. Polled z v port old l new w) e told in
      let m = moved p v w ok.path t.3 in
      (kept_moved p v w lw ok t.3.shape (shallow_moved v w ok.shallow t.3) m (moved_total v w lv t.3), (t.0, refl, refl, m))

  pub poll_plain : o ≡ Handed → own p l (frame_value new) ≡ false → Then p v port old Handed l new w
  poll_plain e strange =
      let f = frame_value new in
      let t : Polled Handed v port old l new w = subst (λ z. Polled z v port old l new w) e told in
      let m = plain_handed p v w ok.path l f strange t.1 in
      (kept_handed p v w lw ok t.1.shape (shallow_handed v w ok.shallow l f t.1) l f m (handed_total v w lv l f t.1), (t.0, m))

  module _ (x y : Way) (t : ℕ) (side : Side p v.shape x y t) (e : o ≡ Handed) (k : ℕ) (at : l ≡ x.at k) (mine : top_is (x.label k) (frame_value new) ≡ true) where
    came : Polled Handed v port old (x.at k) new w
    came = subst (λ z. Polled Handed v port old z new w) at (subst (λ z. Polled z v port old l new w) e told)

    pub poll_out : (fin : Frame) → suc k ≡ x.len → frame_value fin ≡ popped (frame_value new) → Then p v port old Handed t fin w
    poll_out fin last less =
        let h = came in
        let f = frame_value new in
        let m : Hands (tunnel_value p v) t (frame_value fin) (tunnel_value p w) =
        subst (λ z. Hands (tunnel_value p v) t z (tunnel_value p w)) (sym less) (own_out p v w x y t side f k last mine h.1) in
        (kept_handed p v w lw ok h.1.shape (shallow_handed v w ok.shallow (x.at k) f h.1) t (frame_value fin) m (handed_total v w lv (x.at k) f h.1), (h.0, m))

    module _ (n : ℕ) (next : n ≡ suc k) (lt : n < x.len) where
      onward : FrameValue
      onward = relabelled (x.label n) (frame_value new)

      mine' : top_is (x.label (suc k)) (relabelled (x.label n) (frame_value new)) ≡ true
      mine' = eq-eqb (next_outer (x.label n) (frame_value new).stack).label (x.label (suc k)) (outer_label (x.label n) (frame_value new).stack ∙ ap x.label next)

      there : Welcome w (x.at n) (relabelled (x.label n) (frame_value new))
      there = subst (λ i. Welcome w (x.at i) (relabelled (x.label n) (frame_value new))) (sym next)
          (relay_welcome p v lv ok x y t side w (frame_value new) (relabelled (x.label n) (frame_value new)) k (subst (λ i. i < x.len) next lt) mine mine'
          (rest_length (frame_value new).stack (tops_some (x.label k) (frame_value new).stack mine)) came.1)

      -- a relay is never refused
      pub relay_room : send_refusal w (x.at n) (relabelled (x.label n) (frame_value new)) ≡ None
      relay_room = not_refused w (x.at n) (relabelled (x.label n) (frame_value new)) there

      pub poll_relay : (u : PlantValue) → Lawful u → Joins w (x.at n) (relabelled (x.label n) (frame_value new)) u → Then p v port old Moved 0 old u
      poll_relay u lu j =
          let h = came in
          let f = frame_value new in
          let g = relabelled (x.label n) f in
          let j' : Joins w (x.at (suc k)) g u = subst (λ i. Joins w (x.at i) g u) next j in
          let m = own_relayed p v u x y t side w f g k (subst (λ i. i < x.len) next lt) mine mine' refl h.1 j' in
          let a = handed_total v w lv (x.at k) f h.1 in
          let c = joined_total w u lw (x.at n) g there.line j in
          let flat = shallow_joined w u (shallow_handed v w ok.shallow (x.at k) f h.1) (x.at n) g there.deep j in
          (kept_moved p v u lu ok (j.shape ∙ h.1.shape) flat m (c ∙ sym a), (h.0, refl, refl, m))

-- What is known when the plant below has been polled: v, o and w, n are its value and future before and after that.
pub record Below (p : Path) (v w : PlantValue) (o n : Option Future) (port : ℕ) (old new : Frame) (out : Outcome) (l : ℕ) : Type 0 where
  pub lv : Lawful v
  pub lw : Lawful w
  pub ok : TunnelOk p v
  pub told : Polled out v port old l new w
  pub turn : Foretold o (λ b. turn_at b port ≡ turn_is out l (frame_value new))
  pub then : n ≡ option_map (λ b. after b (polled port)) o

-- What a poll of the tunnel then owes.
pub record Answered (p : Path) (v w : PlantValue) (o r : Option Future) (port : ℕ) (old : Frame) (out : Outcome) (l : ℕ) (fin : Frame) : Type 0 where
  pub opened : TunnelOk p w
  pub polls : Polled out (tunnel_value p v) port old l fin (tunnel_value p w)
  pub told : Told p v w o r port old (turn_is out l (frame_value fin))

module _ {p : Path} {v w : PlantValue} {o n : Option Future} {port : ℕ} {old new : Frame} {out : Outcome} {l : ℕ} (b : Below p v w o n port old new out l) where
  answered : (u : PlantValue) (r : Option Future) (x : Option (ℕ × FrameValue)) → relay_of p (turn_is out l (frame_value new)) ≡ x → Relayed x w u → r ≡ option_map (after_relay x) n
      → (out' : Outcome) (l' : ℕ) (fin : Frame) → tunnel_turn p (turn_is out l (frame_value new)) ≡ turn_is out' l' (frame_value fin) → Then p v port old out' l' fin u
      → Answered p v u o r port old out' l' fin
  answered u r x is on next out' l' fin turns t =
      record { opened = t.0; polls = t.1; told = tells p v w o n port old out l new b.told b.turn b.then u r x is on next (turn_is out' l' (frame_value fin)) turns }

  pub answer_idle : out ≡ Idle → Answered p v w o n port old Idle 0 old
  answer_idle e = answered w n None (ap (λ z. relay_of p (turn_is z l (frame_value new))) e) refl (mapped_same n) Idle 0 old (ap (λ z. tunnel_turn p (turn_is z l (frame_value new))) e)
      (poll_idle p v w b.lv b.lw b.ok port old new out l b.told e)

  pub answer_moved : out ≡ Moved → Answered p v w o n port old Moved 0 old
  answer_moved e = answered w n None (ap (λ z. relay_of p (turn_is z l (frame_value new))) e) refl (mapped_same n) Moved 0 old (ap (λ z. tunnel_turn p (turn_is z l (frame_value new))) e)
      (poll_moved p v w b.lv b.lw b.ok port old new out l b.told e)

  module _ (e : out ≡ Handed) (place : Option Hop) (owned : Owned p l (frame_value new) place) where
    relays : relay_of p (turn_is out l (frame_value new)) ≡ sent_on p (frame_value new) place
    relays = ap (λ z. relay_of p (turn_is z l (frame_value new))) e ∙ ap (sent_on p (frame_value new)) (place_is p b.ok.path.links l (frame_value new) place owned)

    turns : tunnel_turn p (turn_is out l (frame_value new)) ≡ shown p l (frame_value new) place
    turns = ap (λ z. tunnel_turn p (turn_is z l (frame_value new))) e ∙ ap (shown p l (frame_value new)) (place_is p b.ok.path.links l (frame_value new) place owned)

  pub answer_plain : out ≡ Handed → Owned p l (frame_value new) None → Answered p v w o n port old Handed l new
  answer_plain e owned = answered w n None (relays e None owned) refl (mapped_same n) Handed l new (turns e None owned)
      (poll_plain p v w b.lv b.lw b.ok port old new out l b.told e owned)

  module _ (e : out ≡ Handed) (h : Hop) (owned : Owned p l (frame_value new) (Some h)) where
    abbrev k : ℕ
    k = h.index

    abbrev x : Way
    x = way_of h.back p

    side : Side p v.shape (way_of h.back p) (way_of (not h.back) p) (line_of p h.back)
    side = side_of p v.shape b.lv.shape.even b.ok.path h.back

    -- at its last hop an own frame comes out of the tunnel
    answer_out : p.len ≤ h.index + 1 → (t : ℕ) → t ≡ line_of p h.back → (fin : Frame) → frame_value fin ≡ popped (frame_value new) → Answered p v w o n port old Handed t fin
    answer_out ge t at fin less =
        let lt = owned.0 in
        let last : h.index + 1 ≡ p.len = omega arith in
        let long = side.len_x in
        subst (λ z. Answered p v w o n port old Handed z fin) (sym at)
        (answered w n None (relays e (Some h) owned ∙ cond-true (eqb (h.index + 1) p.len) _ _ (eq-eqb (h.index + 1) p.len last)) refl (mapped_same n) Handed (line_of p h.back) fin
        (turns e (Some h) owned ∙ cond-true (eqb (h.index + 1) p.len) _ _ (eq-eqb (h.index + 1) p.len last) ∙ ap (handed (line_of p h.back)) (sym less))
        (poll_out p v w b.lv b.lw b.ok port old new out l b.told x (way_of (not h.back) p) (line_of p h.back) side e k owned.1 owned.2 fin (omega (arith, last, long)) less))

    -- before that it is sent on: there is room, and the tunnel has moved
    module _ (more : h.index + 1 < p.len) where
      next_lt : h.index + 1 < (way_of h.back p).len
      next_lt = let long = side.len_x in omega (arith, long, more)

      pub answer_room : send_refusal w ((way_of h.back p).at (h.index + 1)) (relabelled ((way_of h.back p).label (h.index + 1)) (frame_value new)) ≡ None
      answer_room = relay_room p v w b.lv b.lw b.ok port old new out l b.told x (way_of (not h.back) p) (line_of p h.back) side e k owned.1 owned.2 (h.index + 1) (add-one h.index) next_lt

      answer_relay : (u : PlantValue) (r : Option Future) → Lawful u
          → Joins w ((way_of h.back p).at (h.index + 1)) (relabelled ((way_of h.back p).label (h.index + 1)) (frame_value new)) u
          → r ≡ option_map (λ f. after f (sent ((way_of h.back p).at (h.index + 1)) (relabelled ((way_of h.back p).label (h.index + 1)) (frame_value new)))) n
          → Answered p v u o r port old Moved 0 old
      answer_relay u r lu j next =
          let ne : h.index + 1 ≡ p.len → ⊥ = λ q. omega arith in
          answered u r (Some (x.at (k + 1), relabelled (x.label (k + 1)) (frame_value new)))
          (relays e (Some h) owned ∙ cond-false (eqb (h.index + 1) p.len) _ _ (ne_eqb (h.index + 1) p.len ne)) j next Moved 0 old
          (turns e (Some h) owned ∙ cond-false (eqb (h.index + 1) p.len) _ _ (ne_eqb (h.index + 1) p.len ne))
          (poll_relay p v w b.lv b.lw b.ok port old new out l b.told x (way_of (not h.back) p) (line_of p h.back) side e k owned.1 owned.2 (h.index + 1) (add-one h.index) next_lt u lu j)

    pub answer_carried : (u : PlantValue) (r : Option Future) → Lawful u → (out' : Outcome) (t : ℕ) (fin : Frame)
        → Carried out' p h (frame_value new) w t old fin u → CarriedOn out' p h (frame_value new) n r → Answered p v u o r port old out' t fin
    answer_carried u r lu Idle t fin c on = absurd c
    answer_carried u r lu Moved t fin c on =
        subst (λ z. Answered p v u o r port old Moved z fin) (sym c.1) (subst (Answered p v u o r port old Moved 0) (sym c.2) (answer_relay c.0 u r lu c.3 on))
    answer_carried u r lu Handed t fin c on =
        subst (λ z. Answered p v z o r port old Handed t fin) (sym c.3) (subst (λ z. Answered p v w o z port old Handed t fin) (sym on) (answer_out c.0 t c.1 fin c.2))
