-- A frame that comes out is no stray, and once it is read the tables are in step. Assumes the laws of a plant's lines.
use Rattle.std.proofs.Common.{◌≡◌, ℕ, suc, ◌<◌, ◌≤◌, List, ◌∷◌, [], ◌++◌, Some, None, refl, ap, arith}
use Rattle.plant.specs.Plants.{Shape, ShapeLaws, partner}
use Rattle.model.specs.Tables.{Tables, put}
use Rattle.model.specs.Messages.{learn, unlearn, unstage}
use Rattle.model.proofs.Logical.{Item, mapping, withdraw, release, packet, note, good}
use Rattle.model.proofs.Lists.{weigh, hit2_tells}
use Rattle.model.proofs.Notes.{mention}
use Rattle.model.proofs.Link.{Live, remote_live, was_learned, was_withdrawn, labelled}
use Rattle.model.proofs.News.{read_mapping, read_withdraw}
use Rattle.model.proofs.Loads.{read_release, send_packet, read_packet}
use Rattle.model.proofs.Views.{view, put-Put, num, notes_of, goods_of, old_row, new_row}
use Rattle.model.proofs.Wired.{Wired, live_range, facing, note_read, good_sent, good_read}

module _ {S : Shape} {fecs : ℕ} {s : Tables} {q : ℕ → List Item} {fc : ℕ → ℕ} (k : Wired S fecs s q fc) {e : ℕ} (le : e < S.lines) where
  -- a packet is sent with the label known for its FEC
  pub packet_sent : (p l t : ℕ) → s.remote e (fc p) ≡ Some l → Wired S fecs s (put q e (q e ++ good (packet p l t) ∷ [])) fc
  packet_sent p l t rm =
      good_sent k (old_row s.remote e) (old_row s.stage e) (old_row s.due e) (packet p l t) (send_packet (k.links e le) p l t (ap num rm))

  -- which is of the range
  pub remote_range : (f l : ℕ) → s.remote e f ≡ Some l → l < 80
  remote_range f l rm = (live_range k (S.line e).to (k.links e le) refl refl (remote_live (k.links e le) {f = f} {l = l} (ap num rm))).2

  -- a frame of each kind comes out
  module _ {xs : List Item} {f l : ℕ} (hd : q e ≡ good (release f l) ∷ xs) where
    pub release_stage : s.stage e l ≡ 4
    release_stage = was_withdrawn (k.links e le) {f = f} {l = l} (ap goods_of hd)

    pub release_range : (f < fecs) × (16 ≤ l) × (l < 80)
    release_range =
        live_range k (S.line e).to (k.links e le) refl refl ((k.links e le).loaded f l (rw hd (omega (arith, hit2_tells f f l l))))

    pub release_read : Wired S fecs (unstage e l s) (put q e xs) fc
    release_read =
        good_read k (old_row s.remote e) (new_row s.stage e (put (s.stage e) l 0)) (old_row s.due e) hd
        (read_release (k.links e le) (ap goods_of hd) (put-Put (λ x. x) (s.stage e) l 0))

  module _ {xs : List Item} {p l t : ℕ} (hd : q e ≡ good (packet p l t) ∷ xs) where
    -- a packet's label is in use, for its FEC
    pub packet_live : Live (view S s q fc e) (fc p) l
    packet_live = labelled (k.links e le) (ap goods_of hd)

    pub packet_range : (16 ≤ l) × (l < 80)
    packet_range = let g = live_range k (S.line e).to (k.links e le) refl refl packet_live in (g.1, g.2)

    pub packet_read : Wired S fecs s (put q e xs) fc
    packet_read =
        good_read k (old_row s.remote e) (old_row s.stage e) (old_row s.due e) hd (read_packet (k.links e le) p l t (ap goods_of hd))

  module _ (law : ShapeLaws S) {f l : ℕ} where
    -- what a note says is of the range
    note_range : 0 < weigh (mention f l) (notes_of (q e)) → (f < fecs) × (16 ≤ l) × (l < 80)
    note_range c = let t = facing k law le in live_range k (S.line e).from t refl refl (t.noted f l c)

    pub mapping_range : {xs : List Item} → q e ≡ note (mapping f l) ∷ xs → (f < fecs) × (16 ≤ l) × (l < 80)
    mapping_range hd = note_range (rw hd (omega (arith, hit2_tells f f l l)))

    pub mapping_read : {xs : List Item} → q e ≡ note (mapping f l) ∷ xs → Wired S fecs (learn e f l s) (put q e xs) fc
    mapping_read hd =
        let m = partner e in
        note_read k law le (new_row s.remote m (put (s.remote m) f (Some l))) (old_row s.stage m) (old_row s.due m) hd
        (read_mapping (facing k law le) (ap notes_of hd) (put-Put num (s.remote m) f (Some l)))

    pub withdraw_range : {xs : List Item} → q e ≡ note (withdraw f l) ∷ xs → (f < fecs) × (16 ≤ l) × (l < 80)
    withdraw_range hd = note_range (rw hd (omega (arith, hit2_tells f f l l)))

    pub withdraw_known : {xs : List Item} → q e ≡ note (withdraw f l) ∷ xs → num (s.remote (partner e) f) ≡ suc l
    withdraw_known hd = was_learned (facing k law le) {f = f} {l = l} (ap notes_of hd)

    pub withdraw_read : {xs : List Item} → q e ≡ note (withdraw f l) ∷ xs → Wired S fecs (unlearn e f l s) (put q e xs) fc
    withdraw_read hd =
        let m = partner e in
        note_read k law le (new_row s.remote m (put (s.remote m) f None)) (old_row s.stage m) (new_row s.due m (put (s.due m) l (Some f))) hd
        (read_withdraw (facing k law le) (ap notes_of hd) (put-Put num (s.remote m) f None) (put-Put num (s.due m) l (Some f)))
