-- The tables in step with the frames on their way, line by line, and what a change of one line leaves of it. Assumes the laws of a
-- plant's lines.
use Rattle.std.proofs.Common.{◌≡◌, ℕ, ◌<◌, ◌≤◌, List, [], ◌∷◌, ◌++◌, Some, Option, sym, refl, ap, ◌∙◌, subst, inl, inr, append-nil, arith}
use Rattle.std.proofs.lemmas.Bool.{cases_eq}
use Rattle.std.proofs.lemmas.List.Concat.{flat_map-append}
use Rattle.plant.specs.Plants.{Shape, ShapeLaws, partner}
use Rattle.model.specs.Tables.{Tables, Status, free, bound, leaving, put, fec_of, with_labels, with_remote}
use Rattle.model.proofs.Logical.{Note, Good, Item, note, good}
use Rattle.model.proofs.Link.{View, Live, Link}
use Rattle.model.proofs.Views.{put_here, put_there, put_unseen, note_in, good_in, notes_of, goods_of, phase_of, vw, link_same, view, Row}
use Rattle.model.proofs.Wiring.{back, stands, begins_at}

-- a label in use is of the range, and so is its FEC
abbrev pub Ranged : ℕ → ℕ → Status → Type 0
Ranged fecs l free = Unit {0}
Ranged fecs l (bound f) = (f < fecs) × (16 ≤ l) × (l < 80)
Ranged fecs l (leaving f) = (f < fecs) × (16 ≤ l) × (l < 80)

-- the tables are in step with the frames on their way, packet p being of FEC fc p
pub record Wired (S : Shape) (fecs : ℕ) (s : Tables) (q : ℕ → List Item) (fc : ℕ → ℕ) : Type 0 where
  pub links : (e : ℕ) → e < S.lines → Link (view S s q fc e)
  pub single : (r l k f : ℕ) → s.status r l ≡ bound f → s.status r k ≡ bound f → l ≡ k
  pub ranged : (r l : ℕ) → Ranged fecs l (s.status r l)
  pub hops : (r f e : ℕ) → s.hop r f ≡ Some e → e < S.lines

in_use : (fecs l : ℕ) (x : Status) → Ranged fecs l x → (phase_of x ≡ 0 → ⊥) → (fec_of x < fecs) × (16 ≤ l) × (l < 80)
in_use fecs l free r n = absurd (n refl)
in_use fecs l (bound f) r n = r
in_use fecs l (leaving f) r n = r

module _ {S : Shape} {fecs : ℕ} {s : Tables} {q : ℕ → List Item} {fc : ℕ → ℕ} (k : Wired S fecs s q fc) where
  -- a label of router r with a stage, on a line that leads there, is of the range
  pub staged : (r : ℕ) {v : View} → Link v → (l : ℕ) → v.phase l ≡ phase_of (s.status r l) → (v.stage l ≡ 0 → ⊥)
      → (fec_of (s.status r l) < fecs) × (16 ≤ l) × (l < 80)
  staged r t l e n = in_use fecs l (s.status r l) (k.ranged r l) (λ z. n ((t.fit l).1 (e ∙ z)))

  -- so is one that is live, and its FEC
  pub live_range : (r : ℕ) {v : View} → Link v → {f l : ℕ} → v.phase l ≡ phase_of (s.status r l) → v.holder l ≡ fec_of (s.status r l)
      → Live v f l → (f < fecs) × (16 ≤ l) × (l < 80)
  live_range r t {l = l} e h a = let g = staged r t l e (λ z. omega arith) in omega arith

  -- the rows of line m change, and some queues
  module _ {m : ℕ} {rm : ℕ → Option ℕ} {sg : ℕ → ℕ} {du : ℕ → Option ℕ}
      (R : Row s.remote m rm) (G : Row s.stage m sg) (D : Row s.due m du) where
    abbrev pub amended : Tables
    amended = with_remote R.table D.table (with_labels s.status G.table s)

    -- m sees these frames, with its new rows
    abbrev pub Sees : List Note → List Good → Type 0
    Sees ns gs = Link (vw ns gs rm sg du (s.status (S.line m).to) fc)

    -- and no other line sees a change
    pub rewired : (q' : ℕ → List Item) → ((e : ℕ) → (e ≡ m → ⊥) → notes_of (q' (partner e)) ≡ notes_of (q (partner e)))
        → ((e : ℕ) → (e ≡ m → ⊥) → goods_of (q' e) ≡ goods_of (q e)) → Sees (notes_of (q' (partner m))) (goods_of (q' m))
        → Wired S fecs amended q' fc
    rewired q' on og at = record {
      links = λ e le. elim (cases_eq e m) [
        | inl h ↦ subst (λ i. Link (view S amended q' fc i)) (sym h) (link_same fc refl refl (sym R.here) (sym G.here) (sym D.here) refl at)
        | inr n ↦ link_same fc (sym (on e n)) (sym (og e n)) (sym (R.there e n)) (sym (G.there e n)) (sym (D.there e n)) refl (k.links e le)
      ];
      single = k.single;
      ranged = k.ranged;
      hops = k.hops;
    }

    -- the goods of m change
    carried : (xs : List Item) → notes_of xs ≡ notes_of (q m) → Sees (notes_of (q (partner m))) (goods_of xs)
        → Wired S fecs amended (put q m xs) fc
    carried xs g at =
        let un = put_unseen notes_of q m xs g in
        rewired (put q m xs) (λ e u. un (partner e)) (λ e u. ap goods_of (put_there q m xs e u))
        (link_same fc (sym (un (partner m))) (sym (ap goods_of (put_here q m xs m refl))) refl refl refl refl at)

    pub good_sent : (g : Good) → Sees (notes_of (q (partner m))) (goods_of (q m) ++ g ∷ [])
        → Wired S fecs amended (put q m (q m ++ good g ∷ [])) fc
    good_sent g at =
        carried (q m ++ good g ∷ []) (flat_map-append note_in (q m) (good g ∷ []) ∙ append-nil (notes_of (q m)))
        (link_same fc refl (sym (flat_map-append good_in (q m) (good g ∷ []))) refl refl refl refl at)

    pub good_read : {g : Good} {xs : List Item} → q m ≡ good g ∷ xs → Sees (notes_of (q (partner m))) (goods_of xs)
        → Wired S fecs amended (put q m xs) fc
    good_read {xs = xs} hd at = carried xs (sym (ap notes_of hd)) at

  -- what is seen of e's partner from the router where e begins: the notes are those on e
  module _ (law : ShapeLaws S) {e : ℕ} (le : e < S.lines) where
    pub facing : Link (vw (notes_of (q e)) (goods_of (q (partner e))) (s.remote (partner e)) (s.stage (partner e)) (s.due (partner e))
        (s.status (S.line e).from) fc)
    facing =
        link_same fc (ap (λ i. notes_of (q i)) (back e)) refl refl refl refl (ap s.status (sym (begins_at law e le)))
        (k.links (partner e) (stands law e le))

    -- the partner's rows change, and the notes on e
    module _ {rm : ℕ → Option ℕ} {sg : ℕ → ℕ} {du : ℕ → Option ℕ}
        (R : Row s.remote (partner e) rm) (G : Row s.stage (partner e) sg) (D : Row s.due (partner e) du) where
      abbrev pub Faces : List Note → Type 0
      Faces ns = Link (vw ns (goods_of (q (partner e))) rm sg du (s.status (S.line e).from) fc)

      noted : (xs : List Item) → goods_of xs ≡ goods_of (q e) → Faces (notes_of xs) → Wired S fecs (amended R G D) (put q e xs) fc
      noted xs g at =
          let un = put_unseen goods_of q e xs g in
          rewired R G D (put q e xs) (λ i u. ap notes_of (put_there q e xs (partner i) (λ h. u (sym (back i) ∙ ap partner h)))) (λ i _. un i)
          (link_same fc (sym (ap notes_of (put_here q e xs (partner (partner e)) (back e)))) (sym (un (partner e))) refl refl refl
          (ap s.status (begins_at law e le)) at)

      pub note_sent : (n : Note) → Faces (notes_of (q e) ++ n ∷ []) → Wired S fecs (amended R G D) (put q e (q e ++ note n ∷ [])) fc
      note_sent n at =
          noted (q e ++ note n ∷ []) (flat_map-append good_in (q e) (note n ∷ []) ∙ append-nil (goods_of (q e)))
          (link_same fc (sym (flat_map-append note_in (q e) (note n ∷ []))) refl refl refl refl refl at)

      pub note_read : {n : Note} {xs : List Item} → q e ≡ note n ∷ xs → Faces (notes_of xs) → Wired S fecs (amended R G D) (put q e xs) fc
      note_read {xs = xs} hd at = noted xs (sym (ap goods_of hd)) at
