-- One line: what holds between the tables of its two ends and the frames on their way, and what that tells of a frame that comes
-- out. Assumes nothing.
use Rattle.std.proofs.Common.{◌≡◌, ℕ, suc, ◌+◌, ◌-◌, ◌<◌, ◌≤◌, min, ◌⊎◌, List, ◌∷◌, refl, inl, inr, arith}
use Rattle.model.proofs.Logical.{Note, Good, mapping, withdraw, release, packet}
use Rattle.model.proofs.Lists.{weigh, hit_tells, hit2_tells}
use Rattle.model.proofs.Notes.{Leads, mention, lost, known}
use Rattle.model.proofs.Goods.{freed, load, Backed}

-- one line e with its partner m: the notes waiting on m, the goods waiting on e, what the router at e's begin has learned on e,
-- what is due there, and the labels of the router at e's end. Numbers: 0 is none, n + 1 is n.
pub record View : Type 0 where
  pub notes : List Note
  pub goods : List Good
  pub rem : ℕ → ℕ
  pub stage : ℕ → ℕ
  pub due : ℕ → ℕ
  pub phase : ℕ → ℕ
  pub holder : ℕ → ℕ
  pub fec : ℕ → ℕ

-- l is bound to f or leaving it, and the other end has been told
abbrev pub Live : View → ℕ → ℕ → Type 0
Live v f l = (2 ≤ v.stage l) × (v.holder l ≡ f)

-- told, and not yet withdrawn
abbrev pub At : View → ℕ → ℕ → Type 0
At v f l = (2 ≤ v.stage l) × (v.stage l ≤ 3) × (v.holder l ≡ f)

-- a free label has no stage, a bound one at most 2, a leaving one none, 3 or 4
abbrev pub Fit : View → ℕ → Type 0
Fit v l = (v.stage l ≤ 4) × (v.phase l ≡ 0 → v.stage l ≡ 0) × (v.phase l ≡ 1 → v.stage l ≤ 2)
    × (v.phase l ≡ 2 → v.stage l ≡ 1 → ⊥) × (v.phase l ≡ 2 → v.stage l ≡ 2 → ⊥) × (v.phase l ≤ 2)

-- the notes on their way lead from what is learned of f to what has been told of it
abbrev pub Tells : View → ℕ → Type 0
Tells v f = (b : ℕ) × Leads f (v.rem f) v.notes b × ((l : ℕ) → b ≡ suc l → At v f l) × ((l : ℕ) → At v f l → b ≡ suc l)

-- a release of l is due, or l is still learned for f
abbrev pub Held : View → ℕ → ℕ → Type 0
Held v f l = (0 < v.due l) ⊎ (v.rem f ≡ suc l)

pub record Link (v : View) : Type 0 where
  pub fit : (l : ℕ) → Fit v l
  pub tells : (f : ℕ) → Tells v f
  pub noted : (f l : ℕ) → 0 < weigh (mention f l) v.notes → Live v f l
  pub loaded : (f l : ℕ) → 0 < weigh (load v.fec f l) v.goods → Live v f l
  pub owed : (f l : ℕ) → v.due l ≡ suc f → Live v f l
  pub once : (l : ℕ) → weigh (lost l) v.notes + min 1 (v.due l) + weigh (freed l) v.goods ≡ v.stage l - 3
  pub backed : Backed v.fec (Held v) v.goods

module _ {v : View} (k : Link v) where
  -- a mapping that is read finds none
  pub unlearned : {f l : ℕ} {ns : List Note} → v.notes ≡ mapping f l ∷ ns → v.rem f ≡ 0
  unlearned {f = f} head = let u = rw head at (k.tells f).1 in (u.1.0 refl).0

  -- a withdraw that is read is not stray
  pub was_learned : {f l : ℕ} {ns : List Note} → v.notes ≡ withdraw f l ∷ ns → v.rem f ≡ suc l
  was_learned {f = f} head = let u = rw head at (k.tells f).1 in (u.1.0 refl).0

  -- a release that is read is not stray
  pub was_withdrawn : {f l : ℕ} {gs : List Good} → v.goods ≡ release f l ∷ gs → v.stage l ≡ 4
  was_withdrawn {l = l} head = grind (arith, rw head at (k.once l), hit_tells l l, k.fit l)

  -- a packet's label is not free, and is of its FEC
  pub labelled : {p l t : ℕ} {gs : List Good} → v.goods ≡ packet p l t ∷ gs → Live v (v.fec p) l
  labelled {p = p} {l = l} head = k.loaded (v.fec p) l (rw head (omega (arith, hit2_tells (v.fec p) (v.fec p) l l)))

  -- what is learned is live
  pub remote_live : {f l : ℕ} → v.rem f ≡ suc l → Live v f l
  remote_live {f = f} {l = l} e =
      let t = k.tells f in elim (known f l (v.rem f) v.notes t.0 e t.1) [ inl b ↦ omega (arith, t.2 l b) | inr n ↦ k.noted f l n ]
