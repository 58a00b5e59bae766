-- A label of a line's end is bound, let go of or freed, or a packet is given its FEC: each keeps what holds of the line. Assumes nothing.
use Rattle.std.proofs.Common.{◌≡◌, ℕ, ◌≤◌, ◌⊎◌, arith}
use Rattle.model.proofs.Lists.{weigh, Put}
use Rattle.model.proofs.Goods.{holds, load_same, backed_same}
use Rattle.model.proofs.Link.{View, Held, Link}

-- a label is bound, let go of or freed
module _ {v : View} (k : Link v) {l a h x : ℕ} {phase' holder' stage' : ℕ → ℕ}
    (put_p : Put v.phase phase' l a) (put_h : Put v.holder holder' l h) (put_s : Put v.stage stage' l x) where
  pub relabel : ((v.stage l ≤ 1) × (x ≤ 1) × (a ≤ 2) × (a ≡ 0 → x ≡ 0) × (a ≡ 2 → x ≡ 0))
      ⊎ ((v.stage l ≡ 2) × (x ≡ 3) × (h ≡ v.holder l) × (a ≡ 2)) → Link (record v { stage = stage'; phase = phase'; holder = holder' })
  relabel c = record {
    fit = λ j. grind (arith, put_p j, put_s j, k.fit j);
    tells = λ g. let t = k.tells g in (t.0, t.1, λ j b. grind (arith, t.2 j b, put_h j, put_s j), λ j b. grind (arith, t.3 j, put_h j, put_s j));
    noted = λ g j n. grind (arith, k.noted g j n, put_h j, put_s j);
    loaded = λ g j n. grind (arith, k.loaded g j n, put_h j, put_s j);
    owed = λ g j n. grind (arith, k.owed g j n, put_h j, put_s j);
    once = λ j. grind (arith, k.once j, put_s j);
    backed = k.backed;
  }

-- packet p is given its FEC while no frame carries it
pub rename : {v : View} → Link v → (fec' : ℕ → ℕ) (p : ℕ) → ((j : ℕ) → (j ≡ p → ⊥) → fec' j ≡ v.fec j)
    → weigh (holds p) v.goods ≡ 0 → Link (record v { fec = fec' })
rename {v = v} k fec' p other z = record {
  fit = k.fit;
  tells = k.tells;
  noted = k.noted;
  loaded = λ f l c. k.loaded f l (omega (arith, load_same v.fec fec' p other f l v.goods z));
  owed = k.owed;
  once = k.once;
  backed = backed_same v.fec fec' p other (Held v) v.goods z k.backed;
}
