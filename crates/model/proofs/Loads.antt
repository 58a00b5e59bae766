-- A release or a packet is sent on a line, or read at its end: each keeps what holds of the line. Assumes nothing.
use Rattle.std.proofs.Common.{◌≡◌, ℕ, suc, List, [], ◌∷◌, ◌++◌, inl, inr, arith}
use Rattle.model.proofs.Logical.{Good, release, packet}
use Rattle.model.proofs.Lists.{weigh, weigh_push, hit_tells, hit2_tells, Put}
use Rattle.model.proofs.Notes.{mention, lost, key, silent}
use Rattle.model.proofs.Goods.{freed, load, backed_release, backed_packet, bare}
use Rattle.model.proofs.Link.{View, Held, Link, was_withdrawn, remote_live}

-- a release is sent
module _ {v : View} (k : Link v) (f l : ℕ) {due' : ℕ → ℕ} (put : Put v.due due' l 0) where
  abbrev pub released : View
  released = record v { goods = v.goods ++ release f l ∷ []; due = due' }

  pub send_release : v.due l ≡ suc f → Link released
  send_release d = record {
    fit = k.fit;
    tells = k.tells;
    noted = k.noted;
    loaded = λ g j c. grind (arith, k.owed f l d, k.loaded g j, hit2_tells f g l j, weigh_push (load v.fec g j) v.goods (release f l));
    owed = λ g j c. grind (arith, put j, k.owed g j);
    once = λ j. grind (arith, put j, k.once j, hit_tells l j, weigh_push (freed j) v.goods (release f l));
    backed = backed_release v.fec (Held v) (Held released) v.goods f l (λ g j. elim [
      | inl c ↦ elim (put j) [ inl e ↦ inl e.0 | inr n ↦ inr (inl (omega (arith, n.1))) ]
      | inr c ↦ inr (inr c)
    ]) k.backed;
  }

-- a release is read
module _ {v : View} (k : Link v) {f l : ℕ} {gs : List Good} (head : v.goods ≡ release f l ∷ gs)
    {stage' : ℕ → ℕ} (put : Put v.stage stage' l 0) where
  alone : (weigh (lost l) v.notes ≡ 0) × (v.due l ≡ 0) × (weigh (freed l) gs ≡ 0)
  alone = let o = rw head at (k.once l) in omega (arith, hit_tells l l, k.fit l)

  untold : (g : ℕ) → (k.tells g).0 ≡ suc l → ⊥
  untold g b = omega (arith, (k.tells g).2 l b, was_withdrawn k head)

  unknown : (g : ℕ) → v.rem g ≡ suc l → ⊥
  unknown g e = let t = k.tells g in untold g (key g l (v.rem g) v.notes t.0 e t.1 alone.0)

  unnoted : (g : ℕ) → weigh (mention g l) v.notes ≡ 0
  unnoted g = let t = k.tells g in silent g l (v.rem g) v.notes t.0 t.1 alone.0 (untold g)

  unloaded : (g : ℕ) → weigh (load v.fec g l) gs ≡ 0
  unloaded g = bare v.fec (Held v) gs g l (elim [ inl d ↦ omega (arith, alone) | inr e ↦ unknown g e ]) alone.2 (rw head at k.backed)

  pub read_release : Link (record v { goods = gs; stage = stage' })
  read_release = record {
    fit = λ j. grind (arith, put j, k.fit j);
    tells = λ g. let t = k.tells g in
        (t.0, t.1, λ j c. grind (arith, put j, t.2 j c, was_withdrawn k head), λ j c. grind (arith, put j, t.3 j));
    noted = λ g j c. elim (put j) [
      | inl e ↦ omega (arith, rw (← e.0) at (unnoted g))
      | inr n ↦ omega (arith, n.1, k.noted g j c)
    ];
    loaded = λ g j c. elim (put j) [
      | inl e ↦ omega (arith, rw (← e.0) at (unloaded g))
      | inr n ↦ omega (arith, n.1, k.loaded g j (rw head (omega arith)))
    ];
    owed = λ g j c. elim (put j) [ inl e ↦ grind (arith, e.0, alone.1) | inr n ↦ omega (arith, n.1, k.owed g j c) ];
    once = λ j. grind (arith, rw head at (k.once j), hit_tells l j, put j, was_withdrawn k head);
    backed = rw head at k.backed;
  }

module _ {v : View} (k : Link v) (p l t : ℕ) where
  -- a packet is sent
  pub send_packet : v.rem (v.fec p) ≡ suc l → Link (record v { goods = v.goods ++ packet p l t ∷ [] })
  send_packet e = record {
    fit = k.fit;
    tells = k.tells;
    noted = k.noted;
    loaded = λ g j c. grind (
      arith,
      remote_live k e,
      k.loaded g j,
      hit2_tells (v.fec p) g l j,
      weigh_push (load v.fec g j) v.goods (packet p l t),
    );
    owed = k.owed;
    once = λ j. grind (arith, k.once j, weigh_push (freed j) v.goods (packet p l t));
    backed = backed_packet v.fec (Held v) v.goods p l t (inr e) k.backed;
  }

  -- a packet is read
  pub read_packet : {gs : List Good} → v.goods ≡ packet p l t ∷ gs → Link (record v { goods = gs })
  read_packet head = record {
    fit = k.fit;
    tells = k.tells;
    noted = k.noted;
    loaded = λ g j c. k.loaded g j (rw head (omega arith));
    owed = k.owed;
    once = λ j. grind (arith, rw head at (k.once j));
    backed = (rw head at k.backed).1;
  }
