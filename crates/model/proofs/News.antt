-- A mapping or a withdraw is sent on a line's partner, or read there: each keeps what holds of the line. Assumes nothing.
use Rattle.std.proofs.Common.{◌≡◌, ℕ, suc, List, [], ◌∷◌, ◌++◌, refl, subst, inl, inr, arith}
use Rattle.std.proofs.lemmas.Bool.{cases_eq}
use Rattle.model.proofs.Logical.{Note, mapping, withdraw}
use Rattle.model.proofs.Lists.{weigh_push, hit_tells, hit2_tells, Put, none_or}
use Rattle.model.proofs.Notes.{Read, Leads, leads_push, mention, lost}
use Rattle.model.proofs.Goods.{backed_mono}
use Rattle.model.proofs.Link.{View, Held, Link, unlearned, was_learned}

-- a mapping is sent
module _ {v : View} (k : Link v) (f l : ℕ) {stage' : ℕ → ℕ} (put : Put v.stage stage' l 2) where
  -- none of f has been told: a label of f other than l would be leaving, and told at stage 3
  pub send_mapping : v.stage l ≡ 1 → v.phase l ≡ 1 → v.holder l ≡ f → ((j : ℕ) → v.stage j ≡ 3 → ⊥)
      → ((j : ℕ) → v.phase j ≡ 1 → v.holder j ≡ f → j ≡ l)
      → Link (record v { notes = v.notes ++ mapping f l ∷ []; stage = stage' })
  send_mapping s p h none one = record {
    fit = λ j. grind (arith, put, k.fit);
    tells = λ g. let t = k.tells g in elim (cases_eq f g) [
      | inl e ↦
          let z : t.0 ≡ 0 = elim (none_or t.0) [
            | inl o ↦ o
            | inr o ↦ grind (arith, t.2 o.0 o.1, k.fit o.0, none o.0, one o.0)
          ] in (
            suc l,
            leads_push g (v.rem g) v.notes t.0 (mapping f l) (suc l) t.1 (λ _. (z, refl), λ n. absurd (n e)),
            λ j c. grind (arith, put),
            λ j c. grind (arith, put j, t.3 j, z),
          )
      | inr n ↦ (
        t.0,
        leads_push g (v.rem g) v.notes t.0 (mapping f l) t.0 t.1 (λ e. absurd (n e), λ _. refl),
        λ j c. grind (arith, put, t.2 j c),
        λ j c. grind (arith, put, t.3 j),
      )
    ];
    noted = λ g j c. grind (arith, put, k.noted g j, hit2_tells f g l j, weigh_push (mention g j) v.notes (mapping f l));
    loaded = λ g j c. grind (arith, put, k.loaded g j c);
    owed = λ g j c. grind (arith, put, k.owed g j c);
    once = λ j. grind (arith, put, k.once j, weigh_push (lost j) v.notes (mapping f l));
    backed = k.backed;
  }

-- a withdraw is sent
module _ {v : View} (k : Link v) (f l : ℕ) {stage' : ℕ → ℕ} (put : Put v.stage stage' l 4) where
  pub send_withdraw : v.stage l ≡ 3 → v.holder l ≡ f → Link (record v { notes = v.notes ++ withdraw f l ∷ []; stage = stage' })
  send_withdraw s h = record {
    fit = λ j. grind (arith, put, k.fit);
    tells = λ g. let t = k.tells g in elim (cases_eq f g) [
      | inl e ↦
          let z : t.0 ≡ suc l = t.3 l (omega arith) in (
            0,
            leads_push g (v.rem g) v.notes t.0 (withdraw f l) 0 t.1 (λ _. (z, refl), λ n. absurd (n e)),
            λ j c. omega arith,
            λ j c. grind (arith, put j, t.3 j, z),
          )
      | inr n ↦ (
        t.0,
        leads_push g (v.rem g) v.notes t.0 (withdraw f l) t.0 t.1 (λ e. absurd (n e), λ _. refl),
        λ j c. grind (arith, put, t.2 j c),
        λ j c. grind (arith, put, t.3 j),
      )
    ];
    noted = λ g j c. grind (arith, put, k.noted g j, hit2_tells f g l j, weigh_push (mention g j) v.notes (withdraw f l));
    loaded = λ g j c. grind (arith, put, k.loaded g j c);
    owed = λ g j c. grind (arith, put, k.owed g j c);
    once = λ j. grind (arith, put, k.once j, hit_tells l j, weigh_push (lost j) v.notes (withdraw f l));
    backed = k.backed;
  }

-- what is learned once the first note is read, from what the notes tell
rest_leads : {v : View} (k : Link v) (n : Note) (ns : List Note) → v.notes ≡ n ∷ ns → (rem' : ℕ → ℕ)
    → ((g c : ℕ) → Read g n (v.rem g) c → c ≡ rem' g) → (g : ℕ) → Leads g (rem' g) ns (k.tells g).0
rest_leads {v = v} k n ns head rem' same g =
    let u : Leads g (v.rem g) (n ∷ ns) (k.tells g).0 = rw head at (k.tells g).1 in
    subst (λ x. Leads g x ns (k.tells g).0) (same g u.0 u.1) u.2

-- a mapping is read
module _ {v : View} (k : Link v) {f l : ℕ} {ns : List Note} (head : v.notes ≡ mapping f l ∷ ns)
    {rem' : ℕ → ℕ} (put : Put v.rem rem' f (suc l)) where
  abbrev pub learned : View
  learned = record v { notes = ns; rem = rem' }

  pub read_mapping : Link learned
  read_mapping = record {
    fit = k.fit;
    tells = λ g. let t = k.tells g in
        (t.0, rest_leads k (mapping f l) ns head rem' (λ g c r. grind (arith, cases_eq f g, r, put g)) g, t.2, t.3);
    noted = λ g j c. k.noted g j (rw head (omega arith));
    loaded = k.loaded;
    owed = k.owed;
    once = λ j. grind (arith, rw head at (k.once j));
    backed = backed_mono v.fec (Held v) (Held learned) v.goods
        (λ g j. elim [ inl c ↦ inl c | inr c ↦ inr (grind (arith, put g, unlearned k head)) ]) k.backed;
  }

-- a withdraw is read
module _ {v : View} (k : Link v) {f l : ℕ} {ns : List Note} (head : v.notes ≡ withdraw f l ∷ ns)
    {rem' : ℕ → ℕ} (put : Put v.rem rem' f 0) {due' : ℕ → ℕ} (owe : Put v.due due' l (suc f)) where
  abbrev pub unlearnt : View
  unlearnt = record v { notes = ns; rem = rem'; due = due' }

  pub read_withdraw : Link unlearnt
  read_withdraw = record {
    fit = k.fit;
    tells = λ g. let t = k.tells g in
        (t.0, rest_leads k (withdraw f l) ns head rem' (λ g c r. grind (arith, cases_eq f g, r, put g)) g, t.2, t.3);
    noted = λ g j c. k.noted g j (rw head (omega arith));
    loaded = k.loaded;
    owed = λ g j c. let n = k.noted f l (rw head (omega (arith, hit2_tells f f l l))) in grind (arith, n, owe j, k.owed g j);
    once = λ j. grind (arith, rw head at (k.once j), hit_tells l j, owe j);
    backed = backed_mono v.fec (Held v) (Held unlearnt) v.goods (λ g j. elim [
      | inl c ↦ inl (omega (arith, owe j))
      | inr c ↦ elim (cases_eq f g) [
        | inl e ↦ inl (grind (arith, was_learned k head, owe j))
        | inr n ↦ inr (omega (arith, put g))
      ]
    ]) k.backed;
  }
