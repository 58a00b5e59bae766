-- What is told of a line's labels: the notes on their way, read one by one. Assumes nothing.
use Rattle.std.proofs.Common.{◌≡◌, ℕ, suc, ◌<◌, ◌⊎◌, List, [], ◌∷◌, ◌++◌, sym, refl, subst, inl, inr, arith}
use Rattle.std.proofs.lemmas.Bool.{cases_eq}
use Rattle.model.proofs.Logical.{Note, mapping, withdraw}
use Rattle.model.proofs.Lists.{weigh, hit, hit2, hit_tells, hit2_tells}

-- one note read: what is known of FEC f goes from a to c. Numbers: 0 is none, n + 1 is n
abbrev pub Read : ℕ → Note → ℕ → ℕ → Type 0
Read f (mapping g l) a c = (g ≡ f → (a ≡ 0) × (c ≡ suc l)) × ((g ≡ f → ⊥) → c ≡ a)
Read f (withdraw g l) a c = (g ≡ f → (a ≡ suc l) × (c ≡ 0)) × ((g ≡ f → ⊥) → c ≡ a)

-- a list of notes read, from a to b
abbrev pub Leads : ℕ → ℕ → List Note → ℕ → Type 0
Leads f a [] b = a ≡ b
Leads f a (n ∷ ns) b = (c : ℕ) × Read f n a c × Leads f c ns b

pub leads_push : (f a : ℕ) (ns : List Note) (b : ℕ) (n : Note) (c : ℕ) → Leads f a ns b → Read f n b c → Leads f a (ns ++ n ∷ []) c
leads_push f a [] b n c e r = (c, subst (λ x. Read f n x c) (sym e) r, refl)
leads_push f a (m ∷ ns) b n c h r = (h.0, h.1, leads_push f h.0 ns b n c h.2 r)

-- a note names label l and FEC f
abbrev pub mention : ℕ → ℕ → Note → ℕ
mention f l (mapping g k) = hit2 g f k l
mention f l (withdraw g k) = hit2 g f k l

-- a withdraw of l
abbrev pub lost : ℕ → Note → ℕ
lost l (mapping g k) = 0
lost l (withdraw g k) = hit k l

-- what is known of f stays l over a note that does not withdraw it
kept : (f l a : ℕ) (n : Note) (c : ℕ) → a ≡ suc l → Read f n a c → lost l n ≡ 0 → c ≡ suc l
kept f l a (mapping g k) c e r z = grind (arith, cases_eq g f, r)
kept f l a (withdraw g k) c e r z = grind (arith, cases_eq g f, r, hit_tells k l)

-- known at the peer if no withdraw of it waits
pub key : (f l a : ℕ) (ns : List Note) (b : ℕ) → a ≡ suc l → Leads f a ns b → weigh (lost l) ns ≡ 0 → b ≡ suc l
key f l a [] b e h z = omega arith
key f l a (n ∷ ns) b e h z = key f l h.0 ns b (kept f l a n h.0 e h.1 (omega arith)) h.2 (omega arith)

-- no mention of l waits if it is not known at the end and no withdraw of it waits
pub silent : (f l a : ℕ) (ns : List Note) (b : ℕ) → Leads f a ns b → weigh (lost l) ns ≡ 0 → (b ≡ suc l → ⊥)
    → weigh (mention f l) ns ≡ 0
silent f l a [] b h z u = refl
silent f l a (mapping g k ∷ ns) b h z u =
    let r = silent f l h.0 ns b h.2 (omega arith) u in
    elim (hit2_tells g f k l) [
      | inl e ↦ absurd (u (key f l h.0 ns b (omega (arith, h.1.0 e.0, e.1)) h.2 (omega arith)))
      | inr n ↦ omega (arith, n.1)
    ]
silent f l a (withdraw g k ∷ ns) b h z u =
    let r = silent f l h.0 ns b h.2 (omega arith) u in grind (arith, r, hit2_tells g f k l, hit_tells k l)

-- what the peer knows is live: withdrawn by a note that waits, or known at the end
pub known : (f l a : ℕ) (ns : List Note) (b : ℕ) → a ≡ suc l → Leads f a ns b → (b ≡ suc l) ⊎ (0 < weigh (mention f l) ns)
known f l a [] b e h = inl (omega arith)
known f l a (mapping g k ∷ ns) b e h =
    elim (known f l h.0 ns b (kept f l a (mapping g k) h.0 e h.1 refl) h.2) [ inl s ↦ inl s | inr n ↦ inr (omega arith) ]
known f l a (withdraw g k ∷ ns) b e h = elim (cases_eq g f) [
  | inl s ↦ inr (omega (arith, h.1.0 s, hit2_tells g f k l))
  | inr n ↦ elim (known f l h.0 ns b (omega (arith, h.1.1 n)) h.2) [ inl s ↦ inl s | inr n ↦ inr (omega arith) ]
]
