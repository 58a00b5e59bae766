-- What goes along a line with a label: releases and packets, and that each packet's label is backed. Assumes nothing.
use Rattle.std.proofs.Common.{◌≡◌, ℕ, ◌<◌, ◌⊎◌, List, [], ◌∷◌, ◌++◌, refl, ap, subst, inl, inr, arith}
use Rattle.model.proofs.Logical.{Good, release, packet}
use Rattle.model.proofs.Lists.{weigh, weigh_push, hit, hit2, hit_tells, hit2_tells}

-- a release of l
abbrev pub freed : ℕ → Good → ℕ
freed l (release g k) = hit k l
freed l (packet p k t) = 0

-- a release of l and f, or a packet of f under l
abbrev pub load : (ℕ → ℕ) → ℕ → ℕ → Good → ℕ
load fec f l (release g k) = hit2 g f k l
load fec f l (packet p k t) = hit2 (fec p) f k l

-- packet p
abbrev pub holds : ℕ → Good → ℕ
holds p (release f l) = 0
holds p (packet o l t) = hit o p

-- each packet has behind it a release of its label, or P
abbrev pub Backed : (ℕ → ℕ) → (ℕ → ℕ → Type 0) → List Good → Type 0
Backed fec P [] = Unit {0}
Backed fec P (release g k ∷ gs) = Backed fec P gs
Backed fec P (packet p k t ∷ gs) = ((0 < weigh (freed k) gs) ⊎ P (fec p) k) × Backed fec P gs

module _ (fec : ℕ → ℕ) (P : ℕ → ℕ → Type 0) where
  pub backed_mono : (Q : ℕ → ℕ → Type 0) (gs : List Good) → ((f l : ℕ) → P f l → Q f l) → Backed fec P gs → Backed fec Q gs
  backed_mono Q [] m h = tt
  backed_mono Q (release g k ∷ gs) m h = backed_mono Q gs m h
  backed_mono Q (packet p k t ∷ gs) m h = (elim h.0 [ inl c ↦ inl c | inr c ↦ inr (m (fec p) k c) ], backed_mono Q gs m h.1)

  -- a release at the end backs its label
  pub backed_release : (Q : ℕ → ℕ → Type 0) (gs : List Good) (g l : ℕ) → ((f k : ℕ) → P f k → (k ≡ l) ⊎ Q f k)
      → Backed fec P gs → Backed fec Q (gs ++ release g l ∷ [])
  backed_release Q [] g l m h = tt
  backed_release Q (release f k ∷ gs) g l m h = backed_release Q gs g l m h
  backed_release Q (packet p k t ∷ gs) g l m h = (
    elim h.0 [
      | inl c ↦ inl (omega (arith, weigh_push (freed k) gs (release g l)))
      | inr c ↦ elim (m (fec p) k c) [ inl e ↦ inl (omega (arith, weigh_push (freed k) gs (release g l), hit_tells l k)) | inr q ↦ inr q ]
    ],
    backed_release Q gs g l m h.1,
  )

  pub backed_packet : (gs : List Good) (p l t : ℕ) → P (fec p) l → Backed fec P gs → Backed fec P (gs ++ packet p l t ∷ [])
  backed_packet [] p l t m h = (inr m, tt)
  backed_packet (release f k ∷ gs) p l t m h = backed_packet gs p l t m h
  backed_packet (packet o k u ∷ gs) p l t m h =
      (elim h.0 [ inl c ↦ inl (omega (arith, weigh_push (freed k) gs (packet p l t))) | inr c ↦ inr c ], backed_packet gs p l t m h.1)

  -- where nothing holds a label, and no release of it waits, no packet with it waits
  pub bare : (gs : List Good) (f l : ℕ) → (P f l → ⊥) → weigh (freed l) gs ≡ 0 → Backed fec P gs → weigh (load fec f l) gs ≡ 0
  bare [] f l n z h = refl
  bare (release g k ∷ gs) f l n z h = omega (arith, bare gs f l n (omega arith) h, hit2_tells g f k l, hit_tells k l)
  bare (packet p k t ∷ gs) f l n z h = let r = bare gs f l n (omega arith) h.1 in elim (hit2_tells (fec p) f k l) [
    | inl e ↦ elim h.0 [
      | inl c ↦ let c' = rw e.1 at c in omega arith
      | inr c ↦ absurd (n (subst (λ x. P x l) e.0 (rw e.1 at c)))
    ]
    | inr e ↦ omega (arith, e.1)
  ]

-- packet p, which none of these goods is, is given another FEC
module _ (fec fec' : ℕ → ℕ) (p : ℕ) (other : (j : ℕ) → (j ≡ p → ⊥) → fec' j ≡ fec j) where
  pub load_same : (f l : ℕ) (gs : List Good) → weigh (holds p) gs ≡ 0 → weigh (load fec' f l) gs ≡ weigh (load fec f l) gs
  load_same f l [] z = refl
  load_same f l (release g k ∷ gs) z = omega (arith, load_same f l gs (omega arith))
  load_same f l (packet o k t ∷ gs) z =
      omega (arith, load_same f l gs (omega arith), ap (λ x. hit2 x f k l) (other o (λ e. omega (arith, hit_tells o p))))

  pub backed_same : (Q : ℕ → ℕ → Type 0) (gs : List Good) → weigh (holds p) gs ≡ 0 → Backed fec Q gs → Backed fec' Q gs
  backed_same Q [] z h = tt
  backed_same Q (release g k ∷ gs) z h = backed_same Q gs (omega arith) h
  backed_same Q (packet o k t ∷ gs) z h =
      (rw (other o (λ e. omega (arith, hit_tells o p))) h.0, backed_same Q gs (omega arith) h.1)
