-- Tests that decide facts, and how they join. Assumes nothing.
use Rattle.std.proofs.Common.{◌≡◌, ℕ, ◌<◌, ◌≤◌, Bool, true, false, not, ◌&&◌, eqb, ltb, leb, ⊎_elim}
use Rattle.std.proofs.lemmas.Bool.{both_ways, leb-true, le-leb, ltb-true, lt-ltb, eqb-true, eq-eqb, and_parts, and_from, not-true, not_from_false, cases_Bool}

pub record Decides (b : Bool) (P : Type 0) : Type 0 where
  pub sure : b ≡ true → P
  pub seen : P → b ≡ true

pub decides_no : {b : Bool} {P : Type 0} → Decides b P → (P → ⊥) → b ≡ false
decides_no {b} d h = ⊎_elim (λ e. absurd (h (d.sure e))) (λ e. e) (cases_Bool b)

pub decides_as : {b : Bool} {P Q : Type 0} → Decides b P → (P → Q) → (Q → P) → Decides b Q
decides_as d f g = record { sure = λ e. f (d.sure e); seen = λ q. d.seen (g q) }

pub decides_le : (m n : ℕ) → Decides (leb m n) (m ≤ n)
decides_le m n = record { sure = leb-true m n; seen = le-leb m n }

pub decides_lt : (m n : ℕ) → Decides (ltb m n) (m < n)
decides_lt m n = record { sure = ltb-true m n; seen = lt-ltb m n }

pub decides_eq : (m n : ℕ) → Decides (eqb m n) (m ≡ n)
decides_eq m n = record { sure = eqb-true m n; seen = eq-eqb m n }

pub decides_not : {b : Bool} {P : Type 0} → Decides b P → Decides (not b) (P → ⊥)
decides_not {b} d = record { sure = λ e p. both_ways b (not-true b e) (d.seen p); seen = λ h. not_from_false b (decides_no d h) }

pub decides_and : {a b : Bool} {P Q : Type 0} → Decides a P → Decides b Q → Decides (a && b) (P × Q)
decides_and {a} {b} d e = record { sure = λ h. let p = and_parts a b h in (d.sure p.0, e.sure p.1); seen = λ h. and_from a b (d.seen h.0) (e.seen h.1) }
