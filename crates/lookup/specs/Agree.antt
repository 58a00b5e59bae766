-- The laws of agreement at any width, and how they carry over two halves.
use Rattle.std.specs.Prelude.{◌≡◌, ℕ, zero, suc, ◌/◌, ◌≤◌, min, bit_xor, refl}
use Rattle.std.proofs.Common.{sym, ap, ap₂, ◌∙◌, le_refl, arith}
use Rattle.std.specs.Int.Bits.{xor_zero_l, xor_zero_r, xor_self, xor_assoc}
use Rattle.std.proofs.lemmas.Nat.{xor_comm, xor_shr, leading_le}
use Rattle.std.specs.Int.Count.{count_leading_zeros, leading_of_zero}
use Rattle.lookup.specs.declared.address.Ipv4.{Ipv4}
use Rattle.lookup.specs.declared.address.Ipv6.{Ipv6}
use Rattle.lookup.specs.Agreement.{agree_in, carried, agree4, agree6}
use Rattle.std.proofs.lemmas.Bool.Decides.{nat_tests}

-- all k digits are zeros only of 0
only_zero : (k n : ℕ) → count_leading_zeros (suc k) n ≡ suc k → n ≡ 0
unfolding count_leading_zeros
only_zero k zero e = refl
only_zero k (suc n) e = omega (arith, leading_le k (suc n / 2))

half_zeros : (k n : ℕ) → count_leading_zeros k (n / 2) ≤ count_leading_zeros (suc k) n
unfolding count_leading_zeros
half_zeros k zero = omega (arith, leading_le k 0)
half_zeros k (suc n) = le_refl _

xor_zeros : (k x y : ℕ) → min (count_leading_zeros k x) (count_leading_zeros k y) ≤ count_leading_zeros k (bit_xor x y)
unfolding count_leading_zeros
xor_zeros zero x y = omega arith
xor_zeros (suc k) zero y = rw (xor_zero_l y) (omega arith)
xor_zeros (suc k) (suc n) zero = rw (xor_zero_r (suc n)) (omega arith)
xor_zeros (suc k) (suc n) (suc m) =
    omega (arith, xor_zeros k (suc n / 2) (suc m / 2), half_zeros k (bit_xor (suc n) (suc m)), ap (count_leading_zeros k) (xor_shr (suc n) (suc m) 1))

xor_via : (a b c : ℕ) → bit_xor (bit_xor a b) (bit_xor b c) ≡ bit_xor a c
xor_via a b c = xor_assoc a b (bit_xor b c) ∙ ap (bit_xor a) (sym (xor_assoc b b c) ∙ ap (λ x. bit_xor x c) (xor_self b) ∙ xor_zero_l c)

xor_same : (a b : ℕ) → bit_xor a b ≡ 0 → a ≡ b
xor_same a b e = sym (xor_zero_r a) ∙ ap (bit_xor a) (sym e) ∙ sym (xor_assoc a a b) ∙ ap (λ x. bit_xor x b) (xor_self a) ∙ xor_zero_l b

module _ (k : ℕ) where
  pub agree_within : (a b : ℕ) → agree_in k a b ≤ k
  agree_within a b = leading_le k (bit_xor a b)

  pub agree_equal : (a : ℕ) → agree_in k a a ≡ k
  agree_equal a = ap (count_leading_zeros k) (xor_self a) ∙ leading_of_zero k

  pub agree_symmetric : (a b : ℕ) → agree_in k a b ≡ agree_in k b a
  agree_symmetric a b = ap (count_leading_zeros k) (xor_comm a b)

  pub agree_between : (a b c : ℕ) → min (agree_in k a b) (agree_in k b c) ≤ agree_in k a c
  agree_between a b c = omega (arith, xor_zeros k (bit_xor a b) (bit_xor b c), ap (count_leading_zeros k) (xor_via a b c))

pub agree_apart : (k a b : ℕ) → agree_in (suc k) a b ≡ suc k → a ≡ b
agree_apart k a b e = xor_same a b (only_zero k (bit_xor a b) e)

-- the two halves
pub carried_within : (x y : ℕ) → y ≤ 64 → carried x y ≤ 128
carried_within x y h = grind (arith, nat_tests)

pub carried_full : (x y : ℕ) → x ≤ 64 → y ≤ 64 → carried x y ≡ 128 → (x ≡ 64) × (y ≡ 64)
carried_full x y h k e = grind (arith, nat_tests)

pub carried_between : (p q r s t u : ℕ) → p ≤ 64 → r ≤ 64 → t ≤ 64 → min p r ≤ t → min q s ≤ u
    → min (carried p q) (carried r s) ≤ carried t u
carried_between p q r s t u a b c d e = grind (arith, nat_tests)

-- the two kinds
pub symmetric4 : (a b : Ipv4) → agree4 a b ≡ agree4 b a
symmetric4 a b = agree_symmetric 32 a.bits b.bits

pub between4 : (a b c : Ipv4) → min (agree4 a b) (agree4 b c) ≤ agree4 a c
between4 a b c = agree_between 32 a.bits b.bits c.bits

pub symmetric6 : (a b : Ipv6) → agree6 a b ≡ agree6 b a
symmetric6 a b = ap₂ carried (agree_symmetric 64 a.high b.high) (agree_symmetric 64 a.low b.low)

pub between6 : (a b c : Ipv6) → min (agree6 a b) (agree6 b c) ≤ agree6 a c
between6 a b c =
    carried_between _ _ _ _ _ _ (agree_within 64 a.high b.high) (agree_within 64 b.high c.high) (agree_within 64 a.high c.high)
    (agree_between 64 a.high b.high c.high) (agree_between 64 a.low b.low c.low)
