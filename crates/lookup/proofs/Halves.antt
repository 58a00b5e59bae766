-- The last bits of a number of two halves of 64 bits.
use Rattle.std.proofs.Common.{◌≡◌, ℕ, ◌+◌, ◌-◌, ◌*◌, ◌/◌, ◌%◌, ◌^◌, ◌<◌, ◌≤◌, Bool, sym, ap, ◌∙◌, ⊎_elim, mul_assoc, arith}
use native.Mathlib.Nat.{mul-add-mod_self_right}
use Rattle.std.proofs.lemmas.Nat.{pow-add, mod-pow-add, shr_high, mod_low}
use Rattle.std.proofs.lemmas.Bool.Decides.{nat_tests, leb_tells}
use Rattle.lookup.specs.declared.address.Ipv6.{Ipv6}
use Rattle.lookup.specs.Agreement.{one_behind, behind_halves, value6}

module _ (hi lo len : ℕ) where
  abbrev both : ℕ
  both = hi * 2 ^ 64 + lo

  pub last_low : 64 ≤ len → both % 2 ^ (128 - len) ≡ lo % 2 ^ (128 - len)
  last_low h =
      let k : ℕ = 128 - len in
      let s : (64 - k) + k ≡ 64 = omega arith in
      ap (λ x. (hi * x + lo) % 2 ^ k) (sym (ap (λ x. 2 ^ x) s) ∙ pow-add 2 (64 - k) k)
      ∙ ap (λ x. (x + lo) % 2 ^ k) (sym (mul_assoc hi (2 ^ (64 - k)) (2 ^ k)))
      ∙ mul-add-mod_self_right (hi * 2 ^ (64 - k)) (2 ^ k) lo

  pub last_both : len < 64 → lo < 2 ^ 64 → both % 2 ^ (128 - len) ≡ (hi % 2 ^ (64 - len)) * 2 ^ 64 + lo
  last_both h l =
      let s : 128 - len ≡ (64 - len) + 64 = omega arith in
      let a : both / 2 ^ 64 ≡ hi = shr_high hi 64 lo l in
      let b : both % 2 ^ 64 ≡ lo = mod_low hi 64 lo l in
      ap (λ x. both % 2 ^ x) s ∙ mod-pow-add both (64 - len) 64
      ∙ ap (λ x. (x % 2 ^ (64 - len)) * 2 ^ 64 + both % 2 ^ 64) a ∙ ap (λ x. (hi % 2 ^ (64 - len)) * 2 ^ 64 + x) b

pub behind_halves_lem : (hi lo len : ℕ) → lo < 2 ^ 64 → behind_halves hi lo len ≡ one_behind 128 (hi * 2 ^ 64 + lo) len
behind_halves_lem hi lo len l =
    ⊎_elim
    (λ t. let e = last_low hi lo len t.1 in grind (arith, nat_tests))
    (λ t. let e = last_both hi lo len t.1 l in grind (arith, nat_tests))
    (leb_tells 64 len)

-- what tells of the two halves whether a one bit is behind a length tells it of the address
pub by_halves : (a : Ipv6) (len : ℕ) (r : Bool) → a.low < 2 ^ 64 → r ≡ behind_halves a.high a.low len → r ≡ one_behind 128 (value6 a) len
by_halves a len r l e = e ∙ behind_halves_lem a.high a.low len l
