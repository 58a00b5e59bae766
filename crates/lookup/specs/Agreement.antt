-- In how many leading bits two addresses agree, and a one bit behind a length. Assumes nothing.
use Rattle.std.specs.Prelude.{ℕ, ◌+◌, ◌-◌, ◌*◌, ◌%◌, ◌^◌, Bool, cond, ◌||◌, bit_xor, nat_lt}
use Rattle.std.specs.Int.Count.{count_leading_zeros}
use Rattle.lookup.specs.declared.address.Ipv4.{Ipv4}
use Rattle.lookup.specs.declared.address.Ipv6.{Ipv6}

-- the leading zeros of the exclusive or, of k bits
abbrev pub agree_in : ℕ → ℕ → ℕ → ℕ
agree_in k a b = count_leading_zeros k (bit_xor a b)

-- in how many leading bits two IPv4 addresses agree
abbrev pub agree4 : Ipv4 → Ipv4 → ℕ
agree4 a b = agree_in 32 a.bits b.bits

-- the agreement x of the high halves and y of the low ones as one: the low halves count only where all 64 high bits agree
abbrev pub carried : ℕ → ℕ → ℕ
carried x y = cond (nat_lt x 64) x (64 + y)

-- in how many leading bits two IPv6 addresses agree
abbrev pub agree6 : Ipv6 → Ipv6 → ℕ
agree6 a b = carried (agree_in 64 a.high b.high) (agree_in 64 a.low b.low)

-- the 128 bits of an IPv6 address as one number
abbrev pub value6 : Ipv6 → ℕ
value6 a = a.high * 2 ^ 64 + a.low

-- a number of so many bits has a one bit behind its first len bits
abbrev pub one_behind : ℕ → ℕ → ℕ → Bool
one_behind width value len = nat_lt 0 (value % 2 ^ (width - len))

-- the same of a number of two halves of 64 bits
abbrev pub behind_halves : ℕ → ℕ → ℕ → Bool
behind_halves high low len = cond (nat_lt len 64) (nat_lt 0 low || one_behind 64 high len) (one_behind 128 low len)
