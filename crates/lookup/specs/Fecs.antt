-- Addresses and FECs of both kinds, and which FEC covers which address. Assumes nothing.
use Rattle.std.specs.Prelude.{ℕ, Bool, false, Some, None, Option, nat_le}
use Rattle.lookup.specs.declared.address.Ipv4.{Ipv4}
use Rattle.lookup.specs.declared.address.Ipv6.{Ipv6}
use Rattle.lookup.specs.declared.address.Address.{Address}
use Rattle.lookup.specs.declared.address.Address.TheVariants.{V4 as addr4, V6 as addr6}
use Rattle.lookup.specs.declared.fec.Prefix.{Prefix}
use Rattle.lookup.specs.declared.fec.Fec.{Fec}
use Rattle.lookup.specs.declared.fec.Fec.TheVariants.{V4 as fec4, V6 as fec6}
use Rattle.lookup.specs.Agreement.{agree4, agree6, value6}

-- the address of 32 bits
abbrev pub of_ipv4 : ℕ → Address
of_ipv4 x = addr4 (record { bits = x })

-- the address of 64 high and 64 low bits
abbrev pub of_ipv6 : ℕ → ℕ → Address
of_ipv6 h l = addr6 (record { high = h; low = l })

-- the number of bits of an address of its kind
abbrev pub width_of : Address → ℕ
width_of (addr4 a) = 32
width_of (addr6 a) = 128

-- the bits of an address as one number
abbrev pub value_of : Address → ℕ
value_of (addr4 a) = a.bits
value_of (addr6 a) = value6 a

-- the length of a FEC in bits
abbrev pub length_of : Fec → ℕ
length_of (fec4 p) = p.len
length_of (fec6 p) = p.len

-- the prefix of a FEC as an address
abbrev pub start_of : Fec → Address
start_of (fec4 p) = addr4 p.start
start_of (fec6 p) = addr6 p.start

-- the FEC of an address and a length
abbrev pub fec_of : Address → ℕ → Fec
fec_of (addr4 a) n = fec4 (record { start = a; len = n })
fec_of (addr6 a) n = fec6 (record { start = a; len = n })

-- the prefix of a FEC of the one kind or the other
abbrev pub held4 : Fec → Option (Prefix Ipv4)
held4 (fec4 p) = Some p
held4 (fec6 p) = None

abbrev pub held6 : Fec → Option (Prefix Ipv6)
held6 (fec4 p) = None
held6 (fec6 p) = Some p

-- a FEC covers an address of its kind that agrees with its prefix in at least as many bits as it is long
abbrev pub covers_by : {T : Type 0} → (T → T → ℕ) → (Fec → Option (Prefix T)) → T → Fec → Bool
covers_by agrees held x f = elim (held f) [ Some p ↦ nat_le p.len (agrees p.start x) | None ↦ false ]

-- a FEC covers an address, of either kind; never one of the other kind
abbrev pub covers : Fec → Address → Bool
covers f (addr4 x) = covers_by agree4 held4 x f
covers f (addr6 x) = covers_by agree6 held6 x f

-- what an empty place of a table reads as
abbrev pub no_fec : Fec
no_fec = fec4 (record { start = record { bits = 0 }; len = 0 })
