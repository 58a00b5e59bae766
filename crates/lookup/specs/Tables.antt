-- What a table of FECs keeps, and why one is not added. Assumes nothing.
use Rattle.std.specs.Prelude.{◌≡◌, ℕ, ◌<◌, Bool, true, false, cond, not, ◌&&◌, List, length, Some, None, Ok, Err, Option, Result, ◌==◌, nat_le, nat_lt}
use Rattle.std.specs.List.{list_any}
use Rattle.frame.specs.declared.refusal.Refusal.{Refusal}
use Rattle.frame.specs.Numbers.{refusal_number}
use Rattle.lookup.specs.declared.address.Address.{Address}
use Rattle.lookup.specs.declared.fec.Fec.{Fec}
use Rattle.lookup.specs.declared.fec.Prefix.{Prefix}
use Rattle.lookup.specs.Agreement.{one_behind}
use Rattle.lookup.specs.Fecs.{width_of, value_of, length_of, start_of, covers, fec_of}
use Rattle.lookup.specs.Matches.{fec_at}

-- the number with which a length is refused: over the width, then a one bit behind it
abbrev pub length_refusal : ℕ → ℕ → ℕ → Option ℕ
length_refusal width value len = cond (nat_lt width len) (Some 7) (cond (one_behind width value len) (Some 8) None)

-- f has the kind and length of g, and g covers its prefix
abbrev pub clash : Fec → Fec → Bool
clash g f = length_of g == length_of f && covers g (start_of f)

-- one of the FECs clashes with f
abbrev pub taken : List Fec → Fec → Bool
taken fs f = list_any (λ g. clash g f) fs

-- the number with which a FEC is refused: a void plan, its length, a full table, then a FEC that has its place
abbrev pub add_refusal : Bool → List Fec → Address → ℕ → Option ℕ
add_refusal void fs a len =
    cond void (Some 7)
    (elim (length_refusal (width_of a) (value_of a) len) [
      | Some n ↦ Some n
      | None ↦ cond (nat_le 32 (length fs)) (Some 20) (cond (taken fs (fec_of a len)) (Some 21) None)
    ])

-- a FEC's length is within its width, and no one bit is behind it
abbrev pub fits : Fec → Bool
fits f = nat_le (length_of f) (width_of (start_of f)) && not (one_behind (width_of (start_of f)) (value_of (start_of f)) (length_of f))

-- every FEC of a table fits
abbrev pub AllFit : List Fec → Type 0
AllFit fs = (k : ℕ) → k < length fs → fits (fec_at fs k) ≡ true

-- no FEC of the kind and length of another covers its prefix (agreement is symmetric, so either way round)
abbrev pub Apart : List Fec → Type 0
Apart fs = (i j : ℕ) → (i < j) × (j < length fs) → clash (fec_at fs i) (fec_at fs j) ≡ false

-- a prefix made of a start and a length of so many bits, or a refusal
abbrev pub PrefixMade : {T : Type 0} → ℕ → ℕ → T → ℕ → Result (Prefix T) Refusal → Type 0
PrefixMade width value start len (Ok p) = (length_refusal width value len ≡ None) × (p.start ≡ start) × (p.len ≡ len)
PrefixMade width value start len (Err e) = length_refusal width value len ≡ Some (refusal_number e)

-- a FEC made of an address and a length, or a refusal
abbrev pub FecMade : Address → ℕ → Result Fec Refusal → Type 0
FecMade a len (Ok f) = (length_refusal (width_of a) (value_of a) len ≡ None) × (f ≡ fec_of a len)
FecMade a len (Err e) = length_refusal (width_of a) (value_of a) len ≡ Some (refusal_number e)
