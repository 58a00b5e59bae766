-- Kinds and refusals in print, byte for byte. Assumes nothing.
use Rattle.std.specs.Prelude.{ℕ, List, ◌++◌, codes, decimal}
use Rattle.frame.specs.declared.refusal.Refusal.{Refusal}
use Rattle.frame.specs.declared.kind.Kind.{Kind}
use Rattle.frame.specs.declared.kind.Kind.TheVariants.{Data, Mapping, Withdraw, Release}
use Rattle.frame.specs.Numbers.{refusal_number}

abbrev pub kind_text : Kind → List ℕ
kind_text Data = codes "data"
kind_text Mapping = codes "mapping"
kind_text Withdraw = codes "withdraw"
kind_text Release = codes "release"

-- the number of a refusal is what a reader looks up
abbrev pub refusal_text : Refusal → List ℕ
refusal_text r = codes "refused with " ++ decimal (refusal_number r)
