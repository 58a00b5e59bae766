-- How many records have a fate, counted in the model and in the table.
use Rattle.std.proofs.Common.{◌≡◌, List, map, refl, rules}
use Rattle.std.specs.List.{count_by}
use Rattle.std.proofs.lemmas.List.Recursion.{is_count_by}
use Rattle.model.specs.declared.fate.Fate.{Fate}
use Rattle.model.specs.Packets.{is_fate}
use Rattle.model.specs.Promises.{count}
use Rattle.book.specs.declared.packet.Record.{Record as Row}
use Rattle.book.specs.Records.{record_of}

pub count_of_map : {A : Type 0} (o : Fate) (xs : List (Row A)) → count o (map record_of xs) ≡ count_by (λ x. is_fate o x.fate) xs
count_of_map o xs = is_count_by (λ zs. count o (map record_of zs)) (λ x. is_fate o x.fate) refl (λ x zs. search rules) xs
