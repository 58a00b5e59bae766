-- The book as the model's list of records. Assumes nothing.
use Rattle.std.specs.Prelude.{List, map, vec_items}
use Rattle.model.specs.Packets.{Record}
use Rattle.book.specs.declared.book.Book.{Book}
use Rattle.book.specs.Records.{record_of}

-- the records of the book, that of packet p at place p
abbrev pub book_of : {A : Type 0} → Book A → List (Record A)
book_of b = map record_of (vec_items b.table.records)
