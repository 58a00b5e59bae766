-- A report, byte for byte. Assumes nothing.
use Rattle.std.specs.Prelude.{ℕ, List, [], ◌∷◌, ◌++◌, codes, decimal}
use Rattle.report.specs.declared.row.Row.{Row}
use Rattle.report.specs.declared.row.Row.TheVariants.{Fault, Packet, Totals}
use Rattle.report.specs.Words.{dashed, fate_letter, cause_shown}

-- two words with a comma between them
abbrev pub comma : List ℕ → List ℕ → List ℕ
comma a b = a ++ (codes "," ++ b)

-- a letter, and the fields of the row
abbrev pub row_text : Row → List ℕ
row_text (Fault line number) = comma (codes "E") (comma (decimal line) (decimal number))
row_text (Packet number ingress fec fate router cause) =
    comma (codes "K")
    (comma (decimal number) (comma (decimal ingress) (comma (dashed fec) (comma (fate_letter fate) (comma (dashed router) (decimal (cause_shown cause)))))))
row_text (Totals taken delivered dropped waiting) =
    comma (codes "Z") (comma (decimal taken) (comma (decimal delivered) (comma (decimal dropped) (decimal waiting))))

-- each row, ended by byte 10
abbrev pub report_text : List Row → List ℕ
report_text [] = []
report_text (r ∷ rs) = (row_text r ++ codes "\n") ++ report_text rs
