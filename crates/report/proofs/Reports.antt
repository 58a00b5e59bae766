-- A report that is written row by row.
use Rattle.std.proofs.Common.{◌≡◌, ℕ, ◌+◌, ◌<◌, ◌≤◌, List, [], ◌∷◌, ◌++◌, length, get_or, drop, sym, ap, ◌∙◌}
use Rattle.std.proofs.lemmas.List.{append_assoc, append-nil, at_drop_more, at_drop_all}
use Rattle.report.specs.declared.row.Row.{Row}
use Rattle.report.specs.declared.row.Row.TheVariants.{Fault}
use Rattle.report.specs.Text.{row_text, report_text}

module _ (rows : List Row) (i : ℕ) (out : List ℕ) (so_far : out ++ report_text (drop i rows) ≡ report_text rows) where
  pub report_more : (line new : List ℕ) → i < length rows → line ≡ row_text (get_or rows i (Fault 0 0)) ++ 10 ∷ [] → new ≡ out ++ line
      → new ++ report_text (drop (i + 1) rows) ≡ report_text rows
  report_more line new h e f =
      let rest : List ℕ = report_text (drop (i + 1) rows) in
      ap (λ x. x ++ rest) f ∙ append_assoc out line rest
      ∙ ap (λ x. out ++ x) (ap (λ x. x ++ rest) e ∙ sym (at_drop_more report_text rows i (Fault 0 0) h)) ∙ so_far

  pub report_all : length rows ≤ i → out ≡ report_text rows
  report_all h = sym (append-nil out) ∙ ap (λ x. out ++ x) (sym (at_drop_all report_text rows i h)) ∙ so_far
