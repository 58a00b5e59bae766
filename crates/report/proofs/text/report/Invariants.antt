use Rattle.std.proofs.Common.{◌≡◌, ◌++◌, drop, string_bytes}
use Rattle.report.specs.Text.{report_text}
use Rattle.report.proofs.text.report.Given as goal

-- what is written, and what the rows that are left will add, make the report
abbrev pub invariant-loop-row : goal.invariant-loop-row
invariant-loop-row l = string_bytes l.text ++ report_text (drop l.row-index l.rows) ≡ report_text l.rows
