-- What the grids of routes, remote labels and due releases stand for. Assumes nothing.
use Rattle.std.specs.Prelude.{ℕ, Bool, false, List, Some, None, Option}
use Rattle.model.specs.Tables.{first_label, is_some, the}
use Rattle.grid.specs.Grids.{grid_at}
use Rattle.labels.specs.Arrays.{by_label}
use Rattle.tables.specs.declared.routes.Routes.{Routes}
use Rattle.tables.specs.declared.remotes.Remotes.{Remotes}
use Rattle.tables.specs.declared.releases.Releases.{Releases}

-- a grid of n rows with a place for each of 32 FECs; outside it, d
abbrev pub by_fec : {X : Type 0} → ℕ → X → List X → ℕ → ℕ → X
by_fec n d = grid_at n 0 32 d

-- router, FEC: the owner mark
abbrev pub owners_of : Routes → ℕ → ℕ → Bool
owners_of s = by_fec 16 false s.owner.cells

-- router, FEC: the line of the next hop
abbrev pub hops_of : Routes → ℕ → ℕ → Option ℕ
hops_of s = by_fec 16 None s.next.cells

-- line, FEC: the remote label
abbrev pub remotes_of : Remotes → ℕ → ℕ → Option ℕ
remotes_of s = by_fec 48 None s.learned.cells

-- line, label: the FEC of the release that is due
abbrev pub dues_of : Releases → ℕ → ℕ → Option ℕ
dues_of s = by_label 48 None s.due.cells

-- the smallest label for which there is something, with it
abbrev pub with_it : (ℕ → Option ℕ) → Option ℕ → Option (ℕ × ℕ)
with_it g None = None
with_it g (Some l) = Some (l, the (g l))

abbrev pub first_due : (ℕ → Option ℕ) → Option (ℕ × ℕ)
first_due g = with_it g (first_label (λ l. is_some (g l)))
