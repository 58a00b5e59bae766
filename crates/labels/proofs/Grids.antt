-- An element written into a flat array is one place of the table by labels changed. Assumes nothing.
use Rattle.std.proofs.Common.{◌≡◌, ℕ, ◌+◌, ◌-◌, ◌*◌, ◌<◌, ◌≤◌, List, length, set}
use Rattle.model.specs.Tables.{put2}
use Rattle.labels.specs.Arrays.{by_label}
use Rattle.grid.proofs.Cells.{grid_at-put}

pub by_label-put : {X : Type 0} (n : ℕ) (d : X) (xs : List X) (i l : ℕ) (x : X) → i < n → 16 ≤ l → l < 80 → i * 64 + (l - 16) < length xs
    → by_label n d (set xs (i * 64 + (l - 16)) x) ≡ put2 (by_label n d xs) i l x
by_label-put n d xs i l x row least most room = grid_at-put n 16 80 d xs i l x row least most room
