-- What a wiring says of lines. Assumes nothing.
use Rattle.std.specs.Prelude.{◌≡◌, ℕ, ◌+◌, ◌<◌, Bool, true, cond, not, ◌&&◌, Some, None, Option, ◌==◌, nat_lt, slice_index_or, option_map}
use Rattle.plant.specs.Plants.{Shape}
use Rattle.model.specs.Tables.{first, is_some, untold}
use Rattle.model.specs.Calls.{is_this}
use Rattle.labels.specs.declared.wiring.Wiring.{Wiring}

-- where line e begins and ends
abbrev pub ends_of : Wiring → ℕ → Option (ℕ × ℕ)
ends_of w e = cond (nat_lt e w.lines) (Some (slice_index_or w.ends e (0, 0))) None

-- where line e begins
abbrev pub begin_of : Wiring → ℕ → Option ℕ
begin_of w e = option_map (λ p. p.0) (ends_of w e)

-- where line e ends
abbrev pub end_of : Wiring → ℕ → Option ℕ
end_of w e = option_map (λ p. p.1) (ends_of w e)

-- line e ends at r
abbrev pub leads_into : Wiring → ℕ → ℕ → Bool
leads_into w e r = is_this (end_of w e) r

-- w is v with one line more, the last, if v has fewer than 48
pub record Adds (v : Wiring) (a b : ℕ) (added : Bool) (w : Wiring) : Type 0 where
  pub room : added ≡ nat_lt v.lines 48
  pub lines : w.lines ≡ cond added (v.lines + 1) v.lines
  pub begin : added ≡ true → begin_of w v.lines ≡ Some a
  pub end : added ≡ true → end_of w v.lines ≡ Some b
  pub begins : (e : ℕ) → e < v.lines → begin_of w e ≡ begin_of v e
  pub ends : (e : ℕ) → e < v.lines → end_of w e ≡ end_of v e

-- the lines of a plant's shape are those of the wiring: as many, and each begins and ends where the wiring says
pub record Wired (w : Wiring) (S : Shape) : Type 0 where
  pub lines : S.lines ≡ w.lines
  pub from : (e : ℕ) → e < S.lines → begin_of w e ≡ Some (S.line e).from
  pub to : (e : ℕ) → e < S.lines → end_of w e ≡ Some (S.line e).to

-- on no line into r has l a stage
abbrev pub quiet_on : Wiring → ℕ → ℕ → (ℕ → ℕ → ℕ) → Bool
quiet_on w r l sg = not (is_some (first (λ e. leads_into w e r && not (sg e l == untold)) 0 w.lines))
