-- The lines of a wired shape are those of the wiring. Assumes nothing.
use Rattle.std.proofs.Common.{◌≡◌, ℕ, ◌<◌, ◌≤◌, Bool, true, false, cond, not, ◌&&◌, eqb, ltb, get_or, option_map, Some, None, sym, ap, ◌∙◌, ap₂, inl, inr, arith}
use Rattle.std.proofs.lemmas.Bool.{cases_Bool, ltb-true, le-ltb, cond-true, cond-false}
use Rattle.plant.specs.Plants.{Shape}
use Rattle.model.specs.Tables.{Tables, put, first, is_some, untold, free, is_leaving, on_lines_into, is_quiet, tidy, with_labels, put2}
use Rattle.model.specs.Calls.{is_this}
use Rattle.labels.specs.declared.wiring.Wiring.{Wiring}
use Rattle.labels.specs.Wirings.{Wired, end_of, leads_into, quiet_on}
use Rattle.labels.proofs.Firsts.{first_same}
use Rattle.labels.proofs.Changes.{below}

-- where a line ends
pub end_same : (w : Wiring) (S : Shape) → Wired w S → (e r : ℕ) → e < w.lines → end_of w e ≡ Some r → r ≡ (S.line e).to
end_same w S wired e r u is = let to = wired.to e (omega (arith, wired.lines)) in cc (is, to)

-- past the last line there is no end
pub no_end : (w : Wiring) (e : ℕ) → w.lines ≤ e → end_of w e ≡ None
no_end w e u = ap (option_map (λ p. p.1)) (cond-false (ltb e w.lines) (Some (get_or w.ends e (0, 0))) None (le-ltb e w.lines u))

module _ (w : Wiring) (S : Shape) (wired : Wired w S) (r : ℕ) where
  -- on a line of the wiring
  leads_same : (e : ℕ) → e < w.lines → leads_into w e r ≡ eqb (S.line e).to r
  leads_same e u = ap (λ o. is_this o r) (wired.to e (omega (arith, wired.lines)))

  -- on any line
  into_same : (e : ℕ) → (ltb e w.lines && leads_into w e r) ≡ (ltb e S.lines && eqb (S.line e).to r)
  into_same e = elim (cases_Bool (ltb e w.lines)) [
    | inl h ↦ ap₂ (λ m b. ltb e m && b) (sym wired.lines) (leads_same e (ltb-true e w.lines h))
    | inr h ↦ ap (λ b. b && leads_into w e r) h ∙ sym (ap (λ b. b && eqb (S.line e).to r) (ap (ltb e) wired.lines ∙ h))
  ]

  -- all lines are done
  pub all_changed : (l : ℕ) (c : ℕ → ℕ) (g h : ℕ → ℕ → ℕ) → ((e k : ℕ) → h e k ≡ below (λ e. leads_into w e r) l c g w.lines e k)
      → h ≡ on_lines_into S r l c g
  all_changed l c g h t = λ i e k. (t e k ∙ ap (λ b. cond b (put (g e) l (c (g e l))) (g e) k) (into_same e)) i

  module _ (l : ℕ) (t : Tables) where
    abbrev held : ℕ → Bool
    held e = not (eqb (t.stage e l) untold)

    abbrev freed : Tables
    freed = with_labels (put2 t.status r l free) t.stage t

    quiet_same : quiet_on w r l t.stage ≡ is_quiet S r l t
    quiet_same = ap (λ o. not (is_some o))
        (first_same (λ e. leads_into w e r && held e) (λ e. eqb (S.line e).to r && held e) 0 w.lines
        (λ j u v. ap (λ b. b && held j) (leads_same j (omega arith)))
        ∙ ap (λ m. first (λ e. eqb (S.line e).to r && held e) 0 m) (sym wired.lines))

    tidy_same : cond (is_leaving (t.status r l) && quiet_on w r l t.stage) freed t ≡ tidy S r l t
    tidy_same = ap (λ b. cond (is_leaving (t.status r l) && b) freed t) quiet_same

    pub tidy_frees : (is_leaving (t.status r l) && quiet_on w r l t.stage) ≡ true → freed ≡ tidy S r l t
    tidy_frees y = sym (cond-true (is_leaving (t.status r l) && quiet_on w r l t.stage) freed t y) ∙ tidy_same

    pub tidy_rests : (is_leaving (t.status r l) && quiet_on w r l t.stage) ≡ false → t ≡ tidy S r l t
    tidy_rests y = sym (cond-false (is_leaving (t.status r l) && quiet_on w r l t.stage) freed t y) ∙ tidy_same
