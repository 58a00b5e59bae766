-- Looking through a table for a FEC of one kind and length that covers a prefix, and adding one. Assumes nothing.
use Rattle.std.proofs.Common.{◌≡◌, ℕ, ◌+◌, ◌<◌, Bool, true, false, ◌||◌, List, [], ◌∷◌, ◌++◌, length, drop, None, sym, refl, ap, ap₂, ◌∙◌, subst, below_more, arith}
use Rattle.std.proofs.lemmas.List.Folds.{list_any_at}
use Rattle.std.proofs.lemmas.List.{drop_more, get_or_append_left, get_or_push, length_push}
use Rattle.std.proofs.lemmas.Bool.Decides.{nat_tests}
use Rattle.lookup.specs.declared.address.Address.{Address}
use Rattle.lookup.specs.declared.address.Address.TheVariants.{V4 as addr4, V6 as addr6}
use Rattle.lookup.specs.declared.fec.Fec.{Fec}
use Rattle.lookup.specs.Fecs.{width_of, value_of, fec_of, no_fec}
use Rattle.lookup.specs.Matches.{fec_at}
use Rattle.lookup.specs.Tables.{clash, taken, fits, AllFit, Apart, length_refusal}

-- the rest of a table from a place on
module _ (fs : List Fec) (f : Fec) (i : ℕ) (h : i < length fs) where
  opened : taken (drop i fs) f ≡ (clash (fec_at fs i) f || taken (drop (i + 1) fs) f)
  opened = ap (λ xs. taken xs f) (drop_more fs i no_fec h)

  pub taken_here : (r : Bool) → r ≡ clash (fec_at fs i) f → r ≡ true → taken (drop i fs) f ≡ true
  taken_here r q e = opened ∙ ap (λ b. b || taken (drop (i + 1) fs) f) (sym q ∙ e)

  pub taken_past : (r : Bool) → r ≡ clash (fec_at fs i) f → r ≡ false → taken (drop (i + 1) fs) f ≡ taken (drop i fs) f
  taken_past r q e = sym (opened ∙ ap (λ b. b || taken (drop (i + 1) fs) f) (sym q ∙ e))

-- what is not taken clashes with none
no_clash : (fs : List Fec) (f : Fec) (i : ℕ) → i < length fs → taken fs f ≡ false → clash (fec_at fs i) f ≡ false
no_clash fs f i h e =
    elim (clash (fec_at fs i) f) as (λ b. clash (fec_at fs i) f ≡ b → b ≡ false) [
      | true ↦ λ q. cc (list_any_at (λ g. clash g f) fs i no_fec h q)
      | false ↦ λ _. refl
    ] refl

module _ (fs : List Fec) (f : Fec) where
  abbrev more : List Fec
  more = fs ++ f ∷ []

  old : (k : ℕ) → k < length fs → fec_at more k ≡ fec_at fs k
  old k h = get_or_append_left fs (f ∷ []) no_fec k h

  new : fec_at more (length fs) ≡ f
  new = get_or_push fs f no_fec (length fs) refl

  -- what holds of each place of the table and of the new one
  each : (P : ℕ → Type 0) → ((k : ℕ) → k < length fs → P k) → P (length fs) → (k : ℕ) → k < length more → P k
  each P a b k h = below_more P (length fs) a b k (omega (arith, length_push fs f))

  pub fit_push : AllFit fs → fits f ≡ true → AllFit more
  fit_push a b = each (λ k. fits (fec_at more k) ≡ true) (λ k l. ap fits (old k l) ∙ a k l) (ap fits new ∙ b)

  pub apart_push : Apart fs → taken fs f ≡ false → Apart more
  apart_push a t i j p =
      each (λ k. i < k → clash (fec_at more i) (fec_at more k) ≡ false)
      (λ k l h. let o : i < length fs = omega arith in ap₂ clash (old i o) (old k l) ∙ a i k (h, l))
      (λ h. ap₂ clash (old i h) new ∙ no_clash fs f i h t)
      j p.1 p.0

pub fits_made : (a : Address) (n : ℕ) → length_refusal (width_of a) (value_of a) n ≡ None → fits (fec_of a n) ≡ true
fits_made (addr4 a) n e = grind (arith, nat_tests)
fits_made (addr6 a) n e = grind (arith, nat_tests)

-- what a table keeps, it keeps when a FEC is added
pub add_keeps : (fs xs gs : List Fec) (f : Fec) (a : Address) (n : ℕ) (t : Bool) → xs ≡ fs → t ≡ taken xs f → t ≡ false
    → (length_refusal (width_of a) (value_of a) n ≡ None) × (f ≡ fec_of a n) → gs ≡ fs ++ f ∷ [] → AllFit fs → Apart fs → AllFit gs × Apart gs
add_keeps fs xs gs f a n t v e l m g fit apart =
    let free : taken fs f ≡ false = ap (λ ys. taken ys f) (sym v) ∙ sym e ∙ l in
    (subst AllFit (sym g) (fit_push fs f fit (ap fits m.1 ∙ fits_made a n m.0)), subst Apart (sym g) (apart_push fs f apart free))
