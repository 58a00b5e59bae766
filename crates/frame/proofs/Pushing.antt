-- What it takes that no rule of a push is broken, and that a push keeps the rules. Assumes nothing.
use Rattle.std.proofs.Common.{◌≡◌, ℕ, ◌+◌, ◌<◌, Bool, true, false, cond, leb, List, length, get_or, set, Some, None, Option, sym, refl, subst, arith, below_more}
use Rattle.std.proofs.lemmas.List.{get_or-set_same, get_or-set_other}
use Rattle.std.proofs.lemmas.Bool.{leb-false}
use Rattle.frame.specs.declared.entry.Entry.{Entry}
use Rattle.frame.specs.Labels.{allowed, narrow, no_entry, Stands, Keeps}
use Rattle.frame.specs.Stacks.{push_refusal}

-- an entry that no rule refuses
pub record Fits (es : List Entry) (e : Entry) : Type 0 where
  pub room : length es < 8
  pub stands : Stands (length es) e

pub push_fits : (es : List Entry) (e : Entry) → push_refusal es e ≡ None → Fits es e
push_fits es e h = go (leb 8 (length es)) (allowed (length es) e.label) (narrow e) refl refl refl h
  where
    never : (n : ℕ) → Some n ≡ None → ⊥
    never n q = let z : ◌≡◌ {A = ℕ} 0 1 = cc in omega arith

    go : (full may thin : Bool) → leb 8 (length es) ≡ full → allowed (length es) e.label ≡ may → narrow e ≡ thin
        → cond {A = Option ℕ} full (Some 2) (cond may (cond thin None (Some 7)) (Some 3)) ≡ None → Fits es e
    go true may thin _ _ _ q = absurd (never 2 q)
    go false false thin _ _ _ q = absurd (never 3 q)
    go false true false _ _ _ q = absurd (never 7 q)
    go false true true f m t _ = record { room = leb-false 8 (length es) f; stands = (m, t) }

pub keeps_push : (n : ℕ) (es : List Entry) (e : Entry) → n < length es → Keeps n es → Stands n e → Keeps (n + 1) (set es n e)
keeps_push n es e h old new =
    below_more (λ k. Stands k (get_or (set es n e) k no_entry)) n
    (λ k l. subst (Stands k) (sym (get_or-set_other es n k e no_entry (omega arith))) (old k l))
    (subst (Stands n) (sym (get_or-set_same es n e no_entry h)) new)
