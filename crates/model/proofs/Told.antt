-- The book and the history of a run tell the same. Assumes nothing.
use Rattle.std.proofs.Common.{◌≡◌, ℕ, ◌≤◌, true, false, eqb, ◌⊎◌, List, [], ◌∷◌, ◌++◌, map, length, Some, None, Option, sym, refl, ap, ◌∙◌, subst, inl, inr, append-nil, arith}
use Rattle.std.proofs.lemmas.Bool.{cases_eq, cond-true, cond-false, eq-eqb, ne_eqb}
use Rattle.std.proofs.lemmas.Option.{slice_get_past}
use Rattle.model.specs.declared.fate.Fate.TheVariants.{Waiting}
use Rattle.model.specs.Packets.{Record, End, at, close, settle, is_fate}
use Rattle.model.specs.Calls.{Plan, Call, own, route, inject, tell, poll, Answer, done, refused, polled, record_of}
use Rattle.model.specs.History.{Incoming, entry_of, injected, end_of}
use Rattle.model.specs.Promises.{Shows}
use Rattle.model.proofs.Books.{at_last, at_other, revise_here, revise_other}

module _ {A : Type 0} where
  -- a record with the ends of its packet: none or one
  abbrev pub Closed : Record A → List End → Type 0
  Closed x [] = Shows x []
  Closed x (d ∷ []) = Shows x (d ∷ []) × (is_fate Waiting d.fate ≡ false)
  Closed x (d ∷ d' ∷ ds) = ⊥

  pub closed_shows : (x : Record A) (es : List End) → Closed x es → Shows x es × (length es ≤ 1)
  closed_shows x es c = grind arith

  -- a packet that waits has not ended
  unended : (x : Record A) (es : List End) → is_fate Waiting x.fate ≡ true → Closed x es → es ≡ []
  unended x es w c = grind arith

  brings : (call : Call A) → (entry_of call ≡ []) ⊎ ((z : Incoming A) × (entry_of call ≡ z ∷ []))
  brings (own r f b) = inl refl
  brings (route r f h) = inl refl
  brings (inject r a t) = inr (record { ingress = r; address = a; ttl = t }, refl)
  brings (tell e) = inl refl
  brings (poll p) = inl refl

  pub none_or_one : (call : Call A) (y : Answer) → (injected call y ≡ []) ⊎ ((z : Incoming A) × (injected call y ≡ z ∷ []))
  none_or_one call (done n) = brings call
  none_or_one call (refused n) = inl refl
  none_or_one call (polled o l) = inl refl

  module _ (P : Plan A) where
    -- of packet p, what the book has, what came in, and how it ended
    abbrev pub Tells : ℕ → Option (Record A) → List (Incoming A) → List End → Type 0
    Tells p None T es = es ≡ []
    Tells p (Some x) T es =
        (x.number ≡ p) × (at T p ≡ Some (record { ingress = x.ingress; address = x.address; ttl = x.ttl }))
        × (x.fec ≡ P.lookup x.address) × Closed x es

    -- the records of packets that come in while the book has n
    abbrev pub newcomers : ℕ → List (Incoming A) → List (Record A)
    newcomers n ys = map (λ y. record_of P n y.ingress y.address y.ttl) ys

    tells_more : (p : ℕ) (o : Option (Record A)) (T T' : List (Incoming A)) (es : List End) → at T' p ≡ at T p → Tells p o T es → Tells p o T' es
    tells_more p None T T' es e t = t
    tells_more p (Some x) T T' es e t = (t.0, e ∙ t.1, t.2, t.3)

    module _ (b : List (Record A)) (T : List (Incoming A)) (es : ℕ → List End) (t : (p : ℕ) → Tells p (at b p) T (es p)) where
      -- one came in, or none
      pub tells_entered : (ys : List (Incoming A)) → (ys ≡ []) ⊎ ((z : Incoming A) × (ys ≡ z ∷ [])) → length T ≡ length b
          → (p : ℕ) → Tells p (at (b ++ newcomers (length b) ys) p) (T ++ ys) (es p)
      tells_entered ys (inl e) len p = rw e (rw (append-nil b, append-nil T) (t p))
      tells_entered ys (inr (y, e)) len p =
          let x : Record A = record_of P (length b) y.ingress y.address y.ttl in
          rw e (elim (cases_eq p (length b)) [
            | inl u ↦
                let none : es p ≡ [] = rw (slice_get_past b p (omega arith)) at (t p) in
                subst (λ z. Tells p z (T ++ y ∷ []) (es p)) (sym (ap (at (b ++ x ∷ [])) u ∙ at_last b x))
                (sym u, ap (at (T ++ y ∷ [])) (u ∙ sym len) ∙ at_last T y, refl, rw none (refl, refl, refl))
            | inr n ↦ rw (at_other b x p n) (tells_more p (at b p) T (T ++ y ∷ []) (es p) (at_other T y p (λ u. n (u ∙ len))) (t p))
          ])

      -- one that waited ended
      pub tells_ended : (d : End) (x : Record A) → at b d.packet ≡ Some x → is_fate Waiting x.fate ≡ true → is_fate Waiting d.fate ≡ false
          → (p : ℕ) → Tells p (at (settle (Some d) b) p) T (es p ++ end_of p (Some d))
      tells_ended d x px wx wd p = elim (cases_eq d.packet p) [
        | inl u ↦
            let i = d.packet in
            let t₀ : Tells i (Some x) T (es i) = subst (λ z. Tells i z T (es i)) px (t i) in
            let ended : es i ++ end_of i (Some d) ≡ d ∷ []
            = ap (λ z. z ++ end_of i (Some d)) (unended x (es i) wx t₀.3) ∙ cond-true (eqb i i) (d ∷ []) [] (eq-eqb i i refl) in
            subst (λ j. Tells j (at (settle (Some d) b) j) T (es j ++ end_of j (Some d))) u
            (rw (revise_here (close d) i b x px) (t₀.0, t₀.1, t₀.2, rw ended ((refl, refl, refl), wd)))
        | inr n ↦ rw (revise_other (close d) d.packet b p (λ u. n (sym u)))
            (subst (Tells p (at b p) T)
            (sym (ap (λ z. es p ++ z) (cond-false (eqb d.packet p) (d ∷ []) [] (ne_eqb d.packet p n)) ∙ append-nil (es p))) (t p))
      ]

      -- none ended
      pub tells_on : (p : ℕ) → Tells p (at b p) T (es p ++ [])
      tells_on p = subst (Tells p (at b p) T) (sym (append-nil (es p))) (t p)
