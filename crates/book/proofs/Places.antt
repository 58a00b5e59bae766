-- What a table's places say, in the model's words.
use Rattle.std.proofs.Common.{◌≡◌, ℕ, zero, suc, ◌<◌, ◌≤◌, List, [], ◌∷◌, map, length, Some, None, Option, refl, sym, ap, ◌∙◌, le_of_suc-le-suc, not-suc-le-zero, arith}
use lib.ListN.{length-map}
use Rattle.std.proofs.lemmas.List.{same_lists}
use Rattle.model.specs.Packets.{End, at, revise, close}
use Rattle.book.specs.declared.packet.Record.{Record as Row}
use Rattle.book.specs.Records.{record_of, found_of}
use Rattle.book.specs.Tables.{Found, Ended}

pub found_at : {A : Type 0} (xs : List (Row A)) (p : ℕ) (r : Option (Row A)) → Found xs p r → found_of r ≡ at (map record_of xs) p
found_at [] p None h = refl
found_at [] p (Some x) h = absurd (not-suc-le-zero h.0)
found_at (y ∷ ys) zero None h = absurd (not-suc-le-zero h)
found_at (y ∷ ys) zero (Some x) h = ap (λ z. Some (record_of z)) h.1
found_at (y ∷ ys) (suc p) None h = found_at ys p None (le_of_suc-le-suc h)
found_at (y ∷ ys) (suc p) (Some x) h = found_at ys p (Some x) (le_of_suc-le-suc h.0, h.1)

pub revise_ended : {A : Type 0} (xs : List (Row A)) (p : ℕ) (d : End) (ys : List (Row A)) → p < length xs → Ended xs p d ys
    → map record_of ys ≡ revise (close d) p (map record_of xs)
revise_ended [] p d ys h e = absurd (not-suc-le-zero h)
revise_ended (x ∷ xs) p d [] h e = absurd (omega (arith, e.long))
revise_ended (x ∷ xs) zero d (y ∷ ys) h e =
    let same : ys ≡ xs = same_lists ys xs (omega (arith, e.long)) (λ k z l. e.others (suc k) z (λ q. omega (arith, q))) in
    ap (λ r. r ∷ map record_of ys) (e.here x) ∙ ap (λ zs. close d (record_of x) ∷ map record_of zs) same
revise_ended (x ∷ xs) (suc p) d (y ∷ ys) h e =
    ap (λ z. record_of z ∷ map record_of ys) (e.others zero x (λ q. omega (arith, q)))
    ∙ ap (λ rs. record_of x ∷ rs) (revise_ended xs p d ys (le_of_suc-le-suc h)
    (record { long = omega (arith, e.long); here = e.here; others = λ k z n. e.others (suc k) z (λ q. n (omega (arith, q))) }))

pub revise_beyond : {Y : Type 0} (f : Y → Y) (ys : List Y) (p : ℕ) → length ys ≤ p → revise f p ys ≡ ys
revise_beyond f [] p h = refl
revise_beyond f (y ∷ ys) zero h = absurd (not-suc-le-zero h)
revise_beyond f (y ∷ ys) (suc p) h = ap (λ zs. y ∷ zs) (revise_beyond f ys p (le_of_suc-le-suc h))

-- the same of the end of a packet that no record has
pub end_beyond : {A : Type 0} (xs : List (Row A)) (p : ℕ) (d : End) → length xs ≤ p → map record_of xs ≡ revise (close d) p (map record_of xs)
end_beyond xs p d h = sym (revise_beyond (close d) (map record_of xs) p (omega (arith, length-map xs record_of, h)))
