-- Rows laid one link after another. Assumes nothing.
use Rattle.std.proofs.Common.{◌≡◌, ℕ, zero, suc, ◌+◌, ◌*◌, ◌/◌, ◌%◌, ◌<◌, ◌≤◌, Bool, true, false, cond, eqb, ltb, ◌≢◌, List, [], length, set, replicate, sym, refl, ap, ◌∙◌, subst, ⊎_elim, add-one, arith, length-set, get_or-set_other, get_or-set_same}
use Rattle.std.proofs.lemmas.Bool.{cases_eq, cases_lt, cond-true, cond-false, lt-ltb, le-ltb, eq-eqb, ne_eqb}
use Rattle.std.proofs.lemmas.List.{get_or_past}
use Rattle.frame.specs.declared.frame.Frame.{Frame}
use Rattle.plant.specs.Plants.{Line}
use Rattle.ring.specs.declared.row.Row.{Row}
use Rattle.ring.specs.declared.link.Link.{Link}
use Rattle.ring.specs.Rows.{no_row, row_at, row_line}
use Rattle.ring.specs.Links.{no_link, link_at, taken, no_line, line_of, bare_shape, link_shape, none_waits}
use Rattle.ring.specs.Order.{RingOk, RowOk, ring_shape, ring_lists}
use Rattle.ring.specs.Laid.{Laid}
use Rattle.ring.proofs.Scans.{LinkOk}
use Rattle.ring.specs.Steps.{bare, past}

pub taken_more : (links : List Link) (i : ℕ) → taken links (i + 1) ≡ taken links i + 2 * (link_at links i).cap
taken_more links i = ap (taken links) (add-one i)

module _ (rows : List Row) (i size : ℕ) (k : Link) (laid : Laid rows (2 * i) size) (ok : LinkOk k) (room : 2 * i + 1 < length rows) where
  abbrev one : Row
  one = record { from = k.a; to = k.b; cap = k.cap; base = size; head = 0; len = 0 }

  abbrev two : Row
  two = record { from = k.b; to = k.a; cap = k.cap; base = size + k.cap; head = 0; len = 0 }

  abbrev rows' : List Row
  rows' = set (set rows (2 * i) one) (2 * i + 1) two

  at_two : row_at rows' (2 * i + 1) ≡ two
  at_two = get_or-set_same (set rows (2 * i) one) (2 * i + 1) two no_row (let a = length-set rows (2 * i) one in omega arith)

  at_one : row_at rows' (2 * i) ≡ one
  at_one = get_or-set_other (set rows (2 * i) one) (2 * i + 1) (2 * i) two no_row (let z : 2 * i ≢ 2 * i + 1 = omega arith in z) ∙ get_or-set_same rows (2 * i) one no_row (omega arith)

  at_low : (l : ℕ) → l < 2 * i → row_at rows' l ≡ row_at rows l
  at_low l lt =
      get_or-set_other (set rows (2 * i) one) (2 * i + 1) l two no_row (let z : l ≢ 2 * i + 1 = omega arith in z)
      ∙ get_or-set_other rows (2 * i) l one no_row (let z : l ≢ 2 * i = omega arith in z)

  -- what holds of the rows before and of the two new ones holds of each
  each : (P : ℕ → Row → Type 0) → ((l : ℕ) → l < 2 * i → P l (row_at rows l)) → P (2 * i) one → P (2 * i + 1) two → (l : ℕ) → l < 2 * (i + 1) → P l (row_at rows' l)
  each P h p q l lt =
      ⊎_elim (λ b. subst (P l) (sym (at_low l b)) (h l b))
      (λ le. ⊎_elim (λ e. subst (λ n. P n (row_at rows' n)) (sym e) (subst (P (2 * i)) (sym at_one) p))
      (λ ne. let e : l ≡ 2 * i + 1 = omega arith in subst (λ n. P n (row_at rows' n)) (sym e) (subst (P (2 * i + 1)) (sym at_two) q)) (cases_eq l (2 * i)))
      (cases_lt l (2 * i))

  more : (r : Row) → RowOk r size → RowOk r (size + 2 * k.cap)
  more r o = let a = o.inside in record { apart = o.apart; cap_least = o.cap_least; cap_most = o.cap_most; head = o.head; len = o.len; inside = omega arith }

  pub laid_more : Laid rows' (2 * (i + 1)) (size + 2 * k.cap)
  laid_more = record {
    row = each (λ _ r. RowOk r (size + 2 * k.cap)) (λ l lt. more (row_at rows l) (laid.row l lt))
        (let c = ok.cap_least in record { apart = ok.apart; cap_least = ok.cap_least; cap_most = ok.cap_most; head = omega arith; len = omega arith; inside = omega arith })
        (let c = ok.cap_least in record { apart = λ e. ok.apart (sym e); cap_least = ok.cap_least; cap_most = ok.cap_most; head = omega arith; len = omega arith; inside = omega arith });
    still = each (λ _ r. r.len ≡ 0) laid.still refl refl;
    tiles = λ a l al lt. each (λ n r. (b : ℕ) → b < n → (row_at rows' b).base + (row_at rows' b).cap ≤ r.base)
        (λ n nt b bn. subst (λ r. r.base + r.cap ≤ (row_at rows n).base) (sym (at_low b (omega arith))) (laid.tiles b n bn nt))
        (λ b bn. subst (λ r. r.base + r.cap ≤ size) (sym (at_low b bn)) (laid.row b bn).inside)
        (λ b bn. ⊎_elim (λ e. subst (λ n. (row_at rows' n).base + (row_at rows' n).cap ≤ size + k.cap) (sym e) (subst (λ r. r.base + r.cap ≤ size + k.cap) (sym at_one) (omega arith)))
        (λ ne. let bt : b < 2 * i = omega arith in subst (λ r. r.base + r.cap ≤ size + k.cap) (sym (at_low b bt)) (let a₁ = (laid.row b bt).inside in omega arith)) (cases_eq b (2 * i)))
        l lt a al;
    partners = λ a lt. ⊎_elim
        (λ b. let q = laid.partners a b in let e₁ = at_low (2 * a) (omega arith) in let e₂ = at_low (2 * a + 1) b in
        (ap (λ (r : Row). r.from) e₁ ∙ q.0 ∙ sym (ap (λ (r : Row). r.to) e₂), ap (λ (r : Row). r.to) e₁ ∙ q.1 ∙ sym (ap (λ (r : Row). r.from) e₂)))
        (λ le. let e : a ≡ i = omega arith in
        subst (λ n. ((row_at rows' (2 * n)).from ≡ (row_at rows' (2 * n + 1)).to) × ((row_at rows' (2 * n)).to ≡ (row_at rows' (2 * n + 1)).from)) (sym e)
        (ap (λ (r : Row). r.from) at_one ∙ sym (ap (λ (r : Row). r.to) at_two), ap (λ (r : Row). r.to) at_one ∙ sym (ap (λ (r : Row). r.from) at_two)))
        (cases_lt (2 * a + 1) (2 * i));
  }

pub laid_none : (rows : List Row) → Laid rows (2 * 0) 0
laid_none rows = record {
  row = λ l lt. absurd (omega arith);
  still = λ l lt. absurd (omega arith);
  tiles = λ k l a lt. absurd (omega arith);
  partners = λ k lt. absurd (omega arith);
}

-- rows that are laid within the places make a ring plant
pub laid_ring : (rows : List Row) (m size : ℕ) (items : List Frame) → Laid rows (2 * m) size → size ≤ length items → 2 * m ≤ 32 → length rows ≡ 32 → RingOk rows (2 * m) items
laid_ring rows m size items laid fits few wide = record {
  few = few;
  wide = omega arith;
  even = omega arith;
  row = λ l lt. let o = laid.row l lt in let i = o.inside in record { apart = o.apart; cap_least = o.cap_least; cap_most = o.cap_most; head = o.head; len = o.len; inside = omega arith };
  tiles = laid.tiles;
  partners = laid.partners;
}

-- and no rows at all do
pub bare_ring : (rows : List Row) (items : List Frame) → RingOk rows 0 items
bare_ring rows items = record {
  few = omega arith;
  wide = omega arith;
  even = refl;
  row = λ l lt. absurd (omega arith);
  tiles = λ k l a lt. absurd (omega arith);
  partners = λ k lt. absurd (omega arith);
}

-- the lines of the first i links
abbrev pub line_to : List Link → ℕ → ℕ → Line
line_to links i l = cond (ltb (l / 2) i) (line_of links l) no_line

pub bare_rows : (r : Row) → row_line r ≡ no_line → (n k : ℕ) → row_line (row_at (replicate n r) k) ≡ no_line
bare_rows r e zero k = refl
bare_rows r e (suc n) zero = e
bare_rows r e (suc n) (suc k) = bare_rows r e n k

pub lines_none : (links : List Link) (k : ℕ) → line_to links 0 k ≡ no_line
lines_none links k = cond-false (ltb (k / 2) 0) (line_of links k) no_line (le-ltb (k / 2) 0 (omega arith))

pub lines_all : (links : List Link) (k : ℕ) → line_to links (length links) k ≡ line_of links k
lines_all links k = ⊎_elim (λ lt. cond-true (ltb (k / 2) (length links)) (line_of links k) no_line (lt-ltb (k / 2) (length links) lt))
    (λ le. cond-false (ltb (k / 2) (length links)) (line_of links k) no_line (le-ltb (k / 2) (length links) le)
    ∙ sym (ap (λ (x : Link). cond (eqb (k % 2) 0) (record { from = x.a; to = x.b; cap = x.cap; span = 1 }) (record { from = x.b; to = x.a; cap = x.cap; span = 1 })) (get_or_past links (k / 2) no_link le) ∙ both (eqb (k % 2) 0)))
    (cases_lt (k / 2) (length links))
  where
    both : (b : Bool) → cond b no_line no_line ≡ no_line
    both true = refl
    both false = refl

module _ (links : List Link) (i : ℕ) (rows : List Row) (size : ℕ) (room : 2 * i + 1 < length rows) where
  abbrev k : Link
  k = link_at links i

  abbrev first : Row
  first = record { from = k.a; to = k.b; cap = k.cap; base = size; head = 0; len = 0 }

  abbrev second : Row
  second = record { from = k.b; to = k.a; cap = k.cap; base = size + k.cap; head = 0; len = 0 }

  pub lines_more : ((l : ℕ) → row_line (row_at rows l) ≡ line_to links i l) → (l : ℕ) → row_line (row_at (set (set rows (2 * i) first) (2 * i + 1) second) l) ≡ line_to links (i + 1) l
  lines_more h l = ⊎_elim one (λ n₁. ⊎_elim two (λ n₂. other n₁ n₂) (cases_eq l (2 * i + 1))) (cases_eq l (2 * i))
    where
      one : l ≡ 2 * i → row_line (row_at (set (set rows (2 * i) first) (2 * i + 1) second) l) ≡ line_to links (i + 1) l
      one e =
          let half : l / 2 ≡ i = omega arith in
          ap (λ n. row_line (row_at (set (set rows (2 * i) first) (2 * i + 1) second) n)) e
          ∙ ap row_line (get_or-set_other (set rows (2 * i) first) (2 * i + 1) (2 * i) second no_row (let z : 2 * i ≢ 2 * i + 1 = omega arith in z) ∙ get_or-set_same rows (2 * i) first no_row (omega arith))
          ∙ sym (cond-true (ltb (l / 2) (i + 1)) (line_of links l) no_line (lt-ltb (l / 2) (i + 1) (omega arith))
          ∙ cond-true (eqb (l % 2) 0) _ _ (eq-eqb (l % 2) 0 (omega arith))
          ∙ ap (λ n. record { from = (link_at links n).a; to = (link_at links n).b; cap = (link_at links n).cap; span = 1 }) half)

      two : l ≡ 2 * i + 1 → row_line (row_at (set (set rows (2 * i) first) (2 * i + 1) second) l) ≡ line_to links (i + 1) l
      two e =
          let half : l / 2 ≡ i = omega arith in
          ap (λ n. row_line (row_at (set (set rows (2 * i) first) (2 * i + 1) second) n)) e
          ∙ ap row_line (get_or-set_same (set rows (2 * i) first) (2 * i + 1) second no_row (let a = length-set rows (2 * i) first in omega arith))
          ∙ sym (cond-true (ltb (l / 2) (i + 1)) (line_of links l) no_line (lt-ltb (l / 2) (i + 1) (omega arith))
          ∙ cond-false (eqb (l % 2) 0) _ _ (ne_eqb (l % 2) 0 (let z : l % 2 ≢ 0 = omega arith in z))
          ∙ ap (λ n. record { from = (link_at links n).b; to = (link_at links n).a; cap = (link_at links n).cap; span = 1 }) half)

      tests : l ≢ 2 * i → l ≢ 2 * i + 1 → ltb (l / 2) i ≡ ltb (l / 2) (i + 1)
      tests n₁ n₂ = ⊎_elim (λ lt. lt-ltb (l / 2) i lt ∙ sym (lt-ltb (l / 2) (i + 1) (omega arith))) (λ le. le-ltb (l / 2) i le ∙ sym (le-ltb (l / 2) (i + 1) (omega arith))) (cases_lt (l / 2) i)

      other : l ≢ 2 * i → l ≢ 2 * i + 1 → row_line (row_at (set (set rows (2 * i) first) (2 * i + 1) second) l) ≡ line_to links (i + 1) l
      other n₁ n₂ =
          ap row_line (get_or-set_other (set rows (2 * i) first) (2 * i + 1) l second no_row n₂ ∙ get_or-set_other rows (2 * i) l first no_row n₁)
          ∙ h l ∙ ap (λ b. cond b (line_of links l) no_line) (tests n₁ n₂)

pub bare_lists : (rows : List Row) (items : List Frame) → ring_lists rows 0 items ≡ none_waits
bare_lists rows items = λ i l. past rows 0 items l (omega arith) i

pub laid_lists : (rows : List Row) (n size : ℕ) (items : List Frame) → Laid rows n size → ring_lists rows n items ≡ none_waits
laid_lists rows n size items laid = λ i l. each_bare l i
  where
    each_bare : (l : ℕ) → ring_lists rows n items l ≡ []
    each_bare l = ⊎_elim (λ lt. bare rows n items l lt (laid.still l lt)) (λ le. past rows n items l le) (cases_lt l n)

pub ring_shape-bare : (r : Row) → row_line r ≡ no_line → ring_shape (replicate 32 r) 0 ≡ bare_shape
ring_shape-bare r e = λ i. record { lines = 0; line = λ l. bare_rows r e 32 l i; ports = 0; kept = 1048576; depth = 8 }

pub laid_shape : (links : List Link) (rows : List Row) → ((l : ℕ) → row_line (row_at rows l) ≡ line_of links l) → ring_shape rows (2 * length links) ≡ link_shape links
laid_shape links rows h = λ i. record { lines = 2 * length links; line = λ l. h l i; ports = 2 * length links; kept = 1048576; depth = 8 }
