-- What one line sees of the tables and of the frames on their way. Assumes nothing.
use Rattle.std.proofs.Common.{◌≡◌, ℕ, suc, ◌⊎◌, List, [], ◌∷◌, Some, None, Option, sym, refl, ap, ◌∙◌, inl, inr, arith}
use mathlib.Core.Path.{transport}
use Rattle.std.specs.List.{flat_map}
use Rattle.std.proofs.lemmas.Bool.{cases_eq}
use Rattle.std.proofs.lemmas.Bool.Decides.{nat_tests}
use Rattle.plant.specs.Plants.{Shape, partner}
use Rattle.model.specs.Tables.{Tables, Status, free, bound, leaving, put, put2, fec_of}
use Rattle.model.proofs.Logical.{Note, Good, Item, release, packet, note, good}
use Rattle.model.proofs.Lists.{Put, hit}
use Rattle.model.proofs.Link.{View, Link}

pub put_here : {X : Type 0} (g : ℕ → X) (k : ℕ) (x : X) (j : ℕ) → j ≡ k → put g k x j ≡ x
put_here g k x j e = grind (arith, nat_tests)

pub put_there : {X : Type 0} (g : ℕ → X) (k : ℕ) (x : X) (j : ℕ) → (j ≡ k → ⊥) → put g k x j ≡ g j
put_there g k x j n = grind (arith, nat_tests)

-- what F does not see
pub put_unseen : {X Y : Type 0} (F : X → Y) (g : ℕ → X) (k : ℕ) (x : X) → F x ≡ F (g k) → (j : ℕ) → F (put g k x j) ≡ F (g j)
put_unseen F g k x e j = elim (cases_eq j k) [
  | inl h ↦ ap F (put_here g k x j h) ∙ e ∙ ap (λ i. F (g i)) (sym h)
  | inr n ↦ ap F (put_there g k x j n)
]

pub put-Put : {X : Type 0} (F : X → ℕ) (g : ℕ → X) (k : ℕ) (x : X) → Put (λ j. F (g j)) (λ j. F (put g k x j)) k (F x)
put-Put F g k x j = grind (arith, nat_tests)

pub put2_tells : {X : Type 0} (g : ℕ → ℕ → X) (i k : ℕ) (x : X) (i' k' : ℕ)
    → ((i' ≡ i) × (k' ≡ k) × (put2 g i k x i' k' ≡ x)) ⊎ (((i' ≡ i → ⊥) ⊎ (k' ≡ k → ⊥)) × (put2 g i k x i' k' ≡ g i' k'))
put2_tells g i k x i' k' = grind (arith, nat_tests)

-- a table changed at one place, where a fact of the new element and of all old ones is asked for
pub put2_all : {X : Type 0} (Q : ℕ → ℕ → X → Type 0) (g : ℕ → ℕ → X) (i k : ℕ) (x : X) → Q i k x → ((i' k' : ℕ) → Q i' k' (g i' k'))
    → (i' k' : ℕ) → Q i' k' (put2 g i k x i' k')
put2_all Q g i k x a b i' k' = elim (put2_tells g i k x i' k') [
  | inl t ↦ rw (t.2, t.0, t.1) a
  | inr t ↦ rw t.1 (b i' k')
]

abbrev pub note_in : Item → List Note
note_in (note n) = n ∷ []
note_in (good g) = []

abbrev pub good_in : Item → List Good
good_in (note n) = []
good_in (good g) = g ∷ []

abbrev pub notes_of : List Item → List Note
notes_of xs = flat_map note_in xs

abbrev pub goods_of : List Item → List Good
goods_of xs = flat_map good_in xs

-- how often a packet is carried
abbrev pub carries : ℕ → Item → ℕ
carries p (note n) = 0
carries p (good (release f l)) = 0
carries p (good (packet o l t)) = hit o p

abbrev pub num : Option ℕ → ℕ
num None = 0
num (Some x) = suc x

abbrev pub phase_of : Status → ℕ
phase_of free = 0
phase_of (bound f) = 1
phase_of (leaving f) = 2

-- what a line sees: notes and goods, its rows of the tables, and the labels of the router at its end
abbrev pub vw : List Note → List Good → (ℕ → Option ℕ) → (ℕ → ℕ) → (ℕ → Option ℕ) → (ℕ → Status) → (ℕ → ℕ) → View
vw ns gs rm sg du st fc = record {
  notes = ns;
  goods = gs;
  rem = λ f. num (rm f);
  stage = sg;
  due = λ l. num (du l);
  phase = λ l. phase_of (st l);
  holder = λ l. fec_of (st l);
  fec = fc;
}

pub link_same : {ns ns' : List Note} {gs gs' : List Good} {rm rm' : ℕ → Option ℕ} {sg sg' : ℕ → ℕ} {du du' : ℕ → Option ℕ} {st st' : ℕ → Status}
    (fc : ℕ → ℕ) → ns ≡ ns' → gs ≡ gs' → rm ≡ rm' → sg ≡ sg' → du ≡ du' → st ≡ st'
    → Link (vw ns gs rm sg du st fc) → Link (vw ns' gs' rm' sg' du' st' fc)
link_same fc a b c d e f k = transport (λ i. Link (vw (a i) (b i) (c i) (d i) (e i) (f i) fc)) k

-- line e sees the notes on its partner, the goods on it, its rows, and the labels of the router at its end
abbrev pub view : Shape → Tables → (ℕ → List Item) → (ℕ → ℕ) → ℕ → View
view S t q fc e = vw (notes_of (q (partner e))) (goods_of (q e)) (t.remote e) (t.stage e) (t.due e) (t.status (S.line e).to) fc

-- a table like g but for the row of m, which is x
pub record Row {X : Type 0} (g : ℕ → X) (m : ℕ) (x : X) : Type 0 where
  pub table : ℕ → X
  pub here : table m ≡ x
  pub there : (e : ℕ) → (e ≡ m → ⊥) → table e ≡ g e

abbrev pub old_row : {X : Type 0} (g : ℕ → X) (m : ℕ) → Row g m (g m)
old_row g m = record { table = g; here = refl; there = λ _ _. refl }

abbrev pub new_row : {X : Type 0} (g : ℕ → X) (m : ℕ) (x : X) → Row g m x
new_row g m x = record { table = put g m x; here = put_here g m x m refl; there = put_there g m x }
