-- Binding, withdrawing and freeing labels keeps the tables in step with the frames on their way. Assumes the laws of a plant's lines.
use Rattle.std.proofs.Common.{◌≡◌, ℕ, ◌<◌, ◌≤◌, Bool, true, not, ◌&&◌, eqb, ◌⊎◌, List, Some, None, Option, sym, refl, ap, ◌∙◌, subst, inl, inr, arith}
use Rattle.std.proofs.lemmas.Bool.{cases_eq, cond_both, and_parts}
use Rattle.std.proofs.lemmas.Bool.Decides.{nat_tests}
use Rattle.plant.specs.Plants.{Shape}
use Rattle.model.specs.Tables.{Tables, Status, free, bound, leaving, put, put2, first, fec_of, with_labels, bind, tidy, is_quiet, refresh, grant, let_go, label_of, free_label, may_bind, is_free, is_leaving, is_bound_to, on_lines_into, fall}
use Rattle.model.proofs.Logical.{Item}
use Rattle.model.proofs.Lists.{Put}
use Rattle.model.proofs.Relabels.{relabel}
use Rattle.model.proofs.Firsts.{first_none, label_some, label_none}
use Rattle.model.proofs.Views.{put_here, put_there, put-Put, put2_tells, put2_all, phase_of, link_same}
use Rattle.model.proofs.Wired.{Ranged, Wired}

bound_is : (f : ℕ) (x : Status) → is_bound_to f x ≡ true → x ≡ bound f
bound_is f x e = grind (arith, nat_tests)

free_is : (x : Status) → is_free x ≡ true → x ≡ free
free_is x e = grind arith

-- of the rows of stages, those of the lines into r change, at l by c
into_here : (S : Shape) (r l : ℕ) (c : ℕ → ℕ) (sg : ℕ → ℕ → ℕ) (e : ℕ) → e < S.lines → (S.line e).to ≡ r
    → Put (sg e) (on_lines_into S r l c sg e) l (c (sg e l))
into_here S r l c sg e le t j = grind (arith, nat_tests)

into_there : (S : Shape) (r l : ℕ) (c : ℕ → ℕ) (sg : ℕ → ℕ → ℕ) (e : ℕ) → ((S.line e).to ≡ r → ⊥) → on_lines_into S r l c sg e ≡ sg e
into_there S r l c sg e n = grind (arith, nat_tests)

-- a stage y after stage a, as a label's status goes from z to x: with no mapping told another stage without one, or a told one must
-- be withdrawn
abbrev Turned : ℕ → ℕ → Status → Status → Type 0
Turned a y z x =
    ((a ≤ 1) × (y ≤ 1) × (phase_of x ≤ 2) × (phase_of x ≡ 0 → y ≡ 0) × (phase_of x ≡ 2 → y ≡ 0))
    ⊎ ((a ≡ 2) × (y ≡ 3) × (fec_of x ≡ fec_of z) × (phase_of x ≡ 2))

module _ {S : Shape} {fecs : ℕ} {s : Tables} {q : ℕ → List Item} {fc : ℕ → ℕ} (k : Wired S fecs s q fc) (r l : ℕ) where
  -- label l of r gets status x, and on the lines into r the stages y
  relabelled : (x : Status) (sg : ℕ → ℕ → ℕ) (y : ℕ → ℕ)
      → ((e : ℕ) → e < S.lines → (S.line e).to ≡ r → Put (s.stage e) (sg e) l (y e) × Turned (s.stage e l) (y e) (s.status (S.line e).to l) x)
      → ((e : ℕ) → ((S.line e).to ≡ r → ⊥) → sg e ≡ s.stage e) → Ranged fecs l x
      → ((r' i j f : ℕ) → put2 s.status r l x r' i ≡ bound f → put2 s.status r l x r' j ≡ bound f → i ≡ j)
      → Wired S fecs (with_labels (put2 s.status r l x) sg s) q fc
  relabelled x sg y here there rg one = record {
    links = λ e le. let st = s.status (S.line e).to in elim (cases_eq (S.line e).to r) [
      | inl h ↦
          let c = here e le h in
          link_same fc refl refl refl refl refl
          (ap (λ i. put (s.status i) l x) h ∙ sym (put_here s.status r (put (s.status r) l x) (S.line e).to h))
          (relabel (k.links e le) (put-Put phase_of st l x) (put-Put fec_of st l x) c.0 c.1)
      | inr n ↦
          link_same fc refl refl refl (sym (there e n)) refl (sym (put_there s.status r (put (s.status r) l x) (S.line e).to n))
          (k.links e le)
    ];
    single = one;
    ranged = put2_all (λ _. Ranged fecs) s.status r l x rg k.ranged;
    hops = k.hops;
  }

  -- a label that is not bound now leaves one bound label for a router and FEC
  single_less : (x : Status) → ((f : ℕ) → x ≡ bound f → ⊥) → (r' i j f : ℕ)
      → put2 s.status r l x r' i ≡ bound f → put2 s.status r l x r' j ≡ bound f → i ≡ j
  single_less x n r' i j f e₁ e₂ =
      grind (arith, put2_tells s.status r l x r' i, put2_tells s.status r l x r' j, k.single r' i j f, n f)

  clash : (f j : ℕ) → label_of r f s ≡ None → s.status r j ≡ bound f → ⊥
  clash f j un e =
      let g : Ranged fecs j (bound f) = subst (Ranged fecs j) e (k.ranged r j) in
      let z = label_none (λ i. is_bound_to f (s.status r i)) un j g.1 g.2 in grind (arith, nat_tests, z, e)

  -- a free label is bound
  bind_keeps : (f : ℕ) → s.status r l ≡ free → label_of r f s ≡ None → f < fecs → 16 ≤ l → l < 80 → Wired S fecs (bind S r f l s) q fc
  bind_keeps f fr un rf ra rb =
      relabelled (bound f) (on_lines_into S r l (λ _. 1) s.stage) (λ _. 1)
      (λ e le t. (
        into_here S r l (λ _. 1) s.stage e le t,
        let z : s.stage e l ≡ 0 = ((k.links e le).fit l).1 (ap (λ i. phase_of (s.status i l)) t ∙ ap phase_of fr) in inl (omega arith),
      ))
      (into_there S r l (λ _. 1) s.stage) (rf, ra, rb)
      (λ r' i j g e₁ e₂. grind (
        arith,
        put2_tells s.status r l (bound f) r' i,
        put2_tells s.status r l (bound f) r' j,
        k.single r' i j g,
        clash f i un,
        clash f j un,
      ))

  fall_tells : (x : ℕ) → x ≤ 2 → ((x ≤ 1) × (fall x ≡ 0)) ⊎ ((x ≡ 2) × (fall x ≡ 3))
  fall_tells x u = grind (arith, nat_tests)

  -- a label that is bound is let go of
  leave_keeps : (f : ℕ) → s.status r l ≡ bound f
      → Wired S fecs (with_labels (put2 s.status r l (leaving f)) (on_lines_into S r l fall s.stage) s) q fc
  leave_keeps f bd =
      relabelled (leaving f) (on_lines_into S r l fall s.stage) (λ e. fall (s.stage e l))
      (λ e le t. (
        into_here S r l fall s.stage e le t,
        let st : s.status (S.line e).to l ≡ bound f = ap (λ i. s.status i l) t ∙ bd in
            elim (fall_tells (s.stage e l) (((k.links e le).fit l).2 (ap phase_of st))) [
              | inl c ↦ inl (omega arith)
              | inr c ↦ inr (c.0, c.1, ap fec_of (sym st), refl)
            ],
      ))
      (into_there S r l fall s.stage) (subst (Ranged fecs l) bd (k.ranged r l)) (single_less (leaving f) (λ g e. cc))

  silent_at : is_quiet S r l s ≡ true → (e : ℕ) → e < S.lines → (S.line e).to ≡ r → s.stage e l ≡ 0
  silent_at qu e le t =
      let p : ℕ → Bool = λ i. eqb (S.line i).to r && not (eqb (s.stage i l) 0) in
      let o : first p 0 S.lines ≡ None = grind arith in
      let n = first_none p 0 S.lines o e (omega arith) (omega arith) in grind (arith, nat_tests, n)

  -- a label with no stage left is freed
  free_keeps : is_quiet S r l s ≡ true → Wired S fecs (with_labels (put2 s.status r l free) s.stage s) q fc
  free_keeps qu =
      relabelled free s.stage (λ e. s.stage e l)
      (λ e le t. (
        (λ j. elim (cases_eq j l) [ inl e' ↦ inl (e', ap (s.stage e) e') | inr n ↦ inr (n, refl) ]),
        let z : s.stage e l ≡ 0 = silent_at qu e le t in inl (omega arith),
      ))
      (λ e t. refl) tt (single_less free (λ g e. cc))

  pub tidy_keeps : Wired S fecs (tidy S r l s) q fc
  tidy_keeps = cond_both (is_leaving (s.status r l) && is_quiet S r l s) (with_labels (put2 s.status r l free) s.stage s) s
      (λ x. Wired S fecs x q fc) (λ e. free_keeps (and_parts (is_leaving (s.status r l)) (is_quiet S r l s) e).1) (λ _. k)

module _ {S : Shape} {fecs : ℕ} {s : Tables} {q : ℕ → List Item} {fc : ℕ → ℕ} (k : Wired S fecs s q fc) (r f : ℕ) (rf : f < fecs) where
  grant_keeps : (a : Option ℕ) → label_of r f s ≡ a → (b : Option ℕ) → free_label r s ≡ b → Wired S fecs (grant S r f a b s) q fc
  grant_keeps (Some j) ea b eb = k
  grant_keeps None ea None eb = k
  grant_keeps None ea (Some l) eb =
      let g = label_some (λ j. is_free (s.status r j)) l eb in bind_keeps k r l f (free_is (s.status r l) g.0) ea rf g.1 g.2

  let_go_keeps : (a : Option ℕ) → label_of r f s ≡ a → Wired S fecs (let_go S r f a s) q fc
  let_go_keeps None ea = k
  let_go_keeps (Some l) ea =
      let g = label_some (λ j. is_bound_to f (s.status r j)) l ea in
      tidy_keeps (leave_keeps k r l f (bound_is f (s.status r l) g.0)) r l

  pub refresh_keeps : (independent : Bool) → Wired S fecs (refresh independent S r f s) q fc
  refresh_keeps independent =
      cond_both (may_bind independent r f s) (grant S r f (label_of r f s) (free_label r s) s) (let_go S r f (label_of r f s) s)
      (λ x. Wired S fecs x q fc)
      (λ _. grant_keeps (label_of r f s) refl (free_label r s) refl) (λ _. let_go_keeps (label_of r f s) refl)
