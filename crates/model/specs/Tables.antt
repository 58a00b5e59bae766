-- The routers' tables, and how labels are bound, withdrawn and freed. Assumes nothing.
use Rattle.std.specs.Prelude.{ℕ, zero, suc, Bool, true, false, cond, not, ◌&&◌, ◌||◌, Some, None, Option, ◌==◌, nat_le, nat_lt}
-- there is one
pub use Rattle.std.specs.Option.{is_some}
use Rattle.plant.specs.Plants.{Shape}

-- a label of a router is free, bound to a FEC, or leaving it
pub data Status : Type 0 where
  free : Status
  bound : ℕ → Status
  leaving : ℕ → Status

-- what all routers know
pub record Tables : Type 0 where
  -- router, FEC: the owner mark, and the line of the next hop
  pub owner : ℕ → ℕ → Bool
  pub hop : ℕ → ℕ → Option ℕ
  -- line, FEC: the remote label, which the router at the line's begin has learned
  pub remote : ℕ → ℕ → Option ℕ
  -- router, label: what the label is used for
  pub status : ℕ → ℕ → Status
  -- line into the label's router, label: how far the router where the line begins has been told of the label
  pub stage : ℕ → ℕ → ℕ
  -- line, label: the FEC of the release that is due on the line
  pub due : ℕ → ℕ → Option ℕ

-- the stages of a label on a line: there is nothing to tell
abbrev pub untold : ℕ
untold = 0

-- a mapping is due
abbrev pub mapping_due : ℕ
mapping_due = 1

-- the mapping is told
abbrev pub told : ℕ
told = 2

-- a withdraw is due
abbrev pub withdraw_due : ℕ
withdraw_due = 3

-- the withdraw is told, and the release not yet come
abbrev pub withdrawn : ℕ
withdrawn = 4

-- all is off, none, free or 0
abbrev pub blank : Tables
blank = record { owner = λ _ _. false; hop = λ _ _. None; remote = λ _ _. None; status = λ _ _. free; stage = λ _ _. untold; due = λ _ _. None }

-- a function changed at one place
abbrev pub put : {X : Type 0} → (ℕ → X) → ℕ → X → ℕ → X
put g k x j = cond (j == k) x (g j)

-- a table changed at one place
abbrev pub put2 : {X : Type 0} → (ℕ → ℕ → X) → ℕ → ℕ → X → ℕ → ℕ → X
put2 g i k x = put g i (put (g i) k x)

-- the smallest of the n numbers from a that passes
abbrev pub first : (ℕ → Bool) → ℕ → ℕ → Option ℕ
first p a zero = None
first p a (suc n) = cond (p a) (Some a) (first p (suc a) n)

-- the labels that routers use
abbrev pub is_label : ℕ → Bool
is_label l = nat_le 16 l && nat_lt l 80

-- the smallest label that passes
unfoldable pub first_label : (ℕ → Bool) → Option ℕ
first_label p = first p 16 64

-- other owner marks and next hops
abbrev pub with_routes : (ℕ → ℕ → Bool) → (ℕ → ℕ → Option ℕ) → Tables → Tables
with_routes o h t = record { owner = o; hop = h; remote = t.remote; status = t.status; stage = t.stage; due = t.due }

-- the mark of r and f set
abbrev pub with_owner : ℕ → ℕ → Bool → Tables → Tables
with_owner r f b t = with_routes (put2 t.owner r f b) t.hop t

-- the next hop of r and f set
abbrev pub with_hop : ℕ → ℕ → Option ℕ → Tables → Tables
with_hop r f h t = with_routes t.owner (put2 t.hop r f h) t

-- other labels and stages
abbrev pub with_labels : (ℕ → ℕ → Status) → (ℕ → ℕ → ℕ) → Tables → Tables
with_labels st sg t = record { owner = t.owner; hop = t.hop; remote = t.remote; status = st; stage = sg; due = t.due }

-- other remote labels and due releases
abbrev pub with_remote : (ℕ → ℕ → Option ℕ) → (ℕ → ℕ → Option ℕ) → Tables → Tables
with_remote rm du t = record { owner = t.owner; hop = t.hop; remote = rm; status = t.status; stage = t.stage; due = du }

-- the label may be taken
abbrev pub is_free : Status → Bool
is_free free = true
is_free (bound f) = false
is_free (leaving f) = false

-- the label is bound to f
abbrev pub is_bound_to : ℕ → Status → Bool
is_bound_to f free = false
is_bound_to f (bound g) = g == f
is_bound_to f (leaving g) = false

-- the label is leaving its FEC
abbrev pub is_leaving : Status → Bool
is_leaving free = false
is_leaving (bound f) = false
is_leaving (leaving f) = true

-- the FEC that a label is bound to or leaving
abbrev pub fec_of : Status → ℕ
fec_of free = 0
fec_of (bound f) = f
fec_of (leaving f) = f

-- the number that there is, else 0
abbrev pub the : Option ℕ → ℕ
the None = 0
the (Some x) = x

-- over a next hop, r may bind f if the policy is independent or a remote label for f is known on that line
abbrev pub may_over : Bool → Option ℕ → ℕ → Tables → Bool
may_over independent None f t = false
may_over independent (Some e) f t = independent || is_some (t.remote e f)

-- r may bind f if it owns f, or over its next hop
abbrev pub may_bind : Bool → ℕ → ℕ → Tables → Bool
may_bind independent r f t = t.owner r f || may_over independent (t.hop r f) f t

-- the label of r that is bound to f
abbrev pub label_of : ℕ → ℕ → Tables → Option ℕ
label_of r f t = first_label (λ l. is_bound_to f (t.status r l))

-- the smallest free label of r
abbrev pub free_label : ℕ → Tables → Option ℕ
free_label r t = first_label (λ l. is_free (t.status r l))

-- on each line into r, the stage of l changes by c
abbrev pub on_lines_into : Shape → ℕ → ℕ → (ℕ → ℕ) → (ℕ → ℕ → ℕ) → ℕ → ℕ → ℕ
on_lines_into S r l c sg e = cond (nat_lt e S.lines && (S.line e).to == r) (put (sg e) l (c (sg e l))) (sg e)

-- the free label l of r is bound to f, and a mapping of it falls due on each line into r
abbrev pub bind : Shape → ℕ → ℕ → ℕ → Tables → Tables
bind S r f l t = with_labels (put2 t.status r l (bound f)) (on_lines_into S r l (λ _. mapping_due) t.stage) t

-- on no line into r has l a stage
abbrev pub is_quiet : Shape → ℕ → ℕ → Tables → Bool
is_quiet S r l t = not (is_some (first (λ e. ((S.line e).to == r) && not (t.stage e l == untold)) 0 S.lines))

-- a leaving label without stages becomes free
abbrev pub tidy : Shape → ℕ → ℕ → Tables → Tables
tidy S r l t = cond (is_leaving (t.status r l) && is_quiet S r l t) (with_labels (put2 t.status r l free) t.stage t) t

-- the stage of a label that leaves: what was not yet told need not be, and what was told must be withdrawn
abbrev pub fall : ℕ → ℕ
fall x = cond (x == mapping_due) untold (cond (x == told) withdraw_due x)

-- the label l of r, bound to f, leaves it, and becomes free at once if it has no stages
abbrev pub unbind : Shape → ℕ → ℕ → ℕ → Tables → Tables
unbind S r f l t = tidy S r l (with_labels (put2 t.status r l (leaving f)) (on_lines_into S r l fall t.stage) t)

-- r may bind f: with no bound label and a free one, that is bound
abbrev pub grant : Shape → ℕ → ℕ → Option ℕ → Option ℕ → Tables → Tables
grant S r f (Some k) o t = t
grant S r f None None t = t
grant S r f None (Some l) t = bind S r f l t

-- r may not bind f: a label that is bound leaves
abbrev pub let_go : Shape → ℕ → ℕ → Option ℕ → Tables → Tables
let_go S r f None t = t
let_go S r f (Some l) t = unbind S r f l t

-- r and f are refreshed, under the policy
abbrev pub refresh : Bool → Shape → ℕ → ℕ → Tables → Tables
refresh independent S r f t =
    cond (may_bind independent r f t) (grant S r f (label_of r f t) (free_label r t) t) (let_go S r f (label_of r f t) t)
