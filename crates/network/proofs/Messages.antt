-- What a message that comes makes of the routers. Assumes nothing.
use Rattle.std.proofs.Common.{◌≡◌, ℕ, Bool, true, false, sym, refl, subst}
use Rattle.plant.specs.Plants.{PlantValue}
use Rattle.lookup.specs.declared.address.Address.{Address}
use Rattle.model.specs.declared.met.Met.TheVariants.{Message, Stray}
use Rattle.model.specs.Tables.{Tables}
use Rattle.model.specs.Calls.{Effect, polled, retabled, else_stray}
use Rattle.tables.specs.Reading.{tables_of}
use Rattle.book.specs.Books.{book_of}
use Rattle.network.specs.declared.routers.Routers.{Routers}
use Rattle.network.specs.Networks.{state_of, Keeps}
use Rattle.network.specs.Dealing.{Took}
use Rattle.network.proofs.Citing.{keeps_all}

module _ (n : Routers) (v : PlantValue) (e : ℕ) (b : Bool) where
  pub took_stray : (k : Effect Address) → b ≡ false → Took n (else_stray b e k (state_of n v)) (polled Stray e) n
  took_stray k q = subst (λ x. Took n (else_stray x e k (state_of n v)) (polled Stray e) n) (sym q)
      (record { answered = refl; tables = refl; book = refl; unsent = refl; unended = refl; keeps = keeps_all n })

  pub took_message : (t : Tables) → b ≡ true → (n' : Routers) → tables_of n'.tables ≡ t → book_of n'.book ≡ book_of n.book → Keeps n n'
      → Took n (else_stray b e (retabled (polled Message e) t (state_of n v)) (state_of n v)) (polled Message e) n'
  took_message t q n' a c k = subst (λ x. Took n (else_stray x e (retabled (polled Message e) t (state_of n v)) (state_of n v)) (polled Message e) n') (sym q)
      (record { answered = refl; tables = a; book = c; unsent = refl; unended = refl; keeps = k })
