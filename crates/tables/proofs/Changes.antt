-- One change of the tables after another. Assumes nothing.
use Rattle.std.proofs.Common.{Bool, sym, ap, ◌∙◌, subst, ap₂}
use Rattle.plant.specs.Plants.{Shape}
use Rattle.model.specs.Tables as model
use Rattle.labels.specs.Wirings.{Wired}
use Rattle.tables.specs.declared.tables.Tables.{Tables}
use Rattle.tables.specs.Reading.{Stays, Turned, Became}

stays_then : {s₀ s₁ s₂ : Tables} → Stays s₀ s₁ → Stays s₁ s₂ → Stays s₀ s₂
stays_then a b = record { policy = b.policy ∙ a.policy; wiring = b.wiring ∙ a.wiring; lines = b.lines ∙ a.lines }

pub turned_then : {s₀ s₁ s₂ : Tables} {g h : model.Tables → model.Tables} → Turned s₀ g s₁ → Turned s₁ h s₂ → Turned s₀ (λ t. h (g t)) s₂
turned_then {h = h} a b = record { tables = b.tables ∙ ap h a.tables; stays = stays_then a.stays b.stays }

pub then_became : {s₀ s₁ s₂ : Tables} {g : model.Tables → model.Tables} {h : Bool → Shape → model.Tables → model.Tables}
    → Turned s₀ g s₁ → Became s₁ h s₂ → Became s₀ (λ i S t. h i S (g t)) s₂
then_became {h = h} a b = record {
  tables = λ S w. b.tables S (subst (λ x. Wired x S) (sym a.stays.wiring) w) ∙ ap₂ (λ i t. h i S t) a.stays.policy a.tables;
  stays = stays_then a.stays b.stays;
}
