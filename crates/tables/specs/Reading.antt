-- What the tables of the program stand for in the model, and how they change. Assumes nothing.
use Rattle.std.specs.Prelude.{◌≡◌, Bool}
use Rattle.plant.specs.Plants.{Shape}
use Rattle.model.specs.Tables as model
use Rattle.labels.specs.Wirings.{Wired}
use Rattle.labels.specs.Reading.{labelled}
use Rattle.tables.specs.declared.tables.Tables.{Tables}
use Rattle.tables.specs.Grids.{owners_of, hops_of, remotes_of, dues_of}

-- all tables but the labels
abbrev pub unlabelled : Tables → model.Tables
unlabelled s = record {
  owner = owners_of s.routes;
  hop = hops_of s.routes;
  remote = remotes_of s.remotes;
  status = λ _ _. model.free;
  stage = λ _ _. model.untold;
  due = dues_of s.releases;
}

-- the model's tables
abbrev pub tables_of : Tables → model.Tables
tables_of s = labelled s.labels (unlabelled s)

-- what stays whatever is done to the tables: the policy, the wiring, and the number of lines that a next hop may be one of
pub record Stays (s s' : Tables) : Type 0 where
  pub policy : s'.independent ≡ s.independent
  pub wiring : s'.labels.wiring ≡ s.labels.wiring
  pub lines : s'.routes.lines ≡ s.routes.lines

-- the tables are changed by g
pub record Turned (s : Tables) (g : model.Tables → model.Tables) (s' : Tables) : Type 0 where
  pub tables : tables_of s' ≡ g (tables_of s)
  pub stays : Stays s s'

-- the same, where the change goes by the policy and the lines of a plant: of any whose lines are those of the wiring
pub record Became (s : Tables) (g : Bool → Shape → model.Tables → model.Tables) (s' : Tables) : Type 0 where
  pub tables : (S : Shape) → Wired s.labels.wiring S → tables_of s' ≡ g s.independent S (tables_of s)
  pub stays : Stays s s'
