-- What the labels of all routers stand for. Assumes nothing.
use Rattle.model.specs.Tables.{Tables, with_labels}
use Rattle.labels.specs.declared.labels.Labels.{Labels}
use Rattle.labels.specs.Pools.{statuses_of}
use Rattle.labels.specs.Stagings.{stages_of}

-- the tables with these statuses and stages
abbrev pub labelled : Labels → Tables → Tables
labelled s t = with_labels (statuses_of s.pool) (stages_of s.stages) t
