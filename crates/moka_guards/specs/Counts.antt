-- What a contract sees of published counts.
use Rattle.std.specs.Prelude.{List}
use Rattle.atomic_table.specs.Seated.{TableId}
use Rattle.moka_sync_model.specs.declared.published.Published.{Published}

-- of which counts it is, and what it has seen of them, newest first
pub record CountPass : Type 0 where
  pub counts : TableId
  pub seen : List Published

-- of which counts it is, and what was published, newest first
pub record Publisher : Type 0 where
  pub counts : TableId
  pub published : List Published
